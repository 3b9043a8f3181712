-- What holds of the state before and after every operation. The lengths of arrays are said so that each proof has them at hand.
-- SPEC.md, "Programs".
use Rattle.std.specs.Prelude.{◌≤◌, ◌≡◌, length}
use Rattle.cursor.specs.View as cursors
use Rattle.lease.specs.State as tables
use Rattle.delivery.specs.Config as configs
use Rattle.operations.specs.declared.state.List.{List}
use Rattle.operations.specs.declared.state.Bytes.{Bytes}
use Rattle.operations.specs.declared.state.State.{State}

pub record ListReady (l : List) : Type 0 where
  pub few : l.n ≤ 256
  pub a : length l.a ≡ 256
  pub b : length l.b ≡ 256

pub record BytesReady (b : Bytes) : Type 0 where
  pub few : b.n ≤ 4096
  pub all : length b.all ≡ 4096

pub record Ready (s : State) : Type 0 where
  pub cursor : cursors.Sound s.cursor
  pub table : tables.Sound s.table
  pub config : configs.Sound s.config
  pub list : ListReady s.list
  pub bytes : BytesReady s.bytes
