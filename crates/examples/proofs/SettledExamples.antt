-- The fourteen settled examples hold; the number of each refusal follows from its example. Assumes nothing.
use Prim.Native.Nat.{ℕ}
use mathlib.Core.Path.{ap}
use mathlib.Core.List.{List, map}
use Rattle.cursor.specs.Examples as cursors
use Rattle.delivery.specs.Examples as delivery
use Rattle.attempt.specs.Examples as attempts
use Rattle.lease.specs.Examples as leases
use Rattle.examples.specs.Consumer as consumers
use Rattle.examples.proofs.Consumer as called
use Rattle.examples.specs.SettledExamples.{code_in, Eleven, Twelve, SettledExamples}

code_11 : (rest : List ℕ) → Eleven rest
code_11 rest =
    let e = cursors.example_11 rest in
    record { is = e; length_30 = λ l. ap code_in (e.length_30 l); length_29 = λ l. ap code_in (e.length_29 l) }

code_12 : (a b c d e f g h i : ℕ) → Twelve a b c d e f g h i
code_12 a b c d e f g h i =
    let x = attempts.example_12 a b c d e f g h i in
    record { is = x; version_3 = ap code_in x.version_3; version_1 = ap code_in x.version_1 }

pub settled_examples : SettledExamples
settled_examples =
    record {
      one = cursors.example_1;
      two = cursors.example_2;
      three = record { is = cursors.example_3; sheds = ap (λ a. code_in a.outcome) (cursors.example_3).one };
      four = cursors.example_4;
      five = record {
        is = cursors.example_5;
        touching = ap code_in (cursors.example_5).touching;
        empty = ap code_in (cursors.example_5).empty;
      };
      six = cursors.example_6;
      seven = record { is = leases.example_7; at_109 = ap code_in (leases.example_7).at_109 };
      eight = record {
        is = leases.example_8;
        at_125 = ap code_in (leases.example_8).at_125;
        after_120 = ap code_in (leases.example_8).after_120;
      };
      nine = delivery.example_9;
      ten = delivery.example_10;
      eleven = code_11;
      twelve = code_12;
      thirteen = record {
        is = called.example_13;
        started = ap (map code_in) (called.example_13).started;
        always = λ c size w now p h. ap code_in ((called.example_13).always c size w now p h);
      };
      fourteen = record { is = consumers.example_14; answers = ap (map code_in) (consumers.example_14).answered };
    }
