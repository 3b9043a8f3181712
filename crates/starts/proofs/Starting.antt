-- What a start tests, one refusal after the other, and what the configuration comes to once it is accepted. Assumes nothing.
use Prim.Native.Nat.{ℕ, ◌≤◌, ◌<◌, ◌-◌}
use native.Mathlib.Omega.{arith}
use mathlib.Core.Path.{◌≡◌, refl, sym, ap, subst, ◌∙◌}
use mathlib.Core.Bool.{true, false, not, ◌&&◌}
use mathlib.Core.List.{List, [], ◌∷◌, ◌++◌, append-nil}
use mathlib.Core.Option.{Option, none, some}
use lib.ListN.{length, length-append, length-take, length-replicate}
use lib.Dec.{ltb}
use borrow.Author.Tests.{lt-ltb, le-ltb, eq-eqb, ne_eqb}
use Rattle.types.specs.Limits.{STEPS}
use Rattle.std.specs.Prelude.{Ok, Err}
use Rattle.std.specs.Prelude as std
use Rattle.types.specs.declared.refusals.Refusal as code
use Rattle.types.specs.Refusal.{Refusal, Result, refused, done, UnlimitedDeliverNotAllowed, TooManySteps, ZeroThreshold, BadArea}
use Rattle.types.specs.Table.{Row, ◌⇒◌, first, Passed, checked}
use Rattle.types.proofs.Table.{first_none, passed_none, checked-done, first-met-before, first_none_before}
use Rattle.delivery.specs.Policy.{unlimited}
use Rattle.delivery.specs.declared.DeliveryConfig.{DeliveryConfig}
use Rattle.hours.specs.Hours.{Week, hours_rows}
use Rattle.consumer.specs.State.{bad_area}
use Rattle.consumer.specs.State as state
use Rattle.consumer.specs.Valid.{Fits}
use Rattle.consumer.specs.View.{settings_of, SoundSettings}
use Rattle.consumer.specs.declared.Settings.{Settings}
use Rattle.consumer.specs.declared.Configuration.{Configuration}
use Rattle.consumer.specs.declared.Consumer.{Consumer}
use Rattle.starts.specs.Restart.{start_table, fresh, start}
use Rattle.starts.specs.Starting.{backoffs_of, handed_of, configuration_of, kept_of, start_fault, FreshIs, StartedIs}
use Rattle.starts.proofs.Open.{StartOpen, start_open}
use Rattle.starts.proofs.Valid.{fresh-valid}

module _ (c : state.Configuration) (size : ℕ) where
  pub unlimited-refused : (unlimited c.settings.policy.maxDeliver && not c.settings.policy.allowUnlimited) ≡ true
      → some UnlimitedDeliverNotAllowed ≡ first (start_table c size)
  unlimited-refused t = rw t

  module _ (limited : (unlimited c.settings.policy.maxDeliver && not c.settings.policy.allowUnlimited) ≡ false) where
    pub steps-refused : STEPS < length c.settings.policy.backoff → some TooManySteps ≡ first (start_table c size)
    steps-refused h = rw (limited, lt-ltb STEPS (length c.settings.policy.backoff) h)

    module _ (few : length c.settings.policy.backoff ≤ STEPS) where
      few-test : ltb STEPS (length c.settings.policy.backoff) ≡ false
      few-test = le-ltb STEPS (length c.settings.policy.backoff) few

      pub threshold-refused : c.settings.policy.flush_redeliveries ≡ 0 → some ZeroThreshold ≡ first (start_table c size)
      threshold-refused e = rw (limited, few-test, eq-eqb c.settings.policy.flush_redeliveries 0 e)

      module _ (flushes : c.settings.policy.flush_redeliveries ≡ 0 → ⊥) where
        -- then the hours and the area
        pub goes_on : first (hours_rows c.settings.hours ++ (bad_area size ⇒ BadArea ∷ [])) ≡ first (start_table c size)
        goes_on = rw (limited, few-test, ne_eqb c.settings.policy.flush_redeliveries 0 flushes)

first-refused : (ws : List Row) (r : Refusal) → refused r ≡ checked ws (done (tt {0})) → first ws ≡ some r
first-refused ws r e = go (first ws) refl
  where
    go : (o : Option Refusal) → first ws ≡ o → first ws ≡ some r
    go none q = absurd (let d : ◌≡◌ {A = Result (Unit {0})} (refused r) (done tt) = rw q at e in cc)
    go (some s) q =
        let d : ◌≡◌ {A = Result (Unit {0})} (refused r) (refused s) = rw q at e in
        let t : s ≡ r = cc in
        q ∙ ap some t

module _ (h : Option Week) (size : ℕ) where
  abbrev rows : List Row
  rows = hours_rows h ++ (bad_area size ⇒ BadArea ∷ [])

  pub hours-refused : (r : Refusal) → refused r ≡ checked (hours_rows h) (done (tt {0})) → some r ≡ first rows
  hours-refused r e = sym (first-met-before (hours_rows h) (bad_area size ⇒ BadArea ∷ []) r (first-refused (hours_rows h) r e))

  module _ (e : done (tt {0}) ≡ checked (hours_rows h) (done (tt {0}))) where
    area-tested : first rows ≡ first (bad_area size ⇒ BadArea ∷ [])
    area-tested = first_none_before (hours_rows h) (bad_area size ⇒ BadArea ∷ []) (passed_none (hours_rows h) (checked-done (hours_rows h) tt tt (sym e)).0)

    pub area-refused : bad_area size ≡ true → some BadArea ≡ first rows
    area-refused t = sym (area-tested ∙ rw t)

    pub accepted : bad_area size ≡ false → none ≡ first rows
    accepted t = sym (area-tested ∙ rw t)

-- as many backoffs as the config counts
pub backoffs-count : (c : DeliveryConfig) → length c.backoff_nanos ≡ 16 → length (backoffs_of c) ≡ c.backoff_len
backoffs-count c e = simp (length-append, length-take, length-replicate, e) (omega arith)

-- within the array they are what the config shows
settings-kept : (s : Settings) → s.delivery.backoff_len ≤ 16 → handed_of s ≡ settings_of s
settings-kept s h =
    let none : s.delivery.backoff_len - 16 ≡ 0 = omega arith in
    rw (none, append-nil)

-- ## a start
module _ (s : Configuration) (size : ℕ) (full : length s.settings.delivery.backoff_nanos ≡ 16) (f : Fits (configuration_of s).settings) where
  module _ (p : Passed (start_table (configuration_of s) size)) where
    few-steps : s.settings.delivery.backoff_len ≤ 16
    few-steps = omega (arith, (start_open (configuration_of s) size p).settings.few-steps, backoffs-count s.settings.delivery full)

    pub same-configuration : configuration_of s ≡ kept_of s
    same-configuration = rw (settings-kept s.settings few-steps)

    pub kept_open : StartOpen (kept_of s) size
    kept_open = rw (← same-configuration) (start_open (configuration_of s) size p)

    kept-fits : Fits (kept_of s).settings
    kept-fits = subst Fits (settings-kept s.settings few-steps) f

    pub settings-sound : (d : Settings) → d ≡ s.settings → SoundSettings d
    settings-sound d e = record { delivery = record { few = rw e few-steps } }

  pub started-fresh : (a : std.Result (Unit {0}) code.Refusal) (c : Consumer) → start_fault a ≡ first (start_table (configuration_of s) size) → FreshIs s size c
      → StartedIs s size (start (configuration_of s) size) (record { answer = a; consumer = c })
  unfolding start
  started-fresh a c e i = go a e
    where
      go : (d : std.Result (Unit {0}) code.Refusal) → start_fault d ≡ first (start_table (configuration_of s) size)
          → StartedIs s size (checked (start_table (configuration_of s) size) (done (fresh (configuration_of s) size))) (record { answer = d; consumer = c })
      go (Err r) q = record { is = rw (← q); beside = rw (← q) i.is }
      go (Ok x) q =
          let p = first_none (start_table (configuration_of s) size) (sym q) in
          record {
            is = rw (← q) (ap done (i.is ∙ ap (λ (k : state.Configuration). fresh k size) (sym (same-configuration p))));
            beside =
                rw (← q)
                (record {
                  cursor = i.cursor;
                  table = i.table;
                  settings = settings-sound p c.settings i.settings;
                  valid = rw i.is (fresh-valid (kept_of s) size (kept_open p) (kept-fits p));
                });
          }
