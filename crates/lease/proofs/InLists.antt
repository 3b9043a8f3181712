-- What the lists that a table's words give and take owe their contracts: counts carried pair by pair, and stored.
-- Assumes nothing.
use Prim.Native.Nat.{ℕ, ◌≤◌, ◌<◌, min}
use native.Mathlib.Omega.{arith}
use mathlib.Core.Path.{◌≡◌, refl, sym, ap, subst, ◌∙◌}
use mathlib.Core.Bool.{false}
use mathlib.Core.List.{List, [], ◌∷◌, ◌++◌, map}
use mathlib.Core.Option.{some, none-ne-some, some-injective}
use lib.ListN.{length, take, drop}
use lib.Seq.{length-take-le}
use borrow.Author.Tests.{lt-ltb, le-ltb}
use Rattle.types.specs.Limits.{CARRIED}
use Rattle.types.specs.Keyed.{Entry, entries}
use Rattle.types.specs.Refusal.{refused, done, OutTooShort}
use Rattle.types.specs.Table.{answer}
use Rattle.types.specs.Lists.{counts_in}
use Rattle.types.specs.declared.lent.AttemptCounts.{AttemptCounts}
use Rattle.types.proofs.Cases.{split}
use Rattle.types.proofs.Columns.{length-used}
use Rattle.tables.specs.Carried.{held_in, carried_in, Tidy}
use Rattle.tables.specs.declared.counts.Carried.{Carried}
use Rattle.lease.specs.State.{with_carried}
use Rattle.lease.specs.Helpers.{resumed_with}
use Rattle.lease.specs.Parts.{carrying}
use Rattle.lease.specs.Layout.{WORDS, table_in, view, Fits, Sound}
use Rattle.lease.specs.InWords.{Answers, listed_into}
use Rattle.lease.specs.declared.LeaseTable.{LeaseTable}
use Rattle.lease.proofs.InWords.{fits_kept}
use Rattle.lease.proofs.Returns.{Shows, sound_as}
use Rattle.lease.proofs.Valid.{valid-carried}

-- the counts that are held, where they are not too many
pub held_of : (c : Carried) {l : List (Entry ℕ)} → carried_in c ≡ some l → held_in c ≡ l
held_of c {l} e = split c.full (λ q. absurd (none-ne-some l (rw q at e))) (λ q. some-injective (held_in c) l (rw q at e))

-- ## counts into two columns
keys_of : (ks vs : List ℕ) → length ks ≡ length vs → map (λ (e : Entry ℕ). e.key) (entries ks vs) ≡ ks
keys_of [] vs h = refl
keys_of (k ∷ ks) [] h = absurd (omega arith)
keys_of (k ∷ ks) (v ∷ vs) h = ap (λ (l : List ℕ). k ∷ l) (keys_of ks vs (omega arith))

values_of : (ks vs : List ℕ) → length ks ≡ length vs → map (λ (e : Entry ℕ). e.value) (entries ks vs) ≡ vs
values_of [] [] h = refl
values_of [] (v ∷ vs) h = absurd (omega arith)
values_of (k ∷ ks) [] h = absurd (omega arith)
values_of (k ∷ ks) (v ∷ vs) h = ap (λ (l : List ℕ). v ∷ l) (values_of ks vs (omega arith))

module _ (c : AttemptCounts) (l : List (Entry ℕ)) (e : counts_in c ≡ l) (a : c.len ≤ length c.offsets) (b : c.len ≤ length c.attempts) (ks vs : List ℕ) where
  as_many : length l ≡ c.len
  as_many = ap length (sym e) ∙ length-used 0 c.len c.offsets c.attempts a b

  even : length (take c.len c.offsets) ≡ length (take c.len c.attempts)
  even = length-take-le c.len c.offsets a ∙ sym (length-take-le c.len c.attempts b)

  pub into-short : min (length ks) (length vs) < c.len → answer (refused OutTooShort) (ks, vs) ≡ listed_into l ks vs
  into-short h = rw (lt-ltb (min (length ks) (length vs)) (length l) (omega (arith, as_many)))

  pub into-both : c.len ≤ min (length ks) (length vs) → (ks' vs' : List ℕ) → ks' ≡ take c.len c.offsets ++ drop c.len ks → vs' ≡ take c.len c.attempts ++ drop c.len vs
      → answer (done c.len) (ks', vs') ≡ listed_into l ks vs
  into-both h ks' vs' p q =
      let keys : map (λ (x : Entry ℕ). x.key) l ≡ take c.len c.offsets = ap (map (λ (x : Entry ℕ). x.key)) (sym e) ∙ keys_of (take c.len c.offsets) (take c.len c.attempts) even in
      let values : map (λ (x : Entry ℕ). x.value) l ≡ take c.len c.attempts = ap (map (λ (x : Entry ℕ). x.value)) (sym e) ∙ values_of (take c.len c.offsets) (take c.len c.attempts) even in
      rw (le-ltb (min (length ks) (length vs)) (length l) (omega (arith, as_many)), keys, values, as_many, p, q)

-- ## stored, or refused
module _ {w : List ℕ} (ok : Sound w) (c : Carried) (tidy : Tidy c) where
  pub resume-answers : c.full ≡ false → length c.offsets ≡ CARRIED → length c.counts ≡ CARRIED → (ks vs : List ℕ)
      → take c.len ks ≡ take c.len c.offsets → take c.len vs ≡ take c.len c.counts → (w' : List ℕ) → length w' ≡ WORDS
      → table_in w' ≡ carrying c.len ks vs (table_in w) → Answers (done tt) w w' (resumed_with (view w) (carried_in c))
  resume-answers e a b ks vs p q w' l s =
      let few : length (held_in c) ≤ CARRIED = omega (arith, length-used 0 c.len c.offsets c.counts (omega (arith, tidy.few)) (omega (arith, tidy.few)), tidy.few) in
      let shows : Shows (table_in w') (with_carried (view w) (held_in c)) =
      subst (λ (u : LeaseTable). Shows u (with_carried (view w) (held_in c))) (sym s)
      (record { len = ok.table.len; carried-len = tidy.few; slots = ok.table.slots; is = rw (p, q) }) in
      record {
        is = rw e (ap (answer (done tt)) shows.is);
        sound =
            record {
              long = l;
              table = sound_as shows (valid-carried (view w) (held_in c) ok.table.valid tidy.rising few tidy.counted);
              fits = subst Fits (sym s) (fits_kept ok.fits refl refl refl);
            };
        kept = tt;
      }
