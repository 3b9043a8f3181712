-- Laws of the cursor: which offsets are settled after an ack and after a commit, and that both keep a cursor valid.
-- Assumes nothing.
use Prim.Native.Nat.{ℕ, ◌+◌, ◌≤◌, ◌<◌, min}
use native.Mathlib.Omega.{arith}
use mathlib.Core.Path.{◌≡◌, refl, sym, ap, ◌∙◌}
use mathlib.Core.Bool.{Bool, true, false, ◌&&◌, ◌||◌, and-false, or_assoc, true≢false}
use mathlib.Core.List.{List, [], ◌∷◌}
use lib.Dec.{ltb, leb, eqb}
use lib.ListN.{length}
use borrow.Author.Tests.{ltb-true, ltb-false, leb-true, leb-false, eqb-true, eqb-false, eq-eqb, ne_eqb, lt-ltb, le-ltb, le-leb}
use Rattle.types.specs.Limits.{MAX, RANGES}
use Rattle.types.specs.Refusal.{refused, done, Shed}
use Rattle.types.specs.Table.{Answer, answer}
use Rattle.types.proofs.Cases.{split, neither}
use Rattle.cursor.specs.Ranges.{Above, inside, touches, joined, insert}
use Rattle.cursor.specs.Cursor.{Cursor, cursor, Valid, settled, advanced, recorded, fragments, ackBounded, committed_to, commit_up_to, resume}
use Rattle.cursor.specs.declared.Range.{Range}
use Rattle.cursor.proofs.Ranges.{or_left, below_join, below_next, inside-above, insert_in, insert-above, insert-length, insert-touching}

-- ## what an ack records

-- a range in front that starts elsewhere than at committed is not swallowed; one that starts there is, with what it joins
advanced-other : (n s e : ℕ) (l : List Range) → (s ≡ n → ⊥) → advanced n (joined s e l) ≡ cursor n (joined s e l)
advanced-other n s e [] h = rw (ne_eqb s n h)
advanced-other n s e (r ∷ rs) h = split (eqb r.start e) (λ p. rw (p, ne_eqb s n h)) (λ p. rw (p, ne_eqb s n h))

advanced-same : (n e : ℕ) (l : List Range) → advanced n (joined n e l) ≡ advanced e l
advanced-same n e [] = rw (eq-eqb n n refl)
advanced-same n e (r ∷ rs) = split (eqb r.start e) (λ p. rw (p, eq-eqb n n refl)) (λ p. rw (p, eq-eqb n n refl))

insert-front : (o : ℕ) (l : List Range) → Above o l → insert o l ≡ joined o (o + 1) l
insert-front o [] a = refl
insert-front o (r ∷ rs) a = rw (lt-ltb o r.start a.0)

-- an ack at committed moves it; one above committed goes into the ranges
pub recorded-next : (o : ℕ) (l : List Range) → Above o l → recorded (cursor o l) o ≡ advanced (o + 1) l
recorded-next o l a = rw (insert-front o l a) (advanced-same o (o + 1) l)

pub recorded-ahead : (n o : ℕ) (l : List Range) → n < o → Above n l → recorded (cursor n l) o ≡ cursor n (insert o l)
recorded-ahead n o [] h a = rw (ne_eqb o n (λ z. omega arith))
recorded-ahead n o (r ∷ rs) h a =
    split (ltb o r.start)
    (λ p. rw p (advanced-other n o (o + 1) (r ∷ rs) (λ z. omega arith)))
    (λ p. split (eqb r.end o)
    (λ q. rw (p, q) (advanced-other n r.start (o + 1) rs (λ z. omega arith)))
    (λ q. rw (p, q, ne_eqb r.start n (λ z. omega arith))))

advanced_in : (n lo x : ℕ) (l : List Range) → Above lo l → settled (advanced n l) x ≡ (ltb x n || inside x l)
advanced_in n lo x [] a = refl
advanced_in n lo x (r ∷ rs) a =
    split (eqb r.start n)
    (λ p. let e = eqb-true r.start n p in
    rw p (ap (λ (b : Bool). b || inside x rs) (below_join n r.end x (omega arith))
    ∙ rw e (or_assoc (ltb x n) (leb n x && ltb x r.end) (inside x rs))))
    (λ p. rw p)

-- a cursor that advances is in order
advanced-above : (n : ℕ) (l : List Range) → n < MAX → Above n l → ((advanced (n + 1) l).committed ≤ MAX) × Above (advanced (n + 1) l).committed (advanced (n + 1) l).ahead
advanced-above n [] m a = (omega arith, tt)
advanced-above n (r ∷ rs) m a =
    split (eqb r.start (n + 1))
    (λ p. rw p (a.2, a.3))
    (λ p. rw p (omega arith, (omega (arith, eqb-false r.start (n + 1) p), a.1, a.2, a.3)))

advanced-length : (n : ℕ) (l : List Range) → length (advanced n l).ahead ≤ length l
advanced-length n [] = omega arith
advanced-length n (r ∷ rs) = split (eqb r.start n) (λ p. rw p (omega arith)) (λ p. rw p (omega arith))

module _ (c : Cursor) (o : ℕ) (v : Valid c) (u : settled c o ≡ false) where
  out : inside o c.ahead ≡ false
  out = (neither (ltb o c.committed) (inside o c.ahead) u).1

  by_place : {P : Type 0} → (o ≡ c.committed → P) → (c.committed < o → P) → P
  by_place next ahead =
      let h = ltb-false o c.committed (neither (ltb o c.committed) (inside o c.ahead) u).0 in
      split (eqb o c.committed)
      (λ p. next (eqb-true o c.committed p))
      (λ p. ahead (omega (arith, eqb-false o c.committed p)))

  pub recorded-settled : (x : ℕ) → settled (recorded c o) x ≡ (eqb x o || settled c x)
  recorded-settled x = by_place
      (λ e. rw (e, recorded-next c.committed c.ahead v.above, advanced_in (c.committed + 1) c.committed x c.ahead v.above, below_next c.committed x)
      (or_assoc (eqb x c.committed) (ltb x c.committed) (inside x c.ahead)))
      (λ h. rw (recorded-ahead c.committed o c.ahead h v.above, insert_in o x c.committed c.ahead v.above out)
      (or_left (ltb x c.committed) (eqb x o) (inside x c.ahead)))

  -- an ack that is not shed leaves room: it touches a range, or the ranges are fewer than the limit
  insert-few : (limit : ℕ) → c.committed < o → fragments c o limit ≡ false → length (insert o c.ahead) ≤ RANGES
  insert-few limit h f = split (leb (min limit RANGES) (length c.ahead))
      (λ p. split (touches o c.ahead)
      (λ t. omega (arith, v.few, insert-touching o c.committed c.ahead v.above t))
      (λ t. absurd (true≢false (rw (p, t, ne_eqb c.committed o (λ z. omega arith)) at f))))
      (λ p. omega (arith, leb-false (min limit RANGES) (length c.ahead) p, insert-length o c.ahead))

  pub recorded-valid : (limit : ℕ) → o < MAX → fragments c o limit ≡ false → Valid (recorded c o)
  recorded-valid limit m f = by_place
      (λ e. let h = advanced-above c.committed c.ahead (omega arith) v.above in
      let k = advanced-length (c.committed + 1) c.ahead in
      rw (e, recorded-next c.committed c.ahead v.above) (record { fits = h.0; above = h.1; few = omega (arith, v.few) }))
      (λ h. rw (recorded-ahead c.committed o c.ahead h v.above)
      (record { fits = v.fits; above = insert-above o c.committed c.ahead h m out v.above; few = insert-few limit h f }))

-- ## what an ack answers

-- every answer of an ack
pub ack_cases : (c : Cursor) (o limit : ℕ) (P : Answer Bool Cursor → Type 0)
    → ((settled c o || eqb o MAX) ≡ true → P (answer (done false) c))
    → (settled c o ≡ false → (o ≡ MAX → ⊥) → fragments c o limit ≡ true → P (answer (refused Shed) c))
    → (settled c o ≡ false → (o ≡ MAX → ⊥) → fragments c o limit ≡ false → P (answer (done true) (recorded c o)))
    → P (ackBounded c o limit)
unfolding ackBounded
ack_cases c o limit P duplicate shed new =
    split (settled c o || eqb o MAX)
    (λ p. rw p (duplicate p))
    (λ p. let q = neither (settled c o) (eqb o MAX) p in
    split (fragments c o limit)
    (λ f. rw (p, f) (shed q.0 (eqb-false o MAX q.1) f))
    (λ f. rw (p, f) (new q.0 (eqb-false o MAX q.1) f)))

no : {A : Type 0} → ◌≡◌ {A = ℕ} 0 1 → A
no e = absurd (omega arith)

module _ (c : Cursor) (o limit : ℕ) where
  -- what is not recorded changes nothing
  pub kept-unless-recorded : ((ackBounded c o limit).outcome ≡ done true → ⊥) → (ackBounded c o limit).state ≡ c
  kept-unless-recorded =
      ack_cases c o limit (λ (a : Answer Bool Cursor). (a.outcome ≡ done true → ⊥) → a.state ≡ c)
      (λ p n. refl) (λ p q f n. refl) (λ p q f n. absurd (n refl))

  pub settled-after-duplicate : (ackBounded c o limit).outcome ≡ done false → (x : ℕ) → settled (ackBounded c o limit).state x ≡ settled c x
  settled-after-duplicate e x = rw (kept-unless-recorded (λ d. no (cc)))

  pub settled-after-shed : (ackBounded c o limit).outcome ≡ refused Shed → (x : ℕ) → settled (ackBounded c o limit).state x ≡ settled c x
  settled-after-shed e x = rw (kept-unless-recorded (λ d. no (cc)))

  module _ (v : Valid c) where
    pub settled-after-recorded : (ackBounded c o limit).outcome ≡ done true → (x : ℕ) → settled (ackBounded c o limit).state x ≡ (eqb x o || settled c x)
    settled-after-recorded =
        ack_cases c o limit (λ (a : Answer Bool Cursor). a.outcome ≡ done true → (x : ℕ) → settled a.state x ≡ (eqb x o || settled c x))
        (λ p e. no (cc)) (λ p q f e. no (cc)) (λ p q f e x. recorded-settled c o v p x)

    pub ack-valid : o ≤ MAX → Valid (ackBounded c o limit).state
    ack-valid m =
        ack_cases c o limit (λ (a : Answer Bool Cursor). Valid a.state)
        (λ p. v) (λ p q f. v) (λ p q f. recorded-valid c o v p limit (omega (arith, q)) f)

pub resume-valid : (n : ℕ) → n ≤ MAX → Valid (resume n)
resume-valid n h = record { fits = h; above = tt; few = omega arith }

-- the last offset of all is never settled
inside_max : (lo : ℕ) (l : List Range) → Above lo l → inside MAX l ≡ false
inside_max lo [] a = refl
inside_max lo (r ∷ rs) a = rw (le-ltb MAX r.end a.2, and-false (leb r.start MAX)) (inside_max r.end rs a.3)

pub max_unsettled : (c : Cursor) → Valid c → settled c MAX ≡ false
max_unsettled c v = rw (le-ltb MAX c.committed v.fits) (inside_max c.committed c.ahead v.above)

-- an ack at committed is recorded whatever the limit is
pub next-is-recorded : (c : Cursor) (limit : ℕ) → Valid c → c.committed < MAX → (ackBounded c c.committed limit).outcome ≡ done true
next-is-recorded c limit v m =
    ack_cases c c.committed limit (λ (a : Answer Bool Cursor). a.outcome ≡ done true)
    (λ p. absurd (true≢false (sym p ∙ rw (le-ltb c.committed c.committed (omega arith), inside-above c.committed c.committed c.ahead v.above (omega arith)) (ne_eqb c.committed MAX (λ z. omega arith)))))
    (λ p q f. absurd (true≢false (sym f ∙ rw (eq-eqb c.committed c.committed refl) (and-false (leb (min limit RANGES) (length c.ahead))))))
    (λ p q f. refl)

-- ## what a commit answers

committed_in : (lo b x : ℕ) (l : List Range) → Above lo l → settled (committed_to b l) x ≡ (ltb x b || inside x l)
committed_in lo b x [] a = refl
committed_in lo b x (r ∷ rs) a =
    split (leb r.end b)
    (λ p. let e = leb-true r.end b p in
    rw p (committed_in r.end b x rs a.3 ∙ split (ltb x b)
    (λ t. rw t)
    (λ t. rw (t, le-ltb x r.end (omega (arith, ltb-false x b t)), and-false (leb r.start x)))))
    (λ p. let e = leb-false r.end b p in
    split (leb r.start b)
    (λ q. rw (p, q) (split (ltb x b)
    (λ t. rw (t, lt-ltb x r.end (omega (arith, ltb-true x b t))))
    (λ t. rw (t, le-leb r.start x (omega (arith, leb-true r.start b q, ltb-false x b t))))))
    (λ q. rw (p, q)))

committed-valid : (lo b : ℕ) (l : List Range) → Above lo l → b ≤ MAX → length l ≤ RANGES → Valid (committed_to b l)
committed-valid lo b [] a m f = record { fits = m; above = tt; few = f }
committed-valid lo b (r ∷ rs) a m f =
    split (leb r.end b)
    (λ p. rw p (committed-valid r.end b rs a.3 m (omega arith)))
    (λ p. split (leb r.start b)
    (λ q. rw (p, q) (record { fits = a.2; above = a.3; few = omega arith }))
    (λ q. rw (p, q) (record { fits = m; above = (leb-false r.start b q, a.1, a.2, a.3); few = f })))

module _ (c : Cursor) (b : ℕ) (v : Valid c) where
  -- below the bound, or settled before: whether or not committed moved
  pub settled-after-commit : (x : ℕ) → settled (commit_up_to c b).state x ≡ (ltb x b || settled c x)
  unfolding commit_up_to
  settled-after-commit x =
      split (leb b c.committed)
      (λ p. rw p (split (ltb x b)
      (λ t. rw (t, lt-ltb x c.committed (omega (arith, ltb-true x b t, leb-true b c.committed p))))
      (λ t. rw t)))
      (λ p. rw (p, committed_in c.committed b x c.ahead v.above) (split (ltb x b)
      (λ t. rw t)
      (λ t. rw (t, le-ltb x c.committed (omega (arith, ltb-false x b t, leb-false b c.committed p))))))

  pub commit-valid : b ≤ MAX → Valid (commit_up_to c b).state
  unfolding commit_up_to
  commit-valid m =
      split (leb b c.committed)
      (λ p. rw p v)
      (λ p. rw p (committed-valid c.committed b c.ahead v.above m v.few))
