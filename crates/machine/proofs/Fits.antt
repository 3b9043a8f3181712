-- The numbers of a call are u64, since its code's types say so. Assumes nothing.
use Prim.Native.Nat.{ℕ, ◌<◌, ◌^◌}
use native.Mathlib.Omega.{arith}
use mathlib.Core.Path.{◌≡◌, refl}
use mathlib.Core.Bool.{true, ◌&&◌}
use mathlib.Core.List.{List}
use mir.Val.{Val}
use denote.Builtin.{u64 as u64_row}
use denote.Laws.{Is}
use denote.Enum.Laws as enums
use denote.Struct.Laws as structs
use borrow.Author.Tests.{le-leb}
use Rattle.types.specs.Limits.{MAX}
use Rattle.types.specs.declared.Offset.{Offset}
use Rattle.types.specs.contracts.Offset as offset
use Rattle.types.proofs.Offset.TheLaws as offset-laws
use Rattle.types.specs.declared.Generation.{Generation}
use Rattle.types.specs.contracts.Generation as generation
use Rattle.types.proofs.Generation.TheLaws as generation-laws
use Rattle.std.specs.Prelude.{Option, Some, None}
use Rattle.std.specs.contracts.option.Option as option
use Rattle.delivery.specs.Config.{delay_of}
use Rattle.lease.specs.declared.LeaseToken.{LeaseToken}
use Rattle.lease.specs.contracts.LeaseToken as token
use Rattle.lease.proofs.LeaseToken.TheLaws as token-laws
use Rattle.machine.specs.Calls.{u64, question_fits, delay_fits, fits}
use Rattle.machine.specs.Answers.{question_of, ask_of}
use Rattle.machine.specs.declared.calls.Question.{Question}
use Rattle.machine.specs.declared.calls.Question.TheVariants as questions
use Rattle.machine.specs.declared.calls.Ask.{Ask}
use Rattle.machine.specs.declared.calls.Ask.TheVariants as asks
use Rattle.machine.specs.contracts.calls.Question as question
use Rattle.machine.proofs.calls.Question.TheLaws as question-laws
use Rattle.machine.specs.contracts.calls.Ask as ask
use Rattle.machine.proofs.calls.Ask.TheLaws as ask-laws

pub number_fits : (n : ℕ) → n < 2 ^ 64 → u64 n ≡ true
number_fits n h = le-leb n MAX (omega arith)

offset-fits : (o : Offset) (vs : List Val) → Is offset.the_row o vs → u64 o.0 ≡ true
offset-fits o vs p = number_fits o.0 (structs.owed offset.the_type offset-laws.the_laws o vs p).0.1

generation-fits : (g : Generation) (vs : List Val) → Is generation.the_row g vs → u64 g.0 ≡ true
generation-fits g vs p = number_fits g.0 (structs.owed generation.the_type generation-laws.the_laws g vs p).0.1

token-fits : (t : LeaseToken) (vs : List Val) → Is token.the_row t vs → (u64 t.offset.0 && u64 t.generation.0) ≡ true
token-fits t vs p =
    let h = structs.owed token.the_type token-laws.the_laws t vs p in
    rw (offset-fits t.offset _ h.0, generation-fits t.generation _ h.1.0)

delay-fits : (d : Option ℕ) (vs : List Val) → Is (option.the_row u64_row) d vs → delay_fits (delay_of d) ≡ true
delay-fits (Some n) vs p = number_fits n p.1.1.1.1.0.1
delay-fits None vs p = refl

question-fits : (room : ℕ) (q : Question) (vs : List Val) → Is question.the_row q vs → question_fits (question_of room q) ≡ true
question-fits room (questions.Waiting now) vs p =
    number_fits now (enums.owed question.the_type question-laws.the_laws (questions.Waiting now) vs p).0.1
question-fits room questions.Committed vs p = refl
question-fits room (questions.IsSettled o) vs p =
    offset-fits o _ (enums.owed question.the_type question-laws.the_laws (questions.IsSettled o) vs p).0
question-fits room (questions.LeaseOf o) vs p =
    offset-fits o _ (enums.owed question.the_type question-laws.the_laws (questions.LeaseOf o) vs p).0
question-fits room (questions.CountOf o) vs p =
    offset-fits o _ (enums.owed question.the_type question-laws.the_laws (questions.CountOf o) vs p).0
question-fits room questions.InFlight vs p = refl
question-fits room questions.IsDue vs p = refl
question-fits room questions.BlocksLeft vs p = refl
question-fits room (questions.ViewOf o now) vs p =
    let h = enums.owed question.the_type question-laws.the_laws (questions.ViewOf o now) vs p in
    rw (offset-fits o _ h.0, number_fits now h.1.0.1)
question-fits room (questions.OpenBetween a b) vs p =
    let h = enums.owed question.the_type question-laws.the_laws (questions.OpenBetween a b) vs p in
    rw (number_fits a h.0.1, number_fits b h.1.0.1)
question-fits room (questions.NearestOpen o) vs p =
    offset-fits o _ (enums.owed question.the_type question-laws.the_laws (questions.NearestOpen o) vs p).0

pub ask-fits : (room : ℕ) (q : Ask) (vs : List Val) → Is ask.the_row q vs → fits (ask_of room q) ≡ true
ask-fits room (asks.Claim o now) vs p =
    let h = enums.owed ask.the_type ask-laws.the_laws (asks.Claim o now) vs p in
    rw (offset-fits o _ h.0, number_fits now h.1.0.1)
ask-fits room (asks.Ack t) vs p = token-fits t _ (enums.owed ask.the_type ask-laws.the_laws (asks.Ack t) vs p).0
ask-fits room (asks.Term t) vs p = token-fits t _ (enums.owed ask.the_type ask-laws.the_laws (asks.Term t) vs p).0
ask-fits room (asks.Nack t now d) vs p =
    let h = enums.owed ask.the_type ask-laws.the_laws (asks.Nack t now d) vs p in
    rw (token-fits t _ h.0, number_fits now h.1.0.1, delay-fits d _ h.1.1.0)
ask-fits room (asks.Progress t now) vs p =
    let h = enums.owed ask.the_type ask-laws.the_laws (asks.Progress t now) vs p in
    rw (token-fits t _ h.0, number_fits now h.1.0.1)
ask-fits room (asks.Commit bound) vs p = offset-fits bound _ (enums.owed ask.the_type ask-laws.the_laws (asks.Commit bound) vs p).0
ask-fits room (asks.Look q) vs p = question-fits room q _ (enums.owed ask.the_type ask-laws.the_laws (asks.Look q) vs p).0
