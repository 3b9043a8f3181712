-- `crc::short::in_byte` meets its contract: each arm's two numbers are computed by the rule. Assumes nothing.
use mathlib.Core.Path.{refl}
use mathlib.Core.Bool.{xor}
use Rattle.crc.specs.Crc32c.{bits, unbits, polynomial}
use Rattle.crc.specs.Table.{nibble}
use Rattle.crc.proofs.short.in_byte.Goals as goal

pub returns-in-0 : goal.returns-in-0
unfolding nibble bits unbits polynomial xor
returns-in-0 c = rw c.in-0.is (refl, refl)

pub returns-in-1 : goal.returns-in-1
unfolding nibble bits unbits polynomial xor
returns-in-1 c = rw c.in-1.is (refl, refl)

pub returns-in-2 : goal.returns-in-2
unfolding nibble bits unbits polynomial xor
returns-in-2 c = rw c.in-2.is (refl, refl)

pub returns-in-3 : goal.returns-in-3
unfolding nibble bits unbits polynomial xor
returns-in-3 c = rw c.in-3.is (refl, refl)

pub returns-in-4 : goal.returns-in-4
unfolding nibble bits unbits polynomial xor
returns-in-4 c = rw c.in-4.is (refl, refl)

pub returns-in-5 : goal.returns-in-5
unfolding nibble bits unbits polynomial xor
returns-in-5 c = rw c.in-5.is (refl, refl)

pub returns-in-6 : goal.returns-in-6
unfolding nibble bits unbits polynomial xor
returns-in-6 c = rw c.in-6.is (refl, refl)

pub returns-in-7 : goal.returns-in-7
unfolding nibble bits unbits polynomial xor
returns-in-7 c = rw c.in-7.is (refl, refl)

pub returns-in-8 : goal.returns-in-8
unfolding nibble bits unbits polynomial xor
returns-in-8 c = rw c.in-8.is (refl, refl)

pub returns-in-9 : goal.returns-in-9
unfolding nibble bits unbits polynomial xor
returns-in-9 c = rw c.in-9.is (refl, refl)

pub returns-in-10 : goal.returns-in-10
unfolding nibble bits unbits polynomial xor
returns-in-10 c = rw c.in-10.is (refl, refl)

pub returns-in-11 : goal.returns-in-11
unfolding nibble bits unbits polynomial xor
returns-in-11 c = rw c.in-11.is (refl, refl)

pub returns-in-12 : goal.returns-in-12
unfolding nibble bits unbits polynomial xor
returns-in-12 c = rw c.in-12.is (refl, refl)

pub returns-in-13 : goal.returns-in-13
unfolding nibble bits unbits polynomial xor
returns-in-13 c = rw c.in-13.is (refl, refl)

pub returns-in-14 : goal.returns-in-14
unfolding nibble bits unbits polynomial xor
returns-in-14 c = rw c.in-14.is (refl, refl)

pub returns-in-15 : goal.returns-in-15
unfolding nibble bits unbits polynomial xor
returns-in-15 c = rw c.in-15.is (refl, refl)
