-- Below the digits c - 48 is 0; from them on 16 divides 48 and 64, so that c counts from 0, and a letter from 9 more.
use Prim.Native.Nat.{ℕ, ◌+◌, ◌*◌, ◌%◌, ◌≤◌, ◌<◌}
use mathlib.Core.Path.{◌≡◌, refl}
use mathlib.Core.Bool.{Bool, true, false}
use Rattle.std.proofs.Common.{arith}
use borrow.Author.Tests.{le-leb, lt-leb, ltb-true, ltb-false}
use lib.Dec.{ltb}
use mir.Val.{bool_byte}
use Rattle.rules_format.specs.Hex.{value_of}
use Rattle.frame_bytes.proofs.field_reading.value_of.Goals as goal

bit_small : (b : Bool) → bool_byte b ≤ 1
bit_small true = omega arith
bit_small false = omega arith

by_letter : (c : ℕ) → 48 ≤ c → (c + 9 * bool_byte (ltb 57 c)) % 16 ≡ value_of c
unfolding value_of
by_letter c h = go (ltb 57 c) refl
  where
    go : (b : Bool) → ltb 57 c ≡ b → (c + 9 * bool_byte b) % 16 ≡ value_of c
    go true e = let g : 57 < c = ltb-true 57 c e in rw (lt-leb c 57 g) (omega arith)
    go false e = let g : c ≤ 57 = ltb-false 57 c e in rw (le-leb c 57 g) (omega arith)

pub returns-then-c-lt48 : goal.returns-then-c-lt48
unfolding value_of
returns-then-c-lt48 c =
    let h : c.args.c ≤ 57 = omega arith in
    simp (le-leb _ _ h) (omega arith)

pub returns : goal.returns
returns c = rw (c.from.ensures, c.from-letter.ensures) (by_letter c.args.c c.if-c-lt48.false)
