-- The loop keeps that the digits left, read on behind the number so far, make the number; no number on the way is larger.
use Prim.Native.Nat.{ℕ, ◌+◌, ◌*◌, ◌^◌, ◌<◌}
use mathlib.Core.Path.{◌≡◌, ap, sym, ◌∙◌}
use Rattle.std.proofs.Common.{arith}
use lib.ListN.{drop, get_or, drop_of_length-le}
use Rattle.rules_format.specs.Hex.{hex_number, number_from, value_of}
use Rattle.rules_format.specs.HexLaws.{number_step, number_from_le, number_fits}
use Rattle.frame_bytes.proofs.field_reading.number_of.Goals as goal
use Rattle.frame_bytes.proofs.field_reading.number_of.Goals.{In-loop-c}

-- the number after this turn: the digits left make the number with it, and it fits
turn :
    (c : In-loop-c) →
    let s = c.args.digits.now in
    let i = c.loop-c.c-index in
    let m = c.loop-c.n * 16 + value_of (get_or s i 0) in
    (number_from m (drop (i + 1) s) ≡ hex_number s) × (m < 2 ^ 64)
turn c =
    let s = c.args.digits.now in
    let l = c.loop-c in
    let m : ℕ = l.n * 16 + value_of (get_or s l.c-index 0) in
    let e : number_from m (drop (l.c-index + 1) s) ≡ hex_number s = sym (number_step s l.c-index l.n c.loop-c-test.true) ∙ l.invariant in
    let f : hex_number s < 2 ^ 64 = number_fits 16 s c.requires in
    (e, omega (arith, e, f, number_from_le (drop (l.c-index + 1) s) m))

pub overflow_mul-n : goal.overflow_mul-n
overflow_mul-n c = omega (arith, (turn (goal.at.overflow_mul-n c).In-loop-c).1)

pub overflow_add-n : goal.overflow_add-n
overflow_add-n c = omega (arith, (turn (goal.at.overflow_add-n c).In-loop-c).1, c.value_of.ensures)

pub loop-c-preserved : goal.loop-c-preserved
loop-c-preserved c = rw c.value_of.ensures (turn (goal.at.loop-c-preserved c).In-loop-c).0

pub returns : goal.returns
unfolding number_from
returns c =
    let l = c.loop-c in
    ap (number_from l.n) (sym (drop_of_length-le c.args.digits.now c.loop-c-test.false)) ∙ l.invariant
