-- Behind a seat that is named there are its four digits.
use Prim.Native.Nat.{ℕ, ◌-◌}
use mathlib.Core.Path.{◌≡◌, sym, ◌∙◌}
use mathlib.Core.Bool.{true}
use mathlib.Core.List.{List}
use Rattle.std.proofs.Common.{arith}
use lib.ListN.{length, drop, length-drop}
use lib.Seq.{take_all}
use Rattle.rules_format.specs.SessionLines.{names_seat}
use Rattle.seats.specs.session_lines.FrameParts.{frame_behind}
use Rattle.seats.specs.session_lines.FramePartLaws.{seat_fits}
use Rattle.seats.proofs.session_lines.frame_part.Goals as goal
use Rattle.seats.proofs.session_lines.frame_part.Goals.{Then-begins_with_seat}

pub returns-else-begins_with_seat : goal.returns-else-begins_with_seat
unfolding frame_behind
returns-else-begins_with_seat c =
    let seat = c.begins_with_seat in
    rw (sym seat.ensures ∙ c.if-begins_with_seat.false)

named : (c : Then-begins_with_seat) → names_seat c.args.line.now ≡ true
named c = let seat = c.begins_with_seat in sym seat.ensures ∙ c.if-begins_with_seat.true

pub slice_bounds-result-count : goal.slice_bounds-result-count
slice_bounds-result-count c = seat_fits _ (named c)

pub slice_bounds-result-start : goal.slice_bounds-result-start
slice_bounds-result-start c = omega (arith, seat_fits _ (named c))

pub returns-then-begins_with_seat : goal.returns-then-begins_with_seat
unfolding frame_behind
returns-then-begins_with_seat c =
    let l : List ℕ = c.args.line.now in
    rw (named (goal.at.returns-then-begins_with_seat c).Then-begins_with_seat) (take_all (length l - 4) (drop 4 l) (omega (arith, length-drop 4 l)))
