-- Settling: barred, with the buffer as it was, or the auction's.
use mathlib.Core.Path.{refl, ap}
use mathlib.Core.Bool.{not}
use Rattle.seats.specs.RightLaws.{no_right, has_right_lem}
use Rattle.hall.proofs.hall_readings.settle.Goals as goal

pub returns-then-not-settles : goal.returns-then-not-settles
returns-then-not-settles c = record {
  barred = λ _. (refl, refl);
  made = no_right _ c.settles.ensures (ap not c.if-not-settles.true);
}

pub returns : goal.returns
returns c =
    record { barred = has_right_lem _ c.settles.ensures (ap not c.if-not-settles.false); made = λ _. c.settle.ensures }
