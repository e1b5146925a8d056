-- The question who can force the price: barred, or the auction's.
use mathlib.Core.Path.{refl, ap}
use mathlib.Core.Bool.{not}
use Rattle.seats.specs.RightLaws.{no_right, has_right_lem}
use Rattle.hall.proofs.hall_readings.who_can_force.Goals as goal

pub returns-then-not-conducts : goal.returns-then-not-conducts
returns-then-not-conducts c = record { barred = λ _. refl; made = no_right _ c.conducts.ensures (ap not c.if-not-conducts.true) }

pub returns : goal.returns
returns c = record { barred = has_right_lem _ c.conducts.ensures (ap not c.if-not-conducts.false); made = λ _. c.who_can_force.ensures }
