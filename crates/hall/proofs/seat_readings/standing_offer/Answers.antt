-- `standing_offer` copies the steps behind the withdrawals; where there is room for all it never returns early.
use mathlib.Core.Path.{refl}
use Rattle.std.proofs.Common.{arith}
use Rattle.hall.proofs.seat_readings.Standing.{copied}
use Rattle.hall.proofs.seat_readings.standing_offer.Goals as goal

pub returns : goal.returns
returns c = copied _ _ _ _ _ (omega arith) refl (omega arith) c.copy_from_slice.ensures.after c.copy_from_slice-2.ensures.after
