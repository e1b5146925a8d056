-- What the seat reads of the auction and the excess in the hall.
use mir.Facts.{to_z-of_z}
use mir.Syntax.{w64}
use mir.Val.{SFits}
use Rattle.std.proofs.Common.{rules}
use Rattle.hall.proofs.hall_readings.read.Goals as goal

pub returns : goal.returns
returns c =
    let fits : SFits w64 c.args.hall.excess = search rules in
    rw (to_z-of_z fits) at c.read_from.ensures
