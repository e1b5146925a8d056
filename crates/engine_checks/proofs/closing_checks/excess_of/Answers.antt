-- Supply less demand, both below 2^62, signed.
use mir.Facts.{to_z-of_z}
use Rattle.engine_checks.specs.closing_checks.Signed.{difference, difference_fits}
use Rattle.engine_checks.proofs.closing_checks.excess_of.Goals as goal

pub overflow_sub-result : goal.overflow_sub-result
overflow_sub-result c =
    rw (difference c.args.supply c.args.demand c.requires.0 c.requires.1) (difference_fits c.args.supply c.args.demand c.requires.0 c.requires.1)

pub returns : goal.returns
returns c =
    rw (difference c.args.supply c.args.demand c.requires.0 c.requires.1)
    (to_z-of_z (difference_fits c.args.supply c.args.demand c.requires.0 c.requires.1))
