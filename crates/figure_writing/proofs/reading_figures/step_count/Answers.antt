-- No offer has no steps; the lists of one that stands are long enough.
use mathlib.Core.Path.{◌≡◌, refl}
use lib.ListN.{length}
use Rattle.std.proofs.Common.{arith}
use Rattle.figure_writing.specs.reading_figures.ReadLaws.{offer_length, no_offer_length}
use Rattle.figure_writing.proofs.reading_figures.step_count.Goals as goal

pub returns-in-None : goal.returns-in-None
returns-in-None c = rw c.in-None.is (refl, omega arith, no_offer_length)

pub returns-in-Some : goal.returns-in-Some
returns-in-Some c =
    let p : length c.in-Some.offer.prices ≡ 8 = omega arith in
    let q : length c.in-Some.offer.levels ≡ 8 = omega arith in
    rw c.in-Some.is
    (c.min.ensures, omega (arith, c.min.ensures), offer_length c.in-Some.offer c.min.result (omega (arith, c.min.ensures)) (omega (arith, c.min.ensures)))
