-- The number is divided by 16 for each digit; the loop keeps `Dividing`.
use Rattle.frame_writing.proofs.frame_sizes.Widths.{dividing_first, dividing_next, dividing_end}
use Rattle.frame_writing.proofs.frame_sizes.fits_width.Goals as goal

pub loop-init : goal.loop-init
loop-init c = dividing_first _ _

pub loop-preserved : goal.loop-preserved
loop-preserved c = let l = c.loop in dividing_next _ _ l.left l.counter l.invariant c.loop-test.true

pub returns : goal.returns
returns c = let l = c.loop in dividing_end _ _ l.left l.counter l.invariant c.loop-test.false
