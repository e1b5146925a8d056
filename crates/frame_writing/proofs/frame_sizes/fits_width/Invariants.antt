-- The number is divided by 16 for each digit; the loop keeps `Dividing`.
use Rattle.frame_writing.proofs.frame_sizes.Widths.{Dividing}
use Rattle.frame_writing.proofs.frame_sizes.fits_width.Given as goal

abbrev pub invariant-loop : goal.invariant-loop
invariant-loop l = Dividing l.value l.width l.left l.counter
