-- Field by field up to the width 0 that ends them; the loop keeps `ReadingFixed`.
use Rattle.frame_reading.proofs.frames.Reading.{ReadingFixed}
use Rattle.frame_reading.proofs.frames.read_fixed.Given as goal

abbrev pub invariant-loop-n : goal.invariant-loop-n
invariant-loop-n l = ReadingFixed l.fn.row.kind l.line l.fields l.at l.n
