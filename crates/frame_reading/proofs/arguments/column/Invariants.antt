-- A column is copied number by number: the loop keeps that the first i are the column's.
use lib.ListN.{take}
use Rattle.frame_reading.specs.arguments.FieldColumns.{Filling}
use Rattle.frame_reading.proofs.arguments.column.Given as goal

abbrev pub invariant-loop-i : goal.invariant-loop-i
invariant-loop-i l = Filling l.from l.apart l.n l.i (take l.count l.fields) l.values
