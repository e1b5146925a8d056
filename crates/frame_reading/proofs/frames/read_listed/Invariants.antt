-- Field by field, each 8 digits further; the loop keeps `ReadingListed`.
use Prim.Native.Nat.{◌+◌}
use mathlib.Core.List.{◌++◌}
use lib.ListN.{take, drop, replicate}
use Rattle.rules_format.specs.Fields.{listed, fields_at}
use Rattle.frame_reading.proofs.frames.Reading.{ReadingListed}
use Rattle.frame_reading.proofs.frames.read_listed.Given as goal

abbrev pub invariant-loop-n : goal.invariant-loop-n
invariant-loop-n l = ReadingListed l.line l.fields (take l.first l.initial.fields ++ fields_at (replicate l.more listed) (drop l.start l.line)) (l.first + l.more) l.at l.n
