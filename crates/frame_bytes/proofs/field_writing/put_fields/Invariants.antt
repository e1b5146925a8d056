-- Each turn writes one field into the tail behind those before; the loop keeps `Putting`.
use lib.ListN.{length}
use Rattle.frame_bytes.proofs.field_writing.Putting.{Putting}
use Rattle.frame_bytes.proofs.field_writing.put_fields.Given as goal

abbrev pub invariant-loop-width : goal.invariant-loop-width
invariant-loop-width l = Putting l.widths l.values l.initial.out l.out l.at (length l.yielded)
