-- The refusal that is told, or four bytes.
use mathlib.Core.Path.{◌∙◌}
use Rattle.host.specs.Writing.{host_writes_seat, seat_answer}
use Rattle.host.proofs.write_seat.Goals as goal

pub returns : goal.returns
returns c = let w = c.write_seat.ensures in host_writes_seat _ _ _ _ _ _ w.value w.out_after (c.host_number.ensures ∙ seat_answer _ _ c.and.ensures)
