-- The first field of a move is its developer.
use Rattle.record_lines.proofs.line_calls.Framing.{developer_below}
use Rattle.record_lines.proofs.line_calls.mover.Goals as goal

pub byte-requires : goal.byte-requires
byte-requires c = developer_below _ c.requires
