-- FF0B, and 0A behind it.
use Rattle.record_replay.proofs.Replaying.{refusal_laid}
use Rattle.record_replay.proofs.put_refusal.Goals as goal

pub returns : goal.returns
returns c = refusal_laid _ _ _ c.requires (rw c.from.ensures at c.plain_at.ensures)

pub shape_of-out : goal.shape_of-out
shape_of-out c = c.plain_at.ensures.same
