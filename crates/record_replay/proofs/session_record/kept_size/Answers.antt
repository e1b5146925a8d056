-- A kept frame is not empty, and has its 0A behind it.
use Rattle.record_replay.proofs.session_record.Keeping.{size_none, size_some}
use Rattle.record_replay.proofs.session_record.kept_size.Goals as goal

pub returns-in-Some : goal.returns-in-Some
returns-in-Some c = let kept = c.in-Some.ensures.kept in size_some _ _ kept.0 kept.1

pub returns-in-None : goal.returns-in-None
returns-in-None c = size_none _ c.in-None.ensures.left_out
