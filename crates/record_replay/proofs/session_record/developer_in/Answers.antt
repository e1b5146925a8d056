-- The digits stand there in a frame of four bytes and more.
use Rattle.std.proofs.Common.{arith}
use Rattle.record_replay.proofs.session_record.developer_in.Goals as goal

pub returns-then-frame-lt4 : goal.returns-then-frame-lt4
returns-then-frame-lt4 c = λ h. absurd (omega (arith, h, c.if-frame-lt4.true))

pub returns : goal.returns
returns c = λ h. c.field.ensures
