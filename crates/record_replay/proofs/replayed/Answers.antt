-- The replies are written where they fit; where they do not, nothing is.
use mathlib.Core.Path.{◌∙◌}
use Rattle.record_replay.proofs.Replaying.{hosted_yes, hosted_no}
use Rattle.record_replay.proofs.replayed.Goals as goal

pub returns-in-Ok : goal.returns-in-Ok
returns-in-Ok c = let f = c.in-Ok.ensures in record { value = hosted_yes _ _ _ _ f; out_after = f.text }

pub returns-in-Err : goal.returns-in-Err
returns-in-Err c =
    let f = c.in-Err.ensures in
    record { value = c.host_number.ensures ∙ hosted_no _ _ _ _ f; out_after = f.text }
