-- The lines say that all fit, or the replies are tried.
use mathlib.Core.Path.{sym, ◌∙◌}
use Rattle.record_replay.proofs.Replaying.{replied_surely}
use Rattle.record_replay.proofs.replies_in.Goals as goal

pub returns-then-enough : goal.returns-then-enough
returns-then-enough c =
    replied_surely c.args.seated _ _ _ _ _ c.kind_place.ensures (sym c.enough.ensures ∙ c.if-enough.true)
    c.run_fresh.ensures
