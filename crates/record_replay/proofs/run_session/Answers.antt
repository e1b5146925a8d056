-- All lines, from a fresh auction.
use Rattle.rules_auction.specs.Rounds.{step_all, ledger}
use Rattle.record_replay.proofs.Replaying.{session_run}
use Rattle.record_replay.proofs.run_session.Goals as goal

pub returns : goal.returns
unfolding ledger step_all
returns c = session_run _ _ _ _ _ _ c.new-auction.ensures c.run-ran.ensures
