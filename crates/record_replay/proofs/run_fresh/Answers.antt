-- A session's lines; or a record's first line, and the run over those behind it from the auction that it leaves.
use mathlib.Core.Path.{ap}
use Rattle.rules_auction.specs.Rounds.{step_all, ledger}
use Rattle.engine_auction.specs.Parts.{with_clock}
use Rattle.engine_auction.specs.declared.Auction.{Auction}
use Rattle.record_replay.proofs.Replaying.{begun_all, begun_run}
use Rattle.record_replay.proofs.run_fresh.Goals as goal

pub returns-then-seated : goal.returns-then-seated
returns-then-seated c = rw c.if-seated.true c.run_session.ensures

pub returns-then-bytes-begun : goal.returns-then-bytes-begun
returns-then-bytes-begun c = rw c.if-seated.false (begun_all _ _ _ _ _ c.begin-begun.ensures c.if-bytes-begun.true)

pub returns : goal.returns
unfolding ledger step_all
returns c =
    let k = c.begin-begun.result in
    rw c.if-seated.false (begun_run _ _ _ _ _ c.begin-begun.ensures _ _ _
    (ap (λ (x : Auction). with_clock x k.clock) c.new-auction.ensures) c.run-ran.ensures)
