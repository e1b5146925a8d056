-- Refused unless a round is open; else what was decided of it, stored.
use mathlib.Core.Path.{sym, ◌∙◌}
use mir.Facts.{to_z-of_z}
use mir.Syntax.{w64}
use mir.Val.{SFits}
use Rattle.std.proofs.Common.{rules}
use Rattle.engine_auction.proofs.ClosingRound.{close_phase}
use Rattle.engine_auction.proofs.Auction.close.Goals as goal

pub returns-then-not-in_round : goal.returns-then-not-in_round
returns-then-not-in_round c = close_phase _ (sym c.in_round.ensures ∙ c.if-not-in_round.true)

pub returns : goal.returns
returns c =
    let rounded = c.closing_round-rounded in
    let fits : SFits w64 rounded.result.excess = search rules in
    rw (to_z-of_z fits) (rounded.ensures.closes c.args.self (sym c.in_round.ensures ∙ c.if-not-in_round.false))
