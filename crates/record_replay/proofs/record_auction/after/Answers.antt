-- The auction behind all lines, from a fresh one, with the excess and the closings that the run kept.
use mathlib.Core.Path.{sym, ap, ◌∙◌}
use mathlib.Core.List.{[]}
use Rattle.std.proofs.Common.{rules}
use mir.Facts.{to_z-of_z}
use mir.Syntax.{w64}
use mir.Val.{SFits}
use Rattle.rules_auction.specs.Rounds.{step_all, ledger}
use Rattle.rules_seats.specs.Seats.{fresh_hall}
use Rattle.rules_seats.specs.figures.FigureLaws.{hall_after_ledger}
use Rattle.rules_seats.specs.sessions.LinesRead.{hall_of}
use Rattle.engine_auction.specs.Holds.{held_auction}
use Rattle.record_replay.proofs.record_auction.after.Goals as goal

pub returns : goal.returns
unfolding hall_of ledger step_all
returns c =
    let w = c.run-ran.ensures in
    let e = c.new-fresh.ensures in
    let fits : SFits w64 c.run-ran.result.excess = search rules in
    record {
      auction = w.next [] e ∙ ap held_auction (sym (hall_after_ledger fresh_hall _));
      excess = to_z-of_z fits ∙ w.excess [] e;
      closings = w.closings [] e;
    }
