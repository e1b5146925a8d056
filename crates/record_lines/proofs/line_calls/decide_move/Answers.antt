-- A cancellation or an offer by its kind, else a lodged list; the steps in two columns.
use mathlib.Core.Logic.{⊎_elim}
use Rattle.std.proofs.Common.{arith}
use Rattle.frame_reading.specs.arguments.Stepping.{offer_stepped, lodge_stepped}
use Rattle.engine_moves.specs.moves.Entries.{entry_of}
use Rattle.record_lines.specs.line_calls.DecisionLaws.{framed}
use Rattle.record_lines.proofs.line_calls.Framing.{developer_below, moves_kinds, lodges, cancel_decided, offer_decided, lodge_decided}
use Rattle.record_lines.proofs.line_calls.decide_move.Goals as goal

pub returns-then-frame-eq9 : goal.returns-then-frame-eq9
returns-then-frame-eq9 c =
    cancel_decided _ _ _ _ _ c.byte.ensures c.if-frame-eq9.true (c.cancelled.ensures c.args.clock.now (entry_of c.args.entry) _ c.is_number-numbered.ensures)

pub steps_in-steps-requires : goal.steps_in-steps-requires
steps_in-steps-requires c =
    let w = c.requires in
    ⊎_elim (λ e. offer_stepped _ (framed 4 _ w.reads (λ z. omega arith) e))
    (λ q. ⊎_elim (λ e. absurd (c.if-frame-eq9.false e)) (λ e. lodge_stepped _ (framed 7 _ w.reads (λ z. omega arith) e)) q)
    (moves_kinds _ w.kind)

pub returns-then-frame-eq4 : goal.returns-then-frame-eq4
returns-then-frame-eq4 c =
    let s = c.steps_in-steps.ensures in
    offer_decided _ _ _ _ _ c.byte.ensures _ _ s.prices s.levels c.if-frame-eq4.true (c.offered.ensures c.args.clock.now _ c.is_number-numbered.ensures)

pub returns : goal.returns
returns c =
    let s = c.steps_in-steps.ensures in
    lodge_decided _ _ _ _ _ c.byte.ensures _ _ s.prices s.levels (lodges _ c.requires c.if-frame-eq9.false c.if-frame-eq4.false)
    (c.lodged.ensures c.args.clock.now (entry_of c.args.entry) _ c.is_number-numbered.ensures)

pub byte-requires : goal.byte-requires
byte-requires c = developer_below _ c.requires
