-- An opening by its kind, else a set-up; the fields are the call's arguments.
use mathlib.Core.Path.{refl}
use Rattle.std.proofs.Common.{arith}
use Rattle.rules_format.specs.Fields.{fixed}
use Rattle.frame_reading.specs.arguments.FieldColumns.{below}
use Rattle.engine_auction.specs.Decided.{with_round}
use Rattle.record_lines.specs.line_calls.DecisionLaws.{framed}
use Rattle.record_lines.proofs.line_calls.Framing.{sets_up_lem, open_decided, set_up_decided}
use Rattle.record_lines.proofs.line_calls.decide_clock.Goals as goal

pub word-c-requires : goal.word-c-requires
unfolding fixed
word-c-requires c = below 3 _ (framed 3 _ c.requires.reads (λ z. omega arith) c.if-frame-eq3.true) 0 4294967296 refl

pub returns-then-frame-eq3 : goal.returns-then-frame-eq3
returns-then-frame-eq3 c = open_decided _ _ _ _ c.word-c.ensures c.if-frame-eq3.true c.opening_at.ensures

pub returns : goal.returns
returns c =
    set_up_decided _ _ _ _ _ _ _ _ c.field-ce.ensures c.field-d.ensures c.field-m1.ensures c.field-m2.ensures c.field-a.ensures
    (sets_up_lem _ c.requires c.if-frame-eq3.false) (λ b. c.setting_up.ensures (with_round b c.args.auction.now))
