-- With its agent by its kind, else without; the numbers of a registration are its arguments.
use mathlib.Core.Path.{refl}
use Rattle.std.proofs.Common.{arith}
use Rattle.frame_reading.specs.arguments.Registering.{registers, registers_for_lem, agent_below}
use Rattle.record_lines.specs.line_calls.DecisionLaws.{framed}
use Rattle.record_lines.proofs.line_calls.Framing.{owns, own_decided, named_decided}
use Rattle.record_lines.proofs.line_calls.decide_registration.Goals as goal

pub registration_in-named-requires : goal.registration_in-named-requires
registration_in-named-requires c = registers_for_lem _ (framed 8 _ c.requires.reads (λ z. omega arith) c.if-frame-eq8.true)

pub byte-agent-requires : goal.byte-agent-requires
byte-agent-requires c = agent_below _ (framed 8 _ c.requires.reads (λ z. omega arith) c.if-frame-eq8.true)

pub entered-requires : goal.entered-requires
entered-requires c = let r = c.registration_in-named.ensures in (r.at_most_sixteen, r.long)

pub returns-then-frame-eq8 : goal.returns-then-frame-eq8
returns-then-frame-eq8 c =
    let r = c.registration_in-named.ensures in
    named_decided _ _ _ _ _ _ _ _ _ _ c.entered.ensures r.project r.developer r.kind c.if-frame-eq8.true
    c.byte-agent.ensures r.study r.day r.levels

pub registration_in-own-requires : goal.registration_in-own-requires
registration_in-own-requires c = registers _ (framed 2 _ c.requires.reads (λ z. omega arith) (owns _ c.requires c.if-frame-eq8.false))

pub entered-requires-2 : goal.entered-requires-2
entered-requires-2 c = let r = c.registration_in-own.ensures in (r.at_most_sixteen, r.long)

pub returns : goal.returns
returns c =
    let r = c.registration_in-own.ensures in
    own_decided _ _ _ _ _ _ _ _ _ _ c.entered-2.ensures r.project r.developer r.kind (owns _ c.requires c.if-frame-eq8.false) refl
    r.study r.day r.levels
