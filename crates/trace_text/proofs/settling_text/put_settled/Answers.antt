-- What the settlement says, or zeros.
use mathlib.Core.Path.{◌≡◌, refl}
use Rattle.std.specs.Prelude.{List, ℕ, Option, Some, None}
use Rattle.std.specs.Option.{unwrap_or}
use Rattle.std.proofs.Common.{arith}
use Rattle.engine_settling.specs.declared.Settlement.{Settlement}
use Rattle.trace_text.specs.settling_text.SettledLines.{unsettled, settlement_lines, settled_lines}
use Rattle.trace_text.specs.decimal_text.PutsLaws.{puts_as}
use Rattle.trace_text.proofs.settling_text.put_settled.Goals as goal

settled_lem :
    (o : Option Settlement) (s : Settlement) (awards : List ℕ) → s ≡ unwrap_or o unsettled →
    settlement_lines s awards ≡ settled_lines o awards
unfolding settled_lines
settled_lem (Some x) s awards e = rw e refl
settled_lem None s awards e = rw e refl

pub returns : goal.returns
returns c = puts_as c.put_settlement.ensures _ 3000 (settled_lem c.args.settled c.unwrap_or.result c.args.awards c.unwrap_or.ensures) (omega arith)
