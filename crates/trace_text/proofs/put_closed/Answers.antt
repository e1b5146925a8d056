-- What the closing says, or zeros.
use mathlib.Core.Path.{◌≡◌, refl}
use Rattle.std.specs.Prelude.{Result, Ok, Err}
use Rattle.std.specs.Result.{result_unwrap_or}
use Rattle.std.proofs.Common.{arith}
use Rattle.engine_refusals.specs.declared.Refusal.{Refusal}
use Rattle.engine_looks.specs.declared.readings.Preview.{Preview}
use Rattle.trace_text.specs.Words.{no_preview, closing_lines, closed_lines}
use Rattle.trace_text.specs.decimal_text.PutsLaws.{puts_as}
use Rattle.trace_text.proofs.put_closed.Goals as goal

closed_lem : (r : Result Preview Refusal) (p : Preview) → p ≡ result_unwrap_or r no_preview → closing_lines p ≡ closed_lines r
unfolding closed_lines
closed_lem (Ok x) p e = rw e refl
closed_lem (Err x) p e = rw e refl

pub returns : goal.returns
returns c = puts_as c.put_closing.ensures _ 100 (closed_lem c.args.preview c.unwrap_or.result c.unwrap_or.ensures) (omega arith)
