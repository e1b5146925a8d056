-- What the closing of a copy answered, and its phase.
use mathlib.Core.Path.{refl}
use mir.Facts.{to_z-of_z}
use mir.Syntax.{w64}
use mir.Val.{SFits}
use Rattle.std.proofs.Common.{rules}
use Rattle.std.proofs.lemmas.Result.{err_from_is_err_and}
use Rattle.engine_refusals.specs.NumberLaws.{number_not_0}
use Rattle.engine_looks.proofs.readings.Previewing.{preview_refused, previews}
use Rattle.engine_looks.proofs.readings.preview_closing.Goals as goal

pub returns-in_err-closing : goal.returns-in_err-closing
returns-in_err-closing c =
    let p = err_from_is_err_and c.from_residual.result c.from_residual.ensures.1 in
    rw (p.1, p.2) (preview_refused _ _ (number_not_0 _) c.in_err-closing.ensures)

pub returns : goal.returns
returns c =
    let s : SFits w64 c.in_ok-closing.closing.excess = search rules in
    rw (to_z-of_z s) (previews _ _ _ _ refl c.in_ok-closing.ensures c.is_closed.ensures)
