-- The last word is a point whose price is the word over 2^40.
use Rattle.std.proofs.Common.{◌∙◌, arith}
use Rattle.engine_curve.proofs.kept_curve.Keeping.{trim_none, trim_too_long, trim_other, trim_last}
use Rattle.engine_curve.proofs.kept_curve.SupplyCurve.trim.Goals as goal
use Rattle.engine_curve.proofs.kept_curve.SupplyCurve.trim.Goals.{then-count-eq0-via-then-count-eq0, then-count-eq0-via-else-count-eq0+then-count-gt-MOST, then-count-eq0-via-else-count-eq0+else-count-gt-MOST+then-words-count}

pub returns-then-count-eq0 : goal.returns-then-count-eq0
returns-then-count-eq0 c =
    elim c.then-count-eq0.branch [
      | then-count-eq0-via-then-count-eq0 w ↦ trim_none _ _ (omega arith)
      | then-count-eq0-via-else-count-eq0+then-count-gt-MOST w ↦ trim_too_long _ _ w.if-count-gt-MOST.true
      | then-count-eq0-via-else-count-eq0+else-count-gt-MOST+then-words-count w ↦ trim_other _ _ (omega arith) (rw w.from.ensures at w.if-words-count.true)
    ]

pub returns : goal.returns
returns c = trim_last _ _ (omega arith) (c.if-words-count.false ∙ c.from.ensures)
