-- The count is the last of the fixed fields; where nothing is counted nothing follows.
use Prim.Native.Nat.{◌-◌, ◌*◌, ◌≤◌}
use mathlib.Core.Path.{◌≡◌, sym, ◌∙◌}
use Rattle.std.proofs.Common.{arith}
use lib.ListN.{get_or}
use Rattle.rules_format.specs.Fields.{repeats}
use Rattle.frame_bytes.specs.field_table.Fitting.{repeats_none, repeats_are}
use Rattle.frame_bytes.proofs.field_table.repeated.Goals as goal
use Rattle.frame_bytes.proofs.field_table.repeated.Goals.{Else-row-eq0}

-- where fields follow: there is a last fixed field, and it counts them
counted :
    (c : Else-row-eq0) →
    let a = c.args in
    let ns = a.fields.now in
    (1 ≤ a.n) × (a.row.each * get_or ns (a.n - 1) 0 ≡ repeats a.row.kind ns)
counted c =
    let start = c in
    let t = start.requires.0 in
    let r = repeats_are start.args.row.kind start.args.fields.now (λ e. c.if-row-eq0.false (t.follow ∙ e)) in
    rw (start.requires.1, t.follow) r

pub returns-then-row-eq0 : goal.returns-then-row-eq0
returns-then-row-eq0 c = let start = c in sym (repeats_none _ _ (sym start.requires.0.follow ∙ c.if-row-eq0.true))

pub overflow_sub-result : goal.overflow_sub-result
overflow_sub-result c = (counted c).0

pub bounds-fields-n : goal.bounds-fields-n
bounds-fields-n c = omega (arith, (counted (goal.at.bounds-fields-n c).Else-row-eq0).0, c.requires.2)

pub overflow_mul-result : goal.overflow_mul-result
overflow_mul-result c = omega (arith, (counted (goal.at.overflow_mul-result c).Else-row-eq0).1, c.requires.3)

pub returns : goal.returns
returns c = (counted (goal.at.returns c).Else-row-eq0).1
