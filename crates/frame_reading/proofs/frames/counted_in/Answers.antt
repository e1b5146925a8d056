-- The count is the last two digits of the fixed fields; where nothing is counted nothing follows.
use Prim.Native.Nat.{◌*◌}
use mathlib.Core.Path.{◌≡◌, sym, ◌∙◌}
use Rattle.std.proofs.Common.{arith}
use lib.ListN.{drop}
use Rattle.rules_format.specs.Fields.{fixed, repeats, fields_at}
use Rattle.frame_bytes.specs.field_table.Fitting.{repeats_none}
use Rattle.frame_reading.proofs.frames.Counting.{few_follow, count_there}
use Rattle.frame_reading.proofs.frames.counted_in.Goals as goal
use Rattle.frame_reading.proofs.frames.counted_in.Goals.{After-field}

-- where fields follow
counted :
    (c : After-field) →
    let a = c.args in
    a.row.each * c.field.result ≡ repeats a.row.kind (fields_at (fixed a.row.kind) (drop 2 a.line.now))
counted c =
    let start = c in
    let t = start.requires.0 in
    let there = count_there start.args.row.kind start.args.line.now (λ e. c.if-row-eq0.false (t.follow ∙ e)) in
    rw (c.field.ensures, start.requires.1, t.follow) there.1

pub returns-then-row-eq0 : goal.returns-then-row-eq0
returns-then-row-eq0 c = let start = c in (sym (repeats_none _ _ (sym start.requires.0.follow ∙ c.if-row-eq0.true)), omega arith)

pub overflow_mul-result : goal.overflow_mul-result
overflow_mul-result c =
    let a = c.args in
    omega (arith, counted (goal.at.overflow_mul-result c).After-field, few_follow a.row.kind a.line.now)

pub returns : goal.returns
returns c =
    let a = c.args in
    (counted (goal.at.returns c).After-field, omega (arith, counted (goal.at.returns c).After-field, few_follow a.row.kind a.line.now))
