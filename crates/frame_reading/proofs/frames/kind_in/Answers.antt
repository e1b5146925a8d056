-- Each test is a fact that a well-formed line passes; past all of them the line is well-formed.
use Prim.Native.Nat.{ℕ}
use mathlib.Core.Path.{◌≡◌, sym, ◌∙◌}
use mathlib.Core.Bool.{true}
use mathlib.Core.List.{List}
use Rattle.std.proofs.Common.{arith}
use Rattle.rules_numbers.specs.Cases.{clash}
use Rattle.rules_format.specs.Fields.{known, kind_of}
use Rattle.frame_bytes.specs.declared.field_table.Row.{Row}
use Rattle.frame_bytes.specs.field_table.Shapes.{TableHas, Tabled}
use Rattle.frame_bytes.specs.field_table.Fitting.{fitting_kind}
use Rattle.frame_bytes.specs.field_table.RowLaws.{row_own}
use Rattle.frame_reading.specs.frames.KindsRead.{kind_formed, kind_malformed}
use Rattle.frame_reading.proofs.frames.Reading.{asked_length, passed}
use Rattle.frame_reading.proofs.frames.kind_in.Goals as goal
use Rattle.frame_reading.proofs.frames.kind_in.Goals.{After-row_of, In-Some, Else-size-span-2, Then-size-span, Then-size-span-2}
use Rattle.frame_reading.proofs.frames.kind_in.Goals.{then-size-lt2-via-then-size-lt2, then-size-lt2-via-else-size-lt2+then-size-gt-LONGEST_LINE, then-size-lt2-via-else-size-lt2+else-size-gt-LONGEST_LINE+then-not-all_hex}

-- the line, and the row
abbrev line : After-row_of → List ℕ
line c = c.args.line.now

abbrev row : In-Some → Row
row c = c.in-Some.row

-- what the table has of the line's kind
tabled : (c : After-row_of) → TableHas (kind_of (line c)) c.row_of.result
unfolding kind_of
tabled c = rw c.field.ensures at c.row_of.ensures

-- the row's kind is the line's, which the table has
of_kind_lem : (c : In-Some) → ((row c).kind ≡ kind_of (line (goal.at.In-Some c).After-row_of)) × (known (row c).kind ≡ true) × Tabled (row c).kind (row c)
of_kind_lem c =
    let t = rw c.in-Some.is at (tabled (goal.at.In-Some c).After-row_of) in
    (t.1.kind, rw (sym t.1.kind) at t.0, row_own _ _ t.1)

pub returns-then-size-lt2 : goal.returns-then-size-lt2
returns-then-size-lt2 c = elim c.then-size-lt2.branch [
  | then-size-lt2-via-then-size-lt2 w ↦ kind_malformed _ (λ f. omega arith)
  | then-size-lt2-via-else-size-lt2+then-size-gt-LONGEST_LINE w ↦ kind_malformed _ (λ f. omega arith)
  | then-size-lt2-via-else-size-lt2+else-size-gt-LONGEST_LINE+then-not-all_hex w ↦ kind_malformed _ (λ f. clash f.hex (sym w.all_hex.ensures ∙ w.if-not-all_hex.true))
]

pub returns-in_default : goal.returns-in_default
returns-in_default c = kind_malformed _ (λ w. clash w.kind_known (rw c.in_default.is at (tabled (goal.at.returns-in_default c).After-row_of)))

pub overflow_add-span : goal.overflow_add-span
overflow_add-span c = omega (arith, c.shape_of-span.ensures.span, (fitting_kind (row (goal.at.overflow_add-span c).In-Some).kind).digits)

pub returns-then-size-span : goal.returns-then-size-span
returns-then-size-span c =
    let s = c in
    kind_malformed _ (λ w. omega (arith, c.if-size-span.true, s.shape_of-span.ensures.span, asked_length _ w _ (of_kind_lem (goal.at.Then-size-span s).In-Some).0))

pub counted_in-more-requires : goal.counted_in-more-requires
counted_in-more-requires c = ((of_kind_lem (goal.at.counted_in-more-requires c).In-Some).2, c.shape_of-span.ensures.span, c.if-size-span.false)

pub returns-then-size-span-2 : goal.returns-then-size-span-2
returns-then-size-span-2 c =
    let n = c in
    let s = n in
    kind_malformed _
    (λ w. omega (arith, c.if-size-span-2.true, n.counted_in-more.ensures.0, s.shape_of-span.ensures.span, asked_length _ w _ (of_kind_lem (goal.at.Then-size-span-2 s).In-Some).0))

pub returns : goal.returns
returns c =
    let n = c in
    let s = n in
    let k = of_kind_lem (goal.at.Else-size-span-2 s).In-Some in
    let read = s in
    let hex = sym read.all_hex.ensures ∙ s.if-not-all_hex.false in
    let short = read.if-size-gt-LONGEST_LINE.false in
    k.0 ∙ kind_formed _ (passed _ _ _ k.0 n.counted_in-more.ensures.0 short hex k.1 (omega (arith, c.if-size-span-2.false, s.shape_of-span.ensures.span)))

pub shape_of-span-requires : goal.shape_of-span-requires
shape_of-span-requires c = (of_kind_lem c).2
