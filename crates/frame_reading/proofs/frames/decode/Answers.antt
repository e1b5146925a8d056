-- Each refusal is a fact that a well-formed line denies; past all of them the line is well-formed, and its fields are those that were read.
use Prim.Native.Nat.{◌+◌, ◌*◌, ◌≤◌, ◌<◌}
use mathlib.Core.Path.{◌≡◌, refl, sym, ap, ◌∙◌}
use mathlib.Core.Bool.{true}
use Rattle.std.proofs.Common.{arith}
use lib.ListN.{length, drop}
use Rattle.rules_numbers.specs.Cases.{clash}
use Rattle.rules_numbers.specs.Lists.{total}
use Rattle.rules_format.specs.Fields.{listed, known, fixed, repeats, fields_at, kind_of}
use Rattle.frame_bytes.specs.field_table.Shapes.{TableHas, Tabled}
use Rattle.frame_bytes.specs.field_table.Fitting.{fitting_kind}
use Rattle.frame_bytes.specs.field_table.RowLaws.{row_own}
use Rattle.frame_reading.specs.frames.FixedFields.{FixedRead}
use Rattle.frame_reading.proofs.frames.Reading.{counts_same, counts_few, all_read, asked_length, refused, accepted}
use Rattle.frame_reading.proofs.frames.decode.Goals as goal
use Rattle.frame_reading.proofs.frames.decode.Goals.{After-repeated-more, After-row_of, In-Some-read_fixed, Else-len-fixed, In-Some}
use Rattle.frame_reading.proofs.frames.decode.Goals.{then-len-lt2-via-then-len-lt2, then-len-lt2-via-else-len-lt2+then-len-gt-LONGEST_LINE, then-len-lt2-via-else-len-lt2+else-len-gt-LONGEST_LINE+then-not-all_hex}

-- what the table has of the line's kind
tabled : (c : After-row_of) → TableHas (kind_of c.args.line.now) c.row_of.result
unfolding kind_of
tabled c = rw c.field.ensures at c.row_of.ensures

-- the row's kind is the line's, which the table has
of_kind :
    (c : In-Some) →
    let row = c.in-Some.row in
    (row.kind ≡ kind_of c.args.line.now) × (known row.kind ≡ true) × Tabled row.kind row
of_kind c =
    let t = rw c.in-Some.is at (tabled (goal.at.In-Some c).After-row_of) in
    (t.1.kind, rw (sym t.1.kind) at t.0, row_own _ _ t.1)

-- the fixed fields were read
reached :
    (c : In-Some-read_fixed) →
    let f = c.in-Some-read_fixed.fixed in
    FixedRead c.in-Some.row.kind c.args.line.now c.read_fixed.new.fields f.count f.end
reached c = rw c.in-Some-read_fixed.is at c.read_fixed.ensures.reach

-- how many follow them
counted :
    (c : After-repeated-more) →
    let k = c.in-Some.row.kind in
    let n = c.repeated-more.result in
    (n ≡ repeats k (fields_at (fixed k) (drop 2 c.args.line.now))) × (n ≤ 512)
counted c =
    let f = reached (goal.at.After-repeated-more c).In-Some-read_fixed in
    let few = counts_few _ _ _ _ f.many f.fields in
    (c.repeated-more.ensures ∙ counts_same _ _ _ _ f.many f.fields, omega (arith, c.repeated-more.ensures, few))

-- past all tests: the line is as long as its kind and count ask
exact :
    (c : Else-len-fixed) →
    let k = c.in-Some.row.kind in
    let n = c.repeated-more.result in
    (c.in-Some-read_fixed.fixed.count + n ≤ 32) × (length c.args.line.now ≡ 2 + total (fixed k) + listed * n)
exact c =
    let f = reached (goal.at.Else-len-fixed c).In-Some-read_fixed in
    let few = (fitting_kind c.in-Some.row.kind).at_most_seven in
    let e = c.if-len-fixed.false in
    let short = c.if-len-gt-LONGEST_LINE.false in
    (omega (arith, f.many, f.place), omega (arith, f.place))

pub returns-then-len-lt2 : goal.returns-then-len-lt2
returns-then-len-lt2 c = elim c.then-len-lt2.branch [
  | then-len-lt2-via-then-len-lt2 w ↦ refused _ _ c.malformed.ensures (λ f. omega arith)
  | then-len-lt2-via-else-len-lt2+then-len-gt-LONGEST_LINE w ↦ refused _ _ c.malformed.ensures (λ f. omega arith)
  | then-len-lt2-via-else-len-lt2+else-len-gt-LONGEST_LINE+then-not-all_hex w ↦ refused _ _ c.malformed.ensures (λ f. clash f.hex (sym w.all_hex.ensures ∙ w.if-not-all_hex.true))
]

pub returns-in_default : goal.returns-in_default
returns-in_default c =
    refused _ _ c.malformed-in_default.ensures (λ w. clash w.kind_known (rw c.in_default.is at (tabled (goal.at.returns-in_default c).After-row_of)))

pub read_fixed-requires : goal.read_fixed-requires
read_fixed-requires c =
    let k = of_kind (goal.at.read_fixed-requires c).In-Some in
    (k.2, c.if-len-lt2.false, ap length c.no_fields-fields.ensures)

pub returns-in_default-read_fixed : goal.returns-in_default-read_fixed
returns-in_default-read_fixed c =
    let k = of_kind (goal.at.returns-in_default-read_fixed c).In-Some in
    let short : length c.args.line.now < 2 + total (fixed c.in-Some.row.kind) = rw c.in_default-read_fixed.is at c.read_fixed.ensures.reach in
    refused _ _ c.malformed-in_default-read_fixed.ensures (λ w. omega (arith, short, asked_length _ w _ k.0))

pub slice_bounds-repeated-end : goal.slice_bounds-repeated-end
slice_bounds-repeated-end c = sym c.read_fixed.ensures.long

pub repeated-more-requires : goal.repeated-more-requires
repeated-more-requires c =
    let k = of_kind (goal.at.repeated-more-requires c).In-Some in
    let f = reached (goal.at.repeated-more-requires c).In-Some-read_fixed in
    let few = (fitting_kind c.in-Some.row.kind).at_most_seven in
    (k.2, f.many, omega (arith, f.many, c.read_fixed.ensures.long), counts_few _ _ _ _ f.many f.fields)

pub overflow_mul-more : goal.overflow_mul-more
overflow_mul-more c = omega (arith, (counted (goal.at.overflow_mul-more c).After-repeated-more).1)

pub overflow_add-fixed : goal.overflow_add-fixed
overflow_add-fixed c =
    let f = reached (goal.at.overflow_add-fixed c).In-Some-read_fixed in
    let d = (fitting_kind c.in-Some.row.kind).digits in
    omega (arith, (counted (goal.at.overflow_add-fixed c).After-repeated-more).1, f.place, d)

pub returns-then-len-fixed : goal.returns-then-len-fixed
returns-then-len-fixed c =
    let at = goal.at.returns-then-len-fixed c in
    let k = of_kind at.In-Some in
    refused _ c.malformed-then-len-fixed.result c.malformed-then-len-fixed.ensures
    (λ w. omega (arith, c.if-len-fixed.true, (reached at.In-Some-read_fixed).place, (counted at.After-repeated-more).0, asked_length _ w _ k.0))

pub read_listed-requires : goal.read_listed-requires
read_listed-requires c =
    let at = goal.at.read_listed-requires c in
    let x = exact at.Else-len-fixed in
    (x.0, omega (arith, x.1, (reached at.In-Some-read_fixed).place), c.read_fixed.ensures.long)

pub overflow_add-result : goal.overflow_add-result
overflow_add-result c = omega (arith, (exact (goal.at.overflow_add-result c).Else-len-fixed).0)

pub returns : goal.returns
returns c =
    let at = goal.at.returns c in
    let hex = sym c.all_hex.ensures ∙ c.if-not-all_hex.false in
    let k = of_kind at.In-Some in
    let f = reached at.In-Some-read_fixed in
    let fields = all_read _ _ _ _ _ _ _ f c.read_listed.ensures in
    accepted _ _ _ _ k.0 (counted at.After-repeated-more).0 c.if-len-gt-LONGEST_LINE.false hex k.1 (exact at.Else-len-fixed).1 refl fields
