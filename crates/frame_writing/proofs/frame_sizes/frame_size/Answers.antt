-- Each 0 is a fact that a writable call denies; past all tests the call is writable, and its frame has the length that was added.
use Prim.Native.Nat.{ℕ, ◌+◌, ◌*◌, ◌≤◌}
use mathlib.Core.Path.{◌≡◌, refl, sym, ap, ◌∙◌}
use mathlib.Core.Bool.{true}
use Rattle.std.proofs.Common.{arith}
use Rattle.std.proofs.Common.{rules}
use lib.ListN.{length, take}
use lib.Seq.{length-take-le}
use Rattle.rules_numbers.specs.Cases.{clash}
use Rattle.rules_format.specs.Fields.{listed, known, fixed, repeats, raw_call}
use Rattle.rules_format.specs.Written.{fit, line_of}
use Rattle.rules_format.specs.WrittenLaws.{Writable, length_line, length_frame}
use Rattle.frame_bytes.specs.field_table.Shapes.{Tabled, Shaped}
use Rattle.frame_bytes.specs.field_table.Fitting.{fitting_kind}
use Rattle.frame_bytes.specs.field_table.RowLaws.{row_own}
use Rattle.frame_writing.specs.frame_sizes.FrameSizeLaws.{as_many, few_fields, line_long, no_size, the_size, widths_are, fit_few}
use Rattle.frame_writing.proofs.frame_sizes.frame_size.Goals as goal
use Rattle.frame_writing.proofs.frame_sizes.frame_size.Goals.{After-repeated-more, After-shape_of-shape, Else-length-gt-LONGEST_LINE, Else-n-gt32, Else-not-fields_fit, In_ok-row}
use Rattle.frame_writing.proofs.frame_sizes.frame_size.Goals.{then-n-shape-via-then-n-shape, then-n-shape-via-else-n-shape+then-n-gt32}

-- the row is that of the call's kind, which the table has; the shape is that of this kind
of_kind :
    (c : In_ok-row) →
    let r = c.in_ok-row.row in
    let k = c.args.kind in
    (r.kind ≡ k) × (known k ≡ true) × Tabled r.kind r
of_kind c = let t = c.in_ok-row.ensures in (t.1.kind, t.0, row_own _ _ t.1)

shape : (c : After-shape_of-shape) → Shaped c.args.kind c.shape_of-shape.result
shape c = rw (of_kind (goal.at.After-shape_of-shape c).In_ok-row).0 at c.shape_of-shape.ensures

-- the first widths are as many as the fields
many :
    (c : Else-n-gt32) →
    let ns = c.args.fields.now in
    (length ns ≤ 32) × (length (take (length ns) c.shape_of-shape.result.widths) ≡ length ns)
many c =
    let l : length c.shape_of-shape.result.widths ≡ 32 = search rules in
    let h : length c.args.fields.now ≤ 32 = omega (arith, c.if-n-gt32.false) in
    (h, length-take-le _ c.shape_of-shape.result.widths (omega arith))

-- the fields fit them, so that they count few
fits :
    (c : Else-not-fields_fit) →
    let ns = c.args.fields.now in
    let k = c.args.kind in
    (fit (take (length ns) c.shape_of-shape.result.widths) ns ≡ true) × (repeats k ns ≤ 512)
fits c =
    let f = sym c.fields_fit.ensures ∙ c.if-not-fields_fit.false in
    (f, fit_few _ _ _ (shape (goal.at.Else-not-fields_fit c).After-shape_of-shape) _ refl (many (goal.at.Else-not-fields_fit c).Else-n-gt32).0 (omega (arith, c.if-n-shape.false)) f)

-- how many follow the fixed ones
more :
    (c : After-repeated-more) →
    let a = c.args in
    (c.repeated-more.result ≡ repeats a.kind a.fields.now) × (c.repeated-more.result ≤ 512)
more c =
    let e = c.repeated-more.ensures ∙ ap (λ (k : ℕ). repeats k c.args.fields.now) (of_kind (goal.at.After-repeated-more c).In_ok-row).0 in
    (e, omega (arith, e, (fits (goal.at.After-repeated-more c).Else-not-fields_fit).1))

-- how long the line is, by what was added
long :
    (c : After-repeated-more) →
    let a = c.args in
    let s = c.shape_of-shape.result in
    (length (line_of (raw_call a.kind a.fields.now)) ≡ 2 + s.span + listed * c.repeated-more.result) × (s.span ≤ 128) × (s.fixed ≤ 8)
long c =
    let a = c.args in
    let w = shape (goal.at.After-repeated-more c).After-shape_of-shape in
    let f = fitting_kind a.kind in
    (omega (arith, line_long a.kind a.fields.now, w.span, (more c).0), omega (arith, w.span, f.digits), omega (arith, w.many, f.at_most_seven))

-- past all tests the call is writable
writable :
    (c : Else-length-gt-LONGEST_LINE) →
    let a = c.args in Writable (raw_call a.kind a.fields.now)
writable c =
    let a = c.args in
    let q : length a.fields.now ≡ length (fixed a.kind) + repeats a.kind a.fields.now =
    omega (arith, (shape (goal.at.Else-length-gt-LONGEST_LINE c).After-shape_of-shape).many, (more (goal.at.Else-length-gt-LONGEST_LINE c).After-repeated-more).0, c.if-n-shape-2.false) in
    record {
      kind_known = (of_kind (goal.at.Else-length-gt-LONGEST_LINE c).In_ok-row).1;
      fields_fit = rw (widths_are _ _ _ (shape (goal.at.Else-length-gt-LONGEST_LINE c).After-shape_of-shape) _ refl (many (goal.at.Else-length-gt-LONGEST_LINE c).Else-n-gt32).0 q) at (fits (goal.at.Else-length-gt-LONGEST_LINE c).Else-not-fields_fit).0;
      short = omega (arith, (long (goal.at.Else-length-gt-LONGEST_LINE c).After-repeated-more).0, c.if-length-gt-LONGEST_LINE.false);
    }

pub returns-in_err-row : goal.returns-in_err-row
returns-in_err-row c = rw c.from_residual.ensures (no_size _ _ (λ w. clash w.kind_known c.in_err-row.ensures))

pub shape_of-shape-requires : goal.shape_of-shape-requires
shape_of-shape-requires c = (of_kind (goal.at.shape_of-shape-requires c).In_ok-row).2

pub returns-then-n-shape : goal.returns-then-n-shape
returns-then-n-shape c = elim c.then-n-shape.branch [
  | then-n-shape-via-then-n-shape w ↦ no_size _ _ (λ f. omega (arith, as_many _ _ f, (shape (goal.at.returns-then-n-shape c).After-shape_of-shape).many))
  | then-n-shape-via-else-n-shape+then-n-gt32 w ↦ no_size _ _ (λ f. let few = few_fields _ _ f in omega arith)
]

pub slice_bounds-widths-end : goal.slice_bounds-widths-end
slice_bounds-widths-end c =
    let l : length c.shape_of-shape.result.widths ≡ 32 = search rules in
    omega (arith, (many (goal.at.slice_bounds-widths-end c).Else-n-gt32).0)

pub fields_fit-requires : goal.fields_fit-requires
fields_fit-requires c = (many (goal.at.fields_fit-requires c).Else-n-gt32).1

pub returns-then-not-fields_fit : goal.returns-then-not-fields_fit
returns-then-not-fields_fit c =
    let ns = c.args.fields.now in
    let no = sym c.fields_fit.ensures ∙ c.if-not-fields_fit.true in
    no_size _ _ (λ w. clash w.fields_fit (rw (widths_are _ ns _ (shape (goal.at.returns-then-not-fields_fit c).After-shape_of-shape) _ refl (many (goal.at.returns-then-not-fields_fit c).Else-n-gt32).0 (as_many _ ns w)) at no))

pub repeated-more-requires : goal.repeated-more-requires
repeated-more-requires c =
    let k = of_kind (goal.at.repeated-more-requires c).In_ok-row in
    (k.2, c.shape_of-shape.ensures.many, omega (arith, c.if-n-shape.false), rw k.0 (fits (goal.at.repeated-more-requires c).Else-not-fields_fit).1)

pub overflow_add-shape : goal.overflow_add-shape
overflow_add-shape c = omega (arith, (more (goal.at.overflow_add-shape c).After-repeated-more).1, (long (goal.at.overflow_add-shape c).After-repeated-more).2)

pub returns-then-n-shape-2 : goal.returns-then-n-shape-2
returns-then-n-shape-2 c =
    no_size _ _ (λ w. omega (arith, as_many _ _ w, (shape (goal.at.returns-then-n-shape-2 c).After-shape_of-shape).many, (more (goal.at.returns-then-n-shape-2 c).After-repeated-more).0))

pub overflow_add-length : goal.overflow_add-length
overflow_add-length c = omega (arith, (long (goal.at.overflow_add-length c).After-repeated-more).1)

pub overflow_add-length-2 : goal.overflow_add-length-2
overflow_add-length-2 c = omega (arith, (more (goal.at.overflow_add-length-2 c).After-repeated-more).1, (long (goal.at.overflow_add-length-2 c).After-repeated-more).1)

pub returns-then-length-gt-LONGEST_LINE : goal.returns-then-length-gt-LONGEST_LINE
returns-then-length-gt-LONGEST_LINE c = no_size _ _ (λ w. omega (arith, (long (goal.at.returns-then-length-gt-LONGEST_LINE c).After-repeated-more).0, w.short))

pub returns : goal.returns
returns c =
    let a = c.args in
    let k = raw_call a.kind a.fields.now in
    the_size a.kind a.fields.now _ (omega (arith, (long (goal.at.returns c).After-repeated-more).0, length_line k, length_frame k)) (writable (goal.at.returns c).Else-length-gt-LONGEST_LINE)
