-- Laws of the size of a frame, as the code finds it: how many fields and characters a writable call has.
use Prim.Native.Nat.{ℕ, ◌+◌, ◌-◌, ◌*◌, ◌^◌, ◌≤◌, ◌<◌}
use Rattle.std.specs.Prelude.{◌≡◌, Bool, take, Some, None}
use Rattle.std.proofs.Math.Path.{refl, sym, ap}
use Rattle.std.proofs.lemmas.Option.{cond_some}
use Rattle.std.proofs.Common.{◌∙◌, subst, ⊎_elim, get_or-take}
use Rattle.std.proofs.Math.Bool.{true, false, cond}
use mathlib.Core.List.{List}
use native.Mathlib.Omega.{arith}
use Rattle.std.proofs.Math.ListN.{length, get_or}
use Rattle.rules_numbers.specs.Cases.{le_or_lt, never_true}
use Rattle.rules_numbers.specs.Lists.{total}
use Rattle.rules_format.specs.HexLaws.{power_pos}
use Rattle.rules_format.specs.Fields.{RawCall, raw_call, listed, fixed, count, repeats, layout}
use Rattle.rules_format.specs.FieldLaws.{total_layout, length_layout, layout_at}
use Rattle.rules_format.specs.Written.{written_widths, line_of, frame_of, fit, writable}
use Rattle.rules_format.specs.WrittenLaws.{Writable, is_writable, writable_test, fitting, length_line, length_frame}
use Rattle.frame_bytes.specs.field_table.Fitting.{fitting_kind, repeats_few}
use Rattle.frame_bytes.specs.declared.field_table.Shape.{Shape}
use Rattle.frame_bytes.specs.field_table.Shapes.{Shaped}
use Rattle.frame_bytes.specs.field_table.ShapeLaws.{shape_layout}
use Rattle.frame_writing.specs.frame_sizes.FrameSizes.{frame_size}

-- ---- how many fields and characters

module _ (k : ℕ) (ns : List ℕ) where
  pub line_long : length (line_of (raw_call k ns)) ≡ 2 + total (fixed k) + listed * repeats k ns
  unfolding written_widths
  line_long = omega (arith, length_line (raw_call k ns), total_layout k (repeats k ns))

  pub as_many : Writable (raw_call k ns) → length ns ≡ length (fixed k) + repeats k ns
  unfolding written_widths
  as_many w = (fitting (layout k (repeats k ns)) ns w.fields_fit).0 ∙ length_layout k (repeats k ns)

  -- a line of more fields is over 160 characters, whatever their widths
  pub few_fields : Writable (raw_call k ns) → length ns ≤ 27
  few_fields w = omega (arith, as_many w, line_long, w.short, (fitting_kind k).at_most_seven)

  pub too_many : 27 < length ns → writable (raw_call k ns) ≡ false
  too_many h = never_true (writable (raw_call k ns)) (λ e. let f = few_fields (is_writable (raw_call k ns) e) in omega arith)

-- ---- the size of the frame

module _ (k : ℕ) (ns : List ℕ) where
  abbrev c : RawCall
  c = raw_call k ns

  pub no_size : (Writable c → ⊥) → None ≡ frame_size c
  unfolding frame_size
  no_size h = rw (never_true (writable c) (λ e. h (is_writable c e)))

  pub the_size : (n : ℕ) → n ≡ length (frame_of c) → Writable c → Some n ≡ frame_size c
  unfolding frame_size
  the_size n e w = rw (writable_test c w) (ap Some e)

  frame_pos : 1 ≤ length (frame_of c)
  frame_pos = omega (arith, length_frame c)

  pub size_none : frame_size c ≡ None → writable c ≡ false
  unfolding frame_size
  size_none = go (writable c)
    where
      go : (b : Bool) → cond b (Some (length (frame_of c))) None ≡ None → b ≡ false
      go true z = cc
      go false z = refl

  pub size_some : (n : ℕ) → frame_size c ≡ Some n → (writable c ≡ true) × (n ≡ length (frame_of c))
  unfolding frame_size
  size_some n e = let p = cond_some _ _ _ e in (p.0, sym p.1)

-- ---- the widths of a shape

module _ (k : ℕ) (ns : List ℕ) (s : Shape) (w : Shaped k s) (n : ℕ) (e : n ≡ length ns) (few : n ≤ 32) where
  pub widths_layout : s.fixed ≤ n → take n s.widths ≡ layout k (n - s.fixed)
  widths_layout h =
      let m : s.fixed + (n - s.fixed) ≡ n = omega arith in
      subst (λ (i : ℕ). take i s.widths ≡ layout k (n - s.fixed)) m (shape_layout k s w (n - s.fixed) (omega arith))

  pub widths_are : length ns ≡ length (fixed k) + repeats k ns → take n s.widths ≡ written_widths (raw_call k ns)
  unfolding written_widths
  widths_are q =
      let m : n - s.fixed ≡ repeats k ns = omega (arith, w.many) in
      widths_layout (omega (arith, w.many)) ∙ ap (layout k) m

  -- fields that fit the first widths count few
  pub fit_few : s.fixed ≤ n → fit (take n s.widths) ns ≡ true → repeats k ns ≤ 512
  unfolding count
  fit_few h f =
      let l : List ℕ = layout k (n - s.fixed) in
      let below : get_or ns (length (fixed k) - 1) 0 < 16 ^ get_or (fixed k) (length (fixed k) - 1) listed =
      rw layout_at at ((fitting l ns (rw (widths_layout h) at f)).1 (length (fixed k) - 1)) in
      repeats_few k ns (⊎_elim
      (λ z. let y : length (fixed k) ≡ 0 = omega arith in rw y (power_pos _))
      (λ z. rw (get_or-take (length (fixed k)) ns (length (fixed k) - 1) 0 (omega arith)) below)
      (le_or_lt (length (fixed k)) 0))
