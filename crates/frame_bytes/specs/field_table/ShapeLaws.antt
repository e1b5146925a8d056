-- The first widths of a kind's shape are the layout's.
use Prim.Native.Nat.{ℕ, ◌+◌, ◌-◌, ◌≤◌}
use Rattle.std.specs.Prelude.{◌≡◌, take}
use Rattle.std.proofs.Math.Path.{sym, ap}
use Rattle.std.proofs.Common.{◌∙◌, arith}
use mathlib.Core.List.{List, ◌++◌}
use Rattle.std.proofs.Math.ListN.{length, replicate}
use Rattle.std.proofs.lemmas.List.{length-replicate, replicate-append-replicate}
use Rattle.std.proofs.Math.Seq.{take_at, take-append-add}
use Rattle.rules_format.specs.Fields.{listed, fixed, layout}
use Rattle.frame_bytes.specs.declared.field_table.Shape.{Shape}
use Rattle.frame_bytes.specs.field_table.Shapes.{Shaped}

module _ (k : ℕ) (s : Shape) (w : Shaped k s) where
  pub shape_layout : (n : ℕ) → s.fixed + n ≤ 32 → take (s.fixed + n) s.widths ≡ layout k n
  unfolding layout
  shape_layout n h =
      let ws : List ℕ = fixed k in
      let more : List ℕ = replicate (32 - length ws) listed in
      let m : 32 - length ws ≡ n + (32 - length ws - n) = omega (arith, w.many) in
      let e : more ≡ replicate n listed ++ replicate (32 - length ws - n) listed =
      ap (λ (i : ℕ). replicate i listed) m ∙ sym (replicate-append-replicate n (32 - length ws - n) listed) in
      rw (w.widths, w.many) (take-append-add ws more n
      ∙ ap (λ (l : List ℕ). ws ++ l) (ap (take n) e ∙ take_at (replicate n listed) (replicate (32 - length ws - n) listed) n (length-replicate n listed)))
