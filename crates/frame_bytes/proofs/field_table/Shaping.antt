-- The shape of a row: its widths are copied one by one up to the 0 that ends them.
use Prim.Native.Nat.{ℕ, suc, ◌+◌, ◌-◌, ◌≤◌, ◌<◌}
use mathlib.Core.Path.{◌≡◌, refl, sym, ap, ap₂, ◌∙◌}
use mathlib.Core.List.{List, ◌∷◌, [], ◌++◌, append_assoc}
use native.Mathlib.Omega.{arith}
use lib.ListN.{length, take, get_or, set, replicate}
use lib.Seq.{set_at, length-take-le, take-length}
use Rattle.rules_numbers.specs.Lists.{total, padded}
use Rattle.rules_format.specs.Fields.{listed, fixed}
use Rattle.frame_bytes.specs.field_table.Fitting.{fitting_kind}
use Rattle.frame_bytes.specs.field_table.RowLaws.{width_end, widths_passed, digits_passed}

-- the first n widths, and behind them the width of those that follow
pub record Shaping (ws widths : List ℕ) (n span : ℕ) : Type 0 where
  pub inside : n ≤ length ws
  pub sum : span ≡ total (take n ws)
  pub widths_are : widths ≡ take n ws ++ replicate (32 - n) listed

pub shaping_first : (ws : List ℕ) → Shaping ws (replicate 32 listed) 0 0
unfolding total
shaping_first ws = record { inside = omega arith; sum = refl; widths_are = refl }

module _ (k : ℕ) (held : List ℕ) (e : held ≡ padded 8 (fixed k)) (widths : List ℕ) (n span : ℕ) (s : Shaping (fixed k) widths n span) where
  pub shaping_next : n < length (fixed k) → Shaping (fixed k) (set widths n (get_or held n 0)) (n + 1) (span + get_or held n 0)
  shaping_next h =
      let ws : List ℕ = fixed k in
      let w : ℕ = get_or held n 0 in
      let rest : List ℕ = replicate (32 - (n + 1)) listed in
      let m : 32 - n ≡ suc (32 - (n + 1)) = omega (arith, (fitting_kind k).at_most_seven) in
      let p : set widths n w ≡ take n ws ++ (w ∷ rest) =
      ap (λ (l : List ℕ). set l n w) (s.widths_are ∙ ap (λ (i : ℕ). take n ws ++ replicate i listed) m)
      ∙ set_at (take n ws) listed rest w n (length-take-le n ws s.inside) in
      record {
        inside = omega arith;
        sum = omega (arith, s.sum, (digits_passed k held e n h).0);
        widths_are = p ∙ sym (append_assoc (take n ws) (w ∷ []) rest) ∙ ap (λ (l : List ℕ). l ++ rest) (sym (widths_passed k held e n h));
      }

  pub shaping_room : n < length (fixed k) → span + get_or held n 0 ≤ 128
  shaping_room h = omega (arith, (fitting_kind k).digits, s.sum, digits_passed k held e n h)

  pub shaping_end : get_or held n 0 ≡ 0 → (n ≡ length (fixed k)) × (span ≡ total (fixed k)) × (widths ≡ fixed k ++ replicate (32 - length (fixed k)) listed)
  shaping_end z =
      let ws : List ℕ = fixed k in
      let m : n ≡ length ws = width_end k held e n s.inside z in
      let whole : take n ws ≡ ws = ap (λ (i : ℕ). take i ws) m ∙ take-length ws in
      (m, s.sum ∙ ap total whole, s.widths_are ∙ ap₂ (λ (l : List ℕ) (i : ℕ). l ++ replicate (32 - i) listed) whole m)
