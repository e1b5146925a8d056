-- Laws of a kind's row: its widths, up to the 0 that ends them, are those of the fixed fields.
use Prim.Native.Nat.{ℕ, ◌+◌, ◌-◌, ◌≤◌, ◌<◌}
use Rattle.std.specs.Prelude.{◌≡◌, refl, true, List, [], ◌∷◌, ◌++◌, length, take, drop, Option, Some, None, is_some}
use Rattle.std.proofs.Math.Path.{sym, ap}
use Rattle.std.proofs.Common.{◌∙◌, subst, ⊎_elim, add-one, arith, take-append-drop, take-suc, drop-cons}
use Rattle.std.proofs.Math.Bool.{false≢true}
use Rattle.std.proofs.Math.ListN.{get_or, get_or-eq_default}
use Rattle.rules_numbers.specs.Cases.{le_or_lt}
use Rattle.rules_numbers.specs.Lists.{total, any, padded}
use Rattle.rules_numbers.specs.ListLaws.{total_append}
use Rattle.rules_format.specs.Fields.{known, fixed}
use Rattle.rules_format.specs.WidthLaws.{behind}
use Rattle.frame_bytes.specs.declared.field_table.Row.{Row}
use Rattle.frame_bytes.specs.field_table.Shapes.{TableHas, Tabled}
use Rattle.frame_bytes.specs.field_table.Fitting.{fitting_kind}

-- the table has no kind 0
pub known_not_0 : (k : ℕ) → known k ≡ true → k ≡ 0 → ⊥
unfolding known any
known_not_0 k e z = false≢true (rw z at e)

-- a kind of the table has a row, its own
pub known_row : (k : ℕ) (o : Option Row) → known k ≡ true → TableHas k o → is_some o ≡ true
known_row k None e t = absurd (false≢true (sym t ∙ e))
known_row k (Some r) e t = refl

pub row_there : (k : ℕ) (o : Option Row) (r : Row) → o ≡ Some r → TableHas k o → Tabled k r
row_there k o r e t = (rw e at t).1

pub row_own : (k : ℕ) (r : Row) → Tabled k r → Tabled r.kind r
row_own k r t = subst (λ (j : ℕ). Tabled j r) (sym t.kind) t

-- ---- its widths, one by one, as an array holds them

module _ (k : ℕ) (held : List ℕ) (e : held ≡ padded 8 (fixed k)) (n : ℕ) where
  width_at : get_or held n 0 ≡ get_or (fixed k) n 0
  width_at = ap (λ (l : List ℕ). get_or l n 0) e ∙ behind 0 (fixed k) (8 - length (fixed k)) n

  pub width_small : get_or held n 0 ≤ 16
  width_small = rw width_at ((fitting_kind k).small n)

  -- before the 0, and at it
  pub width_inside : (get_or held n 0 ≡ 0 → ⊥) → n < length (fixed k)
  width_inside h = ⊎_elim (λ g. absurd (h (width_at ∙ get_or-eq_default (fixed k) 0 g))) (λ g. g) (le_or_lt (length (fixed k)) n)

  pub width_end : n ≤ length (fixed k) → get_or held n 0 ≡ 0 → n ≡ length (fixed k)
  width_end i z = ⊎_elim (λ g. omega arith) (λ g. absurd (omega (arith, width_at, (fitting_kind k).positive n g))) (le_or_lt (length (fixed k)) n)

  module _ (h : n < length (fixed k)) where
    pub widths_left : drop n (fixed k) ≡ get_or held n 0 ∷ drop (n + 1) (fixed k)
    widths_left = rw (width_at, add-one) (drop-cons (fixed k) n 0 h)

    pub widths_passed : take (n + 1) (fixed k) ≡ take n (fixed k) ++ (get_or held n 0 ∷ [])
    widths_passed = rw (width_at, add-one) (take-suc (fixed k) n 0 h)

    pub digits_passed : (total (take (n + 1) (fixed k)) ≡ total (take n (fixed k)) + get_or held n 0) × (total (take (n + 1) (fixed k)) ≤ total (fixed k))
    unfolding total
    digits_passed =
        let w : ℕ = get_or held n 0 in
        let parts = ap total (take-append-drop (n + 1) (fixed k)) in (
          omega (arith, ap total widths_passed, total_append (take n (fixed k)) (w ∷ [])),
          omega (arith, parts, total_append (take (n + 1) (fixed k)) (drop (n + 1) (fixed k))),
        )
