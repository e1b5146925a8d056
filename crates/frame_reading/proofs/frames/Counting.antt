-- How many fields follow the fixed ones, read where it stands in a line: in the last two digits of those.
use Prim.Native.Nat.{ℕ, zero, suc, ◌+◌, ◌-◌, ◌*◌, ◌≤◌, ◌<◌}
use mathlib.Core.Path.{◌≡◌, refl, sym, ap, ap₂, ◌∙◌}
use mathlib.Core.Bool.{Bool, ◌||◌}
use mathlib.Core.Logic.{⊎_elim}
use mathlib.Core.List.{List, [], ◌∷◌, ◌++◌}
use native.Mathlib.Omega.{arith}
use borrow.Author.Tests.{eqb-true}
use lib.Dec.{eqb}
use lib.ListN.{length, take, drop, get_or}
use lib.Seq.{drop-drop, take-suc, take-length}
use Rattle.rules_numbers.specs.Cases.{or_true}
use Rattle.rules_numbers.specs.Lists.{total, all}
use Rattle.rules_numbers.specs.ListLaws.{total_append}
use Rattle.rules_format.specs.Hex.{hex_number}
use Rattle.rules_format.specs.Fields.{Row, table_rows, fixed, each, repeats, fields_at}
use Rattle.rules_format.specs.TableLaws.{row_passes}
use Rattle.rules_format.specs.WidthLaws.{take_fields}
use Rattle.frame_bytes.specs.field_table.Fitting.{repeats_are}
use Rattle.frame_reading.proofs.frames.Reading.{counts_few}

-- the field at a place stands behind the digits of those before
field_at : (ws cs : List ℕ) (j : ℕ) → j < length ws → get_or (fields_at ws cs) j 0 ≡ hex_number (take (get_or ws j 0) (drop (total (take j ws)) cs))
unfolding fields_at total
field_at [] cs j h = absurd (omega arith)
field_at (w ∷ ws) cs zero h = refl
field_at (w ∷ ws) cs (suc j) h = rw (sym (drop-drop (total (take j ws)) w cs)) (field_at ws (drop w cs) j (omega arith))

-- a last field of two digits stands in the last two of all digits
last_place : (ws : List ℕ) → 1 ≤ length ws → get_or ws (length ws - 1) 0 ≡ 2 → 2 + total (take (length ws - 1) ws) ≡ total ws
unfolding total
last_place ws h e =
    let n : ℕ = length ws - 1 in
    let m : length ws ≡ suc n = omega arith in
    let parts : ws ≡ take n ws ++ (2 ∷ []) =
    sym (take-length ws) ∙ ap (λ (i : ℕ). take i ws) m ∙ take-suc ws n 0 (omega arith) ∙ ap (λ (w : ℕ). take n ws ++ (w ∷ [])) e in
    omega (arith, ap total parts, total_append (take n ws) (2 ∷ []))

-- where fields follow, the last fixed one has two digits: one computed test over the table
counts_by_two : Row → Bool
counts_by_two r = eqb r.repeated 0 || eqb (get_or r.widths (length r.widths - 1) 0) 2

two_digits : (k : ℕ) → (each k ≡ 0 → ⊥) → get_or (fixed k) (length (fixed k) - 1) 0 ≡ 2
unfolding counts_by_two fixed each all
two_digits k z = ⊎_elim (λ e. absurd (z (eqb-true _ _ e))) (λ e. eqb-true _ _ e) (or_true _ _ (row_passes counts_by_two table_rows refl refl k))

module _ (k : ℕ) (line : List ℕ) where
  abbrev first : List ℕ
  first = fields_at (fixed k) (drop 2 line)

  pub few_follow : repeats k first ≤ 512
  few_follow = counts_few k _ first (drop 2 line) refl (take_fields (fixed k) (drop 2 line))

  pub count_there : (each k ≡ 0 → ⊥) → (2 ≤ total (fixed k)) × (each k * hex_number (take 2 (drop (total (fixed k)) line)) ≡ repeats k first)
  count_there z =
      let ws : List ℕ = fixed k in
      let n : ℕ = length ws - 1 in
      let r = repeats_are k first z in
      let e : get_or ws n 0 ≡ 2 = two_digits k z in
      let p : 2 + total (take n ws) ≡ total ws = last_place ws r.0 e in
      let d : drop (total (take n ws)) (drop 2 line) ≡ drop (total ws) line = drop-drop (total (take n ws)) 2 line ∙ ap (λ (i : ℕ). drop i line) p in
      let f : get_or first n 0 ≡ hex_number (take 2 (drop (total ws) line)) =
      field_at ws (drop 2 line) n (omega (arith, r.0)) ∙ ap₂ (λ (w : ℕ) (cs : List ℕ). hex_number (take w cs)) e d in
      (omega (arith, p), ap (λ (i : ℕ). each k * i) (sym f) ∙ r.1)
