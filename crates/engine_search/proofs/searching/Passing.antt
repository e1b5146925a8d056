-- Rows with one level are in every choice: going through the rows behind them with their levels in the total is going through all.
use Prim.Native.Nat.{ℕ, ◌+◌, ◌≤◌, ◌<◌}
use mathlib.Core.Path.{◌≡◌, refl, sym, ap, subst, ◌∙◌}
use mathlib.Core.Logic.{⊎_elim}
use mathlib.Core.List.Memᴰ
use mathlib.Core.List.{List, [], ◌∷◌, ◌++◌, map, map-append}
use native.Mathlib.Omega.{arith}
use native.Mathlib.Nat.{add-zero, zero-add, add_assoc}
use native.Mathlib.Numerals.{add-one}
use lib.ListN.{length, take, drop, get_or, take-append-drop}
use lib.Seq.{take-suc}
use Rattle.rules_numbers.specs.Lists.{total}
use Rattle.rules_numbers.specs.ListLaws.{Each, total_append}
use Rattle.rules_choices.specs.Search.{low_of, lowest_total}
use Rattle.rules_choices.specs.EachChoice.{Strided, row_of, each_level, each_choice}
use Rattle.engine_table.specs.table.Places.{ValidTable, start_of, row_in}
use Rattle.engine_table.specs.table.PlaceLaws.{row_ends, row_length, row_low, row_valid}
use Rattle.engine_search.specs.rows_behind.Behind.{Orders}
use Rattle.engine_search.specs.rows_behind.InOrder.{number_at, order_cons, low_fits}
use Rattle.engine_search.specs.searching.Going.{Passed}
use Rattle.engine_search.proofs.searching.Rows.{strided_in, left_in}

each_single : {S : Type 0} (f : ℕ → ℕ → S → S) (s : ℕ) (row : List ℕ) (t i : ℕ) (x : S) → length row ≡ 1 → each_level f s row t i x ≡ f (t + low_of row) i x
unfolding each_level
each_single f s [] t i x e = absurd (omega arith)
each_single f s (v ∷ []) t i x e = refl
each_single f s (v ∷ w ∷ vs) t i x e = absurd (omega arith)

each_choice_single : {S : Type 0} (g : ℕ → ℕ → S → S) (s : ℕ → Strided) (ks : List ℕ) (rs : List Strided) (t i : ℕ) (x : S) →
    Each (λ k. length (row_of (s k)) ≡ 1) ks →
    each_choice g (map s ks ++ rs) t i x ≡ each_choice g rs (t + lowest_total (map (λ k. row_of (s k)) ks)) i x
unfolding each_choice lowest_total total
each_choice_single g s [] rs t i x h = rw (add-zero t)
each_choice_single g s (k ∷ ks) rs t i x h =
    each_single (each_choice g (map s ks ++ rs)) (s k).0 (s k).1 t i x (h k (Memᴰ.head refl))
    ∙ each_choice_single g s ks rs (t + low_of (s k).1) i x (λ j m. h j (Memᴰ.tail m))
    ∙ rw (add_assoc t (low_of (s k).1) (lowest_total (map (λ k. row_of (s k)) ks)))

lowest_total_snoc : (rows : List (List ℕ)) (row : List ℕ) → lowest_total (rows ++ (row ∷ [])) ≡ lowest_total rows + low_of row
unfolding lowest_total total
lowest_total_snoc rows row =
    ap total (map-append low_of rows (row ∷ [])) ∙ total_append (map low_of rows) (low_of row ∷ []) ∙ ap (λ (n : ℕ). lowest_total rows + n) (add-zero (low_of row))

module _ {levels ends order : List ℕ} (t : ValidTable levels ends) (o : Orders levels ends order) where
  pub passed_first : Passed levels ends order 0 0
  unfolding lowest_total total
  passed_first = record { place = omega arith; single = λ k m. absurd (Memᴰ.not-nil m); sum = refl; base_fits = omega arith }

  module _ {i base : ℕ} (p : Passed levels ends order i base) where
    abbrev k : ℕ
    k = get_or order i 0

    pub number : k < 32
    number = number_at t o i p.place

    pub row_inside : (start_of ends k < get_or ends k 0) × (get_or ends k 0 ≤ 288)
    row_inside = row_ends t k number

    pub level_fits : get_or levels (start_of ends k) 0 ≤ 1000000000
    level_fits = rw (row_low t k number) (low_fits (row_in levels ends k) (row_valid t k number))

    pub passed_next : i + 1 < 32 → get_or ends k 0 ≤ start_of ends k + 1 → Passed levels ends order (i + 1) (base + get_or levels (start_of ends k) 0)
    passed_next h e =
        let f : ℕ → List ℕ = row_in levels ends in
        let more : take (i + 1) order ≡ take i order ++ (k ∷ []) = rw (add-one i, take-suc order i 0 (omega (arith, o.long))) in
        let one : length (row_in levels ends k) ≡ 1 = omega (arith, row_length t k number, row_inside.0) in
        record {
          place = h;
          single =
              rw more (λ j m. ⊎_elim (p.single j) (λ n. subst (λ (l : ℕ). length (f l) ≡ 1) (sym (Memᴰ.eq_of_singleton n)) one)
              (Memᴰ.append_cases (take i order) m));
          sum =
              let m : map f (take (i + 1) order) ≡ map f (take i order) ++ (f k ∷ []) = ap (map f) more ∙ map-append f (take i order) (k ∷ []) in
              omega (arith, p.sum, ap lowest_total m, lowest_total_snoc (map f (take i order)) (f k), row_low t k number);
          base_fits = omega (arith, p.base_fits, level_fits);
        }

    -- all choices, and those that are left at the place
    pub passed_choices : {S : Type 0} (g : ℕ → ℕ → S → S) (strides : List ℕ) (x : S) →
        each_choice g (left_in levels ends order strides i (start_of ends k)) base 0 x ≡ each_choice g (map (strided_in levels ends strides) order) 0 0 x
    passed_choices g strides x =
        let s : ℕ → Strided = strided_in levels ends strides in
        let l : left_in levels ends order strides i (start_of ends k) ≡ map s (drop i order) = ap (map s) (sym (order_cons t o i p.place)) in
        let b : base ≡ 0 + lowest_total (map (row_in levels ends) (take i order)) = p.sum ∙ sym (zero-add _) in
        let a : map s order ≡ map s (take i order) ++ map s (drop i order) = ap (map s) (sym (take-append-drop i order))
        ∙ map-append s (take i order) (drop i order) in
        rw (l, b, a) (sym (each_choice_single g s (take i order) (map s (drop i order)) 0 0 x p.single))
