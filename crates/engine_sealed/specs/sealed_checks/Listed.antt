-- A list as what stands at its places, and what holds at every place.
use Rattle.std.specs.Prelude.{ℕ, zero, suc, ◌+◌, ◌≡◌, length, get_or, drop}
use Rattle.std.proofs.Common.{sym, ap, ◌∙◌, subst, arith, drop_of_length-le, drop-cons}
use mathlib.Core.List.{List, ◌∷◌, map, Memᴰ}
use Rattle.rules_numbers.specs.ListLaws.{Each, in_map}
use Rattle.rules_choices.specs.insertion.Numbers.{numbers_from}

listed_from : (xs : List ℕ) (k n : ℕ) → k + n ≡ length xs → map (λ j. get_or xs j 0) (numbers_from k n) ≡ drop k xs
unfolding numbers_from
listed_from xs k zero h = sym (drop_of_length-le xs {i = k} (omega arith))
listed_from xs k (suc n) h =
    ap {B = List ℕ} (λ ys. get_or xs k 0 ∷ ys) (listed_from xs (suc k) n (omega arith)) ∙ sym (drop-cons xs k 0 (omega arith))

pub listed : (xs : List ℕ) → map (λ j. get_or xs j 0) (numbers_from 0 (length xs)) ≡ xs
listed xs = listed_from xs 0 (length xs) (omega arith)

pub each_listed : (P : ℕ → Type 0) (xs : List ℕ) → Each (λ k. P (get_or xs k 0)) (numbers_from 0 (length xs)) → Each P xs
each_listed P xs h x m =
    let r = (in_map (λ j. get_or xs j 0) x (numbers_from 0 (length xs))).0 (subst (λ (ys : List ℕ). Memᴰ x ys) (sym (listed xs)) m) in
    subst P (sym r.2) (h r.0 r.1)
