-- A number sought among the first n of a list, in step with a loop: it is among those that are left exactly if it is among all.
use Rattle.std.specs.Prelude.{ℕ, ◌+◌, ◌≤◌, ◌<◌, ◌≡◌, refl, true, false, ◌||◌, ◌⊎◌, List, ◌∷◌, eqb, take}
use Rattle.std.proofs.Common.{sym, ◌∙◌, arith, add-one, drop_of_length-le, drop-cons, eq-eqb, ne_eqb}
use Rattle.std.proofs.Math.Path.{ap}
use Rattle.std.proofs.Math.Logic.{⊎_elim}
use Rattle.std.proofs.Math.ListN.{length, get_or, drop, length-take}
use Rattle.std.proofs.Math.Seq.{get_or-take}
use Rattle.rules_numbers.specs.Lists.{any, member}

module _ (v n : ℕ) (xs : List ℕ) where
  -- the loop before place i
  pub record Sought (i : ℕ) : Type 0 where
    pub within : i ≤ length xs
    pub left : member v (drop i (take n xs)) ≡ member v (take n xs)

  pub sought_first : Sought 0
  sought_first = record { within = omega arith; left = refl }

  module _ (i : ℕ) (s : Sought i) where
    pub sought_end : (n ≤ i) ⊎ (length xs ≤ i) → false ≡ member v (take n xs)
    unfolding any
    sought_end h =
        let few : length (take n xs) ≤ i = ⊎_elim (λ k. omega (arith, length-take n xs)) (λ k. omega (arith, length-take n xs)) h in
        ap (member v) (sym (drop_of_length-le (take n xs) few)) ∙ s.left

    module _ (h : i < n) (g : i < length xs) where
      sought_turn : eqb v (get_or xs i 0) || member v (drop (i + 1) (take n xs)) ≡ member v (take n xs)
      unfolding any
      sought_turn =
          let e : get_or (take n xs) i 0 ≡ get_or xs i 0 = get_or-take n xs i 0 h in
          let d : drop i (take n xs) ≡ get_or xs i 0 ∷ drop (i + 1) (take n xs) = rw (← e, add-one)
          (drop-cons (take n xs) i 0 (omega (arith, length-take n xs))) in
          ap (member v) (sym d) ∙ s.left

      pub sought_again : (get_or xs i 0 ≡ v → ⊥) → Sought (i + 1)
      sought_again e = record { within = omega arith; left = rw (ne_eqb v (get_or xs i 0) (λ k. e (sym k))) at sought_turn }

      pub sought_found : get_or xs i 0 ≡ v → true ≡ member v (take n xs)
      sought_found e = rw (eq-eqb v (get_or xs i 0) (sym e)) at sought_turn
