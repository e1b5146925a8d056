-- Numbers that follow one another.
use Rattle.std.specs.Prelude.{ℕ, zero, suc, ◌+◌, ◌≤◌, ◌<◌, ◌≡◌, refl, length, get_or}
use Rattle.std.proofs.Common.{ap, ◌∙◌, ⊎_elim, arith}
use mathlib.Core.List.Memᴰ
use mathlib.Core.List.{List, [], ◌∷◌, map, Memᴰ}
use Rattle.rules_numbers.specs.Cases.{le_or_lt}
use Rattle.rules_choices.specs.Pairwise.{StrictlyRising}

-- n numbers, from k on
unfoldable pub numbers_from : ℕ → ℕ → List ℕ
numbers_from k zero = []
numbers_from k (suc n) = k ∷ numbers_from (suc k) n

pub in_numbers : (j k n : ℕ) → Memᴰ j (numbers_from k n) → j < k + n
unfolding numbers_from
in_numbers j k zero m = absurd (Memᴰ.not-nil m)
in_numbers j k (suc n) m = ⊎_elim (λ e. omega arith) (λ h. omega (arith, in_numbers j (suc k) n h)) (Memᴰ.cases_cons m)

pub numbers_in : (j k n : ℕ) → k ≤ j → j < k + n → Memᴰ j (numbers_from k n)
unfolding numbers_from
numbers_in j k zero h g = absurd (omega arith)
numbers_in j k (suc n) h g = ⊎_elim (λ e. Memᴰ.tail (numbers_in j (suc k) n e (omega arith))) (λ e. Memᴰ.head (omega arith)) (le_or_lt (suc k) j)

pub numbers_long : (k n : ℕ) → length (numbers_from k n) ≡ n
unfolding numbers_from
numbers_long k zero = refl
numbers_long k (suc n) = ap suc (numbers_long (suc k) n)

numbers_from_lem : (j k n : ℕ) → Memᴰ j (numbers_from k n) → k ≤ j
unfolding numbers_from
numbers_from_lem j k zero m = absurd (Memᴰ.not-nil m)
numbers_from_lem j k (suc n) m = ⊎_elim (λ e. omega arith) (λ h. omega (arith, numbers_from_lem j (suc k) n h)) (Memᴰ.cases_cons m)

pub numbers_rise : (k n : ℕ) → StrictlyRising (numbers_from k n)
unfolding numbers_from
numbers_rise k zero = tt
numbers_rise k (suc n) = ((λ j m. numbers_from_lem j (suc k) n m), numbers_rise (suc k) n)

-- what a map makes of them, by place
pub map_numbers_nth : (g : ℕ → ℕ) (k n i : ℕ) → i < n → get_or (map g (numbers_from k n)) i 0 ≡ g (k + i)
unfolding numbers_from
map_numbers_nth g k zero i h = absurd (omega arith)
map_numbers_nth g k (suc n) zero h = ap g (omega arith)
map_numbers_nth g k (suc n) (suc i) h = map_numbers_nth g (suc k) n i (omega arith) ∙ ap g (omega arith)
