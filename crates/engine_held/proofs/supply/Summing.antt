-- `total` is std's sum of a list.
use Rattle.std.proofs.Common.{ℕ, ◌≡◌, List, refl, sym, sum}
use Rattle.std.proofs.lemmas.List.Recursion.{is_sum_by}
use Rattle.rules_numbers.specs.Lists.{total}

pub sum_total : (xs : List ℕ) → sum xs ≡ total xs
unfolding total
sum_total xs = sym (is_sum_by total (λ x. x) refl (λ x ys. refl) xs)
