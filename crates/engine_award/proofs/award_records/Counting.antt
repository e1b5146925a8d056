-- How many levels are above 0: `keep` keeps as many as `count_by` counts.
use Rattle.std.proofs.Common.{ℕ, ◌+◌, ◌≡◌, sym, List, ◌∷◌, length, refl, arith}
use mathlib.Core.Bool.{Bool, true, false, cond}
use Rattle.std.specs.List.{count_by}
use Rattle.std.proofs.lemmas.List.Recursion.{is_count_by}
use lib.Dec.{ltb}
use Rattle.rules_numbers.specs.Lists.{keep}
use Rattle.engine_award.specs.award_records.Records.{award_count}

pub counted : (vs : List ℕ) → count_by (ltb 0) vs ≡ award_count vs
unfolding keep
counted vs = sym (is_count_by award_count (ltb 0) refl (λ x xs. go (ltb 0 x) x (keep (ltb 0) xs)) vs)
  where
    go : (b : Bool) (x : ℕ) (kept : List ℕ) → length (cond b (x ∷ kept) kept) ≡ cond b (1 + length kept) (length kept)
    go true x kept = omega arith
    go false x kept = refl
