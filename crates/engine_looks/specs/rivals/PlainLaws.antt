-- The lowest covered price, over prices alone.
use Rattle.std.specs.Prelude.{ℕ, min, ◌≡◌, refl, Bool, true, false, cond, List, [], ◌∷◌, map, leb}
use Rattle.std.proofs.Common.{ap₂, ◌∙◌}
use mathlib.Core.List.Memᴰ
use Rattle.rules_numbers.specs.Lists.{keep}
use Rattle.rules_numbers.specs.ListLaws.{Each}
use Rattle.rules_forcing.specs.Forcing.{lowest_or}
use Rattle.engine_looks.specs.rivals.Plain.{lowest_covered}

-- where the test t of the listed prices is that the demand d there is at most the supply s
pub lowest_covered_is :
    (s d : ℕ → ℕ) (t : ℕ → Bool) (o : ℕ) (ps : List ℕ) → Each (λ p. leb (d p) (s p) ≡ t p) ps →
    lowest_covered s o ps (map d ps) ≡ lowest_or o (keep t ps)
unfolding lowest_covered lowest_or keep
lowest_covered_is s d t o [] h = refl
lowest_covered_is s d t o (p ∷ ps) h =
    ap₂ (λ (b : Bool) (n : ℕ). cond b (min p n) n) (h p (Memᴰ.head refl)) (lowest_covered_is s d t o ps (λ q i. h q (Memᴰ.tail i))) ∙ go (t p)
  where
    go : (b : Bool) → cond b (min p (lowest_or o (keep t ps))) (lowest_or o (keep t ps)) ≡ lowest_or o (cond b (p ∷ keep t ps) (keep t ps))
    go true = refl
    go false = refl
