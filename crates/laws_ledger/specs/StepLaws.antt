-- The steps of an offer's two lists, where these are equally long: their prices, their levels, how many they are.
use Rattle.std.specs.Prelude.{ℕ, ◌≡◌, refl, List, [], ◌∷◌, length}
use Rattle.std.proofs.Common.{sym, ap, ◌∙◌, arith}
use Rattle.std.proofs.lemmas.List.{length-map}
use Rattle.rules_auction.specs.Rounds.{steps}
use Rattle.laws_ledger.specs.Sound.{prices_of, levels_of}

pub steps_prices : (ps qs : List ℕ) → length ps ≡ length qs → prices_of (steps ps qs) ≡ ps
unfolding steps
steps_prices [] qs e = refl
steps_prices (p ∷ ps) [] e = absurd (omega arith)
steps_prices (p ∷ ps) (q ∷ qs) e = ap (λ (xs : List ℕ). p ∷ xs) (steps_prices ps qs (omega arith))

pub steps_levels : (ps qs : List ℕ) → length ps ≡ length qs → levels_of (steps ps qs) ≡ qs
unfolding steps
steps_levels [] [] e = refl
steps_levels [] (q ∷ qs) e = absurd (omega arith)
steps_levels (p ∷ ps) [] e = absurd (omega arith)
steps_levels (p ∷ ps) (q ∷ qs) e = ap (λ (xs : List ℕ). q ∷ xs) (steps_levels ps qs (omega arith))

pub steps_length : (ps qs : List ℕ) → length ps ≡ length qs → length (steps ps qs) ≡ length ps
steps_length ps qs e = sym (length-map (steps ps qs) (λ s. s.price)) ∙ ap length (steps_prices ps qs e)
