-- Where every row rises strictly, the choices are listed in the tie rule's order: a later one is larger.
use Rattle.std.specs.Prelude.{ℕ, ◌<◌, ◌≡◌, refl, true, List}
use Rattle.std.proofs.Common.{inl, inr}
use Rattle.rules_numbers.specs.ListLaws.{Each}
use Rattle.rules_choices.specs.Choices.{choices, larger}
use Rattle.rules_choices.specs.Pairwise.{Pairwise, StrictlyRising}
use Rattle.rules_choices.specs.Count.{choices_pairwise}
use Rattle.rules_choices.specs.Larger.{larger_cons}

pub later_larger : (rows : List (List ℕ)) → Each StrictlyRising rows → Pairwise (λ c e. larger e c ≡ true) (choices rows)
later_larger = choices_pairwise ◌<◌ (λ c e. larger e c ≡ true) (λ v w c e h. (larger_cons w v e c).1 (inl h)) (λ v c e h. (larger_cons v v e c).1 (inr (refl, h)))
