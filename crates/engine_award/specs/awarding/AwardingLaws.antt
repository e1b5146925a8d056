-- There are as many developers as levels; and where the arrays are a sound ledger's at a price, the developers are that ledger's.
use Rattle.std.specs.Prelude.{ℕ, suc, ◌≡◌, eqb, length, get_or}
use Rattle.std.proofs.Math.Path.{refl, ap₂}
use Rattle.std.proofs.Common.{ap, ◌∙◌}
use Rattle.std.proofs.Math.Bool.{cond}
use mathlib.Core.List.{List, [], ◌∷◌, map, map-map}
use Rattle.std.proofs.Math.Seq.{take-append_seam}
use Rattle.rules_numbers.specs.Lists.{one_to, last_or, keep}
use Rattle.rules_numbers.specs.Numbered.{at_number}
use Rattle.rules_auction.specs.Ledger.{none, Developer, Ledger, nobody, start, with_developers}
use Rattle.rules_auction.specs.Clearing.{quantity_after, high, low, developers_of, of_each}
use Rattle.rules_auction.specs.Award.{open_to_developer, preferred, most_preferred, first_preferred, winner}
use Rattle.laws_ledger.specs.Sound.{Sound}
use Rattle.engine_held.specs.supply.Reading.{read_place, read_back}
use Rattle.engine_held.specs.levels.Held.{held_levels, levels_in}
use Rattle.engine_award.specs.awarding.Awarding.{winners_from}
use Rattle.engine_award.specs.awarding.Choosing.{standing_in}

pub winners_length : (l : Ledger) (p k : ℕ) (vs : List ℕ) → length (winners_from l p k vs) ≡ length vs
unfolding winners_from
winners_length l p k [] = refl
winners_length l p k (v ∷ vs) = ap suc (winners_length l p (suc k) vs)

-- what is read of a developer
abbrev seen : ℕ → ℕ → ℕ → List ℕ → ℕ → ℕ → Developer
seen project study day levels low high = record {
  declared = record { project = project; kind = 0; study = study; day = day; levels = levels };
  agent = 0;
  quantity = 0;
  withdrawals = record { price = 1; level = high } ∷ record { price = 0; level = low } ∷ [];
  offer = none;
  lodged = [];
}

module _ (l : Ledger) (p : ℕ) where
  -- the ledger with what is read, at its price 0
  abbrev read : Ledger
  read =
      with_developers start (λ n. let x = l.developers n in
      seen x.declared.project x.declared.study x.declared.day x.declared.levels (low p x) (high p x))

  most_same : (n : ℕ) (ns : List ℕ) → most_preferred read n ns ≡ most_preferred l n ns
  unfolding most_preferred preferred
  most_same n [] = refl
  most_same n (m ∷ ns) = most_same (cond (preferred (l.developers m) (l.developers n)) m n) ns

  first_same : (ns : List ℕ) → first_preferred read ns ≡ first_preferred l ns
  unfolding first_preferred
  first_same [] = refl
  first_same (n ∷ ns) = most_same n ns

  winner_same : (k v : ℕ) → winner read 0 k v ≡ winner l p k v
  unfolding winner developers_of open_to_developer low high quantity_after
  winner_same k v = first_same (keep (λ n. open_to_developer p (l.developers n) v) (developers_of l k))

  winners_same : (k : ℕ) (vs : List ℕ) → winners_from read 0 k vs ≡ winners_from l p k vs
  unfolding winners_from
  winners_same k [] = refl
  winners_same k (v ∷ vs) = ap₂ (λ (n : ℕ) (ns : List ℕ). cond (eqb v 0) 0 n ∷ ns) (winner_same k v) (winners_same (suc k) vs)

  module _ (s : Sound l) where
    levels_back : (n : ℕ) → get_or ([] ∷ map levels_in (of_each (λ x. held_levels x.declared.levels) l)) n [] ≡ (l.developers n).declared.levels
    levels_back n =
        ap (λ (xs : List (List ℕ)). get_or ([] ∷ xs) n []) (map-map levels_in (λ (k : ℕ). held_levels (l.developers k).declared.levels) (one_to 32))
        ∙ read_place l s (λ x. levels_in (held_levels x.declared.levels)) [] refl n
        ∙ take-append_seam (l.developers n).declared.levels _

    pub winners_back :
        (k : ℕ) (vs : List ℕ) →
        winners_from (standing_in (of_each (λ x. x.declared.project) l) (of_each (λ x. x.declared.study) l) (of_each (λ x. x.declared.day) l)
        (of_each (λ x. held_levels x.declared.levels) l) (of_each (low p) l) (of_each (high p) l)) 0 k vs ≡ winners_from l p k vs
    unfolding low high quantity_after last_or
    winners_back k vs =
        (λ i. winners_from (with_developers start (λ n. seen
        (back (λ x. x.declared.project) refl n i) (back (λ x. x.declared.study) refl n i) (back (λ x. x.declared.day) refl n i)
        (levels_back n i) (back (low p) refl n i) (back (high p) refl n i))) 0 k vs)
        ∙ winners_same k vs
      where
        back : (f : Developer → ℕ) → f nobody ≡ 0 → (n : ℕ) → at_number (of_each f l) n ≡ f (l.developers n)
        back = read_back l s
