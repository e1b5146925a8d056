-- Where the arrays are a sound ledger's, participation is that ledger's; and the developers of an award's levels give the award's grants.
use Rattle.std.specs.Prelude.{ℕ, suc, ◌≡◌, refl, Bool, true, false, cond, List, [], ◌∷◌, eqb}
use Rattle.std.proofs.Common.{ap}
use Rattle.rules_numbers.specs.Lists.{last_or}
use Rattle.rules_auction.specs.Ledger.{none, Ledger, with_developers}
use Rattle.rules_auction.specs.Clearing.{highest, of_each}
use Rattle.rules_auction.specs.Award.{winner}
use Rattle.rules_auction.specs.Participation.{existing_plants, is_small, Grant, grants_from, new_award, new_to_small, sufficient}
use Rattle.laws_ledger.specs.Sound.{Sound}
use Rattle.engine_held.specs.supply.Reading.{read_back}
use Rattle.engine_award.specs.awarding.Awarding.{winners_from}
use Rattle.engine_award.specs.participation.Judged.{judged_in, grant_of, grants_in}

pub sufficient_back :
    (l : Ledger) → Sound l → (gs : List Grant) →
    sufficient (judged_in l.settings.d (of_each (λ x. x.agent) l) (of_each (λ x. x.declared.kind) l) (of_each highest l)) gs ≡ sufficient l gs
unfolding sufficient new_award new_to_small is_small existing_plants last_or
sufficient_back l s gs = λ i. sufficient (with_developers l (λ n. record {
  declared = record { project = 0; kind = read_back l s (λ x. x.declared.kind) refl n i; study = 0; day = 0; levels = read_back l s highest refl n i ∷ [] };
  agent = read_back l s (λ x. x.agent) refl n i;
  quantity = 0;
  withdrawals = [];
  offer = none;
  lodged = [];
})) gs

pub grants_are : (l : Ledger) (p k : ℕ) (vs : List ℕ) → grants_in vs (winners_from l p k vs) ≡ grants_from l p k vs
unfolding grants_in winners_from grants_from
grants_are l p k [] = refl
grants_are l p k (v ∷ vs) = go (eqb v 0) (grants_are l p (suc k) vs)
  where
    go :
        (b : Bool) → grants_in vs (winners_from l p (suc k) vs) ≡ grants_from l p (suc k) vs →
        cond b (grants_in vs (winners_from l p (suc k) vs)) (grant_of (cond b 0 (winner l p k v)) v ∷ grants_in vs (winners_from l p (suc k) vs))
        ≡ cond b (grants_from l p (suc k) vs) (grant_of (winner l p k v) v ∷ grants_from l p (suc k) vs)
    go true e = e
    go false e = ap (λ (gs : List Grant). grant_of (winner l p k v) v ∷ gs) e
