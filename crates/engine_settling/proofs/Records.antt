-- The records of the winners are those of the rules, one for each level above 0.
use Prim.Native.Nat.{ℕ, suc}
use mathlib.Core.Path.{◌≡◌, refl, sym, ap, ◌∙◌}
use mathlib.Core.Bool.{Bool, true, false, cond}
use mathlib.Core.List.{List, [], ◌∷◌}
use lib.Dec.{eqb}
use lib.ListN.{length}
use Rattle.rules_auction.specs.Ledger.{Ledger}
use Rattle.rules_auction.specs.Award.{winner}
use Rattle.rules_auction.specs.Settling.{record_of, records_from}
use Rattle.engine_award.specs.awarding.Awarding.{winners_from}
use Rattle.engine_award.specs.awarding.AwardingLaws.{winners_length}
use Rattle.engine_award.specs.award_records.Records.{award_count, records_of}
use Rattle.engine_award.specs.award_records.RecordLaws.{records_count}

pub records_are : (l : Ledger) (p k : ℕ) (vs : List ℕ) → records_of k vs (winners_from l p k vs) ≡ records_from l p k vs
unfolding winners_from records_of records_from
records_are l p k [] = refl
records_are l p k (v ∷ vs) = go (eqb v 0) (records_are l p (suc k) vs)
  where
    go :
        (b : Bool) → records_of (suc k) vs (winners_from l p (suc k) vs) ≡ records_from l p (suc k) vs →
        cond b (records_of (suc k) vs (winners_from l p (suc k) vs))
        (record_of k (cond b 0 (winner l p k v)) v ∷ records_of (suc k) vs (winners_from l p (suc k) vs))
        ≡ cond b (records_from l p (suc k) vs) (record_of k (winner l p k v) v ∷ records_from l p (suc k) vs)
    go true e = e
    go false e = ap (λ (rs : List (List ℕ)). record_of k (winner l p k v) v ∷ rs) e

pub records_from_count : (l : Ledger) (p k : ℕ) (vs : List ℕ) → length (records_from l p k vs) ≡ award_count vs
records_from_count l p k vs = ap length (sym (records_are l p k vs)) ∙ records_count k vs (winners_from l p k vs) (winners_length l p k vs)
