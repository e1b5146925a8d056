-- The award records of a ledger stand by rising project number: those of the projects from k on have first bytes from k on.
use Rattle.std.specs.Prelude.{ℕ, zero, suc, ◌≤◌, ◌<◌, Bool, true, false, cond, eqb, length, get_or}
use mathlib.Core.List.{List, [], ◌∷◌}
use Rattle.std.proofs.Common.{arith}
use Rattle.rules_auction.specs.Ledger.{Ledger}
use Rattle.rules_auction.specs.Award.{award, winner}
use Rattle.rules_auction.specs.Settling.{record_of, records_from, records}
use Rattle.statement.specs.settling.AwardRecords.{first_byte, ByRisingProject}

-- records of projects from k on
abbrev FromProject : ℕ → List (List ℕ) → Type 0
FromProject k rs = (i : ℕ) → i < length rs → k ≤ first_byte (get_or rs i [])

-- one more in front, of project k, or none
module _ (k n v : ℕ) (rs : List (List ℕ)) where
  from_one_more : (b : Bool) → FromProject (suc k) rs → FromProject k (cond b rs (record_of k n v ∷ rs))
  from_one_more true f i h = let g = f i h in omega arith
  from_one_more false f zero h = omega arith
  from_one_more false f (suc i) h = let g = f i (omega arith) in omega arith

  rising_one_more : (b : Bool) → FromProject (suc k) rs → ByRisingProject rs → ByRisingProject (cond b rs (record_of k n v ∷ rs))
  rising_one_more true f r i h = r i h
  rising_one_more false f r zero h = f 0 (omega arith)
  rising_one_more false f r (suc i) h = r i (omega arith)

module _ (l : Ledger) (p : ℕ) where
  from_project : (k : ℕ) (vs : List ℕ) → FromProject k (records_from l p k vs)
  unfolding records_from
  from_project k [] = λ i h. absurd (omega arith)
  from_project k (v ∷ vs) = from_one_more k (winner l p k v) v (records_from l p (suc k) vs) (eqb v 0) (from_project (suc k) vs)

  rising_from : (k : ℕ) (vs : List ℕ) → ByRisingProject (records_from l p k vs)
  unfolding records_from
  rising_from k [] = λ i h. absurd (omega arith)
  rising_from k (v ∷ vs) =
      rising_one_more k (winner l p k v) v (records_from l p (suc k) vs) (eqb v 0) (from_project (suc k) vs) (rising_from (suc k) vs)

  pub records_rise : ByRisingProject (records l p)
  unfolding records
  records_rise = rising_from 1 (award l p)
