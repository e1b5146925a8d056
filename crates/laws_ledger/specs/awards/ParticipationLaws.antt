-- Insufficient participation (document 02, 10) in words: sufficient awards and the price paid to existing plants; and the grants judged are those of
-- the award records.
use Rattle.std.specs.Prelude.{ℕ, suc, min, ◌*◌, ◌/◌, ◌≤◌, ◌<◌, ◌≡◌, refl, ◌↔◌, Bool, true, false, cond, List, [], ◌∷◌, leb, eqb}
use Rattle.std.proofs.Math.Path.{ap}
use Rattle.std.proofs.Math.Bool.{not}
use Rattle.std.proofs.Common.{arith}
use borrow.Author.Tests.{not-true, leb-false, lt-leb}
use Rattle.rules_auction.specs.Ledger.{Ledger}
use Rattle.rules_auction.specs.Award.{award, winner}
use Rattle.rules_auction.specs.Participation.{Grant, grants_from, grants, new_award, new_to_small, sufficient, price_paid}
use Rattle.rules_auction.specs.Settling.{record_of, records_from, records}

module _ (l : Ledger) (gs : List Grant) where
  -- the mark of insufficient participation
  pub insufficient_exactly : (not (sufficient l gs) ≡ true) ↔ (2 * new_to_small l gs < new_award l gs)
  unfolding sufficient
  insufficient_exactly =
      ((λ e. leb-false _ _ (not-true (leb (new_award l gs) (2 * new_to_small l gs)) e)), (λ h. ap not (lt-leb (new_award l gs) (2 * new_to_small l gs) h)))

  -- ---- the price paid, of the closing price p

  module _ (p : ℕ) where
    pub paid_sufficient : sufficient l gs ≡ true → price_paid l p gs ≡ p
    unfolding price_paid
    paid_sufficient e = rw e

    pub paid_insufficient : sufficient l gs ≡ false → price_paid l p gs ≡ min p (l.settings.ce * 11 / 10)
    unfolding price_paid
    paid_insufficient e = rw e

    pub paid_at_most : price_paid l p gs ≤ p
    paid_at_most = go (sufficient l gs) refl
      where
        go : (b : Bool) → sufficient l gs ≡ b → price_paid l p gs ≤ p
        go true e = omega (arith, paid_sufficient e)
        go false e = omega (arith, paid_insufficient e)

-- ---- the award records: one for each grant, in order, with its developer and quantity

pub data Recorded : List Grant → List (List ℕ) → Type 0 where
  recorded_none : Recorded [] []
  recorded_more : {gs : List Grant} {rs : List (List ℕ)} (g : Grant) (k : ℕ) → Recorded gs rs → Recorded (g ∷ gs) (record_of k g.developer g.quantity ∷ rs)

from_recorded : (l : Ledger) (p k : ℕ) (vs : List ℕ) → Recorded (grants_from l p k vs) (records_from l p k vs)
unfolding grants_from records_from
from_recorded l p k [] = recorded_none
from_recorded l p k (v ∷ vs) = go (eqb v 0) (from_recorded l p (suc k) vs)
  where
    first : Grant
    first = record { developer = winner l p k v; quantity = v }

    go :
        (b : Bool) → Recorded (grants_from l p (suc k) vs) (records_from l p (suc k) vs) →
        Recorded (cond b (grants_from l p (suc k) vs) (first ∷ grants_from l p (suc k) vs))
        (cond b (records_from l p (suc k) vs) (record_of k (winner l p k v) v ∷ records_from l p (suc k) vs))
    go true r = r
    go false r = recorded_more first k r

pub grants_recorded : (l : Ledger) (p : ℕ) → Recorded (grants l p) (records l p)
unfolding grants records
grants_recorded l p = from_recorded l p 1 (award l p)
