-- PROMISED of the supply curve (document 02, 9), of every ledger: at a price that is not in it supply does not change, and whether a price is covered
-- can be looked up in it.
use Rattle.std.specs.Prelude.{ℕ, ◌≡◌, leb, ltb}
use Rattle.std.proofs.Math.Path.{sym, ap}
use Rattle.std.proofs.Common.{subst, ◌∙◌, arith}
use Rattle.std.proofs.Math.Logic.{⊎_elim}
use mathlib.Core.List.{Memᴰ}
use borrow.Author.Tests.{le-leb, lt-leb, lt-ltb, le-ltb}
use Rattle.rules_numbers.specs.Cases.{three_way}
use Rattle.rules_auction.specs.Ledger.{Ledger}
use Rattle.rules_auction.specs.Clearing.{highest, high, low, supply, demand_at, covered}
use Rattle.rules_supply_curve.specs.Curve.{withdrawal_prices, supply_curve, supplied_at}
use Rattle.rules_supply_curve.specs.CurveLaws.{supply_by_same, looked_up}

module _ (l : Ledger) where
  -- supply at a price at which nobody withdrew is the same before and after it
  pub unchanged : (p : ℕ) → (Memᴰ p (withdrawal_prices l) → ⊥) → supply (high p) l ≡ supply (low p) l
  unfolding high low
  unchanged p h = supply_by_same l (ltb p) (leb p) (λ q m. ⊎_elim
      (λ e. absurd (h (subst (λ (n : ℕ). Memᴰ n (withdrawal_prices l)) (sym e) m)))
      (⊎_elim (λ g. lt-ltb p q g ∙ sym (le-leb p q (omega arith))) (λ g. le-ltb p q (omega arith) ∙ sym (lt-leb p q g)))
      (three_way p q))

  -- a price is covered exactly where Dem there is at most the supply looked up
  pub covered_looked_up : (p : ℕ) → covered l p ≡ leb (demand_at l p) (supplied_at (supply highest l) (supply_curve l) p)
  unfolding covered
  covered_looked_up p = ap (leb (demand_at l p)) (sym (looked_up l p))
