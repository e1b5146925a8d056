-- What the code's tests of a developer say: the values of `may_get` and `better`.
use Prim.Native.Nat.{ℕ, zero, suc, ◌+◌, ◌-◌, ◌<◌}
use mathlib.Core.Path.{◌≡◌, refl, sym}
use mathlib.Core.Bool.{Bool, false, cond, ◌&&◌, ◌||◌}
use mathlib.Core.List.{List}
use native.Mathlib.Omega.{arith}
use native.Mathlib.Numerals.{add-one}
use lib.Dec.{eqb, ltb, eqb-suc-zero}
use lib.ListN.{get_or}
use borrow.Author.Tests.{le-ltb}
use Rattle.rules_numbers.specs.Numbered.{at_number}
use Rattle.rules_auction.specs.Award.{preferred, most_preferred}
use Rattle.engine_award.specs.awarding.Choosing.{preferences_in, may_get, better}

-- ---- a level above 0 that is open

pub no_level_lem : (ls : List ℕ) (low high v : ℕ) → v < 1 → false ≡ may_get ls low high v
unfolding may_get
no_level_lem ls low high v h = rw (le-ltb 0 v (omega arith))

-- ---- the preferred one of developer m and developer i + 1

module _ (studies days : List ℕ) where
  -- the later one is preferred, by the code's tests
  abbrev pub later_wins : ℕ → ℕ → Bool
  later_wins m i =
      ltb (get_or studies (m - 1) 0) (get_or studies i 0) || (eqb (get_or studies i 0) (get_or studies (m - 1) 0) && ltb (get_or days i 0) (get_or days (m - 1) 0))

  pub first_one : (m i : ℕ) → m ≡ 0 → i + 1 ≡ better (preferences_in studies days) m (i + 1)
  unfolding better
  first_one m i e = rw e

  pub by_tests : (m i : ℕ) (b : Bool) → (m ≡ 0 → ⊥) → later_wins m i ≡ b → cond b (i + 1) m ≡ better (preferences_in studies days) m (i + 1)
  unfolding better most_preferred preferred at_number
  by_tests zero i b n e = absurd (n refl)
  by_tests (suc m) i b n e = let d : suc m - 1 ≡ m = omega arith in rw (eqb-suc-zero m, add-one i, sym (rw d at e))
