-- What the functions to the closing price ensure, of a sound ledger and of each part of it.
use Rattle.std.specs.Prelude.{ℕ, ◌≤◌, ◌≡◌, Bool, true, List}
use Rattle.rules_auction.specs.Ledger.{Ledger}
use Rattle.rules_auction.specs.Clearing.{highest, supply, covered, closing_price, of_each}
use Rattle.laws_ledger.specs.Sound.{Sound, started}
use Rattle.laws_ledger.specs.Parts.{Part}
use Rattle.rules_supply_curve.specs.Curve.{supply_curve}
use Rattle.engine_curve.specs.kept_curve.Held.{held_curve, lent_curve}
use Rattle.engine_checks.specs.declared.clock.Settings.{Settings}
use Rattle.engine_held.specs.declared.history.History.{History}
use Rattle.engine_auction.specs.Holds.{held_settings, held_course}

-- the settings are those of the sound ledger l, in which a round was opened
pub record HoldsSettings (settings : Settings) (l : Ledger) : Type 0 where
  pub sound : Sound l
  pub began : started l.phase ≡ true
  pub settings_are : settings ≡ held_settings l.settings

-- supply by the curve: m is the whole of l, the words are those of its supply curve, and `first` is the supply of the highest levels
pub record ByCurve (words : List ℕ) (count first : ℕ) (l m : Ledger) : Type 0 where
  pub all : m ≡ l
  pub curve_is : lent_curve words count ≡ held_curve (supply_curve l)
  pub first_is : first ≡ supply highest l

-- supply by the histories: they are those of l, `firsts` its developers' highest levels, and `projects` those of m: a developer that is taken
-- out is in no project
pub record ByHistories (projects : List ℕ) (histories : List History) (firsts : List ℕ) (l m : Ledger) : Type 0 where
  pub histories_are : histories ≡ of_each held_course l
  pub firsts_are : firsts ≡ of_each highest l
  pub projects_are : projects ≡ of_each (λ x. x.declared.project) m

-- whether p is covered in m, which is l or a part of it, for a price that the clock passed
pub record CoveredAt (settings : Settings) (By : Ledger → Ledger → Type 0) (p : ℕ) (r : Bool) : Type 0 where
  pub tells : (l m : Ledger) → HoldsSettings settings l → Part l m → By l m → l.closing ≤ p → p ≤ l.settings.a → r ≡ covered m p

-- the closing price of m; A where no price is covered
pub record ClosingPrice (settings : Settings) (closing : ℕ) (By : Ledger → Ledger → Type 0) (r : ℕ) : Type 0 where
  pub lowest : (l m : Ledger) → HoldsSettings settings l → closing ≡ l.closing → Part l m → By l m → r ≡ closing_price m

-- the closing price of m, whose covered prices a test tells, as far as the clock passed them; `Says p t`: the test may say t of p
pub record LowestCovered (settings : Settings) (closing : ℕ) (Says : ℕ → Bool → Type 0) (r : ℕ) : Type 0 where
  pub lowest :
      (l m : Ledger) → HoldsSettings settings l → closing ≡ l.closing → Part l m →
      ((p : ℕ) (t : Bool) → l.closing ≤ p → p ≤ l.settings.a → Says p t → t ≡ covered m p) → r ≡ closing_price m
