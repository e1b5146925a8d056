-- What the functions to the second price ensure, over the arrays of a sound ledger.
use Rattle.std.specs.Prelude.{ℕ, ◌≡◌, Bool, true, false, List, [], replicate}
use Rattle.rules_auction.specs.Ledger.{none, Developer, Ledger}
use Rattle.rules_auction.specs.Clearing.{highest, closing_price, of_each}
use Rattle.rules_auction.specs.Second.{taken_out, remaining, short, second_price}
use Rattle.laws_ledger.specs.Sound.{Sound}
use Rattle.engine_held.specs.declared.history.History.{History}
use Rattle.engine_checks.specs.declared.clock.Settings.{Settings}
use Rattle.engine_auction.specs.Holds.{held_course}
use Rattle.engine_price.specs.price.Prices.{HoldsSettings}
use Rattle.engine_price.specs.declared.second_price.Second.{Second}

-- a developer of whom the kind is read, and how many withdrawals it made
abbrev pub plant_in : ℕ → ℕ → Developer
plant_in kind withdrawals = record {
  declared = record { project = 0; kind = kind; study = 0; day = 0; levels = [] };
  agent = 0;
  quantity = 0;
  withdrawals = replicate withdrawals (record { price = 0; level = 0 });
  offer = none;
  lodged = [];
}

-- true: nobody is taken out
pub record NoneTaken (kinds : List ℕ) (histories : List History) (r : Bool) : Type 0 where
  pub nobody_taken_out : r ≡ true → (l : Ledger) → kinds ≡ of_each (λ x. x.declared.kind) l → histories ≡ of_each held_course l → (k : ℕ) → taken_out l k ≡ false

-- the projects of the ledger with those taken out that have an applied lodged step
pub record Remain (projects kinds : List ℕ) (histories : List History) (r : List ℕ) : Type 0 where
  pub projects_left :
      (l : Ledger) → Sound l → projects ≡ of_each (λ x. x.declared.project) l → kinds ≡ of_each (λ x. x.declared.kind) l → histories ≡ of_each held_course l →
      r ≡ of_each (λ x. x.declared.project) (remaining l)

-- the second price and its mark, from the first price p; `firsts` are the highest levels
pub record SecondPrice (settings : Settings) (closing : ℕ) (projects kinds : List ℕ) (histories : List History) (firsts : List ℕ) (p : ℕ)
    (r : Second) : Type 0 where
  pub price_and_mark :
      (l : Ledger) → HoldsSettings settings l → closing ≡ l.closing → projects ≡ of_each (λ x. x.declared.project) l →
      kinds ≡ of_each (λ x. x.declared.kind) l →
      histories ≡ of_each held_course l → firsts ≡ of_each highest l → p ≡ closing_price l → (r.price ≡ second_price l) × (r.short ≡ short l)
