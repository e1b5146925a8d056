-- Of a sound ledger with a round opened: where a price that the clock passed is covered, so are those above it; and the closing price is
-- the lowest covered one. Of a part of it, from which developers are taken out: the same order, but A may not be covered.
use Rattle.std.specs.Prelude.{ℕ, ◌-◌, ◌≤◌, ◌≡◌, refl, true, false}
use Rattle.std.proofs.Common.{sym, ap, ◌∙◌}
use Rattle.std.proofs.Math.Path.{ap₂}
use Rattle.std.proofs.lemmas.Bool.{false≢true}
use native.Mathlib.Omega.{arith}
use borrow.Author.Tests.{leb-true, le-leb}
use Rattle.rules_numbers.specs.Least.{least_from, Sought, Least, Rising, sought_from, sought_is, sought_least}
use Rattle.rules_demand.specs.Demand.{dem, InRange}
use Rattle.rules_demand.specs.Order.{dem_falls}
use Rattle.rules_auction.specs.Ledger.{Settings, Phase, Fresh, Ready, Round, Between, Closed, Ledger}
use Rattle.rules_auction.specs.Clearing.{high, supply, demand_at, covered, closing_price}
use Rattle.rules_auction.specs.Refusals.{is_fresh, is_closed}
use Rattle.rules_auction.specs.CheckLaws.{InSettings, in_settings}
use Rattle.laws_ledger.specs.Sound.{started, Sound}
use Rattle.laws_ledger.specs.Parts.{Part}
use Rattle.laws_ledger.specs.clearing.Supply.{supply_rises}

pub started_not_fresh : (h : Phase) → started h ≡ true → is_fresh h ≡ false
started_not_fresh Fresh e = absurd (false≢true e)
started_not_fresh Ready e = refl
started_not_fresh Round e = refl
started_not_fresh Between e = refl
started_not_fresh Closed e = refl

pub closed_started : (h : Phase) → is_closed h ≡ true → started h ≡ true
closed_started Fresh e = e
closed_started Ready e = e
closed_started Round e = refl
closed_started Between e = refl
closed_started Closed e = refl

-- ---- a part of a ledger has its demand, and its closing price is what a search by the ledger's prices finds: A where no price is covered

module _ (l m : Ledger) (t : Part l m) where
  pub part_demand : (p : ℕ) → demand_at m p ≡ demand_at l p
  part_demand p = ap (λ (x : Settings). dem x.ce x.d x.m1 x.m2 p) t.settings

  pub part_closing_price : (r : ℕ) → Sought (covered m) l.closing l.settings.a r → r ≡ closing_price m
  unfolding closing_price
  part_closing_price r x =
      sought_is (covered m) l.closing l.settings.a r x
      ∙ ap₂ (λ (c a : ℕ). least_from (covered m) c (a - c)) (sym t.closing) (ap (λ (x : Settings). x.a) (sym t.settings))

-- ---- of a sound ledger with a round opened

module _ (l : Ledger) (s : Sound l) (e : started l.phase ≡ true) where
  pub settings_facts : InSettings l.settings
  settings_facts = in_settings l.settings (s.settings (started_not_fresh l.phase e))

  -- a price from the last C to A is one at which Dem may be asked
  pub passed_in_range : (p : ℕ) → l.closing ≤ p → p ≤ l.settings.a → InRange l.settings.ce p
  passed_in_range p h g = let k = s.prices e in let b = settings_facts in record { low = omega arith; high = omega arith }

  pub demand_falls : (p r : ℕ) → l.closing ≤ p → p ≤ r → r ≤ l.settings.a → demand_at l r ≤ demand_at l p
  demand_falls p r h i g =
      dem_falls l.settings.ce l.settings.d l.settings.m1 l.settings.m2 p r settings_facts.bounds (passed_in_range p h (omega arith))
      (passed_in_range r (omega arith) g) i

  -- of each part of the ledger
  pub covered_rises : (m : Ledger) → Part l m → Rising (covered m) l.closing l.settings.a
  unfolding covered
  covered_rises m t p r h i g c =
      le-leb (demand_at m r) (supply (high r) m)
      (omega (
        arith,
        leb-true (demand_at m p) (supply (high p) m) c,
        demand_falls p r h i g,
        part_demand l m t p,
        part_demand l m t r,
        supply_rises l s m t p r i,
      ))

  -- A is covered, so the closing price is
  pub closing_price_lem : Least (covered l) l.closing l.settings.a (closing_price l)
  unfolding closing_price
  closing_price_lem =
      sought_least (covered l) l.closing l.settings.a (closing_price l) (s.start_covered_lem e)
      (sought_from (covered l) l.closing l.settings.a (let k = s.prices e in omega arith))
