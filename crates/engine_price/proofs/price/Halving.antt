-- Supply at p by the curve and by the histories, covered at p, and the prices among which the lowest covered one lies.
use Prim.Native.Nat.{ℕ, suc, ◌+◌, ◌≤◌, ◌<◌}
use mathlib.Core.Path.{◌≡◌, sym, ap, ap₂, ◌∙◌, subst, subst₂}
use mathlib.Core.Bool.{Bool, true, false}
use mathlib.Core.List.{List}
use native.Mathlib.Omega.{arith}
use lib.Dec.{leb}
use Rattle.rules_numbers.specs.Least.{Bracket, bracket_start, bracket_down, bracket_up, bracket_end}
use Rattle.rules_auction.specs.Ledger.{Ledger}
use Rattle.rules_auction.specs.Clearing.{high as high_at, low as low_at, supply, covered, of_each}
use Rattle.laws_ledger.specs.Parts.{Part}
use Rattle.laws_ledger.specs.clearing.ClosingPrice.{settings_facts, passed_in_range, part_demand, covered_rises, part_closing_price}
use Rattle.rules_supply_curve.specs.Curve.{supply_curve, supplied_at}
use Rattle.rules_supply_curve.specs.CurveLaws.{looked_up}
use Rattle.rules_supply_curve.specs.Closings.{curve_few}
use Rattle.engine_held.specs.supply.ByProject.{supply_of}
use Rattle.engine_held.specs.supply.ByProjectLaws.{supply_of_part}
use Rattle.engine_curve.specs.kept_curve.Held.{SuppliedAt}
use Rattle.engine_curve.specs.kept_curve.HeldLaws.{curve_fits}
use Rattle.engine_checks.specs.clock.Reading.{demanded_at}
use Rattle.engine_checks.specs.clock.Demands.{demand_is}
use Rattle.engine_checks.specs.declared.clock.Settings.{Settings}
use Rattle.engine_held.specs.declared.history.History.{History}
use Rattle.engine_curve.specs.highs_and_lows.Lows.{Lows, next_price}
use Rattle.engine_curve.specs.highs_and_lows.PriceLaws.{next_price_lem}
use Rattle.engine_price.specs.price.Prices.{HoldsSettings, ByCurve, ByHistories, CoveredAt, LowestCovered}

-- ---- supply at p

module _ (settings : Settings) (p s : ℕ) where
  -- s is total supply at p, for a price that the clock passed
  pub record SupplyAt (By : Ledger → Ledger → Type 0) : Type 0 where
    pub supply_is : (l m : Ledger) → HoldsSettings settings l → Part l m → By l m → l.closing ≤ p → p ≤ l.settings.a → s ≡ supply (high_at p) m

  pub supply_looked_up : (words : List ℕ) (count first : ℕ) → SuppliedAt words count first p s → SupplyAt (ByCurve words count first)
  supply_looked_up words count first w = record {
    supply_is = λ l m q t v low high.
        w.supply_is (supply_curve l) v.curve_is (curve_few l q.sound) (curve_fits l q.sound)
        ∙ ap (λ (n : ℕ). supplied_at n (supply_curve l) p) v.first_is ∙ looked_up l p ∙ ap (supply (high_at p)) (sym v.all);
  }

  pub supply_walked :
      (projects : List ℕ) (histories : List History) (firsts : List ℕ) (next : ℕ) (highs : List ℕ) →
      next ≡ next_price p → Lows histories firsts next highs → s ≡ supply_of projects highs → SupplyAt (ByHistories projects histories firsts)
  unfolding high_at low_at
  supply_walked projects histories firsts next highs n w f = record {
    supply_is = λ l m q t v low high.
        let b = settings_facts l q.sound q.began in
        let k : next ≡ suc p = n ∙ next_price_lem p (let z = b.bounds.ce_high in let y = b.high in omega arith) in
        let ls : highs ≡ of_each (low_at next) l = w.lows_are l q.sound v.histories_are v.firsts_are in
        let hs : highs ≡ of_each (high_at p) l = subst (λ (x : ℕ). highs ≡ of_each (low_at x) l) k ls in
        f ∙ ap₂ supply_of v.projects_are hs ∙ supply_of_part (high_at p) l m t.each;
  }

  -- covered at p
  pub covered_is : (By : Ledger → Ledger → Type 0) (d : ℕ) → d ≡ (demanded_at settings p).value → SupplyAt By → CoveredAt settings By p (leb d s)
  unfolding covered
  covered_is By d e w = record {
    tells = λ l m q t v low high.
        let b = settings_facts l q.sound q.began in
        let r = passed_in_range l q.sound q.began p low high in
        ap₂ (λ (x y : ℕ). leb x y)
        (e ∙ ap (λ (x : Settings). (demanded_at x p).value) q.settings_are ∙ demand_is _ _ _ _ _ b.bounds r ∙ sym (part_demand l m t p))
        (w.supply_is l m q t v low high);
  }

-- ---- halving

-- of the prices that the clock passed, m's lowest covered one, or A, is from lo to hi
abbrev Holds : Ledger → Ledger → ℕ → ℕ → Type 0
Holds l m lo hi = Bracket (covered m) l.closing l.settings.a lo hi

module _ (settings : Settings) (closing : ℕ) (Says : ℕ → Bool → Type 0) where
  -- what is said of the prices that the clock passed is whether m covers them
  abbrev Telling : Ledger → Ledger → Type 0
  Telling l m = (p : ℕ) (t : Bool) → l.closing ≤ p → p ≤ l.settings.a → Says p t → t ≡ covered m p

  pub record Halving (lo hi : ℕ) : Type 0 where
    pub holds : (l m : Ledger) → HoldsSettings settings l → closing ≡ l.closing → Part l m → Telling l m → Holds l m lo hi

  pub halving_first : Halving closing settings.a
  halving_first = record {
    holds = λ l m q e t v. subst₂ (λ (x : ℕ) (y : Settings). Holds l m x y.a) (sym e) (sym q.settings_are)
        (bracket_start (covered m) l.closing l.settings.a (let p = q.sound.prices q.began in omega arith));
  }

  module _ (lo hi : ℕ) (w : Halving lo hi) where
    module _ (mid : ℕ) (low : lo ≤ mid) (high : mid < hi) where
      pub halving_down : Says mid true → Halving lo mid
      halving_down c = record {
        holds = λ l m q e u v.
            let k = w.holds l m q e u v in
            let t = v mid true (let f = k.from in omega arith) (let f = k.to in omega arith) c in
            bracket_down (covered m) l.closing l.settings.a lo hi mid k low high (sym t);
      }

      pub halving_up : Says mid false → Halving (mid + 1) hi
      halving_up c = record {
        holds = λ l m q e u v.
            let k = w.holds l m q e u v in
            let t = v mid false (let f = k.from in omega arith) (let f = k.to in omega arith) c in
            bracket_up (covered m) l.closing l.settings.a lo hi mid (covered_rises l q.sound q.began m u) k low high (sym t);
      }

    pub halving_end : hi ≤ lo → LowestCovered settings closing Says lo
    halving_end h = record {
      lowest = λ l m q e t v. part_closing_price l m t lo (bracket_end (covered m) l.closing l.settings.a lo hi (w.holds l m q e t v) h);
    }
