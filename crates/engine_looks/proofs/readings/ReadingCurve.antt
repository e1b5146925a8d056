-- The supply curve read (document 02, 9): its points are those of the ledger that the auction holds.
use Prim.Native.Nat.{ℕ}
use mathlib.Core.Path.{◌≡◌, sym, ap, ap₂, subst, ◌∙◌}
use mathlib.Core.List.{List}
use Rattle.rules_auction.specs.Ledger.{Ledger}
use Rattle.rules_auction.specs.Clearing.{highest, supply}
use Rattle.rules_auction.specs.Rounds.{ledger}
use Rattle.laws_ledger.specs.Sound.{Sound}
use Rattle.laws_ledger.specs.reachable.Reachable.{sound}
use Rattle.rules_supply_curve.specs.Curve.{supply_curve}
use Rattle.rules_supply_curve.specs.CurveLaws.{Joined, curve_joined}
use Rattle.rules_supply_curve.specs.Closings.{curve_few}
use Rattle.engine_held.specs.supply.ByProject.{supply_of}
use Rattle.engine_held.specs.supply.ByProjectLaws.{supply_of_lem}
use Rattle.engine_curve.specs.highs_and_lows.Lows.{Highests}
use Rattle.engine_curve.specs.kept_curve.Held.{held_curve, PointAt}
use Rattle.engine_curve.specs.kept_curve.HeldLaws.{curve_fits}
use Rattle.engine_curve.specs.declared.kept_curve.CurvePoint.{CurvePoint}
use Rattle.engine_auction.specs.declared.Auction.{Auction}
use Rattle.engine_looks.specs.declared.readings.SupplyPoint.{SupplyPoint}
use Rattle.engine_auction.specs.Holds.{held_auction}
use Rattle.engine_looks.specs.readings.Readings.{ReadsCurve}

module _ (a : Auction) (place : ℕ) (firsts : List ℕ) (first : ℕ) (p : CurvePoint) where
  -- what the reading says
  abbrev pub said : SupplyPoint
  said = record { entries = a.curve.count; price = p.price; before = p.before; after = p.after }

  module _ (highests : Highests a.declared firsts) (first_is : first ≡ supply_of a.projects firsts) (read : PointAt a.curve first place p) where
    first_held : (l : Ledger) → Sound l → a ≡ held_auction l → first ≡ supply highest l
    unfolding held_auction
    first_held l s h =
        first_is ∙ ap₂ (λ (ks qs : List ℕ). supply_of ks qs) (λ i. (h i).projects) (highests.highest_are l s (λ i. (h i).declared)) ∙ supply_of_lem highest l

    pub reads_curve : ReadsCurve a place said
    unfolding held_auction held_curve
    reads_curve = record {
      entries = λ cs h. ap (λ (x : Auction). x.curve.count) h;
      point = λ cs h. let l = ledger cs in let s = sound cs in read.point_is (supply_curve l) (λ i. (h i).curve) (curve_few l s) (curve_fits l s)
          (subst (λ (n : ℕ). Joined n (supply_curve l)) (sym (first_held l s h)) (curve_joined l));
    }
