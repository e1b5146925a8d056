-- SUPPLY CURVE BESIDE THE BOOK (document 02, 9), of the auction that any list of calls reaches, refused calls included: the curve that it keeps
-- is the one computed from the histories of the ledger, and reading any place of it gives the number of its points and the point there. A
-- reading takes the auction by value and returns none, so it is no call of a list. It is tied in through the method's own contract, which the
-- method meets (`supply_point_meets` in EveryList).
use Rattle.std.specs.Prelude.{ℕ, ◌≤◌, ◌≡◌, ◌↔◌, length, get_or}
use Rattle.std.proofs.Common.{ap}
use mathlib.Core.List.{List, map, Memᴰ}
use Rattle.rules_numbers.specs.Falling.{Falls}
use Rattle.rules_auction.specs.Ledger.{Call, Ledger}
use Rattle.rules_auction.specs.Clearing.{highest, high, supply}
use Rattle.rules_auction.specs.Rounds.{ledger, Answered}
use Rattle.laws_ledger.specs.reachable.Reachable.{sound}
use Rattle.rules_supply_curve.specs.Curve.{Point, supply_curve, no_point, supplied_at}
use Rattle.rules_supply_curve.specs.CurveLaws.{Joined, WithdrewAt, curve_prices_lem, curve_falls, curve_prices_in, curve_joined, looked_up}
use Rattle.rules_supply_curve.specs.Closings.{curve_few}
use Rattle.engine_curve.specs.kept_curve.Held.{held_curve}
use Rattle.engine_looks.specs.readings.Readings.{supply_point_in}
use Rattle.engine_auction.specs.Holds.{held_auction}
use Rattle.engine_auction.specs.declared.Auction.{Auction}
use Rattle.engine_looks.specs.declared.readings.SupplyPoint.{SupplyPoint}
use Rattle.engine_looks.proofs.readings.supply_point.Reads as reading
use Rattle.statement.specs.EveryList.{Run, run_reached}

-- r is what reading this place of the auction's curve says, as the method's own contract has it
abbrev pub Reads : Auction → ℕ → SupplyPoint → Type 0
Reads a place r = reading.Post tt (a, (place, tt)) r (a, (place, tt))

abbrev pub prices_in : List Point → List ℕ
prices_in xs = map (λ x. x.price) xs

-- the curve xs in words: at most 256 points; the prices fall, each once, and are those at which some developer withdrew; supply after one is
-- supply before the next lower one, and that before the first one is of the highest levels; and supply at any price can be looked up in it
pub record CurveOf (l : Ledger) (xs : List Point) : Type 0 where
  pub at_most_256 : length xs ≤ 256
  pub falls : Falls (prices_in xs)
  pub prices : (p : ℕ) → Memᴰ p (prices_in xs) ↔ ((n : ℕ) × WithdrewAt l p n)
  pub joined : Joined (supply highest l) xs
  pub supplied : (p : ℕ) → supplied_at (supply highest l) xs p ≡ supply (high p) l

pub record CurveStated : Type 1 where
  pub kept : {cs : List Call} {rs : List Answered} {a : Auction} → Run cs rs a → a.curve ≡ held_curve (supply_curve (ledger cs))
  pub entries :
      {cs : List Call} {rs : List Answered} {a : Auction} (place : ℕ) (r : SupplyPoint) → Run cs rs a → Reads a place r →
      r.entries ≡ length (supply_curve (ledger cs))
  pub point :
      {cs : List Call} {rs : List Answered} {a : Auction} (place : ℕ) (r : SupplyPoint) → Run cs rs a → Reads a place r →
      supply_point_in r ≡ get_or (supply_curve (ledger cs)) place no_point
  pub words : (cs : List Call) → CurveOf (ledger cs) (supply_curve (ledger cs))

pub curve_stated : CurveStated
unfolding held_auction
curve_stated = record {
  kept = λ w. ap (λ (x : Auction). x.curve) (run_reached w).0;
  entries = λ {cs} place r w q. q.entries cs (run_reached w).0;
  point = λ {cs} place r w q. q.point cs (run_reached w).0;
  words = λ cs. let l = ledger cs in record {
    at_most_256 = curve_few l (sound cs);
    falls = rw (curve_prices_lem l) (curve_falls l);
    prices = λ p. rw (curve_prices_lem l) (curve_prices_in l p);
    joined = curve_joined l;
    supplied = looked_up l;
  };
}
