-- From what the parts ensure to the closed ledger's figures: all of them are found at p, which is the closing price.
use Prim.Native.Nat.{ℕ, suc, ◌≤◌}
use mathlib.Core.Path.{◌≡◌, refl, sym, ap, ap₂, ◌∙◌, subst}
use mathlib.Core.Bool.{true}
use native.Mathlib.Omega.{arith}
use Rattle.rules_demand.specs.Demand.{InRange}
use Rattle.rules_auction.specs.Ledger.{Ledger}
use Rattle.rules_auction.specs.Clearing.{highest, high, low, closing_price, of_each}
use Rattle.rules_auction.specs.Refusals.{is_closed}
use Rattle.rules_auction.specs.Second.{short, second_price}
use Rattle.laws_ledger.specs.Sound.{Sound, started}
use Rattle.laws_ledger.specs.Parts.{whole}
use Rattle.laws_ledger.specs.clearing.ClosingPrice.{closed_started, settings_facts, passed_in_range, closing_price_lem}
use Rattle.engine_held.specs.supply.ByProject.{supply_of}
use Rattle.engine_held.specs.supply.ByProjectLaws.{supply_of_lem}
use Rattle.engine_checks.specs.clock.Reading.{demanded_at}
use Rattle.engine_checks.specs.clock.Demands.{demand_is, remainder_is}
use Rattle.engine_curve.specs.highs_and_lows.Lows.{Highests, Lows, next_price}
use Rattle.engine_curve.specs.highs_and_lows.PriceLaws.{next_price_lem}
use Rattle.engine_auction.specs.Holds.{held_auction}
use Rattle.engine_auction.specs.declared.Auction.{Auction}
use Rattle.engine_price.specs.price.Prices.{HoldsSettings, ByCurve, ClosingPrice}
use Rattle.engine_price.specs.second_price.Taken.{SecondPrice}
use Rattle.engine_price.specs.declared.clearing.Cleared.{Cleared}
use Rattle.engine_price.specs.clearing.Clears.{cleared_at, Clears}

-- the figures r as the parts computed them; `first` is the supply of the highest levels, `next` the price above P
module _
    (a : Auction) (r : Cleared) (first next : ℕ)
    (highests : Highests a.declared r.highest)
    (supplied : first ≡ supply_of a.projects r.highest)
    (priced : ClosingPrice a.clock.settings a.clock.closing (ByCurve a.curve.words a.curve.count first) r.price)
    (lows_at : Lows a.histories r.highest r.price r.lows)
    (above : next ≡ next_price r.price)
    (highs_at : Lows a.histories r.highest next r.highs)
    (second_at : SecondPrice a.clock.settings a.clock.closing a.projects a.kinds a.histories r.highest r.price
    (record { price = r.second; short = r.short }))
    (demand_at : r.demand ≡ (demanded_at a.clock.settings r.price).value)
    (remainder_at : r.remainder ≡ (demanded_at a.clock.settings r.price).remainder)
  where
    abbrev p : ℕ
    p = r.price

    module _ (l : Ledger) (s : Sound l) (h : a ≡ held_auction l) (closed : is_closed l.phase ≡ true) where
      began : started l.phase ≡ true
      began = closed_started l.phase closed

      firsts : r.highest ≡ of_each highest l
      unfolding held_auction
      firsts = highests.highest_are l s (ap (λ (x : Auction). x.declared) h)

      settings_held : HoldsSettings a.clock.settings l
      unfolding held_auction
      settings_held = record { sound = s; began = began; settings_are = ap (λ (x : Auction). x.clock.settings) h }

      price_is : p ≡ closing_price l
      unfolding held_auction
      price_is = priced.lowest l l settings_held (ap (λ (x : Auction). x.clock.closing) h) (whole l) (record {
        all = refl;
        curve_is = ap (λ (x : Auction). x.curve) h;
        first_is = supplied ∙ ap₂ supply_of (ap (λ (x : Auction). x.projects) h) firsts ∙ supply_of_lem highest l;
      })

      passed : (l.closing ≤ p) × (p ≤ l.settings.a)
      passed = subst (λ (q : ℕ). (l.closing ≤ q) × (q ≤ l.settings.a)) (sym price_is) (let c = closing_price_lem l s began in (c.low, c.high))

      in_range_lem : InRange l.settings.ce p
      in_range_lem = passed_in_range l s began p passed.0 passed.1

      next_is : next ≡ suc p
      next_is = above ∙ next_price_lem p (let f = settings_facts l s began in let z = f.bounds.ce_high in let y = f.high in omega (arith, passed.1))

      highs_are : r.highs ≡ of_each (high p) l
      unfolding held_auction high low
      highs_are = subst (λ (q : ℕ). r.highs ≡ of_each (low q) l) next_is (highs_at.lows_are l s (ap (λ (x : Auction). x.histories) h) firsts)

      seconds : (r.second ≡ second_price l) × (r.short ≡ short l)
      unfolding held_auction
      seconds =
          second_at.price_and_mark l settings_held (ap (λ (x : Auction). x.clock.closing) h) (ap (λ (x : Auction). x.projects) h)
          (ap (λ (x : Auction). x.kinds) h)
          (ap (λ (x : Auction). x.histories) h) firsts price_is

      figures : r ≡ cleared_at l (closing_price l)
      unfolding held_auction
      figures =
          let b = (settings_facts l s began).bounds in
          (λ i. record {
            highest = firsts i;
            price = p;
            demand = (demand_at ∙ ap (λ (x : Auction). (demanded_at x.clock.settings p).value) h ∙ demand_is _ _ _ _ _ b in_range_lem) i;
            remainder = (remainder_at ∙ ap (λ (x : Auction). (demanded_at x.clock.settings p).remainder) h ∙ remainder_is _ _ _ _ _ b in_range_lem) i;
            lows = lows_at.lows_are l s (ap (λ (x : Auction). x.histories) h) firsts i;
            highs = highs_are i;
            second = seconds.0 i;
            short = seconds.1 i;
          })
          ∙ ap (cleared_at l) price_is

    pub clears : Clears a r
    clears = record { figures_are = figures }
