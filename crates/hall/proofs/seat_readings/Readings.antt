-- What a seat reads of an auction that holds a sound ledger: the published values alone, or those with a developer's levels and offer.
use Prim.Native.Nat.{ℕ, ◌+◌, ◌-◌, ◌≤◌}
use mathlib.Core.Path.{◌≡◌, refl, sym, ap, subst, ◌∙◌}
use mathlib.Core.Logic.{⊎_elim}
use mathlib.Core.List.{[]}
use native.Mathlib.Omega.{arith}
use lib.IntN.{ℤ}
use lib.ListN.{length, get_or}
use Rattle.std.specs.Prelude.{Option, None}
use Rattle.rules_auction.specs.Ledger.{Standing, none, made, Developer, Ledger}
use Rattle.rules_auction.specs.Rounds.{ledger}
use Rattle.laws_ledger.specs.Sound.{Registered, Sound}
use Rattle.laws_ledger.specs.reachable.Reachable.{sound}
use Rattle.laws_ledger.specs.reachable.Bounds.{withdrawals_few, offer_fits}
use Rattle.rules_seats.specs.Seats.{Seat, Auctioneer, Auditor, At, published, published_alone, reading}
use Rattle.engine_held.specs.levels.Held.{held_levels}
use Rattle.engine_held.specs.declared.levels.Levels.{Levels}
use Rattle.engine_held.specs.history.Held.{pending}
use Rattle.engine_held.specs.declared.history.History.{History}
use Rattle.engine_auction.specs.Holds.{held_auction}
use Rattle.engine_auction.specs.declared.Auction.{Auction}
use Rattle.engine_auction.proofs.DeveloperHeld.{declared_at, history_at}
use Rattle.hall.specs.declared.seat_readings.StandingOffer.{StandingOffer}
use Rattle.hall.specs.declared.seat_readings.Reading.{Reading}
use Rattle.hall.specs.seat_readings.Shown.{shown_offer, StandsIn, shown_reading, reading_with, hall_with, ReadsFrom}

-- a developer's withdrawals and behind them the steps of its offer are eight at most
few : (l : Ledger) → Sound l → (n : ℕ) → length (l.developers n).withdrawals + length (pending (l.developers n).offer) ≤ 8
few l s n = ⊎_elim
    (λ z. subst (λ (x : Developer). length x.withdrawals + length (pending x.offer) ≤ 8) (sym z) (omega arith))
    (λ q. go q (l.developers n).offer refl) (s.each n)
  where
    go : Registered l n → (o : Standing) → (l.developers n).offer ≡ o → length (l.developers n).withdrawals + length (pending o) ≤ 8
    go q none e = omega (arith, withdrawals_few q.developer)
    go q (made ss) e = offer_fits q e

-- e is the excess, z what a function gets of it as a machine word
module _ (a : Auction) {e z : ℤ} (w : z ≡ e) {r : Reading} where
  pub none_read :
      {ls : Levels} → ls ≡ held_levels [] → r ≡ reading_with a z ls None → r ≡ reading_with a e (held_levels []) (shown_offer none)
  none_read p g = g ∙ (λ i. reading_with a (w i) (p i) None)

  -- a seat that reads the published values alone
  alone :
      (s : Seat) → ((l : Ledger) → Sound l → published_alone (hall_with l e) ≡ reading (hall_with l e) s) → r ≡ reading_with a z (held_levels []) (shown_offer none) →
      ReadsFrom a e s r
  unfolding held_auction
  alone s f g = record {
    reading_is = λ cs h. g ∙ (λ i. reading_with (h i) (w i) (held_levels []) (shown_offer none)) ∙ ap shown_reading (f (ledger cs) (sound cs));
  }

  pub auctioneer_reads : r ≡ reading_with a z (held_levels []) (shown_offer none) → ReadsFrom a e Auctioneer r
  unfolding reading
  auctioneer_reads = alone Auctioneer (λ l s. refl)

  pub auditor_reads : r ≡ reading_with a z (held_levels []) (shown_offer none) → ReadsFrom a e Auditor r
  unfolding reading
  auditor_reads = alone Auditor (λ l s. refl)

  module _ (n : ℕ) where
    -- outside 1 to 32 nobody is registered
    pub nobody_reads : (1 ≤ n → n ≤ 32 → ⊥) → r ≡ reading_with a z (held_levels []) (shown_offer none) → ReadsFrom a e (At n) r
    unfolding reading
    nobody_reads v = alone (At n) (λ l s. ⊎_elim
        (λ q. ap (λ (x : Developer). record { values = published (hall_with l e); levels = x.declared.levels; offer = x.offer }) (sym q))
        (λ q. absurd (v q.number_low q.number_high)) (s.each n))

    pub developer_reads :
        {o : Option StandingOffer} (d : Levels) (k : History) → 1 ≤ n → n ≤ 32 → StandsIn (get_or a.histories (n - 1) k) o →
        r ≡ reading_with a z (get_or a.declared (n - 1) d) o → ReadsFrom a e (At n) r
    unfolding held_auction reading
    developer_reads {o} d k low high t g = record {
      reading_is = λ cs h.
          let l = ledger cs in
          let x = l.developers n in
          let offer : o ≡ shown_offer x.offer = t.offer_is x.withdrawals x.offer x.lodged (history_at n a l h low high k) (few l (sound cs) n) in
          g ∙ (λ i. reading_with (h i) (w i) (declared_at n a l h low high d i) (offer i));
    }

  pub same_reads : {s : Seat} → ReadsFrom a z s r → ReadsFrom a e s r
  same_reads {s} t = subst (λ (y : ℤ). ReadsFrom a y s r) w t
