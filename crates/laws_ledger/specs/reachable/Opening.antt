-- An accepted opening keeps the ledger sound.
use Rattle.std.specs.Prelude.{ℕ, ◌≤◌, ◌≡◌, false, ◌||◌}
use Rattle.std.proofs.Math.Path.{refl}
use Rattle.std.proofs.Common.{subst, inl, inr, ⊎_elim, arith}
use Rattle.std.proofs.Math.Bool.{true, cond, not}
use Rattle.std.proofs.Math.Nat.{le_refl}
use Rattle.rules_numbers.specs.Cases.{clash}
use Rattle.rules_auction.specs.Ledger.{Open, Standing, none, made, Developer, Round, Ledger, with_phase, with_prices}
use Rattle.rules_auction.specs.Clearing.{developers_of, greatest_of, supply, covered}
use Rattle.rules_auction.specs.Refusals.{is_fresh, is_ready, in_round, floor, opening_price, start_covered}
use Rattle.rules_auction.specs.Rounds.{accepted}
use Rattle.laws_ledger.specs.Sound.{started, applied_to, SoundDeveloper, SoundOffer, SoundLodged, RoundPrices, Sound}
use Rattle.laws_ledger.specs.reachable.Checks.{OpenPassed, closing_facts}
use Rattle.laws_ledger.specs.reachable.Held.{by_may_open, Kept}

module _ (l : Ledger) (c : ℕ) (s : Sound l) (p : OpenPassed l c) where
  opening_high : opening_price l ≤ l.settings.a
  unfolding opening_price
  opening_high = by_may_open (λ q. (started q ≡ true → RoundPrices l) → cond (is_ready q) l.settings.a l.closing ≤ l.settings.a)
      (λ h. le_refl l.settings.a)
      (λ h. let r = h refl in omega arith)
      l.phase p.phase s.prices

  -- withdrawals were applied down to the opening price
  opening_applied : applied_to l.phase l ≡ opening_price l
  unfolding opening_price
  opening_applied = by_may_open (λ q. applied_to q l ≡ cond (is_ready q) l.settings.a l.closing) refl refl l.phase p.phase

  start_stays : covered l l.settings.a ≡ true
  unfolding start_covered
  start_stays =
      by_may_open (λ q. not (is_ready q) || covered l l.settings.a ≡ true → (started q ≡ true → covered l l.settings.a ≡ true) →
      covered l l.settings.a ≡ true)
      (λ h g. h) (λ h g. g refl)
      l.phase p.phase p.covered s.start_covered_lem

  abbrev next : Ledger
  next = with_phase (with_prices l (opening_price l) c) Round

  offers : (x : Developer) (o : Standing) → SoundOffer l x o → SoundOffer next x o
  unfolding SoundOffer
  offers x none h = tt
  offers x (made ss) h = absurd (clash h.round (by_may_open (λ q. in_round q ≡ false) refl refl l.phase p.phase))

  each : (n : ℕ) → Kept next n (l.developers n)
  each n = ⊎_elim inl
      (λ h. inr (record {
        number_low = h.number_low;
        number_high = h.number_high;
        developer = subst (λ (b : ℕ). SoundDeveloper b l.settings.a (l.developers n)) opening_applied h.developer;
        offer = offers (l.developers n) (l.developers n).offer h.offer;
        lodged = subst (λ (b : ℕ). SoundLodged (floor l) b (l.developers n)) opening_applied h.lodged;
      })) (s.each n)

  pub sound_open : Sound (accepted l (Open c))
  unfolding accepted covered supply greatest_of developers_of
  sound_open = record {
    fresh = λ e. absurd (clash e refl);
    settings = λ e. s.settings (by_may_open (λ q. is_fresh q ≡ false) refl refl l.phase p.phase);
    unopened = λ e. absurd (clash refl e);
    idle = λ e. absurd (clash refl e);
    prices = λ e. let t = closing_facts l c p.closing in record { low = t.0; order = t.1; high = opening_high };
    start_covered_lem = λ e. start_stays;
    each = each;
    alone = s.alone;
  }
