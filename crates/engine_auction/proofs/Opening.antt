-- Opening a round: the number of the ledger that is read from the auction is that of the ledger that it holds; and the round's prices held.
use Prim.Native.Nat.{ℕ}
use mathlib.Core.Path.{◌≡◌, refl, sym, ap, ◌∙◌, subst}
use mathlib.Core.Bool.{Bool, true, false, cond, not, ◌||◌}
use mathlib.Core.List.{[]}
use lib.Dec.{leb}
use Rattle.rules_numbers.specs.Lists.{last_or}
use Rattle.rules_auction.specs.Ledger.{Open, Phase, Fresh, Ready, Between, Closed, Ledger}
use Rattle.rules_auction.specs.Ledger as rules
use Rattle.engine_checks.specs.declared.clock.Phase.TheVariants.{Round}
use Rattle.rules_auction.specs.Clearing.{of_each, quantity_after, high, supply, demand_at, covered}
use Rattle.rules_auction.specs.Refusals.{is_fresh, is_ready, opening_price, closing_ok, start_covered, refusal}
use Rattle.rules_auction.specs.Rounds.{last_level, accepted, bare_answer, granted}
use Rattle.laws_ledger.specs.Sound.{Sound, started}
use Rattle.laws_ledger.specs.reachable.Supplies.{supply_same}
use Rattle.laws_ledger.specs.clearing.Course.{courses}
use Rattle.engine_held.specs.supply.ByProjectLaws.{supply_of_lem}
use Rattle.engine_auction.specs.declared.Auction.{Auction}
use Rattle.engine_auction.specs.Holds.{held_clock, held_auction}
use Rattle.engine_auction.specs.Called.{Called}
use Rattle.engine_auction.specs.Parts.{with_clock, clock_held}
use Rattle.engine_checks.specs.clock.Reading.{clock_in, ledger_in}
use Rattle.engine_checks.specs.clock.ReadingLaws.{phase_read, supply_in}
use Rattle.engine_checks.specs.clock.Opening.{OpeningNumber}
use Rattle.engine_moves.specs.closing_entries.Places.{numbered_length}
use Rattle.engine_auction.proofs.Calls.{Refused, refused, taken}

-- before the first round nothing is withdrawn, so supply at A is the supply of the quantities
ready_supply : (l : Ledger) → Sound l → is_ready l.phase ≡ true → supply (high l.settings.a) l ≡ supply (λ x. x.quantity) l
unfolding high quantity_after last_level
ready_supply l s r = supply_same (high l.settings.a) (λ x. x.quantity) l l (λ n. refl) (λ n. whole n)
  where
    unstarted : (p : Phase) → is_ready p ≡ true → started p ≡ false
    unstarted Fresh e = refl
    unstarted Ready e = refl
    unstarted rules.Round e = sym e
    unstarted Between e = sym e
    unstarted Closed e = sym e

    whole : (n : ℕ) → high l.settings.a (l.developers n) ≡ (l.developers n).quantity
    whole n =
        let e = s.idle (unstarted l.phase r) n in
        rw ((courses l s n).quantity, e)

ready_not_fresh : (p : Phase) → is_ready p ≡ true → is_fresh p ≡ false
ready_not_fresh Fresh e = sym e
ready_not_fresh Ready e = refl
ready_not_fresh rules.Round e = refl
ready_not_fresh Between e = refl
ready_not_fresh Closed e = refl

-- what the first opening alone tests
first_only : (b : Bool) {x y : Bool} → (b ≡ true → x ≡ y) → not b || x ≡ not b || y
first_only true h = h refl
first_only false h = refl

module _ (l : Ledger) (s : Sound l) where
  -- the ledger that an opening reads
  abbrev read : Ledger
  read = ledger_in (held_clock l) (of_each (λ x. x.declared.project) l) [] (of_each (λ x. x.quantity) l)

  covered_read : is_ready l.phase ≡ true → covered read l.settings.a ≡ covered l l.settings.a
  unfolding covered high quantity_after last_or
  covered_read r = ap (λ (q : ℕ). leb (demand_at l l.settings.a) q)
      (sym (supply_in (held_clock l) _ [] _ (numbered_length _) (numbered_length _)
      (high l.settings.a) (λ i. refl)) ∙ supply_of_lem (λ x. x.quantity) l
      ∙ sym (ready_supply l s r))

  start_read : start_covered read ≡ start_covered l
  unfolding start_covered
  start_read =
      ap (λ (p : Phase). not (is_ready p) || covered read l.settings.a) (phase_read l.phase)
      ∙ first_only (is_ready l.phase) covered_read

  number_read : (c : ℕ) → refusal read (Open c) ≡ refusal l (Open c)
  unfolding refusal closing_ok opening_price
  number_read c = rw (start_read, phase_read l.phase)

module _ (c : ℕ) (a : Auction) where
  abbrev pub Numbered : ℕ → Type 0
  Numbered = OpeningNumber c a.clock a.projects a.quantities

  module _ (l : Ledger) (s : Sound l) (h : a ≡ held_auction l) where
    opening_held : opening_price (clock_in a.clock) ≡ opening_price l
    unfolding opening_price held_auction
    opening_held =
        ap (λ (x : Auction). opening_price (clock_in x.clock)) h
        ∙ ap (λ (p : Phase). cond (is_ready p) l.settings.a l.closing) (phase_read l.phase)

    number_held : (n : ℕ) → Numbered n → n ≡ refusal l (Open c)
    unfolding held_auction
    number_held n w =
        let read_so : OpeningNumber c (held_clock l) (held_auction l).projects (held_auction l).quantities n =
        subst (λ (x : Auction). OpeningNumber c x.clock x.projects x.quantities n) h w in
        read_so.as_ruled (λ r. s.settings (ready_not_fresh l.phase (ap is_ready (sym (phase_read l.phase)) ∙ r))) ∙ number_read l s c

  pub open_refused : (n : ℕ) → Numbered n → (n ≡ 0 → ⊥) → Refused (Open c) a n
  open_refused n w z = refused _ a n z (λ l s h. number_held l s h n w)

  -- the auction with the round open, from o
  abbrev pub opened : ℕ → Auction
  opened o = with_clock a (record { phase = Round; settings = a.clock.settings; opening = o; closing = c })

  pub open_taken : (n o : ℕ) → Numbered n → n ≡ 0 → o ≡ opening_price (clock_in a.clock) →
      Called (Open c) a (opened o) (bare_answer 0)
  unfolding granted accepted held_auction
  open_taken n o w z eo = taken _ a (opened o) _ refl (λ l s h. record {
    number = sym (number_held l s h n w) ∙ z;
    answer = refl;
    next = clock_held a l rules.Round l.settings (opening_price l) c h (λ i. record {
      phase = Round;
      settings = (h i).clock.settings;
      opening = (eo ∙ opening_held l s h) i;
      closing = c;
    });
  })
