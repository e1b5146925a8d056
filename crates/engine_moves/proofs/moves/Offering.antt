-- Offers: their number by what is held, and the steps held behind the withdrawals.
use Prim.Native.Nat.{ℕ, ◌+◌, ◌≤◌}
use mathlib.Core.Path.{◌≡◌, refl, sym, ap, ap₂, ◌∙◌, subst}
use mathlib.Core.Logic.{⊎_elim}
use mathlib.Core.Bool.{Bool, true, cond}
use mathlib.Core.List.{List}
use native.Mathlib.Omega.{arith}
use lib.ListN.{length}
use borrow.Author.Tests.{eq-eqb, eqb-true}
use Rattle.rules_auction.specs.Ledger.{none, made, Developer, Offer, By, Ledger, nobody, with_offer}
use Rattle.rules_auction.specs.Refusals.{is_number, move_refusal, refusal}
use Rattle.rules_auction.specs.CheckLaws.{prices_facts}
use Rattle.rules_auction.specs.Rounds.{steps, moved, accepted}
use Rattle.laws_ledger.specs.Sound.{Sound, Registered}
use Rattle.laws_ledger.specs.reachable.Bounds.{offer_fits}
use Rattle.laws_ledger.specs.reachable.Checks.{OfferPassed, offer_passed}
use Rattle.laws_ledger.specs.reachable.Steps.{step_accepted}
use Rattle.laws_ledger.specs.reachable.Reachable.{sound_step}
use Rattle.engine_held.specs.history.Held.{held_history, Offered}
use Rattle.engine_held.specs.history.HeldLaws.{is_none_by_number, offered_none, steps_length}
use Rattle.engine_held.specs.declared.history.History.{History}
use Rattle.engine_moves.specs.closing_entries.Courses.{held_course}
use Rattle.engine_checks.specs.declared.clock.Clock.{Clock}
use Rattle.engine_moves.specs.moves.Entries.{Entry}
use Rattle.engine_checks.specs.clock.Reading.{clock_in}
use Rattle.engine_moves.specs.moves.Reading.{entry_in, MoveNumber}
use Rattle.engine_moves.specs.moves.Entries.{seat, Held, Moves}
use Rattle.engine_moves.specs.moves.EntryLaws.{kind_number}
use Rattle.engine_moves.proofs.moves.Deciding.{own, move_read, refused_to, taken_to}
use Rattle.engine_moves.proofs.moves.Cancelling.{none_lodged}

module _ (t : Clock) (held : Entry) (n : ℕ) (v : Bool) (numbered : v ≡ is_number n) (ps qs : List ℕ) where
  module _ (l : Ledger) (w : Held t held l (l.developers (seat n))) where
    number_is : (j : ℕ) → MoveNumber v (clock_in t) (entry_in held) (Offer ps qs) j → j ≡ refusal l (By n (Offer ps qs))
    unfolding move_refusal
    number_is j e = e.as_ruled n numbered ∙ move_read l n w (Offer ps qs)

    module _ (sound : Sound l) (z : refusal l (By n (Offer ps qs)) ≡ 0) where
      checked : OfferPassed l n (l.developers n) ps qs
      unfolding refusal
      checked = offer_passed l n (l.developers n) ps qs z

      good : is_number n ≡ true
      good = kind_number 2 n _ checked.developer

      -- the developer with the offer
      abbrev entry : Developer
      entry = with_offer (l.developers n) (made (steps ps qs))

      as_long : length ps ≡ length qs
      as_long = (prices_facts _ _ ps qs checked.prices).same

      -- the ledger with the offer is sound, so there is room for its steps
      room : length (l.developers n).withdrawals + length ps ≤ 8
      unfolding accepted moved
      room = ⊎_elim (λ y. absurd (nobody_offers y)) (λ y. omega (arith, fits y, steps_length ps qs as_long)) (after.each n)
        where
          after : Sound (accepted l (By n (Offer ps qs)))
          after = rw (step_accepted l (By n (Offer ps qs)) z) at (sound_step l (By n (Offer ps qs)) sound)

          here : (accepted l (By n (Offer ps qs))).developers n ≡ entry
          here = ap (λ (b : Bool). cond b entry (l.developers n)) (eq-eqb n n refl)

          nobody_offers : (accepted l (By n (Offer ps qs))).developers n ≡ nobody → ⊥
          nobody_offers y = let x : made (steps ps qs) ≡ none = ap (λ (x : Developer). x.offer) (sym here ∙ y) in let v : ◌≡◌ {A = ℕ} 0 1 = cc in omega arith

          fits : Registered (accepted l (By n (Offer ps qs))) n → length (l.developers n).withdrawals + length (steps ps qs) ≤ 8
          fits y = subst (λ (x : Developer). length x.withdrawals + length (steps ps qs) ≤ 8) here (offer_fits y (ap (λ (x : Developer). x.offer) here))

      history_next : (r : History) → Offered held.history ps qs r → r ≡ held_course (moved (l.developers n) (Offer ps qs))
      unfolding moved
      history_next r y =
          let x = (l.developers n).offer in
          let ws = (l.developers n).withdrawals in
          let t = none_lodged l n sound checked.developer in
          y.offer_stands ws
          (ap (λ (y : Entry). y.history) (own l n w good).entry ∙ ap₂ (held_history ws) (offered_none x (eqb-true _ 0 (sym (is_none_by_number x) ∙ checked.first))) t)
          as_long
          room
          ∙ ap (held_history ws (made (steps ps qs))) (sym t)

  module _ (j : ℕ) (e : MoveNumber v (clock_in t) (entry_in held) (Offer ps qs) j) where
    pub offer_refused : (j ≡ 0 → ⊥) → Moves n (Offer ps qs) (Held t held) j held.history
    offer_refused z = record { moves_as_ruled = λ l sound w. refused_to l n (Offer ps qs) j held.history (number_is l w j e) z (ap (λ (y : Entry). y.history) w.entry) }

    pub offer_taken : j ≡ 0 → (r : History) → Offered held.history ps qs r → Moves n (Offer ps qs) (Held t held) 0 r
    offer_taken z r y = record {
      moves_as_ruled = λ l sound w.
          let is = sym z ∙ number_is l w j e in
          taken_to l n (Offer ps qs) 0 r is refl (good l w sound (sym is)) (history_next l w sound (sym is) r y);
    }
