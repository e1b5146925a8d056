-- Taking back an offer (document 02, 7): its number by what is held, and the withdrawals held alone.
use Prim.Native.Nat.{ℕ}
use mathlib.Core.Path.{◌≡◌, refl, sym, ap, ◌∙◌}
use mathlib.Core.Logic.{⊎_elim}
use mathlib.Core.Bool.{Bool, true}
use mathlib.Core.List.{[]}
use Rattle.rules_auction.specs.Ledger.{none, Developer, Cancel, By, Ledger}
use Rattle.rules_auction.specs.Refusals.{is_number, is_of_kind, move_refusal, refusal}
use Rattle.rules_auction.specs.CheckLaws.{of_kind_facts}
use Rattle.rules_auction.specs.Rounds.{moved}
use Rattle.laws_ledger.specs.Sound.{Sound}
use Rattle.laws_ledger.specs.reachable.Bounds.{history_few}
use Rattle.laws_ledger.specs.reachable.Checks.{cancel_passed}
use Rattle.engine_held.specs.levels.Held.{no_levels}
use Rattle.engine_held.specs.history.Held.{held_history, Cancelled}
use Rattle.engine_held.specs.declared.history.History.{History}
use Rattle.engine_moves.specs.closing_entries.Courses.{held_course}
use Rattle.engine_checks.specs.declared.clock.Clock.{Clock}
use Rattle.engine_moves.specs.moves.Entries.{Entry}
use Rattle.engine_checks.specs.clock.Reading.{clock_in}
use Rattle.engine_moves.specs.moves.Reading.{entry_in, MoveNumber}
use Rattle.engine_moves.specs.moves.Entries.{seat, Held, Moves}
use Rattle.engine_moves.specs.moves.EntryLaws.{kind_number}
use Rattle.engine_moves.proofs.moves.Deciding.{own, move_read, refused_to, taken_to}

-- a new plant has nothing lodged
pub none_lodged : (l : Ledger) (n : ℕ) → Sound l → is_of_kind 2 n (l.developers n).declared.kind ≡ true → (l.developers n).lodged ≡ []
none_lodged l n s e = ⊎_elim (λ z. ap (λ (x : Developer). x.lodged) z) (λ q. q.lodged.kind (of_kind_facts 2 n _ e).2) (s.each n)

module _ (t : Clock) (held : Entry) (n : ℕ) (v : Bool) (numbered : v ≡ is_number n) where
  module _ (l : Ledger) (w : Held t held l (l.developers (seat n))) where
    number_is : (j : ℕ) → MoveNumber v (clock_in t) (entry_in held) Cancel j → j ≡ refusal l (By n Cancel)
    unfolding move_refusal
    number_is j e = e.as_ruled n numbered ∙ move_read l n w Cancel

    module _ (sound : Sound l) (z : refusal l (By n Cancel) ≡ 0) where
      of_kind_lem : is_of_kind 2 n (l.developers n).declared.kind ≡ true
      unfolding refusal
      of_kind_lem = (cancel_passed l n (l.developers n) z).developer

      good : is_number n ≡ true
      good = kind_number 2 n _ of_kind_lem

      history_next : (r : History) → Cancelled held.history r → r ≡ held_course (moved (l.developers n) Cancel)
      unfolding moved
      history_next r y =
          let x = l.developers n in
          let t : x.lodged ≡ [] = none_lodged l n sound of_kind_lem in
          y.withdrawals_alone x.withdrawals x.offer (ap (λ (y : Entry). y.history) (own l n w good).entry ∙ ap (held_history x.withdrawals x.offer) t) (history_few l sound n)
          ∙ ap (held_history x.withdrawals none) (sym t)

  module _ (j : ℕ) (e : MoveNumber v (clock_in t) (entry_in held) Cancel j) where
    pub cancel_refused : (j ≡ 0 → ⊥) → Moves n Cancel (Held t held) j held.history
    cancel_refused z = record { moves_as_ruled = λ l sound w. refused_to l n Cancel j held.history (number_is l w j e) z (ap (λ (y : Entry). y.history) w.entry) }

    pub cancel_taken : j ≡ 0 → (r : History) → Cancelled held.history r → Moves n Cancel (Held t held) 0 r
    cancel_taken z r y = record {
      moves_as_ruled = λ l sound w.
          let is = sym z ∙ number_is l w j e in
          taken_to l n Cancel 0 r is refl (good l w sound (sym is)) (history_next l w sound (sym is) r y);
    }
