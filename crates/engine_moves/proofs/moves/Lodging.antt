-- Lodging a withdrawal list (document 02, 5): its number by what is held, and the list held alone, in place of one lodged before.
use Prim.Native.Nat.{ℕ}
use mathlib.Core.Path.{◌≡◌, refl, sym, ap, ap₂, ◌∙◌}
use mathlib.Core.Logic.{⊎_elim}
use mathlib.Core.Bool.{Bool, true}
use mathlib.Core.List.{List}
use native.Mathlib.Omega.{arith}
use Rattle.rules_numbers.specs.Cases.{clash}
use Rattle.rules_auction.specs.Ledger.{Step, Standing, none, made, Developer, Lodge, By, Ready, Ledger}
use Rattle.rules_auction.specs.Refusals.{in_round, is_number, move_refusal, refusal}
use Rattle.rules_auction.specs.CheckLaws.{of_kind_facts, prices_facts}
use Rattle.rules_auction.specs.Rounds.{steps, moved}
use Rattle.laws_ledger.specs.Sound.{started, SoundOffer, Registered, Sound}
use Rattle.laws_ledger.specs.reachable.Checks.{LodgePassed, lodge_passed}
use Rattle.laws_ledger.specs.reachable.Held.{is_ready_lem}
use Rattle.engine_held.specs.history.Held.{held_history, Lodged}
use Rattle.engine_held.specs.declared.history.History.{History}
use Rattle.engine_moves.specs.closing_entries.Courses.{held_course}
use Rattle.engine_checks.specs.declared.clock.Clock.{Clock}
use Rattle.engine_moves.specs.moves.Entries.{Entry}
use Rattle.engine_checks.specs.clock.Reading.{clock_in}
use Rattle.engine_moves.specs.moves.Reading.{entry_in, MoveNumber}
use Rattle.engine_moves.specs.moves.Entries.{seat, Held, Moves}
use Rattle.engine_moves.specs.moves.EntryLaws.{kind_number}
use Rattle.engine_moves.proofs.moves.Deciding.{move_read, refused_to, taken_to}

module _ (t : Clock) (held : Entry) (n : ℕ) (v : Bool) (numbered : v ≡ is_number n)
    (ps qs : List ℕ) where
  module _ (l : Ledger) (w : Held t held l (l.developers (seat n))) where
    number_is : (j : ℕ) → MoveNumber v (clock_in t) (entry_in held) (Lodge ps qs) j → j ≡ refusal l (By n (Lodge ps qs))
    unfolding move_refusal
    number_is j e = e.as_ruled n numbered ∙ move_read l n w (Lodge ps qs)

    module _ (sound : Sound l) (z : refusal l (By n (Lodge ps qs)) ≡ 0) where
      checked : LodgePassed l n (l.developers n) ps qs
      unfolding refusal
      checked = lodge_passed l n (l.developers n) ps qs z

      good : is_number n ≡ true
      good = kind_number 1 n _ checked.developer

      registered : Registered l n
      registered = ⊎_elim
          (λ e. let k : (l.developers n).declared.kind ≡ 0 = ap (λ (x : Developer). x.declared.kind) e in
          absurd (omega (arith, of_kind_facts 1 n _ checked.developer)))
          (λ r. r) (sound.each n)

      -- no round was opened, so there are no withdrawals, and no offer stands
      history_next : (r : History) → Lodged ps qs r → r ≡ held_course (moved (l.developers n) (Lodge ps qs))
      unfolding moved SoundOffer
      history_next r y =
          let f = prices_facts _ _ ps qs checked.prices in
          y.list_alone f.same f.at_most_eight
          ∙ ap₂ (λ (ws : List Step) (x : Standing). held_history ws x (steps ps qs))
          (sym (sound.idle (ap started here) n)) (sym (no_offer (l.developers n).offer registered.offer))
        where
          here : l.phase ≡ Ready
          here = is_ready_lem l.phase checked.phase

          no_offer : (x : Standing) → SoundOffer l (l.developers n) x → x ≡ none
          no_offer none v = refl
          no_offer (made ss) v = absurd (clash v.round (ap in_round here))

  module _ (j : ℕ) (e : MoveNumber v (clock_in t) (entry_in held) (Lodge ps qs) j) where
    pub lodge_refused : (j ≡ 0 → ⊥) → Moves n (Lodge ps qs) (Held t held) j held.history
    lodge_refused z = record { moves_as_ruled = λ l sound w. refused_to l n (Lodge ps qs) j held.history (number_is l w j e) z (ap (λ (y : Entry). y.history) w.entry) }

    pub lodge_taken : j ≡ 0 → (r : History) → Lodged ps qs r → Moves n (Lodge ps qs) (Held t held) 0 r
    lodge_taken z r y = record {
      moves_as_ruled = λ l sound w.
          let is = sym z ∙ number_is l w j e in
          taken_to l n (Lodge ps qs) 0 r is refl (good l w sound (sym is)) (history_next l w sound (sym is) r y);
    }
