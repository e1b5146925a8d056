-- The number of what is read at a developer's place is that of the ledger that is held; and a move refused and taken.
use Prim.Native.Nat.{ℕ}
use mathlib.Core.Path.{◌≡◌, refl, sym, ap, ◌∙◌, subst}
use mathlib.Core.Bool.{Bool, true, false, cond}
use borrow.Author.Tests.{eq-eqb}
use Rattle.rules_auction.specs.Ledger.{Standing, none, made, Move, Offer, Lodge, Cancel, By, Phase, Developer, Ledger, nobody, with_developers}
use Rattle.rules_auction.specs.Refusals.{is_number, is_none, is_of_kind, move_refusal, refusal}
use Rattle.rules_auction.specs.Rounds.{moved, accepted}
use Rattle.laws_ledger.specs.reachable.Steps.{step_refused, step_accepted}
use Rattle.engine_held.specs.levels.Held.{levels_read}
use Rattle.engine_held.specs.history.Held.{held_offer}
use Rattle.engine_held.specs.declared.history.History.{History}
use Rattle.engine_moves.specs.closing_entries.Courses.{held_course}
use Rattle.engine_checks.specs.clock.Held.{held_clock}
use Rattle.engine_checks.specs.clock.Reading.{clock_in}
use Rattle.engine_checks.specs.clock.ReadingLaws.{phase_read}
use Rattle.engine_checks.specs.declared.clock.Clock.{Clock}
use Rattle.engine_moves.specs.moves.Entries.{Entry}
use Rattle.engine_moves.specs.moves.Reading.{standing_in, entry_in}
use Rattle.engine_moves.specs.moves.Entries.{seat, held_entry, Held, MovedTo}
use Rattle.engine_moves.specs.moves.EntryLaws.{seat_is}

none_read : (o : Standing) → is_none (standing_in (held_offer o)) ≡ is_none o
none_read none = refl
none_read (made ss) = refl

-- the entry as it is read counts as the entry that is held
entry_read :
    (l : Ledger) (n : ℕ) (x : Developer) (m : Move) →
    move_refusal l n (entry_in (held_entry x)) m ≡ move_refusal l n x m
unfolding move_refusal
entry_read l n x (Offer ps qs) = rw (none_read x.offer, levels_read x.declared.levels)
entry_read l n x (Lodge ps qs) = rw (levels_read x.declared.levels)
entry_read l n x Cancel = rw (none_read x.offer)

-- the clock is all that is read of the ledger
clock_alone : (l : Ledger) (f : ℕ → Developer) (n : ℕ) (x : Developer) (m : Move) → move_refusal (with_developers l f) n x m ≡ move_refusal l n x m
unfolding move_refusal
clock_alone l f n x (Offer ps qs) = refl
clock_alone l f n x (Lodge ps qs) = refl
clock_alone l f n x Cancel = refl

-- no entry counts under a number that is no developer's
no_entry : (l : Ledger) (n : ℕ) (x y : Developer) (m : Move) → is_number n ≡ false → move_refusal l n x m ≡ move_refusal l n y m
unfolding move_refusal is_of_kind
no_entry l n x y (Offer ps qs) e = rw e
no_entry l n x y (Lodge ps qs) e = rw e
no_entry l n x y Cancel e = rw e

seat_read : (l : Ledger) (n : ℕ) (m : Move) → move_refusal l n (l.developers (seat n)) m ≡ move_refusal l n (l.developers n) m
seat_read l n m = go (is_number n) refl
  where
    go : (b : Bool) → is_number n ≡ b → move_refusal l n (l.developers (seat n)) m ≡ move_refusal l n (l.developers n) m
    go true e = ap (λ (j : ℕ). move_refusal l n (l.developers j) m) (seat_is n e)
    go false e = no_entry l n _ _ m e

module _ {t : Clock} {held : Entry} (l : Ledger) (n : ℕ) (w : Held t held l (l.developers (seat n))) where
  -- of a developer's number, the entry is its own
  pub own : is_number n ≡ true → Held t held l (l.developers n)
  own b = subst (λ (m : ℕ). Held t held l (l.developers m)) (seat_is n b) w

  pub move_read : (m : Move) → move_refusal (clock_in t) n (entry_in held) m ≡ refusal l (By n m)
  unfolding refusal
  move_read m =
      let x = l.developers (seat n) in
      let y = entry_in (held_entry x) in
      let as_held : move_refusal (clock_in t) n (entry_in held) m ≡ move_refusal (clock_in (held_clock l)) n y m =
      (λ i. move_refusal (clock_in (w.clock i)) n (entry_in (w.entry i)) m) in
      as_held
      ∙ ap (λ (f : Phase). move_refusal (record {
        phase = f;
        settings = l.settings;
        opening = l.opening;
        closing = l.closing;
        developers = λ _. nobody;
      }) n y m) (phase_read l.phase)
      ∙ clock_alone l (λ _. nobody) n y m
      ∙ entry_read l n x m
      ∙ seat_read l n m

module _ (l : Ledger) (n : ℕ) (m : Move) (k : ℕ) (h : History) (e : k ≡ refusal l (By n m)) where
  pub refused_to : (k ≡ 0 → ⊥) → h ≡ held_course (l.developers (seat n)) → MovedTo l n m k h
  refused_to z w = record {
    number = e;
    history = w ∙ ap (λ (x : Ledger). held_course (x.developers (seat n))) (sym (step_refused l (By n m) (λ q. z (e ∙ q))));
  }

  pub taken_to : k ≡ 0 → is_number n ≡ true → h ≡ held_course (moved (l.developers n) m) → MovedTo l n m k h
  unfolding accepted
  taken_to z b w = record {
    number = e;
    history = w ∙ ap held_course (sym (ap (λ (x : Ledger). x.developers (seat n)) (step_accepted l (By n m) (sym e ∙ z))
        ∙ ap (λ (t : Bool). cond t (moved (l.developers n) m) (l.developers (seat n))) (eq-eqb (seat n) n (seat_is n b))));
  }
