-- A move, decided over its developer's entry: refused by its number, else its history stored at the developer's place.
use Prim.Native.Nat.{ℕ}
use mathlib.Core.Path.{◌≡◌, sym, ap, ◌∙◌, subst}
use Rattle.rules_auction.specs.Ledger.{Move, By, Ledger}
use Rattle.rules_auction.specs.Refusals.{refusal}
use Rattle.rules_auction.specs.Rounds.{bare_answer, granted}
use Rattle.laws_ledger.specs.Sound.{Sound}
use Rattle.laws_ledger.specs.reachable.Steps.{step_accepted}
use Rattle.engine_held.specs.supply.ByProject.{place_of}
use Rattle.engine_held.specs.declared.history.History.{History}
use Rattle.engine_moves.specs.moves.Entries.{seat, Held, MovedTo, Moves}
use Rattle.engine_moves.specs.moves.Entries.{Entry}
use Rattle.engine_auction.specs.declared.Auction.{Auction}
use Rattle.engine_auction.specs.Holds.{held_auction}
use Rattle.engine_auction.specs.Called.{Called}
use Rattle.engine_auction.specs.Storing.{with_history_at, entry_at, entry_held, move_stored}
use Rattle.engine_auction.proofs.Calls.{refused, taken}

module _ (n : ℕ) (m : Move) (a : Auction) (i k : ℕ) (h : History) (ei : i ≡ place_of n)
    {e : Entry} (ee : e ≡ entry_at a i) (w : Moves n m (Held a.clock e) k h) where
  moved_to : (l : Ledger) → Sound l → a ≡ held_auction l → MovedTo l n m k h
  moved_to l s q = w.moves_as_ruled l s (subst (λ (y : Entry). Held a.clock y l (l.developers (seat n))) (sym ee) (entry_held a l n i q ei))

  pub move_refused : (k ≡ 0 → ⊥) → Called (By n m) a a (bare_answer k)
  move_refused z = refused (By n m) a k z (λ l s q. (moved_to l s q).number)

  pub move_taken : k ≡ 0 → Called (By n m) a (with_history_at a i h) (bare_answer k)
  unfolding granted
  move_taken z = taken (By n m) a (with_history_at a i h) (bare_answer k) z (λ l s q.
      let t = moved_to l s q in
      let y : refusal l (By n m) ≡ 0 = sym t.number ∙ z in
      record {
        number = y;
        answer = ap bare_answer z;
        next = ap (λ (j : ℕ). with_history_at a j h) ei ∙ move_stored a l n m k h q t ∙ ap held_auction (step_accepted l (By n m) y);
      })
