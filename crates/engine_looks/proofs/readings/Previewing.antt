-- The preview is read off the closing of a copy: its answer as it stands, and the mark by the phase that it leaves.
use Prim.Native.Nat.{ℕ}
use mathlib.Core.Path.{◌≡◌, refl, sym, ap, ◌∙◌}
use mathlib.Core.Bool.{Bool, ◌&&◌}
use borrow.Author.Tests.{eq-eqb, ne_eqb}
use Rattle.rules_auction.specs.Ledger.{Close}
use Rattle.rules_auction.specs.Refusals.{is_closed}
use Rattle.rules_auction.specs.Rounds.{Answered, bare_answer}
use Rattle.rules_auction.specs.Preview.{preview, bare_preview}
use Rattle.engine_auction.specs.declared.Auction.{Auction}
use Rattle.engine_auction.specs.Called.{Called}
use Rattle.engine_looks.specs.readings.Readings.{Previews}
use Rattle.engine_looks.specs.readings.PreviewLaws.{mark_is}
use Rattle.engine_checks.specs.clock.Reading.{phase_in}

-- a refused closing, by its number
pub preview_refused : (a : Auction) (n : ℕ) → (n ≡ 0 → ⊥) → Called Close a a (bare_answer n) → Previews a (bare_preview n)
unfolding preview
preview_refused a n z c = record {
  zero = λ _. refl;
  preview_is = λ cs h i. record {
    answered = c.answer cs h i;
    closed = (ap (λ (u : Bool). u && is_closed (phase_in a.clock.phase)) (sym (ne_eqb n 0 z)) ∙ mark_is cs a a (bare_answer n) c h) i;
  };
}

-- an accepted one, by its answer r and the auction b that it returned
pub previews :
    (a b : Auction) (r : Answered) (t : Bool) → r.number ≡ 0 → Called Close a b r → t ≡ is_closed (phase_in b.clock.phase) →
    Previews a (record { answered = r; closed = t })
unfolding preview
previews a b r t z c f = record {
  zero = λ w. absurd (w z);
  preview_is = λ cs h i. record {
    answered = c.answer cs h i;
    closed = (f ∙ ap (λ (u : Bool). u && is_closed (phase_in b.clock.phase)) (sym (eq-eqb r.number 0 z)) ∙ mark_is cs a b r c h) i;
  };
}
