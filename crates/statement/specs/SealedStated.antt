-- THE SEALED AUCTION (document 02, 13), a second auction without a state: whatever the arguments, it is refused exactly when the papers say and
-- leaves the buffer then; otherwise awards, what is left and buffer are the definition's, which is as the request's words say. It is tied in
-- through its own contract, which it meets.
use Rattle.std.specs.Prelude.{ℕ, ◌≡◌, Bool, List, length, Result}
use Rattle.std.proofs.Math.Path.{sym, ap}
use Rattle.std.proofs.Common.{◌∙◌}
use Rattle.std.proofs.Math.Bool.{cond}
use Rattle.std.proofs.Math.Dec.{eqb}
use borrow.Author.Tests.{eq-eqb, ne_eqb}
use contract.Lifetimes.{Lfts}
use denote.Triple.Clauses.{AtExit}
use borrow.Fn.World.{ArgsD}
use borrow.Fn.Kinds.{ended_of}
use Rattle.rules_numbers.specs.Tails.{laid}
use Rattle.rules_sealed.specs.Sealed.{Book, book_of, awards, left_over, lent_refusal, lent_left, lent_awards}
use Rattle.rules_sealed.specs.InWords.{InWords, AnyListOrder}
use Rattle.rules_sealed.specs.SealedLaws.{in_words, any_list_order}
use Rattle.engine_sealed.specs.sealed_checks.AcceptedBook.{lent_accepted}
use Rattle.engine_refusals.specs.declared.Refusal.{Refusal}
use Rattle.engine_sealed.specs.sealed_auction.Cleared.{Lent, lent_in, Lends}
use Rattle.engine_sealed.specs.contracts.sealed_auction.sealed_auction.{signature}
use Rattle.engine_sealed.proofs.sealed_auction.sealed_auction.Kinds as kinds
use Rattle.engine_sealed.proofs.sealed_auction.sealed_auction.Reads as sealing
use Rattle.engine_sealed.proofs.sealed_auction.sealed_auction.Statement as sealing_states
use Rattle.engine_sealed.proofs.sealed_auction.sealed_auction.Met as sealing_met

-- `old` and `new` are the lent buffer before and after
pub record SealedAnswered (ceiling demand : ℕ) (b : Book) (old new : List ℕ) (r : Lent) : Type 0 where
  pub number : r.number ≡ lent_refusal ceiling demand b (length old)
  pub refused : (r.number ≡ 0 → ⊥) → (r.left ≡ 0) × (new ≡ old)
  pub accepted : r.number ≡ 0 → InWords demand b × (r.left ≡ left_over demand b) × (new ≡ laid (awards demand b) old)

-- the arguments x: ceiling, demand, prices, quantities, minimums, ages, the buffer; y: the same at the call's end
pub record SealedStated (M : Type 1) : Type 2 where
  pub meets : sealing_states.statement M
  pub answered :
      (κs : Lfts 5) (x : ArgsD signature κs) (r : Result ℕ Refusal) (y : AtExit (ended_of 5 kinds.ps kinds.r) κs) → sealing.Post κs x r y →
      SealedAnswered x.0 x.1.0 (book_of x.1.1.0.now x.1.1.1.0.now x.1.1.1.1.0.now x.1.1.1.1.1.0.now)
      x.1.1.1.1.1.1.0.now y.1.1.1.1.1.1.0.now (lent_in r)
  pub any_order : AnyListOrder

module _ (ceiling demand : ℕ) (b : Book) (old new : List ℕ) (r : Lent) (w : Lends ceiling demand b old new r) where
  abbrev n : ℕ
  n = lent_refusal ceiling demand b (length old)

  as_stated : SealedAnswered ceiling demand b old new r
  unfolding lent_left lent_awards
  as_stated = record {
    number = w.number;
    refused = λ h.
        let t : eqb n 0 ≡ _ = ne_eqb n 0 (λ z. h (w.number ∙ z)) in
        (w.left ∙ ap (λ (u : Bool). cond u (left_over demand b) 0) t, w.buffer ∙ ap (λ (u : Bool). cond u (laid (awards demand b) old) old) t);
    accepted = λ z.
        let e : n ≡ 0 = sym w.number ∙ z in
        let t : eqb n 0 ≡ _ = eq-eqb n 0 e in (
          in_words demand b (lent_accepted ceiling demand b (length old) e).ok,
          w.left ∙ ap (λ (u : Bool). cond u (left_over demand b) 0) t,
          w.buffer ∙ ap (λ (u : Bool). cond u (laid (awards demand b) old) old) t,
        );
  }

pub sealed_stated : {M : Type 1} → SealedStated M
sealed_stated = record {
  meets = sealing_met.met;
  answered = λ κs x r y w. as_stated _ _ _ _ _ (lent_in r) w;
  any_order = any_list_order;
}
