-- The sealed auction for long builds, asked by C (document 02, 13), for all numbers, lists and lent buffers: refused by 18 or 19 in their order,
-- then by 11 where the buffer is too short, it gives 2^64 less that number and leaves the buffer; else what is left, and the award of each offer
-- from the buffer's start, which are as the request's words say. It asks nothing.
use Rattle.std.specs.Prelude.{ℕ, ◌-◌, ◌^◌, ◌≡◌, refl, Bool, true, false, List, eqb, length}
use Rattle.std.proofs.Common.{sym, ◌∙◌, eqb-true, eq-eqb, ne_eqb}
use Rattle.std.proofs.lemmas.Bool.{eqb-false}
use contract.Lifetimes.{Lfts}
use denote.Triple.Clauses.{AtExit}
use borrow.Fn.World.{ArgsD}
use borrow.Fn.Kinds.{ended_of}
use Rattle.rules_numbers.specs.Tails.{laid}
use Rattle.rules_sealed.specs.Sealed.{Book, book_of, awards, left_over, lent_refusal, lent_left, lent_awards}
use Rattle.rules_sealed.specs.InWords.{InWords}
use Rattle.rules_sealed.specs.SealedLaws.{in_words}
use Rattle.engine_sealed.specs.sealed_checks.AcceptedBook.{lent_accepted}
use Rattle.host.specs.Sealing.{host_sealed}
use Rattle.statement.specs.calls_of_c.HostValues.{accepted_value, refused_value}
use Rattle.host.specs.contracts.sealed_auction.{signature}
use Rattle.host.proofs.sealed_auction.Kinds as kinds
use Rattle.host.proofs.sealed_auction.Reads as sealing
use Rattle.host.proofs.sealed_auction.Statement as sealing_states
use Rattle.host.proofs.sealed_auction.Met as sealing_met

-- of the book b; `old` and `new` are the lent buffer before and after, r is what C gets
pub record SealedReturned (ceiling demand : ℕ) (b : Book) (old new : List ℕ) (r : ℕ) : Type 0 where
  pub refused : let n = lent_refusal ceiling demand b (length old) in (n ≡ 0 → ⊥) → (r ≡ 2 ^ 64 - n) × (new ≡ old)
  pub awarded :
      lent_refusal ceiling demand b (length old) ≡ 0 → InWords demand b × (r ≡ left_over demand b) × (new ≡ laid (awards demand b) old)

-- the arguments x: ceiling, demand, prices, quantities, minimums, ages, the buffer; y: the same at the call's end
pub record SealedExported (M : Type 1) : Type 2 where
  pub meets : sealing_states.statement M
  pub asks : (κs : Lfts 5) (x : ArgsD signature κs) → sealing.Pre κs x × sealing.Asked κs x
  pub returns :
      (κs : Lfts 5) (x : ArgsD signature κs) (r : ℕ) (y : AtExit (ended_of 5 kinds.ps kinds.r) κs) → sealing.Post κs x r y →
      SealedReturned x.0 x.1.0 (book_of x.1.1.0.now x.1.1.1.0.now x.1.1.1.1.0.now x.1.1.1.1.1.0.now)
      x.1.1.1.1.1.1.0.now y.1.1.1.1.1.1.0.now r
  -- what is stated leaves nothing free
  pub determined :
      (ceiling demand : ℕ) (b : Book) (old new new' : List ℕ) (r r' : ℕ) → SealedReturned ceiling demand b old new r →
      SealedReturned ceiling demand b old new' r' → (r ≡ r') × (new ≡ new')

-- ---- the proofs

module _ (ceiling demand : ℕ) (b : Book) (old : List ℕ) where
  abbrev n : ℕ
  n = lent_refusal ceiling demand b (length old)

  as_worded : n ≡ 0 → InWords demand b
  as_worded z = in_words demand b (lent_accepted ceiling demand b (length old) z).ok

  not_taken : (n ≡ 0 → ⊥) → host_sealed ceiling demand b (length old) ≡ 2 ^ 64 - n
  unfolding host_sealed
  not_taken h = refused_value n (lent_left ceiling demand b (length old)) h

  untouched : (n ≡ 0 → ⊥) → lent_awards ceiling demand b old ≡ old
  unfolding lent_awards
  untouched h = rw (ne_eqb n 0 h)

  left : n ≡ 0 → host_sealed ceiling demand b (length old) ≡ left_over demand b
  unfolding host_sealed lent_left
  left z = accepted_value n (lent_left ceiling demand b (length old)) z ∙ rw (eq-eqb n 0 z)

  filled : n ≡ 0 → lent_awards ceiling demand b old ≡ laid (awards demand b) old
  unfolding lent_awards
  filled z = rw (eq-eqb n 0 z)

sealed_returned :
    (ceiling demand : ℕ) (b : Book) (old new : List ℕ) (r : ℕ) → r ≡ host_sealed ceiling demand b (length old) →
    new ≡ lent_awards ceiling demand b old → SealedReturned ceiling demand b old new r
sealed_returned ceiling demand b old new r e f = record {
  refused = λ h. (e ∙ not_taken ceiling demand b old h, f ∙ untouched ceiling demand b old h);
  awarded = λ z. (as_worded ceiling demand b old z, e ∙ left ceiling demand b old z, f ∙ filled ceiling demand b old z);
}

-- and nothing else is
sealed_determined :
    (ceiling demand : ℕ) (b : Book) (old new new' : List ℕ) (r r' : ℕ) → SealedReturned ceiling demand b old new r →
    SealedReturned ceiling demand b old new' r' → (r ≡ r') × (new ≡ new')
sealed_determined ceiling demand b old new new' r r' x y = go (eqb (n ceiling demand b old) 0) refl
  where
    go : (t : Bool) → eqb (n ceiling demand b old) 0 ≡ t → (r ≡ r') × (new ≡ new')
    go true e =
        let z : n ceiling demand b old ≡ 0 = eqb-true _ 0 e in
        let u = x.awarded z in
        let v = y.awarded z in
        (u.1 ∙ sym v.1, u.2 ∙ sym v.2)
    go false e =
        let h : n ceiling demand b old ≡ 0 → ⊥ = eqb-false _ 0 e in
        let u = x.refused h in
        let v = y.refused h in
        (u.0 ∙ sym v.0, u.1 ∙ sym v.1)

-- ---- together

pub sealed_exported : {M : Type 1} → SealedExported M
sealed_exported = record {
  meets = sealing_met.met;
  asks = λ κs x. (tt, tt);
  returns = λ κs x r y q. sealed_returned _ _ _ _ _ r q.0 q.1;
  determined = sealed_determined;
}
