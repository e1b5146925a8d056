-- READ OUT, the sealed auction for long builds (document 02, 13): whatever the arguments x, ceiling, demand, prices, quantities, minimums, ages and the
-- buffer; y are the same at the call's end.
use Rattle.std.specs.Prelude.{ℕ, ◌≤◌, ◌<◌, ◌≡◌, ◌⊎◌, true, List, length, Result}
use contract.Lifetimes.{Lfts}
use denote.Triple.Clauses.{AtExit}
use borrow.Fn.World.{ArgsD}
use borrow.Fn.Kinds.{ended_of}
use Rattle.rules_numbers.specs.Tails.{laid}
use Rattle.rules_numbers.specs.reordering.Exchanges.{SameOfEach}
use Rattle.rules_sealed.specs.Sealed.{Book, book_of, size, offer_at, offers, book_ok, taking_order, award_at, awards, left_over, lent_refusal}
use Rattle.rules_sealed.specs.InWords.{InWords, of_kind, awarded_offers, SameAwards}
use Rattle.rules_sealed.specs.WordsDecide.{AsAsked}
use Rattle.engine_refusals.specs.declared.Refusal.{Refusal}
use Rattle.engine_sealed.specs.sealed_auction.Cleared.{Lent, lent_in}
use Rattle.engine_sealed.specs.contracts.sealed_auction.sealed_auction.{signature}
use Rattle.engine_sealed.proofs.sealed_auction.sealed_auction.Kinds as kinds
use Rattle.engine_sealed.proofs.sealed_auction.sealed_auction.Reads as sealing
use Rattle.statement.specs.SealedStated.{SealedAnswered}
use Rattle.statement.specs.SealedDecided.{Decided}
use Rattle.statement.specs.EngineCorrect.{EngineCorrect}

-- ---- what is said of an answer: `old` and `new` are the lent buffer before and after

module _ {ceiling demand : ℕ} {b : Book} {old new : List ℕ} {r : Lent} (a : SealedAnswered ceiling demand b old new r) where
  -- refused by 18, 19 or 11 exactly as the papers say
  pub sealed_number : r.number ≡ lent_refusal ceiling demand b (length old)
  sealed_number = a.number

  -- refused: nothing is left, and the buffer is as it was
  pub sealed_refused : (r.number ≡ 0 → ⊥) → (r.left ≡ 0) × (new ≡ old)
  sealed_refused z = a.refused z

  -- accepted: each offer is treated as the request's words say, the awards stand in the buffer, and what is left is told
  pub sealed_awarded : r.number ≡ 0 → InWords demand b × (r.left ≡ left_over demand b) × (new ≡ laid (awards demand b) old)
  sealed_awarded z = a.accepted z

  -- each award is 0, or from its offer's minimum to its quantity
  pub sealed_range : r.number ≡ 0 → (k : ℕ) → k < size b →
      (award_at demand b k ≡ 0) ⊎ (((offer_at b k).minimum ≤ award_at demand b k) × (award_at demand b k ≤ (offer_at b k).quantity))
  sealed_range z = (sealed_awarded z).0.range

module _ {demand : ℕ} {b : Book} {old new : List ℕ} {r : Lent} (d : Decided demand b old new r) where
  -- the words of the request hold of the turns, the awards and what is left ..
  pub sealed_as_asked : AsAsked demand b (taking_order b) (awards demand b) (left_over demand b)
  sealed_as_asked = d.asked

  -- .. and whatever order, awards and rest they hold of are these
  pub sealed_only : (order given : List ℕ) (rest : ℕ) → AsAsked demand b order given rest → (r.left ≡ rest) × (new ≡ laid given old)
  sealed_only order given rest w = d.only order given rest w

module _ {M : Type 1} (s : EngineCorrect M) where
  -- ---- the call is answered so, and decided

  -- whatever the arguments, as said above
  pub sealed_stated :
      (κs : Lfts 5) (x : ArgsD signature κs) (r : Result ℕ Refusal) (y : AtExit (ended_of 5 kinds.ps kinds.r) κs) → sealing.Post κs x r y →
      SealedAnswered x.0 x.1.0 (book_of x.1.1.0.now x.1.1.1.0.now x.1.1.1.1.0.now x.1.1.1.1.1.0.now)
      x.1.1.1.1.1.1.0.now y.1.1.1.1.1.1.0.now (lent_in r)
  sealed_stated κs x r y q = s.sealed.answered κs x r y q

  -- accepted, the request's words decide it
  pub sealed_decided :
      (ceiling demand : ℕ) (b : Book) (old new : List ℕ) (r : Lent) → SealedAnswered ceiling demand b old new r → r.number ≡ 0 → Decided demand b old new r
  sealed_decided ceiling demand b old new r a z = s.sealed_words ceiling demand b old new r a z

  -- ---- the order of the list decides only among offers equal in age and price

  module _ (demand : ℕ) (b b' : Book) (ok : book_ok b ≡ true) (ok' : book_ok b' ≡ true) (same : SameOfEach of_kind (offers b) (offers b')) where
    -- two books with the same offers of each age and price in the same order: the same awards, and as much is left
    pub any_list : SameAwards demand b b'
    any_list = s.sealed.any_order demand b b' ok ok' same

    pub awarded_in_any_list : SameOfEach (λ g t. of_kind g t.0) (awarded_offers demand b) (awarded_offers demand b')
    awarded_in_any_list = any_list.awarded

    pub left_in_any_list : left_over demand b ≡ left_over demand b'
    left_in_any_list = any_list.left
