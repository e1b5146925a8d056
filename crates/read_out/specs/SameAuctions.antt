-- READ OUT, lists that reach one auction: a cancelled offer is as if never made (document 02, 7), and developers' own calls may arrive in any order
-- (document 02, 12). What is answered along them stands in OtherOrders.
use Rattle.std.specs.Prelude.{ℕ, ◌≡◌, List, ◌++◌, Result}
use contract.Lifetimes.{Lfts}
use denote.Triple.Clauses.{AtExit}
use borrow.Fn.World.{ArgsD}
use borrow.Fn.Kinds.{ended_of}
use Rattle.rules_numbers.specs.reordering.Exchanges.{SameOfEach}
use Rattle.rules_auction.specs.Ledger.{Call, Ledger}
use Rattle.rules_auction.specs.Rounds.{step_all, Answered}
use Rattle.laws_arrival.specs.cancelling.TakenBack.{own, TakenBack, taken, never_made}
use Rattle.laws_arrival.specs.arrival.Arrival.{Reordered, answered_from, all_accepted, Alike}
use Rattle.engine_auction.specs.declared.Auction.{Auction}
use Rattle.engine_refusals.specs.declared.Refusal.{Refusal}
use Rattle.engine_settling.specs.declared.Settlement.{Settlement}
use Rattle.engine_settling.specs.contracts.settle.{signature}
use Rattle.engine_settling.proofs.settle.Kinds as kinds
use Rattle.engine_settling.proofs.settle.Reads as settle
use Rattle.statement.specs.EveryList.{Run}
use Rattle.statement.specs.EqualAuctions.{EqualAuctions}
use Rattle.statement.specs.EngineCorrect.{EngineCorrect}

-- ---- equal auctions: runs of the two lists reach one, and settling it, with one limit and buffers of equal bytes, gives one answer and one buffer

module _ {cs cs' : List Call} (e : EqualAuctions cs cs') where
  pub one_auction : {rs rs' : List Answered} {a a' : Auction} → Run cs rs a → Run cs' rs' a' → a ≡ a'
  one_auction w v = e.auctions w v

  pub one_settling :
      {rs rs' : List Answered} (κs κs' : Lfts 1) (x : ArgsD signature κs) (x' : ArgsD signature κs') (r r' : Result Settlement Refusal)
      (y : AtExit (ended_of 1 kinds.ps kinds.r) κs) (y' : AtExit (ended_of 1 kinds.ps kinds.r) κs') → Run cs rs x.0 → Run cs' rs' x'.0 →
      x.1.0 ≡ x'.1.0 → x.1.1.0.now ≡ x'.1.1.0.now → settle.Post κs x r y → settle.Post κs' x' r' y' →
      (r ≡ r') × (y.1.1.0.now ≡ y'.1.1.0.now)
  one_settling κs κs' x x' r r' y y' w v l b q q' = e.settled κs κs' x x' r r' y y' w v l b q q'

-- ---- calls alike in two orders: they lead to one ledger, each gets the same answer in both, and all are accepted in the one if they are in the other

module _ {l : Ledger} {ds es : List Call} (a : Alike l ds es) where
  pub one_ledger : step_all l ds ≡ step_all l es
  one_ledger = a.ledgers

  pub own_answers_lem : SameOfEach (λ n t. own n t.0) (answered_from l ds) (answered_from l es)
  own_answers_lem = a.answered

  pub all_accepted_lem : all_accepted l ds ≡ all_accepted l es
  all_accepted_lem = a.accepted

module _ {M : Type 1} (s : EngineCorrect M) where
  -- ---- a cancelled offer

  module _ (n : ℕ) (ds : List Call) (ps qs : List ℕ) (between rest : List Call) (t : TakenBack n ds ps qs between) where
    pub as_never_made : EqualAuctions (taken n ds ps qs between rest) (never_made n ds ps qs between rest)
    as_never_made = (s.cancelling n ds ps qs between t rest).equal

  -- ---- arrival order

  module _ (cs ds es rest : List Call) (h : Reordered ds es) where
    pub any_arrival : EqualAuctions (cs ++ (ds ++ rest)) (cs ++ (es ++ rest))
    any_arrival = (s.arrival cs ds es rest h).equal
