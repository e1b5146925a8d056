-- Two lists of calls with one ledger, of the engine's calls: runs of them reach equal auctions, and settling what they reach, with one limit and
-- buffers of equal bytes, gives equal results and buffers.
use Rattle.std.specs.Prelude.{ℕ, suc, ◌≡◌, refl, List, [], ◌∷◌, ◌++◌, length, Result}
use Rattle.std.proofs.Common.{sym, ap, subst, subst₂, ◌∙◌}
use Rattle.std.proofs.Math.Decide.{ℕ_discrete as dec_eq}
use contract.Lifetimes.{Lfts}
use denote.Triple.Clauses.{AtExit}
use borrow.Fn.World.{ArgsD}
use borrow.Fn.Kinds.{ended_of}
use Rattle.rules_auction.specs.Ledger.{Call, Ledger, start}
use Rattle.rules_auction.specs.Rounds.{step, ledger, Answered, answers_from, answers}
use Rattle.laws_ledger.specs.reachable.Steps.{ledger_append, answers_append, answers_from_append}
use Rattle.engine_auction.specs.Holds.{held_auction}
use Rattle.engine_auction.specs.declared.Auction.{Auction}
use Rattle.engine_refusals.specs.declared.Refusal.{Refusal}
use Rattle.engine_settling.specs.Settles.{Settled, settled_in, refused_with, Settles}
use Rattle.engine_settling.specs.declared.Settlement.{Settlement}
use Rattle.engine_settling.specs.contracts.settle.{signature}
use Rattle.engine_settling.proofs.settle.Kinds as kinds
use Rattle.engine_settling.proofs.settle.Reads as settle
use Rattle.statement.specs.EveryList.{Run, run_reached}
use Rattle.statement.specs.SameResults.{settled_determines}

-- the arguments x, x' of settling: the auction, the limit, the buffer; y, y': the same at the call's end
pub record EqualAuctions (cs cs' : List Call) : Type 1 where
  pub auctions : {rs rs' : List Answered} {a a' : Auction} → Run cs rs a → Run cs' rs' a' → a ≡ a'
  pub settled :
      {rs rs' : List Answered} (κs κs' : Lfts 1) (x : ArgsD signature κs) (x' : ArgsD signature κs') (r r' : Result Settlement Refusal)
      (y : AtExit (ended_of 1 kinds.ps kinds.r) κs) (y' : AtExit (ended_of 1 kinds.ps kinds.r) κs') →
      Run cs rs x.0 → Run cs' rs' x'.0 →
      x.1.0 ≡ x'.1.0 → x.1.1.0.now ≡ x'.1.1.0.now → settle.Post κs x r y → settle.Post κs' x' r' y' →
      (r ≡ r') × (y.1.1.0.now ≡ y'.1.1.0.now)

-- ---- settling the auctions of one ledger, with one limit and one buffer

module _ (cs ds : List Call) (same : ledger cs ≡ ledger ds) (a a' : Auction) (h : a ≡ held_auction (ledger cs)) (h' : a' ≡ held_auction (ledger ds)) where
  same_auction : a ≡ a'
  same_auction = h ∙ ap held_auction same ∙ sym h'

  module _ (limit : ℕ) (old new new' : List ℕ) (r r' : Settled) (s : Settles a limit old new r) (t : Settles a' limit old new' r') where
    t_here : Settles a limit old new' r'
    t_here = subst (λ (b : Auction). Settles b limit old new' r') (sym same_auction) t

    same_number : r.number ≡ r'.number
    same_number = s.number cs h ∙ sym (t_here.number cs h)

    same_settled : (r ≡ r') × (new ≡ new')
    same_settled = go (dec_eq r.number 0)
      where
        go : Dec (r.number ≡ 0) → (r ≡ r') × (new ≡ new')
        go (yes z) =
            let z' : r'.number ≡ 0 = sym same_number ∙ z in
            (s.answer cs h z ∙ sym (t_here.answer cs h z'), s.buffer cs h z ∙ sym (t_here.buffer cs h z'))
        go (no z) =
            let u = s.same z in
            let v = t_here.same (λ e. z (same_number ∙ e)) in
            (u.0 ∙ ap refused_with same_number ∙ sym v.0, u.1 ∙ sym v.1)

pub equal_auctions : (cs cs' : List Call) → ledger cs ≡ ledger cs' → EqualAuctions cs cs'
equal_auctions cs cs' e = record {
  auctions = λ w v. same_auction cs cs' e _ _ (run_reached w).0 (run_reached v).0;
  settled = λ κs κs' x x' r r' y y' w v f g s u.
      let k = same_settled cs cs' e _ _ (run_reached w).0 (run_reached v).0 _ _ _ _ (settled_in r) (settled_in r') s
      (subst₂ (λ (limit : ℕ) (old : List ℕ). Settles x'.0 limit old y'.1.1.0.now (settled_in r')) (sym f) (sym g) u) in
      (settled_determines r r' k.0, k.1);
}

-- ---- the answers along a list in three parts

pub in_three : (ds cs rest : List Call) → answers (ds ++ (cs ++ rest)) ≡ answers ds ++ (answers_from (ledger ds) cs ++ answers_from (ledger (ds ++ cs)) rest)
in_three ds cs rest =
    answers_append ds (cs ++ rest)
    ∙ ap (λ (xs : List Answered). answers ds ++ xs)
    (answers_from_append (ledger ds) cs rest ∙ ap (λ (l : Ledger). answers_from (ledger ds) cs ++ answers_from l rest) (sym (ledger_append ds cs)))

from_long : (l : Ledger) (cs : List Call) → length (answers_from l cs) ≡ length cs
unfolding answers_from
from_long l [] = refl
from_long l (c ∷ cs) = ap suc (from_long (step l c) cs)

-- an answer to each call
pub answers_long : (cs : List Call) → length (answers cs) ≡ length cs
unfolding answers
answers_long cs = from_long start cs
