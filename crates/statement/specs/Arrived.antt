-- ARRIVAL ORDER IN A ROUND (document 02, 12), of the engine's calls. Behind one list of calls, two lists of developers' own calls, offers and
-- cancellations, that hold for each developer the same calls in the same order, and behind both one rest. Runs of them reach equal auctions,
-- supply curve included; each of these calls gets the answer that it gets in the other order, so all are accepted in one order exactly if
-- they are in the other; every call before and behind, closings among them, is answered the same; and settling what they reach gives equal
-- results and buffers. So the answers in the one order decide those in the other: whoever exchanges them as the calls are, each developer's in their own
-- order, has these. That a round is open is not asked: a refused call may arrive in any order too.
use Rattle.std.specs.Prelude.{◌≡◌, refl, List, [], ◌∷◌, ◌++◌, map, length}
use Rattle.std.proofs.Common.{sym, ap, ap₂, ◌∙◌}
use Rattle.rules_numbers.specs.Lists.{keep}
use Rattle.rules_auction.specs.Ledger.{Call, Ledger}
use Rattle.rules_auction.specs.Rounds.{step, step_all, ledger, Answered, answer, answers_from, answers}
use Rattle.laws_ledger.specs.reachable.Steps.{step_all_append, ledger_append}
use Rattle.laws_arrival.specs.cancelling.TakenBack.{own}
use Rattle.laws_arrival.specs.arrival.Arrival.{with_answers, Reordered, answered_from, SameAnswers, Alike}
use Rattle.laws_arrival.specs.arrival.ArrivalLaws.{arrival}
use Rattle.laws_arrival.specs.arrival.LineLaws.{asked_with_answers}
use Rattle.laws_arrival.specs.arrival.WordsDecide.{same_parts, same_pairs, answers_decided}
use Rattle.engine_auction.specs.declared.Auction.{Auction}
use Rattle.statement.specs.EveryList.{Run, run_reached}
use Rattle.statement.specs.EqualAuctions.{EqualAuctions, equal_auctions, in_three, answers_long}

-- answers in three parts, before the calls ds, to them, and behind; and in another order, each developer's in their own, answers to the calls es
pub record AsAnswered (cs ds es : List Call) (rs before : List Answered) (midst midst' : List (Call × Answered)) (behind : List Answered) : Type 0 where
  pub long : length before ≡ length cs
  pub parts : rs ≡ before ++ (map (λ t. t.1) midst ++ behind)
  pub calls : (map (λ t. t.0) midst ≡ ds) × (map (λ t. t.0) midst' ≡ es)
  pub each : SameAnswers midst midst'

pub record Arrived (cs ds es rest : List Call) : Type 1 where
  pub equal : EqualAuctions (cs ++ (ds ++ rest)) (cs ++ (es ++ rest))
  pub between : Alike (ledger cs) ds es
  pub answered :
      {rs rs' : List Answered} {a a' : Auction} → Run (cs ++ (ds ++ rest)) rs a → Run (cs ++ (es ++ rest)) rs' a' →
      (rs ≡ answers cs ++ (map (λ t. t.1) (answered_from (ledger cs) ds) ++ answers_from (ledger (cs ++ ds)) rest))
      × (rs' ≡ answers cs ++ (map (λ t. t.1) (answered_from (ledger cs) es) ++ answers_from (ledger (cs ++ ds)) rest))
  -- the answers can be exchanged so, and whoever does it has those in the other order
  pub as_answered :
      {rs : List Answered} {a : Auction} → Run (cs ++ (ds ++ rest)) rs a →
      AsAnswered cs ds es rs (answers cs) (answered_from (ledger cs) ds) (answered_from (ledger cs) es) (answers_from (ledger (cs ++ ds)) rest)
  pub decided :
      {rs rs' : List Answered} {a a' : Auction} → Run (cs ++ (ds ++ rest)) rs a → Run (cs ++ (es ++ rest)) rs' a' →
      (before : List Answered) (midst midst' : List (Call × Answered)) (behind : List Answered) →
      AsAnswered cs ds es rs before midst midst' behind → rs' ≡ before ++ (map (λ t. t.1) midst' ++ behind)

abbrev pub ArrivalStated : Type 1
ArrivalStated = (cs ds es rest : List Call) → Reordered ds es → Arrived cs ds es rest

answers_answered : (l : Ledger) (cs : List Call) → answers_from l cs ≡ map (λ t. t.1) (answered_from l cs)
unfolding answers_from with_answers
answers_answered l [] = refl
answers_answered l (c ∷ cs) = ap (λ (rs : List Answered). answer l c ∷ rs) (answers_answered (step l c) cs)

-- ---- the words decide

there_is : (cs ds es rest : List Call) → Alike (ledger cs) ds es → (rs : List Answered) →
    rs ≡ answers cs ++ (map (λ t. t.1) (answered_from (ledger cs) ds) ++ answers_from (ledger (cs ++ ds)) rest) →
    AsAnswered cs ds es rs (answers cs) (answered_from (ledger cs) ds) (answered_from (ledger cs) es) (answers_from (ledger (cs ++ ds)) rest)
there_is cs ds es rest k rs e = record {
  long = answers_long cs;
  parts = e;
  calls = (asked_with_answers step answer (ledger cs) ds, asked_with_answers step answer (ledger cs) es);
  each = k.answered;
}

module _ (cs ds es rest : List Call) (h : Reordered ds es) (k : Alike (ledger cs) ds es) (rs rs' : List Answered)
    (e : rs ≡ answers cs ++ (map (λ t. t.1) (answered_from (ledger cs) ds) ++ answers_from (ledger (cs ++ ds)) rest))
    (e' : rs' ≡ answers cs ++ (map (λ t. t.1) (answered_from (ledger cs) es) ++ answers_from (ledger (cs ++ ds)) rest))
    (before : List Answered) (midst midst' : List (Call × Answered)) (behind : List Answered)
    (w : AsAnswered cs ds es rs before midst midst' behind) where
  abbrev heard : List (Call × Answered)
  heard = answered_from (ledger cs) ds

  abbrev later : List Answered
  later = answers_from (ledger (cs ++ ds)) rest

  front : (before ≡ answers cs) × (map (λ t. t.1) midst ++ behind ≡ map (λ t. t.1) heard ++ later)
  front = same_parts _ _ _ _ (w.long ∙ sym (answers_long cs)) (sym w.parts ∙ e)

  in_midst : (midst ≡ heard) × (behind ≡ later)
  in_midst = same_pairs midst heard behind later (w.calls.0 ∙ sym (asked_with_answers step answer (ledger cs) ds)) front.1

  words_decide : rs' ≡ before ++ (map (λ t. t.1) midst' ++ behind)
  words_decide =
      let each : SameAnswers midst midst' = w.each in
      let there = answers_decided (ledger cs) ds es h k midst' w.calls.1 (λ n. ap (keep (λ t. own n t.0)) (sym in_midst.0) ∙ each n) in
      e'
      ∙ ap₂ (λ (xs ys : List Answered). xs ++ ys) (sym front.0)
      (ap₂ (λ (ts : List (Call × Answered)) (ys : List Answered). map (λ t. t.1) ts ++ ys) (sym there) (sym in_midst.1))

pub arrival_stated : ArrivalStated
arrival_stated cs ds es rest h =
    let k = arrival (ledger cs) ds es h in
    let same : ledger (cs ++ ds) ≡ ledger (cs ++ es) = ledger_append cs ds ∙ k.ledgers ∙ sym (ledger_append cs es) in
    let one : answers (cs ++ (ds ++ rest)) ≡ answers cs ++ (map (λ t. t.1) (answered_from (ledger cs) ds) ++ answers_from (ledger (cs ++ ds)) rest) =
    in_three cs ds rest ∙ ap (λ (xs : List Answered). answers cs ++ (xs ++ answers_from (ledger (cs ++ ds)) rest)) (answers_answered (ledger cs) ds) in
    let other : answers (cs ++ (es ++ rest)) ≡ answers cs ++ (map (λ t. t.1) (answered_from (ledger cs) es) ++ answers_from (ledger (cs ++ ds)) rest) =
    in_three cs es rest ∙ ap₂ (λ (xs : List Answered) (l : Ledger). answers cs ++ (xs ++ answers_from l rest)) (answers_answered (ledger cs) es) (sym same) in
    record {
      equal = equal_auctions (cs ++ (ds ++ rest)) (cs ++ (es ++ rest)) (whole ds ∙ ap (λ (l : Ledger). step_all l rest) k.ledgers ∙ sym (whole es));
      between = k;
      answered = λ w v. ((run_reached w).1 ∙ one, (run_reached v).1 ∙ other);
      as_answered = λ w. there_is cs ds es rest k _ ((run_reached w).1 ∙ one);
      decided = λ w v. words_decide cs ds es rest h k _ _ ((run_reached w).1 ∙ one) ((run_reached v).1 ∙ other);
    }
  where
    whole : (xs : List Call) → ledger (cs ++ (xs ++ rest)) ≡ step_all (step_all (ledger cs) xs) rest
    whole xs = ledger_append cs (xs ++ rest) ∙ step_all_append (ledger cs) xs rest
