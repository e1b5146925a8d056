-- READ OUT, of answers in other orders: what a developer hears if an offer was cancelled or never made (document 02, 7), and if others' calls arrive
-- in another order (document 02, 12), in calls and in the lines of a record.
use Rattle.std.specs.Prelude.{ℕ, ◌≡◌, length, take, drop}
use mathlib.Core.List.{List, ◌++◌, map, flatten}
use Rattle.rules_format.specs.Lines.{lines}
use Rattle.rules_auction.specs.Ledger.{Call}
use Rattle.rules_auction.specs.Rounds.{ledger, Answered, answers_from, answers}
use Rattle.rules_replies.specs.Replies.{replies}
use Rattle.laws_arrival.specs.cancelling.TakenBack.{passage, TakenBack, taken, never_made}
use Rattle.laws_arrival.specs.arrival.Arrival.{Reordered, answered_from, Alike, ReorderedLines, AsReplied, RepliedAlike}
use Rattle.engine_auction.specs.declared.Auction.{Auction}
use Rattle.statement.specs.EveryList.{Run}
use Rattle.statement.specs.Cancelled.{heard_by_others, heard, without_own}
use Rattle.statement.specs.Arrived.{AsAnswered}
use Rattle.statement.specs.EngineCorrect.{EngineCorrect}

module _ {M : Type 1} (s : EngineCorrect M) where
  -- ---- a cancelled offer is as if never made (document 02, 7): run w holds the offer and its cancellation, run v does not

  module _ (n : ℕ) (ds : List Call) (ps qs : List ℕ) (between rest : List Call) (t : TakenBack n ds ps qs between) {rs rs' : List Answered} {a a' : Auction}
      (w : Run (taken n ds ps qs between rest) rs a) (v : Run (never_made n ds ps qs between rest) rs' a') where
    -- all answers but those to n's own calls from the offer to the cancellation
    pub answers_without_the_offer : rs' ≡ take (length ds) rs ++ without_own n (passage n ps qs between) (drop (length ds) rs)
    answers_without_the_offer = (s.cancelling n ds ps qs between t rest).decided w v

    pub answers_by_the_ledger : (rs ≡ heard n ds ps qs between rest) × (rs' ≡ heard_by_others n ds ps qs between rest)
    answers_by_the_ledger = (s.cancelling n ds ps qs between t rest).answered w v

  -- ---- arrival order (document 02, 12)

  module _ (cs ds es rest : List Call) (h : Reordered ds es) where
    -- one ledger behind both orders; each developer hears what it hears in the other; and all are accepted in both or in neither
    pub calls_alike : Alike (ledger cs) ds es
    calls_alike = (s.arrival cs ds es rest h).between

    module _ {rs rs' : List Answered} {a a' : Auction} (w : Run (cs ++ (ds ++ rest)) rs a) (v : Run (cs ++ (es ++ rest)) rs' a') where
      -- before and behind the answers are the same
      pub answers_in_each_order :
          (rs ≡ answers cs ++ (map (λ t. t.1) (answered_from (ledger cs) ds) ++ answers_from (ledger (cs ++ ds)) rest))
          × (rs' ≡ answers cs ++ (map (λ t. t.1) (answered_from (ledger cs) es) ++ answers_from (ledger (cs ++ ds)) rest))
      answers_in_each_order = (s.arrival cs ds es rest h).answered w v

      pub exchanged_answers :
          AsAnswered cs ds es rs (answers cs) (answered_from (ledger cs) ds) (answered_from (ledger cs) es) (answers_from (ledger (cs ++ ds)) rest)
      exchanged_answers = (s.arrival cs ds es rest h).as_answered w

      -- from the answers in the one order, those in the other
      pub answers_in_other_order : (before : List Answered) (midst midst' : List (Call × Answered)) (behind : List Answered) →
          AsAnswered cs ds es rs before midst midst' behind → rs' ≡ before ++ (map (λ t. t.1) midst' ++ behind)
      answers_in_other_order before midst midst' behind q = (s.arrival cs ds es rest h).decided w v before midst midst' behind q

  -- ---- arrival order in the lines of two records (document 02, 12)

  module _ (bytes bytes' : List ℕ) (bs ds es rest : List (List ℕ)) (p : lines bytes ≡ bs ++ (ds ++ rest)) (p' : lines bytes' ≡ bs ++ (es ++ rest))
      (h : ReorderedLines ds es) where
    -- in the midst the replies stand exchanged as the lines do; beside, they are the same; and they are as many bytes, so one buffer does for both
    pub lines_alike : RepliedAlike bytes bytes' bs ds es
    lines_alike = (s.arrival_lines bytes bytes' bs ds es rest p p' h).alike

    -- from the replies in the one order, every byte of those in the other
    pub replies_in_other_order : (before midst midst' behind : List (List ℕ × List ℕ)) → AsReplied bytes bs ds es before midst midst' behind →
        replies bytes' ≡ flatten (map (λ t. t.1) (before ++ (midst' ++ behind)))
    replies_in_other_order before midst midst' behind q = (s.arrival_lines bytes bytes' bs ds es rest p p' h).decided before midst midst' behind q
