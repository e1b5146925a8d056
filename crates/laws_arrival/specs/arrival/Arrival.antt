-- Arrival order in a round (document 02, 12): lists that hold, for each developer, the same calls in the same order, and what is the same then.
use Rattle.std.specs.Prelude.{ℕ, ◌≡◌, Bool, true, false, List, [], ◌∷◌, ◌++◌, map, eqb, length}
use Rattle.rules_numbers.specs.Lists.{all}
use Rattle.rules_auction.specs.Ledger.{Call, SetUp, Register, Open, By, Close, Ledger, start}
use Rattle.rules_auction.specs.Rounds.{step, step_all, Answered, answer}
use Rattle.laws_arrival.specs.cancelling.TakenBack.{own}
use Rattle.rules_numbers.specs.reordering.Exchanges.{SameOfEach}
use Rattle.rules_format.specs.Lines.{lines}
use Rattle.rules_replies.specs.Orders.{Order, Malformed, Asks, Settle, order_in}
use Rattle.rules_replies.specs.Replies.{reply_to, ledger_after, replies}

-- each with what it is answered, one behind the other
unfoldable pub with_answers : {S A B : Type 0} → (S → A → S) → (S → A → B) → S → List A → List (A × B)
with_answers next says s [] = []
with_answers next says s (x ∷ xs) = (x, says s x) ∷ with_answers next says (next s x) xs

-- ---- calls

-- an offer, a cancellation or a lodged list: a call of a developer's own
unfoldable pub is_move : Call → Bool
is_move (SetUp s) = false
is_move (Register n w x) = false
is_move (Open c) = false
is_move (By n m) = true
is_move Close = false

-- two lists of developers' own calls, accepted or refused, that hold the same ones of each developer in the same order
pub record Reordered (ds es : List Call) : Type 0 where
  pub moves : all is_move ds ≡ true
  pub moves' : all is_move es ≡ true
  pub each : SameOfEach own ds es

abbrev pub answered_from : Ledger → List Call → List (Call × Answered)
answered_from l cs = with_answers step answer l cs

-- all of the calls are accepted, from the ledger l on
abbrev pub all_accepted : Ledger → List Call → Bool
all_accepted l cs = all (λ t. eqb t.1.number 0) (answered_from l cs)

-- calls with their answers that are the same of each developer, in the same order
abbrev pub SameAnswers : List (Call × Answered) → List (Call × Answered) → Type 0
SameAnswers ts us = SameOfEach (λ n t. own n t.0) ts us

-- from the ledger l on, both lists lead to one ledger; each developer's calls get the same answers; and all of the one are accepted exactly
-- when all of the other are
pub record Alike (l : Ledger) (ds es : List Call) : Type 0 where
  pub ledgers : step_all l ds ≡ step_all l es
  pub answered : SameAnswers (answered_from l ds) (answered_from l es)
  pub accepted : all_accepted l ds ≡ all_accepted l es

-- ---- lines of a record

unfoldable pub order_is_move : Order → Bool
order_is_move Malformed = false
order_is_move (Asks c) = is_move c
order_is_move (Settle limit) = false

unfoldable pub order_own : ℕ → Order → Bool
order_own n Malformed = false
order_own n (Asks c) = own n c
order_own n (Settle limit) = false

-- a line that asks a call of developer n's own
abbrev pub line_own : ℕ → List ℕ → Bool
line_own n line = order_own n (order_in line)

-- two lists of lines, each asking a developer's own call, that hold the same lines of each developer in the same order
pub record ReorderedLines (ds es : List (List ℕ)) : Type 0 where
  pub moves : all (λ line. order_is_move (order_in line)) ds ≡ true
  pub moves' : all (λ line. order_is_move (order_in line)) es ≡ true
  pub each : SameOfEach line_own ds es

-- each line with its reply
abbrev pub replied_from : Ledger → List (List ℕ) → List (List ℕ × List ℕ)
replied_from l ls = with_answers (λ m line. ledger_after m (order_in line)) (λ m line. reply_to m (order_in line)) l ls

abbrev pub replied : List ℕ → List (List ℕ × List ℕ)
replied bytes = replied_from start (lines bytes)

-- lines with their replies that are the same of each developer, in the same order
abbrev pub SameReplies : List (List ℕ × List ℕ) → List (List ℕ × List ℕ) → Type 0
SameReplies ts us = SameOfEach (λ n t. line_own n t.0) ts us

-- the replies to a record, line by line, in three parts: to the lines bs, to the lines ds, and behind; and in another order, each developer's in its
-- own, replies to the lines es
pub record AsReplied (bytes : List ℕ) (bs ds es : List (List ℕ)) (before midst midst' behind : List (List ℕ × List ℕ)) : Type 0 where
  pub parts : replied bytes ≡ before ++ (midst ++ behind)
  pub asked : (map (λ t. t.0) before ≡ bs) × (map (λ t. t.0) midst ≡ ds) × (map (λ t. t.0) midst' ≡ es)
  pub each : SameReplies midst midst'

-- the replies to two records, line by line: the same, but that in the midst they stand exchanged as the lines do; so they are as long
pub record RepliedAlike (bytes bytes' : List ℕ) (bs ds es : List (List ℕ)) : Type 0 where
  pub before : List (List ℕ × List ℕ)
  pub midst : List (List ℕ × List ℕ)
  pub midst' : List (List ℕ × List ℕ)
  pub behind : List (List ℕ × List ℕ)
  pub one : AsReplied bytes bs ds es before midst midst' behind
  pub other : replied bytes' ≡ before ++ (midst' ++ behind)
  pub long : length (replies bytes) ≡ length (replies bytes')
