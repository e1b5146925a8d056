-- Taking back an offer (document 02, 7): the lists with an accepted offer and its accepted cancellation, and without them.
use Rattle.std.specs.Prelude.{ℕ, ◌≡◌, Bool, true, false, cond, not, List, [], ◌∷◌, ◌++◌, eqb}
use Rattle.rules_numbers.specs.Lists.{keep}
use Rattle.rules_auction.specs.Ledger.{Offer, Cancel, Call, SetUp, Register, Open, By, Close, Ledger}
use Rattle.rules_auction.specs.Refusals.{refusal}
use Rattle.rules_auction.specs.Rounds.{step, step_all, ledger, Answered, answer, answers_from}

-- a call of developer n's own: a move that it makes
unfoldable pub own : ℕ → Call → Bool
own n (SetUp s) = false
own n (Register k w x) = false
own n (Open c) = false
own n (By k m) = eqb k n
own n Close = false

-- calls without n's own
unfoldable pub others : ℕ → List Call → List Call
others n cs = keep (λ c. not (own n c)) cs

-- what calls are answered from a ledger on, n's own left out
unfoldable pub answers_to_others : ℕ → Ledger → List Call → List Answered
answers_to_others n l [] = []
answers_to_others n l (c ∷ cs) = cond (own n c) (answers_to_others n (step l c) cs) (answer l c ∷ answers_to_others n (step l c) cs)

-- none of the calls from a ledger on is n's own accepted one
unfoldable pub OwnRefused : ℕ → Ledger → List Call → Type 0
OwnRefused n l [] = Unit {0}
OwnRefused n l (c ∷ cs) = (own n c ≡ true → refusal l c ≡ 0 → ⊥) × OwnRefused n (step l c) cs

-- n's offer, the calls between, n's cancellation
abbrev pub passage : ℕ → List ℕ → List ℕ → List Call → List Call
passage n ps qs between = By n (Offer ps qs) ∷ (between ++ (By n Cancel ∷ []))

-- behind the calls ds, the offer and the cancellation are accepted, and between them no call is n's own accepted one
pub record TakenBack (n : ℕ) (ds : List Call) (ps qs : List ℕ) (between : List Call) : Type 0 where
  pub offered : refusal (ledger ds) (By n (Offer ps qs)) ≡ 0
  pub refused : OwnRefused n (step (ledger ds) (By n (Offer ps qs))) between
  pub cancelled : refusal (step_all (ledger ds) (By n (Offer ps qs) ∷ between)) (By n Cancel) ≡ 0

-- the list with offer and cancellation, and the list without: the two calls and n's own between them are left out, so that an offer of n's
-- refused between them stays out too; n's calls before and behind them stay
abbrev pub taken : ℕ → List Call → List ℕ → List ℕ → List Call → List Call → List Call
taken n ds ps qs between rest = ds ++ (passage n ps qs between ++ rest)

abbrev pub never_made : ℕ → List Call → List ℕ → List ℕ → List Call → List Call → List Call
never_made n ds ps qs between rest = ds ++ (others n (passage n ps qs between) ++ rest)

-- the ledger is the same, and so is every answer to the calls that both lists hold
pub record AsIfNeverMade (n : ℕ) (ds : List Call) (ps qs : List ℕ) (between rest : List Call) : Type 0 where
  pub ledgers : ledger (taken n ds ps qs between rest) ≡ ledger (never_made n ds ps qs between rest)
  pub meanwhile : answers_to_others n (ledger ds) (passage n ps qs between) ≡ answers_from (ledger ds) (others n (passage n ps qs between))
  pub later : answers_from (ledger (ds ++ passage n ps qs between)) rest ≡ answers_from (ledger (ds ++ others n (passage n ps qs between))) rest
