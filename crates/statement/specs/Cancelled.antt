-- A CANCELLED OFFER IS AS IF NEVER MADE (document 02, 7), of the engine's calls. Two runs: one of a list with an accepted offer of developer n
-- and its accepted cancellation, one of the list without these two and without n's own calls between them, all refused. They reach equal
-- auctions, the calls that both hold get equal answers, and settling what they reach gives equal results and buffers. So the answers of the one run
-- decide those of the other: they are the same, but for those to n from the offer to the cancellation, which are left out.
use Rattle.std.specs.Prelude.{ℕ, ◌≡◌, refl, Bool, true, false, cond, List, [], ◌∷◌, ◌++◌, length, take, drop}
use Rattle.std.proofs.Common.{sym, ap, ap₂, ◌∙◌, take_at, drop_at}
use Rattle.rules_auction.specs.Ledger.{Call, Ledger}
use Rattle.rules_auction.specs.Rounds.{step, ledger, Answered, answer, answers_from, answers}
use Rattle.laws_arrival.specs.cancelling.TakenBack.{own, others, answers_to_others, passage, TakenBack, taken, never_made}
use Rattle.laws_arrival.specs.cancelling.TakenBackLaws.{as_if_never_made}
use Rattle.engine_auction.specs.declared.Auction.{Auction}
use Rattle.statement.specs.EveryList.{Run, run_reached}
use Rattle.statement.specs.EqualAuctions.{EqualAuctions, equal_auctions, in_three, answers_long}

-- what was answered before the offer, to others from the offer to the cancellation, and behind it
abbrev pub heard_by_others : ℕ → List Call → List ℕ → List ℕ → List Call → List Call → List Answered
heard_by_others n ds ps qs between rest =
    answers ds ++ (answers_to_others n (ledger ds) (passage n ps qs between) ++ answers_from (ledger (ds ++ passage n ps qs between)) rest)

-- and the whole of the answers, n's own included
abbrev pub heard : ℕ → List Call → List ℕ → List ℕ → List Call → List Call → List Answered
heard n ds ps qs between rest =
    answers ds ++ (answers_from (ledger ds) (passage n ps qs between) ++ answers_from (ledger (ds ++ passage n ps qs between)) rest)

-- of answers to the calls cs and behind them, those to n's own among cs left out
unfoldable pub without_own : ℕ → List Call → List Answered → List Answered
without_own n [] rs = rs
without_own n (c ∷ cs) [] = []
without_own n (c ∷ cs) (r ∷ rs) = cond (own n c) (without_own n cs rs) (r ∷ without_own n cs rs)

pub record Cancelled (n : ℕ) (ds : List Call) (ps qs : List ℕ) (between rest : List Call) : Type 1 where
  pub equal : EqualAuctions (taken n ds ps qs between rest) (never_made n ds ps qs between rest)
  pub answered :
      {rs rs' : List Answered} {a a' : Auction} → Run (taken n ds ps qs between rest) rs a → Run (never_made n ds ps qs between rest) rs' a' →
      (rs ≡ heard n ds ps qs between rest) × (rs' ≡ heard_by_others n ds ps qs between rest)
  pub decided :
      {rs rs' : List Answered} {a a' : Auction} → Run (taken n ds ps qs between rest) rs a → Run (never_made n ds ps qs between rest) rs' a' →
      rs' ≡ take (length ds) rs ++ without_own n (passage n ps qs between) (drop (length ds) rs)

abbrev pub CancellingStated : Type 1
CancellingStated =
    (n : ℕ) (ds : List Call) (ps qs : List ℕ) (between : List Call) → TakenBack n ds ps qs between → (rest : List Call) → Cancelled n ds ps qs between rest

-- ---- the words decide

without_own_lem : (n : ℕ) (l : Ledger) (cs : List Call) (later : List Answered) → without_own n cs (answers_from l cs ++ later) ≡ answers_to_others n l cs ++ later
unfolding without_own answers_from answers_to_others
without_own_lem n l [] later = refl
without_own_lem n l (c ∷ cs) later = go (own n c) (without_own_lem n (step l c) cs later)
  where
    go : (b : Bool) → without_own n cs (answers_from (step l c) cs ++ later) ≡ answers_to_others n (step l c) cs ++ later →
        cond b (without_own n cs (answers_from (step l c) cs ++ later)) (answer l c ∷ without_own n cs (answers_from (step l c) cs ++ later))
        ≡ cond b (answers_to_others n (step l c) cs) (answer l c ∷ answers_to_others n (step l c) cs) ++ later
    go true h = h
    go false h = ap (λ (rs : List Answered). answer l c ∷ rs) h

words_decide : (n : ℕ) (ds : List Call) (ps qs : List ℕ) (between rest : List Call) {rs rs' : List Answered} →
    rs ≡ heard n ds ps qs between rest → rs' ≡ heard_by_others n ds ps qs between rest →
    rs' ≡ take (length ds) rs ++ without_own n (passage n ps qs between) (drop (length ds) rs)
words_decide n ds ps qs between rest {rs} e f =
    let all = passage n ps qs between in
    let later = answers_from (ledger (ds ++ all)) rest in
    let during = answers_from (ledger ds) all ++ later in
    f
    ∙ ap₂ (λ (xs ys : List Answered). xs ++ ys)
    (sym (ap (take (length ds)) e ∙ take_at (answers ds) during (length ds) (answers_long ds)))
    (sym (ap (λ (xs : List Answered). without_own n all (drop (length ds) xs)) e
    ∙ ap (without_own n all) (drop_at (answers ds) during (length ds) (answers_long ds))
    ∙ without_own_lem n (ledger ds) all later))

pub cancelled : CancellingStated
cancelled n ds ps qs between t rest =
    let k = as_if_never_made n ds ps qs between t rest in
    let all = passage n ps qs between in
    let with_it : answers (taken n ds ps qs between rest) ≡ heard n ds ps qs between rest = in_three ds all rest in
    let without : answers (never_made n ds ps qs between rest) ≡ heard_by_others n ds ps qs between rest =
    in_three ds (others n all) rest ∙ ap₂ (λ (xs ys : List Answered). answers ds ++ (xs ++ ys)) (sym k.meanwhile) (sym k.later) in
    record {
      equal = equal_auctions _ _ k.ledgers;
      answered = λ w v. ((run_reached w).1 ∙ with_it, (run_reached v).1 ∙ without);
      decided = λ w v. words_decide n ds ps qs between rest ((run_reached w).1 ∙ with_it) ((run_reached v).1 ∙ without);
    }
