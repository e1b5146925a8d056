-- Runs exist, so that what is stated of every run (EveryList, EngineCorrect) is said of something: for every list of calls, refused ones
-- included, there is a run. A contract speaks of every list of calls whose ledger the auction holds, and an auction holds one sound ledger
-- at most (ReadBack), so the ledger's own answer and next auction are as the contract of each call says.
use Rattle.std.specs.Prelude.{◌≡◌, List, [], ◌∷◌, ◌++◌, map, ℕ, pos, ◌-ℤ◌, replicate, Result, Ok, Err}
use Rattle.std.proofs.Math.Path.{refl, ap}
use Rattle.std.proofs.Common.{sym, subst, subst₂, ◌∙◌, append_assoc, append-nil}
use Rattle.std.proofs.Math.Decide.{ℕ_discrete as dec_eq}
use Rattle.std.specs.Borrow.{Bor}
use Rattle.rules_auction.specs.Ledger.{Offer, Lodge, Cancel, Own, Named, Call, SetUp, Register, Open, By, Close, Ledger}
use Rattle.rules_auction.specs.Refusals.{refusal}
use Rattle.rules_auction.specs.Rounds.{step, ledger, Answered, bare_answer, granted, answer, answers_from, answers}
use Rattle.rules_auction.specs.Sample.{sample, shown_jointly}
use Rattle.laws_ledger.specs.reachable.Reachable.{sound}
use Rattle.laws_ledger.specs.reachable.Steps.{ledger_snoc, step_refused, answer_refused, answer_accepted, granted_number, answers_snoc}
use Rattle.engine_refusals.specs.Numbers.{number_of, after}
use Rattle.engine_refusals.specs.declared.Refusal.{Refusal}
use Rattle.engine_checks.specs.declared.clock.Phase.TheVariants.{Closed}
use Rattle.engine_auction.specs.Holds.{held_phase, held_auction}
use Rattle.engine_auction.specs.Called.{Called, AnswersCall, answer_in}
use Rattle.engine_auction.specs.declared.Auction.{Auction}
use Rattle.statement.specs.EveryList.{Made, sets_up_lem, registers_one, registers_for_lem, opens, offers, lodges, cancels, closes, Run, fresh, followed}
use Rattle.statement.specs.RefusalNumbers.{refusal_named}
use Rattle.statement.specs.settling.ReadBack.{auction_determines}

-- ---- every call as its contract says

same_ledger : (cs ds : List Call) → held_auction (ledger cs) ≡ held_auction (ledger ds) → ledger cs ≡ ledger ds
same_ledger cs ds = auction_determines (ledger cs) (ledger ds) (sound cs) (sound ds)

pub called : (cs : List Call) (c : Call) → Called c (held_auction (ledger cs)) (held_auction (ledger (cs ++ (c ∷ [])))) (answer (ledger cs) c)
called cs c = record {
  same = λ z. ap held_auction (ledger_snoc cs c ∙ step_refused (ledger cs) c (refused z));
  zero = λ z. let e = answer_refused (ledger cs) c (refused z) in e ∙ ap (λ (r : Answered). bare_answer r.number) (sym e);
  answer = λ ds h. ap (λ (l : Ledger). answer l c) (same_ledger cs ds h);
  next = λ ds h. ap held_auction (ledger_snoc cs c ∙ ap (λ (l : Ledger). step l c) (same_ledger cs ds h) ∙ sym (ledger_snoc ds c));
}
  where
    refused : ((answer (ledger cs) c).number ≡ 0 → ⊥) → refusal (ledger cs) c ≡ 0 → ⊥
    refused z e = z (ap (λ (r : Answered). r.number) (answer_accepted (ledger cs) c e) ∙ granted_number (ledger cs) c)

-- ---- every call made, whatever its arguments: that they fit their types is no part of what a call answers

module _ (cs : List Call) (c : Call) where
  abbrev before : Auction
  before = held_auction (ledger cs)

  abbrev behind : Auction
  behind = held_auction (ledger (cs ++ (c ∷ [])))

  abbrev given : Answered
  given = answer (ledger cs) c

  -- refused it leaves the auction
  stays : (refusal (ledger cs) c ≡ 0 → ⊥) → behind ≡ before
  stays z = ap held_auction (ledger_snoc cs c ∙ step_refused (ledger cs) c z)

  -- refused, as some refusal says
  by_refusal :
      (refusal (ledger cs) c ≡ 0 → ⊥) →
      ((e : Refusal) → Called c before before (bare_answer (number_of e)) → Made c before (bare_answer (number_of e)) before) → Made c before given behind
  by_refusal z f =
      let n = refusal_named (ledger cs) c z in
      let is : given ≡ bare_answer (number_of n.0) = answer_refused (ledger cs) c z ∙ ap bare_answer (sym n.1) in
      subst₂ (λ (r : Answered) (b : Auction). Made c before r b) (sym is) (sym (stays z))
      (f n.0 (subst₂ (λ (r : Answered) (b : Auction). Called c before b r) is (stays z) (called cs c)))

  -- a call that answers with the next auction alone
  by_answer :
      granted (ledger cs) c ≡ bare_answer 0 →
      ((r : Result Auction Refusal) → AnswersCall c before r → Made c before (answer_in r) (after before r)) → Made c before given behind
  by_answer g f = go (dec_eq (refusal (ledger cs) c) 0)
    where
      go : Dec (refusal (ledger cs) c ≡ 0) → Made c before given behind
      go (yes z) =
          let is : given ≡ bare_answer 0 = answer_accepted (ledger cs) c z ∙ g in
          subst (λ (r : Answered). Made c before r behind) (sym is) (f (Ok behind) (subst (λ (r : Answered). Called c before behind r) is (called cs c)))
      go (no z) = by_refusal z (λ e w. f (Err e) w)

-- numbers lent to a call, from any place
abbrev pub lent : List ℕ → Bor (List ℕ)
lent xs = record { ref_ptr = (0, 0); now = xs }

-- a closing
closing_made : (cs : List Call) → Made Close (held_auction (ledger cs)) (answer (ledger cs) Close) (held_auction (ledger (cs ++ (Close ∷ []))))
closing_made cs = go (dec_eq (refusal (ledger cs) Close) 0)
  where
    go : Dec (refusal (ledger cs) Close ≡ 0) → Made Close (before cs Close) (given cs Close) (behind cs Close)
    go (yes z) =
        let r = answer (ledger cs) Close in
        let is : r ≡ record { number = 0; excess = r.excess; remainder = r.remainder } =
        (let n : r.number ≡ 0 = ap (λ (x : Answered). x.number) (answer_accepted (ledger cs) Close z) ∙ granted_number (ledger cs) Close in
        λ i. record { number = n i; excess = r.excess; remainder = r.remainder }) in
        subst (λ (x : Answered). Made Close (before cs Close) x (behind cs Close)) (sym is)
        (closes (Ok (record { excess = r.excess; remainder = r.remainder; auction = behind cs Close }))
        (subst (λ (x : Answered). Called Close (before cs Close) (behind cs Close) x) is (called cs Close)))
    go (no z) = by_refusal cs Close z (λ e w. closes (Err e) w)

pub made : (cs : List Call) (c : Call) → Made c (held_auction (ledger cs)) (answer (ledger cs) c) (held_auction (ledger (cs ++ (c ∷ []))))
unfolding granted
made cs (SetUp s) = by_answer cs _ refl (λ r p. sets_up_lem s.ce s.d s.m1 s.m2 s.a r p)
made cs (Register n Own x) = by_answer cs _ refl (λ r p. registers_one
    ([], tt)
    (held_auction (ledger cs), (x.project, (n, (x.kind, (x.study, (x.day, (lent x.levels, tt)))))))
    r p)
made cs (Register n (Named g) x) = by_answer cs _ refl (λ r p. registers_for_lem
    ([], tt)
    (held_auction (ledger cs), (x.project, (n, (x.kind, (g, (x.study, (x.day, (lent x.levels, tt))))))))
    r p)
made cs (Open c) = by_answer cs _ refl (λ r p. opens c r p)
made cs (By n (Offer ps qs)) = by_answer cs _ refl (λ r p. offers
    ([], ([], tt))
    (held_auction (ledger cs), (n, (lent ps, (lent qs, tt))))
    r p)
made cs (By n (Lodge ps qs)) = by_answer cs _ refl (λ r p. lodges
    ([], ([], tt))
    (held_auction (ledger cs), (n, (lent ps, (lent qs, tt))))
    r p)
made cs (By n Cancel) = by_answer cs _ refl (λ r p. cancels n r p)
made cs Close = closing_made cs

-- ---- every list

-- answered as the ledger answers, up to the auction that holds the ledger
abbrev LedgersRun : List Call → Type 0
LedgersRun cs = Run cs (answers cs) (held_auction (ledger cs))

pub runs : (cs : List Call) → Run cs (answers cs) (held_auction (ledger cs))
unfolding answers answers_from
runs cs = onwards [] cs (fresh refl)
  where
    onwards : (ds cs : List Call) → LedgersRun ds → LedgersRun (ds ++ cs)
    onwards ds [] w = subst LedgersRun (sym (append-nil ds)) w
    onwards ds (c ∷ cs) w =
        let longer : LedgersRun (ds ++ (c ∷ [])) = rw (answers_snoc ds c) (followed w (made ds c)) in
        subst LedgersRun (append_assoc ds (c ∷ []) cs) (onwards (ds ++ (c ∷ [])) cs longer)

-- the sample record of document 01 runs: every call is accepted, the excess at its closing is -55 and the remainder 0, and the auction that it
-- reaches is closed
pub record SampleRun : Type 0 where
  pub answered : List Answered
  pub reached : Auction
  pub run : Run sample answered reached
  pub numbers : map (λ r. r.number) answered ≡ replicate 10 0
  pub excesses : map (λ r. r.excess) answered ≡ replicate 9 (pos 0) ++ ((pos 0 -ℤ pos 55) ∷ [])
  pub remainders : map (λ r. r.remainder) answered ≡ replicate 10 0
  pub closed : reached.clock.phase ≡ Closed

pub sample_runs : SampleRun
unfolding held_auction
sample_runs = let s = shown_jointly.1 in record {
  answered = answers sample;
  reached = held_auction (ledger sample);
  run = runs sample;
  numbers = s.4;
  excesses = s.5;
  remainders = s.6;
  closed = ap held_phase s.0;
}
