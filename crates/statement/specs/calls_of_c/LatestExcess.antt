-- The excess of the latest accepted closing of a list of calls, in words: 0 where no closing was accepted, else that of supply over demand at C in the
-- ledger before it. It is the one that a hall publishes, and no other is.
use Rattle.std.specs.Prelude.{◌≡◌, refl, Bool, true, false, List, [], ◌∷◌, ◌++◌, ℤ, pos}
use Rattle.std.proofs.Common.{sym, ◌∙◌, subst, eqb-true}
use Rattle.std.proofs.Math.Path.{ap}
use Rattle.std.proofs.lemmas.Bool.{false≢true}
use Rattle.std.proofs.Math.Decide.{ℕ_discrete as dec_eq}
use Rattle.rules_auction.specs.Ledger.{Call, SetUp, Register, Open, By, Close, Ledger, start}
use Rattle.rules_auction.specs.Refusals.{refusal}
use Rattle.rules_auction.specs.Rounds.{step, step_all, ledger, excess}
use Rattle.rules_seats.specs.Seats.{HallLedger, fresh_hall, after_call}
use Rattle.rules_seats.specs.figures.Figures.{hall_after, closes_round, closings_from}
use Rattle.rules_seats.specs.figures.FigureLaws.{hall_after_append, hall_after_ledger, closing_excess, no_closing}

-- of the calls cs: where they are `before`, a closing that is accepted behind it, and `after`, in which no closing is, the latest is that one
pub record LatestExcess (cs : List Call) (e : ℤ) : Type 0 where
  pub without : closings_from start cs ≡ 0 → e ≡ pos 0
  pub latest :
      (before after : List Call) → cs ≡ before ++ (Close ∷ after) → refusal (ledger before) Close ≡ 0 →
      closings_from (step (ledger before) Close) after ≡ 0 → e ≡ excess (ledger before)

-- ---- the published one is

module _ (before after : List Call) where
  abbrev h : HallLedger
  h = hall_after fresh_hall before

  held_before : h.ledger ≡ ledger before
  unfolding ledger
  held_before = hall_after_ledger fresh_hall before

  closing_latest :
      refusal (ledger before) Close ≡ 0 → closings_from (step (ledger before) Close) after ≡ 0 →
      (hall_after fresh_hall (before ++ (Close ∷ after))).excess ≡ excess (ledger before)
  unfolding hall_after
  closing_latest z none =
      let a : refusal h.ledger Close ≡ 0 = ap (λ (l : Ledger). refusal l Close) held_before ∙ z in
      let b : closings_from (step h.ledger Close) after ≡ 0 = ap (λ (l : Ledger). closings_from (step l Close) after) held_before ∙ none in
      ap (λ (k : HallLedger). k.excess) (hall_after_append fresh_hall before (Close ∷ after))
      ∙ no_closing (after_call h Close) after b
      ∙ closing_excess h a
      ∙ ap excess held_before

pub latest_published : (cs : List Call) → LatestExcess cs (hall_after fresh_hall cs).excess
latest_published cs = record {
  without = λ z. no_closing fresh_hall cs z;
  latest = λ before after e z none. ap (λ (ds : List Call). (hall_after fresh_hall ds).excess) e ∙ closing_latest before after z none;
}

-- ---- and no other is

record LastClosing (l : Ledger) (cs : List Call) : Type 0 where
  before : List Call
  after : List Call
  splits : cs ≡ before ++ (Close ∷ after)
  accepted : refusal (step_all l before) Close ≡ 0
  last : closings_from (step (step_all l before) Close) after ≡ 0

closes : (l : Ledger) (c : Call) → closes_round l c ≡ true → (c ≡ Close) × (refusal l Close ≡ 0)
unfolding closes_round
closes l (SetUp s) e = absurd (false≢true e)
closes l (Register n w x) e = absurd (false≢true e)
closes l (Open c) e = absurd (false≢true e)
closes l (By n m) e = absurd (false≢true e)
closes l Close e = (refl, eqb-true (refusal l Close) 0 e)

last_closing : (l : Ledger) (cs : List Call) → (closings_from l cs ≡ 0 → ⊥) → LastClosing l cs
unfolding closings_from step_all
last_closing l [] h = absurd (h refl)
last_closing l (c ∷ cs) h = go (λ z. last_closing (step l c) cs z) (dec_eq (closings_from (step l c) cs) 0)
  where
    here : (b : Bool) → closes_round l c ≡ b → closings_from (step l c) cs ≡ 0 → LastClosing l (c ∷ cs)
    here true e z =
        let k = closes l c e in
        record {
          before = [];
          after = cs;
          splits = ap (λ (d : Call). d ∷ cs) k.0;
          accepted = k.1;
          last = subst (λ (d : Call). closings_from (step l d) cs ≡ 0) k.0 z;
        }
    here false e z = absurd (h (rw e z))

    go : ((closings_from (step l c) cs ≡ 0 → ⊥) → LastClosing (step l c) cs) → Dec (closings_from (step l c) cs ≡ 0) → LastClosing l (c ∷ cs)
    go more (yes z) = here (closes_round l c) refl z
    go more (no z) =
        let w = more z in
        record {
          before = c ∷ w.before;
          after = w.after;
          splits = ap (λ (ds : List Call). c ∷ ds) w.splits;
          accepted = w.accepted;
          last = w.last;
        }

pub latest_only : (cs : List Call) (e e' : ℤ) → LatestExcess cs e → LatestExcess cs e' → e ≡ e'
unfolding ledger
latest_only cs e e' x y = go (dec_eq (closings_from start cs) 0)
  where
    go : Dec (closings_from start cs ≡ 0) → e ≡ e'
    go (yes z) = x.without z ∙ sym (y.without z)
    go (no z) =
        let w = last_closing start cs z in
        x.latest w.before w.after w.splits w.accepted w.last
        ∙ sym (y.latest w.before w.after w.splits w.accepted w.last)
