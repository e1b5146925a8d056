-- The closings that are accepted so far, and the excess of the latest one: what is left of the lines adds to them.
use Prim.Native.Nat.{ℕ, ◌+◌, ◌≤◌}
use mathlib.Core.Path.{◌≡◌, refl, sym, ap, ap₂, ◌∙◌}
use mathlib.Core.Bool.{Bool, false}
use mathlib.Core.List.{List, [], ◌∷◌, ◌++◌}
use native.Mathlib.Omega.{arith}
use borrow.Author.Tests.{eq-eqb, ne_eqb}
use lib.IntN.{ℤ, pos}
use lib.ListN.{length}
use Rattle.rules_format.specs.LineLaws.{no_line}
use Rattle.rules_auction.specs.Ledger.{Call, SetUp, Register, Open, By, Close, Ledger}
use Rattle.rules_auction.specs.Refusals.{in_round, refusal}
use Rattle.rules_auction.specs.Rounds.{step_all, ledger, Answered}
use Rattle.laws_ledger.specs.reachable.Steps.{ledger_append}
use Rattle.rules_replies.specs.Orders.{ordered}
use Rattle.rules_replies.specs.Replies.{call_kind}
use Rattle.rules_replies.specs.record_calls.Calls.{asked_calls}
use Rattle.rules_seats.specs.Seats.{HallLedger, latest_excess}
use Rattle.rules_seats.specs.figures.Figures.{hall_after, closes_round, closings_from}
use Rattle.rules_seats.specs.figures.FigureLaws.{hall_after_append, hall_after_ledger, other_excess, closings_append}
use Rattle.rules_seats.specs.sessions.LinesRead.{calls_as}
use Rattle.frame_reading.specs.frames.Decoded.{call_in}
use Rattle.frame_reading.specs.declared.frames.Frame.{Frame}
use Rattle.engine_checks.specs.clock.Reading.{phase_in}
use Rattle.engine_auction.specs.Called.{Called}
use Rattle.engine_auction.specs.Holds.{held_auction}
use Rattle.engine_auction.specs.declared.Auction.{Auction}
use Rattle.record_lines.specs.line_calls.Decisions.{Asked}
use Rattle.record_lines.specs.line_calls.DecisionLaws.{answer_number, no_round}
use Rattle.record_lines.specs.record_start.Progress.{rest}
use Rattle.record_replies.specs.Runs.{with_excess}

-- ---- what calls add: from e and n they lead to e' and n', in every auction that holds the ledger of the calls before them

pub record Counts (a : Auction) (ds : List Call) (e : ℤ) (n : ℕ) (e' : ℤ) (n' : ℕ) : Type 0 where
  pub excess : (cs : List Call) → a ≡ held_auction (ledger cs) → (hall_after (with_excess (ledger cs) e) ds).excess ≡ e'
  pub closings : (cs : List Call) → a ≡ held_auction (ledger cs) → n + closings_from (ledger cs) ds ≡ n'

module _ (a : Auction) (e : ℤ) (n : ℕ) where
  -- no call
  pub counts_nothing : Counts a [] e n e n
  unfolding hall_after closings_from
  counts_nothing = record { excess = λ cs h. refl; closings = λ cs h. omega arith }

  -- a call that is no accepted closing
  counts_other : (c : Call) → ((cs : List Call) → a ≡ held_auction (ledger cs) → closes_round (ledger cs) c ≡ false) → Counts a (c ∷ []) e n e n
  unfolding hall_after closings_from
  counts_other c idle = record {
    excess = λ cs h. other_excess (with_excess (ledger cs) e) c (idle cs h);
    closings = λ cs h. rw (idle cs h) (omega arith);
  }

  no_closing : (l : Ledger) (c : Call) → (call_kind c ≡ 5 → ⊥) → closes_round l c ≡ false
  unfolding closes_round
  no_closing l (SetUp s) h = refl
  no_closing l (Register i w x) h = refl
  no_closing l (Open c) h = refl
  no_closing l (By i m) h = refl
  no_closing l Close h = absurd (h refl)

  -- what a frame of another kind asks
  pub counts_asked : (f : Frame) (c : Call) → Asked f c → Counts a (asked_calls (ordered (call_in f))) e n e n
  counts_asked f c w = rw w.order (counts_other c (λ cs h. no_closing (ledger cs) c (λ z. w.bare (sym w.kind ∙ z))))

  -- a closing where no round is open
  pub counts_no_round : in_round (phase_in a.clock.phase) ≡ false → Counts a (Close ∷ []) e n e n
  unfolding closes_round
  counts_no_round z = counts_other Close (λ cs h. ne_eqb (refusal (ledger cs) Close) 0 (λ y. let w = sym y ∙ no_round a z cs h in omega arith))

  -- an accepted one
  pub counts_closing : (b : Auction) (x : Answered) → Called Close a b x → x.number ≡ 0 → Counts a (Close ∷ []) e n x.excess (n + 1)
  unfolding hall_after closings_from closes_round latest_excess
  counts_closing b x w z = record {
    excess = λ cs h. rw (sym (w.answer cs h), eq-eqb x.number 0 z);
    closings = λ cs h.
        let y : refusal (ledger cs) Close ≡ 0 = sym (answer_number (ledger cs) Close) ∙ ap (λ (r : Answered). r.number) (sym (w.answer cs h)) ∙ z in
        rw (eq-eqb (refusal (ledger cs) Close) 0 y) refl;
  }

-- ---- the lines: those behind `from` are, from the calls cs on, as those behind `at` from the calls so far

pub record Counted (seated : Bool) (cs : List Call) (s : List ℕ) (from : ℕ) (calls : List Call) (at : ℕ) (e : ℤ) (n : ℕ) : Type 0 where
  pub excess : hall_after (with_excess (ledger cs) (pos 0)) (calls_as seated (rest from s)) ≡ hall_after (with_excess (ledger calls) e) (calls_as seated (rest at s))
  pub closings : closings_from (ledger cs) (calls_as seated (rest from s)) ≡ n + closings_from (ledger calls) (calls_as seated (rest at s))

module _ (seated : Bool) (cs : List Call) (s : List ℕ) (from : ℕ) where
  pub counted_first : Counted seated cs s from cs from (pos 0) 0
  counted_first = record { excess = refl; closings = omega arith }

  module _ (calls : List Call) (at : ℕ) (e : ℤ) (n : ℕ) (d : Counted seated cs s from calls at e n) where
    -- the calls ds, which the line at `at` asks
    pub counted_next : (ds : List Call) (next : ℕ) (e' : ℤ) (n' : ℕ) → calls_as seated (rest at s) ≡ ds ++ calls_as seated (rest next s) →
        (hall_after (with_excess (ledger calls) e) ds).excess ≡ e' → n + closings_from (ledger calls) ds ≡ n' →
        Counted seated cs s from (calls ++ ds) next e' n'
    counted_next ds next e' n' ec ee en =
        let more : List Call = calls_as seated (rest next s) in
        let h : HallLedger = with_excess (ledger calls) e in
        let l : ledger (calls ++ ds) ≡ step_all (ledger calls) ds = ledger_append calls ds in
        record {
          excess = d.excess ∙ ap (hall_after h) ec ∙ hall_after_append h ds more
              ∙ ap (λ (k : HallLedger). hall_after k more) (ap₂ with_excess (hall_after_ledger h ds ∙ sym l) ee);
          closings = d.closings ∙ ap (λ (xs : List Call). n + closings_from (ledger calls) xs) ec
              ∙ omega (arith, closings_append (ledger calls) ds more, en, ap (λ (m : Ledger). closings_from m more) l);
        }

    pub counted_end : length s ≤ at → (e ≡ (hall_after (with_excess (ledger cs) (pos 0)) (calls_as seated (rest from s))).excess)
        × (n ≡ closings_from (ledger cs) (calls_as seated (rest from s)))
    unfolding calls_as hall_after closings_from
    counted_end h =
        let z : calls_as seated (rest at s) ≡ [] = ap (calls_as seated) (no_line s at h) in (
          sym (ap (λ (k : HallLedger). k.excess) (d.excess ∙ ap (hall_after (with_excess (ledger calls) e)) z)),
          sym (d.closings ∙ ap (λ (xs : List Call). n + closings_from (ledger calls) xs) z ∙ omega arith),
        )
