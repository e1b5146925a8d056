-- The line of a closing, run on a copy of the auction, tells what closing it would answer.
use Prim.Native.Nat.{ℕ}
use mathlib.Core.Path.{◌≡◌, refl, sym, ap, subst, ◌∙◌}
use mathlib.Core.Bool.{Bool, true, false, false≢true}
use mathlib.Core.List.{List, [], ◌∷◌, ◌++◌}
use native.Mathlib.Omega.{arith}
use lib.Dec.{eqb}
use lib.IntN.{pos}
use lib.ListN.{drop}
use borrow.Author.Tests.{eq-eqb}
use Rattle.rules_numbers.specs.Lists.{total, any, all}
use Rattle.rules_demand.specs.Range.{in_bounds_test, in_range_test}
use Rattle.rules_demand.specs.Answer.{demand_answer}
use Rattle.rules_format.specs.Hex.{is_hex, value_of, number_from}
use Rattle.rules_format.specs.Fields.{known, fixed, each, count, layout, fields_at, kind_of, asked_widths, well_formed, call_of, read}
use Rattle.rules_format.specs.Lines.{on_first, lines}
use Rattle.rules_auction.specs.Ledger.{Call, Close, Phase, Fresh, Ready, Round, Between, Closed, Ledger}
use Rattle.rules_auction.specs.Clearing.{remainder_at}
use Rattle.rules_auction.specs.Refusals.{is_fresh, in_round, is_closed, check, refusal}
use Rattle.rules_auction.specs.CheckLaws.{in_settings}
use Rattle.rules_auction.specs.Rounds.{step, ledger, excess, granted}
use Rattle.rules_auction.specs.Preview.{preview}
use Rattle.laws_ledger.specs.Sound.{started, Sound}
use Rattle.laws_ledger.specs.reachable.Reachable.{sound}
use Rattle.laws_ledger.specs.reachable.Bounds.{closing_in_range}
use Rattle.laws_ledger.specs.reachable.Steps.{answer_accepted, ledger_snoc}
use Rattle.rules_replies.specs.Orders.{firsts, seconds, order_of, ordered, order_in}
use Rattle.rules_replies.specs.Replies.{twos_complement}
use Rattle.rules_seats.specs.figures.Figures.{one_if, hall_after, closes_round, closings_from, preview_figures}
use Rattle.rules_seats.specs.figures.FigureLaws.{closing_excess}
use Rattle.rules_seats.specs.sessions.LinesRead.{order_as, barred_as, asked_as, calls_as}
use Rattle.engine_checks.specs.clock.Reading.{phase_in, demanded_at}
use Rattle.engine_auction.specs.Holds.{held_auction}
use Rattle.engine_auction.specs.PhaseHeld.{phase_is}
use Rattle.engine_auction.specs.declared.Auction.{Auction}
use Rattle.figure_writing.specs.lent_numbers.Lent.{GivesFigures}
use Rattle.figure_writing.specs.lent_numbers.LentLaws.{gives_same, gives_refused}
use Rattle.record_replies.specs.Runs.{with_excess, Runs}
use Rattle.record_replies.specs.declared.Ran.{Ran}
use Rattle.record_figures.specs.closing_preview.Previews.{WritesPreview}

-- 05 and 0A
abbrev closing_line : List ℕ
closing_line = 48 ∷ 53 ∷ 10 ∷ []

asks_closing : calls_as false (lines (drop 0 closing_line)) ≡ Close ∷ []
unfolding total any all is_hex value_of number_from known fixed each count layout fields_at kind_of asked_widths well_formed call_of read on_first lines
    firsts seconds order_of ordered order_in order_as barred_as asked_as calls_as
asks_closing = refl

-- ---- of a ledger

module _ (l : Ledger) where
  -- one closing is made, or it is refused by 2
  one_closing : closings_from l (Close ∷ []) ≡ one_if (in_round l.phase)
  unfolding closings_from closes_round refusal
  one_closing = go (in_round l.phase)
    where
      go : (b : Bool) → one_if (eqb (check b 2 0) 0) ≡ one_if b
      go true = refl
      go false = refl

  closing_refused : closings_from l (Close ∷ []) ≡ 0 → refusal l Close ≡ 2
  unfolding refusal
  closing_refused z = go (in_round l.phase) (sym one_closing ∙ z)
    where
      go : (b : Bool) → one_if b ≡ 0 → check b 2 0 ≡ 2
      go true e = absurd (omega arith)
      go false e = refl

  closing_accepted : (closings_from l (Close ∷ []) ≡ 0 → ⊥) → in_round l.phase ≡ true
  closing_accepted z = go (in_round l.phase) (λ e. z (one_closing ∙ e))
    where
      go : (b : Bool) → (one_if b ≡ 0 → ⊥) → b ≡ true
      go true n = refl
      go false n = absurd (n refl)

  open_started : (p : Phase) → in_round p ≡ true → (started p ≡ true) × (is_fresh p ≡ false)
  open_started Fresh e = absurd (false≢true e)
  open_started Ready e = absurd (false≢true e)
  open_started Round e = (refl, refl)
  open_started Between e = absurd (false≢true e)
  open_started Closed e = absurd (false≢true e)

  -- in a round the settings are in bounds and C is in range, so that the remainder is given
  remainder_given : Sound l → in_round l.phase ≡ true →
      (demand_answer l.settings.ce l.settings.d l.settings.m1 l.settings.m2 l.closing).remainder ≡ remainder_at l l.closing
  unfolding demand_answer
  remainder_given s e =
      let o = open_started l.phase e in
      rw (in_bounds_test _ _ _ _ (in_settings l.settings (s.settings o.1)).bounds, in_range_test _ _ (closing_in_range s o.0))

  -- what an accepted closing answers, and whether the auction is closed after it
  preview_accepted : refusal l Close ≡ 0 →
      preview_figures (preview l) ≡ twos_complement (excess l) ∷ remainder_at l l.closing ∷ one_if (is_closed (step l Close).phase) ∷ []
  unfolding preview_figures preview granted
  preview_accepted z = rw (answer_accepted l Close z) (rw (eq-eqb (refusal l Close) 0 z) refl)

-- ---- of the auction that holds it

module _ (a : Auction) (o out : List ℕ) (r : Ran) (ran : Runs a closing_line false 0 0 0 o out r) (old : List ℕ) where
  closings_are : (cs : List Call) → a ≡ held_auction (ledger cs) → r.closings ≡ closings_from (ledger cs) (Close ∷ [])
  closings_are cs h = ran.closings cs h ∙ ap (closings_from (ledger cs)) asks_closing

  pub previewed_refused : r.closings ≡ 0 → WritesPreview a old old 2
  previewed_refused z = record {
    same = λ _. refl;
    preview_is = λ cs h.
        subst (λ (k : ℕ). GivesFigures k (preview_figures (preview (ledger cs))) old old 2) (sym (closing_refused (ledger cs) (sym (closings_are cs h) ∙ z)))
        (gives_refused _ old 2 (λ e. absurd (omega arith)));
  }

  module _
      (bits rest mark : ℕ) (new : List ℕ) (n : ℕ) (some : r.closings ≡ 0 → ⊥) (bits_are : bits ≡ twos_complement r.excess)
      (rest_is : rest ≡ (demanded_at a.clock.settings a.clock.closing).remainder)
      (mark_is : mark ≡ one_if (is_closed (phase_in r.auction.clock.phase))) (f : GivesFigures 0 (bits ∷ rest ∷ mark ∷ []) old new n)
    where
      module _ (cs : List Call) (h : a ≡ held_auction (ledger cs)) where
        in_round_lem : in_round (ledger cs).phase ≡ true
        in_round_lem = closing_accepted (ledger cs) (λ e. some (closings_are cs h ∙ e))

        accepts : refusal (ledger cs) Close ≡ 0
        unfolding refusal
        accepts = rw in_round_lem refl

        excess_is : r.excess ≡ excess (ledger cs)
        unfolding hall_after
        excess_is =
            ran.excess cs h ∙ ap (λ (ds : List Call). (hall_after (with_excess (ledger cs) (pos 0)) ds).excess) asks_closing
            ∙ closing_excess (with_excess (ledger cs) (pos 0)) accepts

        closed_is : one_if (is_closed (phase_in r.auction.clock.phase)) ≡ one_if (is_closed (step (ledger cs) Close).phase)
        closed_is =
            ap (λ (p : Phase). one_if (is_closed p))
            (phase_is r.auction (step (ledger cs) Close)
            (ran.next cs h ∙ ap (λ (ds : List Call). held_auction (ledger (cs ++ ds))) asks_closing ∙ ap held_auction (ledger_snoc cs Close)))

        remainder_is : rest ≡ remainder_at (ledger cs) (ledger cs).closing
        unfolding held_auction
        remainder_is =
            rest_is
            ∙ ap (λ (x : Auction). (demanded_at x.clock.settings x.clock.closing).remainder) h
            ∙ remainder_given (ledger cs) (sound cs) in_round_lem

        figures_are : bits ∷ rest ∷ mark ∷ [] ≡ preview_figures (preview (ledger cs))
        figures_are =
            (λ i. (bits_are ∙ ap twos_complement excess_is) i ∷ remainder_is i ∷ (mark_is ∙ closed_is) i ∷ []) ∙ sym (preview_accepted (ledger cs) accepts)

      pub previewed_written : WritesPreview a old new n
      previewed_written = record {
        same = gives_same f;
        preview_is = λ cs h.
            subst (λ (k : ℕ). GivesFigures k (preview_figures (preview (ledger cs))) old new n) (sym (accepts cs h))
            (subst (λ (fs : List ℕ). GivesFigures 0 fs old new n) (figures_are cs h) f);
      }
