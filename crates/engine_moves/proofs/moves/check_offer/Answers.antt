-- The phase, the developer, the offer that stands, then the steps.
use Prim.Native.Nat.{ℕ}
use mathlib.Core.Path.{◌≡◌, sym, ◌∙◌}
use mathlib.Core.Bool.{true, false}
use Rattle.rules_auction.specs.Refusals.{is_number, is_of_kind, move_refusal, in_round}
use Rattle.engine_checks.specs.clock.Reading.{phase_in}
use Rattle.engine_moves.proofs.moves.Standing.{kind_in_lem, none_stands, one_stands}
use Rattle.engine_moves.proofs.moves.check_offer.Goals as goal
use Rattle.engine_moves.proofs.moves.check_offer.Goals.{After-check_steps, Else-not-in_round, Else-not-is_of, Then-not-is_of, Then-entry-ge1}

open_round : (c : Else-not-in_round) → in_round (phase_in c.args.clock.now.phase) ≡ true
open_round c = sym c.in_round.ensures ∙ c.if-not-in_round.false

allowed : (c : Else-not-is_of) → let s = c.args in (n : ℕ) → s.numbered ≡ is_number n → is_of_kind 2 n s.entry.kind ≡ true
allowed c n e = sym (kind_in_lem 2 n _ _ e) ∙ sym c.is_of.ensures ∙ c.if-not-is_of.false

barred : (c : Then-not-is_of) → let s = c.args in (n : ℕ) → s.numbered ≡ is_number n → is_of_kind 2 n s.entry.kind ≡ false
barred c n e = sym (kind_in_lem 2 n _ _ e) ∙ sym c.is_of.ensures ∙ c.if-not-is_of.true

pub returns-then-not-in_round : goal.returns-then-not-in_round
unfolding move_refusal
returns-then-not-in_round c = λ t. record { as_ruled = λ n e. simp (sym c.in_round.ensures ∙ c.if-not-in_round.true) }

pub returns-then-not-is_of : goal.returns-then-not-is_of
unfolding move_refusal
returns-then-not-is_of c = λ t. record { as_ruled = λ n e. simp (open_round (goal.at.Then-not-is_of c).Else-not-in_round, barred c n e) }

pub returns-then-entry-ge1 : goal.returns-then-entry-ge1
unfolding move_refusal
returns-then-entry-ge1 c = λ t. record {
  as_ruled =
      λ n e. simp (open_round (goal.at.Then-entry-ge1 c).Else-not-in_round, allowed (goal.at.Then-entry-ge1 c).Else-not-is_of n e, one_stands _ c.if-entry-ge1.true);
}

pub returns : goal.returns
unfolding move_refusal
returns c = λ t. record {
  as_ruled =
      λ n e. simp (open_round (goal.at.returns c).Else-not-in_round, allowed (goal.at.returns c).Else-not-is_of n e, none_stands _ c.if-entry-ge1.false)
      c.check_steps.ensures;
}
