-- The phase, the developer, then the steps.
use Prim.Native.Nat.{ℕ}
use mathlib.Core.Path.{◌≡◌, sym, ◌∙◌}
use mathlib.Core.Bool.{true, false}
use Rattle.rules_auction.specs.Refusals.{is_number, is_of_kind, move_refusal, is_ready}
use Rattle.engine_checks.specs.clock.Reading.{phase_in}
use Rattle.engine_moves.proofs.moves.Standing.{kind_in_lem}
use Rattle.engine_moves.proofs.moves.check_lodging.Goals as goal
use Rattle.engine_moves.proofs.moves.check_lodging.Goals.{Else-not-is_ready, Else-not-is_of, Then-not-is_of}

before_rounds : (c : Else-not-is_ready) → is_ready (phase_in c.args.clock.now.phase) ≡ true
before_rounds c = sym c.is_ready.ensures ∙ c.if-not-is_ready.false

allowed : (c : Else-not-is_of) → let s = c.args in (n : ℕ) → s.numbered ≡ is_number n → is_of_kind 1 n s.entry.kind ≡ true
allowed c n e = sym (kind_in_lem 1 n _ _ e) ∙ sym c.is_of.ensures ∙ c.if-not-is_of.false

barred : (c : Then-not-is_of) → let s = c.args in (n : ℕ) → s.numbered ≡ is_number n → is_of_kind 1 n s.entry.kind ≡ false
barred c n e = sym (kind_in_lem 1 n _ _ e) ∙ sym c.is_of.ensures ∙ c.if-not-is_of.true

pub returns-then-not-is_ready : goal.returns-then-not-is_ready
unfolding move_refusal
returns-then-not-is_ready c = λ t x. record { as_ruled = λ n e. simp (sym c.is_ready.ensures ∙ c.if-not-is_ready.true) }

pub returns-then-not-is_of : goal.returns-then-not-is_of
unfolding move_refusal
returns-then-not-is_of c = λ t x. record { as_ruled = λ n e. simp (before_rounds (goal.at.Then-not-is_of c).Else-not-is_ready, barred c n e) }

pub returns : goal.returns
unfolding move_refusal
returns c = λ t x. record {
  as_ruled =
      λ n e. simp (before_rounds (goal.at.returns c).Else-not-is_ready, allowed (goal.at.returns c).Else-not-is_of n e)
      (rw c.highest.ensures at c.check_steps.ensures);
}
