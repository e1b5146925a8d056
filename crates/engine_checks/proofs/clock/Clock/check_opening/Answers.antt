-- Each check in its order gives its number; past them all, 0.
use mathlib.Core.Path.{◌≡◌, sym, ◌∙◌, ap}
use mathlib.Core.Bool.{true}
use mathlib.Core.List.{[]}
use Prim.Native.Nat.{ℕ}
use lib.Dec.{ltb}
use borrow.Author.Tests.{le-leb, lt-leb, lt-ltb, le-ltb}
use Rattle.rules_auction.specs.Ledger.{Ledger}
use Rattle.rules_auction.specs.Refusals.{may_open, opening_price, closing_ok, refusal}
use Rattle.engine_checks.specs.clock.Reading.{phase_in, ledger_in}
use Rattle.engine_checks.proofs.clock.Clock.check_opening.Goals as goal
use Rattle.engine_checks.proofs.clock.Clock.check_opening.Goals.{Else-not-may_open, Else-not-start_covered, Else-opening_price-c, Start, Then-not-start_covered, Then-opening_price-c}

-- what is read
abbrev read : Start → Ledger
read c = let s = c.args in ledger_in s.self s.projects [] s.quantities

accepts : (c : Else-not-may_open) → may_open (phase_in c.args.self.phase) ≡ true
accepts c = sym c.may_open.ensures ∙ c.if-not-may_open.false

-- past the test of the opening price, and the way back to that of the phase
abbrev in_phase : Else-opening_price-c → Else-not-may_open
in_phase c = (goal.at.Else-opening_price-c c).Else-not-may_open

announced : (c : Else-opening_price-c) → closing_ok (read (goal.at.Else-opening_price-c c).Start) c.args.c ≡ true
unfolding closing_ok opening_price
announced c =
    let s = c.args in
    simp (le-leb _ _ c.if-c-self.false) (ap (λ (o : ℕ). ltb s.c o) (sym c.opening_price.ensures) ∙ lt-ltb _ _ c.if-opening_price-c.false)

pub returns-then-not-may_open : goal.returns-then-not-may_open
unfolding refusal
returns-then-not-may_open c = record { as_ruled = λ w. simp (sym c.may_open.ensures ∙ c.if-not-may_open.true) }

pub returns-then-c-self : goal.returns-then-c-self
unfolding refusal closing_ok
returns-then-c-self c = record { as_ruled = λ w. simp (accepts (goal.at.returns-then-c-self c).Else-not-may_open, lt-leb _ _ c.if-c-self.true) }

pub returns-then-opening_price-c : goal.returns-then-opening_price-c
unfolding refusal closing_ok opening_price
returns-then-opening_price-c c =
    record { as_ruled = λ w. simp (accepts (goal.at.Then-opening_price-c c).Else-not-may_open, le-leb _ _ c.if-c-self.false, ← c.opening_price.ensures, le-ltb _ _ c.if-opening_price-c.true) }

pub returns-then-not-start_covered : goal.returns-then-not-start_covered
unfolding refusal
returns-then-not-start_covered c =
    record {
      as_ruled = λ w. simp (
        accepts (in_phase (goal.at.Then-not-start_covered c).Else-opening_price-c),
        announced (goal.at.Then-not-start_covered c).Else-opening_price-c,
        sym (c.start_covered.ensures.as_ruled w) ∙ c.if-not-start_covered.true,
      );
    }

pub returns : goal.returns
unfolding refusal
returns c =
    record {
      as_ruled = λ w. simp (
        accepts (in_phase (goal.at.Else-not-start_covered c).Else-opening_price-c),
        announced (goal.at.Else-not-start_covered c).Else-opening_price-c,
        sym (c.start_covered.ensures.as_ruled w) ∙ c.if-not-start_covered.false,
      );
    }
