-- The phase, the numbers, the developer's place, then the declaration: each test that returned false is the check that fails, those before it
-- passed.
use Prim.Native.Nat.{ℕ}
use mathlib.Core.Path.{◌≡◌, sym, ◌∙◌}
use mathlib.Core.Bool.{true}
use Rattle.std.proofs.Common.{arith}
use borrow.Author.Tests.{eq-eqb, ne_eqb}
use Rattle.rules_auction.specs.Refusals.{declaration_ok, refusal}
use Rattle.engine_checks.specs.registrations.Numbers.{books_in}
use Rattle.engine_checks.proofs.registrations.Books.{declaration_in, not_numbered, once_numbered}
use Rattle.engine_checks.proofs.registrations.check_registration.Goals as goal
use Rattle.engine_checks.proofs.registrations.check_registration.Goals.{After-declaration_ok, Else-not-declaration_ok, Else-not-numbered, Then-not-declaration_ok, Then-projects-i-ne0}

-- the numbers passed
numbers : (c : Else-not-numbered) → c.args.numbered ≡ true
numbers c = c.if-not-numbered.false

-- the declaration by the rule
declared : (c : After-declaration_ok) (study day : ℕ) →
    let s = c.args in
    c.declaration_ok.result
    ≡ declaration_ok (books_in s.phase s.projects s.kinds) (record { project = s.project; kind = s.kind; study = study; day = day; levels = s.levels.now })
declared c study day =
    let s = c.args in
    c.declaration_ok.ensures
    ∙ declaration_in s.phase s.projects s.kinds s.project s.kind s.levels.now study day
    (omega arith) (omega arith)

pub returns-then-not-is_ready : goal.returns-then-not-is_ready
unfolding refusal
returns-then-not-is_ready c = record { as_ruled = λ w study day e. simp (sym c.is_ready.ensures ∙ c.if-not-is_ready.true) }

pub returns-then-not-numbered : goal.returns-then-not-numbered
returns-then-not-numbered c = record {
  as_ruled =
      λ w study day e. not_numbered _ _ _ _ _ _ study day _ w (sym c.is_ready.ensures ∙ c.if-not-is_ready.false)
      (sym e ∙ c.if-not-numbered.true);
}

pub bounds-projects-i : goal.bounds-projects-i
bounds-projects-i c = c.place-i.ensures.1

pub returns-then-projects-i-ne0 : goal.returns-then-projects-i-ne0
returns-then-projects-i-ne0 c =
    record {
      as_ruled = λ w study day e.
          rw (once_numbered _ _ _ _ _ _ study day _ w (sym c.is_ready.ensures ∙ c.if-not-is_ready.false) (sym e ∙ numbers (goal.at.Then-projects-i-ne0 c).Else-not-numbered) _ c.place-i.ensures.0, ne_eqb _ 0 c.if-projects-i-ne0.true);
    }

pub returns-then-not-declaration_ok : goal.returns-then-not-declaration_ok
returns-then-not-declaration_ok c =
    record {
      as_ruled = λ w study day e.
          rw (
            once_numbered _ _ _ _ _ _ study day _ w (sym c.is_ready.ensures ∙ c.if-not-is_ready.false) (sym e ∙ numbers (goal.at.Then-not-declaration_ok c).Else-not-numbered) _ c.place-i.ensures.0,
            eq-eqb _ 0 c.if-projects-i-ne0.false,
            sym (declared (goal.at.returns-then-not-declaration_ok c).After-declaration_ok study day) ∙ c.if-not-declaration_ok.true,
          );
    }

pub returns : goal.returns
returns c =
    record {
      as_ruled = λ w study day e.
          rw (
            once_numbered _ _ _ _ _ _ study day _ w (sym c.is_ready.ensures ∙ c.if-not-is_ready.false) (sym e ∙ numbers (goal.at.Else-not-declaration_ok c).Else-not-numbered) _ c.place-i.ensures.0,
            eq-eqb _ 0 c.if-projects-i-ne0.false,
            sym (declared (goal.at.returns c).After-declaration_ok study day) ∙ c.if-not-declaration_ok.false,
          );
    }
