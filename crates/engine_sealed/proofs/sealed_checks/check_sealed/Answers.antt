-- The ceiling, the demand and the book, then the prices against the ceiling: each test that returned false is the check that fails, those
-- before it passed.
use mathlib.Core.Path.{◌≡◌, sym, ap, ◌∙◌}
use mathlib.Core.Bool.{Bool, and-false}
use lib.Dec.{leb}
use borrow.Author.Tests.{lt-leb}
use Rattle.rules_numbers.specs.Lists.{all}
use Rattle.rules_auction.specs.Refusals.{check}
use Rattle.rules_sealed.specs.Sealed.{sealed_refusal}
use Rattle.engine_sealed.specs.sealed_checks.Reading.{book_in}
use Rattle.engine_sealed.proofs.sealed_checks.Ceiling.{by_ceiling}
use Rattle.engine_sealed.proofs.sealed_checks.check_sealed.Goals as goal
use Rattle.engine_sealed.proofs.sealed_checks.check_sealed.Goals.{Else-not-book_ok}

-- all passed but the last check
passed :
    (c : Else-not-book_ok) → let s = c.args in
    sealed_refusal s.ceiling s.demand (book_in s.book)
    ≡ check (all (λ p. leb p s.ceiling) s.book.prices.now) 19 0
passed c =
    let x = c in
    by_ceiling _ _ _
    (sym x.is_up_to.ensures ∙ x.if-not-is_up_to.false)
    x.if-demand-gt-MOST_DEMAND.false
    (sym c.book_ok.ensures ∙ c.if-not-book_ok.false)

pub returns-then-not-is_up_to : goal.returns-then-not-is_up_to
unfolding sealed_refusal
returns-then-not-is_up_to c = simp (sym c.is_up_to.ensures ∙ c.if-not-is_up_to.true)

pub returns-then-demand-gt-MOST_DEMAND : goal.returns-then-demand-gt-MOST_DEMAND
unfolding sealed_refusal
returns-then-demand-gt-MOST_DEMAND c = simp (lt-leb _ _ c.if-demand-gt-MOST_DEMAND.true, and-false)

pub returns-then-not-book_ok : goal.returns-then-not-book_ok
unfolding sealed_refusal
returns-then-not-book_ok c = simp (sym c.book_ok.ensures ∙ c.if-not-book_ok.true, and-false)

pub returns-then-not-within_ceiling : goal.returns-then-not-within_ceiling
returns-then-not-within_ceiling c = sym (passed (goal.at.returns-then-not-within_ceiling c).Else-not-book_ok ∙ ap (λ (t : Bool). check t 19 0) (sym c.within_ceiling.ensures ∙ c.if-not-within_ceiling.true))

pub returns : goal.returns
returns c = sym (passed (goal.at.returns c).Else-not-book_ok ∙ ap (λ (t : Bool). check t 19 0) (sym c.within_ceiling.ensures ∙ c.if-not-within_ceiling.false))
