-- `preferred` is `better`: the study values decide where they differ, else the start days.
use Rattle.std.proofs.Common.{◌≡◌, ◌∙◌, arith}
use borrow.Author.Tests.{lt-ltb, le-ltb, eq-eqb, ne_eqb}
use Rattle.engine_award.proofs.awarding.Preferring.{first_one, later_wins, by_tests}
use Rattle.engine_award.proofs.awarding.preferred.Goals as goal
use Rattle.engine_award.proofs.awarding.preferred.Goals.{Joined-studies-j, then-studies-j, else-studies-j+then-studies-i, else-studies-j+else-studies-i}

-- the test of the branch
tested :
    (c : Joined-studies-j) →
    let a = c.args in
    later_wins a.auction.now.studies a.auction.now.days a.m a.i ≡ c.if-studies-j.value
tested c =
    let j = c.from-j.ensures in
    elim c.if-studies-j.branch [
      | then-studies-j w ↦ rw (rw j at w.value-is, lt-ltb _ _ (rw j at w.if-studies-j.true))
      | else-studies-j+then-studies-i w ↦ rw (rw j at w.value-is, le-ltb _ _ (rw j at w.if-studies-j.false), eq-eqb _ _ (rw j at w.if-studies-i.true))
      | else-studies-j+else-studies-i w ↦ rw (rw j at w.value-is, le-ltb _ _ (rw j at w.if-studies-j.false), ne_eqb _ _ (rw j at w.if-studies-i.false))
    ]

pub returns-then-m-eq0 : goal.returns-then-m-eq0
returns-then-m-eq0 c = first_one _ _ _ _ (omega arith)

pub returns-then-days-i : goal.returns-then-days-i
returns-then-days-i c = by_tests _ _ _ _ _ c.if-m-eq0.false (tested (goal.at.returns-then-days-i c).Joined-studies-j ∙ c.if-days-i.true)

pub returns-else-days-i : goal.returns-else-days-i
returns-else-days-i c = by_tests _ _ _ _ _ c.if-m-eq0.false (tested (goal.at.returns-else-days-i c).Joined-studies-j ∙ c.if-days-i.false)
