-- `may_join` is the test `joins`: the loop keeps that what is left says what all say.
use Rattle.std.proofs.Common.{arith, ◌<◌, ◌≡◌, refl, length, get_or, length-append, sym, ◌∙◌}
use borrow.Author.Tests.{eqb-true, eqb-false}
use Rattle.std.proofs.lemmas.Slice.Zip.{zip_turn, zip_end}
use Rattle.engine_held.proofs.supply.Joining.{joining_first, joining_other, joining_again, joining_kind, joining_beside, joining_end}
use Rattle.engine_held.proofs.supply.may_join.Goals as goal
use Rattle.engine_held.proofs.supply.may_join.Goals.{In-Some, else-other-project-via-then-other-project+else-not-beside, then-kind-eq-NEW, else-kind-eq-NEW, else-other-project-via-else-other-project}

pub loop-other-init : goal.loop-other-init
loop-other-init c = joining_first _ _ _ _ (omega arith) (omega arith)

-- this turn's developer
turn : (c : In-Some) → let ys = c.loop-other.yielded in
    (length ys < 32) × (c.in-Some.other.now ≡ get_or c.args.projects (length ys) 0) × (c.in-Some.beside.now ≡ get_or c.args.kinds (length ys) 0)
turn c =
    let z = zip_turn c.args.projects c.args.kinds c.loop-other.yielded _ _ c.next.new.self _ (cc) (cc) c.loop-other.yielded_by (c.in-Some.other, c.in-Some.beside) refl c.in-Some.ensures.steps in
    (omega (arith, z.0), z.2 0, z.3 0)

pub returns-then-not-beside : goal.returns-then-not-beside
returns-then-not-beside c =
    let j = c.loop-other.invariant in
    let t = turn (goal.at.returns-then-not-beside c).In-Some in
    let same = sym t.1 ∙ c.if-other-project.true in
    elim c.if-kind-eq-NEW.branch [
      | then-kind-eq-NEW v ↦ joining_beside _ _ _ _ _ j t.0 same (λ e. eqb-false c.in-Some.beside.now 2 (sym v.value-is ∙ c.if-not-beside.true) (t.2 ∙ e))
      | else-kind-eq-NEW v ↦ joining_kind _ _ _ _ _ j t.0 same v.if-kind-eq-NEW.false
    ]

pub loop-other-preserved : goal.loop-other-preserved
loop-other-preserved c =
    let j = c.loop-other.invariant in
    let t = turn (goal.at.loop-other-preserved c).In-Some in
    rw length-append
    (elim c.else-other-project.branch [
      | else-other-project-via-then-other-project+else-not-beside w ↦
          elim w.if-kind-eq-NEW.branch [
            | then-kind-eq-NEW v ↦ joining_again _ _ _ _ _ j t.0 (sym t.1 ∙ w.if-other-project.true) v.if-kind-eq-NEW.true (sym t.2 ∙ eqb-true _ _ (sym v.value-is ∙ w.if-not-beside.false))
            | else-kind-eq-NEW v ↦ absurd (v.if-kind-eq-NEW.false (eqb-true _ _ (sym v.value-is ∙ w.if-not-beside.false)))
          ]
      | else-other-project-via-else-other-project w ↦ joining_other _ _ _ _ _ j t.0 (λ e. w.if-other-project.false (t.1 ∙ e))
    ])

pub returns : goal.returns
returns c =
    let end = zip_end c.args.projects c.args.kinds c.loop-other.yielded _ _ c.next.new.self _ (cc) (cc) c.loop-other.yielded_by refl c.in-None.ensures.steps in
    joining_end _ _ _ _ _ c.loop-other.invariant (omega (arith, end))
