-- What stands before a reply and below it, case by case.
use Rattle.std.specs.Prelude.{ℕ, Bool, cond, Option, Result}
use Rattle.std.proofs.Math.Path.{◌≡◌, refl}
use mathlib.Core.List.{List, []}
use Rattle.std.proofs.Math.Bool.{true, false}
use Rattle.std.proofs.Common.{arith}
use borrow.Author.Tests.{eq-eqb, ne_eqb}
use Rattle.engine_refusals.specs.declared.Refusal.{Refusal}
use Rattle.engine_looks.specs.declared.readings.Preview.{Preview}
use Rattle.engine_settling.specs.declared.Settlement.{Settlement}
use Rattle.trace_text.specs.settling_text.SettledLines.{settled_lines}
use Rattle.trace_text.specs.Words.{closed_lines, preview_line, lines_before, lines_below}

module _ (kind : ℕ) (p : Result Preview Refusal) where
  pub before_closing : kind ≡ 5 → lines_before kind p ≡ preview_line p
  unfolding lines_before
  before_closing h = rw (eq-eqb kind 5 h)

  pub before_other : (kind ≡ 5 → ⊥) → lines_before kind p ≡ []
  unfolding lines_before
  before_other h = rw (ne_eqb kind 5 h)

  module _ (accepted : Bool) (s : Option Settlement) (awards : List ℕ) where
    pub below_refused : accepted ≡ false → lines_below kind accepted p s awards ≡ []
    unfolding lines_below
    below_refused h = rw h

    pub below_closing : accepted ≡ true → kind ≡ 5 → lines_below kind accepted p s awards ≡ closed_lines p
    unfolding lines_below
    below_closing h k = rw (h, eq-eqb kind 5 k)

    pub below_settling : accepted ≡ true → kind ≡ 6 → lines_below kind accepted p s awards ≡ settled_lines s awards
    unfolding lines_below
    below_settling h k = rw (h, ne_eqb kind 5 (λ e. omega arith), eq-eqb kind 6 k)

    pub below_other : (kind ≡ 5 → ⊥) → (kind ≡ 6 → ⊥) → lines_below kind accepted p s awards ≡ []
    unfolding lines_below
    below_other h k = rw (ne_eqb kind 5 h, ne_eqb kind 6 k) (go accepted)
      where
        go : (b : Bool) → ◌≡◌ {A = List ℕ} (cond b [] []) []
        go true = refl
        go false = refl
