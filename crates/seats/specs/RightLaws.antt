-- A call barred or made by the test of its right: where the test failed there is no right, and where it held no lack of it.
use Rattle.std.specs.Prelude.{◌≡◌, Bool, true, false, not}
use Rattle.std.proofs.Common.{sym, ◌∙◌}
use Rattle.std.proofs.lemmas.Bool.{false≢true, not-true, not-false}

module _ {A : Type 0} {right : Bool} (b : Bool) (e : b ≡ right) where
  pub no_right : not b ≡ true → right ≡ true → A
  no_right t w = absurd (false≢true (sym (not-true b t) ∙ e ∙ w))

  pub has_right_lem : not b ≡ false → right ≡ false → A
  has_right_lem t w = absurd (false≢true (sym w ∙ sym e ∙ not-false b t))
