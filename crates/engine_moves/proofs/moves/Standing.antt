-- Whether a developer's number and kind pass, and whether an offer stands, by what is held.
use Prim.Native.Nat.{ℕ, zero, suc, ◌≤◌, ◌<◌}
use mathlib.Core.Path.{◌≡◌, refl, ap}
use mathlib.Core.Bool.{Bool, true, false, ◌&&◌}
use native.Mathlib.Omega.{arith}
use lib.Dec.{eqb}
use Rattle.rules_auction.specs.Refusals.{is_number, is_none, is_of_kind}
use Rattle.engine_moves.specs.moves.Reading.{standing_in}

pub kind_in_lem : (k n kind : ℕ) (v : Bool) → v ≡ is_number n → v && eqb kind k ≡ is_of_kind k n kind
unfolding is_of_kind
kind_in_lem k n kind v e = ap (λ (b : Bool). b && eqb kind k) e

pub none_stands : (k : ℕ) → k < 1 → is_none (standing_in k) ≡ true
none_stands zero h = refl
none_stands (suc k) h = absurd (omega arith)

pub one_stands : (k : ℕ) → 1 ≤ k → is_none (standing_in k) ≡ false
one_stands zero h = absurd (omega arith)
one_stands (suc k) h = refl
