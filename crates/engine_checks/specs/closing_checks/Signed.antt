-- The signed difference of two numbers fits 64 bits.
use Rattle.std.specs.Prelude.{ℕ, suc, ◌-◌, ◌<◌, ◌^◌, ◌≡◌, Bool, true, false, cond, ltb, ℤ, pos, negsuc, ◌-ℤ◌}
use Rattle.std.proofs.Common.{arith, to_z, of_z, SFits, to_z-of_z}
use Rattle.std.proofs.Math.IntN.{sub_ℕ}
use Rattle.std.specs.Int.Signed.{mag}
use Rattle.std.specs.Int.{w64}
use Rattle.std.proofs.Math.Facts.{to_z_pos}
use Rattle.rules_demand.specs.Signs.{minus}

module _ (x y : ℕ) (v : x < 2 ^ 62) (w : y < 2 ^ 62) where
  small : mag (sub_ℕ x y) < 2 ^ 63
  small = go (ltb x y)
    where
      go : (b : Bool) → mag (cond b (negsuc (y - suc x)) (pos (x - y))) < 2 ^ 63
      go true = omega arith
      go false = omega arith

  pub difference : to_z w64 x -ℤ to_z w64 y ≡ pos x -ℤ pos y
  difference = rw (to_z_pos w64 {n = x} (omega arith), to_z_pos w64 {n = y} (omega arith))

  pub difference_fits : SFits w64 (pos x -ℤ pos y)
  difference_fits = rw minus (record { sfits = small })

  -- read back from its 64 bits
  pub difference_back : (z : ℤ) → z ≡ pos x -ℤ pos y → to_z w64 (of_z w64 z) ≡ pos x -ℤ pos y
  difference_back z e = rw e (to_z-of_z difference_fits)
