-- The price above one that an auction can have is the next number.
use Rattle.std.specs.Prelude.{ℕ, suc, ◌≤◌, ◌≡◌}
use Rattle.std.proofs.Common.{add-one, arith, lt-ltb}
use Rattle.engine_curve.specs.highs_and_lows.Lows.{next_price}

pub next_price_lem : (p : ℕ) → p ≤ 1000000 → next_price p ≡ suc p
unfolding next_price
next_price_lem p h = rw (lt-ltb p 4294967295 (omega arith)) (add-one p)
