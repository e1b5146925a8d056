-- The limit against the choices that were counted.
use Prim.Native.Nat.{ℕ, min, ◌≤◌, ◌<◌}
use mathlib.Core.Path.{◌≡◌}
use lib.Dec.{leb}
use Rattle.std.proofs.Common.{arith}
use borrow.Author.Tests.{le-leb, lt-leb}
use Rattle.rules_auction.specs.Refusals.{check}
use Rattle.engine_settling.proofs.check_again.Goals as goal

module _ (choices limit capped : ℕ) (e : capped ≡ min limit 65536) where
  over : capped < choices → 10 ≡ check (leb choices (min limit 65536)) 10 0
  over h = rw (lt-leb choices (min limit 65536) (omega arith))

  within : choices ≤ capped → 0 ≡ check (leb choices (min limit 65536)) 10 0
  within h = rw (le-leb choices (min limit 65536) (omega arith))

pub returns-then-capped_limit-settlement : goal.returns-then-capped_limit-settlement
returns-then-capped_limit-settlement c = over _ _ _ c.capped_limit.ensures c.if-capped_limit-settlement.true

pub returns : goal.returns
returns c = within _ _ _ c.capped_limit.ensures c.if-capped_limit-settlement.false
