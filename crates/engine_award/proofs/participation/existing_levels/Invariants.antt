-- `existing_levels`: the loop keeps the sum over the first i developers, each below 2^32.
use Prim.Native.Nat.{ℕ}
use mathlib.Core.Bool.{Bool, cond, ◌&&◌}
use mathlib.Core.List.{List}
use lib.Dec.{eqb}
use Rattle.rules_numbers.specs.Numbered.{at_number}
use Rattle.engine_award.proofs.participation.Summing.{Summing}
use Rattle.engine_award.proofs.participation.existing_levels.Given as goal

-- developer n is an existing plant of agent g
abbrev pub is_plant : List ℕ → List ℕ → ℕ → ℕ → Bool
is_plant agents kinds g n = eqb (at_number agents n) g && eqb (at_number kinds n) 1

abbrev pub invariant-loop-i : goal.invariant-loop-i
invariant-loop-i l = Summing (λ n. cond (is_plant l.auction.agents l.auction.kinds l.agent n) (at_number l.highest n) 0) l.sum l.i
