-- `insufficient`: the loop keeps what of the first i levels is new, and what of that is given to small agents.
use Prim.Native.Nat.{ℕ}
use mathlib.Core.Bool.{Bool, ◌&&◌}
use mathlib.Core.List.{List}
use lib.Dec.{eqb}
use Rattle.rules_numbers.specs.Numbered.{at_number}
use Rattle.rules_auction.specs.Participation.{is_small}
use Rattle.engine_award.specs.participation.Judged.{judged_in}
use Rattle.engine_award.proofs.participation.Granting.{level_to}
use Rattle.engine_award.proofs.participation.Summing.{Summing}
use Rattle.engine_award.proofs.participation.insufficient.Given as goal

-- developer n is of kind 2
abbrev pub is_new_one : List ℕ → ℕ → Bool
is_new_one kinds n = eqb (at_number kinds n) 2

-- and its agent is small
abbrev pub is_new_small : ℕ → List ℕ → List ℕ → List ℕ → ℕ → Bool
is_new_small d agents kinds highest n = is_new_one kinds n && is_small (judged_in d agents kinds highest) (at_number agents n)

abbrev pub invariant-loop-i : goal.invariant-loop-i
invariant-loop-i l =
    let a = l.auction in
    Summing (level_to (is_new_one a.kinds) l.award l.winners) l.new_award l.i
    × Summing (level_to (is_new_small a.clock.settings.d a.agents a.kinds l.highest) l.award l.winners) l.to_small l.i
