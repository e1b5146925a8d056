-- The measure is what is left of the places, and of the levels there.
use Prim.Native.Nat.{◌+◌, ◌-◌, ◌*◌}
use Rattle.engine_search.proofs.searching.+explore.Given as goal

abbrev pub decreases-explore : goal.decreases-explore
decreases-explore l = (32 - l.place.row) * 289 + (288 - l.place.at)
