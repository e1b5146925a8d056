-- A refusal's number by what the auction holds; or the answer of the game that is played, which is the ledger's.
use Prim.Native.Nat.{◌-◌, ◌<◌, ◌^◌}
use mathlib.Core.Path.{◌≡◌}
use Rattle.std.proofs.Common.{arith}
use lib.ListN.{get_or}
use Rattle.std.proofs.lemmas.Result.{err_from_is_err_and}
use Rattle.engine_refusals.specs.NumberLaws.{number_not_0}
use Rattle.engine_looks.specs.forcing_checks.AskingLaws.{Pair}
use Rattle.engine_looks.specs.rivals.Plain.{Held, high_in}
use Rattle.engine_looks.specs.forcing.Playing.{keeping}
use Rattle.engine_looks.proofs.forcing.Answering.{forcing_refused, pair, fitting, played_held, forcing_answered}
use Rattle.engine_looks.proofs.forcing.who_can_force.Goals as goal
use Rattle.engine_looks.proofs.forcing.who_can_force.Goals.{After-first_moves, After-game_of-game, After-rival-one, In_ok-check_forcing, Start}

closing_fits : (s : Start) → s.args.auction.clock.closing < 2 ^ 32
closing_fits s = omega arith

pair_of : (c : In_ok-check_forcing) → let s = c.args in Pair s.first s.second
pair_of c = let s = c.args in pair s.auction s.first s.second s.prices.now c.in_ok-check_forcing.ensures

held : (c : After-game_of-game) → Held c.game_of-game.result
held c =
    let s = c.args in
    played_held s.auction s.first s.second s.prices.now c.in_ok-check_forcing.ensures
    _ _ c.supplies_of-supplies.ensures c.game_of-game.ensures

-- the first rival has the first developer's quantity, and the outcome is that of the game in which it begins
first_is : (c : After-rival-one) →
    let s = c.args in
    c.rival-one.result ≡ keeping (get_or s.auction.quantities (s.first - 1) 0)
first_is c = c.rival-one.ensures

begun : (c : After-first_moves) →
    c.first_moves.result ≡ high_in c.game_of-game.result 0 c.rival-one.result c.rival-other.result
begun c = c.first_moves.ensures

pub returns-in_err-check_forcing : goal.returns-in_err-check_forcing
returns-in_err-check_forcing c =
    let p = err_from_is_err_and c.from_residual.result c.from_residual.ensures.1 in
    rw (p.1, p.2) (forcing_refused _ _ _ _ _ c.in_err-check_forcing.ensures (number_not_0 _))

pub overflow_sub-i : goal.overflow_sub-i
overflow_sub-i c = let b = pair_of (goal.at.overflow_sub-i c).In_ok-check_forcing in omega arith

pub overflow_sub-j : goal.overflow_sub-j
overflow_sub-j c = let b = pair_of (goal.at.overflow_sub-j c).In_ok-check_forcing in omega arith

pub supplies_of-supplies-requires : goal.supplies_of-supplies-requires
supplies_of-supplies-requires c = let b = pair_of (goal.at.supplies_of-supplies-requires c).In_ok-check_forcing in (omega arith, omega arith)

pub game_of-game-requires : goal.game_of-game-requires
game_of-game-requires c =
    let s = c.args in
    fitting s.auction s.first s.second s.prices.now c.in_ok-check_forcing.ensures (closing_fits (goal.at.game_of-game-requires c).Start)

pub offset_bounds-quantities-i : goal.offset_bounds-quantities-i
offset_bounds-quantities-i c = let b = pair_of (goal.at.offset_bounds-quantities-i c).In_ok-check_forcing in record { fits = omega arith }

pub bounds-quantities-i : goal.bounds-quantities-i
bounds-quantities-i c = let b = pair_of (goal.at.bounds-quantities-i c).In_ok-check_forcing in omega arith

pub offset_bounds-quantities-j : goal.offset_bounds-quantities-j
offset_bounds-quantities-j c = let b = pair_of (goal.at.offset_bounds-quantities-j c).In_ok-check_forcing in record { fits = omega arith }

pub bounds-quantities-j : goal.bounds-quantities-j
bounds-quantities-j c = let b = pair_of (goal.at.bounds-quantities-j c).In_ok-check_forcing in omega arith

pub first_moves-requires : goal.first_moves-requires
first_moves-requires c = record { held = held (goal.at.first_moves-requires c).After-game_of-game; at_le_count = omega arith }

pub first_withdraws-requires : goal.first_withdraws-requires
first_withdraws-requires c = held (goal.at.first_withdraws-requires c).After-game_of-game

pub returns : goal.returns
returns c =
    let s = c.args in
    forcing_answered s.auction s.first s.second s.prices.now c.in_ok-check_forcing.ensures
    _ _ c.supplies_of-supplies.ensures c.game_of-game.ensures
    _ _ (first_is (goal.at.returns c).After-rival-one) c.rival-other.ensures _ _ (begun (goal.at.returns c).After-first_moves) c.first_withdraws.ensures
