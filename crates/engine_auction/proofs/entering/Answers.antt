-- A registration: its number; else its place, and its levels with the highest of them.
use mathlib.Core.Path.{refl}
use Rattle.std.proofs.lemmas.Result.{err_from_is_err_and}
use Rattle.engine_held.specs.levels.Held.{no_levels}
use Rattle.engine_auction.specs.declared.Newcomer.{Newcomer}
use Rattle.engine_auction.proofs.Registering.{entering_refused, entering_taken}
use Rattle.engine_auction.proofs.entering.Goals as goal
use Rattle.engine_auction.proofs.entering.Goals.{Start}

-- nobody's entry with the registration's numbers
abbrev asked : Start → Newcomer
asked c =
    let s = c.args in
    record { place = 0; project = s.project; kind = s.kind; agent = s.agent; study = s.study; day = s.day; quantity = 0; declared = no_levels }

pub returns-in_err-check_registration : goal.returns-in_err-check_registration
returns-in_err-check_registration c =
    let p = err_from_is_err_and c.from_residual.result c.from_residual.ensures.1 in
    let s = c.args in
    rw (p.1, p.2) (entering_refused s.auction.now s.developer s.levels.now (asked (goal.at.returns-in_err-check_registration c).Start) _
    (rw c.are_numbers.ensures at c.in_err-check_registration.ensures) _ refl)

pub returns : goal.returns
returns c =
    let s = c.args in
    entering_taken s.auction.now s.developer s.levels.now _ 0 (rw c.are_numbers.ensures at c.in_ok-check_registration.ensures) refl
    c.place.ensures.0 c.copied-declared.ensures c.highest.ensures
