-- Two runs that give developer 2 one view (document 02, 14), of the session computed in `SeatSample`: developer 3 offers different things in them,
-- and developer 2 learns the same. What it is told at each moment of them, computed.
use Rattle.std.specs.Prelude.{◌≡◌, refl, [], ◌∷◌, map}
use Rattle.rules_auction.specs.Ledger.{Fresh, Ready, Round, Between}
use Rattle.rules_auction.specs.Computing.{call_refusals}
use Rattle.laws_arrival.specs.cancelling.TakenBack.{own}
use Rattle.rules_seats.specs.Seats.{At, may_make, hall_answer, latest_excess, hall_step, hall_from, hall_ledger, reading}
use Rattle.rules_seats.specs.Views.{same_excess, same_phase, same_values, own_seat, is_for, asked_by, made_for, changes, shown, view, answers_at, moments}
use Rattle.rules_seats.specs.Views.{told_from, told, Learns}
use Rattle.rules_seats.specs.ViewLaws.{by_view_alone}
use Rattle.rules_seats.specs.SeatSample.{one, other, session}

-- in the one run developer 3 keeps its level, in the other it comes down
pub others_differ :
    (((hall_ledger one).ledger.developers 3).withdrawals ≡ [])
    × (((hall_ledger other).ledger.developers 3).withdrawals ≡ record { price = 35000; level = 400000 } ∷ [])
unfolding call_refusals may_make hall_answer latest_excess hall_step hall_from hall_ledger
others_differ = (refl, refl)

pub equal_views : view 2 one ≡ view 2 other
equal_views = session.5

pub told_the_same : (told 2 one ≡ told 2 other) × (reading (hall_ledger one) (At 2) ≡ reading (hall_ledger other) (At 2))
told_the_same = let k : Learns 2 one other = by_view_alone 2 one other equal_views in (k.moments, k.behind)

-- eight moments: four calls through its seat with their answers, its registration, and three changes of published values; and the phase that it
-- reads at each
pub told_at_each :
    (map (λ p. map (λ r. r.number) p.answers) (told 2 one) ≡ (20 ∷ []) ∷ [] ∷ (20 ∷ []) ∷ [] ∷ [] ∷ (20 ∷ []) ∷ (0 ∷ []) ∷ [] ∷ [])
    × (map (λ p. p.reads.values.phase) (told 2 one) ≡ Fresh ∷ Ready ∷ Ready ∷ Ready ∷ Round ∷ Round ∷ Round ∷ Between ∷ [])
unfolding call_refusals own may_make hall_answer latest_excess hall_step hall_from hall_ledger reading
    same_excess same_phase same_values own_seat is_for asked_by made_for changes shown answers_at moments told_from told
told_at_each = (refl, refl)
