-- READ OUT, at every moment of a run through seats (document 02, 14): what developer n reads and is answered there.
use Rattle.std.specs.Prelude.{ℕ, ◌≡◌}
use mathlib.Core.List.{List, [], ◌∷◌, ◌++◌, Memᴰ}
use Rattle.rules_auction.specs.Ledger.{Call}
use Rattle.rules_auction.specs.Rounds.{Answered}
use Rattle.rules_seats.specs.Seats.{Seated, hall_ledger}
use Rattle.rules_seats.specs.Views.{Moment, answers_at, view, moments, told, own_answers}
use Rattle.hall.specs.declared.Hall.{Hall}
use Rattle.hall.specs.seat_readings.Shown.{shown_reading}
use Rattle.hall.specs.declared.seat_readings.Reading.{Reading}
use Rattle.seats.specs.Rights.{seat_in}
use Rattle.seats.specs.declared.Seat.TheVariants.{Developer}
use Rattle.seats.specs.declared.Seat.{Seat}
use Rattle.statement.specs.HallRuns.{MadeThrough, HallRun}
use Rattle.statement.specs.Moments.{Passes, Passed}
use Rattle.statement.specs.EveryMoment.{ReadsAt, MomentWith}
use Rattle.statement.specs.EngineCorrect.{EngineCorrect}

-- a moment of a run at which developer n has the view of the calls ms
module _ {n : ℕ} {ms ns : List Seated} {rs : List Answered} {h : Hall} (m : MomentWith n ms ns rs h) where
  pub met_on_the_way : Passes m.calls m.answers m.hall ns rs h
  met_on_the_way = m.passes

  pub met_with_view : view n ms ≡ view n m.calls
  met_with_view = m.seen

module _ {M : Type 1} (s : EngineCorrect M) where
  -- ---- the moments of a run: behind each part of it from its start

  -- a run passes a hall behind each part of it
  pub moment_of_lem : (ms ks : List Seated) {rs : List Answered} {h : Hall} → HallRun (ms ++ ks) rs h → Passed ms (ms ++ ks) rs h
  moment_of_lem ms ks w = s.seats.moments.parts ms ks w

  module _ {ms ns : List Seated} {qs rs : List Answered} {k h : Hall} (p : Passes ms qs k ns rs h) where
    -- the part is a run, and so is the whole
    pub part_runs : HallRun ms qs k × HallRun ns rs h
    part_runs = s.seats.moments.part_runs p

    -- the whole begins with the part's calls and answers
    pub part_begins : ((ks : List Seated) × (ns ≡ ms ++ ks)) × ((zs : List Answered) × (rs ≡ qs ++ zs))
    part_begins = s.seats.moments.part_begins p

  -- ---- what is learnt at them

  -- at any two moments with equal views so far n reads the same, and its own calls were answered the same
  pub learnt_at_a_moment :
      (n : ℕ) {ms ns ms' ns' : List Seated} {qs rs qs' rs' : List Answered} {k h k' h' : Hall} (r r' : Reading) → view n ms ≡ view n ms' →
      Passes ms qs k ns rs h → Passes ms' qs' k' ns' rs' h' → ReadsAt k (Developer n) r → ReadsAt k' (Developer n) r' →
      (r ≡ r') × (own_answers n ms qs ≡ own_answers n ms' qs')
  learnt_at_a_moment n r r' e p p' q q' = s.seats.moments.learns n r r' e p p' q q'

  module _ (n : ℕ) {ms ns ns' : List Seated} {qs rs rs' : List Answered} {k h h' : Hall} (e : view n ns ≡ view n ns')
      (p : Passes ms qs k ns rs h) (w : HallRun ns' rs' h') where
    -- two runs of equal views: each moment of the one has a moment of the other ..
    pub moment_met : MomentWith n ms ns' rs' h'
    moment_met = s.seats.moments.met_again n e p w

    -- .. at which n reads the same, and its own calls so far were answered the same
    pub met_alike :
        (r r' : Reading) → ReadsAt k (Developer n) r → ReadsAt moment_met.hall (Developer n) r' →
        (r ≡ r') × (own_answers n ms qs ≡ own_answers n moment_met.calls moment_met.answers)
    met_alike r r' q q' = learnt_at_a_moment n r r' (met_with_view moment_met) p (met_on_the_way moment_met) q q'

  -- ---- what developer n is told: for each call a moment for each event that it shows n, and it holds what the engine answers and shows

  pub told_more : (n : ℕ) (ms : List Seated) (m : Seated) → told n (ms ++ (m ∷ [])) ≡ told n ms ++ moments n (hall_ledger ms) m
  told_more n ms m = s.seats.moments.adds n ms m

  pub as_told :
      (n : ℕ) {ms : List Seated} {rs : List Answered} {seat : Seat} {c : Call} {a : Answered} {h k : Hall} (r : Reading) (p : Moment) →
      HallRun ms rs h → MadeThrough seat c h a k → ReadsAt k (Developer n) r →
      Memᴰ p (moments n (hall_ledger ms) (record { seat = seat_in seat; call = c })) → (r ≡ shown_reading p.reads) × (answers_at p.event a ≡ p.answers)
  as_told n r p w m q i = s.seats.moments.as_told n r p w m q i
