-- READ OUT, through the seats of a hall (document 02, 14): what a server's author may promise to each seat.
use Rattle.std.specs.Prelude.{ℕ, ◌≡◌, true, false, cond, ◌&&◌, List, [], ◌∷◌, ◌++◌, eqb, Result}
use Rattle.std.proofs.Common.{sym, ◌∙◌}
use contract.Lifetimes.{Lfts}
use denote.Triple.Clauses.{AtExit}
use borrow.Fn.World.{ArgsD}
use borrow.Fn.Kinds.{ended_of}
use Rattle.rules_auction.specs.Ledger.{Call}
use Rattle.rules_auction.specs.Rounds.{ledger, Answered, bare_answer, answers}
use Rattle.rules_seats.specs.Seats.{may_make, may_settle, At, HallLedger, Seated, hall_answer, hall_step, hall_ledger, hall_answers, published, reading}
use Rattle.rules_seats.specs.Seats.{Entry, permitted, entry_answers, through_seats}
use Rattle.rules_seats.specs.Views.{Changed, changes, own_seat, is_for, moves_clock, shown, view, told, own_answers, Learns}
use Rattle.engine_auction.specs.Holds.{held_auction}
use Rattle.engine_auction.specs.declared.Auction.{Auction}
use Rattle.hall.specs.Through.{held_hall}
use Rattle.hall.specs.declared.Hall.{Hall}
use Rattle.hall.specs.declared.seat_readings.Reading.{Reading}
use Rattle.seats.specs.Rights.{seat_in}
use Rattle.seats.specs.declared.Seat.TheVariants.{Developer}
use Rattle.seats.specs.declared.Seat.{Seat}
use Rattle.engine_refusals.specs.declared.Refusal.{Refusal}
use Rattle.engine_settling.specs.Settles.{settled_in, refused_with}
use Rattle.engine_settling.specs.declared.Settlement.{Settlement}
use Rattle.hall.specs.contracts.hall_readings.settle.{signature}
use Rattle.hall.proofs.hall_readings.settle.Kinds as kinds
use Rattle.hall.proofs.hall_readings.settle.Reads as settle
use Rattle.statement.specs.settling.Stated.{Stated}
use Rattle.statement.specs.EveryList.{Run}
use Rattle.statement.specs.HallRuns.{MadeThrough, HallRun, SeatedRun}
use Rattle.statement.specs.SeatsStated.{ReadsAt}
use Rattle.statement.specs.EngineCorrect.{EngineCorrect}

module _ {M : Type 1} (s : EngineCorrect M) where
  -- ---- calls through seats

  -- there is a run of every list
  pub hall_run_of : (ms : List Seated) → HallRun ms (hall_answers ms) (held_hall (hall_ledger ms))
  hall_run_of ms = s.hall_runs ms

  -- two runs of one list get the same answers, reach the same hall, and each seat reads the same in it
  pub same_hall_answers : {ms : List Seated} {rs rs' : List Answered} {h h' : Hall} → HallRun ms rs h → HallRun ms rs' h' → rs ≡ rs'
  same_hall_answers w v = s.seats.answered w ∙ sym (s.seats.answered v)

  pub same_hall : {ms : List Seated} {rs rs' : List Answered} {h h' : Hall} → HallRun ms rs h → HallRun ms rs' h' → h ≡ h'
  same_hall w v = s.seats.held w ∙ sym (s.seats.held v)

  pub same_reading :
      {ms : List Seated} {rs rs' : List Answered} {h h' : Hall} (seat : Seat) (r r' : Reading) → HallRun ms rs h → HallRun ms rs' h' →
      ReadsAt h seat r → ReadsAt h' seat r' → r ≡ r'
  same_reading seat r r' w v q q' = s.seats.read seat r w q ∙ sym (s.seats.read seat r' v q')

  -- without the right: 20, and the hall stays
  pub no_right :
      {seat : Seat} {c : Call} {h k : Hall} {r : Answered} → MadeThrough seat c h r k → may_make (seat_in seat) c ≡ false → (k ≡ h) × (r ≡ bare_answer 20)
  no_right m e = s.seats.barred m e

  -- refused by whichever number: the hall stays, and 0 stands in every other place
  pub refused_through :
      {seat : Seat} {c : Call} {h k : Hall} {r : Answered} → MadeThrough seat c h r k → (r.number ≡ 0 → ⊥) → (k ≡ h) × (r ≡ bare_answer r.number)
  refused_through m z = s.untouched.hall_calls m z

  -- ---- WHAT OTHERS DO IS UNSEEN: equal views, equal readings and equal answers to its own calls

  -- from the engine's own readings and answers
  pub nothing_else_learnt :
      (n : ℕ) {ms ms' : List Seated} {rs rs' : List Answered} {h h' : Hall} (r r' : Reading) → view n ms ≡ view n ms' →
      HallRun ms rs h → HallRun ms' rs' h' → ReadsAt h (Developer n) r → ReadsAt h' (Developer n) r' →
      (r ≡ r') × (own_answers n ms rs ≡ own_answers n ms' rs')
  nothing_else_learnt n r r' e w v q q' = s.seats.learns n r r' e w v q q'

  module _ (n : ℕ) (ms ms' : List Seated) (e : view n ms ≡ view n ms') where
    -- at each moment that it is told of, and behind the runs
    pub by_view : Learns n ms ms'
    by_view = s.seats.by_view n ms ms' e

    pub told_the_same : (told n ms ≡ told n ms') × (reading (hall_ledger ms) (At n) ≡ reading (hall_ledger ms') (At n))
    told_the_same = (by_view.moments, by_view.behind)

  -- what shows it nothing leaves what it reads
  pub nothing_shown :
      (n : ℕ) (ms : List Seated) (m : Seated) → shown n (hall_ledger ms) m ≡ [] → reading (hall_ledger (ms ++ (m ∷ []))) (At n) ≡ reading (hall_ledger ms) (At n)
  nothing_shown n ms m e = s.seats.still n ms m e

  -- calls of others that do not move the clock are not shown, so they leave what it reads
  module _ (n : ℕ) (m : Seated) (o : own_seat n m.seat ≡ false) (f : is_for n m.call ≡ false) (c : moves_clock m.call ≡ false) where
    pub others_unseen : (h : HallLedger) → shown n h m ≡ []
    others_unseen h = s.seats.unseen n h m o f c

    pub others_leave_reading : (ms : List Seated) → reading (hall_ledger (ms ++ (m ∷ []))) (At n) ≡ reading (hall_ledger ms) (At n)
    others_leave_reading ms = nothing_shown n ms m (others_unseen (hall_ledger ms))

  -- the published values change by accepted set-ups, openings and closings, and by nothing else
  pub clock_alone :
      (h : HallLedger) (m : Seated) →
      changes (published h) (published (hall_step h m))
      ≡ cond (moves_clock m.call && eqb (hall_answer h m).number 0) (Changed (published (hall_step h m)) ∷ []) []
  clock_alone h m = s.seats.clock h m

  -- ---- lists that hold calls on the auction and through seats: as the list without what 20 refused

  -- there is a run of every such list
  pub mixed_run_of : (es : List Entry) → SeatedRun es (entry_answers es) (held_auction (ledger (permitted es)))
  mixed_run_of es = s.mixed_runs es

  -- it reaches what its permitted calls reach, and each call is answered as there, or by 20
  pub mixed_list : {es : List Entry} {rs : List Answered} {a : Auction} → SeatedRun es rs a → Run (permitted es) (answers (permitted es)) a
  mixed_list w = s.seats.list w

  pub mixed_answers : {es : List Entry} {rs : List Answered} {a : Auction} → SeatedRun es rs a → rs ≡ entry_answers es
  mixed_answers w = s.seats.list_answered w

  -- a run through seats alone is one, so what is stated of lists of calls holds of its auction
  pub hall_entries : {ms : List Seated} {rs : List Answered} {h : Hall} → HallRun ms rs h → SeatedRun (through_seats ms) rs h.auction
  hall_entries w = s.seats.list_of_run w

  pub hall_list :
      {ms : List Seated} {rs : List Answered} {h : Hall} → HallRun ms rs h → let cs = permitted (through_seats ms) in Run cs (answers cs) h.auction
  hall_list w = mixed_list (hall_entries w)

  -- ---- settling through a seat: the arguments x are the hall, the seat, the limit, the buffer

  module _ (κs : Lfts 1) (x : ArgsD signature κs) (r : Result Settlement Refusal) (y : AtExit (ended_of 1 kinds.ps kinds.r) κs) (q : settle.Post κs x r y) where
    -- without the right: 20, and the buffer is as it was
    pub settling_barred : may_settle (seat_in x.1.0) ≡ false → (settled_in r ≡ refused_with 20) × (y.1.1.1.0.now ≡ x.1.1.1.0.now)
    settling_barred e = s.seats.settling_barred κs x r y e q

    -- by whichever number it is refused
    pub settling_refused : let a = settled_in r in (a.number ≡ 0 → ⊥) → (a ≡ refused_with a.number) × (y.1.1.1.0.now ≡ x.1.1.1.0.now)
    settling_refused z = s.untouched.refused_hall_settling κs x r y q z

    -- with the right: as is stated of the permitted calls
    pub settling_through :
        {es : List Entry} {rs : List Answered} → SeatedRun es rs x.0.auction → may_settle (seat_in x.1.0) ≡ true →
        Stated (ledger (permitted es)) x.1.1.0 x.1.1.1.0.now y.1.1.1.0.now (settled_in r)
    settling_through w e = s.seats.settles κs x r y w e q
