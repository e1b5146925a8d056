-- SEATS IN THE AUCTION HALL (document 02, 14), for every run of calls through seats from a fresh hall, refused ones included: hall, answers and
-- readings are by the definitions; a developer learns from its view alone, at every moment; and settling or looking through a seat keeps what is
-- stated of them, for lists that hold calls on the auction and calls through seats. The calls are tied in through their own contracts, which each of
-- them meets.
use Rattle.std.specs.Prelude.{ℕ, ◌≡◌, true, false, List, Result}
use contract.Lifetimes.{Lfts}
use denote.Triple.Clauses.{AtExit}
use borrow.Fn.World.{ArgsD}
use borrow.Fn.Kinds.{ended_of}
use Rattle.rules_auction.specs.Ledger.{Call}
use Rattle.rules_auction.specs.Rounds.{ledger, Answered, bare_answer, answers}
use Rattle.rules_seats.specs.Seats.{may_make, may_settle, Seated, hall_ledger, hall_answers, reading, Entry, permitted, entry_answers, through_seats}
use Rattle.rules_seats.specs.Views.{view, own_answers, ByViewAlone, StillBetween, OthersUnseen, ClockAlone}
use Rattle.rules_seats.specs.ViewLaws.{by_view_alone, still_between, others_unseen, clock_alone}
use Rattle.engine_auction.specs.declared.Auction.{Auction}
use Rattle.engine_refusals.specs.declared.Refusal.{Refusal}
use Rattle.engine_settling.specs.Settles.{settled_in, refused_with}
use Rattle.engine_settling.specs.declared.Settlement.{Settlement}
use Rattle.statement.specs.settling.Stated.{Stated}
use Rattle.statement.specs.settling.StatedLaws.{stated}
use Rattle.seats.specs.Rights.{seat_in}
use Rattle.seats.specs.declared.Seat.{Seat}
use Rattle.seats.specs.declared.Seat.TheVariants.{Developer}
use Rattle.hall.specs.seat_readings.Shown.{shown_reading}
use Rattle.hall.specs.declared.seat_readings.Reading.{Reading}
use Rattle.hall.specs.Through.{held_hall}
use Rattle.hall.specs.declared.Hall.{Hall}
use Rattle.hall.specs.contracts.hall_readings.settle.{signature}
use Rattle.hall.proofs.hall_readings.settle.Kinds as kinds
use Rattle.hall.proofs.hall_readings.settle.Reads as settle
use Rattle.hall.proofs.Hall.new.Statement as new_states
use Rattle.hall.proofs.Hall.set_up.Statement as set_up_states
use Rattle.hall.proofs.Hall.register.Statement as register_states
use Rattle.hall.proofs.Hall.register_for.Statement as register_for_states
use Rattle.hall.proofs.Hall.open.Statement as open_states
use Rattle.hall.proofs.Hall.offer.Statement as offer_states
use Rattle.hall.proofs.Hall.lodge.Statement as lodge_states
use Rattle.hall.proofs.Hall.cancel.Statement as cancel_states
use Rattle.hall.proofs.Hall.close.Statement as close_states
use Rattle.hall.proofs.hall_readings.settle.Statement as settle_states
use Rattle.hall.proofs.hall_readings.preview_closing.Statement as preview_states
use Rattle.hall.proofs.hall_readings.supply_point.Statement as supply_point_states
use Rattle.hall.proofs.hall_readings.who_can_force.Statement as who_can_force_states
use Rattle.hall.proofs.hall_readings.read.Statement as reading_states
use Rattle.hall.proofs.Hall.new.Met as new_met
use Rattle.hall.proofs.Hall.set_up.Met as set_up_met
use Rattle.hall.proofs.Hall.register.Met as register_met
use Rattle.hall.proofs.Hall.register_for.Met as register_for_met
use Rattle.hall.proofs.Hall.open.Met as open_met
use Rattle.hall.proofs.Hall.offer.Met as offer_met
use Rattle.hall.proofs.Hall.lodge.Met as lodge_met
use Rattle.hall.proofs.Hall.cancel.Met as cancel_met
use Rattle.hall.proofs.Hall.close.Met as close_met
use Rattle.hall.proofs.hall_readings.settle.Met as settle_met
use Rattle.hall.proofs.hall_readings.preview_closing.Met as preview_met
use Rattle.hall.proofs.hall_readings.supply_point.Met as supply_point_met
use Rattle.hall.proofs.hall_readings.who_can_force.Met as who_can_force_met
use Rattle.hall.proofs.hall_readings.read.Met as reading_met
use Rattle.statement.specs.EveryList.{Run, run_reached}
use Rattle.statement.specs.HallRuns.{MadeThrough, by_hall_contract, HallRun, hall_reached, SeatedRun, permitted_run, entries_answered, seated}
use Rattle.statement.specs.LooksThrough.{LooksThrough, looks_through}
use Rattle.statement.specs.EveryMoment.{read_in, told_alike, EveryMoment, every_moment}
pub use Rattle.statement.specs.EveryMoment.{ReadsAt}

-- each call through a seat, in every model
pub record HallMeets (M : Type 1) : Type 2 where
  pub new_meets : new_states.statement M
  pub set_up_meets : set_up_states.statement M
  pub register_meets : register_states.statement M
  pub register_for_meets : register_for_states.statement M
  pub open_meets : open_states.statement M
  pub offer_meets : offer_states.statement M
  pub lodge_meets : lodge_states.statement M
  pub cancel_meets : cancel_states.statement M
  pub close_meets : close_states.statement M
  pub settle_meets : settle_states.statement M
  pub preview_meets : preview_states.statement M
  pub supply_point_meets : supply_point_states.statement M
  pub who_can_force_meets : who_can_force_states.statement M
  pub reading_meets : reading_states.statement M

pub record SeatsStated (M : Type 1) : Type 2 where
  pub meets : HallMeets M
  -- a run through seats: the hall holds its ledger, the answers are the definitions', and so is what each seat reads; a call without the right is
  -- refused by 20, whatever the hall, which stays
  pub held : {ms : List Seated} {rs : List Answered} {h : Hall} → HallRun ms rs h → h ≡ held_hall (hall_ledger ms)
  pub answered : {ms : List Seated} {rs : List Answered} {h : Hall} → HallRun ms rs h → rs ≡ hall_answers ms
  pub read :
      {ms : List Seated} {rs : List Answered} {h : Hall} (s : Seat) (r : Reading) → HallRun ms rs h → ReadsAt h s r →
      r ≡ shown_reading (reading (hall_ledger ms) (seat_in s))
  pub barred : {s : Seat} {c : Call} {h k : Hall} {r : Answered} → MadeThrough s c h r k → may_make (seat_in s) c ≡ false → (k ≡ h) × (r ≡ bare_answer 20)
  -- WHAT A DEVELOPER CAN LEARN: two runs that give developer n equal views tell it the same at every point of them; and so do the engine's own
  -- readings behind them and its answers to n's calls, and at every moment of them
  pub by_view : ByViewAlone
  pub learns :
      (n : ℕ) {ms ms' : List Seated} {rs rs' : List Answered} {h h' : Hall} (r r' : Reading) → view n ms ≡ view n ms' →
      HallRun ms rs h → HallRun ms' rs' h' → ReadsAt h (Developer n) r → ReadsAt h' (Developer n) r' →
      (r ≡ r') × (own_answers n ms rs ≡ own_answers n ms' rs')
  pub moments : EveryMoment
  -- what shows it nothing leaves what it reads; others' offers, cancellations, lodged lists and registrations show it nothing; and the published
  -- values change by accepted set-ups, openings and closings, by each of them, and by nothing else
  pub still : StillBetween
  pub unseen : OthersUnseen
  pub clock : ClockAlone
  -- SETTLING THROUGH A SEAT: lists that hold calls on the auction and calls through seats reach the auction that the list without what 20 refused
  -- reaches, so that all that is stated of such lists holds of it; each call is answered as there, or by 20; settling through a seat that may is as
  -- stated of that list, and through another is refused by 20 and leaves the buffer
  pub list : {es : List Entry} {rs : List Answered} {a : Auction} → SeatedRun es rs a → Run (permitted es) (answers (permitted es)) a
  pub list_answered : {es : List Entry} {rs : List Answered} {a : Auction} → SeatedRun es rs a → rs ≡ entry_answers es
  pub list_of_run : {ms : List Seated} {rs : List Answered} {h : Hall} → HallRun ms rs h → SeatedRun (through_seats ms) rs h.auction
  -- the arguments x: the hall, the seat, the limit, the buffer; y: the same at the call's end
  pub settles :
      {es : List Entry} {rs : List Answered} (κs : Lfts 1) (x : ArgsD signature κs) (r : Result Settlement Refusal)
      (y : AtExit (ended_of 1 kinds.ps kinds.r) κs) →
      SeatedRun es rs x.0.auction → may_settle (seat_in x.1.0) ≡ true → settle.Post κs x r y →
      Stated (ledger (permitted es)) x.1.1.0 x.1.1.1.0.now y.1.1.1.0.now (settled_in r)
  pub settling_barred :
      (κs : Lfts 1) (x : ArgsD signature κs) (r : Result Settlement Refusal) (y : AtExit (ended_of 1 kinds.ps kinds.r) κs) →
      may_settle (seat_in x.1.0) ≡ false → settle.Post κs x r y → (settled_in r ≡ refused_with 20) × (y.1.1.1.0.now ≡ x.1.1.1.0.now)
  -- LOOKING THROUGH A SEAT: a preview, a point of the supply curve and who can force the price, likewise
  pub looks : LooksThrough

hall_meets : {M : Type 1} → HallMeets M
hall_meets = record {
  new_meets = new_met.met;
  set_up_meets = set_up_met.met;
  register_meets = register_met.met;
  register_for_meets = register_for_met.met;
  open_meets = open_met.met;
  offer_meets = offer_met.met;
  lodge_meets = lodge_met.met;
  cancel_meets = cancel_met.met;
  close_meets = close_met.met;
  settle_meets = settle_met.met;
  preview_meets = preview_met.met;
  supply_point_meets = supply_point_met.met;
  who_can_force_meets = who_can_force_met.met;
  reading_meets = reading_met.met;
}

pub seats_stated : {M : Type 1} → SeatsStated M
seats_stated = record {
  meets = hall_meets;
  held = λ w. (hall_reached w).0;
  answered = λ w. (hall_reached w).1;
  read = λ s r w q. read_in s r w q;
  barred = λ m e. (by_hall_contract m).barred e;
  by_view = by_view_alone;
  learns = told_alike;
  moments = every_moment;
  still = still_between;
  unseen = others_unseen;
  clock = clock_alone;
  list = permitted_run;
  list_answered = entries_answered;
  list_of_run = seated;
  settles = λ {es} κs x r y w e s.
      stated (permitted es) x.0.auction x.1.1.0 x.1.1.1.0.now y.1.1.1.0.now (settled_in r) (run_reached (permitted_run w)).0 (s.made e);
  settling_barred = λ κs x r y e s. s.barred e;
  looks = looks_through;
}
