-- READ OUT, looking through a seat (document 02, 14): without the right 20 and zeros, with it what the list without the barred calls says.
use Rattle.std.specs.Prelude.{ℕ, ◌+◌, ◌<◌, ◌≡◌, ◌⊎◌, ◌↔◌, true, false, List, Result}
use Rattle.std.proofs.Common.{sym, ◌∙◌}
use contract.Lifetimes.{Lfts}
use borrow.Fn.World.{ArgsD}
use Rattle.rules_auction.specs.Ledger.{Close}
use Rattle.rules_auction.specs.Clearing.{demand_at}
use Rattle.rules_auction.specs.Refusals.{floor, refusal}
use Rattle.rules_auction.specs.Preview.{bare_preview}
use Rattle.rules_auction.specs.Rounds.{supply_after, ledger, Answered}
use Rattle.rules_forcing.specs.Game.{GameMove}
use Rattle.rules_forcing.specs.Forcing.{forcing_refusal, ForcedBy}
use Rattle.engine_looks.specs.rivals.Plain.{withdraws_by}
use Rattle.engine_refusals.specs.declared.Refusal.{Refusal}
use Rattle.engine_looks.specs.forcing.Forces.{refused_forcing, forced_in}
use Rattle.engine_looks.specs.declared.forcing.Forcing.{Forcing}
use Rattle.rules_seats.specs.Seats.{may_conduct, Entry, permitted}
use Rattle.engine_auction.specs.declared.Auction.{Auction}
use Rattle.engine_looks.specs.readings.Readings.{preview_in, supply_point_in}
use Rattle.engine_looks.specs.declared.readings.Preview.{Preview}
use Rattle.engine_looks.specs.declared.readings.SupplyPoint.{SupplyPoint}
use Rattle.hall.specs.declared.Hall.{Hall}
use Rattle.hall.specs.hall_readings.Looks.{no_supply_point, point_in, supply_point_of}
use Rattle.hall.specs.contracts.hall_readings.who_can_force.{signature}
use Rattle.hall.proofs.hall_readings.who_can_force.Reads as forcing
use Rattle.seats.specs.Rights.{seat_in}
use Rattle.seats.specs.declared.Seat.{Seat}
use Rattle.statement.specs.EveryList.{Made}
use Rattle.statement.specs.HallRuns.{MadeThrough, SeatedRun}
use Rattle.statement.specs.Previewed.{Foretells}
use Rattle.statement.specs.LooksThrough.{LooksAt, ReadsCurveAt}
use Rattle.statement.specs.EngineCorrect.{EngineCorrect}

module _ {M : Type 1} (s : EngineCorrect M) where
  -- ---- a preview of closing

  module _ {h : Hall} (seat : Seat) (p : Result Preview Refusal) (q : LooksAt h seat p) where
    -- without the right: 20, and zeros
    pub preview_barred : may_conduct (seat_in seat) ≡ false → preview_in p ≡ bare_preview 20
    preview_barred e = s.seats.looks.preview.barred seat p e q

    module _ (e : may_conduct (seat_in seat) ≡ true) where
      -- refused by the auction: zeros too
      pub preview_refused : let n = (preview_in p).answered.number in (n ≡ 0 → ⊥) → preview_in p ≡ bare_preview n
      preview_refused z = s.seats.looks.preview.refused seat p e q z

      module _ {es : List Entry} {rs : List Answered} (w : SeatedRun es rs h.auction) where
        -- it foretells the closing made next, on the auction or through the same seat
        pub preview_foretells : {b : Auction} {r : Answered} → Made Close h.auction r b → Foretells (preview_in p) r b
        preview_foretells m = s.seats.looks.preview.foretells seat p w e q m

        pub preview_through : {k : Hall} {r : Answered} → MadeThrough seat Close h r k → Foretells (preview_in p) r k.auction
        preview_through m = s.seats.looks.preview.foretells_through seat p w e q m

        -- "closed": the closing is accepted, and excess is below 1,000 kWh or C the floor
        pub preview_closed : let l = ledger (permitted es) in
            ((preview_in p).closed ≡ true) ↔ ((refusal l Close ≡ 0) × ((supply_after l < demand_at l l.closing + 1000) ⊎ (l.closing ≡ floor l)))
        preview_closed = s.seats.looks.preview.closed seat p w e q

  -- ---- a point of the supply curve

  module _ {h : Hall} (seat : Seat) (place : ℕ) (r : Result SupplyPoint Refusal) (q : ReadsCurveAt h seat place r) where
    -- without the right: 20, and zeros; with it: 0
    pub point_barred : may_conduct (seat_in seat) ≡ false → point_in r ≡ no_supply_point 20
    point_barred e = s.seats.looks.curve.barred seat place r e q

    pub point_allowed : may_conduct (seat_in seat) ≡ true → (point_in r).number ≡ 0
    point_allowed e = s.seats.looks.curve.accepted seat place r e q

  module _ {es : List Entry} {rs rs' : List Answered} {h h' : Hall} (seat : Seat) (place : ℕ) (r r' : Result SupplyPoint Refusal)
      (e : may_conduct (seat_in seat) ≡ true)
      (w : SeatedRun es rs h.auction) (v : SeatedRun es rs' h'.auction) (q : ReadsCurveAt h seat place r) (q' : ReadsCurveAt h' seat place r') where
    -- one list: one number of points, and one point at each place
    pub same_entries_through : (point_in r).entries ≡ (point_in r').entries
    same_entries_through = s.seats.looks.curve.entries seat place r w e q ∙ sym (s.seats.looks.curve.entries seat place r' v e q')

    pub same_point_through : supply_point_in (supply_point_of (point_in r)) ≡ supply_point_in (supply_point_of (point_in r'))
    same_point_through = s.seats.looks.curve.point seat place r w e q ∙ sym (s.seats.looks.curve.point seat place r' v e q')

  -- ---- who can force the price: the arguments x are the hall, the seat, the two developers, the prices

  module _ (κs : Lfts 1) (x : ArgsD signature κs) (r : Result Forcing Refusal) (q : forcing.Post κs x r x) where
    -- without the right: 20, and zeros
    pub question_barred : may_conduct (seat_in x.1.0) ≡ false → forced_in r ≡ refused_forcing 20
    question_barred e = s.seats.looks.forcing.barred κs x r e q

    module _ (e : may_conduct (seat_in x.1.0) ≡ true) where
      -- refused by the auction: zeros too
      pub question_refused : ((forced_in r).number ≡ 0 → ⊥) → forced_in r ≡ refused_forcing (forced_in r).number
      question_refused z = s.seats.looks.forcing.refused κs x r e q z

      module _ {es : List Entry} {rs : List Answered} (w : SeatedRun es rs x.0.auction) where
        -- the number is decided by the list and the question
        pub question_through : (forced_in r).number ≡ forcing_refusal (ledger (permitted es)) x.1.1.0 x.1.1.1.0 x.1.1.1.1.0.now
        question_through = s.seats.looks.forcing.number κs x r w e q

        -- what the first can force, and a move that begins a strategy which forces it
        pub forced_through : (forced_in r).number ≡ 0 →
            (m : GameMove) × ForcedBy (ledger (permitted es)) x.1.1.0 x.1.1.1.0 x.1.1.1.1.0.now (forced_in r).outcome m
            × ((forced_in r).withdraws ≡ withdraws_by m)
        forced_through z = s.seats.looks.forcing.forced κs x r w e q z
