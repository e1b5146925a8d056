-- LOOKING THROUGH A SEAT (document 02, 14): a preview (6), a point of the supply curve (9) and who can force the price (11), asked through a seat in
-- the hall. Without the auctioneer's right each is refused by 20, with zeros in every other place, whatever the hall. With it, in a hall whose auction
-- any list of calls reaches, on the auction or through seats, each says what is stated of the list without what 20 refused. All is from the
-- functions' own contracts, which they meet (`meets` in SeatsStated).
use Rattle.std.specs.Prelude.{ℕ, ◌+◌, ◌<◌, ◌≡◌, ◌⊎◌, ◌↔◌, true, false, List, length, get_or, Result}
use contract.Lifetimes.{Lfts}
use borrow.Fn.World.{ArgsD}
use Rattle.rules_auction.specs.Ledger.{Close}
use Rattle.rules_auction.specs.Clearing.{demand_at}
use Rattle.rules_auction.specs.Refusals.{floor, refusal}
use Rattle.rules_auction.specs.Rounds.{supply_after, ledger, Answered}
use Rattle.rules_auction.specs.Preview.{bare_preview}
use Rattle.rules_supply_curve.specs.Curve.{supply_curve, no_point}
use Rattle.rules_forcing.specs.Game.{GameMove}
use Rattle.rules_forcing.specs.Forcing.{forcing_refusal, ForcedBy}
use Rattle.engine_looks.specs.rivals.Plain.{withdraws_by}
use Rattle.engine_refusals.specs.declared.Refusal.{Refusal}
use Rattle.engine_looks.specs.forcing.Forces.{refused_forcing, forced_in}
use Rattle.engine_looks.specs.declared.forcing.Forcing.{Forcing}
use Rattle.rules_seats.specs.Seats.{may_conduct, may_make, Entry, permitted}
use Rattle.seats.specs.Rights.{seat_in}
use Rattle.seats.specs.declared.Seat.{Seat}
use Rattle.engine_auction.specs.declared.Auction.{Auction}
use Rattle.engine_looks.specs.readings.Readings.{preview_in, supply_point_in}
use Rattle.engine_looks.specs.declared.readings.Preview.{Preview}
use Rattle.engine_looks.specs.declared.readings.SupplyPoint.{SupplyPoint}
use Rattle.hall.specs.declared.Hall.{Hall}
use Rattle.hall.specs.hall_readings.Looks.{no_supply_point, point_in, supply_point_of}
use Rattle.hall.proofs.hall_readings.preview_closing.Reads as previewing
use Rattle.hall.proofs.hall_readings.supply_point.Reads as reading
use Rattle.hall.specs.contracts.hall_readings.who_can_force.{signature}
use Rattle.hall.proofs.hall_readings.who_can_force.Reads as forcing
use Rattle.statement.specs.EveryList.{Made}
use Rattle.statement.specs.Previewed.{Foretells, preview_stated}
use Rattle.statement.specs.SupplyCurves.{curve_stated}
use Rattle.statement.specs.PriceForced.{forcing_stated}
use Rattle.statement.specs.HallRuns.{MadeThrough, made_in, SeatedRun, permitted_run}

-- p is what the preview through the seat s in the hall h says, r what reading this place of the curve says, as the functions' own contracts have it
abbrev pub LooksAt : Hall → Seat → Result Preview Refusal → Type 0
LooksAt h s p = previewing.Post tt (h, (s, tt)) p (h, (s, tt))

abbrev pub ReadsCurveAt : Hall → Seat → ℕ → Result SupplyPoint Refusal → Type 0
ReadsCurveAt h s place r = reading.Post tt (h, (s, (place, tt))) r (h, (s, (place, tt)))

pub record PreviewThrough : Type 1 where
  pub barred : {h : Hall} (s : Seat) (p : Result Preview Refusal) → may_conduct (seat_in s) ≡ false → LooksAt h s p → preview_in p ≡ bare_preview 20
  -- it foretells the closing made next, on the auction or through the same seat
  pub foretells :
      {es : List Entry} {rs : List Answered} {h : Hall} {b : Auction} {r : Answered} (s : Seat) (p : Result Preview Refusal) →
      SeatedRun es rs h.auction → may_conduct (seat_in s) ≡ true → LooksAt h s p → Made Close h.auction r b → Foretells (preview_in p) r b
  pub foretells_through :
      {es : List Entry} {rs : List Answered} {h k : Hall} {r : Answered} (s : Seat) (p : Result Preview Refusal) →
      SeatedRun es rs h.auction → may_conduct (seat_in s) ≡ true → LooksAt h s p → MadeThrough s Close h r k → Foretells (preview_in p) r k.auction
  pub closed :
      {es : List Entry} {rs : List Answered} {h : Hall} (s : Seat) (p : Result Preview Refusal) →
      SeatedRun es rs h.auction → may_conduct (seat_in s) ≡ true → LooksAt h s p → let l = ledger (permitted es) in
      ((preview_in p).closed ≡ true) ↔ ((refusal l Close ≡ 0) × ((supply_after l < demand_at l l.closing + 1000) ⊎ (l.closing ≡ floor l)))
  -- refused by the auction, on every value of the struct
  pub refused :
      {h : Hall} (s : Seat) (p : Result Preview Refusal) → may_conduct (seat_in s) ≡ true → LooksAt h s p → let n = (preview_in p).answered.number in
      (n ≡ 0 → ⊥) → preview_in p ≡ bare_preview n

pub record CurveThrough : Type 1 where
  pub barred :
      {h : Hall} (s : Seat) (place : ℕ) (r : Result SupplyPoint Refusal) → may_conduct (seat_in s) ≡ false → ReadsCurveAt h s place r →
      point_in r ≡ no_supply_point 20
  pub accepted :
      {h : Hall} (s : Seat) (place : ℕ) (r : Result SupplyPoint Refusal) → may_conduct (seat_in s) ≡ true → ReadsCurveAt h s place r →
      (point_in r).number ≡ 0
  pub entries :
      {es : List Entry} {rs : List Answered} {h : Hall} (s : Seat) (place : ℕ) (r : Result SupplyPoint Refusal) →
      SeatedRun es rs h.auction → may_conduct (seat_in s) ≡ true → ReadsCurveAt h s place r →
      (point_in r).entries ≡ length (supply_curve (ledger (permitted es)))
  pub point :
      {es : List Entry} {rs : List Answered} {h : Hall} (s : Seat) (place : ℕ) (r : Result SupplyPoint Refusal) →
      SeatedRun es rs h.auction → may_conduct (seat_in s) ≡ true → ReadsCurveAt h s place r →
      supply_point_in (supply_point_of (point_in r)) ≡ get_or (supply_curve (ledger (permitted es))) place no_point

-- the arguments x: the hall, the seat, the two developers, the prices
pub record ForcingThrough : Type 1 where
  pub barred :
      (κs : Lfts 1) (x : ArgsD signature κs) (r : Result Forcing Refusal) → may_conduct (seat_in x.1.0) ≡ false → forcing.Post κs x r x →
      forced_in r ≡ refused_forcing 20
  pub refused :
      (κs : Lfts 1) (x : ArgsD signature κs) (r : Result Forcing Refusal) → may_conduct (seat_in x.1.0) ≡ true → forcing.Post κs x r x →
      ((forced_in r).number ≡ 0 → ⊥) → forced_in r ≡ refused_forcing (forced_in r).number
  pub number :
      {es : List Entry} {rs : List Answered} (κs : Lfts 1) (x : ArgsD signature κs) (r : Result Forcing Refusal) →
      SeatedRun es rs x.0.auction → may_conduct (seat_in x.1.0) ≡ true → forcing.Post κs x r x →
      (forced_in r).number ≡ forcing_refusal (ledger (permitted es)) x.1.1.0 x.1.1.1.0 x.1.1.1.1.0.now
  pub forced :
      {es : List Entry} {rs : List Answered} (κs : Lfts 1) (x : ArgsD signature κs) (r : Result Forcing Refusal) →
      SeatedRun es rs x.0.auction → may_conduct (seat_in x.1.0) ≡ true → forcing.Post κs x r x → (forced_in r).number ≡ 0 →
      (m : GameMove) × ForcedBy (ledger (permitted es)) x.1.1.0 x.1.1.1.0 x.1.1.1.1.0.now (forced_in r).outcome m × ((forced_in r).withdraws ≡ withdraws_by m)

pub record LooksThrough : Type 1 where
  pub preview : PreviewThrough
  pub curve : CurveThrough
  pub forcing : ForcingThrough

preview_through : PreviewThrough
unfolding may_make
preview_through = record {
  barred = λ s p e q. q.barred e;
  foretells = λ s p w e q m. preview_stated.foretells p (permitted_run w) (q.made e) m;
  foretells_through = λ s p w e q m. preview_stated.foretells p (permitted_run w) (q.made e) (made_in m e);
  closed = λ s p w e q. preview_stated.closed p (permitted_run w) (q.made e);
  refused = λ s p e q. (q.made e).zero;
}

curve_through : CurveThrough
curve_through = record {
  barred = λ s place r e q. q.barred e;
  accepted = λ s place r e q. (q.made e).0;
  entries = λ s place r w e q. curve_stated.entries place (supply_point_of (point_in r)) (permitted_run w) (q.made e).1;
  point = λ s place r w e q. curve_stated.point place (supply_point_of (point_in r)) (permitted_run w) (q.made e).1;
}

forcing_through : ForcingThrough
forcing_through = record {
  barred = λ κs x r e q. q.barred e;
  refused = λ κs x r e q. forcing_stated.refused κs (x.0.auction, x.1.1) r (q.made e);
  number = λ κs x r w e q. forcing_stated.number κs (x.0.auction, x.1.1) r (permitted_run w) (q.made e);
  forced = λ κs x r w e q. forcing_stated.forced κs (x.0.auction, x.1.1) r (permitted_run w) (q.made e);
}

pub looks_through : LooksThrough
looks_through = record { preview = preview_through; curve = curve_through; forcing = forcing_through }
