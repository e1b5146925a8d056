-- What the calls that leave the hall as it is ensure. `h` is the hall, `r` the answer, `s` the seat.
use Rattle.std.specs.Prelude.{ℕ, ◌≡◌, true, false, List, Result, Ok, Err}
use Rattle.rules_auction.specs.Preview.{Previewed, bare_preview}
use Rattle.rules_seats.specs.Seats.{Seat, may_settle, may_conduct}
use Rattle.engine_looks.specs.readings.Readings.{Previews, ReadsCurve}
use Rattle.engine_looks.specs.declared.readings.SupplyPoint.{SupplyPoint}
use Rattle.engine_looks.specs.forcing.Forces.{Forced, refused_forcing, ForcesPrice}
use Rattle.engine_settling.specs.Settles.{Settled, refused_with, Settles}
use Rattle.engine_refusals.specs.Numbers.{number_of}
use Rattle.engine_refusals.specs.declared.Refusal.{Refusal}
use Rattle.hall.specs.seat_readings.Shown.{ReadsFrom}
use Rattle.hall.specs.declared.seat_readings.Reading.{Reading}
use Rattle.hall.specs.declared.Hall.{Hall}

-- settling: without the right refused by 20, every other number 0, the buffer as it was; with it, as settling the auction
pub record SettlesThrough (s : Seat) (h : Hall) (limit : ℕ) (old new : List ℕ) (r : Settled) : Type 0 where
  pub barred : may_settle s ≡ false → (r ≡ refused_with 20) × (new ≡ old)
  pub made : may_settle s ≡ true → Settles h.auction limit old new r

-- the other calls: likewise
pub record PreviewsThrough (s : Seat) (h : Hall) (r : Previewed) : Type 0 where
  pub barred : may_conduct s ≡ false → r ≡ bare_preview 20
  pub made : may_conduct s ≡ true → Previews h.auction r

-- the number and the point of an answer
pub record SupplyPointThrough : Type 0 where
  pub number : ℕ
  pub entries : ℕ
  pub price : ℕ
  pub before : ℕ
  pub after : ℕ

abbrev pub no_supply_point : ℕ → SupplyPointThrough
no_supply_point n = record { number = n; entries = 0; price = 0; before = 0; after = 0 }

abbrev pub point_in : Result SupplyPoint Refusal → SupplyPointThrough
point_in (Ok x) = record { number = 0; entries = x.entries; price = x.price; before = x.before; after = x.after }
point_in (Err e) = no_supply_point (number_of e)

abbrev pub supply_point_of : SupplyPointThrough → SupplyPoint
supply_point_of r = record { entries = r.entries; price = r.price; before = r.before; after = r.after }

pub record ReadsCurveThrough (s : Seat) (h : Hall) (place : ℕ) (r : SupplyPointThrough) : Type 0 where
  pub barred : may_conduct s ≡ false → r ≡ no_supply_point 20
  pub made : may_conduct s ≡ true → (r.number ≡ 0) × ReadsCurve h.auction place (supply_point_of r)

pub record ForcesThrough (s : Seat) (h : Hall) (m n : ℕ) (ps : List ℕ) (r : Forced) : Type 0 where
  pub barred : may_conduct s ≡ false → r ≡ refused_forcing 20
  pub made : may_conduct s ≡ true → ForcesPrice h.auction m n ps r

-- a reading: every seat has one
abbrev pub ReadsThrough : Seat → Hall → Reading → Type 0
ReadsThrough s h r = ReadsFrom h.auction h.excess s r
