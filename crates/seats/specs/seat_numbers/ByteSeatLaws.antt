-- A seat as the engine holds it has the rights of the seat that the kind and the number name, and reads the same behind every session.
use Rattle.std.specs.Prelude.{ℕ, ◌≤◌, ◌<◌, ◌≡◌, refl, Bool, true, false, cond, List, leb, eqb}
use Rattle.std.proofs.Common.{arith, le-leb, leb-false}
use Rattle.rules_seats.specs.Seats.{Seat, Auctioneer, Auditor, At, may_conduct, may_settle, reading}
use Rattle.rules_seats.specs.figures.Figures.{reading_figures}
use Rattle.rules_seats.specs.sessions.Sessions.{seat_by, session_hall}
use Rattle.rules_seats.specs.sessions.SessionFigures.{session_reading}
use Rattle.rules_seats.specs.sessions.BeyondLaws.{beyond_figures}
use Rattle.seats.specs.seat_numbers.ByteSeats.{byte_seat}

-- a number of two digits names its own seat
pub byte_seat_lem : (kind number : ℕ) → number ≤ 255 → byte_seat kind number ≡ seat_by kind number
unfolding byte_seat
byte_seat_lem kind number h = rw (le-leb number 255 h)

-- what is the same of all developers beyond those is the same of the seat that is held
held_same : {A : Type 0} (f : Seat → A) → ((n : ℕ) → 255 < n → f (At 255) ≡ f (At n)) → (kind number : ℕ) → f (byte_seat kind number) ≡ f (seat_by kind number)
unfolding byte_seat
held_same f same kind number = go (leb number 255) refl
  where
    kinds : 255 < number → (a b : Bool) → f (cond a Auctioneer (cond b Auditor (At 255))) ≡ f (cond a Auctioneer (cond b Auditor (At number)))
    kinds h true b = refl
    kinds h false true = refl
    kinds h false false = same number h

    go : (b : Bool) → leb number 255 ≡ b → f (seat_by kind (cond b number 255)) ≡ f (seat_by kind number)
    go true e = refl
    go false e = kinds (leb-false number 255 e) (eqb kind 0) (eqb kind 1)

module _ (kind number : ℕ) where
  pub held_conducts : may_conduct (byte_seat kind number) ≡ may_conduct (seat_by kind number)
  held_conducts = held_same may_conduct (λ n h. refl) kind number

  pub held_settles : may_settle (byte_seat kind number) ≡ may_settle (seat_by kind number)
  held_settles = held_same may_settle (λ n h. refl) kind number

  pub held_reads :
      (session : List ℕ) → reading_figures (byte_seat kind number) (reading (session_hall session) (byte_seat kind number)) ≡ session_reading session kind number
  unfolding session_reading
  held_reads session =
      held_same (λ s. reading_figures s (reading (session_hall session) s)) (λ n h. beyond_figures session 255 n (omega arith) (omega arith)) kind number
