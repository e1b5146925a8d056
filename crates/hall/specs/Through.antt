-- What the calls that change the hall ensure. `h` is the hall before, `k` the hall after, `r` the answer, `s` the seat.
use Rattle.std.specs.Prelude.{◌≡◌, true, false, Result, Ok, Err}
use Rattle.rules_auction.specs.Ledger.{Call, Close}
use Rattle.rules_auction.specs.Rounds.{Answered, bare_answer}
use Rattle.rules_seats.specs.Seats.{Seat, may_make, latest_excess, HallLedger}
use Rattle.engine_auction.specs.Holds.{held_auction}
use Rattle.engine_refusals.specs.Numbers.{number_of, after}
use Rattle.engine_refusals.specs.declared.Refusal.{Refusal}
use Rattle.engine_auction.specs.Called.{Called, answer_in}
use Rattle.engine_auction.specs.declared.Auction.{Auction}
use Rattle.hall.specs.declared.Hall.{Hall}
use Rattle.hall.specs.declared.HallClosing.{HallClosing}

-- the one hall that holds a hall's ledger
abbrev pub held_hall : HallLedger → Hall
held_hall x = record { auction = held_auction x.ledger; excess = x.excess }

-- Without the right: refused by 20, and the hall stays. With it, the call is the auction's own, and the excess is that of the latest closing
pub record CalledThrough (s : Seat) (c : Call) (h k : Hall) (r : Answered) : Type 0 where
  pub barred : may_make s c ≡ false → (k ≡ h) × (r ≡ bare_answer 20)
  pub made : may_make s c ≡ true → Called c h.auction k.auction r
  pub excess : may_make s c ≡ true → k.excess ≡ latest_excess c r h.excess

-- the numbers and values of a closing
abbrev pub hall_closing_in : Result HallClosing Refusal → Answered
hall_closing_in (Ok x) = record { number = 0; excess = x.excess; remainder = x.remainder }
hall_closing_in (Err e) = bare_answer (number_of e)

-- the hall after a closing: the one before where it is refused
abbrev pub after_hall_closing : Hall → Result HallClosing Refusal → Hall
after_hall_closing h (Ok x) = x.hall
after_hall_closing h (Err e) = h

abbrev pub AnswersThrough : Seat → Call → Hall → Result Hall Refusal → Type 0
AnswersThrough s c h r = CalledThrough s c h (after h r) (answer_in r)

abbrev pub ClosesThrough : Seat → Hall → Result HallClosing Refusal → Type 0
ClosesThrough s h r = CalledThrough s Close h (after_hall_closing h r) (hall_closing_in r)

-- the hall with the next auction; the excess stays
abbrev pub with_auction : Hall → Auction → Hall
with_auction h a = record { auction = a; excess = h.excess }
