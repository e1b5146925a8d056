-- A call through a seat, by the test of its right: barred, or the auction's own.
use mathlib.Core.Path.{◌≡◌, refl, ap}
use mathlib.Core.Bool.{Bool, true, false, not}
use Rattle.rules_auction.specs.Ledger.{Call}
use Rattle.rules_auction.specs.Rounds.{Answered, bare_answer}
use Rattle.rules_seats.specs.Seats.{Seat, may_make, latest_excess}
use Rattle.seats.specs.RightLaws.{no_right, has_right_lem}
use Rattle.engine_auction.specs.Called.{Called}
use Rattle.hall.specs.Through.{CalledThrough}
use Rattle.hall.specs.declared.Hall.{Hall}

module _ (s : Seat) (c : Call) (h : Hall) (b : Bool) (e : b ≡ may_make s c) where
  pub barred_call : b ≡ false → CalledThrough s c h h (bare_answer 20)
  barred_call t = record { barred = λ _. (refl, refl); made = no_right b e (ap not t); excess = no_right b e (ap not t) }

  pub made_call :
      (k : Hall) (r : Answered) → b ≡ true → Called c h.auction k.auction r → k.excess ≡ latest_excess c r h.excess →
      CalledThrough s c h k r
  made_call k r t called latest = record { barred = has_right_lem b e (ap not t); made = λ _. called; excess = λ _. latest }
