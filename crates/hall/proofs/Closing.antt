-- A closing through a seat: the hall keeps its excess where it is refused.
use mathlib.Core.Path.{◌≡◌, sym, ap}
use mathlib.Core.Bool.{Bool, true, cond}
use Prim.Native.Nat.{ℕ}
use borrow.Author.Tests.{ne_eqb}
use Rattle.rules_auction.specs.Ledger.{Close}
use Rattle.rules_auction.specs.Rounds.{bare_answer}
use Rattle.rules_seats.specs.Seats.{Seat, may_make, latest_excess}
use Rattle.engine_auction.specs.Called.{Called}
use Rattle.hall.specs.Through.{CalledThrough}
use Rattle.hall.specs.declared.Hall.{Hall}
use Rattle.hall.proofs.Calls.{made_call}

-- refused by the auction: the excess stays
pub refused_closing :
    (s : Seat) (h : Hall) (b : Bool) (n : ℕ) → b ≡ may_make s Close → b ≡ true → (n ≡ 0 → ⊥) → Called Close h.auction h.auction (bare_answer n) →
    CalledThrough s Close h h (bare_answer n)
unfolding latest_excess
refused_closing s h b n right t z called =
    made_call s Close h b right h (bare_answer n) t called (sym (ap (λ (x : Bool). cond x (bare_answer n).excess h.excess) (ne_eqb n 0 z)))
