-- What no call touches (demand 1), on every value of the auction's struct, reachable or not: a refused call gives its number with 0 in every
-- other place and leaves the auction as it was, a refused settling leaves the lent buffer as it was, and an accepted one leaves the buffer's
-- length and the bytes behind its records. Settling takes the auction by value and returns none. So too through the seats of a hall
-- (document 02, 14), by whichever number a call is refused.
use Rattle.std.specs.Prelude.{ℕ, ◌*◌, ◌≡◌, refl, Bool, true, false, List, length, drop, Result}
use Rattle.std.proofs.Common.{sym, ap, ◌∙◌}
use contract.Lifetimes.{Lfts}
use denote.Triple.Clauses.{AtExit}
use borrow.Fn.World.{ArgsD}
use borrow.Fn.Kinds.{ended_of}
use Rattle.rules_auction.specs.Ledger.{Call}
use Rattle.rules_auction.specs.Rounds.{Answered, bare_answer}
use Rattle.engine_auction.specs.declared.Auction.{Auction}
use Rattle.engine_auction.specs.CalledLaws.{refused_stays, refused_by_number}
use Rattle.engine_refusals.specs.declared.Refusal.{Refusal}
use Rattle.engine_settling.specs.Settles.{Settled, settled_in, refused_with}
use Rattle.engine_settling.specs.declared.Settlement.{Settlement}
use Rattle.engine_settling.specs.contracts.settle.{signature}
use Rattle.engine_settling.proofs.settle.Kinds as kinds
use Rattle.engine_settling.proofs.settle.Reads as settle
use Rattle.rules_seats.specs.Seats as seats
use Rattle.rules_seats.specs.Seats.{may_make, may_settle}
use Rattle.rules_seats.specs.SeatLaws.{refused_excess}
use Rattle.seats.specs.declared.Seat.{Seat}
use Rattle.hall.specs.Through.{CalledThrough}
use Rattle.hall.specs.declared.Hall.{Hall}
use Rattle.hall.specs.hall_readings.Looks.{SettlesThrough}
use Rattle.hall.specs.contracts.hall_readings.settle.{signature as hall_signature}
use Rattle.hall.proofs.hall_readings.settle.Kinds as hall_kinds
use Rattle.hall.proofs.hall_readings.settle.Reads as hall_settle
use Rattle.statement.specs.EveryList.{Made, by_contract}
use Rattle.statement.specs.HallRuns.{MadeThrough, by_hall_contract}

-- the arguments x: the auction, the limit, the buffer; y: the same at the call's end
pub record Untouched : Type 1 where
  pub calls : {c : Call} {a b : Auction} {r : Answered} → Made c a r b → (r.number ≡ 0 → ⊥) → (b ≡ a) × (r ≡ bare_answer r.number)
  pub refused_settling :
      (κs : Lfts 1) (x : ArgsD signature κs) (r : Result Settlement Refusal) (y : AtExit (ended_of 1 kinds.ps kinds.r) κs) → settle.Post κs x r y →
      let s = settled_in r in (s.number ≡ 0 → ⊥) → (s ≡ refused_with s.number) × (y.1.1.0.now ≡ x.1.1.0.now)
  pub behind_records :
      (κs : Lfts 1) (x : ArgsD signature κs) (r : Result Settlement Refusal) (y : AtExit (ended_of 1 kinds.ps kinds.r) κs) → settle.Post κs x r y →
      let n = (settled_in r).records in (length y.1.1.0.now ≡ length x.1.1.0.now) × (drop (6 * n) y.1.1.0.now ≡ drop (6 * n) x.1.1.0.now)
  pub hall_calls : {s : Seat} {c : Call} {h k : Hall} {r : Answered} → MadeThrough s c h r k → (r.number ≡ 0 → ⊥) → (k ≡ h) × (r ≡ bare_answer r.number)
  pub refused_hall_settling :
      (κs : Lfts 1) (x : ArgsD hall_signature κs) (r : Result Settlement Refusal) (y : AtExit (ended_of 1 hall_kinds.ps hall_kinds.r) κs) →
      hall_settle.Post κs x r y →
      let s = settled_in r in (s.number ≡ 0 → ⊥) → (s ≡ refused_with s.number) × (y.1.1.1.0.now ≡ x.1.1.1.0.now)

module _ (s : seats.Seat) (c : Call) (h k : Hall) (r : Answered) (w : CalledThrough s c h k r) (z : r.number ≡ 0 → ⊥) where
  pub hall_stays : (k ≡ h) × (r ≡ bare_answer r.number)
  hall_stays = go (may_make s c) refl
    where
      go : (b : Bool) → may_make s c ≡ b → (k ≡ h) × (r ≡ bare_answer r.number)
      go true e =
          let q = refused_stays (w.made e) z in
          let o : k.excess ≡ h.excess = w.excess e ∙ refused_excess c r h.excess z in
          ((λ i. record { auction = q i; excess = o i }), refused_by_number (w.made e) z)
      go false e = let q = w.barred e in (q.0, q.1 ∙ ap (λ (y : Answered). bare_answer y.number) (sym q.1))

module _ (s : seats.Seat) (h : Hall) (limit : ℕ) (old new : List ℕ) (r : Settled) (w : SettlesThrough s h limit old new r) (z : r.number ≡ 0 → ⊥) where
  hall_buffer_stays : (r ≡ refused_with r.number) × (new ≡ old)
  hall_buffer_stays = go (may_settle s) refl
    where
      go : (b : Bool) → may_settle s ≡ b → (r ≡ refused_with r.number) × (new ≡ old)
      go true e = (w.made e).same z
      go false e = let q = w.barred e in (q.0 ∙ ap (λ (y : Settled). refused_with y.number) (sym q.0), q.1)

pub untouched : Untouched
untouched = record {
  calls = λ m z. (refused_stays (by_contract m) z, refused_by_number (by_contract m) z);
  refused_settling = λ κs x r y s. s.same;
  behind_records = λ κs x r y s. s.behind;
  hall_calls = λ m z. hall_stays _ _ _ _ _ (by_hall_contract m) z;
  refused_hall_settling = λ κs x r y s z. hall_buffer_stays _ _ _ _ _ (settled_in r) s z;
}
