-- What a C host gets of a writing: the bytes written, or 2^64 less the refusal's number (document 02, 2).
use Rattle.std.specs.Prelude.{ℕ, ◌-◌, ◌^◌, ◌≡◌, refl, Bool, true, false, cond, List, Result, Ok, Err, eqb, length}
use Rattle.std.specs.Result.{result_and}
use Rattle.std.proofs.Common.{ap, ap₂, ◌∙◌, ne_eqb}
use Rattle.rules_demand.specs.Answer.{Answer}
use Rattle.rules_format.specs.Hex.{digits}
use Rattle.rules_format.specs.Written.{writing_refusal, written, lent_frame}
use Rattle.rules_format.specs.SessionLines.{seat_text, writable_seat}
use Rattle.rules_replies.specs.Orders.{Order}
use Rattle.rules_replies.specs.WrittenOrders.{writable_order, frame_of_order}
use Rattle.engine_refusals.specs.Numbers.{number_of, number_in}
use Rattle.engine_refusals.specs.NumberLaws.{number_not_0}
use Rattle.engine_refusals.specs.declared.Refusal.{Refusal}
use Rattle.frame_writing.specs.Encodes.{Written}
use Rattle.frame_writing.specs.each_call.Writes.{Writes}
use Rattle.record_replay.specs.host_numbers.HostNumbers.{value_answer, answered, host_number}

-- the number for an order and a buffer
unfoldable pub host_bytes : Order → List ℕ → ℕ
host_bytes o old =
    let n = length old in
    host_number (value_answer (writing_refusal (writable_order o) (frame_of_order o) n) (written (writable_order o) (frame_of_order o) n))

-- and what the buffer then holds
pub record HostWrites (o : Order) (old new : List ℕ) (r : ℕ) : Type 0 where
  pub bytes : r ≡ host_bytes o old
  pub buffer : new ≡ lent_frame (writable_order o) (frame_of_order o) old

-- the same of a seat, in its four digits
pub record HostWritesSeat (kind number : ℕ) (old new : List ℕ) (r : ℕ) : Type 0 where
  pub bytes :
      r ≡ host_number (value_answer (writing_refusal (writable_seat kind number) (seat_text kind number) (length old))
      (written (writable_seat kind number) (seat_text kind number) (length old)))
  pub buffer : new ≡ lent_frame (writable_seat kind number) (seat_text kind number) old

-- ---- from the answer of the library

abbrev pub answer : Written → Answer
answer w = value_answer w.number w.bytes

pub host_writes : (o : Order) (old new : List ℕ) (w : Written) (r : ℕ) → Writes o old new w → r ≡ host_number (answer w) → HostWrites o old new r
unfolding host_bytes
host_writes o old new w r l e = record { bytes = e ∙ ap₂ (λ (n : ℕ) (v : ℕ). host_number (value_answer n v)) l.number l.bytes; buffer = l.buffer }

-- a seat's digits are four
pub host_writes_seat : (kind number : ℕ) (old new : List ℕ) (n r : ℕ) → n ≡ writing_refusal (writable_seat kind number) (seat_text kind number) (length old) →
    new ≡ lent_frame (writable_seat kind number) (seat_text kind number) old → r ≡ host_number (value_answer n 4) → HostWritesSeat kind number old new r
unfolding host_number written seat_text digits
host_writes_seat kind number old new n r e f er = record { bytes = er ∙ four (eqb n 0) ∙ rw e; buffer = f }
  where
    four : (b : Bool) → cond b 4 (2 ^ 64 - n) ≡ cond b (cond b 4 0) (2 ^ 64 - n)
    four true = refl
    four false = refl

pub seat_answer : (w : Result (Unit {0}) Refusal) (bytes : Result ℕ Refusal) → bytes ≡ result_and w (Ok 4) →
    host_number (answered bytes) ≡ host_number (value_answer (number_in w) 4)
unfolding host_number
seat_answer w bytes e = ap (λ (r : Result ℕ Refusal). host_number (answered r)) e ∙ told w
  where
    told : (v : Result (Unit {0}) Refusal) → host_number (answered (result_and v (Ok 4))) ≡ host_number (value_answer (number_in v) 4)
    told (Ok x) = refl
    told (Err refusal) = rw (ne_eqb (number_of refusal) 0 (number_not_0 refusal))
