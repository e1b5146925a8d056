-- What a writing function answers and leaves in the buffer that it was lent, as one record (document 02, 2).
use Rattle.std.specs.Prelude.{ℕ, ◌≡◌, Bool, List, length, Result, Ok, Err}
use Rattle.rules_format.specs.Fields.{RawCall}
use Rattle.rules_format.specs.Written.{frame_of, writable, writing_refusal, written, lent_frame}
use Rattle.engine_refusals.specs.Numbers.{number_of}
use Rattle.engine_refusals.specs.declared.Refusal.{Refusal}

-- what writing answers, in numbers: 0 and how many bytes were written, or a refusal's number and 0
pub record Written : Type 0 where
  pub number : ℕ
  pub bytes : ℕ

abbrev pub written_in : Result ℕ Refusal → Written
written_in (Ok n) = record { number = 0; bytes = n }
written_in (Err e) = record { number = number_of e; bytes = 0 }

-- of a frame: whether it may be written, the buffer before and afterwards, and the answer
pub record WritesFrame (ok : Bool) (frame old new : List ℕ) (r : Written) : Type 0 where
  pub number : r.number ≡ writing_refusal ok frame (length old)
  pub bytes : r.bytes ≡ written ok frame (length old)
  pub buffer : new ≡ lent_frame ok frame old

-- of a call
abbrev pub Encodes : RawCall → List ℕ → List ℕ → Written → Type 0
Encodes c old new r = WritesFrame (writable c) (frame_of c) old new r
