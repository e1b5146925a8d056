-- A text in a lent buffer, the number that a host is given for it, and what the program prints (document 01, Frames).
use Rattle.std.specs.Prelude.{ℕ, ◌≤◌, ◌<◌, ◌≡◌, Bool, cond, ◌&&◌, List, [], leb, length, Result, Ok, Err}
use Rattle.rules_numbers.specs.Tails.{laid}
use Rattle.rules_replies.specs.Replies.{answer_line, replies}
use Rattle.rules_seats.specs.sessions.Sessions.{session_replies}
use Rattle.engine_refusals.specs.declared.Refusal.{Refusal}
use Rattle.engine_refusals.specs.declared.Refusal.TheVariants.{BufferTooShort}
use Rattle.record_replay.specs.host_numbers.HostNumbers.{value_answer, host_number}

-- the replies to a record or, where `seated` says so, to a session
abbrev pub replies_of : Bool → List ℕ → List ℕ
replies_of seated bytes = cond seated (session_replies bytes) (replies bytes)

-- the texts t: r is their length if that is at most the limit, else above it; and they stand at the buffer's start, if they are within the limit and fit
pub record Replied (t : List ℕ) (limit : ℕ) (o out : List ℕ) (r : ℕ) : Type 0 where
  pub fits : length t ≤ limit → r ≡ length t
  pub over : limit < length t → limit < r
  pub text : length t ≤ limit → length t ≤ length o → out ≡ laid t o

-- the text over the buffer's start where it fits, else the buffer as it was
unfoldable pub over : List ℕ → List ℕ → List ℕ
over t o = cond (leb (length t) (length o)) (laid t o) o

-- such a text: its length is told, or that the buffer is too short
pub record Fitted (t o out : List ℕ) (r : Result ℕ Refusal) : Type 0 where
  pub text : out ≡ over t o
  pub size : length t ≤ length o → r ≡ Ok (length t)
  pub beyond : length o < length t → r ≡ Err BufferTooShort

-- what a host gets: how many bytes were written, or refusal 11 where the buffer is too short
unfoldable pub hosted : List ℕ → List ℕ → ℕ
hosted t o = host_number (value_answer (cond (leb (length t) (length o)) 0 11) (length t))

-- the most bytes that the program reads, and its reply buffer's
abbrev pub longest_record : ℕ
longest_record = 65536

-- what the program prints: the replies; FF0B and 0A alone if the record is longer than what it reads, or its replies than their buffer
unfoldable pub printed : List ℕ → List ℕ
printed s = cond (leb (length s) longest_record && leb (length (replies s)) longest_record) (replies s) (answer_line 255 11 [])
