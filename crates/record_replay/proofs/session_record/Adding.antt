-- The lines of a session one by one: what the record has of those passed, and of those left.
use Prim.Native.Nat.{ℕ, ◌+◌, ◌-◌, ◌≤◌, ◌<◌}
use mathlib.Core.Path.{◌≡◌, refl, sym, ap, ◌∙◌, subst}
use mathlib.Core.Bool.{true, false}
use mathlib.Core.List.{List, [], ◌++◌, flatten}
use native.Mathlib.Omega.{arith}
use borrow.Author.Tests.{le-leb, lt-leb}
use borrow.Rule.Slice.PartMut.{put_mid, mid_of}
use lib.Dec.{leb}
use lib.ListN.{length, take, drop, length-append, length-drop}
use lib.Seq.{length-take-le}
use Rattle.rules_numbers.specs.Lists.{part}
use Rattle.rules_numbers.specs.Tails.{laid, length_laid, tail_is, Filled, filled_more, filled_all}
use Rattle.rules_format.specs.Lines.{lines, line_start, line_end}
use Rattle.rules_format.specs.LineLaws.{line_inside, next_line, no_line}
use Rattle.rules_seats.specs.sessions.Sessions.{session_record}
use Rattle.record_replay.specs.host_numbers.HostNumbers.{value_answer, host_number}
use Rattle.record_replay.specs.Replayed.{hosted, over}
use Rattle.record_replay.specs.session_record.KeptFrames.{kept_text}
use Rattle.record_replay.specs.session_record.KeptFrameLaws.{kept_in, record_is}

-- what it has of the lines from a place on
abbrev left : List ℕ → ℕ → List ℕ
left s at = kept_in (lines (drop at s))

left_none : (s : List ℕ) (at : ℕ) → length s ≤ at → left s at ≡ []
unfolding flatten
left_none s at h = ap kept_in (no_line s at h)

module _ (s l : List ℕ) (at : ℕ) (h : at < length s) (e : l ≡ part s (line_start s at) (line_end s at)) where
  -- that of the next line, then that of those behind its 0A
  left_first : left s at ≡ kept_text l ++ left s (at + length l + 1)
  unfolding flatten
  left_first = rw e (ap kept_in (next_line s at h))

  pub line_within : at + length l ≤ length s
  line_within = rw e (line_inside s at h)

-- ---- sizes added, as long as they are within the room

pub record Sized (s : List ℕ) (room at used : ℕ) : Type 0 where
  pub within : used ≤ room
  pub all : used + length (left s at) ≡ length (session_record s)

pub sized_first : (s : List ℕ) (room : ℕ) → Sized s room 0 0
sized_first s room = record { within = omega arith; all = omega (arith, ap length (record_is s)) }

module _ (s : List ℕ) (room at used : ℕ) (z : Sized s room at used) where
  pub sized_end : length s ≤ at → true ≡ leb (length (session_record s)) room
  sized_end h = sym (le-leb _ room (omega (arith, z.within, z.all, ap length (left_none s at h))))

  module _ (l : List ℕ) (n : ℕ) (h : at < length s) (e : l ≡ part s (line_start s at) (line_end s at)) (f : n ≡ length (kept_text l)) where
    adds : length (left s at) ≡ n + length (left s (at + length l + 1))
    adds = omega (arith, ap length (left_first s l at h e), length-append (kept_text l) (left s (at + length l + 1)))

    pub sized_over : room - used < n → false ≡ leb (length (session_record s)) room
    sized_over g = sym (lt-leb _ room (omega (arith, z.within, z.all, adds)))

    pub sized_again : n ≤ room - used → Sized s room (at + length l + 1) (used + n)
    sized_again g = record { within = omega (arith, z.within); all = omega (arith, z.all, adds) }

-- ---- texts written one behind the other, into a buffer that the record fits

abbrev pub Written : List ℕ → List ℕ → List ℕ → ℕ → ℕ → Type 0
Written s o xs at used = Filled (session_record s) o xs (left s at) used

pub written_first : (s o : List ℕ) → Written s o o 0 0
unfolding laid
written_first s o = record { inside = omega arith; left = record_is s; holds = refl }

module _ (s o : List ℕ) (room : length (session_record s) ≤ length o) (xs : List ℕ) (at used : ℕ) (w : Written s o xs at used) where
  pub written_long : length xs ≡ length o
  written_long =
      ap length w.holds
      ∙ length_laid (take used (session_record s)) o (omega (arith, length-take-le used (session_record s) w.inside, w.inside))

  pub written_end : length s ≤ at → (used ≡ length (session_record s)) × (xs ≡ laid (session_record s) o)
  written_end h = filled_all _ _ _ _ _ w (left_none s at h)

  module _ (l : List ℕ) (h : at < length s) (e : l ≡ part s (line_start s at) (line_end s at)) where
    more : Filled (session_record s) o xs (kept_text l ++ left s (at + length l + 1)) used
    more = subst (λ (rest : List ℕ). Filled (session_record s) o xs rest used) (left_first s l at h e) w

    size : used + length (kept_text l) ≤ length (session_record s)
    size =
        omega (
          arith,
          ap length more.left,
          length-append (kept_text l) (left s (at + length l + 1)),
          length-drop used (session_record s),
          w.inside,
        )

    pub line_room : length (kept_text l) ≤ length (mid_of used (length xs - used) xs)
    line_room = rw tail_is (omega (arith, size, written_long, length-drop used xs))

    pub line_used : used + length (kept_text l) ≤ length o
    line_used = omega (arith, size)

    pub written_again :
        (ys : List ℕ) (n : ℕ) → (n ≡ length (kept_text l)) × (ys ≡ laid (kept_text l) (mid_of used (length xs - used) xs)) →
        Written s o (put_mid used (length xs - used) xs ys) (at + length l + 1) (used + n)
    written_again ys n p = rw p.0 (filled_more _ _ _ _ _ (kept_text l) ys more p.1)

-- ---- what a host gets, by whether the record fits

module _ (t o : List ℕ) where
  pub host_short : leb (length t) (length o) ≡ false → (host_number (value_answer 11 0) ≡ hosted t o) × (o ≡ over t o)
  unfolding hosted host_number over
  host_short e = (rw e, rw e)

  pub host_written : leb (length t) (length o) ≡ true → {n : ℕ} {new : List ℕ} → (n ≡ length t) × (new ≡ laid t o) → (n ≡ hosted t o) × (new ≡ over t o)
  unfolding hosted host_number over
  host_written e w = (rw e w.0, rw e w.1)
