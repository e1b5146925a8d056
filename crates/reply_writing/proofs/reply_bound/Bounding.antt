-- The bounds of the replies, added line by line.
use Prim.Native.Nat.{ℕ, ◌+◌, ◌-◌, ◌≤◌, ◌<◌}
use mathlib.Core.Path.{◌≡◌, sym, ap}
use mathlib.Core.Bool.{true, false}
use mathlib.Core.List.{List, map}
use native.Mathlib.Omega.{arith}
use borrow.Author.Tests.{le-leb, lt-leb}
use lib.Dec.{leb}
use lib.ListN.{length, drop, get_or, get_or-eq_default}
use Rattle.rules_numbers.specs.Lists.{part, total}
use Rattle.rules_format.specs.Hex.{value_of}
use Rattle.rules_format.specs.Lines.{line_start, line_end}
use Rattle.rules_format.specs.LineLaws.{line_inside, next_line, no_line}
use Rattle.rules_replies.specs.Lengths.{most_of}
use Rattle.reply_writing.specs.reply_bound.Bounds.{most_by, most_by_all}

-- a line too short to have the digit

pub most_short : (place : ℕ) (l : List ℕ) → length l ≤ place → most_of 0 ≡ most_by place l
unfolding most_by value_of
most_short place l h = let e : get_or l place 0 ≡ 0 = get_or-eq_default l 0 {n = place} (omega arith) in rw e

-- ---- all lines: what was added and what is left are all

pub record Bounded (place : ℕ) (s : List ℕ) (limit at used : ℕ) : Type 0 where
  pub within : used ≤ limit
  pub all : used + most_by_all place (drop at s) ≡ most_by_all place s

pub bounded_first : (place : ℕ) (s : List ℕ) (limit : ℕ) → Bounded place s limit 0 0
bounded_first place s limit = record { within = omega arith; all = omega arith }

pub bounded_end : (place : ℕ) (s : List ℕ) (limit at used : ℕ) → Bounded place s limit at used → length s ≤ at → true ≡ leb (most_by_all place s) limit
unfolding most_by_all total
bounded_end place s limit at used z h = sym (le-leb (most_by_all place s) limit (omega (arith, z.within, z.all, ap (λ ls. total (map (most_by place) ls)) (no_line s at h))))

module _ (place : ℕ) (s l : List ℕ) (limit at used n : ℕ) (z : Bounded place s limit at used) (h : at < length s) (el : l ≡ part s (line_start s at) (line_end s at))
    (e : n ≡ most_by place l) where
  -- the line's bound, then those of the lines behind its 0A
  adds : most_by_all place (drop at s) ≡ n + most_by_all place (drop (at + length l + 1) s)
  unfolding most_by_all total
  adds = rw (e, el) (ap (λ ls. total (map (most_by place) ls)) (next_line s at h))

  pub bounded_inside : at + length l ≤ length s
  bounded_inside = rw el (line_inside s at h)

  pub bounded_over : limit - used < n → false ≡ leb (most_by_all place s) limit
  bounded_over g = sym (lt-leb (most_by_all place s) limit (omega (arith, z.within, z.all, adds)))

  pub bounded_again : n ≤ limit - used → Bounded place s limit (at + length l + 1) (used + n)
  bounded_again g = record { within = omega (arith, z.within); all = omega (arith, z.all, adds) }
