-- A text written into a buffer at a place, and texts written one behind the other.
use Rattle.std.specs.Prelude.{ℕ, ◌+◌, ◌≤◌, ◌≡◌, List, ◌++◌, length, take, drop}

-- a text of at most so many bytes, written at the place a of the buffer `old`: the bytes before and behind it stay, and b is the place behind it
pub record Puts (text : List ℕ) (most : ℕ) (old new : List ℕ) (a b : ℕ) : Type 0 where
  pub holds : new ≡ take a old ++ text ++ drop b old
  pub next : b ≡ a + length text
  pub short : length text ≤ most
  pub inside : b ≤ length old
