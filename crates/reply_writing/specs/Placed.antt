-- A text put at a place of a buffer.
use Rattle.std.specs.Prelude.{ℕ, ◌+◌, ◌≤◌, ◌<◌, ◌≡◌, List, ◌++◌, length}
use Rattle.rules_numbers.specs.Tails.{laid}

-- above every limit
abbrev pub most : ℕ
most = 18446744073709551615

-- t put at `at` of o: r is the place behind it if that is within the limit, else above the limit; and t stands there behind the s before it, if it is within
-- the limit and fits
pub record Puts (t : List ℕ) (limit at : ℕ) (o out : List ℕ) (r : ℕ) : Type 0 where
  pub fits : at + length t ≤ limit → r ≡ at + length t
  pub over : limit < at + length t → limit < r
  pub text : at + length t ≤ limit → at + length t ≤ length o → (s old : List ℕ) → o ≡ laid s old → at ≡ length s → out ≡ laid (s ++ t) old
  pub same : length out ≡ length o
