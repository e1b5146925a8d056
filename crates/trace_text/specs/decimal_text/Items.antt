-- Decimal numbers with the byte behind them, and lines of a name and a number.
use Rattle.std.specs.Prelude.{ℕ, ◌-◌, ◌^◌, cond, List, [], ◌∷◌, ◌++◌, ltb}
use Rattle.trace_text.specs.decimal_text.Decimal.{decimal}

-- a number and the byte behind it: a blank, or 0A at the line's end
unfoldable pub number_item : ℕ → ℕ → List ℕ
number_item n behind = decimal n ++ (behind ∷ [])

-- the same of the signed number that 64 bits in two's complement stand for
unfoldable pub signed : ℕ → ℕ → List ℕ
signed bits behind = cond (ltb bits (2 ^ 63)) (number_item bits behind) (45 ∷ number_item (2 ^ 64 - bits) behind)

-- a name and a number
unfoldable pub item : List ℕ → ℕ → List ℕ
item name n = name ++ number_item n 10

unfoldable pub signed_item : List ℕ → ℕ → List ℕ
signed_item name bits = name ++ signed bits 10
