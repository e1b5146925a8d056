-- Hexadecimal digits, 0-9 and A-F, high first (document 01, Frames): numbers as bytes, and bytes as numbers.
use Rattle.std.specs.Prelude.{ℕ, zero, suc, ◌+◌, ◌-◌, ◌*◌, ◌/◌, ◌%◌, ◌^◌, Bool, cond, ◌&&◌, ◌||◌, List, [], ◌∷◌, leb, ltb}
use Rattle.rules_numbers.specs.Lists.{all}

-- 0-9 and A-F: small letters are no digits
unfoldable pub is_hex : ℕ → Bool
is_hex c = (leb 48 c && leb c 57) || (leb 65 c && leb c 70)

abbrev pub all_hex : List ℕ → Bool
all_hex cs = all is_hex cs

-- the value of a digit; some number below 16 of any other byte
unfoldable pub value_of : ℕ → ℕ
value_of c = cond (leb c 57) (c - 48) ((c - 55) % 16)

-- the digit of a value below 16
unfoldable pub char_of : ℕ → ℕ
char_of d = cond (ltb d 10) (48 + d) (55 + d)

-- the last w digits of n
unfoldable pub digits : ℕ → ℕ → List ℕ
digits zero n = []
digits (suc k) n = char_of (n / 16 ^ k % 16) ∷ digits k n

-- the number that bytes stand for, read on behind the number `before`
unfoldable pub number_from : ℕ → List ℕ → ℕ
number_from before [] = before
number_from before (c ∷ cs) = number_from (before * 16 + value_of c) cs

abbrev pub hex_number : List ℕ → ℕ
hex_number cs = number_from 0 cs
