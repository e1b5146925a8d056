-- Names and decimal numbers as bytes.
use Rattle.std.specs.Prelude.{ℕ, zero, suc, ◌+◌, ◌/◌, ◌%◌, cond, List, [], ◌∷◌, ◌++◌, ltb}
use Prim.Native.Char.{code}
use Prim.Native.String.{String, [] as []ₛ, ◌∷◌ as ◌∷ₛ◌}

-- a text's bytes
abbrev pub bytes_of : String → List ℕ
bytes_of []ₛ = []
bytes_of (c ∷ₛ s) = code c ∷ bytes_of s

-- the decimal digits of n, high first, if there are at most k
unfoldable pub decimal_in : ℕ → ℕ → List ℕ
decimal_in zero n = []
decimal_in (suc k) n = cond (ltb n 10) ((48 + n) ∷ []) (decimal_in k (n / 10) ++ ((48 + n % 10) ∷ []))

-- n has at most n digits, and 0 has one
unfoldable pub decimal : ℕ → List ℕ
decimal n = decimal_in (suc n) n
