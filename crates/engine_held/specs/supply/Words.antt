-- An array of unsigned words: how many they are, and that each is below the bound of its width.
use Rattle.std.specs.Prelude.{ℕ, zero, suc, ◌<◌, ◌^◌, ◌≡◌, List, [], ◌∷◌, length, get_or}
use Rattle.std.specs.Int.{Width}
use mir.Val.{Val, bits}
use denote.Array.{Array, each}
use denote.Laws.{Is}
use denote.Plain.{UInt}
use denote.Shadow.{shadow}

module _ (w : Width) where
  each_below : (xs : List ℕ) (us : List Val) → shadow (each ℕ (UInt w).own_val xs us) → 0 < 2 ^ bits w → (i : ℕ) → get_or xs i 0 < 2 ^ bits w
  each_below [] us h z i = z
  each_below (x ∷ xs) [] h z i = absurd h
  each_below (x ∷ xs) (u ∷ us) h z zero = h.0.1
  each_below (x ∷ xs) (u ∷ us) h z (suc i) = each_below xs us h.1 z i

  module _ (n : ℕ) (xs : List ℕ) (vs : List Val) (h : Is (Array (UInt w) n) xs vs) where
    pub words_length : length xs ≡ n
    words_length = h.1.0.1

    pub words_below : 0 < 2 ^ bits w → (i : ℕ) → get_or xs i 0 < 2 ^ bits w
    words_below = each_below xs h.0 h.1.1
