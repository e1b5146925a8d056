-- A test of every place, as a chain's `all` gives it.
use Prim.Native.Nat.{ℕ, zero, suc}
use mathlib.Core.Path.{◌≡◌, refl}
use mathlib.Core.Bool.{Bool}
use mathlib.Core.List.{List, [], ◌∷◌}
use native.Mathlib.Numerals.{add-one}
use Rattle.std.specs.List.{list_all, range_with_len}
use Rattle.rules_numbers.specs.Lists.{all}
use Rattle.rules_choices.specs.insertion.Numbers.{numbers_from}

pub all_is : {A : Type 0} (t : A → Bool) (xs : List A) → all t xs ≡ list_all t xs
unfolding all
all_is t [] = refl
all_is t (x ∷ xs) = rw (all_is t xs) refl

pub places_are : (k n : ℕ) → numbers_from k n ≡ range_with_len k n
unfolding numbers_from
places_are k zero = refl
places_are k (suc n) = rw (places_are (suc k) n, add-one k) refl
