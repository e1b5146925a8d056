-- Lists of what is each someone's: that they hold the same of each in the same order, and the exchanging of neighbours.
use Rattle.std.specs.Prelude.{◌≡◌, Bool, true, false, List, ◌∷◌, length}
use Rattle.rules_numbers.specs.Lists.{keep}

-- what is n's, picked out of the one list, is what is n's in the other, in the same order, for each n; `its n x` tells whether x is n's
abbrev pub SameOfEach : {N A : Type 0} → (N → A → Bool) → List A → List A → Type 0
SameOfEach {N} its xs ys = (n : N) → keep (its n) xs ≡ keep (its n) ys

-- one list becomes the other by exchanging neighbours, one pair after the other, the first someone's and the second not the same one's
pub data Exchanged {N A : Type 0} (its : N → A → Bool) : List A → List A → Type 0 where
  unchanged : {xs : List A} → Exchanged its xs xs
  neighbours :
      {x y : A} {zs : List A} (n k : N) → its n x ≡ true → its k y ≡ true → its n y ≡ false →
      Exchanged its (x ∷ y ∷ zs) (y ∷ x ∷ zs)
  behind : {xs ys : List A} (x : A) → Exchanged its xs ys → Exchanged its (x ∷ xs) (x ∷ ys)
  further : {xs ys zs : List A} → Exchanged its xs ys → Exchanged its ys zs → Exchanged its xs zs
