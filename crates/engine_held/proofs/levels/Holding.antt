-- std's words for what is among the levels held, and for the last of them.
use Rattle.std.proofs.Common.{ℕ, ◌-◌, ◌≡◌, List, [], ◌∷◌, refl, sym, ◌∙◌, eqb, length, arith}
use Rattle.std.specs.Prelude.{unwrap_or}
use Rattle.std.specs.List.{list_any, slice_get}
use Rattle.std.proofs.lemmas.Option.{unwrap_or-slice_get}
use Rattle.std.proofs.lemmas.Bool.Decides.{nat_tests}
use Rattle.rules_numbers.specs.Lists.{any, member, last_or}
use Rattle.rules_numbers.specs.ListLaws.{last_at}

either_way : (x y : ℕ) → eqb x y ≡ eqb y x
either_way x y = grind (arith, nat_tests)

pub listed : (v : ℕ) (xs : List ℕ) → list_any (λ x. eqb x v) xs ≡ member v xs
unfolding any
listed v [] = refl
listed v (x ∷ xs) = rw (either_way x v, listed v xs)

pub last_listed : (xs : List ℕ) → unwrap_or (slice_get xs (length xs - 1)) 0 ≡ last_or 0 xs
unfolding last_or
last_listed [] = refl
last_listed (x ∷ xs) =
    let n : length (x ∷ xs) - 1 ≡ length xs = omega arith in
    rw n (unwrap_or-slice_get (x ∷ xs) (length xs) 0 ∙ sym (last_at 0 (x ∷ xs) (length xs) refl))
