-- The numbers 1 to n: how many, which, and the one at each place.
use Rattle.std.specs.Prelude.{ℕ, zero, suc, ◌≤◌, ◌<◌, ◌≡◌, refl, ◌↔◌, length, get_or}
use Rattle.std.proofs.Common.{sym, ap, ◌∙◌, ⊎_elim, arith, length-append}
use mathlib.Core.List.Memᴰ
use mathlib.Core.List.{List, [], ◌∷◌, map, Memᴰ}
use Rattle.std.proofs.Math.ListN.{get_or-append}
use Rattle.std.proofs.lemmas.List.{get_or_at}
use Rattle.rules_numbers.specs.Cases.{le_or_lt}
use Rattle.rules_numbers.specs.Lists.{one_to}

pub length_one_to : (n : ℕ) → length (one_to n) ≡ n
unfolding one_to
length_one_to zero = refl
length_one_to (suc n) = omega (arith, length-append (one_to n) (suc n ∷ []), length_one_to n)

pub in_one_to : (n m : ℕ) → Memᴰ n (one_to m) ↔ ((1 ≤ n) × (n ≤ m))
unfolding one_to
in_one_to n m = (out m, (λ r. into m r.0 r.1))
  where
    out : (m : ℕ) → Memᴰ n (one_to m) → (1 ≤ n) × (n ≤ m)
    out zero k = absurd (Memᴰ.not-nil k)
    out (suc m) k =
        ⊎_elim (λ j. let r = out m j in (omega arith, omega arith)) (λ j. let e : n ≡ suc m = Memᴰ.eq_of_singleton j in (omega arith, omega arith))
        (Memᴰ.append_cases (one_to m) k)

    into : (m : ℕ) → 1 ≤ n → n ≤ m → Memᴰ n (one_to m)
    into zero l h = absurd (omega arith)
    into (suc m) l h = ⊎_elim (λ g. Memᴰ.append_left (suc m ∷ []) (into m l g)) (λ g. Memᴰ.append_right (one_to m) (Memᴰ.head (omega arith))) (le_or_lt n m)

pub one_to_nth : (n i : ℕ) → i < n → get_or (one_to n) i 0 ≡ suc i
unfolding one_to
one_to_nth zero i h = absurd (omega arith)
one_to_nth (suc n) i h = ⊎_elim
    (λ g. get_or-append (one_to n) (suc n ∷ []) 0 i (omega (arith, length_one_to n)) ∙ one_to_nth n i g)
    (λ g. let e : i ≡ n = omega arith in get_or_at (one_to n) (suc n) [] 0 i (length_one_to n ∙ sym e) ∙ ap suc (sym e))
    (le_or_lt (suc i) n)

map_nth : {A B : Type 0} (f : A → B) (xs : List A) (i : ℕ) (a : A) (b : B) → i < length xs → get_or (map f xs) i b ≡ f (get_or xs i a)
map_nth f [] i a b h = absurd (omega arith)
map_nth f (x ∷ xs) zero a b h = refl
map_nth f (x ∷ xs) (suc i) a b h = map_nth f xs i a b (omega arith)

-- of a list that f makes of the numbers 1 to n, the one at place i is of the number i + 1
pub numbered_nth : {A : Type 0} (f : ℕ → A) (n : ℕ) (xs : List A) (i : ℕ) (d : A) → xs ≡ map f (one_to n) → i < n → get_or xs i d ≡ f (suc i)
numbered_nth {A} f n xs i d e h = ap (λ (ys : List A). get_or ys i d) e ∙ map_nth f (one_to n) i 0 d (omega (arith, length_one_to n)) ∙ ap f (one_to_nth n i h)
