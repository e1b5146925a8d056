-- Choices of one level from each row of levels, their totals, and the best of them (document 01, Closing price and award).
use Rattle.std.specs.Prelude.{ℕ, ◌≤◌, ◌<◌, ◌≡◌, ◌⊎◌, Bool, false, cond, leb, ltb, eqb, get_or}
use mathlib.Core.List.{List, [], ◌∷◌, ◌++◌, map, Memᴰ}
use Rattle.rules_numbers.specs.Lists.{keep, total}

-- each level of the row in front of each choice of cs
unfoldable pub spread : List ℕ → List (List ℕ) → List (List ℕ)
spread [] cs = []
spread (v ∷ vs) cs = map (λ c. v ∷ c) cs ++ spread vs cs

-- every choice of one level from each row
unfoldable pub choices : List (List ℕ) → List (List ℕ)
choices [] = [] ∷ []
choices (row ∷ rows) = spread row (choices rows)

-- covers, a term of document 01: the choice's total, the sum of its levels, is at least the demand d
unfoldable pub covering : ℕ → List (List ℕ) → List (List ℕ)
covering d cs = keep (λ c. leb d (total c)) cs

-- the tie rule of document 01: c has the larger level at the first place where c and e differ
unfoldable pub larger : List ℕ → List ℕ → Bool
larger [] e = false
larger (x ∷ c) [] = false
larger (x ∷ c) (y ∷ e) = cond (eqb x y) (larger c e) (ltb y x)

-- c goes before e: a smaller total, or an equal one and the tie rule
unfoldable pub before : List ℕ → List ℕ → Bool
before c e = cond (eqb (total c) (total e)) (larger c e) (ltb (total c) (total e))

-- the one of c and cs that goes before the others
unfoldable pub best : List ℕ → List (List ℕ) → List ℕ
best c [] = c
best c (e ∷ cs) = best (cond (before e c) e c) cs

unfoldable pub best_of : List (List ℕ) → List ℕ
best_of [] = []
best_of (c ∷ cs) = best c cs

-- the tie rule in words: at some place b has the larger level, and at every place in front of it b and c have the same
pub record LargerWhereTheyDiffer (b c : List ℕ) : Type 0 where
  pub place : ℕ
  pub same : (j : ℕ) → j < place → get_or b j 0 ≡ get_or c j 0
  pub more : get_or c place 0 < get_or b place 0

-- the best choice in words: it is one of the choices cs and covers the demand d; no choice that covers has a smaller total; and every
-- other choice of the same total has the smaller level at the first place where the two differ
pub record IsBest (d : ℕ) (cs : List (List ℕ)) (b : List ℕ) : Type 0 where
  pub admissible : Memᴰ b cs
  pub covers : d ≤ total b
  pub least : (c : List ℕ) → Memᴰ c cs → d ≤ total c → total b ≤ total c
  pub tie : (c : List ℕ) → Memᴰ c cs → total c ≡ total b → (c ≡ b) ⊎ LargerWhereTheyDiffer b c
