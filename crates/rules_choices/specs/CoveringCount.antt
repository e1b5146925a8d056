-- The number of covering choices, counted row by row: it does not depend on the order of the rows.
use Rattle.std.specs.Prelude.{ℕ, ◌+◌, ◌*◌, ◌≤◌, ◌≡◌, refl, Bool, true, false, cond, List, [], ◌∷◌, map, leb, length}
use Rattle.std.proofs.Common.{sym, ap, ◌∙◌, arith, add_assoc, add-zero, zero-add, mul_left_comm, le-leb, length-append}
use Rattle.rules_numbers.specs.Lists.{keep, total}
use Rattle.rules_numbers.specs.ListLaws.{Each, keep_le, keep_all, keep_append}
use Rattle.rules_numbers.specs.Sums.{total_add}
use Rattle.rules_choices.specs.Choices.{spread, choices, covering}
use Rattle.rules_choices.specs.Count.{product, choices_count, in_choices}
use Rattle.rules_choices.specs.Pairwise.{StrictlyRising}
use Rattle.rules_choices.specs.Search.{lowest_total}
use Rattle.rules_choices.specs.Between.{total_between}
use Rattle.rules_choices.specs.Falling.{AnyOrder}

-- how many choices of the rows make a total t cover the demand d
unfoldable pub covering_from : ℕ → List (List ℕ) → ℕ → ℕ
covering_from d [] t = cond (leb d t) 1 0
covering_from d (row ∷ rows) t = total (map (λ v. covering_from d rows (t + v)) row)

-- ---- as listed

keep_map : {A B : Type 0} (p : B → Bool) (f : A → B) (xs : List A) → length (keep p (map f xs)) ≡ length (keep (λ x. p (f x)) xs)
unfolding keep
keep_map p f [] = refl
keep_map p f (x ∷ xs) = go (p (f x)) (keep_map p f xs)
  where
    go : (b : Bool) → length (keep p (map f xs)) ≡ length (keep (λ y. p (f y)) xs) →
        length (cond b (f x ∷ keep p (map f xs)) (keep p (map f xs))) ≡ length (cond b (x ∷ keep (λ y. p (f y)) xs) (keep (λ y. p (f y)) xs))
    go true e = omega arith
    go false e = e

-- those of cs that make t cover
abbrev covers : ℕ → ℕ → List (List ℕ) → ℕ
covers d t cs = length (keep (λ c. leb d (t + total c)) cs)

spread_covers : (d t : ℕ) (row : List ℕ) (cs : List (List ℕ)) → covers d t (spread row cs) ≡ total (map (λ v. covers d (t + v) cs) row)
unfolding spread keep total
spread_covers d t [] cs = refl
spread_covers d t (v ∷ vs) cs =
    ap length (keep_append (λ c. leb d (t + total c)) (map (λ c. v ∷ c) cs) (spread vs cs))
    ∙ length-append (keep (λ c. leb d (t + total c)) (map (λ c. v ∷ c) cs)) (keep (λ c. leb d (t + total c)) (spread vs cs))
    ∙ rw (keep_map (λ c. leb d (t + total c)) (λ c. v ∷ c) cs, spread_covers d t vs cs)
    (simp (← add_assoc))

covering_listed : (d : ℕ) (rows : List (List ℕ)) (t : ℕ) → covering_from d rows t ≡ length (keep (λ c. leb d (t + total c)) (choices rows))
unfolding covering_from choices keep total
covering_listed d [] t = rw add-zero (go (leb d t))
  where
    go : (b : Bool) → cond b 1 0 ≡ length {A = List ℕ} (cond b ([] ∷ []) [])
    go true = refl
    go false = refl
covering_listed d (row ∷ rows) t = ap (λ f. total (map f row)) (λ j v. covering_listed d rows (t + v) j) ∙ sym (spread_covers d t row (choices rows))

pub covering_count : (d : ℕ) (rows : List (List ℕ)) → covering_from d rows 0 ≡ length (covering d (choices rows))
unfolding covering
covering_count d rows = covering_listed d rows 0 ∙ simp zero-add

pub covering_few : (d : ℕ) (rows : List (List ℕ)) (t : ℕ) → covering_from d rows t ≤ length (choices rows)
covering_few d rows t = rw (covering_listed d rows t) (keep_le (λ c. leb d (t + total c)) (choices rows))

-- where the lows cover, all choices do
pub covering_all : (d : ℕ) (rows : List (List ℕ)) (t : ℕ) → Each StrictlyRising rows → d ≤ t + lowest_total rows → covering_from d rows t ≡ length (choices rows)
covering_all d rows t h l =
    covering_listed d rows t
    ∙ ap length (keep_all (λ c. leb d (t + total c)) (choices rows)
    (λ c m. le-leb d (t + total c) (omega (arith, (total_between rows c h ((in_choices rows c).0 m)).0))))

-- ---- in any order

total_none : (ws : List ℕ) → total (map (λ w. 0) ws) ≡ 0
unfolding total
total_none [] = refl
total_none (w ∷ ws) = omega (arith, total_none ws)

-- a sum over two rows, either first
total_swap : (f : ℕ → ℕ → ℕ) (vs ws : List ℕ) → total (map (λ v. total (map (f v) ws)) vs) ≡ total (map (λ w. total (map (λ v. f v w) vs)) ws)
unfolding total
total_swap f [] ws = sym (total_none ws)
total_swap f (v ∷ vs) ws = ap (λ n. total (map (f v) ws) + n) (total_swap f vs ws) ∙ sym (total_add (f v) (λ w. total (map (λ v. f v w) vs)) ws)

pub covering_any : (d : ℕ) → AnyOrder (λ rows others. (t : ℕ) → covering_from d rows t ≡ covering_from d others t)
unfolding covering_from
covering_any d = record {
  same = λ rows t. refl;
  then = λ rows others more p q t. p t ∙ q t;
  under = λ row rows others p t. ap (λ f. total (map f row)) (λ j v. p (t + v) j);
  swap = λ row other rows t.
      total_swap (λ v w. covering_from d rows (t + v + w)) row other
      ∙ ap (λ (f : ℕ → ℕ → ℕ). total (map (λ w. total (map (f w) row)) other)) (λ j w v. covering_from d rows (turned t v w j));
}
  where
    turned : (t v w : ℕ) → t + v + w ≡ t + w + v
    turned t v w = omega arith

pub choices_any : AnyOrder (λ rows others. length (choices rows) ≡ length (choices others))
unfolding product
choices_any = record {
  same = λ rows. refl;
  then = λ rows others more p q. p ∙ q;
  under = λ row rows others p. choices_count (row ∷ rows) ∙ ap (λ n. length row * n) (sym (choices_count rows) ∙ p ∙ choices_count others)
      ∙ sym (choices_count (row ∷ others));
  swap = λ row other rows. choices_count (row ∷ other ∷ rows) ∙ mul_left_comm (length row) (length other) (product (map length rows))
      ∙ sym (choices_count (other ∷ row ∷ rows));
}
