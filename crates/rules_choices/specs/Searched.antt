-- Laws of the search: what is set aside finds nothing, a row with one level may stand in front of the order, and where the lows cover they alone
-- are found.
use Rattle.std.specs.Prelude.{ℕ, ◌+◌, ◌≤◌, ◌<◌, ◌≡◌, refl, Bool, true, false, cond, not, List, [], ◌∷◌, ◌++◌, ltb, length}
use Rattle.std.proofs.Common.{sym, ap, ◌∙◌, arith, add_assoc, add-zero, zero-add, lt-ltb, le-ltb, ltb-false}
use mathlib.Core.List.Memᴰ
use Rattle.std.proofs.lemmas.Bool.{not-true}
use Rattle.rules_numbers.specs.Cases.{or_right}
use Rattle.rules_numbers.specs.Lists.{keep, total, last_or, any}
use Rattle.rules_numbers.specs.ListLaws.{Each, in_keep}
use Rattle.rules_choices.specs.Pairwise.{StrictlyRising}
use Rattle.rules_choices.specs.Between.{lows_below}
use Rattle.rules_choices.specs.Search.{by_falling, low_of, high_of, several, order, lowest_total, highest_total, above_best, set_aside, in_turn, searched, given}
use Rattle.rules_choices.specs.Search.{found}
use Rattle.rules_choices.specs.Falling.{ranked, falling_ranked}

-- ---- what is set aside

pub aside_found : (d : ℕ) (rest : List (List ℕ)) (t : ℕ) (bs : List ℕ) → set_aside d rest t bs ≡ true → searched d rest t bs ≡ bs
unfolding searched
aside_found d [] t bs e = rw e
aside_found d (row ∷ rest) t bs e = rw e

not_aside : (d : ℕ) (rest : List (List ℕ)) (t : ℕ) (bs : List ℕ) → d ≤ t + highest_total rest → above_best (t + lowest_total rest) bs ≡ false →
    set_aside d rest t bs ≡ false
unfolding set_aside
not_aside d rest t bs h e = rw (le-ltb (t + highest_total rest) d h, e)

-- ---- rows with one level, in front of the order

searched_one : (d v : ℕ) (rest : List (List ℕ)) (t : ℕ) (bs : List ℕ) → searched d ((v ∷ []) ∷ rest) t bs ≡ searched d rest (t + v) bs
unfolding searched set_aside in_turn lowest_total highest_total total last_or
searched_one d v rest t bs = rw (← add_assoc t v (highest_total rest), ← add_assoc t v (lowest_total rest)) (go (set_aside d rest (t + v) bs) refl)
  where
    go : (b : Bool) → set_aside d rest (t + v) bs ≡ b → cond b bs (searched d rest (t + v) bs) ≡ searched d rest (t + v) bs
    go true e = sym (aside_found d rest (t + v) bs e)
    go false e = refl

one_level : (row : List ℕ) → 0 < length row → several row ≡ false → row ≡ low_of row ∷ []
one_level [] h e = absurd (omega arith)
one_level (v ∷ []) h e = refl
one_level (v ∷ w ∷ vs) h e = absurd (omega (arith, ltb-false 1 (length (v ∷ w ∷ vs)) e))

searched_ones : (d : ℕ) (ones rest : List (List ℕ)) (t : ℕ) (bs : List ℕ) → Each (λ row. row ≡ low_of row ∷ []) ones →
    searched d (ones ++ rest) t bs ≡ searched d rest (t + lowest_total ones) bs
unfolding lowest_total total
searched_ones d [] rest t bs h = rw add-zero
searched_ones d (row ∷ ones) rest t bs h =
    ap (λ r. searched d (r ∷ ones ++ rest) t bs) (h row (Memᴰ.head refl))
    ∙ searched_one d (low_of row) (ones ++ rest) t bs
    ∙ searched_ones d ones rest (t + low_of row) bs (λ r m. h r (Memᴰ.tail m))
    ∙ rw (add_assoc t (low_of row) (lowest_total ones))

-- the rows with one level in front, then the order: by falling rank, which is the high, and the top for one level
abbrev pub rank_of : ℕ → List ℕ → ℕ
rank_of top = ranked high_of several top

abbrev pub in_order : ℕ → List (List ℕ) → List (List ℕ)
in_order top rows = by_falling (rank_of top) rows

pub found_in_order : (d top : ℕ) (rows : List (List ℕ)) → Each (λ row. 0 < length row) rows → Each (λ row. high_of row < top) rows →
    found d rows ≡ searched d (in_order top rows) 0 []
unfolding found order given
found_in_order d top rows some high =
    sym
    (ap (λ rs. searched d rs 0 []) (falling_ranked high_of several top rows high)
    ∙ searched_ones d ones (order rows) 0 [] single
    ∙ rw zero-add)
  where
    ones : List (List ℕ)
    ones = keep (λ row. not (several row)) rows

    single : Each (λ row. row ≡ low_of row ∷ []) ones
    single row m = let k = (in_keep (λ r. not (several r)) row rows).0 m in one_level row (some row k.0) (not-true (several row) k.1)

-- ---- where the lows cover, they alone are found

above_cons : (t b : ℕ) (bs : List ℕ) → b < t → above_best t (b ∷ bs) ≡ true
unfolding above_best any
above_cons t b bs h = rw (lt-ltb b t h)

-- the other levels of a row, each above the first one that was found
rest_aside : (d : ℕ) (rest : List (List ℕ)) (t b : ℕ) (bs vs : List ℕ) → Each (λ v. b < t + v + lowest_total rest) vs →
    in_turn (searched d rest) vs t (b ∷ bs) ≡ b ∷ bs
unfolding in_turn set_aside
rest_aside d rest t b bs [] h = refl
rest_aside d rest t b bs (v ∷ vs) h =
    let u : ℕ = t + v + lowest_total rest in
    let a : set_aside d rest (t + v) (b ∷ bs) ≡ true =
    or_right (ltb (t + v + highest_total rest) d) (above_best u (b ∷ bs)) (above_cons u b bs (h v (Memᴰ.head refl))) in
    ap (in_turn (searched d rest) vs t) (aside_found d rest (t + v) (b ∷ bs) a)
    ∙ rest_aside d rest t b bs vs (λ w m. h w (Memᴰ.tail m))

pub lows_found :
    (d : ℕ) (rest : List (List ℕ)) (t : ℕ) (bs : List ℕ) →
    Each (λ row. 0 < length row) rest → Each StrictlyRising rest → d ≤ t + lowest_total rest → above_best (t + lowest_total rest) bs ≡ false →
    searched d rest t bs ≡ (t + lowest_total rest) ∷ bs
unfolding searched in_turn lowest_total total
lows_found d [] t bs some rise h e = rw (not_aside d [] t bs (omega (arith, lows_below [] rise)) e, add-zero)
lows_found d ([] ∷ rest) t bs some rise h e = absurd (omega (arith, some [] (Memᴰ.head refl)))
lows_found d ((v ∷ vs) ∷ rest) t bs some rise h e =
    let later : Each StrictlyRising rest = λ r m. rise r (Memᴰ.tail m) in
    let b : ℕ = t + v + lowest_total rest in
    let s : t + lowest_total ((v ∷ vs) ∷ rest) ≡ b = omega arith in
    rw (not_aside d ((v ∷ vs) ∷ rest) t bs (omega (arith, lows_below ((v ∷ vs) ∷ rest) rise)) e)
    (ap (in_turn (searched d rest) vs t) (lows_found d rest (t + v) bs (λ r m. some r (Memᴰ.tail m)) later (omega arith) (rw s at e))
    ∙ rest_aside d rest t b bs vs (λ w m. omega (arith, (rise (v ∷ vs) (Memᴰ.head refl)).0 w m))
    ∙ rw s)
