-- What the search finds is what going through every complete choice finds: the choices in a part that is set aside are set aside one by one.
use Rattle.std.specs.Prelude.{ℕ, ◌+◌, ◌≤◌, ◌<◌, ◌≡◌, refl, Bool, true, false, cond, ◌||◌, ltb, leb, length}
use Rattle.std.proofs.Common.{sym, ap, ◌∙◌, ⊎_elim, arith, add-zero, lt-ltb, ltb-true, ltb-false, le-leb}
use mathlib.Core.List.Memᴰ
use mathlib.Core.List.{List, [], ◌∷◌, map, Memᴰ}
use Rattle.rules_numbers.specs.Cases.{or_true, or_left, or_right}
use Rattle.rules_numbers.specs.Lists.{total}
use Rattle.rules_numbers.specs.ListLaws.{Each, any_intro, any_true}
use Rattle.rules_choices.specs.Pairwise.{StrictlyRising}
use Rattle.rules_choices.specs.Search.{lowest_total, highest_total, above_best, set_aside, in_turn, searched}
use Rattle.rules_choices.specs.Searched.{aside_found}
use Rattle.rules_choices.specs.CoveringCount.{covering_from}
use Rattle.rules_choices.specs.EachChoice.{Strided, row_of, each_level, each_choice, Among, each_choice_relates, each_choice_keeps, each_choice_meets}
use Rattle.rules_choices.specs.EachChoice.{among_between}

-- a complete choice of total u, as the search tests it
abbrev pub tried : ℕ → ℕ → ℕ → List ℕ → List ℕ
tried d u j bs = searched d [] u bs

above_some : (t : ℕ) (bs : List ℕ) → above_best t bs ≡ true → (b : ℕ) × Memᴰ b bs × (b < t)
unfolding above_best
above_some t bs e = let r = (any_true (λ b. ltb b t) bs).0 e in (r.0, r.1, ltb-true r.0 t r.2)

above_more : (t u : ℕ) (bs : List ℕ) → t ≤ u → above_best t bs ≡ true → above_best u bs ≡ true
unfolding above_best
above_more t u bs h e = let r = above_some t bs e in any_intro (λ b. ltb b u) bs r.1 (lt-ltb r.0 u (omega (arith, r.2)))

-- what sets a part aside sets each complete choice of it aside
aside_complete : (d : ℕ) (rest : List (List ℕ)) (t u : ℕ) (bs : List ℕ) → t + lowest_total rest ≤ u → u ≤ t + highest_total rest → set_aside d rest t bs ≡ true →
    set_aside d [] u bs ≡ true
unfolding set_aside lowest_total highest_total total
aside_complete d rest t u bs lo hi e =
    rw (add-zero u)
    (⊎_elim
    (λ k. or_left (ltb u d) (above_best u bs) (lt-ltb u d (omega (arith, ltb-true (t + highest_total rest) d k))))
    (λ k. or_right (ltb u d) (above_best u bs) (above_more (t + lowest_total rest) u bs lo k))
    (or_true (ltb (t + highest_total rest) d) (above_best (t + lowest_total rest) bs) e))

in_turn_each : (f : ℕ → List ℕ → List ℕ) (h : ℕ → ℕ → List ℕ → List ℕ) → ((t i : ℕ) (bs : List ℕ) → f t bs ≡ h t i bs) →
    (s : ℕ) (vs : List ℕ) (t i : ℕ) (bs : List ℕ) → in_turn f vs t bs ≡ each_level h s vs t i bs
unfolding in_turn each_level
in_turn_each f h e s [] t i bs = refl
in_turn_each f h e s (v ∷ vs) t i bs = ap (in_turn f vs t) (e (t + v) i bs) ∙ in_turn_each f h e s vs t (i + s) (h (t + v) i bs)

pub searched_choices : (d : ℕ) (rs : List Strided) → Each StrictlyRising (map row_of rs) → (t i : ℕ) (bs : List ℕ) →
    searched d (map row_of rs) t bs ≡ each_choice (tried d) rs t i bs
unfolding searched each_choice
searched_choices d [] h t i bs = refl
searched_choices d (r ∷ rs) h t i bs = go (set_aside d (map row_of (r ∷ rs)) t bs) refl (searched_choices d rs (λ row m. h row (Memᴰ.tail m)))
  where
    go : (b : Bool) → set_aside d (map row_of (r ∷ rs)) t bs ≡ b →
        ((t i : ℕ) (bs : List ℕ) → searched d (map row_of rs) t bs ≡ each_choice (tried d) rs t i bs) →
        cond b bs (in_turn (searched d (map row_of rs)) r.1 t bs) ≡ each_choice (tried d) (r ∷ rs) t i bs
    go true e later =
        sym
        (each_choice_keeps (λ x. x ≡ bs) (tried d) (r ∷ rs) t i
        (λ u j a x k. let b = among_between (r ∷ rs) t i u j h a in rw k (aside_found d [] u bs (aside_complete d (map row_of (r ∷ rs)) t u bs b.0 b.1 e)))
        bs refl)
    go false e later = in_turn_each (searched d (map row_of rs)) (each_choice (tried d) rs) later r.0 r.1 t i bs

-- ---- one by one

-- one more where u covers
abbrev pub counted : ℕ → ℕ → ℕ → ℕ → ℕ
counted d u j n = n + cond (leb d u) 1 0

each_counted : (f : ℕ → ℕ → ℕ → ℕ) (m : ℕ → ℕ) → ((t i n : ℕ) → f t i n ≡ n + m t) → (s : ℕ) (vs : List ℕ) (t i n : ℕ) →
    each_level f s vs t i n ≡ n + total (map (λ v. m (t + v)) vs)
unfolding each_level total
each_counted f m e s [] t i n = sym (add-zero n)
each_counted f m e s (v ∷ vs) t i n = each_counted f m e s vs t (i + s) (f (t + v) i n) ∙ omega (arith, e (t + v) i n)

pub each_choice_counted : (d : ℕ) (rs : List Strided) (t i n : ℕ) → each_choice (counted d) rs t i n ≡ n + covering_from d (map row_of rs) t
unfolding each_choice covering_from
each_choice_counted d [] t i n = refl
each_choice_counted d (r ∷ rs) t i n = each_counted (each_choice (counted d) rs) (covering_from d (map row_of rs)) (each_choice_counted d rs) r.0 r.1 t i n

-- a complete choice is found exactly where it covers and is not above the best: what holds in each case holds of what is found
pub tried_case : (d u j : ℕ) (bs : List ℕ) (P : List ℕ → Type 0) → (u < d → P bs) → (above_best u bs ≡ true → P bs) →
    (d ≤ u → above_best u bs ≡ false → P (u ∷ bs)) → P (tried d u j bs)
unfolding searched set_aside lowest_total highest_total total
tried_case d u j bs P short above new = rw (add-zero u) (go (ltb u d) refl (above_best u bs) refl)
  where
    go : (a : Bool) → ltb u d ≡ a → (b : Bool) → above_best u bs ≡ b → P (cond (a || b) bs (u ∷ bs))
    go true e b f = short (ltb-true u d e)
    go false e true f = above f
    go false e false f = new (ltb-false u d e) f

-- at most the covering ones are found
pub found_few : (d : ℕ) (rs : List Strided) (t i : ℕ) → Each StrictlyRising (map row_of rs) →
    length (searched d (map row_of rs) t []) ≤ covering_from d (map row_of rs) t
found_few d rs t i h =
    let c : length (each_choice (tried d) rs t i []) ≤ each_choice (counted d) rs t i 0 =
    each_choice_relates (λ bs n. length bs ≤ n) (tried d) (counted d) rs t i step [] 0 (omega arith) in
    rw (searched_choices d rs h t i []) (omega (arith, each_choice_counted d rs t i 0))
  where
    step : (u j : ℕ) → Among rs t i u j → (bs : List ℕ) (n : ℕ) → length bs ≤ n → length (tried d u j bs) ≤ counted d u j n
    step u j a bs n k = tried_case d u j bs (λ r. length r ≤ counted d u j n) (λ e. omega arith) (λ e. omega arith) (λ e f. rw (le-leb d u e) (omega arith))

-- each total found covers and is a choice's, and of each choice that covers, its total or a smaller one is found
pub found_from : (d : ℕ) (rs : List Strided) (t i : ℕ) → Each StrictlyRising (map row_of rs) →
    Each (λ b. (d ≤ b) × ((j : ℕ) × Among rs t i b j)) (searched d (map row_of rs) t [])
found_from d rs t i h =
    rw (searched_choices d rs h t i []) (each_choice_keeps Right (tried d) rs t i step [] (λ b m. absurd (Memᴰ.not-nil m)))
  where
    Right : List ℕ → Type 0
    Right bs = Each (λ b. (d ≤ b) × ((j : ℕ) × Among rs t i b j)) bs

    step : (u j : ℕ) → Among rs t i u j → (bs : List ℕ) → Right bs → Right (tried d u j bs)
    step u j a bs k = tried_case d u j bs Right (λ e. k) (λ e. k) (λ e f b m. ⊎_elim (λ q. rw q (e, (j, a))) (λ l. k b l) (Memᴰ.cases_cons m))

pub found_least : (d : ℕ) (rs : List Strided) (t i u j : ℕ) → Each StrictlyRising (map row_of rs) → Among rs t i u j → d ≤ u →
    (b : ℕ) × Memᴰ b (searched d (map row_of rs) t []) × (b ≤ u)
found_least d rs t i u j h a c =
    rw (searched_choices d rs h t i []) (each_choice_meets Low (tried d) stays rs t i u j a meets [])
  where
    Low : List ℕ → Type 0
    Low bs = (b : ℕ) × Memᴰ b bs × (b ≤ u)

    stays : (v k : ℕ) (bs : List ℕ) → Low bs → Low (tried d v k bs)
    stays v k bs l = tried_case d v k bs Low (λ e. l) (λ e. l) (λ e f. (l.0, Memᴰ.tail l.1, l.2))

    meets : (bs : List ℕ) → Low (tried d u j bs)
    meets bs =
        tried_case d u j bs Low
        (λ e. absurd (omega arith))
        (λ e. let r = above_some u bs e in (r.0, r.1, omega (arith, r.2)))
        (λ e f. (u, Memᴰ.head refl, omega arith))
