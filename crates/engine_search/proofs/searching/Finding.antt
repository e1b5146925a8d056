-- From going through all choices to the promise of `find`: the tally's three parts, each by what every choice keeps.
use Prim.Native.Nat.{ℕ, max, ◌≤◌, ◌<◌, zero-le}
use mathlib.Core.Path.{◌≡◌, refl, sym, ap, ◌∙◌}
use mathlib.Core.Logic.{◌⊎◌, inl, inr, ⊎_elim}
use mathlib.Core.Bool.{true}
use mathlib.Core.List.{List, [], ◌∷◌, map, map-map}
use native.Mathlib.Omega.{arith}
use native.Mathlib.Nat.{zero-add}
use lib.Dec.{ltb}
use lib.ListN.{length, get_or}
use borrow.Author.Tests.{le-leb, lt-leb, lt-ltb, le-ltb, ltb-true, ltb-false}
use Rattle.rules_numbers.specs.Cases.{le_or_lt}
use Rattle.rules_numbers.specs.Lists.{total, any}
use Rattle.rules_numbers.specs.ListLaws.{Each}
use Rattle.rules_choices.specs.Choices.{choices, covering, best_of}
use Rattle.rules_choices.specs.Pairwise.{StrictlyRising}
use Rattle.rules_choices.specs.Best.{best_choice}
use Rattle.rules_choices.specs.Search.{high_of, highest_total, above_best, searched, kept}
use Rattle.rules_choices.specs.Searched.{rank_of, found_in_order}
use Rattle.rules_choices.specs.Falling.{falling_any}
use Rattle.rules_choices.specs.CoveringCount.{covering_from, covering_any, covering_count}
use Rattle.rules_choices.specs.EachChoice.{Strided, row_of, each_choice, Among, each_choice_relates, each_choice_keeps, each_choice_meets, among_between}
use Rattle.rules_choices.specs.SearchedChoices.{tried, tried_case, searched_choices}
use Rattle.rules_choices.specs.Numbered.{count, numbered, count_some, numbered_from, choice_place, BestPlace, place_best}
use Rattle.engine_search.specs.declared.tally.Tally.{Tally}
use Rattle.engine_table.specs.table.Rows.{rows_in}
use Rattle.engine_table.specs.table.Places.{start_of, row_in}
use Rattle.engine_table.specs.table.PlaceLaws.{rows_numbered, row_ends, row_some, row_valid}
use Rattle.engine_search.specs.ordering.Ranks.{search_order}
use Rattle.engine_search.specs.rows_behind.Behind.{Orders, Looks}
use Rattle.engine_search.specs.tally.Tally.{more}
use Rattle.engine_search.specs.tally.TallyLaws.{keeping, more_case, more_above}
use Rattle.engine_search.specs.searching.Going.{offered, left, Passed, Ready}
use Rattle.engine_search.specs.declared.rows_behind.Row.{Row}
use Rattle.engine_search.specs.declared.searching.Place.{Place}
use Rattle.engine_search.proofs.searching.Rows.{strided_in, left_is}
use Rattle.engine_search.specs.searching.Searches.{Searchable, Searches}
use Rattle.engine_search.specs.rows_behind.InOrder.{high_fits, number_at, from_cons, from_each, from_levels, from_few, from_fits}
use Rattle.engine_search.proofs.searching.Orders.{top, numbers_order, strides_small, in_order_lem, ordered, ordered_rows_are, same_choices}
use Rattle.engine_search.proofs.searching.Tallying.{each_choice_covers}
use Rattle.engine_search.proofs.searching.Passing.{passed_choices}

-- none found yet: no total is above its
abbrev pub none : Tally
none = record { covering = 0; kept = 0; total = 18446744073709551615; index = 0 }

-- one choice, in each case
offered_case : (d u j : ℕ) (x : Tally) (P : Tally → Type 0) → (u < d → P x) → (d ≤ u → P (more 1 u j x)) → P (offered d u j x)
offered_case d u j x P short covers = ⊎_elim (λ h. rw (le-leb d u h) (covers h)) (λ h. rw (lt-leb d u h) (short h)) (le_or_lt d u)

-- ---- as many are kept as the search finds

-- the totals bs are found, as the tally has it for every total up to its bound
pub record Stands (bs : List ℕ) (f : Tally) : Type 0 where
  pub many : f.kept ≡ length bs
  pub above : (u : ℕ) → u ≤ 18446744073709551615 → above_best u bs ≡ ltb f.total u

stands_none : Stands [] none
unfolding above_best any
stands_none = record { many = refl; above = λ u h. sym (le-ltb 18446744073709551615 u h) }

-- one total more that is not above the best
stands_new : (u j : ℕ) (bs : List ℕ) (f : Tally) → u ≤ f.total → Stands bs f → Stands (u ∷ bs) (keeping 1 u j f)
unfolding above_best any
stands_new u j bs f h s = record {
  many = omega (arith, s.many);
  above = λ v b. ⊎_elim (λ k. rw (le-ltb u v k) (s.above v b ∙ le-ltb f.total v (omega arith))) (λ k. rw (lt-ltb u v k)) (le_or_lt v u);
}

stands_more : (d u j : ℕ) → u ≤ 18446744073709551615 → (bs : List ℕ) (f : Tally) → Stands bs f → Stands (tried d u j bs) (offered d u j f)
stands_more d u j b bs f s =
    tried_case d u j bs (λ r. Stands r (offered d u j f))
    (λ h. rw (lt-leb d u h) s)
    (λ e. offered_case d u j f (Stands bs) (λ h. s) (λ h. rw (more_above 1 u j f (above e)) (record { many = s.many; above = s.above })))
    (λ h e. rw (le-leb d u h) (new (ltb-false f.total u (sym (s.above u b) ∙ e))))
  where
    above : above_best u bs ≡ true → f.total < u
    above e = ltb-true f.total u (sym (s.above u b) ∙ e)

    new : u ≤ f.total → Stands (u ∷ bs) (more 1 u j f)
    new h = more_case 1 u j f (Stands (u ∷ bs)) (λ k. absurd (omega arith)) (λ i k. stands_new u i bs f h s)

-- ---- the best one is found

-- f is ahead of a choice of total v at the place k
abbrev Ahead : ℕ → ℕ → Tally → Type 0
Ahead v k f = (f.total < v) ⊎ ((f.total ≡ v) × (k ≤ f.index))

ahead_stays : (v k d u j : ℕ) (f : Tally) → Ahead v k f → Ahead v k (offered d u j f)
ahead_stays v k d u j f a = offered_case d u j f (Ahead v k) (λ h. a) (λ h. more_case 1 u j f (Ahead v k) (λ l. a) place)
  where
    place : (i : ℕ) → ((u < f.total) × (i ≡ j)) ⊎ ((u ≡ f.total) × (i ≡ max j f.index)) → Ahead v k (keeping 1 u i f)
    place i (inl l) = inl (⊎_elim (λ b. omega arith) (λ b. omega (arith, b.0)) a)
    place i (inr l) = ⊎_elim (λ b. inl (omega (arith, l.0))) (λ b. inr (l.0 ∙ b.0, omega (arith, l.1, b.1))) a

ahead_meets : (v k d : ℕ) → d ≤ v → (f : Tally) → Ahead v k (offered d v k f)
ahead_meets v k d h f =
    rw (le-leb d v h)
    (more_case 1 v k f (Ahead v k) (λ l. inl l) (λ i l. inr (refl, ⊎_elim (λ b. omega (arith, b.1)) (λ b. omega (arith, b.1)) l)))

abbrev pub result : ℕ → List Strided → Tally
result d rs = each_choice (offered d) rs 0 0 none

module _ (d : ℕ) (rs : List Strided) (rise : Each StrictlyRising (map row_of rs)) (fits : highest_total (map row_of rs) ≤ 32000000000) where
  bound : (u j : ℕ) → Among rs 0 0 u j → u ≤ 32000000000
  bound u j a = omega (arith, (among_between rs 0 0 u j rise a).1)

  result_keeps : (result d rs).kept ≡ length (searched d (map row_of rs) 0 [])
  result_keeps =
      (each_choice_relates Stands (tried d) (offered d) rs 0 0 (λ u j a. stands_more d u j (omega (arith, bound u j a))) [] none stands_none).many
      ∙ ap length (sym (searched_choices d rs rise 0 0 []))

  -- nothing is found yet, or a choice that covers
  abbrev Right : Tally → Type 0
  Right f = ((f.total ≡ 18446744073709551615) × (f.index ≡ 0)) ⊎ (Among rs 0 0 f.total f.index × (d ≤ f.total))

  right_more : (u j : ℕ) → Among rs 0 0 u j → (f : Tally) → Right f → Right (offered d u j f)
  right_more u j a f r = offered_case d u j f Right (λ h. r) (λ h. more_case 1 u j f Right (λ l. r) (place h))
    where
      place : d ≤ u → (i : ℕ) → ((u < f.total) × (i ≡ j)) ⊎ ((u ≡ f.total) × (i ≡ max j f.index)) → Right (keeping 1 u i f)
      place h i (inl l) = inr (rw l.1 a, h)
      place h i (inr l) =
          ⊎_elim
          (λ k. let e : i ≡ j = omega (arith, l.1) in inr (rw e a, h))
          (λ k. ⊎_elim
          (λ b. absurd (omega (arith, bound u j a, l.0, b.0)))
          (λ b. let e : i ≡ f.index = omega (arith, l.1) in inr (rw (l.0, e) b.0, h))
          r)
          (le_or_lt f.index j)

  result_right : Right (result d rs)
  result_right = each_choice_keeps Right (offered d) rs 0 0 right_more none (inl (refl, refl))

  result_ahead : (v k : ℕ) → Among rs 0 0 v k → d ≤ v → Ahead v k (result d rs)
  result_ahead v k a h = each_choice_meets (Ahead v k) (offered d) (λ u j f. ahead_stays v k d u j f) rs 0 0 v k a (ahead_meets v k d h) none

  -- where some choice covers, the best place is found
  result_best : (v k : ℕ) → Among rs 0 0 v k → d ≤ v → BestPlace d rs (result d rs).total (result d rs).index
  result_best v k a h = ⊎_elim
      (λ r. absurd (⊎_elim (λ b. omega (arith, bound v k a, r.0)) (λ b. omega (arith, bound v k a, r.0, b.0)) (result_ahead v k a h)))
      (λ r. record { among = r.0; covers = r.1; ahead = result_ahead })
      result_right

-- ---- the rows of a table

module _ {levels ends strides : List ℕ} (q : Searchable levels ends strides) (d : ℕ) where
  abbrev rows : List (List ℕ)
  rows = rows_in levels 0 ends

  abbrev rs : List Strided
  rs = ordered q

  rows_are : map row_of rs ≡ map (row_in levels ends) (search_order levels ends)
  rows_are = map-map row_of (strided_in levels ends strides) (search_order levels ends)

  rise : Each StrictlyRising (map row_of rs)
  rise = rw rows_are (λ row m. (from_levels q.table (in_order_lem q) 0 row m).1)

  fits : highest_total (map row_of rs) ≤ 32000000000
  fits = rw rows_are (omega (arith, (from_fits q.table (in_order_lem q) 0 zero-le).1))

  -- what holds of every row
  each_row : (P : List ℕ → Type 0) → ((k : ℕ) → k < 32 → P (row_in levels ends k)) → Each P rows
  each_row P h = rw (rows_numbered q.table) (from_each q.table (numbers_order q) P h 0)

  -- the same best place among the choices as they are listed
  module _ (some : covering d (choices rows) ≡ [] → ⊥) where
    best_listed : BestPlace d (numbered rows) (result d rs).total (result d rs).index
    best_listed =
        let c = best_choice d rows some in
        let k = choice_place rows (best_of (covering d (choices rows))) c.admissible in
        let p = result_best d rs rise fits (total (best_of (covering d (choices rows)))) k.0 ((same_choices q _ _).0 k.3) c.covers in
        record { among = (same_choices q _ _).1 p.among; covers = p.covers; ahead = λ v j a h. p.ahead v j ((same_choices q v j).0 a) h }

    best_is :
        let b = best_of (covering d (choices rows)) in
        ((result d rs).index < count rows) × (get_or (choices rows) (result d rs).index [] ≡ b) × ((result d rs).total ≡ total b)
    best_is = place_best d rows (each_row StrictlyRising (λ k h. (row_valid q.table k h).0)) best_listed

  searches : Searches d rows (result d rs)
  unfolding kept
  searches = record {
    covers =
        each_choice_covers d rs 0 0 none
        ∙ zero-add (covering_from d (map row_of rs) 0)
        ∙ ap (λ r. covering_from d r 0) (ordered_rows_are q)
        ∙ sym (falling_any (covering_any d) (rank_of top) rows 0)
        ∙ covering_count d rows;
    keeps =
        result_keeps d rs rise fits
        ∙ ap (λ r. length (searched d r 0 [])) (ordered_rows_are q)
        ∙ sym (ap length (found_in_order d top rows some_levels small_highs));
    placed = ⊎_elim
        (λ r. omega (arith, r.1, count_some rows some_levels))
        (λ r. let n = numbered_from rows 0 0 (result d rs).total (result d rs).index ((same_choices q _ _).1 r.0) in omega (arith, n.1, n.2))
        (result_right d rs rise fits);
    best = λ some. (best_is some).1;
    least = λ some. (best_is some).2;
  }
    where
      small_highs : Each (λ row. high_of row < top) rows
      small_highs = each_row (λ row. high_of row < top) (λ k h. omega (arith, high_fits (row_in levels ends k) (row_valid q.table k h)))

      some_levels : Each (λ row. 0 < length row) rows
      some_levels = each_row (λ row. 0 < length row) (row_some q.table)

  -- ---- from the first place of the order on, or a later one behind rows with one level

  module _ {order : List ℕ} (o : order ≡ search_order levels ends) where
    pub find_order : Orders levels ends order
    find_order = rw o (in_order_lem q)

    module _ {i base : ℕ} (p : Passed levels ends order i base) where
      abbrev first : ℕ
      first = get_or order i 0

      pub first_number : first < 32
      first_number = number_at q.table find_order i p.place

      abbrev begins : Place
      begins = record { row = i; at = start_of ends first; base = base; index = 0 }

      module _ {looked : List Row} (l : Looks levels ends order strides looked) where
        pub find_ready : Ready levels looked begins none
        find_ready = record {
          ends = ends;
          order = order;
          strides = strides;
          goes = record {
            table = q.table;
            orders = find_order;
            looks = l;
            small = strides_small q;
            place = p.place;
            inside = (row_ends q.table first first_number).0;
            row = row_valid q.table first first_number;
            base_fits = p.base_fits;
            index_fits = zero-le;
            room = omega (arith, ap count (from_cons q.table find_order i p.place), from_few q.table find_order i (omega (arith, p.place)));
            fewer = omega arith;
          };
        }

        pub find_searches : (r : Tally) → r ≡ each_choice (offered d) (left levels looked i (start_of ends first)) base 0 none → Searches d rows r
        find_searches r e =
            rw (e, left_is find_order l i (start_of ends first) p.place, passed_choices q.table find_order p (offered d) strides none, o) searches
