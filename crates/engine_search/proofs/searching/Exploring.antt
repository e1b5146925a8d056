-- The search at a place: what the choices with the level there come to, and what is left beside it.
use Prim.Native.Nat.{ℕ, suc, ◌+◌, ◌-◌, ◌≤◌, ◌<◌, zero-le}
use mathlib.Core.Path.{◌≡◌, refl, sym, ap, ◌∙◌}
use mathlib.Core.Logic.{⊎_elim}
use mathlib.Core.List.Memᴰ
use mathlib.Core.List.{List, [], ◌∷◌, map, map-map}
use native.Mathlib.Omega.{arith}
use lib.ListN.{drop, get_or}
use Rattle.rules_numbers.specs.Cases.{le_or_lt}
use Rattle.rules_numbers.specs.Lists.{part, total}
use Rattle.rules_numbers.specs.ListLaws.{Each}
use Rattle.rules_choices.specs.Search.{lowest_total, highest_total}
use Rattle.rules_choices.specs.Kept.{Levels}
use Rattle.rules_choices.specs.CoveringCount.{covering_few}
use Rattle.rules_choices.specs.Numbered.{count}
use Rattle.rules_choices.specs.EachChoice.{Strided, row_of, each_level, each_choice}
use Rattle.engine_table.specs.table.Places.{ValidRow, start_of, row_in}
use Rattle.engine_table.specs.table.PlaceLaws.{part_cons, row_ends, row_valid}
use Rattle.engine_search.specs.declared.tally.Tally.{Tally}
use Rattle.engine_search.specs.declared.rows_behind.Row.{Row}
use Rattle.engine_search.specs.rows_behind.Behind.{rows_behind, row_at, search_row}
use Rattle.engine_search.specs.tally.Tally.{more}
use Rattle.engine_search.specs.searching.Going.{offered, left, Goes}
use Rattle.engine_search.proofs.searching.Rows.{strided_in, left_in, left_is}
use Rattle.engine_search.specs.rows_behind.InOrder.{number_at, order_cons, from_cons, from_none, from_levels, from_fits}
use Rattle.engine_search.proofs.searching.Tallying.{count_cons, each_choice_none, each_choice_all, each_choice_covers, each_choice_fewer}

module _ {levels ends order strides : List ℕ} {rows : List Row} {i at base ix : ℕ} {f : Tally}
    (r : Goes levels ends order strides rows i at base ix f) where
  -- the row at place i, its level at `at`, and the rows behind
  abbrev k : ℕ
  k = get_or order i 0

  abbrev end : ℕ
  end = get_or ends k 0

  abbrev level : ℕ
  level = get_or levels at 0

  abbrev behind : List (List ℕ)
  behind = rows_behind levels ends order i

  abbrev rest : List Strided
  rest = map (strided_in levels ends strides) (drop (i + 1) order)

  rest_rows : map row_of rest ≡ behind
  rest_rows = map-map row_of (strided_in levels ends strides) (drop (i + 1) order)

  number : k < 32
  number = number_at r.table r.orders i r.place

  pub within : end ≤ 288
  within = (row_ends r.table k number).1

  here : part levels at end ≡ level ∷ part levels (at + 1) end
  here = part_cons at end levels r.inside (omega (arith, r.inside, within, r.table.long.0))

  row_here : ValidRow (level ∷ part levels (at + 1) end)
  row_here = rw here at r.row

  pub small_level : level ≤ 1000000000
  small_level = row_here.1 level (Memᴰ.head refl)

  counts : count (part levels at end ∷ behind) ≡ count behind + count (part levels (at + 1) end ∷ behind)
  counts = rw here (count_cons level (part levels (at + 1) end) behind)

  -- what the row of the search says
  row_is : search_row rows i ≡ row_at levels ends order strides i
  row_is = r.looks.rows_are i zero-le r.place

  end_is : (search_row rows i).end ≡ end
  end_is = ap (λ (row : Row). row.end) row_is

  stride_is : (search_row rows i).stride ≡ get_or strides k 0
  stride_is = ap (λ (row : Row). row.stride) row_is

  pub stride_fits : (search_row rows i).stride ≤ 65536
  stride_fits = omega (arith, stride_is, r.small k number)

  count_is : (search_row rows i).ways ≡ count behind
  count_is = ap (λ (row : Row). row.ways) row_is

  low_is : (search_row rows i).lows ≡ lowest_total behind
  low_is = ap (λ (row : Row). row.lows) row_is

  high_is : (search_row rows i).highs ≡ highest_total behind
  high_is = ap (λ (row : Row). row.highs) row_is

  left_here : left levels rows i at ≡ left_in levels ends order strides i at
  left_here = left_is r.orders r.looks i at r.place

  levels_behind : Each Levels (map row_of rest)
  levels_behind = rw rest_rows (from_levels r.table r.orders (i + 1))

  -- the sums fit
  pub sums_fit : (base + level ≤ 32000000000) × (base + level + (search_row rows i).lows ≤ 32000000000) × (base + level + (search_row rows i).highs ≤ 32000000000)
  sums_fit = let b = from_fits r.table r.orders (i + 1) (omega (arith, r.place)) in (
    omega (arith, r.base_fits, small_level, r.place),
    omega (arith, r.base_fits, small_level, low_is, r.place, b.0),
    omega (arith, r.base_fits, small_level, high_is, r.place, b.1),
  )

  pub room_here : (f.covering + (search_row rows i).ways ≤ 65536) × (f.kept ≤ f.covering)
  room_here = (omega (arith, r.room, counts, count_is), r.fewer)

  none_left : i + 1 ≡ 32 → lowest_total behind ≡ highest_total behind
  unfolding lowest_total highest_total total
  none_left e =
      let z : behind ≡ [] = ap (λ (n : ℕ). map (row_in levels ends) (drop n order)) e ∙ from_none r.table r.orders in
      ap lowest_total z ∙ sym (ap highest_total z)

  module _ (d : ℕ) where
    -- g has gone through the choices with the level at the place
    abbrev pub With : Tally → Type 0
    With g = g ≡ each_choice (offered d) rest (base + level) ix f

    pub none_covers : base + level + (search_row rows i).highs < d → With f
    none_covers h = sym (each_choice_none d rest (base + level) ix f (λ row m. (levels_behind row m).1) (rw rest_rows (omega (arith, high_is))))

    pub all_cover : d ≤ base + level + (search_row rows i).lows → With (more ((search_row rows i).ways) (base + level + (search_row rows i).lows) ix f)
    all_cover h =
        rw (count_is, low_is) (sym (rw rest_rows at (each_choice_all d rest (base + level) ix f levels_behind (rw rest_rows (omega (arith, low_is))))))

    -- where neither holds there is a row behind, which is gone into from its first level on
    module _ (between : (base + level + (search_row rows i).lows < d) × (d ≤ base + level + (search_row rows i).highs)) where
      pub next_place : i + 1 < 32
      next_place = ⊎_elim (λ q. q) (λ q. absurd (omega (arith, between, low_is, high_is, none_left (omega (arith, r.place))))) (le_or_lt (suc (i + 1)) 32)

      abbrev next : ℕ
      next = get_or order (i + 1) 0

      next_number : next < 32
      next_number = number_at r.table r.orders (i + 1) next_place

      next_start : (search_row rows (i + 1)).start ≡ start_of ends next
      next_start = ap (λ (row : Row). row.start) (r.looks.rows_are (i + 1) zero-le next_place)

      rest_left : rest ≡ left_in levels ends order strides (i + 1) (start_of ends next)
      rest_left = ap (map (strided_in levels ends strides)) (order_cons r.table r.orders (i + 1) next_place)

      pub rest_ready : Goes levels ends order strides rows (i + 1) (search_row rows (i + 1)).start (base + level) ix f
      rest_ready = rw next_start record {
        table = r.table;
        orders = r.orders;
        looks = r.looks;
        small = r.small;
        place = next_place;
        inside = (row_ends r.table next next_number).0;
        row = row_valid r.table next next_number;
        base_fits = omega (arith, r.base_fits, small_level);
        index_fits = omega (arith, r.index_fits, r.inside, within);
        room = omega (arith, r.room, counts, ap count (from_cons r.table r.orders (i + 1) next_place));
        fewer = r.fewer;
      }

      pub rest_with : (g : Tally) → g ≡ each_choice (offered d) (left levels rows (i + 1) (search_row rows (i + 1)).start) (base + level) ix f → With g
      rest_with g e = rw rest_left (rw (next_start, left_is r.orders r.looks (i + 1) (start_of ends next) next_place) at e)

    module _ (g : Tally) (w : With g) where
      -- it was the row's last level
      row_done_in : at + 1 ≡ end → g ≡ each_choice (offered d) (left_in levels ends order strides i at) base ix f
      unfolding each_choice each_level
      row_done_in e = let z : end - (at + 1) ≡ 0 = omega arith in w ∙ rw (here, z)

      pub row_done : at + 1 ≡ (search_row rows i).end → g ≡ each_choice (offered d) (left levels rows i at) base ix f
      row_done e = rw left_here (row_done_in (e ∙ end_is))

      go_on_in : (e : Tally) → e ≡ each_choice (offered d) (left_in levels ends order strides i (at + 1)) base (ix + get_or strides k 0) g →
          e ≡ each_choice (offered d) (left_in levels ends order strides i at) base ix f
      unfolding each_choice each_level
      go_on_in e q = q ∙ rw (w, here)

      pub go_on : (e : Tally) → e ≡ each_choice (offered d) (left levels rows i (at + 1)) base (ix + (search_row rows i).stride) g →
          e ≡ each_choice (offered d) (left levels rows i at) base ix f
      go_on e q = rw left_here (go_on_in e (rw (left_is r.orders r.looks i (at + 1) r.place, stride_is) at q))

      module _ (n : at + 1 ≡ (search_row rows i).end → ⊥) where
        pub next_ready : Goes levels ends order strides rows i (at + 1) base (ix + (search_row rows i).stride) g
        next_ready = rw stride_is record {
          table = r.table;
          orders = r.orders;
          looks = r.looks;
          small = r.small;
          place = r.place;
          inside = omega (arith, r.inside, end_is);
          row = (row_here.0.1, (λ v m. row_here.1 v (Memᴰ.tail m)));
          base_fits = r.base_fits;
          index_fits = omega (arith, r.index_fits, r.small k number);
          room =
              let c = each_choice_covers d rest (base + level) ix f in
              rw w (omega (arith, c, covering_few d (map row_of rest) (base + level), ap count rest_rows, r.room, counts));
          fewer = rw w (each_choice_fewer d rest (base + level) ix f r.fewer);
        }
