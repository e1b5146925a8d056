-- Small books whose search is computed, each by hand from the words of document 02, 3: the totals of the complete choices not set aside, the
-- latest first.
use Rattle.std.specs.Prelude.{◌≡◌, refl, [], ◌∷◌}
use Rattle.rules_numbers.specs.Lists.{keep, total, last_or, any}
use Rattle.rules_choices.specs.Search.{placed, by_falling, order, lowest_total, highest_total, above_best, set_aside, in_turn, searched, given, found}

-- The larger high first: 100 and 0 do not cover, 100 and 150 make 1,070, 200 and 0 make 1,020, and with 150 in place of 0 they are above it.
-- (By rising high 1,020 would come first, and with it alone.)
-- Of equal highs the lower number first: 0 and 4 do not cover, 0 and 10 make 10, and 10 with 4 is above it. (The other way round 14 would be
-- found before it.)
-- An equal total is not above the best: both 5 are found.
-- Nothing covers: nothing is found. One level each: one choice.
pub books :
    (found 970 ((820 ∷ []) ∷ (0 ∷ 150 ∷ []) ∷ (100 ∷ 200 ∷ []) ∷ []) ≡ 1020 ∷ 1070 ∷ [])
    × (found 10 ((0 ∷ 10 ∷ []) ∷ (4 ∷ 10 ∷ []) ∷ []) ≡ 10 ∷ [])
    × (found 5 ((0 ∷ 5 ∷ []) ∷ (0 ∷ 5 ∷ []) ∷ []) ≡ 5 ∷ 5 ∷ [])
    × (found 11 ((0 ∷ 5 ∷ []) ∷ (0 ∷ 5 ∷ []) ∷ []) ≡ [])
    × (found 7 ((3 ∷ []) ∷ (4 ∷ []) ∷ []) ≡ 7 ∷ [])
unfolding keep total last_or any placed by_falling order lowest_total highest_total above_best set_aside in_turn searched given found
books = (refl, refl, refl, refl, refl)
