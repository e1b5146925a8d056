-- The ten marked cases of document 01, Demand: CE 20,000, D 1,000, M1 900, M2 1,200. Computed, for Dem in words and by formulas alike; and
-- the remainders beside them (document 02, 4).
use Rattle.std.specs.Prelude.{◌≡◌, refl, ℕ}
use Rattle.rules_numbers.specs.Least.{least_from}
use Rattle.rules_demand.specs.Curve.{demand_curve, priced}
use Rattle.rules_demand.specs.Demand.{dem, dem_in_words}
use Rattle.rules_demand.specs.Remainder.{exact_times_ce, remainder}

abbrev pub Marked : (ℕ → ℕ) → Type 0
Marked f =
    (f 40000 ≡ 900) × (f 30001 ≡ 950) × (f 30000 ≡ 950) × (f 29999 ≡ 951) × (f 25999 ≡ 971)
    × (f 20000 ≡ 1000) × (f 19999 ≡ 1001) × (f 19950 ≡ 1001) × (f 19949 ≡ 1002) × (f 10000 ≡ 1200)

abbrev pub MarkedRemainders : (ℕ → ℕ) → Type 0
MarkedRemainders f =
    (f 40000 ≡ 0) × (f 30001 ≡ 100) × (f 30000 ≡ 0) × (f 29999 ≡ 19900) × (f 25999 ≡ 19900)
    × (f 20000 ≡ 0) × (f 19999 ≡ 19600) × (f 19950 ≡ 0) × (f 19949 ≡ 19600) × (f 10000 ≡ 0)

abbrev pub MarkedCases : Type 0
MarkedCases =
    Marked (dem_in_words 20000 1000 900 1200)
    × Marked (dem 20000 1000 900 1200)
    × MarkedRemainders (remainder 20000 1000 900 1200)

words_marked : Marked (dem_in_words 20000 1000 900 1200)
unfolding dem_in_words least_from priced demand_curve
words_marked = (refl, refl, refl, refl, refl, refl, refl, refl, refl, refl)

formulas_marked : Marked (dem 20000 1000 900 1200)
unfolding dem
formulas_marked = (refl, refl, refl, refl, refl, refl, refl, refl, refl, refl)

remainders_marked : MarkedRemainders (remainder 20000 1000 900 1200)
unfolding dem remainder exact_times_ce
remainders_marked = (refl, refl, refl, refl, refl, refl, refl, refl, refl, refl)

pub marked_cases : MarkedCases
marked_cases = (words_marked, formulas_marked, remainders_marked)
