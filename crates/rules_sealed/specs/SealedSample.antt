-- Sealed auctions, computed (document 02, 13): a book with a tie, an offer that gets nothing with a later one that gets something, one that gets
-- what is left; and each refusal, 18 before 19 before 11.
use Rattle.std.specs.Prelude.{ℕ, ◌≡◌, refl, [], ◌∷◌, map, replicate}
use Rattle.rules_numbers.specs.Lists.{all}
use Rattle.rules_numbers.specs.Tails.{laid}
use Rattle.rules_choices.specs.Search.{placed, by_falling}
use Rattle.rules_choices.specs.insertion.Numbers.{numbers_from}
use Rattle.rules_sealed.specs.Sealed.{Book, book_of, long_ok, offer_ok, book_ok, sealed_refusal, precedence, taking_order, awarded, left_behind, left_before}
use Rattle.rules_sealed.specs.Sealed.{left_at_turn, award_at, awards, left_over, sealing, lent_refusal, lent_left, lent_awards}

-- the group of the second is the oldest; of the three next, two are equal in age and price; the first is dearer; the last group is the youngest
abbrev five : Book
five =
    book_of (21000 ∷ 19000 ∷ 18000 ∷ 18000 ∷ 17000 ∷ []) (400 ∷ 500 ∷ 300 ∷ 250 ∷ 60 ∷ []) (100 ∷ 500 ∷ 200 ∷ 50 ∷ 50 ∷ []) (2 ∷ 5 ∷ 2 ∷ 2 ∷ 0 ∷ [])

abbrev same : ℕ → ℕ → ℕ → ℕ → ℕ → Book
same n p q m g = book_of (replicate n p) (replicate n q) (replicate n m) (replicate n g)

abbrev Sample : Type 0
Sample =
    (sealing 30000 1130 five ≡ record { number = 0; awards = 0 ∷ 500 ∷ 300 ∷ 250 ∷ 60 ∷ []; left = 20 })
    × (taking_order five ≡ 1 ∷ 2 ∷ 3 ∷ 0 ∷ 4 ∷ [])
    × (map (left_at_turn 1130 five) (0 ∷ 1 ∷ 2 ∷ 3 ∷ 4 ∷ []) ≡ 80 ∷ 1130 ∷ 630 ∷ 330 ∷ 80 ∷ [])
    -- exactly the minimum left, and one less
    × (map (λ d. awards d five) (700 ∷ 699 ∷ []) ≡ (0 ∷ 500 ∷ 200 ∷ 0 ∷ 0 ∷ []) ∷ (0 ∷ 500 ∷ 0 ∷ 199 ∷ 0 ∷ []) ∷ [])
    × (sealing 30000 0 (same 2 1 1 1 20) ≡ record { number = 0; awards = 0 ∷ 0 ∷ []; left = 0 })
    × (sealing 1 100000000000 (same 0 0 0 0 0) ≡ record { number = 0; awards = []; left = 100000000000 })

abbrev Refused : Type 0
Refused =
    -- the top of each bound
    (sealed_refusal 1000000 100000000000 (same 16 1000000 1000000000 1000000000 20) ≡ 0)
    × (map (λ n. sealed_refusal 5 9 (same n 5 3 2 0)) (0 ∷ 16 ∷ 17 ∷ []) ≡ 0 ∷ 0 ∷ 18 ∷ [])
    × (map (λ c. sealed_refusal c 9 (same 1 5 3 2 0)) (0 ∷ 4 ∷ 5 ∷ 1000001 ∷ []) ≡ 18 ∷ 19 ∷ 0 ∷ 18 ∷ [])
    × (sealed_refusal 5 100000000001 (same 1 5 3 2 0) ≡ 18)
    × (map (λ p. sealed_refusal 1000000 9 (same 1 p 3 2 0)) (0 ∷ 1 ∷ 1000000 ∷ 1000001 ∷ []) ≡ 18 ∷ 0 ∷ 0 ∷ 18 ∷ [])
    × (map (λ q. sealed_refusal 5 9 (same 1 5 q 1 0)) (0 ∷ 1 ∷ 1000000000 ∷ 1000000001 ∷ []) ≡ 18 ∷ 0 ∷ 0 ∷ 18 ∷ [])
    × (map (λ m. sealed_refusal 5 9 (same 1 5 3 m 0)) (0 ∷ 1 ∷ 3 ∷ 4 ∷ []) ≡ 18 ∷ 0 ∷ 0 ∷ 18 ∷ [])
    × (map (λ g. sealed_refusal 5 9 (same 1 5 3 2 g)) (0 ∷ 20 ∷ 21 ∷ []) ≡ 0 ∷ 0 ∷ 18 ∷ [])
    -- lists of different lengths
    × (map (λ n. sealed_refusal 5 9 (book_of (5 ∷ []) (replicate n 3) (2 ∷ []) (0 ∷ []))) (0 ∷ 1 ∷ 2 ∷ []) ≡ 18 ∷ 0 ∷ 18 ∷ [])
    × (map (λ n. sealed_refusal 5 9 (book_of (5 ∷ []) (3 ∷ []) (replicate n 2) (0 ∷ []))) (0 ∷ 1 ∷ 2 ∷ []) ≡ 18 ∷ 0 ∷ 18 ∷ [])
    × (map (λ n. sealed_refusal 5 9 (book_of (5 ∷ []) (3 ∷ []) (2 ∷ []) (replicate n 0))) (0 ∷ 1 ∷ 2 ∷ []) ≡ 18 ∷ 0 ∷ 18 ∷ [])
    -- the first is above the ceiling, the second has no quantity
    × (sealed_refusal 4 9 (book_of (5 ∷ 3 ∷ []) (3 ∷ 0 ∷ []) (2 ∷ 1 ∷ []) (0 ∷ 0 ∷ [])) ≡ 18)
    × (map (lent_refusal 4 9 (same 2 5 3 2 0)) (0 ∷ 2 ∷ []) ≡ 19 ∷ 19 ∷ [])
    × (map (lent_refusal 5 9 (same 2 5 3 2 0)) (1 ∷ 2 ∷ 3 ∷ []) ≡ 11 ∷ 0 ∷ 0 ∷ [])
    × (map (lent_left 5 9 (same 2 5 3 2 0)) (1 ∷ 2 ∷ []) ≡ 0 ∷ 3 ∷ [])
    × (map (lent_awards 5 9 (same 2 5 3 2 0)) ((7 ∷ []) ∷ (7 ∷ 8 ∷ 9 ∷ []) ∷ []) ≡ (7 ∷ []) ∷ (3 ∷ 3 ∷ 9 ∷ []) ∷ [])

pub sample : Sample
unfolding all placed by_falling numbers_from long_ok offer_ok book_ok sealed_refusal precedence taking_order awarded left_behind left_before left_at_turn award_at awards left_over sealing
sample = (refl, refl, refl, refl, refl, refl)

pub refused : Refused
unfolding all placed by_falling numbers_from long_ok offer_ok book_ok sealed_refusal precedence taking_order awarded left_behind left_before left_at_turn award_at awards left_over laid lent_refusal lent_left lent_awards
refused = (refl, refl, refl, refl, refl, refl, refl, refl, refl, refl, refl, refl, refl, refl, refl, refl)
