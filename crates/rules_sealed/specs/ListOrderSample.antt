-- A sealed auction in two list orders, computed (document 02, 13): two books with the same offers of each age and price, the two that are equal in
-- both in one order; what `AnyListOrder` asks is met, and each offer gets the same award.
use Rattle.std.specs.Prelude.{ℕ, ◌≡◌, refl, true, List, [], ◌∷◌}
use Rattle.rules_numbers.specs.Lists.{all}
use Rattle.rules_choices.specs.Search.{placed, by_falling}
use Rattle.rules_numbers.specs.reordering.Exchanges.{SameOfEach, Exchanged, neighbours, behind, further}
use Rattle.rules_numbers.specs.reordering.ExchangeLaws.{exchanged_same}
use Rattle.rules_choices.specs.insertion.Numbers.{numbers_from}
use Rattle.rules_sealed.specs.Sealed.{Offer, Book, book_of, offers, long_ok, offer_ok, book_ok, precedence, taking_order, awarded, left_behind, left_before}
use Rattle.rules_sealed.specs.Sealed.{left_at_turn, award_at, awards, left_over}
use Rattle.rules_sealed.specs.InWords.{of_kind, awarded_offers, SameAwards}
use Rattle.rules_sealed.specs.Precedence.{kind_once}
use Rattle.rules_sealed.specs.SealedLaws.{any_list_order}

-- an older group, and two offers of one age and price
abbrev older : Offer
older = record { price = 19000; quantity = 500; minimum = 500; age = 5 }

abbrev first : Offer
first = record { price = 18000; quantity = 300; minimum = 200; age = 2 }

abbrev second : Offer
second = record { price = 18000; quantity = 250; minimum = 50; age = 2 }

abbrev pub in_front : Book
in_front = book_of (19000 ∷ 18000 ∷ 18000 ∷ []) (500 ∷ 300 ∷ 250 ∷ []) (500 ∷ 200 ∷ 50 ∷ []) (5 ∷ 2 ∷ 2 ∷ [])

abbrev pub behind_them : Book
behind_them = book_of (18000 ∷ 18000 ∷ 19000 ∷ []) (300 ∷ 250 ∷ 500 ∷ []) (200 ∷ 50 ∷ 500 ∷ []) (2 ∷ 2 ∷ 5 ∷ [])

pub both_accepted : (book_ok in_front ≡ true) × (book_ok behind_them ≡ true)
unfolding all numbers_from long_ok offer_ok book_ok
both_accepted = (refl, refl)

one_back : Exchanged of_kind (older ∷ first ∷ second ∷ []) (first ∷ older ∷ second ∷ [])
one_back = neighbours (5, 19000) (2, 18000) refl refl refl

two_back : Exchanged of_kind (first ∷ older ∷ second ∷ []) (first ∷ second ∷ older ∷ [])
two_back = behind first (neighbours (5, 19000) (2, 18000) refl refl refl)

abbrev pub SameOffers : Type 0
SameOffers = SameOfEach of_kind (offers in_front) (offers behind_them)

pub same_offers : SameOffers
unfolding numbers_from
same_offers = exchanged_same of_kind kind_once (further one_back two_back)

pub same_awards : (demand : ℕ) → SameAwards demand in_front behind_them
same_awards demand = any_list_order demand in_front behind_them both_accepted.0 both_accepted.1 same_offers

-- so the second of the two gets the same in both orders, and as much is left
pub in_either_order :
    SameOfEach (λ g t. of_kind g t.0) (awarded_offers 845 in_front) (awarded_offers 845 behind_them) × (left_over 845 in_front ≡ left_over 845 behind_them)
in_either_order = let k = same_awards 845 in (k.awarded, k.left)

-- 500 to the older group, then 300; 45 are left, less than the last one's minimum
pub in_list_order : (awards 845 in_front ≡ 500 ∷ 300 ∷ 0 ∷ []) × (awards 845 behind_them ≡ 300 ∷ 0 ∷ 500 ∷ []) × (left_over 845 in_front ≡ 45)
unfolding placed by_falling numbers_from precedence taking_order awarded left_behind left_before left_at_turn award_at awards left_over
in_list_order = (refl, refl, refl)
