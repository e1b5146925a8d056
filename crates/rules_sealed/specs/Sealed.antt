-- The sealed auction for long builds (document 02, 13): offers, refusals, the order in which offers are taken, awards and what is left.
use Rattle.std.specs.Prelude.{ℕ, ◌+◌, ◌*◌, ◌-◌, min, Bool, cond, ◌&&◌, List, [], ◌∷◌, map, eqb, leb, ltb, length, get_or}
use Rattle.rules_numbers.specs.Lists.{all}
use Rattle.rules_numbers.specs.Tails.{laid}
use Rattle.rules_choices.specs.Search.{by_falling}
use Rattle.rules_auction.specs.Refusals.{check}
use Rattle.rules_choices.specs.insertion.Numbers.{numbers_from}

-- price, quantity and minimum, and the age of the group in years
pub record Offer : Type 0 where
  pub price : ℕ
  pub quantity : ℕ
  pub minimum : ℕ
  pub age : ℕ

-- the offers, field by field, in list order
pub record Book : Type 0 where
  pub prices : List ℕ
  pub quantities : List ℕ
  pub minimums : List ℕ
  pub ages : List ℕ

abbrev pub book_of : List ℕ → List ℕ → List ℕ → List ℕ → Book
book_of ps qs ms gs = record { prices = ps; quantities = qs; minimums = ms; ages = gs }

abbrev pub size : Book → ℕ
size b = length b.prices

-- places are counted from 0
abbrev pub offer_at : Book → ℕ → Offer
offer_at b k = record { price = get_or b.prices k 0; quantity = get_or b.quantities k 0; minimum = get_or b.minimums k 0; age = get_or b.ages k 0 }

abbrev pub places : Book → List ℕ
places b = numbers_from 0 (size b)

abbrev pub offers : Book → List Offer
offers b = map (offer_at b) (places b)

-- ---- refusals

abbrev pub top_price : ℕ
top_price = 1000000

-- the most offers in a list
abbrev pub most_offers : ℕ
most_offers = 16

-- the greatest age, in years
abbrev pub oldest : ℕ
oldest = 20

abbrev pub is_price : ℕ → Bool
is_price p = leb 1 p && leb p top_price

-- one length for all four lists, within its bound
unfoldable pub long_ok : Book → Bool
long_ok b = leb (size b) most_offers && eqb (length b.quantities) (size b) && eqb (length b.minimums) (size b) && eqb (length b.ages) (size b)

-- quantities of 1 to 10^9, minimums of 1 to the quantity, ages of 0 to the greatest
unfoldable pub offer_ok : Offer → Bool
offer_ok o =
    is_price o.price && leb 1 o.quantity && leb o.quantity 1000000000 && leb 1 o.minimum && leb o.minimum o.quantity && leb o.age oldest

unfoldable pub book_ok : Book → Bool
book_ok b = long_ok b && all offer_ok (offers b)

-- 18 for too many offers or a field out of bounds, the ceiling price and a demand over 10^11 among them; then 19 for an offered price above
-- the ceiling
unfoldable pub sealed_refusal : ℕ → ℕ → Book → ℕ
sealed_refusal ceiling demand b =
    check (is_price ceiling && leb demand 100000000000 && book_ok b) 18
    (check (all (λ o. leb o.price ceiling) (offers b)) 19 0)

-- ---- the order: falling age, then rising price, then as in the list

-- the larger, the earlier an offer is taken: the age, and of equal ages the price from the top down
unfoldable pub precedence : Offer → ℕ
precedence o = o.age * top_price + (top_price - o.price)

-- the places in the order in which their offers are taken
unfoldable pub taking_order : Book → List ℕ
taking_order b = by_falling (λ k. precedence (offer_at b k)) (places b)

-- ---- awards

-- the lesser of its quantity and what is left, or nothing if that is below its minimum
unfoldable pub awarded : ℕ → Offer → ℕ
awarded left o = let a = min o.quantity left in cond (ltb a o.minimum) 0 a

-- what is left of `left` when the offers at the places ks are taken in turn
unfoldable pub left_behind : (ℕ → Offer) → ℕ → List ℕ → ℕ
left_behind f left [] = left
left_behind f left (k ∷ ks) = left_behind f (left - awarded left (f k)) ks

-- what is left at the turn of place k
unfoldable pub left_before : (ℕ → Offer) → ℕ → ℕ → List ℕ → ℕ
left_before f left k [] = left
left_before f left k (j ∷ js) = cond (eqb j k) left (left_before f (left - awarded left (f j)) k js)

unfoldable pub left_at_turn : ℕ → Book → ℕ → ℕ
left_at_turn demand b k = left_before (offer_at b) demand k (taking_order b)

unfoldable pub award_at : ℕ → Book → ℕ → ℕ
award_at demand b k = awarded (left_at_turn demand b k) (offer_at b k)

-- the award of each offer, in list order
unfoldable pub awards : ℕ → Book → List ℕ
awards demand b = map (award_at demand b) (places b)

unfoldable pub left_over : ℕ → Book → ℕ
left_over demand b = left_behind (offer_at b) demand (taking_order b)

-- ---- the answer; a refusal has no award, and 0 left

pub record Sealing : Type 0 where
  pub number : ℕ
  pub awards : List ℕ
  pub left : ℕ

unfoldable pub sealing : ℕ → ℕ → Book → Sealing
sealing ceiling demand b =
    let n = sealed_refusal ceiling demand b in
    cond (eqb n 0) (record { number = 0; awards = awards demand b; left = left_over demand b }) (record { number = n; awards = []; left = 0 })

-- ---- the awards in a lent buffer, from its start; 11, tested last, for one shorter than the list

unfoldable pub lent_refusal : ℕ → ℕ → Book → ℕ → ℕ
lent_refusal ceiling demand b room = let n = sealed_refusal ceiling demand b in cond (eqb n 0) (check (leb (size b) room) 11 0) n

-- what is left, 0 where the call is refused
unfoldable pub lent_left : ℕ → ℕ → Book → ℕ → ℕ
lent_left ceiling demand b room = cond (eqb (lent_refusal ceiling demand b room) 0) (left_over demand b) 0

-- a refusal leaves the buffer
unfoldable pub lent_awards : ℕ → ℕ → Book → List ℕ → List ℕ
lent_awards ceiling demand b old = cond (eqb (lent_refusal ceiling demand b (length old)) 0) (laid (awards demand b) old) old
