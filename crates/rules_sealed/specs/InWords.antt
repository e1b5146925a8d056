-- What the sealed auction's awards are, in the request's words (document 02, 13).
use Rattle.std.specs.Prelude.{ℕ, ◌+◌, ◌≤◌, ◌<◌, min, ◌≡◌, ◌⊎◌, Bool, true, ◌&&◌, eqb}
use mathlib.Core.List.{List, [], ◌∷◌, ◌++◌, map, Memᴰ}
use Rattle.rules_numbers.specs.Lists.{total}
use Rattle.rules_numbers.specs.ListLaws.{Each}
use Rattle.rules_numbers.specs.reordering.Exchanges.{SameOfEach}
use Rattle.rules_sealed.specs.Sealed.{Offer, Book, size, offer_at, places, offers, book_ok, taking_order, left_at_turn, award_at, awards, left_over}

-- the offer at place j is taken before the one at place k: its group is older; or as old, and its price lower; or equal in both, and it stands
-- in front
abbrev pub TakenBefore : Book → ℕ → ℕ → Type 0
TakenBefore b j k =
    let x = offer_at b j in
    let y = offer_at b k in
    (y.age < x.age) ⊎ ((x.age ≡ y.age) × ((x.price < y.price) ⊎ ((x.price ≡ y.price) × (j < k))))

-- each stands before all behind it
unfoldable pub InOrder : Book → List ℕ → Type 0
InOrder b [] = Unit {0}
InOrder b (j ∷ ks) = Each (TakenBefore b j) ks × InOrder b ks

pub record InWords (demand : ℕ) (b : Book) : Type 0 where
  -- each place has its turn, and the turns are in order
  pub every : (k : ℕ) → (k < size b → Memᴰ k (taking_order b)) × (Memᴰ k (taking_order b) → k < size b)
  pub order : InOrder b (taking_order b)
  -- the awards and what is left sum to the demand
  pub sum : total (awards demand b) + left_over demand b ≡ demand
  -- what is left at a turn, and the awards of those before it, sum to the demand
  pub left :
      (front : List ℕ) (k : ℕ) (behind : List ℕ) → taking_order b ≡ front ++ (k ∷ behind) → left_at_turn demand b k + total (map (award_at demand b) front) ≡ demand
  -- each gets the lesser of its quantity and what is left, unless that is below its minimum
  pub lesser :
      (k : ℕ) → k < size b → (offer_at b k).minimum ≤ left_at_turn demand b k → award_at demand b k ≡ min (offer_at b k).quantity (left_at_turn demand b k)
  -- an offer gets nothing exactly when less than its minimum is left at its turn
  pub nothing :
      (k : ℕ) → k < size b →
      (award_at demand b k ≡ 0 → left_at_turn demand b k < (offer_at b k).minimum) × (left_at_turn demand b k < (offer_at b k).minimum → award_at demand b k ≡ 0)
  -- each award is 0, or from its minimum to its quantity
  pub range :
      (k : ℕ) → k < size b →
      (award_at demand b k ≡ 0) ⊎ (((offer_at b k).minimum ≤ award_at demand b k) × (award_at demand b k ≤ (offer_at b k).quantity))

-- ---- whatever the order in the list, except among offers equal in age and price

-- an offer of this age and price
abbrev pub of_kind : ℕ × ℕ → Offer → Bool
of_kind g o = eqb o.age g.0 && eqb o.price g.1

-- each offer with its award, in list order
abbrev pub awarded_offers : ℕ → Book → List (Offer × ℕ)
awarded_offers demand b = map (λ k. (offer_at b k, award_at demand b k)) (places b)

-- two books with the same offers of each age and price in the same order: the same awards to them, and as much is left
pub record SameAwards (demand : ℕ) (b b' : Book) : Type 0 where
  pub awarded : SameOfEach (λ g t. of_kind g t.0) (awarded_offers demand b) (awarded_offers demand b')
  pub left : left_over demand b ≡ left_over demand b'

abbrev pub AnyListOrder : Type 0
AnyListOrder = (demand : ℕ) (b b' : Book) → book_ok b ≡ true → book_ok b' ≡ true → SameOfEach of_kind (offers b) (offers b') → SameAwards demand b b'
