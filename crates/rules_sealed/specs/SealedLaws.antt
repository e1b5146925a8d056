-- The sealed auction's awards are as the request says them, and they depend on the order in the list only among offers equal in age and price.
use Rattle.std.specs.Prelude.{ℕ, ◌+◌, ◌<◌, ◌≡◌, refl, true}
use Rattle.std.proofs.Common.{sym, ◌∙◌, inl, inr, ⊎_elim, arith}
use Rattle.std.proofs.Math.Path.{ap, subst}
use mathlib.Core.List.Memᴰ
use mathlib.Core.List.{List, [], ◌∷◌, ◌++◌, map, map-map}
use Rattle.rules_numbers.specs.Lists.{keep, total}
use Rattle.rules_numbers.specs.ListLaws.{Each}
use Rattle.rules_choices.specs.Search.{by_falling}
use Rattle.rules_choices.specs.Falling.{map_falling, total_any}
use Rattle.rules_choices.specs.Pairwise.{Pairwise, Distinct}
use Rattle.rules_numbers.specs.reordering.Exchanges.{SameOfEach}
use Rattle.rules_numbers.specs.reordering.ExchangeLaws.{exchanged}
use Rattle.rules_sealed.specs.Sealed.{Offer, Book, size, offer_at, places, offers, offer_ok, book_ok, precedence, taking_order, awarded, left_before}
use Rattle.rules_sealed.specs.Sealed.{left_at_turn, award_at, awards, left_over}
use Rattle.rules_sealed.specs.InWords.{TakenBefore, InOrder, InWords, of_kind, awarded_offers, AnyListOrder}
use Rattle.rules_sealed.specs.Precedence.{offers_ok, bounds_at, ranks_higher, ranks_equal, of_kind_lem, kind_once, kind_ranks, kinds_apart}
use Rattle.rules_sealed.specs.Sorting.{Ahead, keep_falling, falling_exchanged}
use Rattle.rules_sealed.specs.Taken.{taken, left_after, awarded_range, awarded_lesser, awarded_nothing, taken_sum, behind_is, taken_is, before_sum}
use Rattle.rules_sealed.specs.ServedLaws.{rank, taking_order_any, taking_order_within, taking_order_all, taking_order_order, taking_order_distinct}

-- ---- the offers as they are taken

abbrev queue : Book → List Offer
queue b = by_falling precedence (offers b)

queue_is : (b : Book) → map (offer_at b) (taking_order b) ≡ queue b
unfolding taking_order
queue_is b = map_falling precedence (offer_at b) (places b)

module _ (demand : ℕ) (b : Book) where
  abbrev awarded_at : ℕ → Offer × ℕ
  awarded_at k = (offer_at b k, award_at demand b k)

  taken_in_order : map awarded_at (taking_order b) ≡ taken demand (queue b)
  unfolding award_at left_at_turn
  taken_in_order = taken_is (offer_at b) demand (taking_order b) (taking_order_distinct b) ∙ ap (taken demand) (queue_is b)

  left_is : left_over demand b ≡ left_after demand (queue b)
  unfolding left_over
  left_is = behind_is (offer_at b) demand (taking_order b) ∙ ap (left_after demand) (queue_is b)

  total_is : total (awards demand b) ≡ total (map (λ t. t.1) (taken demand (queue b)))
  unfolding awards
  total_is =
      taking_order_any b (total_any (award_at demand b))
      ∙ ap total (sym (map-map (λ (t : Offer × ℕ). t.1) awarded_at (taking_order b)) ∙ ap (map (λ (t : Offer × ℕ). t.1)) taken_in_order)

  left_before_lem :
      (front : List ℕ) (k : ℕ) (behind : List ℕ) → taking_order b ≡ front ++ (k ∷ behind) → left_at_turn demand b k + total (map (award_at demand b) front) ≡ demand
  unfolding award_at left_at_turn
  left_before_lem front k behind e =
      subst
      (λ (ks : List ℕ). left_before (offer_at b) demand k ks + total (map (λ j. awarded (left_before (offer_at b) demand j ks) (offer_at b j)) front) ≡ demand)
      (sym e)
      (before_sum (offer_at b) demand front k behind (subst Distinct e (taking_order_distinct b)))

-- ---- in words

module _ (b : Book) (ok : book_ok b ≡ true) where
  before : (j k : ℕ) → j < size b → k < size b → Ahead (rank b) j k → TakenBefore b j k
  before j k g h =
      ⊎_elim
      (λ l. ⊎_elim (λ a. inl a) (λ a. inr (a.0, inl a.1)) (ranks_higher (offer_at b j) (offer_at b k) (bounds_at b ok j g) (bounds_at b ok k h) l))
      (λ l. let a = ranks_equal (offer_at b j) (offer_at b k) (bounds_at b ok j g) (bounds_at b ok k h) l.0 in inr (a.0, inr (a.1, l.1)))

  in_order_lem : (ks : List ℕ) → Each (λ k. k < size b) ks → Pairwise (Ahead (rank b)) ks → InOrder b ks
  unfolding InOrder
  in_order_lem [] h p = tt
  in_order_lem (j ∷ ks) h p = (
    (λ k m. before j k (h j (Memᴰ.head refl)) (h k (Memᴰ.tail m)) (p.0 k m)),
    in_order_lem ks (λ k m. h k (Memᴰ.tail m)) p.1,
  )

pub in_words : (demand : ℕ) (b : Book) → book_ok b ≡ true → InWords demand b
unfolding award_at
in_words demand b ok = record {
  every = λ k. (taking_order_all b k, taking_order_within b k);
  order = in_order_lem b ok (taking_order b) (taking_order_within b) (taking_order_order b);
  sum = omega (arith, total_is demand b, left_is demand b, taken_sum demand (queue b));
  left = left_before_lem demand b;
  lesser = λ k h. awarded_lesser (left_at_turn demand b k) (offer_at b k) (bounds_at b ok k h).within;
  nothing = λ k h. let i = bounds_at b ok k h in awarded_nothing (left_at_turn demand b k) (offer_at b k) i.some i.within;
  range = λ k h. awarded_range (left_at_turn demand b k) (offer_at b k);
}

-- ---- whatever the order in the list

someones : (o : Offer) → offer_ok o ≡ true → (g : ℕ × ℕ) × (of_kind g o ≡ true)
someones o e = ((o.age, o.price), of_kind_lem (o.age, o.price) o refl refl)

queue_same : (b b' : Book) → book_ok b ≡ true → book_ok b' ≡ true → SameOfEach of_kind (offers b) (offers b') → queue b ≡ queue b'
queue_same b b' ok ok' same =
    let o = offers_ok b ok in
    falling_exchanged precedence offer_ok kinds_apart (exchanged of_kind kind_once offer_ok someones (offers b) (offers b') o (offers_ok b' ok') same) o

abbrev picked_out : ℕ × ℕ → List (Offer × ℕ) → List (Offer × ℕ)
picked_out g ts = keep (λ t. of_kind g t.0) ts

-- those of one age and price, in list order, are those as they are taken
taken_of_kind : (demand : ℕ) (b : Book) (g : ℕ × ℕ) → picked_out g (awarded_offers demand b) ≡ picked_out g (taken demand (queue b))
unfolding taking_order
taken_of_kind demand b g =
    sym (keep_falling (λ t. precedence t.0) (λ t. of_kind g t.0) (λ x y. kind_ranks g x.0 y.0) (awarded_offers demand b))
    ∙ ap (picked_out g) (sym (map_falling (λ (t : Offer × ℕ). precedence t.0) (awarded_at demand b) (places b)) ∙ taken_in_order demand b)

pub any_list_order : AnyListOrder
any_list_order demand b b' ok ok' same =
    let e = queue_same b b' ok ok' same in
    record {
      awarded = λ g. taken_of_kind demand b g ∙ ap (λ (os : List Offer). picked_out g (taken demand os)) e ∙ sym (taken_of_kind demand b' g);
      left = left_is demand b ∙ ap (left_after demand) e ∙ sym (left_is demand b');
    }
