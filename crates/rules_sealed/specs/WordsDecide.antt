-- The request's words decide the sealed auction (document 02, 13): any two orders of turns, lists of awards and rests of which they hold are equal,
-- and they hold of `taking_order`, `awards` and `left_over` by what `InWords` says of these. So no word of `InWords` that decides can be lost unseen.
use Rattle.std.specs.Prelude.{ℕ, ◌+◌, ◌-◌, ◌≤◌, ◌<◌, min, ◌≡◌, ◌⊎◌, length, get_or}
use Rattle.std.proofs.Math.Path.{refl, sym, ap, ap₂}
use Rattle.std.proofs.Common.{subst, ◌∙◌, inl, inr, zero-add, ext_get_or}
use Rattle.std.proofs.Math.Logic.{⊎_elim}
use mathlib.Core.List.Memᴰ
use mathlib.Core.List.{List, [], ◌∷◌, ◌++◌, map, map-append, append_assoc, Memᴰ}
use native.Mathlib.Omega.{arith}
use Rattle.rules_numbers.specs.Cases.{le_or_lt}
use Rattle.rules_numbers.specs.Lists.{total}
use Rattle.rules_numbers.specs.ListLaws.{Each, map_same, total_append}
use Rattle.rules_choices.specs.insertion.Numbers.{map_numbers_nth}
use Rattle.rules_sealed.specs.Sealed.{Book, size, offer_at, taking_order, left_at_turn, award_at, awards, left_over}
use Rattle.rules_sealed.specs.InWords.{TakenBefore, InOrder, InWords}
use Rattle.rules_sealed.specs.ServedLaws.{awards_long}

-- of awards in list order, the one at place k
abbrev pub award_in : List ℕ → ℕ → ℕ
award_in given k = get_or given k 0

-- what is left at the turn of place k, with the awards before it, sums to the demand
pub record AtTurn (demand : ℕ) (order given front : List ℕ) (k : ℕ) (behind : List ℕ) (left : ℕ) : Type 0 where
  pub turn : order ≡ front ++ (k ∷ behind)
  pub sums : left + total (map (award_in given) front) ≡ demand

-- an order of turns, awards in list order and a rest, as the request says them
pub record AsAsked (demand : ℕ) (b : Book) (order given : List ℕ) (rest : ℕ) : Type 0 where
  -- an award for each offer
  pub long : length given ≡ size b
  -- each place has its turn, and the turns are in order
  pub every : (k : ℕ) → (k < size b → Memᴰ k order) × (Memᴰ k order → k < size b)
  pub ordered : InOrder b order
  -- the awards and the rest sum to the demand
  pub sum : total given + rest ≡ demand
  -- an offer that gets something gets the lesser of its quantity and what is left at its turn
  pub lesser :
      (front : List ℕ) (k : ℕ) (behind : List ℕ) (left : ℕ) → AtTurn demand order given front k behind left →
      (award_in given k ≡ 0 → ⊥) → award_in given k ≡ min (offer_at b k).quantity left
  -- it gets nothing exactly when less than its minimum is left then
  pub nothing :
      (front : List ℕ) (k : ℕ) (behind : List ℕ) (left : ℕ) → AtTurn demand order given front k behind left →
      (award_in given k ≡ 0 → left < (offer_at b k).minimum) × (left < (offer_at b k).minimum → award_in given k ≡ 0)

-- ---- one order

-- by age, price and place
abbrev Earlier : ℕ → ℕ → ℕ → ℕ → ℕ → ℕ → Type 0
Earlier a p j a' p' k = (a' < a) ⊎ ((a ≡ a') × ((p < p') ⊎ ((p ≡ p') × (j < k))))

not_both : (a p j a' p' k : ℕ) → Earlier a p j a' p' k → Earlier a' p' k a p j → ⊥
not_both a p j a' p' k h g =
    ⊎_elim
    (λ x. ⊎_elim (λ y. omega arith) (λ y. omega (arith, y.0)) g)
    (λ x. ⊎_elim (λ y. omega (arith, x.0)) (λ y. same_age x.1 y.1) g)
    h
  where
    same_age : (p < p') ⊎ ((p ≡ p') × (j < k)) → (p' < p) ⊎ ((p' ≡ p) × (k < j)) → ⊥
    same_age u v =
        ⊎_elim
        (λ x. ⊎_elim (λ y. omega arith) (λ y. omega (arith, y.0)) v)
        (λ x. ⊎_elim (λ y. omega (arith, x.0)) (λ y. omega (arith, x.1, y.1)) v)
        u

module _ (b : Book) where
  apart : (j k : ℕ) → TakenBefore b j k → TakenBefore b k j → ⊥
  apart j k = not_both (offer_at b j).age (offer_at b j).price j (offer_at b k).age (offer_at b k).price k

  never_itself : (x z : ℕ) → z ≡ x → TakenBefore b x z → ⊥
  never_itself x z e t = let s : TakenBefore b x x = subst (λ (w : ℕ). TakenBefore b x w) e t in apart x x s s

  -- the places of one list are those of the other
  one_order : (xs ys : List ℕ) → InOrder b xs → InOrder b ys →
      ((z : ℕ) → Memᴰ z xs → Memᴰ z ys) → ((z : ℕ) → Memᴰ z ys → Memᴰ z xs) → xs ≡ ys
  unfolding InOrder
  one_order [] [] p q f g = refl
  one_order [] (y ∷ ys) p q f g = absurd (Memᴰ.not-nil (g y (Memᴰ.head refl)))
  one_order (x ∷ xs) [] p q f g = absurd (Memᴰ.not-nil (f x (Memᴰ.head refl)))
  one_order (x ∷ xs) (y ∷ ys) p q f g =
      ap₂ ◌∷◌ first
      (one_order xs ys p.1 q.1
      (λ z m. ⊎_elim (λ e. absurd (never_itself x z (e ∙ sym first) (p.0 z m))) (λ n. n) (Memᴰ.cases_cons (f z (Memᴰ.tail m))))
      (λ z m. ⊎_elim (λ e. absurd (never_itself y z (e ∙ first) (q.0 z m))) (λ n. n) (Memᴰ.cases_cons (g z (Memᴰ.tail m)))))
    where
      first : x ≡ y
      first =
          ⊎_elim
          (λ e. e)
          (λ m. ⊎_elim (λ e. sym e) (λ n. absurd (apart x y (p.0 y n) (q.0 x m))) (Memᴰ.cases_cons (g y (Memᴰ.head refl))))
          (Memᴰ.cases_cons (f x (Memᴰ.head refl)))

-- ---- one award at each turn

total_more : (given front : List ℕ) (k : ℕ) → total (map (award_in given) (front ++ (k ∷ []))) ≡ total (map (award_in given) front) + award_in given k
unfolding total
total_more given front k =
    ap total (map-append (award_in given) front (k ∷ [])) ∙ total_append (map (award_in given) front) (award_in given k ∷ []) ∙ omega arith

-- nothing, or all that it can get
abbrev Gets : ℕ → ℕ → ℕ → ℕ → Type 0
Gets left quantity minimum got = ((left < minimum) × (got ≡ 0)) ⊎ ((minimum ≤ left) × (got ≡ min quantity left))

gets_once : (left quantity minimum got got' : ℕ) → Gets left quantity minimum got → Gets left quantity minimum got' → got ≡ got'
gets_once left quantity minimum got got' h g =
    ⊎_elim
    (λ x. ⊎_elim (λ y. x.1 ∙ sym y.1) (λ y. absurd (omega (arith, x.0, y.0))) g)
    (λ x. ⊎_elim (λ y. absurd (omega (arith, x.0, y.0))) (λ y. x.1 ∙ sym y.1) g)
    h

gets_le : (left quantity minimum got : ℕ) → Gets left quantity minimum got → got ≤ left
gets_le left quantity minimum got h = ⊎_elim (λ x. omega (arith, x.1)) (λ x. omega (arith, x.1)) h

module _ (demand : ℕ) (b : Book) (order given : List ℕ) (rest : ℕ) (w : AsAsked demand b order given rest) where
  gets :
      (front : List ℕ) (k : ℕ) (behind : List ℕ) (left : ℕ) → AtTurn demand order given front k behind left →
      Gets left (offer_at b k).quantity (offer_at b k).minimum (award_in given k)
  gets front k behind left t =
      let n = w.nothing front k behind left t in
      ⊎_elim
      (λ l. inr (l, w.lesser front k behind left t (λ z. omega (arith, n.0 z))))
      (λ l. inl (l, n.1 l))
      (le_or_lt (offer_at b k).minimum left)

-- ---- any two of which the words hold are equal

module _
    (demand : ℕ) (b : Book) (order given order' given' : List ℕ) (rest rest' : ℕ)
    (w : AsAsked demand b order given rest) (v : AsAsked demand b order' given' rest') where
  same_order : order ≡ order'
  same_order =
      one_order b order order' w.ordered v.ordered (λ z m. (v.every z).0 ((w.every z).1 m)) (λ z m. (w.every z).0 ((v.every z).1 m))

  -- from a turn on, the awards before it being equal
  onwards :
      (front ks : List ℕ) (left : ℕ) → order ≡ front ++ ks →
      left + total (map (award_in given) front) ≡ demand → left + total (map (award_in given') front) ≡ demand →
      Each (λ k. award_in given k ≡ award_in given' k) ks
  onwards front [] left e s s' j m = absurd (Memᴰ.not-nil m)
  onwards front (k ∷ ks) left e s s' j m =
      ⊎_elim
      (λ i. rw i here)
      (λ n.
      onwards (front ++ (k ∷ [])) ks (left - award_in given k) (e ∙ sym (append_assoc front (k ∷ []) ks))
      (omega (arith, s, within, total_more given front k))
      (omega (arith, s', here, within, total_more given' front k)) j n)
      (Memᴰ.cases_cons m)
    where
      got : Gets left (offer_at b k).quantity (offer_at b k).minimum (award_in given k)
      got = gets demand b order given rest w front k ks left (record { turn = e; sums = s })

      here : award_in given k ≡ award_in given' k
      here = gets_once left (offer_at b k).quantity (offer_at b k).minimum (award_in given k) (award_in given' k) got
          (gets demand b order' given' rest' v front k ks left (record { turn = sym same_order ∙ e; sums = s' }))

      within : award_in given k ≤ left
      within = gets_le left (offer_at b k).quantity (offer_at b k).minimum (award_in given k) got

  at_first : (given : List ℕ) → demand + total (map (award_in given) []) ≡ demand
  unfolding total
  at_first given = omega arith

  same_given : given ≡ given'
  same_given =
      ext_get_or 0 given given' (w.long ∙ sym v.long)
      (λ i l. onwards [] order demand refl (at_first given) (at_first given') i ((w.every i).0 (omega (arith, l, w.long))))

  pub words_decide : (order ≡ order') × (given ≡ given') × (rest ≡ rest')
  words_decide = (same_order, same_given, omega (arith, w.sum, v.sum, ap total same_given))

-- ---- and they hold of the definitions

module _ (demand : ℕ) (b : Book) (w : InWords demand b) where
  award_is : (k : ℕ) → k < size b → award_in (awards demand b) k ≡ award_at demand b k
  unfolding awards
  award_is k h = map_numbers_nth (award_at demand b) 0 (size b) k h ∙ ap (award_at demand b) (zero-add k)

  module _ (front : List ℕ) (k : ℕ) (behind : List ℕ) (left : ℕ) (t : AtTurn demand (taking_order b) (awards demand b) front k behind left) where
    placed_at : (j : ℕ) → Memᴰ j (front ++ (k ∷ behind)) → j < size b
    placed_at j m = (w.every j).1 (subst (Memᴰ j) (sym t.turn) m)

    here_within : k < size b
    here_within = placed_at k (Memᴰ.append_right front (Memᴰ.head refl))

    left_is : left_at_turn demand b k ≡ left
    left_is =
        let f : map (award_in (awards demand b)) front ≡ map (award_at demand b) front =
        map_same (award_in (awards demand b)) (award_at demand b) front (λ j m. award_is j (placed_at j (Memᴰ.append_left (k ∷ behind) m))) in
        let l : left_at_turn demand b k + total (map (award_at demand b) front) ≡ demand = w.left front k behind t.turn in
        omega (arith, t.sums, ap total f, l)

    its_award : award_in (awards demand b) k ≡ award_at demand b k
    its_award = award_is k here_within

    the_lesser : (award_in (awards demand b) k ≡ 0 → ⊥) → award_in (awards demand b) k ≡ min (offer_at b k).quantity left
    the_lesser z =
        its_award
        ∙ ⊎_elim
        (λ l. w.lesser k here_within l)
        (λ l. absurd (z (its_award ∙ (w.nothing k here_within).1 l)))
        (le_or_lt (offer_at b k).minimum (left_at_turn demand b k))
        ∙ ap (min (offer_at b k).quantity) left_is

    then_nothing : (award_in (awards demand b) k ≡ 0 → left < (offer_at b k).minimum) × (left < (offer_at b k).minimum → award_in (awards demand b) k ≡ 0)
    then_nothing =
        let n = w.nothing k here_within in (
          (λ z. subst (λ (x : ℕ). x < (offer_at b k).minimum) left_is (n.0 (sym its_award ∙ z))),
          (λ l. its_award ∙ n.1 (subst (λ (x : ℕ). x < (offer_at b k).minimum) (sym left_is) l)),
        )

  -- and beside what decides: no offer gets more than it offers
  pub not_more : (k : ℕ) → k < size b → award_at demand b k ≤ (offer_at b k).quantity
  not_more k h = ⊎_elim (λ z. omega (arith, z)) (λ r. r.1) (w.range k h)

  pub as_asked : AsAsked demand b (taking_order b) (awards demand b) (left_over demand b)
  as_asked = record {
    long = awards_long demand b;
    every = w.every;
    ordered = w.order;
    sum = w.sum;
    lesser = the_lesser;
    nothing = then_nothing;
  }

  pub the_awards : (order given : List ℕ) (rest : ℕ) → AsAsked demand b order given rest →
      (order ≡ taking_order b) × (given ≡ awards demand b) × (rest ≡ left_over demand b)
  the_awards order given rest v = words_decide demand b order given (taking_order b) (awards demand b) rest (left_over demand b) v as_asked
