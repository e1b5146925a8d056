-- The refused and the accepted answer, and what a lent buffer makes of them.
use Prim.Native.Nat.{ℕ, ◌≤◌, ◌<◌}
use mathlib.Core.Path.{◌≡◌, refl, sym, ap, ap₂, ◌∙◌}
use mathlib.Core.Bool.{Bool, true, false, cond}
use mathlib.Core.List.{List, []}
use lib.Dec.{eqb, leb}
use lib.ListN.{length, take, replicate}
use lib.Seq.{take_at}
use native.Mathlib.Omega.{arith}
use borrow.Author.Tests.{eqb-true, eq-eqb, ne_eqb, le-leb, lt-leb}
use Rattle.rules_numbers.specs.ListLaws.{Each}
use Rattle.rules_numbers.specs.Tails.{laid}
use Rattle.rules_auction.specs.Refusals.{check}
use Rattle.rules_sealed.specs.Sealed.{Book, book_of, size, offer_at, most_offers, taking_order, awards, left_over, left_behind, Sealing, sealed_refusal, sealing}
use Rattle.rules_sealed.specs.Sealed.{lent_refusal, lent_left, lent_awards}
use Rattle.rules_sealed.specs.Served.{served}
use Rattle.rules_sealed.specs.ServedLaws.{taking_order_within, awards_long, served_awards}
use Rattle.engine_sealed.specs.sealed_order.TakingOrder.{InTakingOrder}
use Rattle.engine_sealed.specs.sealed_awards.Shares.{Shares}
use Rattle.engine_sealed.specs.sealed_auction.Cleared.{Sealed, sealed_as, Lends}

module _ (ceiling demand : ℕ) (b : Book) where
  abbrev number : ℕ
  number = sealed_refusal ceiling demand b

  abbrev given : Sealing
  given = record { number = 0; awards = awards demand b; left = left_over demand b }

  abbrev refusal : ℕ → Sealing
  refusal n = record { number = n; awards = []; left = 0 }

  sealing_refused : (number ≡ 0 → ⊥) → sealing ceiling demand b ≡ refusal number
  unfolding sealing
  sealing_refused h = ap (λ (t : Bool). cond t given (refusal number)) (ne_eqb number 0 h)

  sealing_given : number ≡ 0 → sealing ceiling demand b ≡ given
  unfolding sealing
  sealing_given e = ap (λ (t : Bool). cond t given (refusal number)) (eq-eqb number 0 e)

  pub cleared_refused : (n : ℕ) → n ≡ number → (n ≡ 0 → ⊥) →
      record { number = n; awards = replicate most_offers 0; left = 0 } ≡ sealed_as (sealing ceiling demand b)
  cleared_refused n e h = ap (λ (k : ℕ). sealed_as (refusal k)) e ∙ ap sealed_as (sym (sealing_refused (λ z. h (e ∙ z))))

-- the turns are places of the book
pub in_order_within : (ps gs r : List ℕ) → InTakingOrder ps gs r → Each (λ k. k < length ps) (take (length ps) r)
in_order_within ps gs r t = rw (t [] []) (taking_order_within (book_of ps [] [] gs))

module _ (ceiling demand : ℕ) (ps qs ms gs : List ℕ) where
  abbrev b : Book
  b = book_of ps qs ms gs

  pub cleared_given :
      sealed_refusal ceiling demand b ≡ 0 → length ps ≤ most_offers → (r : List ℕ) → take (length ps) r ≡ taking_order b → (xs : List ℕ) (left : ℕ) →
      Shares qs ms demand (take (length ps) r) xs left → record { number = 0; awards = xs; left = left } ≡ sealed_as (sealing ceiling demand b)
  unfolding left_over
  cleared_given e h r t xs left s =
      ap₂ (λ (xs : List ℕ) (v : ℕ). record { number = 0; awards = xs; left = v })
      (s.awarded ps gs ∙ ap (λ (ks : List ℕ). served (offer_at b) demand ks (replicate most_offers 0)) t ∙ served_awards demand b h)
      (s.rest ps gs ∙ ap (left_behind (offer_at b) demand) t)
      ∙ ap sealed_as (sym (sealing_given ceiling demand b e))

-- ---- in a lent buffer

module _ (ceiling demand : ℕ) (b : Book) (s : Sealed) (e : s ≡ sealed_as (sealing ceiling demand b)) where
  is_number_lem : s.number ≡ sealed_refusal ceiling demand b
  unfolding sealing
  is_number_lem = ap (λ (x : Sealed). x.number) e ∙ go (sealed_refusal ceiling demand b) (eqb (sealed_refusal ceiling demand b) 0) refl
    where
      go : (n : ℕ) (t : Bool) → eqb n 0 ≡ t → (cond t (given ceiling demand b) (refusal ceiling demand b n)).number ≡ n
      go n true h = sym (eqb-true n 0 h)
      go n false h = refl

  pub book_accepted : s.number ≡ 0 → sealed_refusal ceiling demand b ≡ 0
  book_accepted z = sym is_number_lem ∙ z

module _ (ceiling demand : ℕ) (b : Book) (s : Sealed) (e : s ≡ sealed_as (sealing ceiling demand b)) (old : List ℕ) where
  abbrev lent : ℕ
  lent = lent_refusal ceiling demand b (length old)

  -- refused, by whichever number
  lends_by : (k : ℕ) → (k ≡ 0 → ⊥) → k ≡ lent → Lends ceiling demand b old old (record { number = k; left = 0 })
  unfolding lent_left lent_awards
  lends_by k h f =
      let t : eqb lent 0 ≡ false = ne_eqb lent 0 (λ z. h (f ∙ z)) in
      record {
        number = f;
        left = ap (λ (u : Bool). cond u (left_over demand b) 0) (sym t);
        buffer = ap (λ (u : Bool). cond u (laid (awards demand b) old) old) (sym t);
      }

  -- the number for this room, by whether the book is refused
  by_room : ℕ → ℕ
  by_room n = cond (eqb n 0) (check (leb (size b) (length old)) 11 0) n

  pub lends_refused : (s.number ≡ 0 → ⊥) → Lends ceiling demand b old old (record { number = s.number; left = 0 })
  unfolding lent_refusal by_room
  lends_refused h =
      lends_by s.number h
      (ap (λ (t : Bool). cond t (check (leb (size b) (length old)) 11 0) s.number) (sym (ne_eqb s.number 0 h))
      ∙ ap by_room (is_number_lem ceiling demand b s e))

  pub lends_no_room : s.number ≡ 0 → length old < size b → Lends ceiling demand b old old (record { number = 11; left = 0 })
  unfolding lent_refusal by_room
  lends_no_room z h =
      lends_by 11 (λ q. omega arith) (ap (λ (t : Bool). cond t 0 11) (sym (lt-leb (size b) (length old) h))
      ∙ ap by_room (sym (book_accepted ceiling demand b s e z)))

  pub lends_given :
      s.number ≡ 0 → size b ≤ length old → (new : List ℕ) → new ≡ laid (take (size b) s.awards) old →
      Lends ceiling demand b old new (record { number = 0; left = s.left })
  unfolding lent_refusal lent_left lent_awards by_room
  lends_given z h new w =
      let n : 0 ≡ lent = ap (λ (t : Bool). cond t 0 11) (sym (le-leb (size b) (length old) h)) ∙ ap by_room (sym (book_accepted ceiling demand b s e z)) in
      let t : eqb lent 0 ≡ true = eq-eqb lent 0 (sym n) in
      let is : s ≡ sealed_as (given ceiling demand b) = e ∙ ap sealed_as (sealing_given ceiling demand b (book_accepted ceiling demand b s e z)) in
      let whole : take (size b) s.awards ≡ awards demand b = ap (λ (x : Sealed). take (size b) x.awards) is
      ∙ take_at (awards demand b) _ (size b) (awards_long demand b) in
      record {
        number = n;
        left = ap (λ (x : Sealed). x.left) is ∙ ap (λ (u : Bool). cond u (left_over demand b) 0) (sym t);
        buffer = w ∙ ap (λ (xs : List ℕ). laid xs old) whole ∙ ap (λ (u : Bool). cond u (laid (awards demand b) old) old) (sym t);
      }
