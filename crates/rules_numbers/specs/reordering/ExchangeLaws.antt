-- Lists that hold the same of each, in the same order, are made from one another by exchanging neighbours that are not the same one's.
use Rattle.std.specs.Prelude.{◌≡◌, Bool, ◌&&◌}
use Rattle.std.proofs.Math.Path.{refl, sym, ap}
use Rattle.std.proofs.Common.{subst, ◌∙◌, true≢false}
use Rattle.std.proofs.Math.Bool.{true, false, cond}
use mathlib.Core.List.{List, [], ◌∷◌}
use Rattle.rules_numbers.specs.Cases.{and_true, clash}
use Rattle.rules_numbers.specs.Lists.{keep, is_empty, all}
use Rattle.rules_numbers.specs.reordering.Exchanges.{SameOfEach, Exchanged, unchanged, neighbours, behind, further}

-- ---- exchanging keeps what each has, and whether all pass a test

module _ {N A : Type 0} (its : N → A → Bool) (once : (x : A) (n k : N) → its n x ≡ true → its k x ≡ true → n ≡ k) where
  pub exchanged_same : {xs ys : List A} → Exchanged its xs ys → SameOfEach its xs ys
  unfolding keep
  exchanged_same unchanged j = refl
  exchanged_same (neighbours {x} {y} {zs} n k p q d) j = go (its j x) refl (its j y) refl
    where
      go : (a : Bool) → its j x ≡ a → (b : Bool) → its j y ≡ b →
          cond a (x ∷ cond b (y ∷ keep (its j) zs) (keep (its j) zs)) (cond b (y ∷ keep (its j) zs) (keep (its j) zs))
          ≡ cond b (y ∷ cond a (x ∷ keep (its j) zs) (keep (its j) zs)) (cond a (x ∷ keep (its j) zs) (keep (its j) zs))
      go true e true f = absurd (clash (subst (λ (i : N). its i y ≡ true) (once x j n e p) f) d)
      go true e false f = refl
      go false e b f = refl
  exchanged_same (behind {xs} {ys} x h) j = ap (λ (zs : List A). cond (its j x) (x ∷ zs) zs) (exchanged_same h j)
  exchanged_same (further h g) j = exchanged_same h j ∙ exchanged_same g j

pub exchanged_all : {N A : Type 0} {its : N → A → Bool} (t : A → Bool) {xs ys : List A} → Exchanged its xs ys → all t xs ≡ all t ys
unfolding all
exchanged_all t unchanged = refl
exchanged_all t (neighbours {x} {y} {zs} n k p q d) = go (t x) (t y)
  where
    go : (a b : Bool) → (a && (b && all t zs)) ≡ (b && (a && all t zs))
    go true b = refl
    go false true = refl
    go false false = refl
exchanged_all t (behind x h) = ap (λ (b : Bool). t x && b) (exchanged_all t h)
exchanged_all t (further h g) = exchanged_all t h ∙ exchanged_all t g

-- ---- and what is the same for each is made by exchanging

head_or : {A : Type 0} → A → List A → A
head_or d [] = d
head_or d (x ∷ xs) = x

tail_of : {A : Type 0} → List A → List A
tail_of [] = []
tail_of (x ∷ xs) = xs

-- two of one and the same, exchanged, are the same in the same order only if they are equal
pub in_order_lem : {A : Type 0} (x y : A) → SameOfEach {N = A} (λ n z. true) (x ∷ y ∷ []) (y ∷ x ∷ []) → x ≡ y
unfolding keep head_or
in_order_lem x y h = ap (head_or x) (h x)

-- n's first, x, brought to the front of ys
record Front {N A : Type 0} (its : N → A → Bool) (t : A → Bool) (x : A) (ys : List A) : Type 0 where
  others : List A
  pass : all t others ≡ true
  exchanged : Exchanged its (x ∷ others) ys

-- each that passes the test t is someone's
module _ {N A : Type 0} (its : N → A → Bool) (once : (x : A) (n k : N) → its n x ≡ true → its k x ≡ true → n ≡ k)
    (t : A → Bool) (someones : (x : A) → t x ≡ true → (n : N) × (its n x ≡ true)) where
  front : (n : N) (x : A) (zs ys : List A) → its n x ≡ true → all t ys ≡ true → x ∷ zs ≡ keep (its n) ys → Front its t x ys
  unfolding keep all head_or
  front n x zs [] p a e = absurd (true≢false (sym (ap is_empty e)))
  front n x zs (y ∷ ys) p a e = go (its n y) refl (front n x zs ys p (and_true (t y) (all t ys) a).1)
    where
      b : (t y ≡ true) × (all t ys ≡ true)
      b = and_true (t y) (all t ys) a

      go : (c : Bool) → its n y ≡ c → (x ∷ zs ≡ keep (its n) ys → Front its t x ys) → Front its t x (y ∷ ys)
      go true f further-on =
          let h : x ∷ zs ≡ y ∷ keep (its n) ys = e ∙ ap (λ (d : Bool). cond d (y ∷ keep (its n) ys) (keep (its n) ys)) f in
          record { others = ys; pass = b.1; exchanged = subst (λ (w : A). Exchanged its (w ∷ ys) (y ∷ ys)) (sym (ap (head_or x) h)) unchanged }
      go false f further-on =
          let r = further-on (e ∙ ap (λ (d : Bool). cond d (y ∷ keep (its n) ys) (keep (its n) ys)) f) in
          let o = someones y b.0 in
          record {
            others = y ∷ r.others;
            pass = rw (b.0, r.pass) refl;
            exchanged = further (neighbours n o.0 p o.1 f) (behind y r.exchanged);
          }

  pub exchanged : (xs ys : List A) → all t xs ≡ true → all t ys ≡ true → SameOfEach its xs ys → Exchanged its xs ys
  unfolding keep all tail_of
  exchanged [] [] a b h = unchanged
  exchanged [] (y ∷ ys) a b h =
      let o = someones y (and_true (t y) (all t ys) b).0 in
      absurd (true≢false (ap is_empty (h o.0 ∙ ap (λ (c : Bool). cond c (y ∷ keep (its o.0) ys) (keep (its o.0) ys)) o.1)))
  exchanged (x ∷ xs) ys a b h =
      let c = and_true (t x) (all t xs) a in
      let o = someones x c.0 in
      let n = o.0 in
      let f = front n x (keep (its n) xs) ys o.1 b (sym (ap (λ (d : Bool). cond d (x ∷ keep (its n) xs) (keep (its n) xs)) o.1) ∙ h n) in
      further (behind x (exchanged xs f.others c.1 f.pass
      (λ j. behind_same x xs f.others j (h j ∙ sym (exchanged_same its once f.exchanged j))))) f.exchanged
    where
      behind_same : (x : A) (us vs : List A) (j : N) → keep (its j) (x ∷ us) ≡ keep (its j) (x ∷ vs) → keep (its j) us ≡ keep (its j) vs
      behind_same x us vs j e = go (its j x) e
        where
          go : (b : Bool) → cond b (x ∷ keep (its j) us) (keep (its j) us) ≡ cond b (x ∷ keep (its j) vs) (keep (its j) vs) → keep (its j) us ≡ keep (its j) vs
          go true e = ap tail_of e
          go false e = e
