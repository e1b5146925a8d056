-- Laws of the arrays of 32 places, developer n at place n - 1: reading one place, storing to one, filling all and replacing all.
use Rattle.std.specs.Prelude.{ℕ, suc, ◌+◌, ◌-◌, ◌≤◌, ◌<◌, ◌≡◌, refl, Bool, true, false, cond, List, map, eqb, length, get_or, set, replicate}
use Rattle.std.proofs.Common.{sym, ap, ◌∙◌, ⊎_elim, arith, length-set, ext_get_or, get_or-set_same, get_or-set_other, eqb-true}
use Rattle.std.proofs.lemmas.List.{length-map, length-replicate, get_or-replicate}
use Rattle.std.proofs.lemmas.Bool.{eqb-false}
use Rattle.rules_numbers.specs.Cases.{le_or_lt}
use Rattle.rules_numbers.specs.Lists.{one_to}
use Rattle.rules_numbers.specs.ListLaws.{length_one_to, numbered_nth}
use Rattle.rules_auction.specs.Ledger.{Developer, Ledger, nobody, start, put}
use Rattle.rules_auction.specs.Clearing.{of_each}

module _ {A : Type 0} where
  -- of any function of the developers' numbers
  pub numbered_length : (g : ℕ → A) → length (map g (one_to 32)) ≡ 32
  numbered_length g = length-map (one_to 32) g ∙ length_one_to 32

  pub numbered : (g : ℕ → A) (d : A) (xs : List A) → length xs ≡ 32 → ((i : ℕ) → i < 32 → get_or xs i d ≡ g (suc i)) → xs ≡ map g (one_to 32)
  numbered g d xs e h =
      ext_get_or d xs (map g (one_to 32)) (e ∙ sym (numbered_length g)) (λ i w. h i (omega arith) ∙ sym (numbered_nth g 32 _ i d refl (omega arith)))

  -- filled place by place: the first i places are done
  pub record Filling (g : ℕ → A) (d : A) (xs : List A) (i : ℕ) : Type 0 where
    pub long : length xs ≡ 32
    pub done : (j : ℕ) → j < i → get_or xs j d ≡ g (suc j)

  pub filling_next : (g : ℕ → A) (d : A) (xs : List A) (i : ℕ) (v : A) → Filling g d xs i → i < 32 → v ≡ g (suc i) → Filling g d (set xs i v) (i + 1)
  filling_next g d xs i v f h e = record {
    long = length-set xs i v ∙ f.long;
    done = λ j w. ⊎_elim (λ k. get_or-set_other xs i j v d (λ q. omega arith) ∙ f.done j k) (λ k. here j (omega arith)) (le_or_lt (suc j) i);
  }
    where
      here : (j : ℕ) → j ≡ i → get_or (set xs i v) j d ≡ g (suc j)
      here j q = rw q (get_or-set_same xs i v d (let z = f.long in omega arith) ∙ e)

  pub filling_all : (g : ℕ → A) (d : A) (xs : List A) → Filling g d xs 32 → xs ≡ map g (one_to 32)
  filling_all g d xs f = numbered g d xs f.long f.done

  -- replaced place by place: the first i places are those of g, the others still those of f
  pub record Replacing (f g : ℕ → A) (d : A) (xs : List A) (i : ℕ) : Type 0 where
    pub filled : Filling g d xs i
    pub left : (j : ℕ) (e : A) → i ≤ j → j < 32 → get_or xs j e ≡ f (suc j)

  pub replacing_first : (f g : ℕ → A) (d : A) (xs : List A) → xs ≡ map f (one_to 32) → Replacing f g d xs 0
  replacing_first f g d xs q = record {
    filled = record { long = ap length q ∙ numbered_length f; done = λ j w. absurd (omega arith) };
    left = λ j e w v. numbered_nth f 32 xs j e q v;
  }

  -- a store to place i
  pub replacing_stored : (f g : ℕ → A) (d : A) (xs : List A) (i : ℕ) (v : A) → Replacing f g d xs i → i < 32 → v ≡ g (suc i) →
      Replacing f g d (set xs i v) (i + 1)
  replacing_stored f g d xs i v r h e = record {
    filled = filling_next g d xs i v r.filled h e;
    left = λ j b w k. get_or-set_other xs i j v b (λ q. omega arith) ∙ r.left j b (omega arith) k;
  }

  -- place i as it was
  pub replacing_kept : (f g : ℕ → A) (d : A) (xs : List A) (i : ℕ) → Replacing f g d xs i → i < 32 → f (suc i) ≡ g (suc i) → Replacing f g d xs (i + 1)
  replacing_kept f g d xs i r h e = record {
    filled = record {
      long = r.filled.long;
      done = λ j w. ⊎_elim (λ k. r.filled.done j k) (λ k. here j (omega arith)) (le_or_lt (suc j) i);
    };
    left = λ j b w k. r.left j b (omega arith) k;
  }
    where
      here : (j : ℕ) → j ≡ i → get_or xs j d ≡ g (suc j)
      here j q = rw q (r.left i d (omega arith) h ∙ e)

  module _ (f : Developer → A) where
    -- a store to the place of developer n
    pub put_stores : (l : Ledger) (i : ℕ) (x : Developer) (v : A) → i < 32 → v ≡ f x →
        set (of_each f l) i v ≡ map (λ m. f (put (suc i) x l.developers m)) (one_to 32)
    put_stores l i x v h e =
        numbered (λ m. f (put (suc i) x l.developers m)) v (set (of_each f l) i v) (length-set (of_each f l) i v ∙ numbered_length _)
        (λ j w. go j w (eqb (suc j) (suc i)) refl)
      where
        go : (j : ℕ) → j < 32 → (b : Bool) → eqb (suc j) (suc i) ≡ b → get_or (set (of_each f l) i v) j v ≡ f (cond b x (l.developers (suc j)))
        go j w true t =
            let q : j ≡ i = let z = eqb-true (suc j) (suc i) t in omega arith in
            rw q (get_or-set_same (of_each f l) i v v (let z = numbered_length (λ n. f (l.developers n)) in omega arith) ∙ e)
        go j w false t = get_or-set_other (of_each f l) i j v v (λ q. eqb-false (suc j) (suc i) t (ap suc q)) ∙ numbered_nth _ 32 _ j v refl w

    -- the same by the developer's number
    pub each_at : (l : Ledger) (n : ℕ) (d : A) → 1 ≤ n → n ≤ 32 → get_or (of_each f l) (n - 1) d ≡ f (l.developers n)
    each_at l n d low high = numbered_nth (λ m. f (l.developers m)) 32 _ (n - 1) d refl (omega arith) ∙ ap (λ (m : ℕ). f (l.developers m)) (omega arith)

    pub put_at : (l : Ledger) (n : ℕ) (x : Developer) (v : A) → 1 ≤ n → n ≤ 32 → v ≡ f x →
        set (of_each f l) (n - 1) v ≡ map (λ m. f (put n x l.developers m)) (one_to 32)
    put_at l n x v low high e =
        let k : suc (n - 1) ≡ n = omega arith in
        rw k at (put_stores l (n - 1) x v (omega arith) e)

    -- a field that the new entry shares with the old one
    pub put_keeps : (l : Ledger) (n : ℕ) (x : Developer) → f x ≡ f (l.developers n) → map (λ m. f (put n x l.developers m)) (one_to 32) ≡ of_each f l
    put_keeps l n x e = ap (λ (g : ℕ → A). map g (one_to 32)) (λ i m. same m i)
      where
        go : (m : ℕ) (b : Bool) → eqb m n ≡ b → f (cond b x (l.developers m)) ≡ f (l.developers m)
        go m true t = e ∙ ap (λ (k : ℕ). f (l.developers k)) (sym (eqb-true m n t))
        go m false t = refl

        same : (m : ℕ) → f (put n x l.developers m) ≡ f (l.developers m)
        same m = go m (eqb m n) refl

    -- the arrays of a fresh auction
    pub fresh_places : (v : A) → v ≡ f nobody → replicate 32 v ≡ of_each f start
    fresh_places v e = numbered (λ n. f (start.developers n)) v (replicate 32 v) (length-replicate 32 v) (λ i h. get_or-replicate 32 i v v h ∙ e)
