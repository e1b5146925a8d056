-- The lodged steps that a closing reaches stand in front of those that it does not reach (document 02, 5): their prices fall.
use Rattle.std.specs.Prelude.{ℕ, ◌≤◌, ◌<◌, ◌≡◌, refl, true, List, [], ◌∷◌, ◌++◌}
use Rattle.std.proofs.Common.{sym, subst, ⊎_elim, arith}
use borrow.Author.Tests.{le-leb, lt-leb, lt-ltb}
use Rattle.rules_numbers.specs.Cases.{le_or_lt}
use Rattle.rules_numbers.specs.Lists.{keep}
use Rattle.rules_auction.specs.Ledger.{Step}
use Rattle.rules_auction.specs.Refusals.{falling, lowering}
use Rattle.rules_auction.specs.Rounds.{reaches, reached, unreached, last_level}
use Rattle.rules_auction.specs.CheckLaws.{falling_first, lowering_first}
use Rattle.laws_ledger.specs.Sound.{prices_of, levels_of, Descends}

-- ---- by the first step

module _ (c o : ℕ) (s : Step) (ss : List Step) where
  pub reached_first : c ≤ s.price → s.price < o → (reached c o (s ∷ ss) ≡ s ∷ reached c o ss) × (unreached c o (s ∷ ss) ≡ unreached c o ss)
  unfolding reached unreached reaches keep
  reached_first h g = (rw (le-leb c s.price h, lt-ltb s.price o g), rw (le-leb c s.price h, lt-ltb s.price o g))

  below_first : s.price < c → (reached c o (s ∷ ss) ≡ reached c o ss) × (unreached c o (s ∷ ss) ≡ s ∷ unreached c o ss)
  unfolding reached unreached reaches keep
  below_first h = (rw (lt-leb c s.price h), rw (lt-leb c s.price h))

-- prices from below b, where b is at most c: none is reached
pub none_reached : (f b c o : ℕ) (ss : List Step) → b ≤ c → falling f b (prices_of ss) ≡ true → (reached c o ss ≡ []) × (unreached c o ss ≡ ss)
unfolding reached unreached keep
none_reached f b c o [] h e = (refl, refl)
none_reached f b c o (s ∷ ss) h e =
    let t = falling_first f b s.price (prices_of ss) e in
    let k = below_first c o s ss (omega arith) in
    let r = none_reached f s.price c o ss (omega arith) t.2 in
    (rw k.0 r.0, rw (k.1, r.1))

-- and none where the first is not
pub reached_stops : (f b c o : ℕ) (s : Step) (ss : List Step) → s.price < c → falling f b (prices_of (s ∷ ss)) ≡ true → reached c o (s ∷ ss) ≡ []
reached_stops f b c o s ss h e =
    let t = falling_first f b s.price (prices_of ss) e in
    rw (below_first c o s ss h).0 (none_reached f s.price c o ss (omega arith) t.2).0

-- ---- prices from below b, which is at most o: those reached are the first

pub reached_front : (f b c o : ℕ) (ss : List Step) → b ≤ o → falling f b (prices_of ss) ≡ true → reached c o ss ++ unreached c o ss ≡ ss
unfolding reached unreached keep
reached_front f b c o [] h e = refl
reached_front f b c o (s ∷ ss) h e =
    let t = falling_first f b s.price (prices_of ss) e in
    ⊎_elim
    (λ g. let k = reached_first c o s ss g (omega arith) in rw (k.0, k.1, reached_front f s.price c o ss (omega arith) t.2))
    (λ g. let k = below_first c o s ss g in let r = none_reached f s.price c o ss (omega arith) t.2 in rw (k.0, k.1, r.0, r.1))
    (le_or_lt c s.price)

-- they descend from b to c
pub reached_descends : (f b c o : ℕ) (ss : List Step) → b ≤ o → falling f b (prices_of ss) ≡ true → Descends c b (reached c o ss)
unfolding reached keep Descends
reached_descends f b c o [] h e = tt
reached_descends f b c o (s ∷ ss) h e =
    let t = falling_first f b s.price (prices_of ss) e in
    ⊎_elim
    (λ g. rw (reached_first c o s ss g (omega arith)).0 (g, (omega arith), reached_descends f s.price c o ss (omega arith) t.2))
    (λ g. rw ((below_first c o s ss g).0, (none_reached f s.price c o ss (omega arith) t.2).0) tt)
    (le_or_lt c s.price)

-- those not reached fall from below c
pub unreached_falls : (f b c o : ℕ) (ss : List Step) → b ≤ o → falling f b (prices_of ss) ≡ true → falling f c (prices_of (unreached c o ss)) ≡ true
unfolding unreached keep falling
unreached_falls f b c o [] h e = refl
unreached_falls f b c o (s ∷ ss) h e =
    let t = falling_first f b s.price (prices_of ss) e in
    ⊎_elim
    (λ g. rw (reached_first c o s ss g (omega arith)).1 (unreached_falls f s.price c o ss (omega arith) t.2))
    (λ g. rw ((below_first c o s ss g).1, (none_reached f s.price c o ss (omega arith) t.2).1, le-leb f s.price t.0, lt-ltb s.price c g) t.2)
    (le_or_lt c s.price)

-- ---- levels of two lists, one behind the other

pub lowering_parts : (ls : List ℕ) (q : ℕ) (ws vs : List Step) → lowering ls q (levels_of (ws ++ vs)) ≡ true →
    (lowering ls q (levels_of ws) ≡ true) × (lowering ls (last_level q ws) (levels_of vs) ≡ true)
unfolding lowering last_level
lowering_parts ls q [] vs e = (refl, e)
lowering_parts ls q (w ∷ ws) vs e =
    let t = lowering_first ls q w.level (levels_of (ws ++ vs)) e in
    let r = lowering_parts ls w.level ws vs t.2 in
    (rw (t.0, lt-ltb w.level q t.1) r.0, r.1)

module _ (ls : List ℕ) (q f b c o : ℕ) (ss : List Step) (h : b ≤ o) (e : falling f b (prices_of ss) ≡ true) (g : lowering ls q (levels_of ss) ≡ true) where
  parts : (lowering ls q (levels_of (reached c o ss)) ≡ true) × (lowering ls (last_level q (reached c o ss)) (levels_of (unreached c o ss)) ≡ true)
  parts =
      lowering_parts ls q (reached c o ss) (unreached c o ss)
      (subst (λ (xs : List Step). lowering ls q (levels_of xs) ≡ true) (sym (reached_front f b c o ss h e)) g)

  pub reached_lowers : lowering ls q (levels_of (reached c o ss)) ≡ true
  reached_lowers = parts.0

  pub unreached_lowers : lowering ls (last_level q (reached c o ss)) (levels_of (unreached c o ss)) ≡ true
  unreached_lowers = parts.1
