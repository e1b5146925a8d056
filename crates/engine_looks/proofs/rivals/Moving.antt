-- A turn of the game at a place of the listed prices: what its value is by the values one place on.
use Prim.Native.Nat.{ℕ, min, max, ◌+◌, ◌-◌, ◌≤◌, ◌<◌}
use mathlib.Core.Path.{◌≡◌, refl, sym, ap, ap₂, ◌∙◌}
use mathlib.Core.Bool.{Bool, true, false, cond, ◌&&◌}
use mathlib.Core.List.{List, [], ◌∷◌}
use native.Mathlib.Omega.{arith}
use native.Mathlib.Numerals.{add-one}
use lib.Dec.{ltb}
use lib.ListN.{get_or, drop}
use Rattle.rules_forcing.specs.Game.{Side, First, Second, Keep, Withdraw, value, best}
use Rattle.engine_looks.specs.declared.rivals.Rival.{Rival}
use Rattle.engine_looks.specs.declared.rivals.Game.{Game}
use Rattle.engine_looks.specs.rivals.Plain.{Held, leaving, listed_in, outcome_in, value_in, high_in, low_in, withdraws_by, withdraws_in}
use Rattle.engine_looks.proofs.rivals.Outcomes.{first_of, none_of}

module _ (g : Game) (at : ℕ) where
  -- behind the last price
  pub ended : (s : Side) (x y : Rival) → at ≡ g.count → outcome_in g x y ≡ value_in s g at x y
  unfolding value
  ended s x y e = ap (λ (ps : List ℕ). value (λ r. r.able) leaving (outcome_in g) s x y ps) (sym none)
    where
      none : drop at (listed_in g) ≡ []
      none = ap (λ (i : ℕ). drop i (listed_in g)) e ∙ none_of g.count g.prices

  -- what a call asks that moves one place on
  pub on_asks :
      (t : ℕ) → g.count - at ≡ t → Held g × (at ≤ g.count) → (at ≡ g.count → ⊥) →
      (g.count - (at + 1) < t) × (Held g × (at + 1 ≤ g.count))
  on_asks t e h n = let a = h.1 in (omega arith, (h.0, omega arith))

  pub place_fits : Held g × (at ≤ g.count) → (at ≡ g.count → ⊥) → at < 10
  place_fits h n = let a = h.1 in let f = h.0.at_most_ten in omega arith

  module _ (h : Held g) (k : at ≤ g.count) (n : at ≡ g.count → ⊥) (x y : Rival) where
    abbrev price : ℕ
    price = get_or g.prices at 0

    listed : drop at (listed_in g) ≡ price ∷ drop (at + 1) (listed_in g)
    listed = rw add-one (first_of g.count g.prices at h.prices (omega arith))

    abbrev valued : Side → List ℕ → ℕ
    valued s = value (λ r. r.able) leaving (outcome_in g) s x y

    -- by whether the mover may withdraw
    abbrev first_by : Bool → ℕ
    first_by b = cond b (max (low_in g (at + 1) x y) (low_in g (at + 1) (leaving price x) y)) (low_in g (at + 1) x y)

    first_turn : (b : Bool) → x.able ≡ b → high_in g at x y ≡ first_by b
    unfolding value
    first_turn b e = ap (valued First) listed ∙ ap first_by e

    abbrev second_by : Bool → ℕ
    second_by b = cond b (min (high_in g (at + 1) x y) (high_in g (at + 1) x (leaving price y))) (high_in g (at + 1) x y)

    second_turn : (b : Bool) → y.able ≡ b → low_in g at x y ≡ second_by b
    unfolding value
    second_turn b e = ap (valued Second) listed ∙ ap second_by e

    pub first_keeps : {k : ℕ} → x.able ≡ false → k ≡ low_in g (at + 1) x y → k ≡ high_in g at x y
    first_keeps b e = e ∙ sym (first_turn false b)

    pub first_best : {k w : ℕ} → x.able ≡ true → k ≡ low_in g (at + 1) x y → w ≡ low_in g (at + 1) (leaving price x) y → max k w ≡ high_in g at x y
    first_best b e f = ap₂ max e f ∙ sym (first_turn true b)

    pub second_keeps : {k : ℕ} → y.able ≡ false → k ≡ high_in g (at + 1) x y → k ≡ low_in g at x y
    second_keeps b e = e ∙ sym (second_turn false b)

    pub second_best : {k w : ℕ} → y.able ≡ true → k ≡ high_in g (at + 1) x y → w ≡ high_in g (at + 1) x (leaving price y) → min k w ≡ low_in g at x y
    second_best b e f = ap₂ min e f ∙ sym (second_turn true b)

-- ---- the best first move

module _ (g : Game) (h : Held g) (x y : Rival) where
  abbrev best_of : List ℕ → Bool
  best_of ps = withdraws_by (best (λ r. r.able) leaving (outcome_in g) x y ps)

  pub none_to_move : g.count < 1 → false ≡ withdraws_in g x y
  unfolding best withdraws_by
  none_to_move e =
      let z : 0 ≡ g.count = omega arith in
      sym (ap best_of (ap (λ (i : ℕ). drop i (listed_in g)) z ∙ none_of g.count g.prices))

  module _ (some : 1 ≤ g.count) where
    abbrev better : Bool
    better = ltb (low_in g 1 x y) (low_in g 1 (leaving (get_or g.prices 0 0) x) y)

    withdraws_is : (b : Bool) → x.able ≡ b → withdraws_in g x y ≡ b && better
    unfolding best withdraws_by
    withdraws_is b e = ap best_of (first_of g.count g.prices 0 h.prices some) ∙ go (x.able && better) ∙ ap (λ (t : Bool). t && better) e
      where
        go : (b : Bool) → withdraws_by (cond b Withdraw Keep) ≡ b
        go true = refl
        go false = refl

    pub cannot_move : x.able ≡ false → false ≡ withdraws_in g x y
    cannot_move b = sym (withdraws_is false b)

    pub moves : {k w : ℕ} → x.able ≡ true → k ≡ low_in g 1 x y → w ≡ low_in g 1 (leaving (get_or g.prices 0 0) x) y → ltb k w ≡ withdraws_in g x y
    moves b e f = ap₂ ltb e f ∙ sym (withdraws_is true b)
