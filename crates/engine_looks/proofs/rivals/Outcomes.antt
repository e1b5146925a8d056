-- The lowest covered price, read from the last listed one up: what is found is that of the prices passed.
use Prim.Native.Nat.{ℕ, suc, min, ◌-◌, ◌≤◌, ◌<◌}
use mathlib.Core.Path.{◌≡◌, sym, ap, ap₂, subst, ◌∙◌}
use mathlib.Core.Bool.{cond}
use mathlib.Core.List.{List, [], ◌∷◌}
use native.Mathlib.Omega.{arith}
use lib.Dec.{leb}
use lib.ListN.{length, get_or, take, drop, length-take, drop_of_length-le}
use lib.Seq.{drop-cons, get_or-take, length-take-le}
use Rattle.engine_looks.specs.declared.rivals.Rival.{Rival}
use Rattle.engine_looks.specs.declared.rivals.Game.{Game}
use Rattle.engine_looks.specs.rivals.Plain.{Held, supply_at, lowest_covered, listed_in, demands_in, outcome_in}

-- what is left at a place of the first n: its number, and what is left behind it
pub first_of : (n : ℕ) (xs : List ℕ) (i : ℕ) → n ≤ length xs → i < n → drop i (take n xs) ≡ get_or xs i 0 ∷ drop (suc i) (take n xs)
first_of n xs i h g =
    let e : get_or (take n xs) i 0 ≡ get_or xs i 0 = get_or-take n xs i 0 g in
    rw (← e) (drop-cons (take n xs) i 0 (let l = length-take-le n xs h in omega arith))

pub none_of : (n : ℕ) (xs : List ℕ) → drop n (take n xs) ≡ []
none_of n xs = drop_of_length-le (take n xs) few
  where
    few : length (take n xs) ≤ n
    few = let l = length-take n xs in omega arith

module _ (g : Game) (x y : Rival) where
  abbrev supplied : ℕ → ℕ
  supplied p = supply_at g.supplies p x y

  -- the lowest covered one of the prices from place i on
  abbrev lowest_from : ℕ → ℕ
  lowest_from i = lowest_covered supplied g.standing (drop i (listed_in g)) (drop i (demands_in g))

  -- the loop, once it has passed the prices from place i on
  pub record Passed (low i : ℕ) : Type 0 where
    pub within : i ≤ g.count
    pub lowest_is : low ≡ lowest_from i

  pub passed_none : Passed g.standing g.count
  unfolding lowest_covered
  passed_none = record {
    within = omega arith;
    lowest_is = ap (λ (ps : List ℕ). lowest_covered supplied g.standing ps (drop g.count (demands_in g))) (sym (none_of g.count g.prices));
  }

  pub passed_all : {low i : ℕ} → Passed low i → i ≤ 0 → low ≡ outcome_in g x y
  unfolding outcome_in
  passed_all {low} {i} d h = let z : i ≡ 0 = omega arith in subst (λ (j : ℕ). low ≡ lowest_from j) z d.lowest_is

  module _ (h : Held g) (low i : ℕ) (d : Passed low i) (some : 0 < i) where
    abbrev at : ℕ
    at = i - 1

    pub passed_more :
        {s r : ℕ} → let p = get_or g.prices at 0 in let covered = leb (get_or g.demands at 0) s in
        s ≡ supplied p → r ≡ cond covered (min p low) low → Passed r at
    unfolding lowest_covered
    passed_more {s} {r} es er =
        let w = d.within in
        let next : suc at ≡ i = omega arith in
        let p = get_or g.prices at 0 in
        let q = get_or g.demands at 0 in
        let behind : low ≡ lowest_from (suc at) = subst (λ (j : ℕ). low ≡ lowest_from j) (sym next) d.lowest_is in
        let turn : lowest_from at ≡ cond (leb q (supplied p)) (min p (lowest_from (suc at))) (lowest_from (suc at)) =
        ap₂ (λ (ps ds : List ℕ). lowest_covered supplied g.standing ps ds)
        (first_of g.count g.prices at h.prices (omega arith)) (first_of g.count g.demands at h.demands (omega arith)) in
        record { within = omega arith; lowest_is = er ∙ ap₂ (λ (t v : ℕ). cond (leb q t) (min p v) v) es behind ∙ sym turn }
