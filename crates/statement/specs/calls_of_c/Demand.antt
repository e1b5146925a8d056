-- Demand, asked by C (document 01, Demand; document 02, 4), for all numbers: outside the bounds, and there alone, 2^64 less 1; else Dem in words,
-- the least whole quantity that the curve of numeral 3.8 prices at most p, and M1 at 2 CE; and the remainder that makes up exact demand. Both
-- calls ask nothing and meet their contracts.
use Rattle.std.specs.Prelude.{ℕ, ◌+◌, ◌-◌, ◌*◌, ◌^◌, ◌≤◌, ◌<◌, ◌≡◌, refl, ◌↔◌, Bool, true, false, ◌&&◌}
use Rattle.std.proofs.Common.{sym, ap, ◌∙◌, subst, ⊎_elim, arith}
use contract.Lifetimes.{Lfts}
use denote.Triple.Clauses.{AtExit}
use borrow.Fn.World.{ArgsD}
use borrow.Fn.Kinds.{ended_of}
use Rattle.rules_numbers.specs.Cases.{le_or_lt, and_true, never_true, clash}
use Rattle.rules_numbers.specs.Least.{Least, least_is}
use Rattle.rules_demand.specs.Answer.{demand_answer}
use Rattle.rules_demand.specs.Curve.{priced, PricedAt}
use Rattle.rules_demand.specs.Demand.{dem, in_bounds, in_range, InBounds, InRange}
use Rattle.rules_demand.specs.Remainder.{exact_times_ce, remainder}
use Rattle.rules_demand.specs.Range.{in_bounds_lem, in_bounds_test, in_range_lem, in_range_test, dem_range}
use Rattle.rules_demand.specs.Order.{dem_top}
use Rattle.rules_demand.specs.Words.{dem_least}
use Rattle.rules_demand.specs.ExactInverse.{exact_between, exact_in_parts}
use Rattle.rules_demand.specs.RemainderLaws.{remainder_makes_up, remainder_below_ce}
use Rattle.record_replay.specs.host_numbers.HostNumbers.{host_number, host_remainder}
use Rattle.host.specs.contracts.demand.{signature}
use Rattle.host.proofs.demand.Kinds as kinds
use Rattle.host.proofs.demand.Reads as demanding
use Rattle.host.proofs.demand.Statement as demand_states
use Rattle.host.proofs.demand.Met as demand_met
use Rattle.host.specs.contracts.demand_remainder.{signature as remainder_signature}
use Rattle.host.proofs.demand_remainder.Kinds as remainder_kinds
use Rattle.host.proofs.demand_remainder.Reads as remaining
use Rattle.host.proofs.demand_remainder.Statement as remainder_states
use Rattle.host.proofs.demand_remainder.Met as remainder_met

-- settings and price are within the bounds of document 01
abbrev pub Inside : ℕ → ℕ → ℕ → ℕ → ℕ → Type 0
Inside ce d m1 m2 p = InBounds ce d m1 m2 × InRange ce p

-- q is Dem(p) in words
pub record Demanded (ce d m1 m2 p q : ℕ) : Type 0 where
  pub top : p ≡ 2 * ce → q ≡ m1
  pub least : p < 2 * ce → Least (priced ce d m1 m2 p) 0 m2 q

-- r, in CE-ths of a kWh, and exact demand, which is the quantity from M1 to M2 that the curve prices at p itself, make up Dem(p)
pub record Remains (ce d m1 m2 p r : ℕ) : Type 0 where
  pub exact : ℕ
  pub between : (m1 * ce ≤ exact) × (exact ≤ m2 * ce)
  pub at_p : PricedAt ce (d * ce) (m1 * ce) (m2 * ce) p exact
  pub makes_up : (q : ℕ) → Demanded ce d m1 m2 p q → exact + r ≡ q * ce
  pub below_ce : r < ce

-- what C gets
pub record DemandReturned (ce d m1 m2 p q : ℕ) : Type 0 where
  pub outside : (q ≡ 2 ^ 64 - 1) ↔ (Inside ce d m1 m2 p → ⊥)
  pub inside : Inside ce d m1 m2 p → Demanded ce d m1 m2 p q

pub record RemainderReturned (ce d m1 m2 p r : ℕ) : Type 0 where
  pub outside : (r ≡ 2 ^ 64 - 1) ↔ (Inside ce d m1 m2 p → ⊥)
  pub inside : Inside ce d m1 m2 p → Remains ce d m1 m2 p r

-- the arguments x: CE, D, M1, M2, p. What is stated leaves nothing free
pub record DemandExported (M : Type 1) : Type 2 where
  pub demand_meets : demand_states.statement M
  pub demand_asks : (κs : Lfts 0) (x : ArgsD signature κs) → demanding.Pre κs x × demanding.Asked κs x
  pub demand_returns :
      (κs : Lfts 0) (x : ArgsD signature κs) (r : ℕ) (y : AtExit (ended_of 0 kinds.ps kinds.r) κs) → demanding.Post κs x r y →
      DemandReturned x.0 x.1.0 x.1.1.0 x.1.1.1.0 x.1.1.1.1.0 r
  pub demand_determined : (ce d m1 m2 p r r' : ℕ) → DemandReturned ce d m1 m2 p r → DemandReturned ce d m1 m2 p r' → r ≡ r'
  pub remainder_meets : remainder_states.statement M
  pub remainder_asks : (κs : Lfts 0) (x : ArgsD remainder_signature κs) → remaining.Pre κs x × remaining.Asked κs x
  pub remainder_returns :
      (κs : Lfts 0) (x : ArgsD remainder_signature κs) (r : ℕ) (y : AtExit (ended_of 0 remainder_kinds.ps remainder_kinds.r) κs) →
      remaining.Post κs x r y → RemainderReturned x.0 x.1.0 x.1.1.0 x.1.1.1.0 x.1.1.1.1.0 r
  pub remainder_determined : (ce d m1 m2 p r r' : ℕ) → RemainderReturned ce d m1 m2 p r → RemainderReturned ce d m1 m2 p r' → r ≡ r'

-- ---- the proofs

-- 2^64 less 1 is no quantity and no remainder
no_refusal : (v : ℕ) → v ≤ 100000000000 → v ≡ 2 ^ 64 - 1 → ⊥
no_refusal v h e = let k : v ≡ 18446744073709551615 = e in omega arith

module _ (ce d m1 m2 p : ℕ) where
  abbrev tested : Bool
  tested = in_bounds ce d m1 m2 && in_range ce p

  test_passed : tested ≡ true → Inside ce d m1 m2 p
  test_passed e = let t = and_true (in_bounds ce d m1 m2) (in_range ce p) e in (in_bounds_lem ce d m1 m2 t.0, in_range_lem ce p t.1)

  passes_test : Inside ce d m1 m2 p → tested ≡ true
  passes_test i = rw (in_bounds_test ce d m1 m2 i.0, in_range_test ce p i.1)

  untested : (Inside ce d m1 m2 p → ⊥) → tested ≡ false
  untested h = never_true tested (λ e. h (test_passed e))

  refused_demand : (Inside ce d m1 m2 p → ⊥) → host_number (demand_answer ce d m1 m2 p) ≡ 2 ^ 64 - 1
  unfolding host_number demand_answer
  refused_demand h = rw (untested h)

  refused_remainder : (Inside ce d m1 m2 p → ⊥) → host_remainder (demand_answer ce d m1 m2 p) ≡ 2 ^ 64 - 1
  unfolding host_remainder demand_answer
  refused_remainder h = rw (untested h)

  module _ (s : InBounds ce d m1 m2) (a : InRange ce p) where
    given_demand : host_number (demand_answer ce d m1 m2 p) ≡ dem ce d m1 m2 p
    unfolding host_number demand_answer
    given_demand = rw (in_bounds_test ce d m1 m2 s, in_range_test ce p a)

    given_remainder : host_remainder (demand_answer ce d m1 m2 p) ≡ remainder ce d m1 m2 p
    unfolding host_remainder demand_answer
    given_remainder = rw (in_bounds_test ce d m1 m2 s, in_range_test ce p a)

    some_ce : 0 < ce
    some_ce = omega arith

    in_demand : Demanded ce d m1 m2 p (dem ce d m1 m2 p)
    in_demand = record {
      top = λ e. ap (dem ce d m1 m2) e ∙ dem_top ce d m1 m2 s;
      least = dem_least ce d m1 m2 p s a;
    }

    -- and no other quantity is
    demanded_only : (q : ℕ) → Demanded ce d m1 m2 p q → q ≡ dem ce d m1 m2 p
    demanded_only q w = ⊎_elim
        (λ h. let e : p ≡ 2 * ce = let b = a.high in omega arith in w.top e ∙ sym (in_demand.top e))
        (λ h. least_is (priced ce d m1 m2 p) 0 m2 q (w.least h) ∙ sym (least_is (priced ce d m1 m2 p) 0 m2 _ (in_demand.least h)))
        (le_or_lt (2 * ce) p)

    -- the remainder, in words
    in_remainder : Remains ce d m1 m2 p (remainder ce d m1 m2 p)
    in_remainder =
        let b = exact_between ce d m1 m2 p s a in
        record {
          exact = exact_times_ce ce d m1 m2 p;
          between = b;
          at_p = (exact_in_parts ce d m1 m2 p s a (exact_times_ce ce d m1 m2 p) b.0 b.1).0 refl;
          makes_up = λ q w. remainder_makes_up ce d m1 m2 p some_ce ∙ ap (λ (x : ℕ). x * ce) (sym (demanded_only q w));
          below_ce = remainder_below_ce ce d m1 m2 p some_ce;
        }

    -- and no other remainder is
    remains_only : (r : ℕ) → Remains ce d m1 m2 p r → r ≡ remainder ce d m1 m2 p
    remains_only r w =
        let e : w.exact ≡ exact_times_ce ce d m1 m2 p = (exact_in_parts ce d m1 m2 p s a w.exact w.between.0 w.between.1).1 w.at_p in
        let f : w.exact + r ≡ dem ce d m1 m2 p * ce = w.makes_up _ in_demand in
        let g : exact_times_ce ce d m1 m2 p + remainder ce d m1 m2 p ≡ dem ce d m1 m2 p * ce = remainder_makes_up ce d m1 m2 p some_ce in
        omega arith

  -- what C gets
  module _ (q : ℕ) (e : q ≡ host_number (demand_answer ce d m1 m2 p)) where
    refused_outside : (q ≡ 2 ^ 64 - 1) ↔ (Inside ce d m1 m2 p → ⊥)
    refused_outside = (
      (λ z i. no_refusal (dem ce d m1 m2 p) (let b = dem_range ce d m1 m2 p i.0 i.1 in let h = i.0.m2_high in omega arith)
          (sym (e ∙ given_demand i.0 i.1) ∙ z)),
      (λ h. e ∙ refused_demand h),
    )

    demanded_inside : Inside ce d m1 m2 p → Demanded ce d m1 m2 p q
    demanded_inside i = subst (λ (v : ℕ). Demanded ce d m1 m2 p v) (sym (e ∙ given_demand i.0 i.1)) (in_demand i.0 i.1)

    demand_returned : DemandReturned ce d m1 m2 p q
    demand_returned = record { outside = refused_outside; inside = demanded_inside }

  module _ (r : ℕ) (e : r ≡ host_remainder (demand_answer ce d m1 m2 p)) where
    no_remainder_outside : (r ≡ 2 ^ 64 - 1) ↔ (Inside ce d m1 m2 p → ⊥)
    no_remainder_outside = (
      (λ z i. no_refusal (remainder ce d m1 m2 p)
          (let b = remainder_below_ce ce d m1 m2 p (some_ce i.0 i.1) in let h = i.0.ce_high in omega arith)
          (sym (e ∙ given_remainder i.0 i.1) ∙ z)),
      (λ h. e ∙ refused_remainder h),
    )

    remains_inside : Inside ce d m1 m2 p → Remains ce d m1 m2 p r
    remains_inside i = subst (λ (v : ℕ). Remains ce d m1 m2 p v) (sym (e ∙ given_remainder i.0 i.1)) (in_remainder i.0 i.1)

    remainder_returned : RemainderReturned ce d m1 m2 p r
    remainder_returned = record { outside = no_remainder_outside; inside = remains_inside }

  -- and nothing else
  demand_determined : (r r' : ℕ) → DemandReturned ce d m1 m2 p r → DemandReturned ce d m1 m2 p r' → r ≡ r'
  demand_determined r r' x y = go tested refl
    where
      go : (b : Bool) → tested ≡ b → r ≡ r'
      go true e =
          let i = test_passed e in
          demanded_only i.0 i.1 r (x.inside i) ∙ sym (demanded_only i.0 i.1 r' (y.inside i))
      go false e = let h : Inside ce d m1 m2 p → ⊥ = λ i. clash (passes_test i) e in x.outside.1 h ∙ sym (y.outside.1 h)

  remainder_determined : (r r' : ℕ) → RemainderReturned ce d m1 m2 p r → RemainderReturned ce d m1 m2 p r' → r ≡ r'
  remainder_determined r r' x y = go tested refl
    where
      go : (b : Bool) → tested ≡ b → r ≡ r'
      go true e =
          let i = test_passed e in
          remains_only i.0 i.1 r (x.inside i) ∙ sym (remains_only i.0 i.1 r' (y.inside i))
      go false e = let h : Inside ce d m1 m2 p → ⊥ = λ i. clash (passes_test i) e in x.outside.1 h ∙ sym (y.outside.1 h)

-- ---- together

pub demand_exported : {M : Type 1} → DemandExported M
demand_exported = record {
  demand_meets = demand_met.met;
  demand_asks = λ κs x. (tt, tt);
  demand_returns = λ κs x r y q. demand_returned _ _ _ _ _ r q;
  demand_determined = demand_determined;
  remainder_meets = remainder_met.met;
  remainder_asks = λ κs x. (tt, tt);
  remainder_returns = λ κs x r y q. remainder_returned _ _ _ _ _ r q;
  remainder_determined = remainder_determined;
}
