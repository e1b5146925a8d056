-- THE DEMAND CALL (document 01, Demand) with its remainder (document 02, 4), for any five numbers CE, D, M1, M2 and p. It is refused by 1 exactly where
-- settings or price are outside the bounds; else its quantity is the least whole one that the curve of numeral 3.8 prices at most p, M1 at the top
-- price 2 CE, and quantity times CE less the remainder is exact demand times CE. It is tied in through its own contract, which it meets.
use Rattle.std.specs.Prelude.{ℕ, suc, ◌+◌, ◌*◌, ◌≤◌, ◌<◌, ◌≡◌, refl, ◌↔◌, Bool, true, false, ◌&&◌, Result, Ok, Err}
use Rattle.std.proofs.Common.{sym, ap, ap₂, ◌∙◌, ⊎_elim, arith, suc-mul, mul-le-mul_right}
use Rattle.rules_numbers.specs.Cases.{le_or_lt, three_way, and_true, never_true}
use Rattle.rules_numbers.specs.Least.{Least, least_is}
use Rattle.rules_demand.specs.Curve.{priced, PricedAt}
use Rattle.rules_demand.specs.Demand.{dem, in_bounds, in_range, InBounds, InRange}
use Rattle.rules_demand.specs.Remainder.{exact_times_ce, remainder}
use Rattle.rules_demand.specs.Answer.{Answer, demand_answer}
use Rattle.rules_demand.specs.Range.{in_bounds_lem, in_range_lem}
use Rattle.rules_demand.specs.Order.{dem_top}
use Rattle.rules_demand.specs.Words.{dem_least}
use Rattle.rules_demand.specs.ExactInverse.{exact_between, exact_in_parts}
use Rattle.rules_demand.specs.RemainderLaws.{remainder_makes_up, remainder_below_ce}
use Rattle.engine_refusals.specs.NumberLaws.{number_not_0}
use Rattle.engine_refusals.specs.declared.Refusal.{Refusal}
use Rattle.engine_refusals.specs.declared.Refusal.TheVariants.{BeyondBounds}
use Rattle.engine_demand.specs.Answers.{demanded_in}
use Rattle.engine_demand.specs.declared.Demanded.{Demanded}
use Rattle.engine_demand.proofs.demand.Reads as demanding
use Rattle.engine_demand.proofs.demand.Statement as demand_states
use Rattle.engine_demand.proofs.demand.Met as demand_met
use Rattle.statement.specs.RefusalNumbers.{number_determines}

-- r is what the demand call answers to these numbers, as its own contract has it
abbrev pub Asked : ℕ → ℕ → ℕ → ℕ → ℕ → Result Demanded Refusal → Type 0
Asked ce d m1 m2 p r = demanding.Post tt (ce, (d, (m1, (m2, (p, tt))))) r (ce, (d, (m1, (m2, (p, tt)))))

-- a quantity with its remainder
abbrev pub demanded_as : ℕ → ℕ → Result Demanded Refusal
demanded_as q e = Ok (record { quantity = q; remainder = e })

-- the settings and the price are within the bounds of document 01
abbrev pub within : ℕ → ℕ → ℕ → ℕ → ℕ → Bool
within ce d m1 m2 p = in_bounds ce d m1 m2 && in_range ce p

-- Dem(p) is q, with the remainder e, in words
pub record DemandIs (ce d m1 m2 p q e : ℕ) : Type 0 where
  -- the least whole quantity with p(q) <= p; M1 at 2 CE
  pub least : p < 2 * ce → Least (priced ce d m1 m2 p) 0 m2 q
  pub top : p ≡ 2 * ce → q ≡ m1
  -- rounded demand times CE is exact demand times CE and the remainder, which is from 0 to CE - 1
  pub makes_up : exact_times_ce ce d m1 m2 p + e ≡ q * ce
  pub below_ce : e < ce
  -- exact demand, all quantities counted in CE-ths of a kWh: the one n from M1 to M2 that the curve prices at p itself
  pub exact : (n : ℕ) → m1 * ce ≤ n → n ≤ m2 * ce → (n + e ≡ q * ce) ↔ PricedAt ce (d * ce) (m1 * ce) (m2 * ce) p n

pub record DemandAnswered (ce d m1 m2 p : ℕ) (r : Result Demanded Refusal) : Type 0 where
  pub refused : (within ce d m1 m2 p ≡ false) ↔ (r ≡ Err BeyondBounds)
  pub accepted : within ce d m1 m2 p ≡ true → (q : ℕ) × (e : ℕ) × (r ≡ demanded_as q e) × DemandIs ce d m1 m2 p q e

pub record DemandStated (M : Type 1) : Type 2 where
  pub meets : demand_states.statement M
  pub answered : (ce d m1 m2 p : ℕ) (r : Result Demanded Refusal) → Asked ce d m1 m2 p r → DemandAnswered ce d m1 m2 p r
  -- as numbers: refused, 1 with 0 in every other place
  pub numbers :
      (demanded_in (Err BeyondBounds) ≡ record { number = 1; value = 0; remainder = 0 })
      × ((q e : ℕ) → demanded_in (demanded_as q e) ≡ record { number = 0; value = q; remainder = e })
  -- the call asks nothing of its arguments, and for any five numbers there is an answer
  pub asks_nothing : (ce d m1 m2 p : ℕ) → demanding.Pre tt (ce, (d, (m1, (m2, (p, tt)))))
  pub some_answer : (ce d m1 m2 p : ℕ) → (r : Result Demanded Refusal) × Asked ce d m1 m2 p r
  -- what is stated leaves nothing free
  pub determines : (ce d m1 m2 p : ℕ) (r r' : Result Demanded Refusal) → DemandAnswered ce d m1 m2 p r → DemandAnswered ce d m1 m2 p r' → r ≡ r'

-- ---- what is answered

quantity_of_lem : (r : Result Demanded Refusal) → (demanded_in r).number ≡ 0 → r ≡ demanded_as (demanded_in r).value (demanded_in r).remainder
quantity_of_lem (Ok x) z = refl
quantity_of_lem (Err e) z = absurd (number_not_0 e z)

refused_by : (r : Result Demanded Refusal) → (demanded_in r).number ≡ 1 → r ≡ Err BeyondBounds
refused_by (Ok x) z = absurd (omega (arith, z))
refused_by (Err e) z = ap Err (number_determines e BeyondBounds z)

module _ (ce d m1 m2 p : ℕ) where
  answer_within :
      within ce d m1 m2 p ≡ true →
      demand_answer ce d m1 m2 p ≡ record { number = 0; value = dem ce d m1 m2 p; remainder = remainder ce d m1 m2 p }
  unfolding demand_answer
  answer_within t = rw t

  answer_outside : within ce d m1 m2 p ≡ false → demand_answer ce d m1 m2 p ≡ record { number = 1; value = 0; remainder = 0 }
  unfolding demand_answer
  answer_outside t = rw t

  bounded : within ce d m1 m2 p ≡ true → InBounds ce d m1 m2 × InRange ce p
  bounded t = let b = and_true _ _ t in (in_bounds_lem ce d m1 m2 b.0, in_range_lem ce p b.1)

module _ (ce d m1 m2 p : ℕ) (s : InBounds ce d m1 m2) (a : InRange ce p) where
  some_ce : 0 < ce
  some_ce = let l = s.ce_low in omega arith

  in_words : DemandIs ce d m1 m2 p (dem ce d m1 m2 p) (remainder ce d m1 m2 p)
  in_words =
      let made : exact_times_ce ce d m1 m2 p + remainder ce d m1 m2 p ≡ dem ce d m1 m2 p * ce = remainder_makes_up ce d m1 m2 p some_ce in
      record {
        least = dem_least ce d m1 m2 p s a;
        top = λ t. ap (dem ce d m1 m2) t ∙ dem_top ce d m1 m2 s;
        makes_up = made;
        below_ce = remainder_below_ce ce d m1 m2 p some_ce;
        exact = λ n l h.
            let at = exact_in_parts ce d m1 m2 p s a n l h in
            ((λ t. at.0 (omega (arith, t, made))), (λ t. let z = at.1 t in omega (arith, z, made)));
      }

as_stated : (ce d m1 m2 p : ℕ) (r : Result Demanded Refusal) → Asked ce d m1 m2 p r → DemandAnswered ce d m1 m2 p r
as_stated ce d m1 m2 p r w = record {
  refused = ((λ t. refused_by r (ap (λ (x : Answer). x.number) (w ∙ answer_outside ce d m1 m2 p t))), outside);
  accepted = λ t. let b = bounded ce d m1 m2 p t in (dem ce d m1 m2 p, remainder ce d m1 m2 p, quantity t, in_words ce d m1 m2 p b.0 b.1);
}
  where
    answer : within ce d m1 m2 p ≡ true → demanded_in r ≡ record { number = 0; value = dem ce d m1 m2 p; remainder = remainder ce d m1 m2 p }
    answer t = w ∙ answer_within ce d m1 m2 p t

    outside : r ≡ Err BeyondBounds → within ce d m1 m2 p ≡ false
    outside o = never_true _ (λ t.
        let h : (demanded_in r).number ≡ 0 = ap (λ (x : Answer). x.number) (answer t) in
        let g : (demanded_in r).number ≡ 1 = ap (λ (x : Result Demanded Refusal). (demanded_in x).number) o in
        omega (arith, h, g))

    quantity : within ce d m1 m2 p ≡ true → r ≡ demanded_as (dem ce d m1 m2 p) (remainder ce d m1 m2 p)
    quantity t =
        quantity_of_lem r (ap (λ (x : Answer). x.number) (answer t))
        ∙ ap₂ (λ (q e : ℕ). demanded_as q e) (ap (λ (x : Answer). x.value) (answer t)) (ap (λ (x : Answer). x.remainder) (answer t))

an_answer : (ce d m1 m2 p : ℕ) → (r : Result Demanded Refusal) × Asked ce d m1 m2 p r
an_answer ce d m1 m2 p = go (within ce d m1 m2 p) refl
  where
    go : (t : Bool) → within ce d m1 m2 p ≡ t → (r : Result Demanded Refusal) × Asked ce d m1 m2 p r
    go true t = (demanded_as (dem ce d m1 m2 p) (remainder ce d m1 m2 p), sym (answer_within ce d m1 m2 p t))
    go false t = (Err BeyondBounds, sym (answer_outside ce d m1 m2 p t))

-- ---- nothing is left free: by the curve's words, and by rounding once more

module _
    (ce d m1 m2 p : ℕ) (s : InBounds ce d m1 m2) (a : InRange ce p) {q q' e e' : ℕ}
    (w : DemandIs ce d m1 m2 p q e) (v : DemandIs ce d m1 m2 p q' e') where
  same_quantity : q ≡ q'
  same_quantity = ⊎_elim
      (λ h. let k : p ≡ 2 * ce = (let g = a.high in omega arith) in w.top k ∙ sym (v.top k))
      (λ h. least_is _ 0 m2 q (w.least h) ∙ sym (least_is _ 0 m2 q' (v.least h)))
      (le_or_lt (2 * ce) p)

  same_remainder : e ≡ e'
  same_remainder =
      let n = exact_times_ce ce d m1 m2 p in
      let b = exact_between ce d m1 m2 p s a in
      let t = (exact_in_parts ce d m1 m2 p s a n b.0 b.1).0 refl in
      let x : n + e ≡ q * ce = (w.exact n b.0 b.1).1 t in
      let y : n + e' ≡ q' * ce = (v.exact n b.0 b.1).1 t in
      let z : q * ce ≡ q' * ce = ap (λ (k : ℕ). k * ce) same_quantity in
      omega (arith, x, y, z)

-- a number is rounded up to one multiple of k alone, by one remainder below k
rounded_up_to : (k n q q' e e' : ℕ) → n + e ≡ q * k → e < k → n + e' ≡ q' * k → e' < k → q < q' → ⊥
rounded_up_to k n q q' e e' x l y h g =
    let m : suc q * k ≤ q' * k = mul-le-mul_right k g in
    omega (arith, x, l, y, h, m, suc-mul q k)

-- so the formula of exact demand and a remainder below CE say the same quantity and remainder as the curve's words do
pub by_rounding : {ce d m1 m2 p q q' e e' : ℕ} → DemandIs ce d m1 m2 p q e → DemandIs ce d m1 m2 p q' e' → (q ≡ q') × (e ≡ e')
by_rounding {ce} {d} {m1} {m2} {p} {q} {q'} {e} {e'} w v = (alike, omega (arith, w.makes_up, v.makes_up, ap (λ (k : ℕ). k * ce) alike))
  where
    n : ℕ
    n = exact_times_ce ce d m1 m2 p

    alike : q ≡ q'
    alike = ⊎_elim
        (λ t. t)
        (⊎_elim
        (λ g. absurd (rounded_up_to ce n q q' e e' w.makes_up w.below_ce v.makes_up v.below_ce g))
        (λ g. absurd (rounded_up_to ce n q' q e' e v.makes_up v.below_ce w.makes_up w.below_ce g)))
        (three_way q q')

determined : (ce d m1 m2 p : ℕ) (r r' : Result Demanded Refusal) → DemandAnswered ce d m1 m2 p r → DemandAnswered ce d m1 m2 p r' → r ≡ r'
determined ce d m1 m2 p r r' w v = go (within ce d m1 m2 p) refl
  where
    go : (t : Bool) → within ce d m1 m2 p ≡ t → r ≡ r'
    go false t = w.refused.0 t ∙ sym (v.refused.0 t)
    go true t =
        let b = bounded ce d m1 m2 p t in
        let x = w.accepted t in
        let y = v.accepted t in
        x.2
        ∙ ap₂ (λ (q e : ℕ). demanded_as q e)
        (same_quantity ce d m1 m2 p b.0 b.1 x.3 y.3)
        (same_remainder ce d m1 m2 p b.0 b.1 x.3 y.3)
        ∙ sym y.2

pub demand_stated : {M : Type 1} → DemandStated M
demand_stated = record {
  meets = demand_met.met;
  answered = as_stated;
  numbers = (refl, (λ q e. refl));
  asks_nothing = λ ce d m1 m2 p. tt;
  some_answer = an_answer;
  determines = determined;
}
