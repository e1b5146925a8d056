-- The projects that remain, place by place, and the price and the mark that follow from them.
use Prim.Native.Nat.{ℕ, zero, suc, ◌+◌, ◌≤◌, ◌<◌}
use mathlib.Core.Path.{◌≡◌, refl, sym, ap, ap₂, ◌∙◌, subst}
use mathlib.Core.Bool.{Bool, true, false, cond, not, ◌&&◌}
use mathlib.Core.List.{List, [], ◌∷◌}
use native.Mathlib.Omega.{arith}
use lib.Dec.{eqb, eqb-suc-zero}
use lib.ListN.{length, get_or, set, replicate}
use Rattle.std.specs.Bool.{MatchBool}
use Rattle.std.specs.List.{AllWithin, zip}
use Rattle.std.proofs.lemmas.Slice.Zip.{length-zip, get_or-zip}
use Rattle.rules_numbers.specs.Cases.{never_true, clash}
use Rattle.rules_numbers.specs.Lists.{is_empty}
use Rattle.rules_numbers.specs.ListLaws.{any_true, numbered_nth}
use Rattle.rules_auction.specs.Ledger.{Step, Developer, Ledger, nobody}
use Rattle.rules_auction.specs.Clearing.{developers_of, of_each, covered}
use Rattle.rules_auction.specs.Projects.{in_developers_of}
use Rattle.rules_auction.specs.Second.{lodged_applied, taken_out, remaining, short}
use Rattle.laws_ledger.specs.Sound.{Sound}
use Rattle.laws_ledger.specs.clearing.Second.{remaining_part, second_price_lem, second_is_first, remaining_is}
use Rattle.engine_held.specs.declared.history.History.{History}
use Rattle.engine_checks.specs.declared.clock.Settings.{Settings}
use Rattle.engine_auction.specs.Holds.{held_course}
use Rattle.engine_moves.specs.closing_entries.Places.{Filling, filling_next, filling_all, numbered_length}
use Rattle.engine_price.specs.price.Prices.{ByHistories, CoveredAt, ClosingPrice}
use Rattle.engine_price.specs.second_price.Taken.{plant_in, NoneTaken, Remain, SecondPrice}

-- ---- one developer

-- as many withdrawals as are read, of whichever steps
abbrev any_step : Step
any_step = record { price = 0; level = 0 }

pub taken_where : (kind n : ℕ) → eqb kind 1 && not (eqb n 0) ≡ lodged_applied (plant_in kind n)
unfolding lodged_applied
taken_where kind zero = refl
taken_where kind (suc n) = rw (eqb-suc-zero n)

taken_read : (x : Developer) → lodged_applied (plant_in x.declared.kind (length x.withdrawals)) ≡ lodged_applied x
unfolding lodged_applied
taken_read x = go x.withdrawals
  where
    go : (ws : List Step) → eqb x.declared.kind 1 && not (is_empty (replicate (length ws) any_step)) ≡ eqb x.declared.kind 1 && not (is_empty ws)
    go [] = refl
    go (w ∷ ws) = refl

left_is :
    (l : Ledger) → Sound l → (n : ℕ) →
    let x = l.developers n in
    cond (lodged_applied (plant_in x.declared.kind (length x.withdrawals))) 0 x.declared.project ≡ ((remaining l).developers n).declared.project
left_is l s n =
    let x = l.developers n in
    ap (λ (b : Bool). cond b 0 x.declared.project) (taken_read x)
    ∙ by_test (lodged_applied x)
    ∙ ap (λ (y : Developer). y.declared.project) (sym (remaining_is l s n))
  where
    by_test : (b : Bool) → cond b 0 (l.developers n).declared.project ≡ (cond b nobody (l.developers n)).declared.project
    by_test true = refl
    by_test false = refl

-- ---- nobody is taken out

module _ (kinds : List ℕ) (histories : List History) where
  -- what is read of the developers: none is taken out
  abbrev NoneRead : Type 0
  NoneRead = AllWithin (λ (x : ℕ × History). lodged_applied (plant_in x.0 x.1.count) ≡ false) (zip kinds histories) 0 (length (zip kinds histories))

  module _ (none : NoneRead) (l : Ledger) (k : kinds ≡ of_each (λ x. x.declared.kind) l) (h : histories ≡ of_each held_course l) where
    none_at : (i : ℕ) → i < 32 → lodged_applied (l.developers (suc i)) ≡ false
    none_at i w =
        let d = held_course (l.developers 0) in
        let kl : length kinds ≡ 32 = ap length k ∙ numbered_length _ in
        let hl : length histories ≡ 32 = ap length h ∙ numbered_length _ in
        let ki : get_or kinds i 0 ≡ (l.developers (suc i)).declared.kind = numbered_nth _ 32 kinds i 0 k w in
        let hi : get_or histories i d ≡ held_course (l.developers (suc i)) = numbered_nth _ 32 histories i d h w in
        sym (taken_read (l.developers (suc i)))
        ∙ sym (ap₂ (λ (a : ℕ) (x : History). lodged_applied (plant_in a x.count)) ki hi)
        ∙ sym (ap (λ (x : ℕ × History). lodged_applied (plant_in x.0 x.1.count)) (get_or-zip kinds histories i (0, d) (omega arith) (omega arith)))
        ∙ none i (0, d) (omega arith) (omega (arith, length-zip kinds histories))

    before : (m : ℕ) → 1 ≤ m → m ≤ 32 → lodged_applied (l.developers m) ≡ false
    before zero low high = absurd (omega arith)
    before (suc i) low high = none_at i (omega arith)

  pub none_read : (r : Bool) (X : Type 0) → MatchBool r NoneRead X → NoneTaken kinds histories r
  unfolding taken_out
  none_read false X m = record { nobody_taken_out = λ e. absurd (clash e refl) }
  none_read true X m = record {
    nobody_taken_out = λ _ l k h n. never_true _ (λ a.
        let r = (any_true (λ m. lodged_applied (l.developers m)) (developers_of l n)).0 a in
        let b = (in_developers_of l n r.0).0 r.1 in
        clash r.2 (before m l k h r.0 b.0 (omega (arith, b.1))));
  }

-- ---- the projects that remain

-- the project of number n that remains
abbrev project_left : Ledger → ℕ → ℕ
project_left l n = ((remaining l).developers n).declared.project

pub record RemainTurn (projects kinds : List ℕ) (histories : List History) (out : List ℕ) (i : ℕ) : Type 0 where
  pub within : i ≤ 32
  pub part :
      (l : Ledger) → Sound l → projects ≡ of_each (λ x. x.declared.project) l → kinds ≡ of_each (λ x. x.declared.kind) l → histories ≡ of_each held_course l →
      Filling (project_left l) 0 out i

pub remain_first : (projects kinds : List ℕ) (histories : List History) → RemainTurn projects kinds histories projects 0
remain_first projects kinds histories = record {
  within = omega arith;
  part = λ l s p k h. record { long = ap length p ∙ numbered_length _; done = λ j w. absurd (omega arith) };
}

pub remain_next :
    (projects kinds : List ℕ) (histories : List History) (out : List ℕ) (i v : ℕ) (d : History) → RemainTurn projects kinds histories out i → i < 32 →
    v ≡ cond (lodged_applied (plant_in (get_or kinds i 0) (get_or histories i d).count)) 0 (get_or projects i 0) →
    RemainTurn projects kinds histories (set out i v) (i + 1)
remain_next projects kinds histories out i v d t w e = record {
  within = omega arith;
  part = λ l s p k h.
      let pi : get_or projects i 0 ≡ (l.developers (suc i)).declared.project = numbered_nth _ 32 projects i 0 p w in
      let ki : get_or kinds i 0 ≡ (l.developers (suc i)).declared.kind = numbered_nth _ 32 kinds i 0 k w in
      let hi : get_or histories i d ≡ held_course (l.developers (suc i)) = numbered_nth _ 32 histories i d h w in
      filling_next (project_left l) 0 out i v (t.part l s p k h) w
      (e ∙ ap (λ (x : History). cond (lodged_applied (plant_in (get_or kinds i 0) x.count)) 0 (get_or projects i 0)) hi
      ∙ ap₂ (λ (a b : ℕ). cond (lodged_applied (plant_in b (length (l.developers (suc i)).withdrawals))) 0 a) pi ki ∙ left_is l s (suc i));
}

pub remain_all : (projects kinds : List ℕ) (histories : List History) (out : List ℕ) (i : ℕ) → RemainTurn projects kinds histories out i → 32 ≤ i →
    Remain projects kinds histories out
remain_all projects kinds histories out i t w =
    let e : i ≡ 32 = let z = t.within in omega arith in
    record { projects_left = λ l s p k h. filling_all (project_left l) 0 out (subst (Filling (project_left l) 0 out) e (t.part l s p k h)) }

-- ---- the price and the mark

module _ (settings : Settings) (closing : ℕ) (projects kinds : List ℕ) (histories : List History) (firsts : List ℕ) (p : ℕ) where
  -- nobody is taken out: the first price, not short
  pub second_first : (b : Bool) → b ≡ true → NoneTaken kinds histories b →
      SecondPrice settings closing projects kinds histories firsts p (record { price = p; short = false })
  second_first b e n = record {
    price_and_mark = λ l s c j k h f q.
        let w = second_is_first l s.sound s.began (n.nobody_taken_out e l k h) in
        (q ∙ sym w.0, sym w.1);
  }

  pub second :
      (out : List ℕ) (r : ℕ) (t : Bool) → Remain projects kinds histories out → CoveredAt settings (ByHistories out histories firsts) settings.a t →
      ClosingPrice settings closing (ByHistories out histories firsts) r →
      SecondPrice settings closing projects kinds histories firsts p (record { price = r; short = not t })
  unfolding short
  second out r t m v q = record {
    price_and_mark = λ l s c j k h f _.
        let by : ByHistories out histories firsts l (remaining l) = record {
          histories_are = h;
          firsts_are = f;
          projects_are = m.projects_left l s.sound j k h;
        } in
        let top : settings.a ≡ l.settings.a = ap (λ (x : Settings). x.a) s.settings_are in
        let g = s.sound.prices s.began in (
          q.lowest l (remaining l) s c (remaining_part l) by ∙ sym (second_price_lem l s.sound s.began),
          ap not (v.tells l (remaining l) s (remaining_part l) by (omega arith) (omega arith) ∙ ap (covered (remaining l)) top),
        );
  }
