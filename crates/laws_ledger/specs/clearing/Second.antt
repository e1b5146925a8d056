-- The price for new plants (document 02, 5): never below that for existing ones, and equal to it where no lodged step was applied.
use Rattle.std.specs.Prelude.{ℕ, suc, ◌≤◌, ◌≡◌, ◌⊎◌, Bool, eqb}
use Rattle.std.proofs.Math.Path.{refl, sym, ap, subst, fun_ext}
use Rattle.std.proofs.Common.{◌∙◌, inl, inr, arith}
use Rattle.std.proofs.Math.Logic.{⊎_elim}
use Rattle.std.proofs.Math.Bool.{true, false, cond, not}
use borrow.Author.Tests.{leb-true, le-leb, eqb-true, not-false}
use Rattle.rules_numbers.specs.Cases.{and_true, never_true, le_or_lt, clash}
use Rattle.rules_numbers.specs.Lists.{one_to, is_empty, any}
use Rattle.rules_numbers.specs.ListLaws.{any_true, in_map, in_one_to, greatest_least, total_map_le}
use Rattle.rules_numbers.specs.Least.{Sought, Least, sought_from, sought_least}
use Rattle.rules_auction.specs.Ledger.{Developer, Ledger, nobody, with_developers}
use Rattle.rules_auction.specs.Clearing.{high, developers_of, greatest_of, supply, demand_at, covered, closing_price}
use Rattle.rules_auction.specs.Second.{lodged_applied, taken_out, remaining, short, second_price}
use Rattle.rules_auction.specs.Projects.{in_developers_of, greatest_of_upper}
use Rattle.laws_ledger.specs.Sound.{started, Sound}
use Rattle.laws_ledger.specs.Parts.{Part}
use Rattle.laws_ledger.specs.clearing.ClosingPrice.{covered_rises, closing_price_lem, part_demand}

-- the remaining ledger is a part of the ledger
pub remaining_part : (l : Ledger) → Part l (remaining l)
unfolding remaining
remaining_part l = record { settings = refl; closing = refl; each = λ n. go n (taken_out l (l.developers n).declared.project) }
  where
    go : (n : ℕ) (b : Bool) → (cond b nobody (l.developers n) ≡ nobody) ⊎ (cond b nobody (l.developers n) ≡ l.developers n)
    go n true = inl refl
    go n false = inr refl

-- where no lodged step was applied, nobody is taken out
pub none_taken_out : (l : Ledger) → ((k : ℕ) → taken_out l k ≡ false) → remaining l ≡ l
unfolding remaining
none_taken_out l h = ap (with_developers l) (fun_ext (λ n. ap (λ (b : Bool). cond b nobody (l.developers n)) (h (l.developers n).declared.project)))

-- ---- a part of a ledger supplies no more

module _ (l m : Ledger) (t : Part l m) where
  -- a developer of a project is not taken out
  stays : (n k : ℕ) → 1 ≤ k → (m.developers n).declared.project ≡ k → m.developers n ≡ l.developers n
  stays n k h e =
      ⊎_elim (λ z. let p : (m.developers n).declared.project ≡ 0 = ap (λ (x : Developer). x.declared.project) z in absurd (omega arith)) (λ s. s) (t.each n)

  part_greatest : (f : Developer → ℕ) (k : ℕ) → 1 ≤ k → greatest_of f m k ≤ greatest_of f l k
  unfolding greatest_of
  part_greatest f k h = greatest_least (greatest_of f l k) _ (λ v i.
      let w = (in_map (λ (n : ℕ). f (m.developers n)) v (developers_of m k)).0 i in
      let n = w.0 in
      let r = (in_developers_of m k n).0 w.1 in
      let s = stays n k h r.2 in
      let j = (in_developers_of l k n).1 (r.0, r.1, sym (ap (λ (x : Developer). x.declared.project) s) ∙ r.2) in
      subst (λ (u : ℕ). u ≤ greatest_of f l k) (ap f (sym s) ∙ sym w.2) (greatest_of_upper f l k n j))

  part_supply : (f : Developer → ℕ) → supply f m ≤ supply f l
  unfolding supply
  part_supply f = total_map_le (greatest_of f m) (greatest_of f l) (one_to 32) (λ k i. part_greatest f k ((in_one_to k 32).0 i).0)

  pub part_covered : (p : ℕ) → covered m p ≡ true → covered l p ≡ true
  unfolding covered
  part_covered p c =
      le-leb (demand_at l p) (supply (high p) l)
      (omega (arith, leb-true (demand_at m p) (supply (high p) m) c, part_supply (high p), part_demand l m t p))

-- ---- the mark says that A is not covered

pub short_uncovered : (l : Ledger) → short l ≡ true → covered (remaining l) l.settings.a ≡ false
unfolding short
short_uncovered l h = never_true (covered (remaining l) l.settings.a) (λ c. clash h (ap not c))

-- ---- of a sound ledger with a round opened

module _ (l : Ledger) (s : Sound l) (e : started l.phase ≡ true) where
  sought : Sought (covered (remaining l)) l.closing l.settings.a (closing_price (remaining l))
  unfolding closing_price remaining
  sought = sought_from (covered (remaining l)) l.closing l.settings.a (let k = s.prices e in omega arith)

  -- A not covered, no price below it is: the search ends at A
  pub second_price_lem : second_price l ≡ closing_price (remaining l)
  unfolding second_price short
  second_price_lem = go (covered (remaining l) l.settings.a) refl
    where
      go : (b : Bool) → covered (remaining l) l.settings.a ≡ b → cond (not b) l.settings.a (closing_price (remaining l)) ≡ closing_price (remaining l)
      go true c = refl
      go false c = ⊎_elim
          (λ h. absurd (clash (covered_rises l s e (remaining l) (remaining_part l) _ _ sought.low (omega arith) (omega arith) (sought.stops h)) c))
          (λ h. let k = sought.high in omega arith)
          (le_or_lt (suc (closing_price (remaining l))) l.settings.a)

  pub second_high : second_price l ≤ l.settings.a
  second_high = omega (arith, second_price_lem, sought.high)

  -- not short: the lowest covered price passed, with these projects taken out
  pub second_least : short l ≡ false → Least (covered (remaining l)) l.closing l.settings.a (second_price l)
  unfolding short
  second_least h = subst (Least (covered (remaining l)) l.closing l.settings.a) (sym second_price_lem)
      (sought_least (covered (remaining l)) l.closing l.settings.a _ (not-false (covered (remaining l) l.settings.a) h) sought)

  -- short: A
  pub short_second : short l ≡ true → second_price l ≡ l.settings.a
  unfolding second_price
  short_second h = rw h

  -- never below the first
  pub second_not_below : closing_price l ≤ second_price l
  second_not_below = go (short l) refl
    where
      first : Least (covered l) l.closing l.settings.a (closing_price l)
      first = closing_price_lem l s e

      go : (b : Bool) → short l ≡ b → closing_price l ≤ second_price l
      go true h = omega (arith, first.high, short_second h)
      go false h =
          let m = second_least h in
          ⊎_elim (λ g. g) (λ g. absurd (clash (part_covered l (remaining l) (remaining_part l) _ m.passes) (first.none _ m.low g)))
          (le_or_lt (closing_price l) (second_price l))

  -- the first where no lodged step was applied
  pub second_is_first : ((k : ℕ) → taken_out l k ≡ false) → (second_price l ≡ closing_price l) × (short l ≡ false)
  unfolding short
  second_is_first h =
      let r = none_taken_out l h in
      (second_price_lem ∙ ap closing_price r, ap (λ (m : Ledger). not (covered m l.settings.a)) r ∙ ap not (s.start_covered_lem e))

-- ---- an existing project has one developer, so those taken out are the existing plants with withdrawals

module _ (l : Ledger) (s : Sound l) (n : ℕ) where
  abbrev x : Developer
  x = l.developers n

  applied_kind : (y : Developer) → lodged_applied y ≡ true → y.declared.kind ≡ 1
  unfolding lodged_applied
  applied_kind y e = eqb-true _ 1 (and_true (eqb y.declared.kind 1) (not (is_empty y.withdrawals)) e).0

  kind_number : x.declared.kind ≡ 1 → (1 ≤ n) × (n ≤ 32)
  kind_number e = ⊎_elim
      (λ z. let k : x.declared.kind ≡ 0 = ap (λ (y : Developer). y.declared.kind) z in absurd (omega arith))
      (λ r. (r.number_low, r.number_high)) (s.each n)

  taken_out_is : taken_out l x.declared.project ≡ lodged_applied x
  unfolding taken_out
  taken_out_is = go (lodged_applied x) refl
    where
      go : (b : Bool) → lodged_applied x ≡ b → any (λ m. lodged_applied (l.developers m)) (developers_of l x.declared.project) ≡ b
      go true h =
          let r = kind_number (applied_kind x h) in
          (any_true (λ m. lodged_applied (l.developers m)) (developers_of l x.declared.project)).1 (n, (in_developers_of l _ n).1 (r.0, r.1, refl), h)
      go false h = never_true _ (λ a.
          let r = (any_true (λ m. lodged_applied (l.developers m)) (developers_of l x.declared.project)).0 a in
          let k = applied_kind (l.developers r.0) r.2 in
          let same : r.0 ≡ n = s.alone r.0 n k ((in_developers_of l _ r.0).0 r.1).2 in
          clash r.2 (ap (λ (m : ℕ). lodged_applied (l.developers m)) same ∙ h))

  pub remaining_is : (remaining l).developers n ≡ cond (lodged_applied x) nobody x
  unfolding remaining
  remaining_is = ap (λ (b : Bool). cond b nobody x) taken_out_is
