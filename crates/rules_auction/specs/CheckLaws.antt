-- What the checks of the calls say where they pass (document 01, Registration, Rounds and The twelve numbers).
use Rattle.std.specs.Prelude.{ℕ, suc, ◌*◌, ◌/◌, ◌≤◌, ◌<◌, ◌≡◌, ◌⊎◌, ◌↔◌, true, ◌&&◌, leb, ltb, eqb, length}
use Rattle.std.proofs.Common.{⊎_elim, arith, leb-true, ltb-true, eqb-true, eq-eqb}
use Rattle.std.proofs.Math.Logic.{⊎_map}
use mathlib.Core.List.Memᴰ
use mathlib.Core.List.{List, [], ◌∷◌, Memᴰ}
use Rattle.rules_numbers.specs.Cases.{and_true, or_true, or_left, or_right}
use Rattle.rules_numbers.specs.Lists.{last_or, member}
use Rattle.rules_numbers.specs.ListLaws.{last_in, member_true}
use Rattle.rules_demand.specs.Demand.{in_bounds, InBounds}
use Rattle.rules_demand.specs.Range.{in_bounds_lem}
use Rattle.rules_auction.specs.Ledger.{Settings, Declaration, declared_or_zero, Ledger}
use Rattle.rules_auction.specs.Refusals.{settings_ok, is_number, numbers_ok, is_kind, rising, levels_ok, may_join, declaration_ok, floor, opening_price}
use Rattle.rules_auction.specs.Refusals.{closing_ok, is_of_kind, falling, prices_ok, lowering}

-- ---- set-up

pub record InSettings (s : Settings) : Type 0 where
  pub bounds : InBounds s.ce s.d s.m1 s.m2
  pub low : s.ce / 2 < s.a
  pub high : s.a ≤ 2 * s.ce

pub in_settings : (s : Settings) → settings_ok s ≡ true → InSettings s
unfolding settings_ok
in_settings s e =
    let t = and_true _ (leb s.a (2 * s.ce)) e in
    let u = and_true (in_bounds s.ce s.d s.m1 s.m2) _ t.0 in
    record { bounds = in_bounds_lem s.ce s.d s.m1 s.m2 u.0; low = ltb-true (s.ce / 2) s.a u.1; high = leb-true s.a (2 * s.ce) t.1 }

-- ---- registration

pub is_number_lem : (n : ℕ) → is_number n ≡ true → (1 ≤ n) × (n ≤ 32)
is_number_lem n e = let t = and_true (leb 1 n) (leb n 32) e in (leb-true 1 n t.0, leb-true n 32 t.1)

pub record Numbers (k n project : ℕ) : Type 0 where
  pub project_low : 1 ≤ k
  pub project_high : k ≤ 32
  pub number_low : 1 ≤ n
  pub number_high : n ≤ 32
  pub unused : project ≡ 0

pub numbers_facts : (k n project : ℕ) → numbers_ok k n project ≡ true → Numbers k n project
unfolding numbers_ok
numbers_facts k n project e =
    let t = and_true (is_number k && is_number n) (eqb project 0) e in
    let u = and_true (is_number k) (is_number n) t.0 in
    let v = is_number_lem k u.0 in
    let w = is_number_lem n u.1 in
    record { project_low = v.0; project_high = v.1; number_low = w.0; number_high = w.1; unused = eqb-true project 0 t.1 }

pub record Levels (ls : List ℕ) : Type 0 where
  pub some : 1 ≤ length ls
  pub at_most_eight : length ls ≤ 8
  pub rises : rising 0 ls ≡ true

pub levels_facts : (ls : List ℕ) → levels_ok ls ≡ true → Levels ls
unfolding levels_ok
levels_facts ls e =
    let t = and_true (leb 1 (length ls) && leb (length ls) 8) (rising 0 ls) e in
    let u = and_true (leb 1 (length ls)) (leb (length ls) 8) t.0 in
    record { some = leb-true 1 (length ls) u.0; at_most_eight = leb-true (length ls) 8 u.1; rises = t.1 }

pub rising_first : (v x : ℕ) (xs : List ℕ) → rising v (x ∷ xs) ≡ true → (v < x) × (x ≤ 1000000000) × (rising x xs ≡ true)
unfolding rising
rising_first v x xs e =
    let t = and_true (ltb v x && leb x 1000000000) (rising x xs) e in
    let u = and_true (ltb v x) (leb x 1000000000) t.0 in
    (ltb-true v x u.0, leb-true x 1000000000 u.1, t.1)

-- every declared level is from 1 to 10^9, the highest too
pub level_in_bounds : (ls : List ℕ) → levels_ok ls ≡ true → (v : ℕ) → Memᴰ v ls → (1 ≤ v) × (v ≤ 1000000000)
level_in_bounds ls e v m = go 0 ls (levels_facts ls e).rises m
  where
    go : (u : ℕ) (xs : List ℕ) → rising u xs ≡ true → Memᴰ v xs → (suc u ≤ v) × (v ≤ 1000000000)
    go u [] r k = absurd (Memᴰ.not-nil k)
    go u (x ∷ xs) r k =
        let t = rising_first u x xs r in
        ⊎_elim (λ d. (omega arith, omega arith)) (λ j. let b = go x xs t.2 j in (omega arith, b.1)) (Memᴰ.cases_cons k)

pub highest_in_bounds : (ls : List ℕ) → levels_ok ls ≡ true → (1 ≤ last_or 0 ls) × (last_or 0 ls ≤ 1000000000)
unfolding last_or
highest_in_bounds ls e = level_in_bounds ls e (last_or 0 ls) (go ls (levels_facts ls e).some)
  where
    go : (xs : List ℕ) → 1 ≤ length xs → Memᴰ (last_or 0 xs) xs
    go [] h = absurd (omega arith)
    go (x ∷ xs) h = last_in x xs

pub record Declared (l : Ledger) (x : Declaration) : Type 0 where
  pub kind : (x.kind ≡ 1) ⊎ (x.kind ≡ 2)
  pub levels : levels_ok x.levels ≡ true
  pub joins : may_join l x.project x.kind ≡ true

pub declaration_facts : (l : Ledger) (x : Declaration) → declaration_ok l x ≡ true → Declared l x
unfolding declaration_ok
declaration_facts l x e =
    let t = and_true (is_kind x.kind && levels_ok x.levels) _ e in
    let u = and_true (is_kind x.kind) (levels_ok x.levels) t.0 in
    record { kind = ⊎_map (eqb-true x.kind 1) (eqb-true x.kind 2) (or_true (eqb x.kind 1) _ u.0); levels = u.1; joins = t.1 }

-- ---- opening

pub closing_facts : (l : Ledger) (c : ℕ) → closing_ok l c ≡ true → (floor l ≤ c) × (c < opening_price l)
unfolding closing_ok
closing_facts l c e =
    let t = and_true (leb (floor l) c) (ltb c (opening_price l)) e in
    (leb-true (floor l) c t.0, ltb-true c (opening_price l) t.1)

-- ---- offers

pub of_kind_facts : (k n kind : ℕ) → is_of_kind k n kind ≡ true → (1 ≤ n) × (n ≤ 32) × (kind ≡ k)
unfolding is_of_kind
of_kind_facts k n kind e =
    let t = and_true (is_number n) (eqb kind k) e in
    let u = is_number_lem n t.0 in
    (u.0, u.1, eqb-true kind k t.1)

pub record Prices (c o : ℕ) (ps qs : List ℕ) : Type 0 where
  pub same : length ps ≡ length qs
  pub at_most_eight : length ps ≤ 8
  pub falls : falling c o ps ≡ true

pub prices_facts : (c o : ℕ) (ps qs : List ℕ) → prices_ok c o ps qs ≡ true → Prices c o ps qs
unfolding prices_ok
prices_facts c o ps qs e =
    let t = and_true (eqb (length ps) (length qs) && leb (length ps) 8) _ e in
    let u = and_true (eqb (length ps) (length qs)) (leb (length ps) 8) t.0 in
    record { same = eqb-true (length ps) (length qs) u.0; at_most_eight = leb-true (length ps) 8 u.1; falls = t.1 }

pub falling_first : (c o p : ℕ) (ps : List ℕ) → falling c o (p ∷ ps) ≡ true → (c ≤ p) × (p < o) × (falling c p ps ≡ true)
unfolding falling
falling_first c o p ps e =
    let t = and_true (leb c p && ltb p o) (falling c p ps) e in
    let u = and_true (leb c p) (ltb p o) t.0 in
    (leb-true c p u.0, ltb-true p o u.1, t.1)

pub declared_or_zero_lem : (ls : List ℕ) (v : ℕ) → (declared_or_zero ls v ≡ true) ↔ ((v ≡ 0) ⊎ Memᴰ v ls)
declared_or_zero_lem ls v = (
  (λ e. ⊎_map (eqb-true v 0) (member_true v ls).0 (or_true (eqb v 0) (member v ls) e)),
  ⊎_elim (λ e. or_left (eqb v 0) (member v ls) (eq-eqb v 0 e)) (λ m. or_right (eqb v 0) (member v ls) ((member_true v ls).1 m)),
)

-- the first level of a lowering list is declared or 0, and below the quantity before it
pub lowering_first : (ls : List ℕ) (q v : ℕ) (vs : List ℕ) → lowering ls q (v ∷ vs) ≡ true → (declared_or_zero ls v ≡ true) × (v < q) × (lowering ls v vs ≡ true)
unfolding lowering
lowering_first ls q v vs e =
    let t = and_true (declared_or_zero ls v && ltb v q) (lowering ls v vs) e in
    let u = and_true (declared_or_zero ls v) (ltb v q) t.0 in
    (u.0, ltb-true v q u.1, t.1)
