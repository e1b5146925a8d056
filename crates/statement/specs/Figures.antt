-- How large the figures of a reply are, of a sound ledger: a closing's excess, a settling's price, demand, total, counts and award records, and
-- the remainder of either.
use Prim.Native.Nat.{ℕ, suc, min, ◌+◌, ◌-◌, ◌*◌, ◌^◌, ◌≤◌, ◌<◌}
use Rattle.std.specs.Prelude.{◌≡◌, refl, Bool, false, cond, map, leb, ltb, pos, negsuc, ◌-ℤ◌, length}
use Rattle.std.proofs.Common.{sym, ap, ⊎_elim}
use Rattle.std.proofs.Math.Path.{subst}
use Rattle.std.proofs.Math.Bool.{true}
use native.Mathlib.Omega.{arith}
use Rattle.std.proofs.Math.ListN.{get_or}
use borrow.Author.Tests.{leb-true, lt-ltb, le-ltb}
use Rattle.rules_numbers.specs.Lists.{one_to, total}
use Rattle.rules_numbers.specs.Least.{Least}
use Rattle.rules_numbers.specs.ListLaws.{Each, in_keep, in_one_to, length_one_to, total_map_bound}
use Rattle.rules_demand.specs.Range.{dem_range}
use Rattle.rules_demand.specs.RemainderLaws.{remainder_below_ce}
use Rattle.rules_demand.specs.Signs.{minus}
use Rattle.rules_auction.specs.Ledger.{Developer, Close, Ledger}
use Rattle.rules_auction.specs.Clearing.{high, developers_of, greatest_of, supply, demand_at, remainder_at, covered, closing_price}
use Rattle.rules_auction.specs.Refusals.{check, is_closed, refusal}
use Rattle.rules_auction.specs.Rounds.{accepted, supply_after, excess}
use Rattle.rules_auction.specs.RoundLaws.{supply_after_closing}
use Rattle.rules_auction.specs.CheckLaws.{declared_or_zero_lem, level_in_bounds}
use Rattle.rules_auction.specs.Award.{open_to, admissible, covering_choices, award, winner}
use Rattle.rules_auction.specs.Participation.{grants, price_paid}
use Rattle.rules_auction.specs.Settling.{records, settling_refusal}
use Rattle.laws_ledger.specs.Sound.{started, Sound}
use Rattle.laws_ledger.specs.clearing.Supply.{greatest_of_bound, high_small}
use Rattle.rules_auction.specs.Second.{second_price}
use Rattle.laws_ledger.specs.clearing.Second.{second_high}
use Rattle.laws_ledger.specs.clearing.ClosingPrice.{closed_started, settings_facts, passed_in_range, closing_price_lem}
use Rattle.laws_ledger.specs.reachable.Bounds.{quantity_declared}
use Rattle.laws_ledger.specs.reachable.Checks.{close_passed}
use Rattle.laws_ledger.specs.reachable.Held.{in_round_lem}
use Rattle.laws_ledger.specs.reachable.Closing.{sound_close}
use Rattle.laws_ledger.specs.awards.OpenLevels.{open_le_high}
use Rattle.laws_ledger.specs.awards.AwardLaws.{highs_admissible, award_is, award_length, counts}
use Rattle.laws_ledger.specs.awards.ParticipationLaws.{paid_at_most}
use Rattle.laws_ledger.specs.awards.Winners.{winner_open, awarded_open}
use Rattle.statement.specs.settling.RecordsInWords.{records_each}
use Rattle.rules_replies.specs.Replies.{twos_complement}
use Rattle.statement.specs.Readable.{signed, Awarded}
use Rattle.statement.specs.ReplyDigits.{record_reads}

-- ---- supply: 32 projects, each at 10^9 at most

supply_small : (f : Developer → ℕ) (l : Ledger) → ((n : ℕ) → f (l.developers n) ≤ 1000000000) → supply f l ≤ 32000000000
unfolding supply
supply_small f l h = rw (length_one_to 32) at (total_map_bound (greatest_of f l) 1000000000 (one_to 32) (λ k m. greatest_of_bound f l 1000000000 h k))

quantity_small : (l : Ledger) → Sound l → (n : ℕ) → (l.developers n).quantity ≤ 1000000000
quantity_small l s n = ⊎_elim
    (λ e. omega (arith, ap (λ (x : Developer). x.quantity) e))
    (λ r. let x = l.developers n in ⊎_elim
    (λ z. omega arith)
    (λ m. (level_in_bounds x.declared.levels r.developer.declared.levels x.quantity m).1)
    ((declared_or_zero_lem x.declared.levels x.quantity).0 (quantity_declared r.developer)))
    (s.each n)

-- ---- the excess

module _ (a b : ℕ) (h : a ≤ 32000000000) where
  twos_small : twos_complement (pos a -ℤ pos b) < 2 ^ 64
  twos_small = rw (minus a b) (go (ltb a b))
    where
      go : (t : Bool) → twos_complement (cond t (negsuc (b - suc a)) (pos (a - b))) < 2 ^ 64
      go true = omega arith
      go false = omega arith

  twos_back : b ≤ 100000000000 → signed (twos_complement (pos a -ℤ pos b)) ≡ pos a -ℤ pos b
  twos_back g = rw (minus a b) (go (ltb a b))
    where
      go : (t : Bool) → signed (twos_complement (cond t (negsuc (b - suc a)) (pos (a - b)))) ≡ cond t (negsuc (b - suc a)) (pos (a - b))
      go true = rw (le-ltb (2 ^ 64 - suc (b - suc a)) (2 ^ 63) (omega arith)) (ap negsuc (omega arith))
      go false = rw (lt-ltb (a - b) (2 ^ 63) (omega arith))

-- Dem at a price that the clock passed: M2 at most
demand_at_most : (l : Ledger) → Sound l → started l.phase ≡ true → (p : ℕ) → l.closing ≤ p → p ≤ l.settings.a → demand_at l p ≤ 100000000000
demand_at_most l s e p h g =
    let f = (settings_facts l s e).bounds in
    let r = dem_range l.settings.ce l.settings.d l.settings.m1 l.settings.m2 p f (passed_in_range l s e p h g) in
    omega arith

-- the remainder at any price: below CE
remainder_at_most : (l : Ledger) → Sound l → started l.phase ≡ true → (p : ℕ) → remainder_at l p < 500000
remainder_at_most l s e p =
    let f = (settings_facts l s e).bounds in
    omega (arith, remainder_below_ce l.settings.ce l.settings.d l.settings.m1 l.settings.m2 p (omega arith))

module _ (l : Ledger) (s : Sound l) (e : refusal l Close ≡ 0) where
  in_a_round : started l.phase ≡ true
  in_a_round = ap started (in_round_lem l.phase (close_passed l e).phase)

  supply_after_small : supply_after l ≤ 32000000000
  supply_after_small =
      let next : Ledger = accepted l Close in
      let small : supply (λ x. x.quantity) next ≤ 32000000000 = supply_small (λ x. x.quantity) next
      (quantity_small next (sound_close l s (close_passed l e))) in
      omega (arith, supply_after_closing l)

  closing_demand_small : demand_at l l.closing ≤ 100000000000
  closing_demand_small =
      let p = s.prices in_a_round in
      demand_at_most l s in_a_round l.closing (omega arith) (omega arith)

  pub excess_small : twos_complement (excess l) < 2 ^ 64
  unfolding excess
  excess_small = twos_small (supply_after l) (demand_at l l.closing) supply_after_small

  pub excess_back : signed (twos_complement (excess l)) ≡ excess l
  unfolding excess
  excess_back = twos_back (supply_after l) (demand_at l l.closing) supply_after_small closing_demand_small

  pub closing_remainder_small : remainder_at l l.closing < 500000
  closing_remainder_small = remainder_at_most l s in_a_round l.closing

-- ---- an accepted settling

pub record Passed (l : Ledger) : Type 0 where
  pub closed : is_closed l.phase ≡ true
  pub within_limit : length (admissible l (closing_price l)) ≤ 65536

pub passed : (l : Ledger) (limit room : ℕ) → settling_refusal l limit room ≡ 0 → Passed l
unfolding settling_refusal
passed l limit room e = go (is_closed l.phase) (leb n (min limit 65536)) refl refl e
  where
    n : ℕ
    n = length (admissible l (closing_price l))

    go : (x y : Bool) → is_closed l.phase ≡ x → leb n (min limit 65536) ≡ y
        → check x 2 (check y 10 (check (leb (6 * length (records l (closing_price l))) room) 11 0)) ≡ 0 → Passed l
    go true true c h e = record { closed = c; within_limit = omega (arith, leb-true n (min limit 65536) h) }
    go true false c h e = absurd (omega arith)
    go false y c h e = absurd (omega arith)

module _ (l : Ledger) (s : Sound l) (c : Passed l) where
  abbrev at : ℕ
  at = closing_price l

  begun : started l.phase ≡ true
  begun = closed_started l.phase c.closed

  lowest : Least (covered l) l.closing l.settings.a at
  lowest = closing_price_lem l s begun

  -- twice CE at most
  pub price_small : at ≤ 1000000
  price_small = let b = settings_facts l s begun in let f = b.bounds in let g = lowest in omega arith

  pub demand_small : demand_at l at ≤ 100000000000
  demand_small = let g = lowest in demand_at_most l s begun at (omega arith) (omega arith)

  pub remainder_small : remainder_at l at < 500000
  remainder_small = remainder_at_most l s begun at

  pub second_small : second_price l ≤ 1000000
  second_small = let b = settings_facts l s begun in let f = b.bounds in omega (arith, second_high l s begun)

  pub paid_small : price_paid l at (grants l at) ≤ 1000000
  paid_small = omega (arith, paid_at_most l (grants l at) at, price_small)

  -- that of all projects at their highs, which cover, at most
  pub total_small : total (award l at) ≤ 32000000000
  unfolding covered supply
  total_small =
      let covers : demand_at l at ≤ total (map (greatest_of (high at) l) (one_to 32)) = leb-true (demand_at l at) _ lowest.passes in
      let least = (award_is l at s lowest.passes).least (map (greatest_of (high at) l) (one_to 32)) (highs_admissible l at s) covers in
      omega (arith, least, supply_small (high at) l (high_small l s at))

  pub covering_small : length (covering_choices l at) ≤ 65536
  covering_small = let n = counts l at s lowest.passes in let f = c.within_limit in omega arith

  long : length (award l at) ≡ 32
  long = award_length l at s lowest.passes

  pub awarded : Each Awarded (records l at)
  unfolding records developers_of
  awarded = records_each Awarded l at 1 (award l at) (λ j h g.
      let k : ℕ = 1 + j in
      let v : ℕ = get_or (award l at) j 0 in
      let place : 1 + j - 1 ≡ j = omega arith in
      let some : 0 < get_or (award l at) (k - 1) 0 = subst (λ (i : ℕ). 0 < get_or (award l at) i 0) (sym place) g in
      let o : open_to l at k v ≡ true =
      subst (λ (i : ℕ). open_to l at k (get_or (award l at) i 0) ≡ true) place
      (awarded_open l at k s lowest.passes (omega arith) (omega (arith, long)) some) in
      let w = (winner_open l at k v o).0 in
      let n = (in_one_to (winner l at k v) 32).0 ((in_keep _ _ (one_to 32)).0 w).0 in
      let small : v ≤ 1000000000 = omega (arith, open_le_high l at k v o, greatest_of_bound (high at) l 1000000000 (high_small l s at) k) in
      record {
        project = k;
        developer = winner l at k v;
        quantity = v;
        project_in = (omega arith, omega (arith, long));
        developer_in_lem = n;
        quantity_in = (g, small);
        bytes = refl;
        reads = record_reads k (winner l at k v) v (omega (arith, long)) n.1 small;
      })
