-- What settling's contract says is what is stated of it.
use Rattle.std.specs.Prelude.{ℕ, min, ◌+◌, ◌-◌, ◌*◌, ◌/◌, ◌%◌, ◌≤◌, ◌<◌, ◌≡◌, refl, Bool, true, false, leb}
use Rattle.std.proofs.Common.{sym, ◌∙◌}
use Rattle.std.proofs.Math.Path.{subst}
use mathlib.Core.List.{List, flatten, Memᴰ}
use native.Mathlib.Omega.{arith}
use Rattle.std.proofs.Math.ListN.{length, get_or}
use borrow.Author.Tests.{le-leb, leb-true, not-false, not-true}
use Rattle.rules_numbers.specs.Cases.{clash, never_true}
use Rattle.rules_demand.specs.RemainderLaws.{remainder_below_ce}
use Rattle.rules_auction.specs.Ledger.{Call, Ledger}
use Rattle.rules_auction.specs.Clearing.{high, covered, closing_price}
use Rattle.rules_auction.specs.Refusals.{is_closed}
use Rattle.rules_auction.specs.Rounds.{ledger}
use Rattle.rules_auction.specs.Award.{admissible, award}
use Rattle.rules_auction.specs.Participation.{Grant, grants, sufficient}
use Rattle.rules_auction.specs.Settling.{record_of, records, settling_refusal, settlement_at, settlement}
use Rattle.laws_ledger.specs.Sound.{Sound, started}
use Rattle.laws_ledger.specs.reachable.Reachable.{sound}
use Rattle.laws_ledger.specs.clearing.Supply.{greatest_of_bound, high_small}
use Rattle.laws_ledger.specs.clearing.ClosingPrice.{closed_started, settings_facts, closing_price_lem}
use Rattle.laws_ledger.specs.clearing.Second.{short_uncovered, second_least, short_second, second_not_below, second_is_first}
use Rattle.laws_ledger.specs.awards.AwardLaws.{admissible_distinct, kept_few, kept_at_lows, kept_not_none, award_length, award_at_closing}
use Rattle.laws_ledger.specs.awards.OpenLevels.{open_le_high}
use Rattle.laws_ledger.specs.awards.ParticipationLaws.{insufficient_exactly, paid_sufficient, paid_insufficient, paid_at_most, grants_recorded}
use Rattle.laws_ledger.specs.awards.Winners.{winner_open, winner_preferred, awarded_open}
use Rattle.engine_auction.specs.Holds.{held_auction}
use Rattle.engine_auction.specs.declared.Auction.{Auction}
use Rattle.rules_numbers.specs.Tails.{laid}
use Rattle.engine_settling.specs.Settles.{Settled, Settles, refused_with, settled_as}
use Rattle.statement.specs.settling.AwardRecords.{awarded_level, first_byte, quantity_of}
use Rattle.statement.specs.settling.RecordOrder.{records_rise}
use Rattle.statement.specs.settling.RecordsInWords.{records_each}
use Rattle.statement.specs.settling.Stated.{Accepted, Within, Fit, Stated}

-- a number of four bytes is what they say
four_bytes : (v : ℕ) → v ≤ 1000000000 → quantity_of (record_of 0 0 v) ≡ v
four_bytes v h =
    let top : v / 16777216 % 256 ≡ v / 16777216 = omega arith in
    let third : v / 65536 ≡ v / 16777216 * 256 + v / 65536 % 256 = omega arith in
    let second : v / 256 ≡ v / 65536 * 256 + v / 256 % 256 = omega arith in
    let first : v ≡ v / 256 * 256 + v % 256 = omega arith in
    omega arith

module _ (l : Ledger) (s : Sound l) (c : is_closed l.phase ≡ true) (old new : List ℕ) where
  began : started l.phase ≡ true
  began = closed_started l.phase c

  covers : covered l (closing_price l) ≡ true
  covers = (closing_price_lem l s began).passes

  abbrev at : ℕ
  at = closing_price l

  abbrev given : List Grant
  given = grants l (closing_price l)

  -- the four bytes of a record are those of a level of 10^9 at most, and all of it
  bytes_read : (b : List ℕ) → Memᴰ b (records l (closing_price l)) → quantity_of b ≡ awarded_level l (closing_price l) (first_byte b)
  unfolding records
  bytes_read = records_each (λ b. quantity_of b ≡ awarded_level l at (first_byte b)) l at 1 (award l at) (λ j h g.
      let place : 1 + j - 1 ≡ j = omega arith in
      let some : 0 < awarded_level l at (1 + j) = subst (λ (i : ℕ). 0 < get_or (award l at) i 0) (sym place) g in
      let o = awarded_open l at (1 + j) s covers (omega arith) (omega (arith, award_length l at s covers)) some in
      let small : awarded_level l at (1 + j) ≤ 1000000000 =
      omega (arith, open_le_high l at (1 + j) _ o, greatest_of_bound (high at) l 1000000000 (high_small l s at) (1 + j)) in
      subst (λ (i : ℕ). quantity_of (record_of 0 0 (get_or (award l at) i 0)) ≡ awarded_level l at (1 + j)) place (four_bytes (awarded_level l at (1 + j)) small))

  at_closing : (r : Settled) → r ≡ settled_as (settlement_at l (closing_price l)) → new ≡ laid (flatten (records l (closing_price l))) old → Accepted l old new r
  unfolding settlement_at
  at_closing r e w = subst (λ (x : Settled). Accepted l old new x) (sym e) (record {
    price = closing_price_lem l s began;
    demand = refl;
    remainder = refl;
    remainder_small = remainder_below_ce _ _ _ _ _ (let b = (settings_facts l s began).bounds in omega arith);
    best = award_at_closing l s began;
    total_is = refl;
    choices = refl;
    distinct = admissible_distinct l (closing_price l);
    covering = refl;
    kept = refl;
    kept_some = kept_not_none l (closing_price l) s covers;
    kept_few = kept_few l (closing_price l) s;
    kept_one = kept_at_lows l (closing_price l) s;
    second = refl;
    short = refl;
    second_least = second_least l s began;
    second_short = λ h. (short_uncovered l h, short_second l s began h);
    second_not_below = second_not_below l s began;
    second_first = second_is_first l s began;
    insufficient = refl;
    insufficient_exactly = insufficient_exactly l given;
    judged = grants_recorded l (closing_price l);
    paid = refl;
    paid_insufficient = λ e. paid_insufficient l given (closing_price l) (not-true (sufficient l given) e);
    paid_sufficient = λ e. paid_sufficient l given (closing_price l) (not-false (sufficient l given) e);
    paid_at_most = paid_at_most l given (closing_price l);
    goes = λ k low high v.
        let o = awarded_open l (closing_price l) k s covers low high v in
        let n = winner_open l (closing_price l) k _ o in
        record { developer = n.0; is_open = n.1; preferred = winner_preferred l (closing_price l) k _ o };
    count = refl;
    rising = records_rise l (closing_price l);
    reads = bytes_read;
    written = w;
  })

-- the numbers, by the two tests
module _ (l : Ledger) (limit : ℕ) (old : List ℕ) (n : ℕ) (e : n ≡ settling_refusal l limit (length old)) where
  pub open_number : is_closed l.phase ≡ false → n ≡ 2
  unfolding settling_refusal
  open_number c = e ∙ simp c

  module _ (c : is_closed l.phase ≡ true) where
    pub outnumbered : (Within l limit → ⊥) → n ≡ 10
    unfolding settling_refusal
    outnumbered w = e ∙ simp (c, never_true (leb (length (admissible l (closing_price l))) (min limit 65536)) (λ t. w (leb-true _ _ t)))

    pub too_short : Within l limit → (Fit l old → ⊥) → n ≡ 11
    unfolding settling_refusal
    too_short w f = e ∙ simp (c, le-leb _ _ w, never_true (leb (6 * length (records l (closing_price l))) (length old)) (λ t. f (leb-true _ _ t)))

    pub fitting : Within l limit → Fit l old → n ≡ 0
    unfolding settling_refusal
    fitting w f = e ∙ simp (c, le-leb _ _ w, le-leb _ _ f)

    only_then : n ≡ 0 → Within l limit × Fit l old
    only_then z = within (leb (length (admissible l (closing_price l))) (min limit 65536)) refl
      where
        fits : Within l limit → (b : Bool) → leb (6 * length (records l (closing_price l))) (length old) ≡ b → Within l limit × Fit l old
        fits w true g = (w, leb-true _ _ g)
        fits w false g = absurd (let k : n ≡ 11 = too_short w (λ f. clash (le-leb _ _ f) g) in omega arith)

        within : (b : Bool) → leb (length (admissible l (closing_price l))) (min limit 65536) ≡ b → Within l limit × Fit l old
        within true g = fits (leb-true _ _ g) (leb (6 * length (records l (closing_price l))) (length old)) refl
        within false g = absurd (let k : n ≡ 10 = outnumbered (λ w. clash (le-leb _ _ w) g) in omega arith)

-- by the ledger's own number, and what the answer and the buffer are behind a refusal and behind an acceptance
pub stated_as :
    (cs : List Call) (limit : ℕ) (old new : List ℕ) (r : Settled) → let m = settlement (ledger cs) in
    r.number ≡ settling_refusal (ledger cs) limit (length old) → ((r.number ≡ 0 → ⊥) → (r ≡ refused_with r.number) × (new ≡ old)) →
    (r.number ≡ 0 → (r ≡ settled_as m) × (new ≡ laid (flatten m.records) old)) → Stated (ledger cs) limit old new r
unfolding settlement settlement_at
stated_as cs limit old new r n refused taken = record {
  not_closed = open_number (ledger cs) limit old r.number n;
  exactly = λ c. (only_then (ledger cs) limit old r.number n c, (λ w. fitting (ledger cs) limit old r.number n c w.0 w.1));
  by_10 = outnumbered (ledger cs) limit old r.number n;
  by_11 = too_short (ledger cs) limit old r.number n;
  refused = refused;
  accepted = λ c z. at_closing (ledger cs) (sound cs) c old new r (taken z).0 (taken z).1;
}

pub stated : (cs : List Call) (a : Auction) (limit : ℕ) (old new : List ℕ) (r : Settled) → a ≡ held_auction (ledger cs) → Settles a limit old new r →
    Stated (ledger cs) limit old new r
stated cs a limit old new r h s = stated_as cs limit old new r (s.number cs h) s.same (λ z. (s.answer cs h z, s.buffer cs h z))

-- so there is an answer for every list of calls, limit and buffer: the ledger's settlement with its records in the buffer, or a refusal
module _ (cs : List Call) (limit : ℕ) (old : List ℕ) where
  pub stated_taken :
      let m = settlement (ledger cs) in
      settling_refusal (ledger cs) limit (length old) ≡ 0 → Stated (ledger cs) limit old (laid (flatten m.records) old) (settled_as m)
  stated_taken e = stated_as cs limit old _ (settled_as (settlement (ledger cs))) (sym e) (λ z. absurd (z refl)) (λ z. (refl, refl))

  pub stated_refused : (n : ℕ) → settling_refusal (ledger cs) limit (length old) ≡ n → (n ≡ 0 → ⊥) → Stated (ledger cs) limit old old (refused_with n)
  stated_refused n e z = stated_as cs limit old old (refused_with n) (sym e) (λ y. (refl, refl)) (λ y. absurd (z y))
