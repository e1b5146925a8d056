-- The settlement, as C gets it of a call over a record or through a seat (demand 3): where twelve numbers were lent there is an answer of which all holds
-- that is stated of settling, with the lent bytes, and what C gets are its number and its figures; where fewer were lent the call is refused by 2 or 10 as
-- stated, else by 11, and nothing is written.
use Rattle.std.specs.Prelude.{ℕ, min, ◌-◌, ◌*◌, ◌^◌, ◌≤◌, ◌<◌, ◌≡◌, Bool, List, [], ◌∷◌, length}
use Rattle.std.proofs.Math.Path.{refl}
use Rattle.std.proofs.Common.{sym, ◌∙◌, subst, ⊎_elim, arith}
use Rattle.std.proofs.Math.Bool.{true, false}
use Rattle.std.proofs.Math.Dec.{eqb}
use borrow.Author.Tests.{eqb-true, eqb-false}
use Rattle.rules_numbers.specs.Cases.{le_or_lt}
use Rattle.rules_auction.specs.Ledger.{Call, Ledger}
use Rattle.rules_auction.specs.Clearing.{closing_price}
use Rattle.rules_auction.specs.Refusals.{is_closed}
use Rattle.rules_auction.specs.Rounds.{ledger}
use Rattle.rules_auction.specs.Award.{admissible}
use Rattle.rules_auction.specs.Settling.{Settlement, records, settlement, settling_refusal}
use Rattle.rules_seats.specs.figures.Figures.{lent_after, one_if, settlement_figures, award_bytes, settlement_refusal}
use Rattle.engine_settling.specs.Settles.{Settled, refused_with, settled_as}
use Rattle.record_replay.specs.host_numbers.HostNumbers.{value_answer, host_number}
use Rattle.statement.specs.settling.Stated.{Within, Stated}
use Rattle.statement.specs.settling.StatedLaws.{open_number, outnumbered, too_short, fitting, stated_taken, stated_refused}
use Rattle.statement.specs.settling.Determined.{determined as stated_only}
use Rattle.statement.specs.calls_of_c.HostValues.{Given, refused_by, value_given, figures_refused, figures_short, figures_fit, given_only}

-- price, demand, remainder, total, choices, covering, kept, second price, short, insufficient, price paid, number of award records
abbrev pub settled_figures : Settled → List ℕ
settled_figures x =
    x.price ∷ x.demand ∷ x.remainder ∷ x.total ∷ x.choices ∷ x.covering ∷ x.kept ∷ x.second
    ∷ one_if x.short ∷ one_if x.insufficient ∷ x.paid ∷ x.records ∷ []

-- `old_f` and `new_f` are the lent numbers before and after, `old_a` and `new_a` the lent bytes, r is what C gets

-- an answer as stated: what C gets is 0 or 2^64 less its number, and the numbers are its figures, or as they were
pub record SettlementGiven (l : Ledger) (limit : ℕ) (old_f new_f old_a new_a : List ℕ) (r : ℕ) : Type 0 where
  pub settled : Settled
  pub as_stated : Stated l limit old_a new_a settled
  pub figures : Given settled.number 0 (settled_figures settled) old_f new_f r

-- by 2 where the auction is not closed, by 10 where the choices outnumber the limit, as stated, else by 11; numbers and bytes stay
pub record SettlementUnwritten (l : Ledger) (limit : ℕ) (old_f new_f old_a new_a : List ℕ) (r : ℕ) : Type 0 where
  pub not_closed : is_closed l.phase ≡ false → r ≡ 2 ^ 64 - 2
  pub by_10 : is_closed l.phase ≡ true → (Within l limit → ⊥) → r ≡ 2 ^ 64 - 10
  pub by_11 : is_closed l.phase ≡ true → Within l limit → r ≡ 2 ^ 64 - 11
  pub untouched : (new_f ≡ old_f) × (new_a ≡ old_a)

pub record SettlementReturned (l : Ledger) (limit : ℕ) (old_f new_f old_a new_a : List ℕ) (r : ℕ) : Type 0 where
  pub fit : 12 ≤ length old_f → SettlementGiven l limit old_f new_f old_a new_a r
  pub too_short : length old_f < 12 → SettlementUnwritten l limit old_f new_f old_a new_a r

-- ---- by the definitions

module _ (cs : List Call) (limit : ℕ) (old_f new_f old_a new_a : List ℕ) (r : ℕ) where
  abbrev l : Ledger
  l = ledger cs

  abbrev m : Settlement
  m = settlement l

  -- settling's own number
  abbrev k : ℕ
  k = settling_refusal l limit (length old_a)

  abbrev n : ℕ
  n = settlement_refusal l limit (length old_f) (length old_a)

  module _ (e : r ≡ host_number (value_answer n 0)) (f : new_f ≡ lent_after n (settlement_figures m) old_f) (g : new_a ≡ lent_after n (award_bytes m) old_a) where
    figures_taken : n ≡ 0 → Given 0 0 (settlement_figures m) old_f new_f r
    figures_taken z = record { refused = λ x. absurd (x refl); given = λ x. value_given n 0 (settlement_figures m) old_f new_f r e f z }

    taken : n ≡ 0 → k ≡ 0 → SettlementGiven l limit old_f new_f old_a new_a r
    unfolding settlement_figures
    taken z y =
        let b = value_given n 0 (award_bytes m) old_a new_a r e g z in
        record { settled = settled_as m; as_stated = rw b.1 (stated_taken cs limit old_a y); figures = figures_taken z }

    figures_stay : n ≡ k → (k ≡ 0 → ⊥) → Given k 0 (settled_figures (refused_with k)) old_f new_f r
    figures_stay h y = record { refused = λ x. refused_by n 0 (settlement_figures m) old_f new_f r e f k h y; given = λ x. absurd (y x) }

    not_taken : n ≡ k → (k ≡ 0 → ⊥) → SettlementGiven l limit old_f new_f old_a new_a r
    not_taken h y =
        let b = refused_by n 0 (award_bytes m) old_a new_a r e g k h y in
        record { settled = refused_with k; as_stated = rw b.1 (stated_refused cs limit old_a k refl y); figures = figures_stay h y }

    written : 12 ≤ length old_f → SettlementGiven l limit old_f new_f old_a new_a r
    unfolding settlement_refusal settlement_figures
    written h = go (eqb k 0) refl
      where
        go : (b : Bool) → eqb k 0 ≡ b → SettlementGiven l limit old_f new_f old_a new_a r
        go true t = let z = eqb-true k 0 t in taken (figures_fit k (settlement_figures m) (length old_f) z h) z
        go false t = let z = eqb-false k 0 t in not_taken (figures_refused k (settlement_figures m) (length old_f) z) z

    -- by the number v
    unwritten : (v : ℕ) → n ≡ v → (v ≡ 0 → ⊥) → (r ≡ 2 ^ 64 - v) × (new_f ≡ old_f) × (new_a ≡ old_a)
    unwritten v h z =
        let a = refused_by n 0 (settlement_figures m) old_f new_f r e f v h z in
        (a.0, a.1, (refused_by n 0 (award_bytes m) old_a new_a r e g v h z).1)

    module _ (short : length old_f < 12) where
      refused_first : (k ≡ 0 → ⊥) → n ≡ k
      unfolding settlement_refusal settlement_figures
      refused_first z = figures_refused k (settlement_figures m) (length old_f) z

      refused_last : k ≡ 0 → n ≡ 11
      unfolding settlement_refusal settlement_figures
      refused_last z = figures_short k (settlement_figures m) (length old_f) z short

      by_its_own : (v : ℕ) → k ≡ v → (v ≡ 0 → ⊥) → r ≡ 2 ^ 64 - v
      by_its_own v h z = (unwritten v (refused_first (λ y. z (sym h ∙ y)) ∙ h) z).0

      by_eleven : is_closed l.phase ≡ true → Within l limit → r ≡ 2 ^ 64 - 11
      by_eleven c w = ⊎_elim
          (λ x. (unwritten 11 (refused_last (fitting l limit old_a k refl c w x)) (λ z. omega arith)).0)
          (λ x. by_its_own 11 (too_short l limit old_a k refl c w (λ y. omega arith)) (λ z. omega arith))
          (le_or_lt (6 * length (records l (closing_price l))) (length old_a))

      stays : (new_f ≡ old_f) × (new_a ≡ old_a)
      stays = go (eqb k 0) refl
        where
          go : (b : Bool) → eqb k 0 ≡ b → (new_f ≡ old_f) × (new_a ≡ old_a)
          go true t = let u = unwritten 11 (refused_last (eqb-true k 0 t)) (λ z. omega arith) in (u.1, u.2)
          go false t = let z = eqb-false k 0 t in let u = unwritten k (refused_first z) z in (u.1, u.2)

      not_written : SettlementUnwritten l limit old_f new_f old_a new_a r
      not_written = record {
        not_closed = λ c. by_its_own 2 (open_number l limit old_a k refl c) (λ z. omega arith);
        by_10 = λ c w. by_its_own 10 (outnumbered l limit old_a k refl c w) (λ z. omega arith);
        by_11 = by_eleven;
        untouched = stays;
      }

    pub settlement_returned : SettlementReturned l limit old_f new_f old_a new_a r
    settlement_returned = record { fit = written; too_short = not_written }

-- ---- and nothing else is

module _ (l : Ledger) (limit : ℕ) (old_f new_f new_f' old_a new_a new_a' : List ℕ) (r r' : ℕ) where
  abbrev Same : Type 0
  Same = (r ≡ r') × (new_f ≡ new_f') × (new_a ≡ new_a')

  given_alike : SettlementGiven l limit old_f new_f old_a new_a r → SettlementGiven l limit old_f new_f' old_a new_a' r' → Same
  given_alike x y =
      let d = stated_only l limit old_a new_a new_a' x.settled y.settled x.as_stated y.as_stated in
      let w : Given x.settled.number 0 (settled_figures x.settled) old_f new_f' r' =
      subst (λ (s : Settled). Given s.number 0 (settled_figures s) old_f new_f' r') (sym d.0) y.figures in
      let v = given_only _ 0 _ old_f new_f new_f' r r' x.figures w in
      (v.0, v.1, d.1)

  module _ (x : SettlementUnwritten l limit old_f new_f old_a new_a r) (y : SettlementUnwritten l limit old_f new_f' old_a new_a' r') where
    same_number : r ≡ r'
    same_number = go (is_closed l.phase) refl
      where
        go : (b : Bool) → is_closed l.phase ≡ b → r ≡ r'
        go false c = x.not_closed c ∙ sym (y.not_closed c)
        go true c = ⊎_elim
            (λ w. x.by_11 c w ∙ sym (y.by_11 c w))
            (λ g. let w : Within l limit → ⊥ = λ h. omega arith in x.by_10 c w ∙ sym (y.by_10 c w))
            (le_or_lt (length (admissible l (closing_price l))) (min limit 65536))

    unwritten_alike : Same
    unwritten_alike = (same_number, x.untouched.0 ∙ sym y.untouched.0, x.untouched.1 ∙ sym y.untouched.1)

  pub settlement_determined :
      SettlementReturned l limit old_f new_f old_a new_a r → SettlementReturned l limit old_f new_f' old_a new_a' r' →
      (r ≡ r') × (new_f ≡ new_f') × (new_a ≡ new_a')
  settlement_determined x y = ⊎_elim
      (λ h. given_alike (x.fit h) (y.fit h))
      (λ h. unwritten_alike (x.too_short h) (y.too_short h))
      (le_or_lt 12 (length old_f))
