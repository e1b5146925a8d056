-- What the tests of the question say where they pass; and of what an auction holds of a sound ledger the number is the ledger's.
use Prim.Native.Nat.{ℕ, ◌≤◌}
use Rattle.std.specs.Prelude.{◌≡◌, Bool, ◌&&◌, List, eqb}
use Rattle.std.proofs.Math.Path.{refl}
use Rattle.std.proofs.Common.{◌∙◌, arith}
use Rattle.std.proofs.Math.Bool.{true, false, not}
use borrow.Author.Tests.{eq-eqb, ne_eqb, eqb-false, not-true}
use Rattle.rules_numbers.specs.Cases.{and_true}
use Rattle.rules_auction.specs.Ledger.{Ledger}
use Rattle.rules_auction.specs.Refusals.{is_between, is_of_kind, check}
use Rattle.rules_auction.specs.CheckLaws.{of_kind_facts}
use Rattle.laws_ledger.specs.Sound.{Sound}
use Rattle.rules_forcing.specs.Forcing.{pair_ok, list_ok, forcing_refusal}
use Rattle.engine_held.specs.supply.Reading.{read_back}
use Rattle.engine_checks.specs.declared.clock.Phase.{Phase}
use Rattle.engine_checks.specs.clock.Held.{phase_number}
use Rattle.engine_checks.specs.clock.Reading.{phase_in}
use Rattle.engine_checks.specs.clock.PhaseNumbers.{between_in}
use Rattle.engine_checks.specs.clock.ReadingLaws.{phase_read}
use Rattle.engine_auction.specs.Holds.{held_auction}
use Rattle.engine_looks.specs.forcing_checks.Asking.{asked_in}

-- between rounds, by the number of the phase
pub when_between : (p : Phase) → phase_number p ≡ 3 → is_between (phase_in p) ≡ true
when_between p e = between_in p ∙ eq-eqb (phase_number p) 3 e

pub not_between : (p : Phase) → (phase_number p ≡ 3 → ⊥) → is_between (phase_in p) ≡ false
not_between p n = between_in p ∙ ne_eqb (phase_number p) 3 n

pub record Pair (m n : ℕ) : Type 0 where
  pub first_low : 1 ≤ m
  pub first_high : m ≤ 32
  pub second_low : 1 ≤ n
  pub second_high : n ≤ 32
  pub different : m ≡ n → ⊥

module _ (l : Ledger) (m n : ℕ) where
  pair_facts : pair_ok l m n ≡ true → Pair m n
  unfolding pair_ok
  pair_facts e =
      let t3 = and_true _ (not (eqb (l.developers m).declared.project (l.developers n).declared.project)) e in
      let t2 = and_true _ (not (eqb m n)) t3.0 in
      let t1 = and_true (is_of_kind 2 m (l.developers m).declared.kind) (is_of_kind 2 n (l.developers n).declared.kind) t2.0 in
      let f = of_kind_facts 2 m _ t1.0 in
      let s = of_kind_facts 2 n _ t1.1 in
      record { first_low = f.0; first_high = f.1; second_low = s.0; second_high = s.1; different = eqb-false m n (not-true (eqb m n) t2.1) }

  -- where the question is not refused
  pub record Question (ps : List ℕ) : Type 0 where
    pub between : is_between l.phase ≡ true
    pub pair : Pair m n
    pub list : list_ok l ps ≡ true

  pub question_facts : (ps : List ℕ) → forcing_refusal l m n ps ≡ 0 → Question ps
  unfolding forcing_refusal
  question_facts ps = go (is_between l.phase) (pair_ok l m n && list_ok l ps) refl refl
    where
      go : (b c : Bool) → is_between l.phase ≡ b → pair_ok l m n && list_ok l ps ≡ c → check b 2 (check c 17 0) ≡ 0 → Question ps
      go true true e f h = let t = and_true (pair_ok l m n) (list_ok l ps) f in record { between = e; pair = pair_facts t.0; list = t.1 }
      go true false e f h = absurd (omega arith)
      go false c e f h = absurd (omega arith)

  pub asked_back :
      Sound l → (ps : List ℕ) →
      forcing_refusal (asked_in (held_auction l)) m n ps ≡ forcing_refusal l m n ps
  unfolding forcing_refusal pair_ok list_ok held_auction
  asked_back s ps = λ i.
      let project : ℕ → ℕ = λ k. read_back l s (λ x. x.declared.project) refl k i in
      let kind : ℕ → ℕ = λ k. read_back l s (λ x. x.declared.kind) refl k i in
      check (is_between (phase_read l.phase i)) 2
      (check ((is_of_kind 2 m (kind m) && is_of_kind 2 n (kind n) && not (eqb m n) && not (eqb (project m) (project n))) && list_ok l ps) 17 0)
