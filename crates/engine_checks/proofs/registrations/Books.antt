-- A registration over the books, once the phase has passed: refused by its numbers; else by the developer's place, then by its declaration.
use Prim.Native.Nat.{ℕ}
use mathlib.Core.Path.{◌≡◌, refl, ap}
use mathlib.Core.Bool.{Bool, true, false, ◌&&◌, true≢false}
use mathlib.Core.List.{List, []}
use lib.Dec.{eqb}
use lib.ListN.{length, get_or}
use Rattle.rules_numbers.specs.Cases.{and_true}
use Rattle.rules_auction.specs.Ledger.{Declaration, Agency, agent_for, Register}
use Rattle.rules_auction.specs.Refusals.{is_ready, is_number, numbers_ok, is_kind, levels_ok, declaration_ok, check, refusal}
use Rattle.engine_held.specs.supply.ByProject.{place_of, joins}
use Rattle.engine_checks.specs.declared.clock.Phase.{Phase}
use Rattle.engine_checks.specs.clock.Reading.{phase_in, developers_in}
use Rattle.engine_checks.specs.clock.ReadingLaws.{joins_in}
use Rattle.engine_checks.specs.registrations.Numbers.{in_phase, books_in}

bad_number : (good agent free : Bool) (x : ℕ) → good && agent ≡ false → 3 ≡ check (good && free) 3 (check agent 3 x)
bad_number true true free x e = absurd (true≢false e)
bad_number true false true x e = refl
bad_number true false false x e = refl
bad_number false agent free x e = refl

module _ (p : Phase) (ks kinds : List ℕ) (k kind : ℕ) (ls : List ℕ) (study day : ℕ) where
  abbrev declaration : Declaration
  declaration = record { project = k; kind = kind; study = study; day = day; levels = ls }

  pub declaration_in : length ks ≡ 32 → length kinds ≡ 32 → is_kind kind && levels_ok ls && joins ks kinds k kind ≡ declaration_ok (books_in p ks kinds) declaration
  unfolding declaration_ok
  declaration_in e f = ap (λ (b : Bool). is_kind kind && levels_ok ls && b) (joins_in (in_phase p) ks kinds [] e f k kind)

  module _ (n : ℕ) (w : Agency) (ready : is_ready (phase_in p) ≡ true) where
    -- the rule's number
    abbrev ruled : ℕ
    ruled = refusal (books_in p ks kinds) (Register n w declaration)

    pub not_numbered : is_number k && is_number n && is_number (agent_for n w) ≡ false → 3 ≡ ruled
    unfolding refusal numbers_ok
    not_numbered e = simp (ready) (bad_number (is_number k && is_number n) (is_number (agent_for n w)) _ _ e)

    pub once_numbered :
        is_number k && is_number n && is_number (agent_for n w) ≡ true → (i : ℕ) → i ≡ place_of n →
        ruled ≡ check (eqb (get_or ks i 0) 0) 3 (check (declaration_ok (books_in p ks kinds) declaration) 4 0)
    unfolding refusal numbers_ok developers_in place_of
    once_numbered e i h =
        let t = and_true (is_number k && is_number n) (is_number (agent_for n w)) e in
        let u = and_true (is_number k) (is_number n) t.0 in
        simp (h, ready, t.1, u.0, u.1)
