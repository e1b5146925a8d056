-- A held phase read back, and what arrays of 32 places say of the ledger that is read from them.
use Prim.Native.Nat.{ℕ, suc, ◌-◌, ◌<◌}
use Rattle.std.specs.Prelude.{◌≡◌, true, List, length, get_or}
use Rattle.std.proofs.Math.Path.{refl, sym}
use Rattle.std.proofs.Common.{ap₂, ◌∙◌, ext_get_or, le-leb}
use native.Mathlib.Omega.{arith}
use Rattle.std.proofs.lemmas.List.{length-map}
use Rattle.rules_numbers.specs.Lists.{one_to}
use Rattle.rules_numbers.specs.ListLaws.{length_one_to, numbered_nth}
use Rattle.rules_auction.specs.Ledger.{Developer, Ledger}
use Rattle.rules_auction.specs.Ledger as rules
use Rattle.rules_auction.specs.Clearing.{of_each, supply}
use Rattle.rules_auction.specs.Refusals.{is_number, may_join}
use Rattle.engine_held.specs.supply.ByProject.{supply_of, joins}
use Rattle.engine_held.specs.supply.ByProjectLaws.{supply_of_lem, joins_of}
use Rattle.engine_checks.specs.declared.clock.Clock.{Clock}
use Rattle.engine_checks.specs.clock.Held.{held_phase}
use Rattle.engine_checks.specs.clock.Reading.{phase_in, standing_at, developers_in, ledger_in}

-- ---- the clock

pub phase_read : (p : rules.Phase) → phase_in (held_phase p) ≡ p
phase_read rules.Fresh = refl
phase_read rules.Ready = refl
phase_read rules.Round = refl
phase_read rules.Between = refl
phase_read rules.Closed = refl

-- ---- the arrays

number_at : (i : ℕ) → i < 32 → is_number (suc i) ≡ true
number_at i h = rw (le-leb 1 (suc i) (omega arith), le-leb (suc i) 32 (omega arith))

module _ (k : Clock) (ks kinds qs : List ℕ) where
  abbrev there : Ledger
  there = ledger_in k ks kinds qs

  -- a figure of each developer that the array xs has
  each_in :
      (f : Developer → ℕ) (xs : List ℕ) → length xs ≡ 32 → ((i : ℕ) → f (standing_at (get_or ks i 0) (get_or kinds i 0) (get_or qs i 0)) ≡ get_or xs i 0) →
      of_each f there ≡ xs
  unfolding developers_in
  each_in f xs e h = sym (ext_get_or 0 xs (of_each f there) (e ∙ sym (length-map (one_to 32) (λ n. f (there.developers n)) ∙ length_one_to 32)) (λ i w.
      let z : i < 32 = omega arith in
      let e : suc i - 1 ≡ i = omega arith in
      sym (numbered_nth (λ n. f (there.developers n)) 32 _ i 0 refl z ∙ rw (number_at i z, e) (h i))))

  module _ (long : length ks ≡ 32) where
    projects_in : of_each (λ x. x.declared.project) there ≡ ks
    projects_in = each_in (λ x. x.declared.project) ks long (λ i. refl)

    pub joins_in : length kinds ≡ 32 → (project kind : ℕ) → joins ks kinds project kind ≡ may_join there project kind
    joins_in e project kind =
        ap₂ (λ (x y : List ℕ). joins x y project kind) (sym projects_in) (sym (each_in (λ x. x.declared.kind) kinds e (λ i. refl))) ∙ joins_of there project kind

    -- supply by a figure that is the quantity of whoever stands there
    pub supply_in :
        length qs ≡ 32 → (f : Developer → ℕ) → ((i : ℕ) → f (standing_at (get_or ks i 0) (get_or kinds i 0) (get_or qs i 0)) ≡ get_or qs i 0) →
        supply_of ks qs ≡ supply f there
    supply_in e f h = ap₂ supply_of (sym projects_in) (sym (each_in f qs e h)) ∙ supply_of_lem f there
