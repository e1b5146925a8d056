-- At the first opening A is covered where the supply of the quantities is at least Dem(A): nothing is withdrawn yet.
use Prim.Native.Nat.{ℕ}
use mathlib.Core.Bool.{true}
use mathlib.Core.Path.{◌≡◌, refl, ap₂, ◌∙◌}
use mathlib.Core.List.{List, []}
use native.Mathlib.Omega.{arith}
use lib.Dec.{leb}
use lib.ListN.{length}
use Rattle.rules_numbers.specs.Lists.{last_or}
use Rattle.rules_auction.specs.Clearing.{quantity_after, high, covered}
use Rattle.rules_auction.specs.Refusals.{is_ready, start_covered}
use Rattle.rules_auction.specs.CheckLaws.{in_settings}
use Rattle.engine_held.specs.supply.ByProject.{supply_of}
use Rattle.engine_checks.specs.declared.clock.Clock.{Clock}
use Rattle.engine_checks.specs.clock.Reading.{phase_in, settings_in, ledger_in, demanded_at}
use Rattle.engine_checks.specs.clock.ReadingLaws.{supply_in}
use Rattle.engine_checks.specs.clock.Opening.{SetUp}
use Rattle.engine_checks.specs.clock.Demands.{demand_is}

pub first_covered :
    (k : Clock) (ks qs : List ℕ) {d q : ℕ} → is_ready (phase_in k.phase) ≡ true → SetUp k → length ks ≡ 32 → length qs ≡ 32 →
    d ≡ (demanded_at k.settings k.settings.a).value → q ≡ supply_of ks qs →
    leb d q ≡ start_covered (ledger_in k ks [] qs)
unfolding start_covered covered high quantity_after last_or
first_covered k ks qs ready w ek eq ed es =
    let f = in_settings (settings_in k.settings) (w ready) in
    simp ready (ap₂ (λ (x y : ℕ). leb x y)
    (ed ∙ demand_is _ _ _ _ _ f.bounds (record { low = omega (arith, f.low); high = f.high }))
    (es ∙ supply_in k ks [] qs ek eq (high k.settings.a) (λ i. refl)))
