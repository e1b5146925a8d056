-- The figures, from supply and demand.
use Prim.Native.Nat.{ℕ, ◌/◌}
use mathlib.Core.Path.{◌≡◌, ap₂, ◌∙◌}
use mathlib.Core.Bool.{cond}
use mathlib.Core.List.{List}
use lib.IntN.{ℤ, pos, ◌-ℤ◌}
use lib.ListN.{length}
use Rattle.rules_auction.specs.Ledger.{Between, Closed}
use Rattle.rules_auction.specs.Clearing.{demand_at}
use Rattle.rules_auction.specs.Rounds.{supply_after, clears, phase_after, excess}
use Rattle.engine_held.specs.supply.ByProject.{supply_of}
use Rattle.engine_checks.specs.clock.Held.{held_phase}
use Rattle.engine_checks.specs.clock.Reading.{demanded_at}
use Rattle.engine_checks.specs.clock.Demands.{demand_is, remainder_is}
use Rattle.engine_checks.specs.declared.clock.Phase.{Phase}
use Rattle.engine_checks.specs.declared.clock.Settings.{Settings}
use Rattle.engine_checks.specs.closing_figures.Figured.{left_in, Figured, supply_left}

pub figures_are :
    (s : Settings) (c : ℕ) (ks qs : List ℕ) {q d r : ℕ} {n : Phase} {e : ℤ} → length ks ≡ 32 → length qs ≡ 32 →
    q ≡ supply_of ks qs → d ≡ (demanded_at s c).value → e ≡ pos q -ℤ pos d → r ≡ (demanded_at s c).remainder →
    n ≡ held_phase (cond (clears q d c (s.ce / 2)) Closed Between) →
    Figured s c ks qs (record { excess = e; remainder = r; phase = n })
unfolding phase_after excess
figures_are s c ks qs {q} {d} ek el eq ed ee er en = record {
  as_ruled = λ b w.
      let supplied : q ≡ supply_after (left_in s c ks qs) = eq ∙ supply_left s c ks qs ek el in
      let demanded : d ≡ demand_at (left_in s c ks qs) c = ed ∙ demand_is _ _ _ _ _ b w in
      λ i. record {
        excess = (ee ∙ ap₂ (λ (x y : ℕ). pos x -ℤ pos y) supplied demanded) i;
        remainder = (er ∙ remainder_is _ _ _ _ _ b w) i;
        phase = (en ∙ ap₂ (λ (x y : ℕ). held_phase (cond (clears x y c (s.ce / 2)) Closed Between)) supplied demanded) i;
      };
}
