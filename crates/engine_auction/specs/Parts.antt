-- The auction with some of its parts replaced, and the ledger that it then holds: the only laws that name its arrays, besides those of a
-- registration, which stores to most of them.
use Rattle.std.specs.Prelude.{ℕ, ◌≡◌, refl, List, [], map}
use Rattle.std.proofs.Math.Path.{sym, ap, fun_ext}
use Rattle.std.proofs.Common.{◌∙◌}
use Rattle.rules_numbers.specs.Lists.{one_to}
use Rattle.rules_auction.specs.Ledger.{none, Developer, with_course, Phase, Ledger, with_phase, with_settings, with_prices, with_developers}
use Rattle.rules_auction.specs.Ledger as rules
use Rattle.rules_auction.specs.Clearing.{of_each}
use Rattle.rules_supply_curve.specs.Curve.{supply_curve}
use Rattle.rules_supply_curve.specs.Closings.{curve_same}
use Rattle.engine_held.specs.levels.Held.{held_levels}
use Rattle.engine_held.specs.declared.history.History.{History}
use Rattle.engine_curve.specs.kept_curve.Held.{held_curve}
use Rattle.engine_curve.specs.declared.kept_curve.SupplyCurve.{SupplyCurve}
use Rattle.engine_checks.specs.declared.clock.Clock.{Clock}
use Rattle.engine_auction.specs.declared.Auction.{Auction}
use Rattle.engine_auction.specs.Holds.{held_clock, held_course, held_auction}

-- ---- another clock

abbrev pub with_clock : Auction → Clock → Auction
with_clock a t = record {
  clock = t;
  projects = a.projects;
  kinds = a.kinds;
  agents = a.agents;
  studies = a.studies;
  days = a.days;
  quantities = a.quantities;
  declared = a.declared;
  histories = a.histories;
  curve = a.curve;
}

abbrev pub clocked : Ledger → Phase → rules.Settings → ℕ → ℕ → Ledger
clocked l p s opening closing = with_phase (with_prices (with_settings l s) opening closing) p

pub clock_held :
    (a : Auction) (l : Ledger) (p : Phase) (s : rules.Settings) (o' c' : ℕ) {t : Clock} → a ≡ held_auction l →
    t ≡ held_clock (clocked l p s o' c') →
    with_clock a t ≡ held_auction (clocked l p s o' c')
unfolding held_auction
clock_held a l p s o' c' h et = λ i. record {
  clock = et i;
  projects = (h i).projects;
  kinds = (h i).kinds;
  agents = (h i).agents;
  studies = (h i).studies;
  days = (h i).days;
  quantities = (h i).quantities;
  declared = (h i).declared;
  histories = (h i).histories;
  curve = (ap (λ (x : Auction). x.curve) h ∙ ap held_curve (curve_same l (clocked l p s o' c') (λ m. refl) (λ m. refl))) i;
}

-- ---- other quantities, histories and supply curve: what a developer's offers and a closing change, its registration staying

abbrev pub with_courses : Auction → List ℕ → List History → SupplyCurve → Auction
with_courses a quantities histories curve = record {
  clock = a.clock;
  projects = a.projects;
  kinds = a.kinds;
  agents = a.agents;
  studies = a.studies;
  days = a.days;
  quantities = quantities;
  declared = a.declared;
  histories = histories;
  curve = curve;
}

-- what a developer's offers and a closing leave of its entry
abbrev pub lasting : Developer → Developer
lasting x = with_course x 0 [] none []

module _ (a : Auction) (l : Ledger) (f : ℕ → Developer) (h : a ≡ held_auction l) (e : (n : ℕ) → lasting (f n) ≡ lasting (l.developers n)) where
  abbrev next : Ledger
  next = with_developers l f

  keeps : {A : Type 0} (g : Developer → A) {xs : List A} → xs ≡ of_each (λ y. g (lasting y)) l → xs ≡ of_each (λ y. g (lasting y)) next
  keeps {A} g w = w ∙ ap (λ (k : ℕ → A). map k (one_to 32)) (fun_ext (λ n. ap g (sym (e n))))

  pub courses_held :
      {qs : List ℕ} {hs : List History} {k : SupplyCurve} →
      qs ≡ of_each (λ y. y.quantity) next → hs ≡ of_each held_course next → k ≡ held_curve (supply_curve next) →
      with_courses a qs hs k ≡ held_auction next
  unfolding held_auction
  courses_held eq eh ek = λ i. record {
    clock = (h i).clock;
    projects = keeps (λ y. y.declared.project) (λ j. (h j).projects) i;
    kinds = keeps (λ y. y.declared.kind) (λ j. (h j).kinds) i;
    agents = keeps (λ y. y.agent) (λ j. (h j).agents) i;
    studies = keeps (λ y. y.declared.study) (λ j. (h j).studies) i;
    days = keeps (λ y. y.declared.day) (λ j. (h j).days) i;
    quantities = eq i;
    declared = keeps (λ y. held_levels y.declared.levels) (λ j. (h j).declared) i;
    histories = eh i;
    curve = ek i;
  }

  -- where nothing is withdrawn the supply curve stays
  pub curve_stays : ((n : ℕ) → (f n).withdrawals ≡ (l.developers n).withdrawals) → a.curve ≡ held_curve (supply_curve next)
  unfolding held_auction
  curve_stays w = ap (λ (x : Auction). x.curve) h ∙ ap held_curve (curve_same l next (λ n. sym (w n)) (λ n. ap (λ (x : Developer). x.declared) (sym (e n))))
