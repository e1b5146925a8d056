-- Set-up: each check in its order, and the settings held.
use Prim.Native.Nat.{ℕ, ◌<◌}
use mathlib.Core.Path.{◌≡◌, refl, sym, ap, ◌∙◌}
use mathlib.Core.Bool.{Bool, true, false}
use native.Mathlib.Omega.{arith}
use Rattle.rules_auction.specs.Ledger.{settings_of}
use Rattle.rules_auction.specs.Ledger as rules
use Rattle.engine_checks.specs.declared.clock.Phase.TheVariants.{Ready}
use Rattle.engine_checks.specs.clock.Reading.{phase_in}
use Rattle.rules_auction.specs.Refusals.{is_fresh, settings_ok, refusal}
use Rattle.rules_auction.specs.CheckLaws.{in_settings}
use Rattle.rules_auction.specs.Rounds.{accepted, bare_answer, granted}
use Rattle.engine_auction.specs.declared.Auction.{Auction}
use Rattle.engine_auction.specs.Holds.{held_settings, held_auction}
use Rattle.engine_auction.specs.Called.{Called, sets_up}
use Rattle.engine_auction.specs.Parts.{with_clock, clock_held}
use Rattle.engine_auction.proofs.Calls.{Refused, refused, taken}
use Rattle.engine_auction.specs.PhaseHeld.{phase_is}

-- A is at most 2 CE, and CE at most 500,000
pub above_top : (ce d m1 m2 a : ℕ) → 1000000 < a → false ≡ settings_ok (settings_of ce d m1 m2 a)
above_top ce d m1 m2 a h = go (settings_ok (settings_of ce d m1 m2 a)) refl
  where
    go : (b : Bool) → settings_ok (settings_of ce d m1 m2 a) ≡ b → false ≡ b
    go true e = let f = in_settings _ e in absurd (omega (arith, f.high, f.bounds.ce_high))
    go false e = refl

module _ (a : Auction) (ce d m1 m2 a₀ : ℕ) where
  pub set_up_phase : is_fresh (phase_in a.clock.phase) ≡ false → Refused (sets_up ce d m1 m2 a₀) a 2
  unfolding refusal
  set_up_phase z = refused _ a 2 (omega arith) (λ l s h. simp (ap is_fresh (sym (phase_is a l h)) ∙ z))

  pub set_up_settings : is_fresh (phase_in a.clock.phase) ≡ true → settings_ok (settings_of ce d m1 m2 a₀) ≡ false → Refused (sets_up ce d m1 m2 a₀) a 1
  unfolding refusal
  set_up_settings z f = refused _ a 1 (omega arith) (λ l s h. simp (ap is_fresh (sym (phase_is a l h)) ∙ z, f))

  -- the auction with the settings, set up
  abbrev pub set_up : Auction
  set_up = with_clock a (record { phase = Ready; settings = held_settings (settings_of ce d m1 m2 a₀); opening = a.clock.opening; closing = a.clock.closing })

  pub set_up_taken : is_fresh (phase_in a.clock.phase) ≡ true → settings_ok (settings_of ce d m1 m2 a₀) ≡ true → Called (sets_up ce d m1 m2 a₀) a set_up (bare_answer 0)
  unfolding refusal granted accepted held_auction
  set_up_taken z f = taken _ a set_up _ refl (λ l s h. record {
    number = simp (ap is_fresh (sym (phase_is a l h)) ∙ z, f);
    answer = refl;
    next = clock_held a l rules.Ready (settings_of ce d m1 m2 a₀) l.opening l.closing h (λ i. record {
      phase = Ready;
      settings = held_settings (settings_of ce d m1 m2 a₀);
      opening = (h i).clock.opening;
      closing = (h i).clock.closing;
    });
  })
