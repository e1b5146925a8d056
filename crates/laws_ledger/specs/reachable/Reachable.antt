-- The ledger of every list of calls is sound: the empty one is, and each call, accepted or refused, keeps it so.
use Rattle.std.specs.Prelude.{◌≡◌, refl, true, false, List, [], ◌∷◌}
use Rattle.std.proofs.Common.{sym, subst, inl, arith}
use Rattle.rules_numbers.specs.Cases.{clash}
use Rattle.rules_auction.specs.Ledger.{Settings, Call, SetUp, Register, Open, By, Close, Phase, Fresh, Ready, Ledger, start, with_phase, with_settings}
use Rattle.rules_auction.specs.Refusals.{is_fresh, settings_ok, refusal}
use Rattle.rules_auction.specs.Rounds.{accepted, step, step_all, ledger}
use Rattle.laws_ledger.specs.Sound.{started, Sound}
use Rattle.laws_ledger.specs.reachable.Steps.{by_step}
use Rattle.laws_ledger.specs.reachable.Checks.{SetUpPassed, set_up_passed, register_passed, open_passed, close_passed}
use Rattle.laws_ledger.specs.reachable.Opening.{sound_open}
use Rattle.laws_ledger.specs.reachable.Registering.{sound_register}
use Rattle.laws_ledger.specs.reachable.Moving.{sound_move}
use Rattle.laws_ledger.specs.reachable.Closing.{sound_close}

-- before the first registration
abbrev blank : Phase → Settings → Ledger
blank p t = with_phase (with_settings start t) p

sound_blank : (p : Phase) (t : Settings) → (is_fresh p ≡ true → blank p t ≡ start) → (is_fresh p ≡ false → settings_ok t ≡ true) → started p ≡ false →
    Sound (blank p t)
sound_blank p t h g n = record {
  fresh = h;
  settings = g;
  unopened = λ e. (refl, refl);
  idle = λ e m. refl;
  prices = λ e. absurd (clash e n);
  start_covered_lem = λ e. absurd (clash e n);
  each = λ m. inl refl;
  alone = λ m j e f. absurd (omega arith);
}

pub sound_start : Sound start
sound_start = sound_blank Fresh start.settings (λ e. refl) (λ e. absurd (clash refl e)) refl

set_up_start : (t : Settings) → settings_ok t ≡ true → Sound (accepted start (SetUp t))
unfolding accepted
set_up_start t h = sound_blank Ready t (λ e. absurd (clash e refl)) (λ e. h) refl

sound_set_up : (l : Ledger) (t : Settings) → Sound l → SetUpPassed l t → Sound (accepted l (SetUp t))
sound_set_up l t s p = subst (λ (m : Ledger). Sound (accepted m (SetUp t))) (sym (s.fresh p.phase)) (set_up_start t p.settings)

sound_accepted : (l : Ledger) (c : Call) → refusal l c ≡ 0 → Sound l → Sound (accepted l c)
unfolding refusal
sound_accepted l (SetUp t) e s = sound_set_up l t s (set_up_passed l t e)
sound_accepted l (Register n w x) e s = sound_register l n w x s (register_passed l n w x e)
sound_accepted l (Open c) e s = sound_open l c s (open_passed l c e)
sound_accepted l (By n m) e s = sound_move l n m s e
sound_accepted l Close e s = sound_close l s (close_passed l e)

pub sound_step : (l : Ledger) (c : Call) → Sound l → Sound (step l c)
sound_step l c s = by_step Sound l c s (λ e. sound_accepted l c e s)

sound_all : (l : Ledger) (cs : List Call) → Sound l → Sound (step_all l cs)
unfolding step_all
sound_all l [] s = s
sound_all l (c ∷ cs) s = sound_all (step l c) cs (sound_step l c s)

pub sound : (cs : List Call) → Sound (ledger cs)
unfolding ledger
sound cs = sound_all start cs sound_start
