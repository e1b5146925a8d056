-- Set-up: refused unless fresh, or by its settings; else these are the clock's.
use mathlib.Core.Path.{◌≡◌, sym, ◌∙◌}
use mathlib.Core.Bool.{true}
use Rattle.std.proofs.Common.{arith}
use Rattle.rules_auction.specs.Refusals.{is_fresh, settings_ok}
use Rattle.rules_auction.specs.CheckLaws.{in_settings}
use Rattle.rules_auction.specs.Ledger.{settings_of}
use Rattle.engine_checks.specs.clock.Reading.{phase_in}
use Rattle.engine_auction.specs.Parts.{with_clock}
use Rattle.engine_auction.proofs.SettingUp.{set_up_phase, set_up_settings, set_up_taken}
use Rattle.engine_auction.proofs.setting_up.Goals as goal
use Rattle.engine_auction.proofs.setting_up.Goals.{Else-not-is_fresh, Else-not-may_set_up, Then-not-may_set_up}

still_fresh : (c : Else-not-is_fresh) → is_fresh (phase_in c.args.clock.now.phase) ≡ true
still_fresh c = sym c.is_fresh.ensures ∙ c.if-not-is_fresh.false

sound_settings : (c : Else-not-may_set_up) → let s = c.args in settings_ok (settings_of s.ce s.d s.m1 s.m2 s.a) ≡ true
sound_settings c = sym c.may_set_up.ensures ∙ c.if-not-may_set_up.false

pub returns-then-not-is_fresh : goal.returns-then-not-is_fresh
returns-then-not-is_fresh c = λ x. set_up_phase (with_clock x c.args.clock.now) _ _ _ _ _ (sym c.is_fresh.ensures ∙ c.if-not-is_fresh.true)

pub returns-then-not-may_set_up : goal.returns-then-not-may_set_up
returns-then-not-may_set_up c = λ x.
    set_up_settings (with_clock x c.args.clock.now) _ _ _ _ _ (still_fresh (goal.at.Then-not-may_set_up c).Else-not-is_fresh)
    (sym c.may_set_up.ensures ∙ c.if-not-may_set_up.true)

pub overflow_cast-settings : goal.overflow_cast-settings
overflow_cast-settings c = let f = in_settings _ (sound_settings c) in omega arith

pub overflow_cast-settings-2 : goal.overflow_cast-settings-2
overflow_cast-settings-2 c = let f = in_settings _ (sound_settings c) in omega arith

pub returns : goal.returns
returns c = λ x.
    set_up_taken (with_clock x c.args.clock.now) _ _ _ _ _ (still_fresh (goal.at.returns c).Else-not-is_fresh) (sound_settings (goal.at.returns c).Else-not-may_set_up)
