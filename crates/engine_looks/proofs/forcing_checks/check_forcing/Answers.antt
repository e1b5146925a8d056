-- The phase, the pair, then the prices: each test that returned false is the check that fails, those before it passed.
use mathlib.Core.Path.{◌≡◌, sym, ◌∙◌}
use mathlib.Core.Bool.{true}
use Rattle.rules_auction.specs.Refusals.{is_between}
use Rattle.rules_forcing.specs.Forcing.{pair_ok, list_ok, forcing_refusal}
use Rattle.engine_checks.specs.clock.Reading.{phase_in}
use Rattle.engine_looks.specs.forcing_checks.Asking.{asked_in}
use Rattle.engine_looks.proofs.forcing_checks.check_forcing.Goals as goal
use Rattle.engine_looks.proofs.forcing_checks.check_forcing.Goals.{Else-not-is_between, Else-not-pair_ok}

-- the phase passed
between : (c : Else-not-is_between) → is_between (phase_in c.args.auction.now.clock.phase) ≡ true
between c = sym c.is_between.ensures ∙ c.if-not-is_between.false

-- the pair passed
pair : (c : Else-not-pair_ok) → let s = c.args in pair_ok (asked_in s.auction.now) s.first s.second ≡ true
pair c = sym c.pair_ok.ensures ∙ c.if-not-pair_ok.false

pub returns-then-not-is_between : goal.returns-then-not-is_between
unfolding forcing_refusal pair_ok list_ok
returns-then-not-is_between c = simp (sym c.is_between.ensures ∙ c.if-not-is_between.true)

pub returns-then-not-pair_ok : goal.returns-then-not-pair_ok
unfolding forcing_refusal pair_ok list_ok
returns-then-not-pair_ok c =
    simp (between (goal.at.returns-then-not-pair_ok c).Else-not-is_between, sym c.pair_ok.ensures ∙ c.if-not-pair_ok.true)

pub returns-then-not-prices_ok : goal.returns-then-not-prices_ok
unfolding forcing_refusal pair_ok list_ok
returns-then-not-prices_ok c =
    simp (between (goal.at.returns-then-not-prices_ok c).Else-not-is_between, pair (goal.at.returns-then-not-prices_ok c).Else-not-pair_ok, sym c.prices_ok.ensures ∙ c.if-not-prices_ok.true)

pub returns : goal.returns
unfolding forcing_refusal pair_ok list_ok
returns c =
    simp (between (goal.at.returns c).Else-not-is_between, pair (goal.at.returns c).Else-not-pair_ok, sym c.prices_ok.ensures ∙ c.if-not-prices_ok.false)
