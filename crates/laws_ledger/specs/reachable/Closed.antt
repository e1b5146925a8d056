-- A closed auction never changes again: it refuses every call.
use Rattle.std.specs.Prelude.{◌≡◌, refl, true, List, [], ◌∷◌, ◌++◌}
use Rattle.std.proofs.Common.{ap, ◌∙◌, arith}
use Rattle.std.proofs.lemmas.Bool.{false≢true}
use Rattle.rules_auction.specs.Ledger.{Offer, Lodge, Cancel, Call, SetUp, Register, Open, By, Close, Phase, Fresh, Ready, Round, Between, Closed, Ledger}
use Rattle.rules_auction.specs.Refusals.{is_closed, move_refusal, refusal}
use Rattle.rules_auction.specs.Rounds.{step, step_all, ledger}
use Rattle.laws_ledger.specs.reachable.Steps.{step_refused, ledger_append}

is_closed_lem : (p : Phase) → is_closed p ≡ true → p ≡ Closed
is_closed_lem Fresh e = absurd (false≢true e)
is_closed_lem Ready e = absurd (false≢true e)
is_closed_lem Round e = absurd (false≢true e)
is_closed_lem Between e = absurd (false≢true e)
is_closed_lem Closed e = refl

pub closed_refuses : (l : Ledger) (c : Call) → is_closed l.phase ≡ true → refusal l c ≡ 2
unfolding refusal move_refusal
closed_refuses l (SetUp s) e = rw (is_closed_lem l.phase e)
closed_refuses l (Register n w x) e = rw (is_closed_lem l.phase e)
closed_refuses l (Open c) e = rw (is_closed_lem l.phase e)
closed_refuses l (By n (Offer ps qs)) e = rw (is_closed_lem l.phase e)
closed_refuses l (By n (Lodge ps qs)) e = rw (is_closed_lem l.phase e)
closed_refuses l (By n Cancel) e = rw (is_closed_lem l.phase e)
closed_refuses l Close e = rw (is_closed_lem l.phase e)

pub step_closed : (l : Ledger) (c : Call) → is_closed l.phase ≡ true → step l c ≡ l
step_closed l c e = step_refused l c (λ z. omega (arith, closed_refuses l c e))

steps_closed : (l : Ledger) (cs : List Call) → is_closed l.phase ≡ true → step_all l cs ≡ l
unfolding step_all
steps_closed l [] e = refl
steps_closed l (c ∷ cs) e = ap (λ (m : Ledger). step_all m cs) (step_closed l c e) ∙ steps_closed l cs e

-- whatever calls come behind
pub ledger_closed : (cs ds : List Call) → is_closed (ledger cs).phase ≡ true → ledger (cs ++ ds) ≡ ledger cs
ledger_closed cs ds e = ledger_append cs ds ∙ steps_closed (ledger cs) ds e
