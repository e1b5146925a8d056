-- The accepted calls of a list, and that its ledger is theirs alone: a refused call changes nothing, so the calls behind it find the same
-- ledger with and without it.
use Rattle.std.specs.Prelude.{◌≡◌, refl, Bool, true, false, cond, List, [], ◌∷◌, eqb}
use Rattle.std.proofs.Common.{sym, ap, ◌∙◌, eq-eqb}
use Rattle.rules_numbers.specs.Cases.{clash}
use Rattle.rules_auction.specs.Ledger.{Call, Ledger, start}
use Rattle.rules_auction.specs.Refusals.{refusal}
use Rattle.rules_auction.specs.Rounds.{step, step_all, ledger}
use Rattle.laws_ledger.specs.reachable.Steps.{step_refused}

-- a call in front of the accepted ones behind it, if it is accepted
abbrev pub joined : Bool → Call → List Call → List Call
joined b c cs = cond b (c ∷ cs) cs

-- of the calls made from the ledger l on, those accepted, in their order
unfoldable pub accepted_from : Ledger → List Call → List Call
accepted_from l [] = []
accepted_from l (c ∷ cs) = joined (eqb (refusal l c) 0) c (accepted_from (step l c) cs)

-- the accepted calls of a list
unfoldable pub accepted_calls : List Call → List Call
accepted_calls cs = accepted_from start cs

-- a refused call leaves the ledger as it is
pub unchanged : (l : Ledger) (c : Call) → eqb (refusal l c) 0 ≡ false → l ≡ step l c
unchanged l c e = sym (step_refused l c (λ z. clash (eq-eqb (refusal l c) 0 z) e))

accepted_steps : (l : Ledger) (cs : List Call) → step_all l (accepted_from l cs) ≡ step_all l cs
unfolding step_all accepted_from
accepted_steps l [] = refl
accepted_steps l (c ∷ cs) = go (eqb (refusal l c) 0) refl (accepted_steps (step l c) cs)
  where
    rest : List Call
    rest = accepted_from (step l c) cs

    go : (b : Bool) → eqb (refusal l c) 0 ≡ b → step_all (step l c) rest ≡ step_all (step l c) cs → step_all l (joined b c rest) ≡ step_all (step l c) cs
    go true e h = h
    go false e h = ap (λ (m : Ledger). step_all m rest) (unchanged l c e) ∙ h

-- the ledger of a list is that of its accepted calls
pub ledger_of_accepted : (cs : List Call) → ledger (accepted_calls cs) ≡ ledger cs
unfolding ledger accepted_calls
ledger_of_accepted cs = accepted_steps start cs

-- so lists with the same accepted calls in the same order have one ledger, whatever was refused between them
pub same_accepted : (cs ds : List Call) → accepted_calls cs ≡ accepted_calls ds → ledger cs ≡ ledger ds
same_accepted cs ds e = sym (ledger_of_accepted cs) ∙ ap ledger e ∙ ledger_of_accepted ds
