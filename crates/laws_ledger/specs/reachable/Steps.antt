-- What a refused and an accepted call make of the ledger and answer, and the ledger and the answers of a list with calls behind it.
use Rattle.std.specs.Prelude.{◌≡◌, refl, Bool, true, false, cond, List, [], ◌∷◌, ◌++◌, eqb}
use Rattle.std.proofs.Common.{ap, eqb-true, eq-eqb, ne_eqb}
use Rattle.rules_auction.specs.Ledger.{Call, SetUp, Register, Open, By, Close, Ledger, start}
use Rattle.rules_auction.specs.Refusals.{refusal}
use Rattle.rules_auction.specs.Rounds.{accepted, step, step_all, ledger, Answered, bare_answer, granted, answer, answers_from, answers}

pub step_refused : (l : Ledger) (c : Call) → (refusal l c ≡ 0 → ⊥) → step l c ≡ l
unfolding step
step_refused l c h = ap (λ (t : Bool). cond t (accepted l c) l) (ne_eqb (refusal l c) 0 h)

pub step_accepted : (l : Ledger) (c : Call) → refusal l c ≡ 0 → step l c ≡ accepted l c
unfolding step
step_accepted l c e = ap (λ (t : Bool). cond t (accepted l c) l) (eq-eqb (refusal l c) 0 e)

pub answer_refused : (l : Ledger) (c : Call) → (refusal l c ≡ 0 → ⊥) → answer l c ≡ bare_answer (refusal l c)
unfolding answer
answer_refused l c h = ap (λ (t : Bool). cond t (granted l c) (bare_answer (refusal l c))) (ne_eqb (refusal l c) 0 h)

pub answer_accepted : (l : Ledger) (c : Call) → refusal l c ≡ 0 → answer l c ≡ granted l c
unfolding answer
answer_accepted l c e = ap (λ (t : Bool). cond t (granted l c) (bare_answer (refusal l c))) (eq-eqb (refusal l c) 0 e)

-- an accepted call answers 0
pub granted_number : (l : Ledger) (c : Call) → (granted l c).number ≡ 0
unfolding granted
granted_number l (SetUp s) = refl
granted_number l (Register n w x) = refl
granted_number l (Open c) = refl
granted_number l (By n m) = refl
granted_number l Close = refl

-- what holds of the ledger, and after the call if it is accepted, holds after the call
pub by_step : (P : Ledger → Type 0) (l : Ledger) (c : Call) → P l → (refusal l c ≡ 0 → P (accepted l c)) → P (step l c)
unfolding step
by_step P l c h g = go (eqb (refusal l c) 0) refl
  where
    go : (b : Bool) → eqb (refusal l c) 0 ≡ b → P (cond b (accepted l c) l)
    go true e = g (eqb-true (refusal l c) 0 e)
    go false e = h

pub step_all_append : (l : Ledger) (cs ds : List Call) → step_all l (cs ++ ds) ≡ step_all (step_all l cs) ds
unfolding step_all
step_all_append l [] ds = refl
step_all_append l (c ∷ cs) ds = step_all_append (step l c) cs ds

pub ledger_append : (cs ds : List Call) → ledger (cs ++ ds) ≡ step_all (ledger cs) ds
unfolding ledger
ledger_append cs ds = step_all_append start cs ds

pub ledger_snoc : (cs : List Call) (c : Call) → ledger (cs ++ (c ∷ [])) ≡ step (ledger cs) c
unfolding step_all
ledger_snoc cs c = ledger_append cs (c ∷ [])

pub answers_from_append : (l : Ledger) (cs ds : List Call) → answers_from l (cs ++ ds) ≡ answers_from l cs ++ answers_from (step_all l cs) ds
unfolding step_all answers_from
answers_from_append l [] ds = refl
answers_from_append l (c ∷ cs) ds = ap (λ (rs : List Answered). answer l c ∷ rs) (answers_from_append (step l c) cs ds)

pub answers_append : (cs ds : List Call) → answers (cs ++ ds) ≡ answers cs ++ answers_from (ledger cs) ds
unfolding answers ledger
answers_append cs ds = answers_from_append start cs ds

pub answers_snoc : (cs : List Call) (c : Call) → answers (cs ++ (c ∷ [])) ≡ answers cs ++ (answer (ledger cs) c ∷ [])
unfolding answers_from
answers_snoc cs c = answers_append cs (c ∷ [])
