-- PROMISED of the ledger of every list of calls (document 01, Rounds; document 02, 8): which calls are its accepted ones, and that its withdrawals
-- stand between the last C and A.
use Rattle.std.specs.Prelude.{ℕ, ◌≤◌, ◌≡◌, refl, Bool, true, false, eqb}
use Rattle.std.proofs.Common.{ap, ◌∙◌, eq-eqb, ne_eqb}
use mathlib.Core.List.{List, [], ◌∷◌, ◌++◌, append-nil, Memᴰ}
use Rattle.rules_auction.specs.Ledger.{Step, Developer, Call, Ledger, start}
use Rattle.rules_auction.specs.Refusals.{refusal}
use Rattle.rules_auction.specs.Rounds.{step, step_all, ledger}
use Rattle.laws_ledger.specs.Sound.{SoundDeveloper}
use Rattle.laws_ledger.specs.reachable.AcceptedCalls.{joined, accepted_from, accepted_calls, unchanged}
use Rattle.laws_ledger.specs.reachable.Bounds.{descends_each}

-- ---- the accepted calls of a list

accepted_from_again : (l : Ledger) (cs : List Call) → accepted_from l (accepted_from l cs) ≡ accepted_from l cs
unfolding accepted_from
accepted_from_again l [] = refl
accepted_from_again l (c ∷ cs) = go (eqb (refusal l c) 0) refl (accepted_from_again (step l c) cs)
  where
    rest : List Call
    rest = accepted_from (step l c) cs

    go : (b : Bool) → eqb (refusal l c) 0 ≡ b → accepted_from (step l c) rest ≡ rest → accepted_from l (joined b c rest) ≡ joined b c rest
    go true e h = rw e (ap (λ (ds : List Call). c ∷ ds) h)
    go false e h = ap (λ (m : Ledger). accepted_from m rest) (unchanged l c e) ∙ h

accepted_from_snoc : (l : Ledger) (cs : List Call) (c : Call) → accepted_from l (cs ++ (c ∷ [])) ≡ accepted_from l cs ++ accepted_from (step_all l cs) (c ∷ [])
unfolding step_all accepted_from
accepted_from_snoc l [] c = refl
accepted_from_snoc l (d ∷ cs) c =
    let b = eqb (refusal l d) 0 in
    ap (joined b d) (accepted_from_snoc (step l d) cs c) ∙ in_front_lem b (accepted_from (step l d) cs) (accepted_from (step_all (step l d) cs) (c ∷ []))
  where
    in_front_lem : (b : Bool) (xs ys : List Call) → joined b d (xs ++ ys) ≡ joined b d xs ++ ys
    in_front_lem true xs ys = refl
    in_front_lem false xs ys = refl

-- one call more: accepted, it is the last of them; refused, it is left out
pub accepted_joins : (cs : List Call) (c : Call) → refusal (ledger cs) c ≡ 0 → accepted_calls (cs ++ (c ∷ [])) ≡ accepted_calls cs ++ (c ∷ [])
unfolding ledger accepted_calls accepted_from
accepted_joins cs c e = accepted_from_snoc start cs c ∙ ap (λ (b : Bool). accepted_from start cs ++ joined b c []) (eq-eqb _ 0 e)

pub refused_left_out : (cs : List Call) (c : Call) → (refusal (ledger cs) c ≡ 0 → ⊥) → accepted_calls (cs ++ (c ∷ [])) ≡ accepted_calls cs
unfolding ledger accepted_calls accepted_from
refused_left_out cs c h =
    accepted_from_snoc start cs c ∙ ap (λ (b : Bool). accepted_from start cs ++ joined b c []) (ne_eqb _ 0 h) ∙ append-nil (accepted_from start cs)

-- with the refused calls taken out, none of those left is refused
pub accepted_again : (cs : List Call) → accepted_calls (accepted_calls cs) ≡ accepted_calls cs
unfolding accepted_calls
accepted_again cs = accepted_from_again start cs

-- ---- withdrawals

-- every withdrawal's price is from c to a: in a sound ledger, from the last C to A
pub withdrawal_price_bound : {c a : ℕ} {x : Developer} → SoundDeveloper c a x → (w : Step) → Memᴰ w x.withdrawals → (c ≤ w.price) × (w.price ≤ a)
withdrawal_price_bound {c} {a} {x} d w m = descends_each c a w x.withdrawals m d.prices
