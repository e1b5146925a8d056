-- A cancelled offer is as if never made: through the calls between, the two ledgers differ in developer n's entry alone, and the cancellation
-- puts back the entry from before the offer. No closing stands between: after it no offer of n would stand to be cancelled.
use Rattle.std.specs.Prelude.{ℕ, ◌≡◌, Bool, true, false, not, eqb}
use Rattle.std.proofs.Math.Path.{refl, sym, ap, ap₂}
use Rattle.std.proofs.Common.{◌∙◌}
use Rattle.std.proofs.Math.Bool.{cond}
use mathlib.Core.List.{List, [], ◌∷◌, ◌++◌}
use borrow.Author.Tests.{eq-eqb}
use Rattle.rules_numbers.specs.Cases.{clash}
use Rattle.rules_numbers.specs.Lists.{keep}
use Rattle.rules_auction.specs.Ledger.{Move, Offer, Cancel, agent_for, Call, SetUp, Register, Open, By, Close, Standing, none, made, Developer, Ledger}
use Rattle.rules_auction.specs.Ledger.{with_developers, with_developer, with_offer, newcomer}
use Rattle.rules_auction.specs.Refusals.{in_round, is_none, refusal}
use Rattle.rules_auction.specs.Rounds.{steps, applied, moved, accepted, step, step_all, ledger, Answered, answer, answers_from}
use Rattle.laws_ledger.specs.reachable.Checks.{offer_passed, cancel_passed}
use Rattle.laws_ledger.specs.reachable.Steps.{step_refused, step_accepted, by_step, step_all_append, ledger_append}
use Rattle.laws_arrival.specs.cancelling.TakenBack.{own, others, answers_to_others, OwnRefused, passage, TakenBack, AsIfNeverMade}
use Rattle.laws_arrival.specs.cancelling.Entries.{apart, put_at, put_beside, put_back, Aside, aside}

-- ---- no closing between

-- no offer of developer n stands
abbrev Nothing : ℕ → Ledger → Type 0
Nothing n l = is_none (l.developers n).offer ≡ true

-- only n's own accepted call makes one stand
nothing_accepted : (n : ℕ) (l : Ledger) (c : Call) → own n c ≡ false → Nothing n l → Nothing n (accepted l c)
unfolding accepted applied own
nothing_accepted n l (SetUp s) o h = h
nothing_accepted n l (Register k w x) o h = go (eqb n k)
  where
    go : (b : Bool) → is_none (cond b (newcomer (agent_for k w) x) (l.developers n)).offer ≡ true
    go true = refl
    go false = h
nothing_accepted n l (Open c) o h = h
nothing_accepted n l (By k m) o h = ap (λ (x : Developer). is_none x.offer) (put_beside k n (moved (l.developers k) m) l.developers (apart k n o)) ∙ h
nothing_accepted n l Close o h = refl

nothing_stays : (n : ℕ) (l : Ledger) (cs : List Call) → OwnRefused n l cs → Nothing n l → Nothing n (step_all l cs)
unfolding OwnRefused step_all
nothing_stays n l [] r h = h
nothing_stays n l (c ∷ cs) r h = nothing_stays n (step l c) cs r.1 (by_step (Nothing n) l c h (λ e. go (own n c) refl e))
  where
    go : (b : Bool) → own n c ≡ b → refusal l c ≡ 0 → Nothing n (accepted l c)
    go true o e = absurd (r.0 o e)
    go false o e = nothing_accepted n l c o h

-- a closing leaves no offer
closing_leaves : (n : ℕ) (l : Ledger) → in_round l.phase ≡ true → Nothing n (step l Close)
unfolding refusal accepted applied
closing_leaves n l r = rw (step_accepted l Close (rw r refl)) refl

-- ---- through the calls between

-- n's entry stays, and with y in its place the calls of others are answered alike and leave the same beside it
record PastOthers (n : ℕ) (l : Ledger) (cs : List Call) : Type 0 where
  next : (y : Developer) → step_all (with_developer l n y) (others n cs) ≡ with_developer (step_all l cs) n y
  answered : (y : Developer) → answers_from (with_developer l n y) (others n cs) ≡ answers_to_others n l cs
  entry : (step_all l cs).developers n ≡ l.developers n

module _ (n : ℕ) (l : Ledger) (c : Call) (cs : List Call) (t : PastOthers n (step l c) cs) where
  -- the list without n's own, and the answers to it, by whether the first is n's own
  reduced : Bool → List Call
  reduced b = cond (not b) (c ∷ others n cs) (others n cs)

  heard : Bool → List Answered
  heard b = cond b (answers_to_others n (step l c) cs) (answer l c ∷ answers_to_others n (step l c) cs)

  -- one of n's own, refused
  own_first : own n c ≡ true → step l c ≡ l → PastOthers n l (c ∷ cs)
  unfolding reduced heard step_all others keep answers_from answers_to_others
  own_first o same = record {
    next = λ y.
        ap (λ (b : Bool). step_all (with_developer l n y) (reduced b)) o
        ∙ ap (λ (m : Ledger). step_all (with_developer m n y) (others n cs)) (sym same)
        ∙ t.next y;
    answered = λ y.
        ap (λ (b : Bool). answers_from (with_developer l n y) (reduced b)) o
        ∙ ap (λ (m : Ledger). answers_from (with_developer m n y) (others n cs)) (sym same)
        ∙ t.answered y
        ∙ ap heard (sym o);
    entry = t.entry ∙ ap (λ (m : Ledger). m.developers n) same;
  }

  other_first : own n c ≡ false → Aside n l c → PastOthers n l (c ∷ cs)
  unfolding reduced heard step_all others keep answers_from answers_to_others
  other_first o a = record {
    next = λ y. ap (λ (b : Bool). step_all (with_developer l n y) (reduced b)) o ∙ ap (λ (m : Ledger). step_all m (others n cs)) (a.beside.next y) ∙ t.next y;
    answered = λ y. ap (λ (b : Bool). answers_from (with_developer l n y) (reduced b)) o
        ∙ ap₂ (λ (x : Answered) (m : Ledger). x ∷ answers_from m (others n cs)) (a.beside.answered y) (a.beside.next y)
        ∙ ap (λ (xs : List Answered). answer l c ∷ xs) (t.answered y)
        ∙ ap heard (sym o);
    entry = t.entry ∙ a.beside.entry;
  }

past_others :
    (n : ℕ) (l : Ledger) (cs : List Call) → in_round l.phase ≡ true → OwnRefused n l cs → is_none ((step_all l cs).developers n).offer ≡ false →
    PastOthers n l cs
unfolding OwnRefused step_all others keep answers_from answers_to_others
past_others n l [] i r s = record { next = λ y. refl; answered = λ y. refl; entry = refl }
past_others n l (c ∷ cs) i r s = go (own n c) refl (λ j. past_others n (step l c) cs j r.1 s)
  where
    go : (b : Bool) → own n c ≡ b → (in_round (step l c).phase ≡ true → PastOthers n (step l c) cs) → PastOthers n l (c ∷ cs)
    go true o t = let same : step l c ≡ l = step_refused l c (r.0 o) in own_first n l c cs (t (rw same i)) o same
    go false o t =
        let no_closing : c ≡ Close → ⊥ = λ e. clash (nothing_stays n (step l c) cs r.1 (rw e (closing_leaves n l i))) s in
        let a = aside n l i c o no_closing in
        other_first n l c cs (t a.round) o a

-- ---- the offer and the cancellation, and what is left of the calls from the one to the other

module _ (n : ℕ) (m : Move) where
  own_move : own n (By n m) ≡ true
  unfolding own
  own_move = eq-eqb n n refl

  others_last : (cs : List Call) → others n (cs ++ (By n m ∷ [])) ≡ others n cs
  unfolding others keep
  others_last [] = ap (λ (b : Bool). cond (not b) (By n m ∷ []) []) own_move
  others_last (c ∷ cs) = ap (λ (xs : List Call). cond (not (own n c)) (c ∷ xs) xs) (others_last cs)

  answers_last : (l : Ledger) (cs : List Call) → answers_to_others n l (cs ++ (By n m ∷ [])) ≡ answers_to_others n l cs
  unfolding answers_to_others
  answers_last l [] = ap (λ (b : Bool). cond b [] (answer l (By n m) ∷ [])) own_move
  answers_last l (c ∷ cs) = ap (λ (xs : List Answered). cond (own n c) xs (answer l c ∷ xs)) (answers_last (step l c) cs)

module _ (n : ℕ) (ps qs : List ℕ) (bs : List Call) where
  others_passage : others n (passage n ps qs bs) ≡ others n bs
  unfolding others keep
  others_passage =
      let rest = others n (bs ++ (By n Cancel ∷ [])) in
      ap (λ (b : Bool). cond (not b) (By n (Offer ps qs) ∷ rest) rest) (own_move n (Offer ps qs)) ∙ others_last n Cancel bs

  answers_passage : (l : Ledger) → answers_to_others n l (passage n ps qs bs) ≡ answers_to_others n (step l (By n (Offer ps qs))) bs
  unfolding answers_to_others
  answers_passage l =
      let rest = answers_to_others n (step l (By n (Offer ps qs))) (bs ++ (By n Cancel ∷ [])) in
      ap (λ (b : Bool). cond b rest (answer l (By n (Offer ps qs)) ∷ rest)) (own_move n (Offer ps qs))
      ∙ answers_last n Cancel (step l (By n (Offer ps qs))) bs

same_offer : (x : Developer) (s : Standing) → is_none s ≡ true → x.offer ≡ s → with_offer x none ≡ x
same_offer x none e h = ap (with_offer x) (sym h)
same_offer x (made ss) e h = absurd (clash e refl)

module _ (n : ℕ) (ds : List Call) (ps qs : List ℕ) (bs : List Call) (t : TakenBack n ds ps qs bs) where
  abbrev l : Ledger
  l = ledger ds

  abbrev x : Developer
  x = l.developers n

  -- after the offer
  abbrev offering : Ledger
  offering = step l (By n (Offer ps qs))

  offering_is : offering ≡ with_developer l n (with_offer x (made (steps ps qs)))
  unfolding accepted moved
  offering_is = step_accepted l (By n (Offer ps qs)) t.offered

  -- with n's entry from before the offer, it is the ledger before the offer
  put_back_is : with_developer offering n x ≡ l
  put_back_is =
      ap (λ (m : Ledger). with_developer m n x) offering_is
      ∙ ap (with_developers l) (put_back n (with_offer x (made (steps ps qs))) l.developers)

  -- before the cancellation
  abbrev ending : Ledger
  ending = step_all offering bs

  past_all : PastOthers n offering bs
  unfolding refusal step_all
  past_all =
      let p = offer_passed l n x ps qs t.offered in
      let q = cancel_passed ending n (ending.developers n) t.cancelled in
      past_others n offering bs (rw offering_is p.phase) t.refused q.stands

  -- the cancellation puts back the entry from before the offer
  cancelling_is : step ending (By n Cancel) ≡ with_developer ending n x
  unfolding refusal step_all accepted moved
  cancelling_is =
      let entry : ending.developers n ≡ with_offer x (made (steps ps qs)) =
      past_all.entry ∙ ap (λ (m : Ledger). m.developers n) offering_is ∙ put_at n _ l.developers in
      step_accepted ending (By n Cancel) t.cancelled
      ∙ ap (λ (z : Developer). with_developer ending n (with_offer z none)) entry
      ∙ ap (with_developer ending n) (same_offer x x.offer (offer_passed l n x ps qs t.offered).first refl)

  abbrev all : List Call
  all = passage n ps qs bs

  same_end : step_all l all ≡ step_all l (others n all)
  unfolding step_all
  same_end =
      step_all_append offering bs (By n Cancel ∷ [])
      ∙ cancelling_is
      ∙ sym (past_all.next x)
      ∙ ap₂ step_all put_back_is (sym (others_passage n ps qs bs))

  pub as_if_never_made : (rest : List Call) → AsIfNeverMade n ds ps qs bs rest
  as_if_never_made rest = record {
    ledgers = whole all ∙ ap (λ (m : Ledger). step_all m rest) same_end ∙ sym (whole (others n all));
    meanwhile = answers_passage n ps qs bs l ∙ sym (past_all.answered x) ∙ ap₂ answers_from put_back_is (sym (others_passage n ps qs bs));
    later = ap (λ (m : Ledger). answers_from m rest) (ledger_append ds all ∙ same_end ∙ sym (ledger_append ds (others n all)));
  }
    where
      whole : (cs : List Call) → ledger (ds ++ (cs ++ rest)) ≡ step_all (step_all l cs) rest
      whole cs = ledger_append ds (cs ++ rest) ∙ step_all_append l cs rest
