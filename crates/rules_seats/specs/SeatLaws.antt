-- What a call behind a list makes of the hall's ledger, the answers and the permitted calls.
use Rattle.std.specs.Prelude.{◌≡◌, refl, Bool, true, false, cond, List, [], ◌∷◌, ◌++◌, ℤ}
use Rattle.std.proofs.Common.{ap, ◌∙◌, append-nil, ne_eqb}
use Rattle.rules_auction.specs.Ledger.{Call, SetUp, Register, Open, By, Close, Ledger, start}
use Rattle.rules_auction.specs.Rounds.{step, step_all, ledger, Answered, bare_answer, answer}
use Rattle.rules_seats.specs.Seats.{Seat, may_make, HallLedger, fresh_hall, Seated, has_right, hall_answer, latest_excess, after_call, hall_step, hall_from}
use Rattle.rules_seats.specs.Seats.{hall_ledger, hall_answers_from, hall_answers, Entry, Direct, Through, permitted, entry_answers_from, entry_answers}
use Rattle.rules_seats.specs.Seats.{through_seats}

-- a refused call leaves the excess of the latest closing
pub refused_excess : (c : Call) (r : Answered) (e : ℤ) → (r.number ≡ 0 → ⊥) → latest_excess c r e ≡ e
unfolding latest_excess
refused_excess (SetUp s) r e z = refl
refused_excess (Register n w x) r e z = refl
refused_excess (Open c) r e z = refl
refused_excess (By n m) r e z = refl
refused_excess Close r e z = ap (λ (b : Bool). cond b r.excess e) (ne_eqb r.number 0 z)

-- ---- a call behind a run

pub hall_from_append : (h : HallLedger) (ms ns : List Seated) → hall_from h (ms ++ ns) ≡ hall_from (hall_from h ms) ns
unfolding hall_from
hall_from_append h [] ns = refl
hall_from_append h (m ∷ ms) ns = hall_from_append (hall_step h m) ms ns

pub hall_ledger_snoc : (ms : List Seated) (m : Seated) → hall_ledger (ms ++ (m ∷ [])) ≡ hall_step (hall_ledger ms) m
unfolding hall_ledger hall_from
hall_ledger_snoc ms m = hall_from_append fresh_hall ms (m ∷ [])

hall_answers_append : (h : HallLedger) (ms ns : List Seated) → hall_answers_from h (ms ++ ns) ≡ hall_answers_from h ms ++ hall_answers_from (hall_from h ms) ns
unfolding hall_answers_from hall_from
hall_answers_append h [] ns = refl
hall_answers_append h (m ∷ ms) ns = ap (λ (rs : List Answered). hall_answer h m ∷ rs) (hall_answers_append (hall_step h m) ms ns)

pub hall_answers_snoc : (ms : List Seated) (m : Seated) → hall_answers (ms ++ (m ∷ [])) ≡ hall_answers ms ++ (hall_answer (hall_ledger ms) m ∷ [])
unfolding hall_ledger hall_answers hall_answers_from
hall_answers_snoc ms m = hall_answers_append fresh_hall ms (m ∷ [])

pub through_snoc : (ms : List Seated) (m : Seated) → through_seats (ms ++ (m ∷ [])) ≡ through_seats ms ++ (Through m.seat m.call ∷ [])
unfolding through_seats
through_snoc [] m = refl
through_snoc (k ∷ ms) m = ap (λ (es : List Entry). Through k.seat k.call ∷ es) (through_snoc ms m)

-- ---- an entry behind a list

permitted_append : (es fs : List Entry) → permitted (es ++ fs) ≡ permitted es ++ permitted fs
unfolding permitted
permitted_append [] fs = refl
permitted_append (Direct c ∷ es) fs = ap (λ (cs : List Call). c ∷ cs) (permitted_append es fs)
permitted_append (Through s c ∷ es) fs = go (may_make s c) (permitted_append es fs)
  where
    go :
        (b : Bool) → permitted (es ++ fs) ≡ permitted es ++ permitted fs →
        cond b (c ∷ permitted (es ++ fs)) (permitted (es ++ fs)) ≡ cond b (c ∷ permitted es) (permitted es) ++ permitted fs
    go true e = ap (λ (cs : List Call). c ∷ cs) e
    go false e = e

pub permitted_direct : (es : List Entry) (c : Call) → permitted (es ++ (Direct c ∷ [])) ≡ permitted es ++ (c ∷ [])
unfolding permitted
permitted_direct es c = permitted_append es (Direct c ∷ [])

pub permitted_made : (es : List Entry) (s : Seat) (c : Call) → may_make s c ≡ true → permitted (es ++ (Through s c ∷ [])) ≡ permitted es ++ (c ∷ [])
unfolding permitted
permitted_made es s c e = permitted_append es (Through s c ∷ []) ∙ ap (λ (b : Bool). permitted es ++ cond b (c ∷ []) []) e

pub permitted_barred : (es : List Entry) (s : Seat) (c : Call) → may_make s c ≡ false → permitted (es ++ (Through s c ∷ [])) ≡ permitted es
unfolding permitted
permitted_barred es s c e = permitted_append es (Through s c ∷ []) ∙ ap (λ (b : Bool). permitted es ++ cond b (c ∷ []) []) e ∙ append-nil (permitted es)

entry_answers_append :
    (l : Ledger) (es fs : List Entry) → entry_answers_from l (es ++ fs) ≡ entry_answers_from l es ++ entry_answers_from (step_all l (permitted es)) fs
unfolding permitted entry_answers_from step_all
entry_answers_append l [] fs = refl
entry_answers_append l (Direct c ∷ es) fs = ap (λ (rs : List Answered). answer l c ∷ rs) (entry_answers_append (step l c) es fs)
entry_answers_append l (Through s c ∷ es) fs = go (may_make s c) (entry_answers_append (step l c) es fs) (entry_answers_append l es fs)
  where
    go :
        (b : Bool) →
        entry_answers_from (step l c) (es ++ fs) ≡ entry_answers_from (step l c) es ++ entry_answers_from (step_all (step l c) (permitted es)) fs →
        entry_answers_from l (es ++ fs) ≡ entry_answers_from l es ++ entry_answers_from (step_all l (permitted es)) fs →
        cond b (answer l c ∷ entry_answers_from (step l c) (es ++ fs)) (bare_answer 20 ∷ entry_answers_from l (es ++ fs))
        ≡ cond b (answer l c ∷ entry_answers_from (step l c) es) (bare_answer 20 ∷ entry_answers_from l es)
        ++ entry_answers_from (step_all l (cond b (c ∷ permitted es) (permitted es))) fs
    go true e f = ap (λ (rs : List Answered). answer l c ∷ rs) e
    go false e f = ap (λ (rs : List Answered). bare_answer 20 ∷ rs) f

pub entry_answers_snoc : (es : List Entry) (e : Entry) → entry_answers (es ++ (e ∷ [])) ≡ entry_answers es ++ entry_answers_from (ledger (permitted es)) (e ∷ [])
unfolding entry_answers ledger
entry_answers_snoc es e = entry_answers_append start es (e ∷ [])

-- ---- the auction in the hall is the one that the permitted calls reach, and the answers are theirs, or 20

hall_reaches : (h : HallLedger) (ms : List Seated) → (hall_from h ms).ledger ≡ step_all h.ledger (permitted (through_seats ms))
unfolding hall_from hall_step permitted through_seats step_all
hall_reaches h [] = refl
hall_reaches h (m ∷ ms) = hall_reaches (hall_step h m) ms ∙ go (has_right m)
  where
    go :
        (b : Bool) →
        step_all (cond b (after_call h m.call) h).ledger (permitted (through_seats ms))
        ≡ step_all h.ledger (cond b (m.call ∷ permitted (through_seats ms)) (permitted (through_seats ms)))
    go true = refl
    go false = refl

pub hall_is : (ms : List Seated) → (hall_ledger ms).ledger ≡ ledger (permitted (through_seats ms))
unfolding hall_ledger ledger
hall_is ms = hall_reaches fresh_hall ms
