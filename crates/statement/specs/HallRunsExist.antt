-- Runs through seats exist, so that what is stated of every one (SeatsStated) is said of something: for every list of calls through seats, refused
-- ones included, there is a run.
use Rattle.std.specs.Prelude.{◌≡◌, Bool, List, [], ◌∷◌, ◌++◌, eqb, Result, Ok, Err}
use Rattle.std.proofs.Math.Path.{refl, ap}
use Rattle.std.proofs.Common.{sym, subst, subst₂, ◌∙◌, append_assoc, append-nil}
use Rattle.std.proofs.Math.Decide.{ℕ_discrete as dec_eq}
use Rattle.std.proofs.Math.Bool.{true, false, cond}
use Rattle.rules_numbers.specs.Cases.{clash}
use Rattle.rules_auction.specs.Ledger.{Offer, Lodge, Cancel, Own, Named, Call, SetUp, Register, Open, By, Close, Ledger}
use Rattle.rules_auction.specs.Refusals.{refusal}
use Rattle.rules_auction.specs.Rounds.{step, ledger, Answered, bare_answer, granted, answer}
use Rattle.laws_ledger.specs.reachable.Steps.{ledger_snoc, granted_number}
use Rattle.rules_seats.specs.Seats as seats
use Rattle.rules_seats.specs.Seats.{may_make, HallLedger, Seated, hall_answer, after_call, hall_step, hall_from, hall_ledger, hall_answers_from, hall_answers}
use Rattle.rules_seats.specs.Seats.{permitted, through_seats}
use Rattle.rules_seats.specs.SeatLaws.{hall_ledger_snoc, hall_answers_snoc, hall_is}
use Rattle.engine_refusals.specs.Numbers.{number_of, after}
use Rattle.engine_refusals.specs.declared.Refusal.{Refusal}
use Rattle.engine_refusals.specs.declared.Refusal.TheVariants.{NoRight}
use Rattle.engine_auction.specs.Holds.{held_auction}
use Rattle.engine_auction.specs.Called.{Called, answer_in}
use Rattle.seats.specs.Rights.{seat_in}
use Rattle.seats.specs.declared.Seat.{Seat}
use Rattle.seats.specs.declared.Seat.TheVariants.{Auctioneer, Auditor, Developer}
use Rattle.hall.specs.Through.{held_hall, CalledThrough}
use Rattle.hall.specs.declared.Hall.{Hall}
use Rattle.statement.specs.RefusalNumbers.{Numbered, refusal_named}
use Rattle.statement.specs.Runs.{called, lent}
use Rattle.statement.specs.HallRuns.{MadeThrough, sets_up_lem, registers_one, registers_for_lem, opens, offers, lodges, cancels, closes, HallRun, fresh, followed}
use Rattle.statement.specs.Untouched.{hall_stays}

-- the case of the enum for each seat
unfoldable pub held_seat : seats.Seat → Seat
held_seat seats.Auctioneer = Auctioneer
held_seat seats.Auditor = Auditor
held_seat (seats.At n) = Developer n

pub seat_in_lem : (s : seats.Seat) → seat_in (held_seat s) ≡ s
unfolding held_seat
seat_in_lem seats.Auctioneer = refl
seat_in_lem seats.Auditor = refl
seat_in_lem (seats.At n) = refl

-- ---- a call through a seat, whatever its arguments, in a hall whose ledger is x, which holds the ledger of the calls cs

module _ (x : HallLedger) (cs : List Call) (is : x.ledger ≡ ledger cs) (s : seats.Seat) (c : Call) where
  abbrev m : Seated
  m = record { seat = s; call = c }

  abbrev before : Hall
  before = held_hall x

  abbrev behind : Hall
  behind = held_hall (hall_step x m)

  abbrev given : Answered
  given = hall_answer x m

  own_call : Called c (held_auction x.ledger) (held_auction (step x.ledger c)) (answer x.ledger c)
  own_call =
      subst (λ (l : Ledger). Called c (held_auction l) (held_auction (step l c)) (answer l c)) (sym is)
      (subst (λ (l : Ledger). Called c (held_auction (ledger cs)) (held_auction l) (answer (ledger cs) c)) (ledger_snoc cs c) (called cs c))

  called_through : CalledThrough s c before behind given
  unfolding hall_step hall_answer
  called_through = go (may_make s c) refl
    where
      go : (b : Bool) → may_make s c ≡ b → CalledThrough s c before (held_hall (cond b (after_call x c) x)) (cond b (answer x.ledger c) (bare_answer 20))
      go true e = record { barred = λ f. absurd (clash e f); made = λ f. own_call; excess = λ f. refl }
      go false e = record { barred = λ f. (refl, refl); made = λ f. absurd (clash f e); excess = λ f. absurd (clash f e) }

  -- the number is that of a refusal, or 0
  named : Numbered given.number
  unfolding hall_answer answer
  named = go (may_make s c) (eqb (refusal x.ledger c) 0)
    where
      go : (a b : Bool) → Numbered (cond a (cond b (granted x.ledger c) (bare_answer (refusal x.ledger c))) (bare_answer 20)).number
      go true true = λ z. absurd (z (granted_number x.ledger c))
      go true false = refusal_named x.ledger c
      go false b = λ z. (NoRight, refl)

  -- refused, as some refusal says, it leaves the hall
  by_refusal :
      (t : Seat) → (given.number ≡ 0 → ⊥) →
      ((e : Refusal) → CalledThrough s c before before (bare_answer (number_of e)) → MadeThrough t c before (bare_answer (number_of e)) before) →
      MadeThrough t c before given behind
  by_refusal t z f =
      let n = named z in
      let w = hall_stays s c before behind given called_through z in
      let is : given ≡ bare_answer (number_of n.0) = w.1 ∙ ap bare_answer (sym n.1) in
      subst₂ (λ (r : Answered) (k : Hall). MadeThrough t c before r k) (sym is) (sym w.0)
      (f n.0 (subst₂ (λ (r : Answered) (k : Hall). CalledThrough s c before k r) is w.0 called_through))

  alone : granted x.ledger c ≡ bare_answer 0 → given ≡ bare_answer given.number
  unfolding hall_answer answer
  alone g = go (may_make s c) (eqb (refusal x.ledger c) 0)
    where
      go :
          (a b : Bool) → let r = cond a (cond b (granted x.ledger c) (bare_answer (refusal x.ledger c))) (bare_answer 20) in
          r ≡ bare_answer r.number
      go true true = g ∙ ap (λ (r : Answered). bare_answer r.number) (sym g)
      go true false = refl
      go false b = refl

  -- a call that answers with the next hall alone
  by_answer :
      (t : Seat) → granted x.ledger c ≡ bare_answer 0 →
      ((r : Result Hall Refusal) → CalledThrough s c before (after before r) (answer_in r) → MadeThrough t c before (answer_in r) (after before r)) →
      MadeThrough t c before given behind
  by_answer t g f = go (dec_eq given.number 0)
    where
      go : Dec (given.number ≡ 0) → MadeThrough t c before given behind
      go (yes z) =
          let is : given ≡ bare_answer 0 = alone g ∙ ap bare_answer z in
          subst (λ (r : Answered). MadeThrough t c before r behind) (sym is)
          (f (Ok behind) (subst (λ (r : Answered). CalledThrough s c before behind r) is called_through))
      go (no z) = by_refusal t z (λ e w. f (Err e) w)

module _ (x : HallLedger) (cs : List Call) (is : x.ledger ≡ ledger cs) (t : Seat) where
  closing_made : MadeThrough t Close (before x cs is (seat_in t) Close) (given x cs is (seat_in t) Close) (behind x cs is (seat_in t) Close)
  closing_made = go (dec_eq r.number 0)
    where
      h : Hall
      h = before x cs is (seat_in t) Close

      k : Hall
      k = behind x cs is (seat_in t) Close

      r : Answered
      r = given x cs is (seat_in t) Close

      go : Dec (r.number ≡ 0) → MadeThrough t Close h r k
      go (yes z) =
          let same : r ≡ record { number = 0; excess = r.excess; remainder = r.remainder } =
          (λ i. record { number = z i; excess = r.excess; remainder = r.remainder }) in
          subst (λ (y : Answered). MadeThrough t Close h y k) (sym same)
          (closes t (Ok (record { excess = r.excess; remainder = r.remainder; hall = k }))
          (subst (λ (y : Answered). CalledThrough (seat_in t) Close h k y) same (called_through x cs is (seat_in t) Close)))
      go (no z) = by_refusal x cs is (seat_in t) Close t z (λ e w. closes t (Err e) w)

pub made_through :
    (x : HallLedger) (cs : List Call) → x.ledger ≡ ledger cs → (t : Seat) (c : Call) → let m : Seated = record { seat = seat_in t; call = c } in
    MadeThrough t c (held_hall x) (hall_answer x m) (held_hall (hall_step x m))
unfolding granted
made_through x cs is t (SetUp s) =
    by_answer x cs is (seat_in t) _ t refl (λ r p. sets_up_lem t s.ce s.d s.m1 s.m2 s.a r p)
made_through x cs is t (Register n Own d) = by_answer x cs is (seat_in t) _ t refl (λ r p. registers_one
    ([], tt)
    (held_hall x, (t, (d.project, (n, (d.kind, (d.study, (d.day, (lent d.levels, tt))))))))
    r p)
made_through x cs is t (Register n (Named g) d) = by_answer x cs is (seat_in t) _ t refl (λ r p. registers_for_lem
    ([], tt)
    (held_hall x, (t, (d.project, (n, (d.kind, (g, (d.study, (d.day, (lent d.levels, tt)))))))))
    r p)
made_through x cs is t (Open c) = by_answer x cs is (seat_in t) _ t refl (λ r p. opens t c r p)
made_through x cs is t (By n (Offer ps qs)) = by_answer x cs is (seat_in t) _ t refl (λ r p. offers
    ([], ([], tt))
    (held_hall x, (t, (n, (lent ps, (lent qs, tt)))))
    r p)
made_through x cs is t (By n (Lodge ps qs)) = by_answer x cs is (seat_in t) _ t refl (λ r p. lodges
    ([], ([], tt))
    (held_hall x, (t, (n, (lent ps, (lent qs, tt)))))
    r p)
made_through x cs is t (By n Cancel) = by_answer x cs is (seat_in t) _ t refl (λ r p. cancels t n r p)
made_through x cs is t Close = closing_made x cs is t

-- ---- every run

-- answered by the definitions, up to the hall that holds the hall's ledger
abbrev LedgersRun : List Seated → Type 0
LedgersRun ms = HallRun ms (hall_answers ms) (held_hall (hall_ledger ms))

longer : (ms : List Seated) (m : Seated) → LedgersRun ms → LedgersRun (ms ++ (m ∷ []))
longer ms m w =
    rw (hall_answers_snoc ms m, hall_ledger_snoc ms m)
    (subst (λ (s : seats.Seat). let n : Seated = record { seat = s; call = m.call } in
    HallRun (ms ++ (n ∷ [])) (hall_answers ms ++ (hall_answer (hall_ledger ms) n ∷ [])) (held_hall (hall_step (hall_ledger ms) n)))
    (seat_in_lem m.seat) (followed w (made_through (hall_ledger ms) (permitted (through_seats ms)) (hall_is ms) (held_seat m.seat) m.call)))

pub hall_runs : (ms : List Seated) → HallRun ms (hall_answers ms) (held_hall (hall_ledger ms))
unfolding hall_from hall_ledger hall_answers hall_answers_from
hall_runs ms = onwards [] ms (fresh refl)
  where
    onwards : (ns ms : List Seated) → LedgersRun ns → LedgersRun (ns ++ ms)
    onwards ns [] w = subst LedgersRun (sym (append-nil ns)) w
    onwards ns (m ∷ ms) w = subst LedgersRun (append_assoc ns (m ∷ []) ms) (onwards (ns ++ (m ∷ [])) ms (longer ns m w))
