-- Laws of the figures: the state's excess in words, that it is the hall's, and how many numbers a host has to lend.
use Rattle.std.specs.Prelude.{ℕ, suc, min, ◌+◌, ◌*◌, ◌≤◌, ◌≡◌, refl, Bool, true, false, cond, ◌&&◌, leb, eqb, length}
use Rattle.std.proofs.Common.{sym, subst, ◌∙◌, ⊎_elim, arith, length-append, leb-true}
use Rattle.std.proofs.lemmas.Bool.{false≢true}
use mathlib.Core.List.{List, [], ◌∷◌, ◌++◌, flatten}
use Rattle.rules_numbers.specs.Cases.{and_true}
use Rattle.rules_numbers.specs.ListLaws.{flat_length}
use Rattle.rules_auction.specs.Ledger.{Step, Standing, none, made, Call, SetUp, Register, Open, By, Close, Developer, Phase, Fresh, Ready, Round, Between}
use Rattle.rules_auction.specs.Ledger.{Closed, Ledger, nobody}
use Rattle.rules_auction.specs.Refusals.{is_closed, rising, levels_ok, refusal}
use Rattle.rules_auction.specs.Rounds.{step, step_all, ledger, excess, granted, answer}
use Rattle.rules_auction.specs.Clearing.{closing_price}
use Rattle.rules_auction.specs.Award.{award, winner}
use Rattle.rules_auction.specs.Settling.{record_of, records_from, records, settlement_at, settlement, settling_refusal}
use Rattle.laws_ledger.specs.clearing.ClosingPrice.{closing_price_lem}
use Rattle.laws_ledger.specs.awards.AwardLaws.{award_length}
use Rattle.laws_ledger.specs.Sound.{started, SoundOffer, Registered, Sound}
use Rattle.laws_ledger.specs.reachable.Reachable.{sound}
use Rattle.laws_ledger.specs.reachable.Steps.{answer_accepted}
use Rattle.rules_supply_curve.specs.Curve.{Point, supply_curve}
use Rattle.rules_supply_curve.specs.Closings.{curve_few}
use Rattle.rules_replies.specs.Lengths.{six}
use Rattle.rules_replies.specs.record_calls.Calls.{calls_in}
use Rattle.rules_seats.specs.Seats.{Seat, Auctioneer, Auditor, At, HallLedger, fresh_hall, Seated, has_right, latest_excess, after_call, hall_step, hall_from}
use Rattle.rules_seats.specs.Seats.{hall_ledger, reading, permitted, through_seats}
use Rattle.rules_seats.specs.SeatLaws.{hall_is}
use Rattle.rules_seats.specs.figures.Figures.{hall_after, closes_round, closings_from, state_figures, record_hall, record_state, preview_figures, record_preview}
use Rattle.rules_seats.specs.figures.Figures.{curve_figures, record_curve, settlement_figures, award_bytes, record_settlement, step_figures, offer_figures}
use Rattle.rules_seats.specs.figures.Figures.{reading_figures}

-- ---- the excess of the latest accepted closing

pub hall_after_append : (h : HallLedger) (cs ds : List Call) → hall_after h (cs ++ ds) ≡ hall_after (hall_after h cs) ds
unfolding hall_after
hall_after_append h [] ds = refl
hall_after_append h (c ∷ cs) ds = hall_after_append (after_call h c) cs ds

pub hall_after_ledger : (h : HallLedger) (cs : List Call) → (hall_after h cs).ledger ≡ step_all h.ledger cs
unfolding hall_after step_all
hall_after_ledger h [] = refl
hall_after_ledger h (c ∷ cs) = hall_after_ledger (after_call h c) cs

pub record_ledger_held : (bytes : List ℕ) → (record_hall bytes).ledger ≡ ledger (calls_in bytes)
unfolding record_hall ledger
record_ledger_held bytes = hall_after_ledger fresh_hall (calls_in bytes)

-- an accepted closing's excess is that of supply over demand at C; every other call leaves it
pub closing_excess : (h : HallLedger) → refusal h.ledger Close ≡ 0 → (after_call h Close).excess ≡ excess h.ledger
unfolding latest_excess granted
closing_excess h z = rw (answer_accepted h.ledger Close z)

pub other_excess : (h : HallLedger) (c : Call) → closes_round h.ledger c ≡ false → (after_call h c).excess ≡ h.excess
unfolding latest_excess closes_round answer
other_excess h (SetUp s) e = refl
other_excess h (Register n w x) e = refl
other_excess h (Open c) e = refl
other_excess h (By n m) e = refl
other_excess h Close e = rw e (rw e)

-- without an accepted closing it is 0
pub no_closing : (h : HallLedger) (cs : List Call) → closings_from h.ledger cs ≡ 0 → (hall_after h cs).excess ≡ h.excess
unfolding hall_after closings_from
no_closing h [] e = refl
no_closing h (c ∷ cs) e = go (closes_round h.ledger c) refl e (no_closing (after_call h c) cs)
  where
    next : ℕ
    next = closings_from (step h.ledger c) cs

    go :
        (b : Bool) → closes_round h.ledger c ≡ b → cond b (suc next) next ≡ 0 →
        (next ≡ 0 → (hall_after (after_call h c) cs).excess ≡ (after_call h c).excess) → (hall_after (after_call h c) cs).excess ≡ h.excess
    go true t z rest = absurd (omega arith)
    go false t z rest = rest z ∙ other_excess h c t

-- no more closings than calls
pub closings_few : (l : Ledger) (cs : List Call) → closings_from l cs ≤ length cs
unfolding closings_from
closings_few l [] = omega arith
closings_few l (c ∷ cs) = go (closes_round l c) (closings_few (step l c) cs)
  where
    go : (b : Bool) → closings_from (step l c) cs ≤ length cs → cond b (suc (closings_from (step l c) cs)) (closings_from (step l c) cs) ≤ suc (length cs)
    go true h = omega arith
    go false h = omega arith

-- those of calls, and then of others from where they lead
pub closings_append : (l : Ledger) (cs ds : List Call) → closings_from l (cs ++ ds) ≡ closings_from l cs + closings_from (step_all l cs) ds
unfolding closings_from step_all
closings_append l [] ds = omega arith
closings_append l (c ∷ cs) ds = go (closes_round l c) (closings_append (step l c) cs ds)
  where
    next : List Call → ℕ
    next xs = closings_from (step l c) xs

    last : ℕ
    last = closings_from (step_all (step l c) cs) ds

    go : (b : Bool) → next (cs ++ ds) ≡ next cs + last → cond b (suc (next (cs ++ ds))) (next (cs ++ ds)) ≡ cond b (suc (next cs)) (next cs) + last
    go true h = omega arith
    go false h = h

-- ---- it is that of the hall's ledger

hall_from_permitted : (h : HallLedger) (ms : List Seated) → hall_from h ms ≡ hall_after h (permitted (through_seats ms))
unfolding hall_from hall_step hall_after permitted through_seats
hall_from_permitted h [] = refl
hall_from_permitted h (m ∷ ms) = hall_from_permitted (hall_step h m) ms ∙ go (has_right m)
  where
    cs : List Call
    cs = permitted (through_seats ms)

    go : (b : Bool) → hall_after (cond b (after_call h m.call) h) cs ≡ hall_after h (cond b (m.call ∷ cs) cs)
    go true = refl
    go false = refl

pub hall_permitted : (ms : List Seated) → hall_ledger ms ≡ hall_after fresh_hall (permitted (through_seats ms))
unfolding hall_ledger
hall_permitted ms = hall_from_permitted fresh_hall ms

-- ---- the limit, any number of 64 bits

-- a limit above 65,536 means 65,536
pub settling_clamped : (l : Ledger) (limit room : ℕ) → settling_refusal l (min limit 65536) room ≡ settling_refusal l limit room
unfolding settling_refusal
settling_clamped l limit room = let e : min (min limit 65536) 65536 ≡ min limit 65536 = omega arith in rw e

-- ---- how many numbers

pub state_length : (bytes : List ℕ) → length (record_state bytes) ≡ 5
unfolding record_state state_figures
state_length bytes = refl

pub preview_length : (bytes : List ℕ) → length (record_preview bytes) ≡ 3
unfolding record_preview preview_figures
preview_length bytes = refl

pub settlement_length : (bytes : List ℕ) → length (record_settlement bytes) ≡ 12
unfolding record_settlement settlement_figures
settlement_length bytes = refl

-- at most 32 award records of 6 bytes each
records_few : (l : Ledger) (p k : ℕ) (vs : List ℕ) → length (records_from l p k vs) ≤ length vs
unfolding records_from
records_few l p k [] = omega arith
records_few l p k (v ∷ vs) = go (eqb v 0) (records_few l p (suc k) vs)
  where
    more : List (List ℕ)
    more = records_from l p (suc k) vs

    go : (b : Bool) → length more ≤ length vs → length (cond b more (record_of k (winner l p k v) v ∷ more)) ≤ suc (length vs)
    go true h = omega arith
    go false h = omega arith

pub awards_few : (cs : List Call) → is_closed (ledger cs).phase ≡ true → length (award_bytes (settlement (ledger cs))) ≤ 192
unfolding settlement settlement_at records
awards_few cs e =
    let l = ledger cs in
    let p = closing_price l in
    let n = award_length l p (sound cs) (closing_price_lem l (sound cs) (is_started l.phase e)).passes in
    omega (arith, flat_length 6 (settlement l).records (six l), records_few l p 1 (award l p), n)
  where
    is_started : (q : Phase) → is_closed q ≡ true → started q ≡ true
    is_started Fresh h = absurd (false≢true h)
    is_started Ready h = absurd (false≢true h)
    is_started Round h = refl
    is_started Between h = refl
    is_started Closed h = refl

-- three for each point
pub curve_length : (xs : List Point) → length (curve_figures xs) ≡ 3 * length xs
unfolding curve_figures flatten
curve_length [] = refl
curve_length (x ∷ xs) = omega (arith, curve_length xs)

-- at most 256 points, so 768 numbers are enough
pub curve_figures_few : (bytes : List ℕ) → length (record_curve bytes) ≤ 768
unfolding record_curve
curve_figures_few bytes =
    let l = ledger (calls_in bytes) in
    omega (arith, curve_length (supply_curve l), curve_few l (sound (calls_in bytes)))

step_length : (ss : List Step) → length (step_figures ss) ≡ 2 * length ss
unfolding flatten
step_length [] = refl
step_length (s ∷ ss) = omega (arith, step_length ss)

offer_few : (l : Ledger) (x : Developer) (o : Standing) → SoundOffer l x o → length (offer_figures o) ≤ 18
unfolding SoundOffer
offer_few l x none h = omega arith
offer_few l x (made ss) h = omega (arith, h.at_most_eight, step_length ss)

levels_few : (ls : List ℕ) → levels_ok ls ≡ true → length ls ≤ 8
unfolding levels_ok
levels_few ls e =
    let t : (leb 1 (length ls) && leb (length ls) 8 ≡ true) × (rising 0 ls ≡ true) = and_true _ _ e in
    leb-true (length ls) 8 (and_true (leb 1 (length ls)) _ t.0).1

own_few : (l : Ledger) → Sound l → (n : ℕ) → (length (l.developers n).declared.levels ≤ 8) × (length (offer_figures (l.developers n).offer) ≤ 18)
own_few l s n = ⊎_elim
    (λ (e : l.developers n ≡ nobody). rw e (omega arith))
    (λ (r : Registered l n). (levels_few _ r.developer.declared.levels, offer_few l (l.developers n) (l.developers n).offer r.offer))
    (s.each n)

-- at most 8 levels and 8 steps, so 31 numbers are enough for every seat
pub reading_few : (ms : List Seated) (s : Seat) → length (reading_figures s (reading (hall_ledger ms) s)) ≤ 31
unfolding reading reading_figures
reading_few ms Auctioneer = omega arith
reading_few ms Auditor = omega arith
reading_few ms (At n) =
    let l : Ledger = (hall_ledger ms).ledger in
    let x : Developer = l.developers n in
    let f = own_few l (subst Sound (sym (hall_is ms)) (sound (permitted (through_seats ms)))) n in
    omega (arith, f, length-append x.declared.levels (offer_figures x.offer))
