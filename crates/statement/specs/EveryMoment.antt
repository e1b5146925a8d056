-- WHAT A DEVELOPER CAN LEARN, AT EVERY MOMENT (document 02, 14), from the engine's own readings and answers. A run through seats passes a hall behind
-- each part of it from its start (`Passes`, in Moments). Of two runs that give developer n equal views, each moment of the one has a moment of the
-- other with an equal view so far; and at any two moments with equal views so far n's readings are equal, and so are the answers to its own calls.
use Rattle.std.specs.Prelude.{ℕ, ◌≡◌}
use Rattle.std.proofs.Math.Path.{refl, sym, ap}
use Rattle.std.proofs.Common.{ap₂, ◌∙◌, ⊎_elim}
use mathlib.Core.List.Memᴰ
use mathlib.Core.List.{List, [], ◌∷◌, ◌++◌, map, append_assoc, append-nil, Memᴰ}
use Rattle.rules_auction.specs.Ledger.{Call, Ledger}
use Rattle.rules_auction.specs.Rounds.{Answered}
use Rattle.rules_seats.specs.Seats as seats
use Rattle.rules_seats.specs.Seats.{At, HallLedger, fresh_hall, Seated, hall_answer, hall_step, hall_from, hall_ledger, reading, permitted, through_seats}
use Rattle.rules_seats.specs.SeatLaws.{hall_is, hall_ledger_snoc}
use Rattle.rules_seats.specs.Views.{Event, shown, view, Moment, answers_at, moment_of, moments, told_from, told, own_answers}
use Rattle.rules_seats.specs.ViewLaws.{by_view_alone}
use Rattle.rules_seats.specs.ToldLaws.{same_answers}
use Rattle.engine_auction.specs.Holds.{held_auction}
use Rattle.seats.specs.Rights.{seat_in}
use Rattle.seats.specs.declared.Seat.{Seat}
use Rattle.seats.specs.declared.Seat.TheVariants.{Developer}
use Rattle.hall.specs.seat_readings.Shown.{shown_reading}
use Rattle.hall.specs.declared.seat_readings.Reading.{Reading}
use Rattle.hall.specs.ThroughLaws.{held_through}
use Rattle.hall.specs.declared.Hall.{Hall}
use Rattle.hall.proofs.hall_readings.read.Reads as reads_at
use Rattle.statement.specs.HallRuns.{MadeThrough, by_hall_contract, HallRun, followed, hall_reached}
use Rattle.statement.specs.Moments.{Passes, Passed, part_run, whole_run, begins, part, equal_parts}

-- r is what the seat s reads in the hall h, as the method's own contract has it
abbrev pub ReadsAt : Hall → Seat → Reading → Type 0
ReadsAt h s r = reads_at.Post tt (h, (s, tt)) r (h, (s, tt))

-- a moment of the run of ns, answered rs, that leads to h, at which developer n has the view of the calls ms
pub record MomentWith (n : ℕ) (ms ns : List Seated) (rs : List Answered) (h : Hall) : Type 0 where
  pub calls : List Seated
  pub answers : List Answered
  pub hall : Hall
  pub passes : Passes calls answers hall ns rs h
  pub seen : view n ms ≡ view n calls

pub record EveryMoment : Type 1 where
  -- a part of a run from its start is a run, its answers are those with which the run begins, and the run passes its hall
  pub parts : (ms ks : List Seated) {rs : List Answered} {h : Hall} → HallRun (ms ++ ks) rs h → Passed ms (ms ++ ks) rs h
  pub part_runs : {ms ns : List Seated} {qs rs : List Answered} {k h : Hall} → Passes ms qs k ns rs h → HallRun ms qs k × HallRun ns rs h
  pub part_begins :
      {ms ns : List Seated} {qs rs : List Answered} {k h : Hall} → Passes ms qs k ns rs h →
      ((ks : List Seated) × (ns ≡ ms ++ ks)) × ((zs : List Answered) × (rs ≡ qs ++ zs))
  -- at any two moments with equal views so far, of one run or of two
  pub learns :
      (n : ℕ) {ms ns ms' ns' : List Seated} {qs rs qs' rs' : List Answered} {k h k' h' : Hall} (r r' : Reading) → view n ms ≡ view n ms' →
      Passes ms qs k ns rs h → Passes ms' qs' k' ns' rs' h' → ReadsAt k (Developer n) r → ReadsAt k' (Developer n) r' →
      (r ≡ r') × (own_answers n ms qs ≡ own_answers n ms' qs')
  -- where the views of two runs are equal, no moment of the one is without such a moment of the other
  pub met_again :
      (n : ℕ) {ms ns ns' : List Seated} {qs rs rs' : List Answered} {k h h' : Hall} → view n ns ≡ view n ns' →
      Passes ms qs k ns rs h → HallRun ns' rs' h' → MomentWith n ms ns' rs' h'
  -- a call adds to what developer n is told (`told`, in the definitions) a moment for each event that it shows n, and the moment holds what the
  -- engine answers, if the call is n's own, and what n reads in the hall behind it
  pub adds : (n : ℕ) (ms : List Seated) (m : Seated) → told n (ms ++ (m ∷ [])) ≡ told n ms ++ moments n (hall_ledger ms) m
  pub as_told :
      (n : ℕ) {ms : List Seated} {rs : List Answered} {s : Seat} {c : Call} {a : Answered} {h k : Hall} (r : Reading) (p : Moment) →
      HallRun ms rs h → MadeThrough s c h a k → ReadsAt k (Developer n) r →
      Memᴰ p (moments n (hall_ledger ms) (record { seat = seat_in s; call = c })) →
      (r ≡ shown_reading p.reads) × (answers_at p.event a ≡ p.answers)

-- ---- behind a run

module _ {ms : List Seated} {rs : List Answered} {h : Hall} (s : Seat) (r : Reading) (w : HallRun ms rs h) (q : ReadsAt h s r) where
  pub read_in : r ≡ shown_reading (reading (hall_ledger ms) (seat_in s))
  read_in =
      let e = (hall_reached w).0 in
      q.reading_is (permitted (through_seats ms)) (ap (λ (y : Hall). y.auction) e ∙ ap held_auction (hall_is ms))
      ∙ ap (λ (x : HallLedger). shown_reading (reading x (seat_in s)))
      (ap₂ (λ (l : Ledger) (y : Hall). record { ledger = l; excess = y.excess }) (sym (hall_is ms)) e)

pub told_alike :
    (n : ℕ) {ms ms' : List Seated} {rs rs' : List Answered} {h h' : Hall} (r r' : Reading) → view n ms ≡ view n ms' →
    HallRun ms rs h → HallRun ms' rs' h' → ReadsAt h (Developer n) r → ReadsAt h' (Developer n) r' →
    (r ≡ r') × (own_answers n ms rs ≡ own_answers n ms' rs')
told_alike n {ms} {ms'} r r' e w w' q q' =
    let k = by_view_alone n ms ms' e in (
      read_in (Developer n) r w q ∙ ap shown_reading k.behind ∙ sym (read_in (Developer n) r' w' q'),
      ap (own_answers n ms) (hall_reached w).1 ∙ same_answers n ms ms' k.moments ∙ sym (ap (own_answers n ms') (hall_reached w').1),
    )

-- ---- at every moment

met_again :
    (n : ℕ) {ms ns ns' : List Seated} {qs rs rs' : List Answered} {k h h' : Hall} → view n ns ≡ view n ns' →
    Passes ms qs k ns rs h → HallRun ns' rs' h' → MomentWith n ms ns' rs' h'
met_again n {ms} {ns} {ns'} e p w =
    let b = (begins p).0 in
    let c = equal_parts n ms b.0 ns' (sym (ap (view n) b.1) ∙ e) in
    let m = part w c.0 c.1 c.2 in
    record { calls = c.0; answers = m.0; hall = m.1; passes = m.2; seen = sym c.3 }

-- ---- what it is told

module _ (n : ℕ) where
  told_append : (h : HallLedger) (ms ks : List Seated) → told_from n h (ms ++ ks) ≡ told_from n h ms ++ told_from n (hall_from h ms) ks
  unfolding told_from hall_from
  told_append h [] ks = refl
  told_append h (m ∷ ms) ks =
      ap (λ (ps : List Moment). moments n h m ++ ps) (told_append (hall_step h m) ms ks)
      ∙ sym (append_assoc (moments n h m) (told_from n (hall_step h m) ms) (told_from n (hall_from (hall_step h m) ms) ks))

  told_snoc : (ms : List Seated) (m : Seated) → told n (ms ++ (m ∷ [])) ≡ told n ms ++ moments n (hall_ledger ms) m
  unfolding told told_from hall_ledger
  told_snoc ms m =
      told_append fresh_hall ms (m ∷ [])
      ∙ ap (λ (ps : List Moment). told_from n fresh_hall ms ++ ps) (append-nil (moments n (hall_from fresh_hall ms) m))

in_moments : (a : Answered) (x : seats.Reading) (p : Moment) (es : List Event) → Memᴰ p (map (moment_of a x) es) → p ≡ moment_of a x p.event
in_moments a x p [] i = absurd (Memᴰ.not-nil i)
in_moments a x p (e ∷ es) i = ⊎_elim
    (λ (z : p ≡ moment_of a x e). z ∙ ap (moment_of a x) (sym (ap (λ (q : Moment). q.event) z)))
    (λ (j : Memᴰ p (map (moment_of a x) es)). in_moments a x p es j)
    (Memᴰ.cases_cons i)

as_told :
    (n : ℕ) {ms : List Seated} {rs : List Answered} {s : Seat} {c : Call} {a : Answered} {h k : Hall} (r : Reading) (p : Moment) →
    HallRun ms rs h → MadeThrough s c h a k → ReadsAt k (Developer n) r →
    Memᴰ p (moments n (hall_ledger ms) (record { seat = seat_in s; call = c })) →
    (r ≡ shown_reading p.reads) × (answers_at p.event a ≡ p.answers)
unfolding moments
as_told n {ms} {rs} {s} {c} {a} {h} {k} r p w m q i =
    let x = hall_ledger ms in
    let o : Seated = record { seat = seat_in s; call = c } in
    let g = held_through x o h k a (permitted (through_seats ms)) (hall_is ms) (hall_reached w).0 (by_hall_contract m) in
    let e : p ≡ moment_of (hall_answer x o) (reading (hall_step x o) (At n)) p.event = in_moments _ _ p (shown n x o) i in (
      read_in (Developer n) r (followed w m) q
          ∙ ap (λ (y : HallLedger). shown_reading (reading y (At n))) (hall_ledger_snoc ms o)
          ∙ sym (ap (λ (y : Moment). shown_reading y.reads) e),
      ap (answers_at p.event) g.1 ∙ sym (ap (λ (y : Moment). y.answers) e),
    )

pub every_moment : EveryMoment
every_moment = record {
  parts = λ ms ks w. part w ms ks refl;
  part_runs = λ p. (part_run p, whole_run p);
  part_begins = λ p. begins p;
  learns = λ n r r' e p p' q q'. told_alike n r r' e (part_run p) (part_run p') q q';
  met_again = met_again;
  adds = told_snoc;
  as_told = as_told;
}
