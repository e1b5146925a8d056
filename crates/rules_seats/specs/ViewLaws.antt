-- What a developer can learn: each call in the hall shows it at most one event, and the event makes of its sight what the call does. So its view
-- alone says what it is told and what it reads.
use Rattle.std.specs.Prelude.{ℕ, ◌≡◌, Bool, cond, ◌&&◌}
use Rattle.std.proofs.Math.Path.{refl, sym, ap, ap₂}
use Rattle.std.proofs.Common.{subst, ◌∙◌, eqb-true, eq-eqb}
use Rattle.std.proofs.Math.Logic.{⊎_elim}
use Rattle.std.proofs.Math.Bool.{true, false, and-true, and-false}
use Rattle.std.proofs.lemmas.Bool.{false≢true}
use mathlib.Core.List.{List, [], ◌∷◌, ◌++◌}
use Rattle.rules_auction.specs.Ledger.{Call, SetUp, Register, Open, By, Close}
use Rattle.rules_auction.specs.Rounds.{Answered}
use Rattle.rules_seats.specs.Seats.{Seat, Auctioneer, Auditor, At, may_make, HallLedger, fresh_hall, Seated, hall_answer, hall_step, hall_from, hall_ledger}
use Rattle.rules_seats.specs.Seats.{published, reading}
use Rattle.rules_seats.specs.SeatLaws.{hall_ledger_snoc}
use Rattle.rules_seats.specs.Views.{Event, Asked, ForIt, Changed, own_seat, is_for, asked_by, made_for, shown, view_from, view, Moment, answers_at, moments}
use Rattle.rules_seats.specs.Views.{told_from, told, ByViewAlone, StillBetween, moves_clock, OthersUnseen}
use Rattle.rules_seats.specs.Changes.{is_accepted, CallRefused, CallAccepted, outcome}
pub use Rattle.rules_seats.specs.Changes.{clock_alone}
use Rattle.rules_seats.specs.Sights.{Sight, sight, reading_seen, reads_sight, through, sight_after, sight_behind, answers_seen, moment_seen, moments_seen}
use Rattle.rules_seats.specs.Sights.{own_move, by_sight, by_clock, by_call_for, by_others}

-- ---- what a call shows

module _ (n : ℕ) (h : HallLedger) (m : Seated) where
  abbrev c : Call
  c = m.call

  abbrev next : HallLedger
  next = hall_step h m

  -- of a call that may be accepted (t), made for it (f), move the clock (k)
  others_events : Bool → Bool → Bool → List Event
  others_events t f k = cond t (cond f (ForIt c ∷ []) [] ++ cond k (Changed (published next) ∷ []) []) []

  accepted_first : (t f k : Bool) → cond (f && t) (ForIt c ∷ []) [] ++ cond (k && t) (Changed (published next) ∷ []) [] ≡ others_events t f k
  unfolding others_events
  accepted_first true f k = rw (and-true f, and-true k) refl
  accepted_first false f k = rw (and-false f, and-false k) refl

  shown_is : shown n h m ≡ asked_by n m ++ others_events (is_accepted h m) (is_for n c) (moves_clock c)
  unfolding shown made_for
  shown_is = rw (clock_alone h m) (ap (λ (es : List Event). asked_by n m ++ es) (accepted_first (is_accepted h m) (is_for n c) (moves_clock c)))

pub others_unseen : OthersUnseen
unfolding asked_by others_events
others_unseen n h m o f k = shown_is n h m ∙ rw (o, f, k) (go (is_accepted h m))
  where
    go : (t : Bool) → others_events n h m t false false ≡ []
    go true = refl
    go false = refl

-- ---- the view follows each call

-- the call's moments, and the sight behind it, are those of the events that it shows
pub record Followed (n : ℕ) (h : HallLedger) (m : Seated) : Type 0 where
  pub told : moments n h m ≡ moments_seen n (sight n h) (shown n h m)
  pub behind : sight n (hall_step h m) ≡ sight_behind n (sight n h) (shown n h m)

module _ (n : ℕ) (h : HallLedger) (m : Seated) where
  unseen_followed : shown n h m ≡ [] → sight n (hall_step h m) ≡ sight n h → Followed n h m
  unfolding moments moments_seen sight_behind
  unseen_followed e s = record { told = rw e refl; behind = rw e s }

  event_followed :
      (e : Event) → shown n h m ≡ e ∷ [] → answers_at e (hall_answer h m) ≡ answers_seen n (sight n h) e → sight n (hall_step h m) ≡ sight_after n (sight n h) e →
      Followed n h m
  unfolding moments moments_seen sight_behind reading
  event_followed e g a s = record {
    told = rw g (ap₂ (λ (rs : List Answered) (x : Sight). record { event = e; answers = rs; reads = reading_seen x } ∷ []) a s);
    behind = rw g s;
  }

-- through its own seat: an accepted one is an offer or a cancellation
plain : (n : ℕ) (c : Call) → may_make (At n) c ≡ true → (is_for n c ≡ false) × (moves_clock c ≡ false)
unfolding may_make is_for moves_clock
plain n (SetUp s) e = absurd (false≢true e)
plain n (Register k w x) e = absurd (false≢true e)
plain n (Open p) e = absurd (false≢true e)
plain n (By k m) e = (rw (own_move n k m e).0 refl, refl)
plain n Close e = absurd (false≢true e)

module _ (n : ℕ) (h : HallLedger) (c : Call) where
  own_shown : shown n h (through n c) ≡ Asked c ∷ []
  unfolding asked_by own_seat others_events
  own_shown = shown_is n h (through n c) ∙ rw (eq-eqb n n refl) (ap (λ (es : List Event). Asked c ∷ es) no_more)
    where
      no_more : others_events n h (through n c) (is_accepted h (through n c)) (is_for n c) (moves_clock c) ≡ []
      no_more = ⊎_elim
          (λ (r : CallRefused h (through n c)). rw r.not_accepted refl)
          (λ (a : CallAccepted h (through n c)).
          let p = plain n c a.allowed in
          rw (a.is_accepted_lem, p.0, p.1) refl)
          (outcome h (through n c))

  own_followed : Followed n h (through n c)
  unfolding answers_at answers_seen sight_after
  own_followed =
      let b = by_sight n h c in
      event_followed n h (through n c) (Asked c) own_shown (ap (λ (r : Answered). r ∷ []) b.answered) b.behind

-- through other seats
pub for_not_clock : (n : ℕ) (c : Call) → is_for n c ≡ true → moves_clock c ≡ false
unfolding is_for moves_clock
for_not_clock n (SetUp s) e = absurd (false≢true e)
for_not_clock n (Register k w x) e = refl
for_not_clock n (Open p) e = absurd (false≢true e)
for_not_clock n (By k m) e = refl
for_not_clock n Close e = absurd (false≢true e)

module _ (n : ℕ) (h : HallLedger) (m : Seated) (o : own_seat n m.seat ≡ false) where
  accepted_followed : CallAccepted h m → (f k : Bool) → is_for n m.call ≡ f → moves_clock m.call ≡ k → Followed n h m
  unfolding asked_by others_events answers_at answers_seen
  accepted_followed a true k f e =
      event_followed n h m (ForIt m.call) (shown_is n h m ∙ rw (o, a.is_accepted_lem, f, for_not_clock n m.call f) refl) refl
      (ap (sight n) a.next ∙ by_call_for n h m.call f)
  accepted_followed a false true f e =
      event_followed n h m (Changed (published (hall_step h m))) (shown_is n h m ∙ rw (o, a.is_accepted_lem, f, e) refl) refl
      (rw a.next (by_clock n h m.call e a.passes))
  accepted_followed a false false f e =
      unseen_followed n h m (others_unseen n h m o f e) (ap (sight n) a.next ∙ by_others n h m.seat m.call a.allowed o f e)

  others_followed : Followed n h m
  unfolding asked_by others_events
  others_followed = ⊎_elim
      (λ (r : CallRefused h m). unseen_followed n h m (shown_is n h m ∙ rw (o, r.not_accepted) refl) (ap (sight n) r.stays))
      (λ (a : CallAccepted h m). accepted_followed a (is_for n m.call) (moves_clock m.call) refl refl)
      (outcome h m)

own_seat_lem : (n : ℕ) (s : Seat) → own_seat n s ≡ true → s ≡ At n
unfolding own_seat
own_seat_lem n Auctioneer e = absurd (false≢true e)
own_seat_lem n Auditor e = absurd (false≢true e)
own_seat_lem n (At k) e = ap At (eqb-true k n e)

pub followed : (n : ℕ) (h : HallLedger) (m : Seated) → Followed n h m
followed n h m = go (own_seat n m.seat) refl
  where
    go : (b : Bool) → own_seat n m.seat ≡ b → Followed n h m
    go true e = subst (λ (s : Seat). Followed n h (record { seat = s; call = m.call })) (sym (own_seat_lem n m.seat e)) (own_followed n h m.call)
    go false e = others_followed n h m e

-- ---- along a run

module _ (n : ℕ) where
  moments_append : (s : Sight) (es fs : List Event) → moments_seen n s (es ++ fs) ≡ moments_seen n s es ++ moments_seen n (sight_behind n s es) fs
  unfolding moments_seen sight_behind
  moments_append s [] fs = refl
  moments_append s (e ∷ es) fs = ap (λ (ps : List Moment). moment_seen n s e ∷ ps) (moments_append (sight_after n s e) es fs)

  behind_append : (s : Sight) (es fs : List Event) → sight_behind n s (es ++ fs) ≡ sight_behind n (sight_behind n s es) fs
  unfolding sight_behind
  behind_append s [] fs = refl
  behind_append s (e ∷ es) fs = behind_append (sight_after n s e) es fs

  told_by_view : (h : HallLedger) (ms : List Seated) → told_from n h ms ≡ moments_seen n (sight n h) (view_from n h ms)
  unfolding told_from view_from moments_seen
  told_by_view h [] = refl
  told_by_view h (m ∷ ms) =
      let f = followed n h m in
      ap₂ (λ (ps qs : List Moment). ps ++ qs) f.told
      (told_by_view (hall_step h m) ms ∙ ap (λ (s : Sight). moments_seen n s (view_from n (hall_step h m) ms)) f.behind)
      ∙ sym (moments_append (sight n h) (shown n h m) (view_from n (hall_step h m) ms))

  sight_by_view : (h : HallLedger) (ms : List Seated) → sight n (hall_from h ms) ≡ sight_behind n (sight n h) (view_from n h ms)
  unfolding hall_from view_from sight_behind
  sight_by_view h [] = refl
  sight_by_view h (m ∷ ms) =
      sight_by_view (hall_step h m) ms
      ∙ ap (λ (s : Sight). sight_behind n s (view_from n (hall_step h m) ms)) (followed n h m).behind
      ∙ sym (behind_append (sight n h) (shown n h m) (view_from n (hall_step h m) ms))

-- ---- what a developer can learn

pub by_view_alone : ByViewAlone
unfolding told view hall_ledger
by_view_alone n ms ms' e =
    let first = sight n fresh_hall in
    record {
      moments = told_by_view n fresh_hall ms ∙ ap (moments_seen n first) e ∙ sym (told_by_view n fresh_hall ms');
      behind =
          reads_sight n _
          ∙ ap reading_seen (sight_by_view n fresh_hall ms ∙ ap (sight_behind n first) e ∙ sym (sight_by_view n fresh_hall ms'))
          ∙ sym (reads_sight n _);
    }

pub still_between : StillBetween
unfolding sight_behind
still_between n ms m e =
    let h = hall_ledger ms in
    ap (λ (g : HallLedger). reading g (At n)) (hall_ledger_snoc ms m)
    ∙ reads_sight n (hall_step h m)
    ∙ ap reading_seen ((followed n h m).behind ∙ ap (sight_behind n (sight n h)) e)
    ∙ sym (reads_sight n h)
