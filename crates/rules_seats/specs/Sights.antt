-- What a developer sees of the hall: the published values and its own entry in the ledger. Its own calls are answered by its sight alone, and each
-- accepted call makes of the sight what the event that it shows does.
use Rattle.std.specs.Prelude.{ℕ, ◌≡◌, Bool, ◌&&◌, List, [], ◌∷◌}
use Rattle.std.proofs.Math.Path.{refl, sym, ap, subst}
use Rattle.std.proofs.Common.{◌∙◌, true≢false, eqb-true}
use Rattle.std.proofs.Math.Bool.{true, false, cond, not}
use Rattle.std.proofs.lemmas.Bool.{false≢true}
use Rattle.std.proofs.Math.Dec.{eqb}
use Rattle.rules_auction.specs.Ledger.{Agency, Declaration, Move, Offer, Lodge, Cancel, Call, SetUp, Register, Open, By, Close, Developer, Ledger, start}
use Rattle.rules_auction.specs.Ledger.{with_developer}
use Rattle.rules_auction.specs.Refusals.{in_round, move_refusal, refusal}
use Rattle.rules_auction.specs.Rounds.{applied, accepted, step, Answered, bare_answer, granted, answer}
use Rattle.laws_ledger.specs.reachable.Checks.{set_up_passed, open_passed, close_passed}
use Rattle.laws_ledger.specs.reachable.Held.{is_fresh_lem, by_may_open}
use Rattle.laws_arrival.specs.cancelling.Entries.{apart, put_beside}
use Rattle.rules_seats.specs.Seats.{Seat, Auctioneer, Auditor, At, for_itself, may_make, HallLedger, Seated, hall_answer, latest_excess, hall_step, Published}
use Rattle.rules_seats.specs.Seats.{published, Reading, reading}
use Rattle.rules_numbers.specs.Cases.{and_true as both_true}
use Rattle.rules_seats.specs.Views.{Event, Asked, ForIt, Changed, own_seat, is_for, Moment, moves_clock}
use Rattle.rules_seats.specs.Changes.{taken}

pub record Sight : Type 0 where
  pub values : Published
  pub entry : Developer

abbrev pub sight : ℕ → HallLedger → Sight
sight n h = record { values = published h; entry = h.ledger.developers n }

abbrev pub reading_seen : Sight → Reading
reading_seen s = record { values = s.values; levels = s.entry.declared.levels; offer = s.entry.offer }

pub reads_sight : (n : ℕ) (h : HallLedger) → reading h (At n) ≡ reading_seen (sight n h)
unfolding reading
reads_sight n h = refl

-- ---- along the events of a view

-- a hall in which every developer has this sight
abbrev pub hall_seen : Sight → HallLedger
hall_seen s = record {
  ledger = record {
    phase = s.values.phase;
    settings = start.settings;
    opening = s.values.opening;
    closing = s.values.closing;
    developers = λ _. s.entry;
  };
  excess = s.values.excess;
}

-- a call through developer n's seat
abbrev pub through : ℕ → Call → Seated
through n c = record { seat = At n; call = c }

-- after a change of published values: in an open round it is a closing, in the other phases none
abbrev entry_after : Sight → Developer
entry_after s = cond (in_round s.values.phase) (applied s.values.closing s.values.opening s.entry) s.entry

unfoldable pub sight_after : ℕ → Sight → Event → Sight
sight_after n s (Asked c) = sight n (hall_step (hall_seen s) (through n c))
sight_after n s (ForIt c) = sight n (taken (hall_seen s) c)
sight_after n s (Changed p) = record { values = p; entry = entry_after s }

unfoldable pub sight_behind : ℕ → Sight → List Event → Sight
sight_behind n s [] = s
sight_behind n s (e ∷ es) = sight_behind n (sight_after n s e) es

unfoldable pub answers_seen : ℕ → Sight → Event → List Answered
answers_seen n s (Asked c) = hall_answer (hall_seen s) (through n c) ∷ []
answers_seen n s (ForIt c) = []
answers_seen n s (Changed p) = []

-- what it is told at an event, from its sight before it
abbrev pub moment_seen : ℕ → Sight → Event → Moment
moment_seen n s e = record { event = e; answers = answers_seen n s e; reads = reading_seen (sight_after n s e) }

unfoldable pub moments_seen : ℕ → Sight → List Event → List Moment
moments_seen n s [] = []
moments_seen n s (e ∷ es) = moment_seen n s e ∷ moments_seen n (sight_after n s e) es

-- ---- its own calls

pub record BySight (n : ℕ) (h : HallLedger) (c : Call) : Type 0 where
  pub answered : hall_answer h (through n c) ≡ hall_answer (hall_seen (sight n h)) (through n c)
  pub behind : sight n (hall_step h (through n c)) ≡ sight n (hall_step (hall_seen (sight n h)) (through n c))

-- the moves that a developer may make: an offer or a cancellation, for itself
pub own_move : (n k : ℕ) (m : Move) → may_make (At n) (By k m) ≡ true → (for_itself m ≡ true) × (eqb k n ≡ true)
unfolding may_make
own_move n k (Offer ps qs) e = (refl, e)
own_move n k (Lodge ps qs) e = absurd (false≢true e)
own_move n k Cancel e = (refl, e)

module _ (n : ℕ) (h : HallLedger) where
  abbrev seen : HallLedger
  seen = hall_seen (sight n h)

  barred_by_sight : (c : Call) → may_make (At n) c ≡ false → BySight n h c
  unfolding hall_answer hall_step
  barred_by_sight c e = record { answered = rw e refl; behind = rw e refl }

  module _ (m : Move) where
    -- after the move: it may have the right (r) and pass the checks (t)
    after : (r t : Bool) → HallLedger → HallLedger
    after r t g = cond r (record { ledger = cond t (accepted g.ledger (By n m)) g.ledger; excess = g.excess }) g

    same_after : (r t : Bool) → sight n (after r t h) ≡ sight n (after r t seen)
    unfolding after accepted
    same_after true true = refl
    same_after true false = refl
    same_after false t = refl

    move_by_sight : refusal h.ledger (By n m) ≡ refusal seen.ledger (By n m) → BySight n h (By n m)
    unfolding after hall_answer hall_step latest_excess step answer granted
    move_by_sight e =
        let r = may_make (At n) (By n m) in
        record {
          answered = ap (λ (k : ℕ). cond r (cond (eqb k 0) (bare_answer 0) (bare_answer k)) (bare_answer 20)) e;
          behind = same_after r (eqb (refusal h.ledger (By n m)) 0) ∙ ap (λ (k : ℕ). sight n (after r (eqb k 0) seen)) e;
        }

  -- the checks of an offer and of a cancellation read no more than is seen
  pub by_sight : (c : Call) → BySight n h c
  unfolding may_make refusal move_refusal
  by_sight c = go (may_make (At n) c) refl
    where
      of_own : (k : ℕ) (m : Move) → refusal h.ledger (By n m) ≡ refusal seen.ledger (By n m) → eqb k n ≡ true → BySight n h (By k m)
      of_own k m e g = subst (λ (j : ℕ). BySight n h (By j m)) (sym (eqb-true k n g)) (move_by_sight m e)

      by_move : (m : Move) → for_itself m ≡ true → refusal h.ledger (By n m) ≡ refusal seen.ledger (By n m)
      by_move (Offer ps qs) e = refl
      by_move (Lodge ps qs) e = absurd (false≢true e)
      by_move Cancel e = refl

      permitted : (d : Call) → may_make (At n) d ≡ true → BySight n h d
      permitted (SetUp s) e = absurd (false≢true e)
      permitted (Register k w x) e = absurd (false≢true e)
      permitted (Open p) e = absurd (false≢true e)
      permitted (By k m) e = let t = own_move n k m e in of_own k m (by_move m t.0) t.1
      permitted Close e = absurd (false≢true e)

      go : (b : Bool) → may_make (At n) c ≡ b → BySight n h c
      go true e = permitted c e
      go false e = barred_by_sight c e

-- ---- accepted calls through other seats

module _ (n : ℕ) (h : HallLedger) where
  abbrev l : Ledger
  l = h.ledger

  pub by_clock : (c : Call) → moves_clock c ≡ true → refusal l c ≡ 0 → sight n (taken h c) ≡ sight_after n (sight n h) (Changed (published (taken h c)))
  unfolding moves_clock sight_after accepted
  by_clock (SetUp s) e z = rw (ap in_round (is_fresh_lem l.phase (set_up_passed l s z).phase)) refl
  by_clock (Register k w x) e z = absurd (false≢true e)
  by_clock (Open p) e z = rw (by_may_open (λ q. in_round q ≡ false) refl refl l.phase (open_passed l p z).phase) refl
  by_clock (By k m) e z = absurd (false≢true e)
  by_clock Close e z = rw (close_passed l z).phase refl

  pub by_call_for : (c : Call) → is_for n c ≡ true → sight n (taken h c) ≡ sight_after n (sight n h) (ForIt c)
  unfolding is_for sight_after accepted latest_excess
  by_call_for (SetUp s) e = absurd (false≢true e)
  by_call_for (Register k w x) e = refl
  by_call_for (Open p) e = absurd (false≢true e)
  by_call_for (By k m) e = rw (eqb-true k n (both_true (not (for_itself m)) (eqb k n) e).1) refl
  by_call_for Close e = absurd (false≢true e)

  beside : (k : ℕ) (x : Developer) → eqb k n ≡ false → sight n (record { ledger = with_developer l k x; excess = h.excess }) ≡ sight n h
  beside k x e = ap (λ (y : Developer). record { values = published h; entry = y }) (put_beside k n x l.developers (apart k n e))

  -- who cancels, as who offers, does it for itself
  for_another : (s : Seat) (k : ℕ) (m : Move) → for_itself m ≡ true → may_make s (By k m) ≡ true → own_seat n s ≡ false → eqb k n ≡ false
  unfolding may_make own_seat
  for_another Auctioneer k m t r o = absurd (false≢true (sym (ap (λ (b : Bool). cond b false true) t) ∙ r))
  for_another Auditor k m t r o = absurd (false≢true (sym (ap (λ (b : Bool). cond b false false) t) ∙ r))
  for_another (At j) k m t r o = ap (λ (i : ℕ). eqb i n) (eqb-true k j (own_move j k m r).1) ∙ o

  registers_another : (k : ℕ) (w : Agency) (x : Declaration) → is_for n (Register k w x) ≡ false → eqb k n ≡ false
  unfolding is_for
  registers_another k w x f = f

  pub by_others :
      (s : Seat) (c : Call) → may_make s c ≡ true → own_seat n s ≡ false → is_for n c ≡ false → moves_clock c ≡ false →
      sight n (taken h c) ≡ sight n h
  unfolding is_for moves_clock accepted latest_excess
  by_others s (SetUp x) r o f e = absurd (true≢false e)
  by_others s (Register k w x) r o f e = beside k _ (registers_another k w x f)
  by_others s (Open p) r o f e = absurd (true≢false e)
  by_others s (By k m) r o f e = beside k _ (go (for_itself m) refl)
    where
      go : (b : Bool) → for_itself m ≡ b → eqb k n ≡ false
      go true t = for_another s k m t r o
      go false t = sym (ap (λ (c : Bool). not c && eqb k n) t) ∙ f
  by_others s Close r o f e = absurd (true≢false e)
