-- From the decision of a frame's call to the reply and the auction behind it.
use Rattle.std.specs.Prelude.{ℕ, ◌≡◌, refl, Bool, true, false, cond, ◌||◌, List, [], eqb}
use Rattle.std.proofs.Common.{sym, ap, ◌∙◌, subst, append-nil, arith, ne_eqb, eqb-true}
use Rattle.std.proofs.lemmas.Bool.{false≢true, eqb-false}
use Rattle.rules_format.specs.Fields.{raw_call}
use Rattle.rules_auction.specs.Ledger.{Call, By, Close, Ledger}
use Rattle.rules_auction.specs.Refusals.{in_round, is_closed, refusal}
use Rattle.rules_auction.specs.Settling.{settling_refusal}
use Rattle.rules_auction.specs.Rounds.{ledger, Answered, answer, bare_answer}
use Rattle.laws_ledger.specs.reachable.Steps.{ledger_snoc, step_refused, answer_refused, answer_accepted, granted_number}
use Rattle.laws_ledger.specs.reachable.Reachable.{sound}
use Rattle.rules_replies.specs.Orders.{Order, Malformed, Asks, Settle, order_of, ordered}
use Rattle.rules_replies.specs.Replies.{call_kind, closing_text, answer_line, reply_to}
use Rattle.frame_reading.specs.frames.Decoded.{raw_call_in, call_in, call_none, call_some}
use Rattle.frame_reading.specs.declared.frames.Frame.{Frame}
use Rattle.frame_reading.specs.arguments.FrameFields.{fields_in, Framed, Reads}
use Rattle.engine_held.specs.supply.ByProject.{place_of}
use Rattle.engine_held.specs.declared.history.History.{History}
use Rattle.engine_checks.specs.clock.Reading.{phase_in}
use Rattle.engine_moves.specs.moves.Entries.{Entry, seat, Held, MovedTo}
use Rattle.engine_auction.specs.Called.{Called}
use Rattle.engine_auction.specs.Holds.{held_auction}
use Rattle.engine_auction.specs.PhaseHeld.{phase_is}
use Rattle.engine_auction.specs.Storing.{entry_at, with_history_at, entry_held, move_stored}
use Rattle.engine_auction.specs.declared.Auction.{Auction}
use Rattle.record_lines.specs.line_calls.Decisions.{is_move, is_registration, is_clock, Asked, developer_of, DecidesMove, Takes}

-- a frame of this kind that a line reads as
pub framed : (k : ℕ) (f : Frame) → Reads f → (k ≡ 0 → ⊥) → f.kind ≡ k → Framed k f
framed k f r z e = record { kind = e; formed = r (raw_call_in f) (call_some f (λ y. z (sym e ∙ y))) }

-- the order of a frame by its kind
pub ordered_as : (f : Frame) (k : ℕ) (o : Order) → (k ≡ 0 → ⊥) → f.kind ≡ k → order_of (raw_call k (fields_in f)) ≡ o → ordered (call_in f) ≡ o
unfolding ordered fields_in
ordered_as f k o z e w =
    let q : order_of (raw_call_in f) ≡ o = rw (sym e) at w in
    rw (call_some f (λ y. z (sym e ∙ y))) q

or_false : (x y : Bool) → x || y ≡ false → (x ≡ false) × (y ≡ false)
or_false true y e = absurd (false≢true (sym e))
or_false false y e = (refl, e)

-- a kind that asks nothing
pub none_asked : (f : Frame) → is_move f.kind ≡ false → is_registration f.kind ≡ false → is_clock f.kind ≡ false → (f.kind ≡ 5 → ⊥) →
    (f.kind ≡ 6 → ⊥) → ordered (call_in f) ≡ Malformed
unfolding ordered order_of
none_asked f em er ec e5 e6 = go (eqb f.kind 0) refl
  where
    k : ℕ
    k = f.kind

    moves : (eqb k 4 ≡ false) × (eqb k 9 || eqb k 7 ≡ false)
    moves = or_false (eqb k 4) (eqb k 9 || eqb k 7) em

    others : (eqb k 9 ≡ false) × (eqb k 7 ≡ false)
    others = or_false (eqb k 9) (eqb k 7) moves.1

    registrations : (eqb k 2 ≡ false) × (eqb k 8 ≡ false)
    registrations = or_false (eqb k 2) (eqb k 8) er

    clocks : (eqb k 3 ≡ false) × (eqb k 1 ≡ false)
    clocks = or_false (eqb k 3) (eqb k 1) ec

    nothing : order_of (raw_call_in f) ≡ Malformed
    nothing =
        rw (clocks.1, registrations.0, clocks.0, moves.0, ne_eqb k 5 e5, ne_eqb k 6 e6, others.1, registrations.1, others.0)

    go : (b : Bool) → eqb f.kind 0 ≡ b → ordered (call_in f) ≡ Malformed
    go true z = ap ordered (call_none f (eqb-true f.kind 0 z))
    go false z = ap ordered (call_some f (eqb-false f.kind 0 z)) ∙ nothing

-- ---- calls that answer with a number alone

-- the number that a call answers
pub answer_number : (l : Ledger) (c : Call) → (answer l c).number ≡ refusal l c
answer_number l c = go (eqb (refusal l c) 0) refl
  where
    go : (b : Bool) → eqb (refusal l c) 0 ≡ b → (answer l c).number ≡ refusal l c
    go true e = let z = eqb-true (refusal l c) 0 e in ap (λ (r : Answered). r.number) (answer_accepted l c z) ∙ granted_number l c ∙ sym z
    go false e = ap (λ (r : Answered). r.number) (answer_refused l c (eqb-false (refusal l c) 0 e))

plain_answer : (f : Frame) (l : Ledger) (c : Call) (n : ℕ) → Asked f c → n ≡ (answer l c).number → answer_line f.kind n [] ≡ reply_to l (Asks c)
unfolding reply_to
plain_answer f l c n w en =
    rw (sym w.kind, en)
    (ap (λ (b : Bool). answer_line (call_kind c) (answer l c).number (cond b (closing_text (answer l c)) []))
    (sym (ne_eqb (call_kind c) 5 (λ e. w.bare (sym w.kind ∙ e)))))

pub takes_call : (f : Frame) (c : Call) (a b : Auction) (n : ℕ) → Asked f c → Called c a b (bare_answer n) →
    Takes a (ordered (call_in f)) b (answer_line f.kind n [])
takes_call f c a b n w s = rw w.order record {
  text = λ cs h. plain_answer f (ledger cs) c n w (ap (λ (r : Answered). r.number) (s.answer cs h));
  next = λ cs h. s.next cs h;
}

-- a move, its history stored at its developer's place, refused or not
module _ (f : Frame) (a : Auction) (i k : ℕ) (r : History) (ei : i ≡ place_of (developer_of f)) {y : Entry} (ey : y ≡ entry_at a i)
    (w : DecidesMove f (Held a.clock y) k r) where
  abbrev n : ℕ
  n = developer_of f

  moved_to : (cs : List Call) → a ≡ held_auction (ledger cs) → MovedTo (ledger cs) n w.move k r
  moved_to cs h = w.moves.moves_as_ruled (ledger cs) (sound cs)
      (subst (λ (x : Entry). Held a.clock x (ledger cs) ((ledger cs).developers (seat n))) (sym ey) (entry_held a (ledger cs) n i h ei))

  answers : (cs : List Call) → a ≡ held_auction (ledger cs) → answer_line f.kind k [] ≡ reply_to (ledger cs) (Asks (By n w.move))
  answers cs h = plain_answer f (ledger cs) (By n w.move) k w.asked ((moved_to cs h).number ∙ sym (answer_number (ledger cs) (By n w.move)))

  pub takes_move : Takes a (ordered (call_in f)) (with_history_at a i r) (answer_line f.kind k [])
  takes_move = rw w.asked.order record {
    text = answers;
    next = λ cs h. ap (λ (j : ℕ). with_history_at a j r) ei ∙ move_stored a (ledger cs) n w.move k r h (moved_to cs h)
        ∙ ap held_auction (sym (ledger_snoc cs (By n w.move)));
  }

  -- a refused move leaves the auction
  pub takes_refused_move : (k ≡ 0 → ⊥) → Takes a (ordered (call_in f)) a (answer_line f.kind k [])
  takes_refused_move z = rw w.asked.order record {
    text = answers;
    next = λ cs h. h ∙ ap held_auction (sym (ledger_snoc cs (By n w.move) ∙ step_refused (ledger cs) (By n w.move) (λ e. z ((moved_to cs h).number ∙ e))));
  }

-- ---- malformed lines

pub takes_malformed : (a : Auction) (o : Order) → o ≡ Malformed → Takes a o a (answer_line 255 12 [])
unfolding reply_to
takes_malformed a o e = rw e record {
  text = λ cs h. refl;
  next = λ cs h. h ∙ ap (λ (xs : List Call). held_auction (ledger xs)) (sym (append-nil cs));
}

-- ---- a closing

-- refused by 2 where no round is open
pub no_round : (a : Auction) → in_round (phase_in a.clock.phase) ≡ false → (cs : List Call) → a ≡ held_auction (ledger cs) → refusal (ledger cs) Close ≡ 2
unfolding refusal
no_round a z cs h = rw (sym (phase_is a (ledger cs) h), z)

pub takes_no_round : (a : Auction) → in_round (phase_in a.clock.phase) ≡ false → Takes a (Asks Close) a (answer_line 5 2 [])
unfolding reply_to answer_line
takes_no_round a z = record {
  text =
      λ cs h. ap (λ (y : Answered). answer_line 5 y.number (closing_text y)) (sym (answer_refused (ledger cs) Close (refused cs h) ∙ ap bare_answer (no_round a z cs h)));
  next = λ cs h. h ∙ ap held_auction (sym (ledger_snoc cs Close ∙ step_refused (ledger cs) Close (refused cs h)));
}
  where
    refused : (cs : List Call) → a ≡ held_auction (ledger cs) → refusal (ledger cs) Close ≡ 0 → ⊥
    refused cs h e = let w = sym e ∙ no_round a z cs h in omega arith

-- ---- a settling: the auction stays

pub takes_settling : (a : Auction) (limit : ℕ) (t : List ℕ) → ((cs : List Call) → a ≡ held_auction (ledger cs) → t ≡ reply_to (ledger cs) (Settle limit)) →
    Takes a (Settle limit) a t
takes_settling a limit t w = record {
  text = w;
  next = λ cs h. h ∙ ap (λ (xs : List Call). held_auction (ledger xs)) (sym (append-nil cs));
}

pub takes_not_closed : (a : Auction) (limit : ℕ) → is_closed (phase_in a.clock.phase) ≡ false → Takes a (Settle limit) a (answer_line 6 2 [])
unfolding reply_to settling_refusal answer_line
takes_not_closed a limit z = takes_settling a limit _ (λ cs h. rw (sym (phase_is a (ledger cs) h), z))
