-- Calls through seats of the auction hall (document 02, 14), each getting the hall that the last one returned. A step is what the method's own
-- contract says of its arguments and its result. Runs through seats alone, from a fresh hall; and lists that hold calls on the auction and
-- calls through seats.
use Rattle.std.specs.Prelude.{◌≡◌, refl, Bool, true, false, cond, List, [], ◌∷◌, ◌++◌, ℕ, Result, Ok, Err}
use Rattle.std.proofs.Common.{sym, ap, ap₂, subst, ◌∙◌}
use contract.Lifetimes.{Lfts}
use borrow.Fn.World.{ArgsD}
use Rattle.rules_auction.specs.Ledger.{Offer, Lodge, Cancel, Call, Open, By, Close}
use Rattle.rules_auction.specs.Rounds.{step_all, ledger, Answered, bare_answer, answer, answers_from, answers}
use Rattle.rules_seats.specs.Seats.{may_make, Seated, hall_from, hall_ledger, hall_answers_from, hall_answers, Entry, Direct, Through, permitted, entry_answers_from}
use Rattle.rules_seats.specs.Seats.{entry_answers, through_seats}
use Rattle.rules_seats.specs.SeatLaws.{hall_ledger_snoc, hall_answers_snoc, through_snoc, permitted_direct, permitted_made, permitted_barred}
use Rattle.rules_seats.specs.SeatLaws.{entry_answers_snoc, hall_is}
use Rattle.engine_auction.specs.Holds.{held_auction}
use Rattle.engine_refusals.specs.Numbers.{after}
use Rattle.engine_refusals.specs.declared.Refusal.{Refusal}
use Rattle.engine_auction.specs.Called.{Called, AnswersCall, answer_in, sets_up, registers, registers_for}
use Rattle.engine_auction.specs.declared.Auction.{Auction}
use Rattle.engine_auction.proofs.Auction.new.Reads as new
use Rattle.seats.specs.Rights.{seat_in}
use Rattle.seats.specs.declared.Seat.{Seat}
use Rattle.hall.specs.Through.{held_hall, CalledThrough, hall_closing_in, after_hall_closing}
use Rattle.hall.specs.ThroughLaws.{held_through}
use Rattle.hall.specs.declared.Hall.{Hall}
use Rattle.hall.specs.declared.HallClosing.{HallClosing}
use Rattle.hall.proofs.Hall.new.Reads as hall_new
use Rattle.hall.proofs.Hall.set_up.Reads as set_up_lem
use Rattle.hall.proofs.Hall.register.Reads as registration
use Rattle.hall.proofs.Hall.register_for.Reads as registration_for_lem
use Rattle.hall.proofs.Hall.open.Reads as opening
use Rattle.hall.proofs.Hall.offer.Reads as offering
use Rattle.hall.proofs.Hall.lodge.Reads as lodging
use Rattle.hall.proofs.Hall.cancel.Reads as cancelling
use Rattle.hall.proofs.Hall.close.Reads as closing
use Rattle.hall.specs.contracts.Hall.register.{signature as register_signature}
use Rattle.hall.specs.contracts.Hall.register_for.{signature as register_for_signature}
use Rattle.hall.specs.contracts.Hall.offer.{signature as offer_signature}
use Rattle.hall.specs.contracts.Hall.lodge.{signature as lodge_signature}
use Rattle.statement.specs.EveryList as plain
use Rattle.statement.specs.EveryList.{Made, by_contract, Run, run_reached}

-- `MadeThrough s c h r k`: the call c, made through the seat s in the hall h, is answered r and returns k, as the method's own contract says
pub data MadeThrough : Seat → Call → Hall → Answered → Hall → Type 0 where
  sets_up_lem :
      {h : Hall} (s : Seat) (ce d m1 m2 a : ℕ) (r : Result Hall Refusal) →
      set_up_lem.Post tt (h, (s, (ce, (d, (m1, (m2, (a, tt))))))) r (h, (s, (ce, (d, (m1, (m2, (a, tt))))))) →
      MadeThrough s (sets_up ce d m1 m2 a) h (answer_in r) (after h r)
  -- the arguments x: the hall, the seat, then those of the auction's call
  registers_one :
      (κs : Lfts 1) (x : ArgsD register_signature κs) (r : Result Hall Refusal) → registration.Post κs x r x →
      MadeThrough x.1.0 (registers x.1.1.0 x.1.1.1.0 x.1.1.1.1.0 x.1.1.1.1.1.0 x.1.1.1.1.1.1.0
      x.1.1.1.1.1.1.1.0.now) x.0 (answer_in r) (after x.0 r)
  registers_for_lem :
      (κs : Lfts 1) (x : ArgsD register_for_signature κs) (r : Result Hall Refusal) → registration_for_lem.Post κs x r x →
      MadeThrough x.1.0 (registers_for x.1.1.0 x.1.1.1.0 x.1.1.1.1.0 x.1.1.1.1.1.0 x.1.1.1.1.1.1.0
      x.1.1.1.1.1.1.1.0 x.1.1.1.1.1.1.1.1.0.now)
      x.0 (answer_in r) (after x.0 r)
  opens : {h : Hall} (s : Seat) (c : ℕ) (r : Result Hall Refusal) → opening.Post tt (h, (s, (c, tt))) r (h, (s, (c, tt))) →
      MadeThrough s (Open c) h (answer_in r) (after h r)
  offers :
      (κs : Lfts 2) (x : ArgsD offer_signature κs) (r : Result Hall Refusal) → offering.Post κs x r x →
      MadeThrough x.1.0 (By x.1.1.0 (Offer x.1.1.1.0.now x.1.1.1.1.0.now)) x.0 (answer_in r) (after x.0 r)
  lodges :
      (κs : Lfts 2) (x : ArgsD lodge_signature κs) (r : Result Hall Refusal) → lodging.Post κs x r x →
      MadeThrough x.1.0 (By x.1.1.0 (Lodge x.1.1.1.0.now x.1.1.1.1.0.now)) x.0 (answer_in r) (after x.0 r)
  cancels :
      {h : Hall} (s : Seat) (n : ℕ) (r : Result Hall Refusal) → cancelling.Post tt (h, (s, (n, tt))) r (h, (s, (n, tt))) →
      MadeThrough s (By n Cancel) h (answer_in r) (after h r)
  closes : {h : Hall} (s : Seat) (r : Result HallClosing Refusal) → closing.Post tt (h, (s, tt)) r (h, (s, tt)) →
      MadeThrough s Close h (hall_closing_in r) (after_hall_closing h r)

pub by_hall_contract : {s : Seat} {c : Call} {h k : Hall} {r : Answered} → MadeThrough s c h r k → CalledThrough (seat_in s) c h k r
by_hall_contract (sets_up_lem s ce d m1 m2 a r w) = w
by_hall_contract (registers_one κs x r w) = w
by_hall_contract (registers_for_lem κs x r w) = w
by_hall_contract (opens s c r w) = w
by_hall_contract (offers κs x r w) = w
by_hall_contract (lodges κs x r w) = w
by_hall_contract (cancels s n r w) = w
by_hall_contract (closes s r w) = w

-- what the auction in the hall answers, where a call on the hall answers so
in_auction :
    (c : Call) (h : Hall) (r : Result Hall Refusal) →
    ((q : Result Auction Refusal) → AnswersCall c h.auction q → Made c h.auction (answer_in q) (after h.auction q)) →
    Called c h.auction (after h r).auction (answer_in r) → Made c h.auction (answer_in r) (after h r).auction
in_auction c h (Ok k) f w = f (Ok k.auction) w
in_auction c h (Err e) f w = f (Err e) w

closing_in_auction :
    (h : Hall) (r : Result HallClosing Refusal) → Called Close h.auction (after_hall_closing h r).auction (hall_closing_in r) →
    Made Close h.auction (hall_closing_in r) (after_hall_closing h r).auction
closing_in_auction h (Ok x) w = plain.closes (Ok (record { excess = x.excess; remainder = x.remainder; auction = x.hall.auction })) w
closing_in_auction h (Err e) w = plain.closes (Err e) w

-- with the right it is the auction's own call, made on the auction in the hall
pub made_in : {s : Seat} {c : Call} {h k : Hall} {r : Answered} → MadeThrough s c h r k → may_make (seat_in s) c ≡ true → Made c h.auction r k.auction
made_in (sets_up_lem {h = h} s ce d m1 m2 a r w) e = in_auction _ h r (λ q p. plain.sets_up_lem ce d m1 m2 a q p) (w.made e)
made_in (registers_one κs x r w) e = in_auction _ x.0 r (λ q p. plain.registers_one κs (x.0.auction, x.1.1) q p) (w.made e)
made_in (registers_for_lem κs x r w) e = in_auction _ x.0 r (λ q p. plain.registers_for_lem κs (x.0.auction, x.1.1) q p) (w.made e)
made_in (opens {h = h} s c r w) e = in_auction _ h r (λ q p. plain.opens c q p) (w.made e)
made_in (offers κs x r w) e = in_auction _ x.0 r (λ q p. plain.offers κs (x.0.auction, x.1.1) q p) (w.made e)
made_in (lodges κs x r w) e = in_auction _ x.0 r (λ q p. plain.lodges κs (x.0.auction, x.1.1) q p) (w.made e)
made_in (cancels {h = h} s n r w) e = in_auction _ h r (λ q p. plain.cancels n q p) (w.made e)
made_in (closes {h = h} s r w) e = closing_in_auction h r (w.made e)

-- ---- runs through seats

-- `HallRun ms rs h`: the calls ms, each through its seat, one after the other from a fresh hall, are answered rs and lead to h
pub data HallRun : List Seated → List Answered → Hall → Type 0 where
  fresh : {h : Hall} → hall_new.Post tt tt h tt → HallRun [] [] h
  followed :
      {ms : List Seated} {rs : List Answered} {s : Seat} {c : Call} {r : Answered} {h k : Hall} → HallRun ms rs h → MadeThrough s c h r k →
      HallRun (ms ++ (record { seat = seat_in s; call = c } ∷ [])) (rs ++ (r ∷ [])) k

pub hall_reached : {ms : List Seated} {rs : List Answered} {h : Hall} → HallRun ms rs h → (h ≡ held_hall (hall_ledger ms)) × (rs ≡ hall_answers ms)
unfolding hall_from hall_ledger hall_answers hall_answers_from
hall_reached (fresh f) = (f, refl)
hall_reached (followed {ms = ms} {s = s} {c = c} {r = r} {h = h} {k = k} w n) =
    let m : Seated = record { seat = seat_in s; call = c } in
    let f = hall_reached w in
    let g = held_through (hall_ledger ms) m h k r (permitted (through_seats ms)) (hall_is ms) f.0 (by_hall_contract n) in (
      g.0 ∙ ap held_hall (sym (hall_ledger_snoc ms m)),
      ap₂ (λ (xs : List Answered) (y : Answered). xs ++ (y ∷ [])) f.1 g.1 ∙ sym (hall_answers_snoc ms m),
    )

-- ---- lists that hold calls on the auction and calls through seats

-- `SeatedRun es rs a`: the calls es, on the auction or through a seat in a hall that holds it, are answered rs and lead to a
pub data SeatedRun : List Entry → List Answered → Auction → Type 0 where
  fresh_auction : {a : Auction} → new.Post tt tt a tt → SeatedRun [] [] a
  directly :
      {es : List Entry} {rs : List Answered} {c : Call} {r : Answered} {a b : Auction} → SeatedRun es rs a → Made c a r b →
      SeatedRun (es ++ (Direct c ∷ [])) (rs ++ (r ∷ [])) b
  through :
      {es : List Entry} {rs : List Answered} {s : Seat} {c : Call} {r : Answered} {h k : Hall} → SeatedRun es rs h.auction → MadeThrough s c h r k →
      SeatedRun (es ++ (Through (seat_in s) c ∷ [])) (rs ++ (r ∷ [])) k.auction

with_answers_lem : {cs : List Call} {rs : List Answered} {a : Auction} → Run cs rs a → Run cs (answers cs) a
with_answers_lem {cs} {rs} {a} w = subst (λ (xs : List Answered). Run cs xs a) (run_reached w).1 w

-- without what 20 refused it is a list of calls as before, which reaches the same auction
pub permitted_run : {es : List Entry} {rs : List Answered} {a : Auction} → SeatedRun es rs a → Run (permitted es) (answers (permitted es)) a
unfolding permitted answers answers_from
permitted_run (fresh_auction f) = plain.fresh f
permitted_run (directly {es = es} {c = c} {b = b} w m) =
    subst (λ (cs : List Call). Run cs (answers cs) b) (sym (permitted_direct es c)) (with_answers_lem (plain.followed (permitted_run w) m))
permitted_run (through {es = es} {s = s} {c = c} {h = h} {k = k} w m) = go (may_make (seat_in s) c) refl (permitted_run w)
  where
    go : (b : Bool) → may_make (seat_in s) c ≡ b → Run (permitted es) (answers (permitted es)) h.auction →
        Run (permitted (es ++ (Through (seat_in s) c ∷ []))) (answers (permitted (es ++ (Through (seat_in s) c ∷ [])))) k.auction
    go true e v =
        subst (λ (cs : List Call). Run cs (answers cs) k.auction) (sym (permitted_made es (seat_in s) c e)) (with_answers_lem (plain.followed v (made_in m e)))
    go false e v =
        subst (λ (cs : List Call). Run cs (answers cs) k.auction) (sym (permitted_barred es (seat_in s) c e))
        (subst (λ (y : Hall). Run (permitted es) (answers (permitted es)) y.auction) (sym ((by_hall_contract m).barred e).0) v)

-- each is answered as the permitted calls are, or by 20
pub entries_answered : {es : List Entry} {rs : List Answered} {a : Auction} → SeatedRun es rs a → rs ≡ entry_answers es
unfolding entry_answers entry_answers_from
entries_answered (fresh_auction f) = refl
entries_answered (directly {es = es} {c = c} {a = a} w m) =
    ap₂ (λ (xs : List Answered) (y : Answered). xs ++ (y ∷ [])) (entries_answered w) ((by_contract m).answer (permitted es) (run_reached (permitted_run w)).0)
    ∙ sym (entry_answers_snoc es (Direct c))
entries_answered (through {es = es} {rs = rs} {s = s} {c = c} {r = r} {h = h} w m) =
    ap₂ (λ (xs : List Answered) (ys : List Answered). xs ++ ys) (entries_answered w) (go (may_make (seat_in s) c) refl (run_reached (permitted_run w)).0)
    ∙ sym (entry_answers_snoc es (Through (seat_in s) c))
  where
    go : (b : Bool) → may_make (seat_in s) c ≡ b → h.auction ≡ held_auction (ledger (permitted es)) →
        r ∷ [] ≡ cond b (answer (ledger (permitted es)) c ∷ []) (bare_answer 20 ∷ [])
    go true e a = ap (λ (y : Answered). y ∷ []) (((by_hall_contract m).made e).answer (permitted es) a)
    go false e a = ap (λ (y : Answered). y ∷ []) ((by_hall_contract m).barred e).1

-- a run through seats is such a list
pub seated : {ms : List Seated} {rs : List Answered} {h : Hall} → HallRun ms rs h → SeatedRun (through_seats ms) rs h.auction
unfolding through_seats ledger step_all
seated (fresh f) = fresh_auction (ap (λ (y : Hall). y.auction) f)
seated (followed {ms = ms} {rs = rs} {s = s} {c = c} {r = r} {k = k} w m) =
    subst (λ (es : List Entry). SeatedRun es (rs ++ (r ∷ [])) k.auction) (sym (through_snoc ms (record { seat = seat_in s; call = c })))
    (through (seated w) m)
