-- The moments of a run through seats: a part of a run from its start is a run, and its hall is one that the run passes. And the view is cut where the
-- run is: each call shows a developer one event at most, so a view's beginning is the view of a part of the run.
use Rattle.std.specs.Prelude.{ℕ, ◌≡◌, refl, ◌⊎◌, Bool, true, false, cond, ◌&&◌}
use Rattle.std.proofs.Common.{sym, ap, subst, ◌∙◌, inl, inr, ⊎_elim}
use Rattle.std.proofs.Math.Bool.{and-false}
use Rattle.std.proofs.lemmas.Bool.{false≢true}
use mathlib.Core.List.{List, [], ◌∷◌, ◌++◌, drop_last, append_assoc, append-nil, nil≢cons, head-eq_of_cons-eq, tail-eq_of_cons-eq}
use Rattle.rules_auction.specs.Ledger.{Call, SetUp, Register, Open, By, Close}
use Rattle.rules_auction.specs.Rounds.{Answered}
use Rattle.rules_seats.specs.Seats as seats
use Rattle.rules_seats.specs.Seats.{Auctioneer, Auditor, At, may_make, HallLedger, fresh_hall, Seated, hall_step, hall_from}
use Rattle.rules_seats.specs.Changes.{is_accepted, CallRefused, CallAccepted, outcome, clock_alone}
use Rattle.rules_seats.specs.Sights.{own_move}
use Rattle.rules_seats.specs.Views.{Event, own_seat, is_for, asked_by, made_for, shown, view_from, view, moves_clock}
use Rattle.rules_seats.specs.ViewLaws.{for_not_clock}
use Rattle.seats.specs.Rights.{seat_in}
use Rattle.seats.specs.declared.Seat.{Seat}
use Rattle.hall.specs.declared.Hall.{Hall}
use Rattle.statement.specs.HallRuns.{MadeThrough, HallRun, fresh, followed}

-- ---- the moments of a run

-- `Passes ms qs k ns rs h`: the run of the calls ns, answered rs, that leads to the hall h, passes the hall k behind its first calls ms, answered qs
pub data Passes (ms : List Seated) (qs : List Answered) (k : Hall) : List Seated → List Answered → Hall → Type 0 where
  here : HallRun ms qs k → Passes ms qs k ms qs k
  onwards :
      {ns : List Seated} {rs : List Answered} {h g : Hall} {s : Seat} {c : Call} {r : Answered} → Passes ms qs k ns rs h → MadeThrough s c h r g →
      Passes ms qs k (ns ++ (record { seat = seat_in s; call = c } ∷ [])) (rs ++ (r ∷ [])) g

module _ {ms : List Seated} {qs : List Answered} {k : Hall} where
  pub part_run : {ns : List Seated} {rs : List Answered} {h : Hall} → Passes ms qs k ns rs h → HallRun ms qs k
  part_run (here w) = w
  part_run (onwards p n) = part_run p

  pub whole_run : {ns : List Seated} {rs : List Answered} {h : Hall} → Passes ms qs k ns rs h → HallRun ns rs h
  whole_run (here w) = w
  whole_run (onwards p n) = followed (whole_run p) n

  -- its calls and answers are those with which the run begins
  pub begins :
      {ns : List Seated} {rs : List Answered} {h : Hall} → Passes ms qs k ns rs h →
      ((ks : List Seated) × (ns ≡ ms ++ ks)) × ((zs : List Answered) × (rs ≡ qs ++ zs))
  begins (here w) = (([], sym (append-nil ms)), ([], sym (append-nil qs)))
  begins (onwards {s = s} {c = c} {r = r} p n) =
      let b = begins p in
      let m : Seated = record { seat = seat_in s; call = c } in (
        (b.0.0 ++ (m ∷ []), ap (λ (xs : List Seated). xs ++ (m ∷ [])) b.0.1 ∙ append_assoc ms b.0.0 (m ∷ [])),
        (b.1.0 ++ (r ∷ []), ap (λ (xs : List Answered). xs ++ (r ∷ [])) b.1.1 ∙ append_assoc qs b.1.0 (r ∷ [])),
      )

-- ---- each part of a run from its start

abbrev pub Passed : List Seated → List Seated → List Answered → Hall → Type 0
Passed ms ns rs h = (qs : List Answered) × (k : Hall) × Passes ms qs k ns rs h

front : (xs : List Seated) (x : Seated) → drop_last (xs ++ (x ∷ [])) ≡ xs
front [] x = refl
front (y ∷ []) x = refl
front (y ∷ z ∷ xs) x = ap (λ (ys : List Seated). y ∷ ys) (front (z ∷ xs) x)

same_front : (xs ys : List Seated) (x y : Seated) → xs ++ (x ∷ []) ≡ ys ++ (y ∷ []) → xs ≡ ys
same_front xs ys x y e = sym (front xs x) ∙ ap drop_last e ∙ front ys y

last_of : (xs : List Seated) → (xs ≡ []) ⊎ ((ys : List Seated) × (y : Seated) × (xs ≡ ys ++ (y ∷ [])))
last_of [] = inl refl
last_of (x ∷ xs) = ⊎_elim
    (λ (e : xs ≡ []). inr ([], x, ap (λ (zs : List Seated). x ∷ zs) e))
    (λ (e : (ys : List Seated) × (y : Seated) × (xs ≡ ys ++ (y ∷ []))). inr (x ∷ e.0, e.1, ap (λ (zs : List Seated). x ∷ zs) e.2))
    (last_of xs)

nothing_before : (xs ys : List Seated) → xs ++ ys ≡ [] → xs ≡ []
nothing_before [] ys e = refl
nothing_before (x ∷ xs) ys e = absurd (nil≢cons (sym e))

-- a call more: behind the part, or the part's last
module _
    {ns : List Seated} {rs : List Answered} {h k : Hall} {s : Seat} {c : Call} {r : Answered} (w : HallRun ns rs h) (n : MadeThrough s c h r k)
    (ms : List Seated) (shorter : (ks : List Seated) → ms ++ ks ≡ ns → Passed ms ns rs h)
  where
    abbrev m : Seated
    m = record { seat = seat_in s; call = c }

    one_more : (ks : List Seated) → ms ++ ks ≡ ns ++ (m ∷ []) → Passed ms (ns ++ (m ∷ [])) (rs ++ (r ∷ [])) k
    one_more ks e = ⊎_elim
        (λ (z : ks ≡ []).
        let f : ns ++ (m ∷ []) ≡ ms = sym e ∙ ap (λ (xs : List Seated). ms ++ xs) z ∙ append-nil ms in (
          rs ++ (r ∷ []),
          k,
          subst (λ (xs : List Seated). Passes xs (rs ++ (r ∷ [])) k (ns ++ (m ∷ [])) (rs ++ (r ∷ [])) k) f (here (followed w n)),
        ))
        (λ (z : (js : List Seated) × (j : Seated) × (ks ≡ js ++ (j ∷ []))).
        let f : (ms ++ z.0) ++ (z.1 ∷ []) ≡ ns ++ (m ∷ []) = append_assoc ms z.0 (z.1 ∷ []) ∙ ap (λ (xs : List Seated). ms ++ xs) (sym z.2) ∙ e in
        let p = shorter z.0 (same_front (ms ++ z.0) ns z.1 m f) in
        (p.0, p.1, onwards p.2 n))
        (last_of ks)

pub part :
    {ns : List Seated} {rs : List Answered} {h : Hall} → HallRun ns rs h → (ms ks : List Seated) → ms ++ ks ≡ ns → Passed ms ns rs h
part (fresh {h = h} f) ms ks e =
    ([], h, subst (λ (xs : List Seated). Passes xs [] h [] [] h) (sym (nothing_before ms ks e)) (here (fresh f)))
part (followed w n) ms ks e = one_more w n ms (λ js f. part w ms js f) ks e

-- ---- each call shows one event at most

abbrev OneAtMost : List Event → Type 0
OneAtMost es = (es ≡ []) ⊎ ((e : Event) × (es ≡ e ∷ []))

some_event : (b : Bool) (e : Event) → OneAtMost (cond b (e ∷ []) [])
some_event true e = inr (e, refl)
some_event false e = inl refl

-- through its own seat nothing accepted is made for it by others, nor moves the clock
own_alone : (n : ℕ) (s : seats.Seat) (c : Call) → own_seat n s ≡ true → may_make s c ≡ true → (is_for n c ≡ false) × (moves_clock c ≡ false)
unfolding own_seat may_make is_for moves_clock
own_alone n Auctioneer c o e = absurd (false≢true o)
own_alone n Auditor c o e = absurd (false≢true o)
own_alone n (At k) (SetUp x) o e = absurd (false≢true e)
own_alone n (At k) (Register j w x) o e = absurd (false≢true e)
own_alone n (At k) (Open p) o e = absurd (false≢true e)
own_alone n (At k) (By j m) o e = (rw (own_move k j m e).0 refl, refl)
own_alone n (At k) Close o e = absurd (false≢true e)

-- of an own call (a), made for it (f), that moves the clock (k), accepted (t)
one_of :
    (x y z : Event) (a f k t : Bool) → (a ≡ true → t ≡ true → (f ≡ false) × (k ≡ false)) → (f ≡ true → k ≡ false) →
    OneAtMost (cond a (x ∷ []) [] ++ (cond (f && t) (y ∷ []) [] ++ cond (k && t) (z ∷ []) []))
one_of x y z true f k false p q = rw (and-false f, and-false k) (inr (x, refl))
one_of x y z true f k true p q = rw ((p refl refl).0, (p refl refl).1) (inr (x, refl))
one_of x y z false true k t p q = rw (q refl) (first_alone t)
  where
    first_alone : (b : Bool) → OneAtMost (cond b (y ∷ []) [] ++ [])
    first_alone true = inr (y, refl)
    first_alone false = inl refl
one_of x y z false false k t p q = some_event (k && t) z

module _ (n : ℕ) (h : HallLedger) (m : Seated) where
  right_if_accepted : is_accepted h m ≡ true → may_make m.seat m.call ≡ true
  right_if_accepted e = ⊎_elim
      (λ (r : CallRefused h m). absurd (false≢true (sym r.not_accepted ∙ e)))
      (λ (a : CallAccepted h m). a.allowed)
      (outcome h m)

  one_shown : OneAtMost (shown n h m)
  unfolding shown asked_by made_for
  one_shown =
      rw (clock_alone h m)
      (one_of _ _ _ (own_seat n m.seat) (is_for n m.call) (moves_clock m.call) (is_accepted h m)
      (λ o t. own_alone n m.seat m.call o (right_if_accepted t)) (for_not_clock n m.call))

-- ---- cutting a view

view_from_append : (n : ℕ) (h : HallLedger) (ms ks : List Seated) → view_from n h (ms ++ ks) ≡ view_from n h ms ++ view_from n (hall_from h ms) ks
unfolding view_from hall_from
view_from_append n h [] ks = refl
view_from_append n h (m ∷ ms) ks =
    ap (λ (es : List Event). shown n h m ++ es) (view_from_append n (hall_step h m) ms ks)
    ∙ sym (append_assoc (shown n h m) (view_from n (hall_step h m) ms) (view_from n (hall_from (hall_step h m) ms) ks))

-- the part ms of the calls ns whose view is vs
abbrev CutAt : ℕ → HallLedger → List Seated → List Event → Type 0
CutAt n h ns vs = (ms : List Seated) × (ks : List Seated) × (ms ++ ks ≡ ns) × (view_from n h ms ≡ vs)

cut : (n : ℕ) (h : HallLedger) (ns : List Seated) (vs ws : List Event) → view_from n h ns ≡ vs ++ ws → CutAt n h ns vs
unfolding view_from
cut n h ns [] ws e = ([], ns, refl, refl)
cut n h [] (v ∷ vs) ws e = absurd (nil≢cons e)
cut n h (m ∷ ns) (v ∷ vs) ws e = ⊎_elim
    (λ (z : shown n h m ≡ []).
    let c = cut n (hall_step h m) ns (v ∷ vs) ws (sym (ap (λ (es : List Event). es ++ view_from n (hall_step h m) ns) z) ∙ e) in
    (m ∷ c.0, c.1, ap (λ (xs : List Seated). m ∷ xs) c.2, ap (λ (es : List Event). es ++ view_from n (hall_step h m) c.0) z ∙ c.3))
    (λ (z : (x : Event) × (shown n h m ≡ x ∷ [])).
    let u : z.0 ∷ view_from n (hall_step h m) ns ≡ v ∷ (vs ++ ws) = sym (ap (λ (es : List Event). es ++ view_from n (hall_step h m) ns) z.1) ∙ e in
    let c = cut n (hall_step h m) ns vs ws (tail-eq_of_cons-eq u) in (
      m ∷ c.0,
      c.1,
      ap (λ (xs : List Seated). m ∷ xs) c.2,
      ap (λ (es : List Event). es ++ view_from n (hall_step h m) c.0) z.1
          ∙ ap (λ (x : Event). x ∷ view_from n (hall_step h m) c.0) (head-eq_of_cons-eq u)
          ∙ ap (λ (es : List Event). v ∷ es) c.3,
    ))
    (one_shown n h m)

-- of two runs with equal views: to each part of the one there is a part of the other with an equal view
pub equal_parts :
    (n : ℕ) (ms ks ns : List Seated) → view n (ms ++ ks) ≡ view n ns →
    (ms' : List Seated) × (ks' : List Seated) × (ms' ++ ks' ≡ ns) × (view n ms' ≡ view n ms)
unfolding view
equal_parts n ms ks ns e =
    cut n fresh_hall ns (view_from n fresh_hall ms) (view_from n (hall_from fresh_hall ms) ks) (sym e ∙ view_from_append n fresh_hall ms ks)
