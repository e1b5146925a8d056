-- The figures of an auction, as C gets them of a call over a record or through a seat: the state, the preview of a closing (document 02, 6) and the
-- supply curve (document 02, 9), in words, for every list of calls and whatever was lent. A refusal is 2^64 less its number and leaves what was lent; 11,
-- too little lent, comes last; what stands behind the figures stays.
use Rattle.std.specs.Prelude.{ℕ, ◌+◌, ◌-◌, ◌^◌, ◌<◌, ◌≡◌, refl, ◌⊎◌, ◌↔◌, Bool, true, false, ◌&&◌, List, [], ◌∷◌, eqb, ℤ, length}
use Rattle.std.proofs.Common.{ap, subst, eqb-true, eq-eqb}
use Rattle.std.proofs.lemmas.Bool.{eqb-false}
use Rattle.rules_auction.specs.Ledger.{Call, Close, Ledger, start}
use Rattle.rules_auction.specs.Clearing.{demand_at}
use Rattle.rules_auction.specs.Refusals.{is_closed, floor, refusal}
use Rattle.rules_auction.specs.Rounds.{supply_after, step, ledger, answer}
use Rattle.rules_auction.specs.Preview.{preview, preview_closed}
use Rattle.rules_supply_curve.specs.Curve.{supply_curve}
use Rattle.rules_replies.specs.Replies.{twos_complement}
use Rattle.rules_seats.specs.Seats.{HallLedger, fresh_hall}
use Rattle.rules_seats.specs.figures.Figures.{figures_refusal, lent_after, one_if, phase_figure, hall_after, closings_from, state_figures, preview_figures}
use Rattle.rules_seats.specs.figures.Figures.{curve_figures}
use Rattle.rules_seats.specs.figures.FigureLaws.{hall_after_ledger}
use Rattle.record_replay.specs.host_numbers.HostNumbers.{value_answer, host_number}
use Rattle.statement.specs.calls_of_c.HostValues.{Lent, not_lent, as_lent, alike, lent_only}
use Rattle.statement.specs.calls_of_c.LatestExcess.{LatestExcess, latest_published, latest_only}

-- ---- what is stated; `old` and `new` are the lent numbers before and after, r is what C gets

-- phase, opening and closing price of the open or else the latest round, the excess, number of accepted closings
abbrev pub state_numbers : List Call → ℤ → List ℕ
state_numbers cs e =
    let l = ledger cs in
    phase_figure l.phase ∷ l.opening ∷ l.closing ∷ twos_complement e ∷ closings_from start cs ∷ []

-- of the calls cs: 0, and these five numbers, with the excess of the latest accepted closing
pub record StateReturned (cs : List Call) (old new : List ℕ) (r : ℕ) : Type 0 where
  pub excess : ℤ
  pub latest : LatestExcess cs excess
  pub state : Lent 0 (state_numbers cs excess) old new r

-- of the ledger l: refused as closing is; else 0, and what closing answers: excess, remainder, and 1 if the auction is then closed
pub record PreviewReturned (l : Ledger) (old new : List ℕ) (r : ℕ) : Type 0 where
  pub refused : (refusal l Close ≡ 0 → ⊥) → (r ≡ 2 ^ 64 - refusal l Close) × (new ≡ old)
  pub foretold : refusal l Close ≡ 0 → let a = answer l Close in
      Lent 0 (twos_complement a.excess ∷ a.remainder ∷ one_if (is_closed (step l Close).phase) ∷ []) old new r
  -- closed: the excess after the withdrawals at C is below 1,000 kWh or C is the floor
  pub closed : refusal l Close ≡ 0 → (is_closed (step l Close).phase ≡ true) ↔ ((supply_after l < demand_at l l.closing + 1000) ⊎ (l.closing ≡ floor l))

-- the number of points, and of each, falling: the price, supply before it, supply after it. What the points are, CurveOf says in words (SupplyCurves)
pub record CurveReturned (l : Ledger) (old new : List ℕ) (r : ℕ) : Type 0 where
  pub points : Lent (length (supply_curve l)) (curve_figures (supply_curve l)) old new r

-- ---- by the definitions

-- of a call that gives v and the figures, refused before 11 by n
abbrev Number : ℕ → ℕ → List ℕ → List ℕ → ℕ → Type 0
Number n v figures old r = r ≡ host_number (value_answer (figures_refusal n figures (length old)) v)

abbrev Buffer : ℕ → List ℕ → List ℕ → List ℕ → Type 0
Buffer n figures old new = new ≡ lent_after (figures_refusal n figures (length old)) figures old

pub state_returned :
    (cs : List Call) (old new : List ℕ) (r : ℕ) → let figures = state_figures (hall_after fresh_hall cs) (closings_from start cs) in
    Number 0 0 figures old r → Buffer 0 figures old new → StateReturned cs old new r
unfolding state_figures ledger
state_returned cs old new r e f =
    let h : HallLedger = hall_after fresh_hall cs in
    record {
      excess = h.excess;
      latest = latest_published cs;
      state = subst (λ (fs : List ℕ). Lent 0 fs old new r)
          (ap (λ (l : Ledger). phase_figure l.phase ∷ l.opening ∷ l.closing ∷ twos_complement h.excess ∷ closings_from start cs ∷ [])
          (hall_after_ledger fresh_hall cs)) (as_lent 0 0 _ old new r e f refl);
    }

pub preview_returned :
    (l : Ledger) (old new : List ℕ) (r : ℕ) → let figures = preview_figures (preview l) in
    Number (refusal l Close) 0 figures old r → Buffer (refusal l Close) figures old new → PreviewReturned l old new r
unfolding preview_figures preview
preview_returned l old new r e f = record {
  refused = not_lent (refusal l Close) 0 _ old new r e f;
  foretold = λ z. let a = answer l Close in
      subst (λ (b : Bool). Lent 0 (twos_complement a.excess ∷ a.remainder ∷ one_if b ∷ []) old new r) (marked z)
      (as_lent (refusal l Close) 0 _ old new r e f z);
  closed = λ z. rw (marked z) at (preview_closed_then z);
}
  where
    marked : refusal l Close ≡ 0 → (eqb (refusal l Close) 0 && is_closed (step l Close).phase) ≡ is_closed (step l Close).phase
    marked z = rw (eq-eqb (refusal l Close) 0 z)

    preview_closed_then :
        refusal l Close ≡ 0 →
        ((eqb (refusal l Close) 0 && is_closed (step l Close).phase) ≡ true) ↔ ((supply_after l < demand_at l l.closing + 1000) ⊎ (l.closing ≡ floor l))
    preview_closed_then z = let w = preview_closed l in ((λ t. (w.0 t).1), (λ t. w.1 (z, t)))

pub curve_returned :
    (l : Ledger) (old new : List ℕ) (r : ℕ) → let figures = curve_figures (supply_curve l) in
    Number 0 (length (supply_curve l)) figures old r → Buffer 0 figures old new → CurveReturned l old new r
curve_returned l old new r e f = record { points = as_lent 0 (length (supply_curve l)) _ old new r e f refl }

-- ---- and nothing else is

pub state_determined :
    (cs : List Call) (old new new' : List ℕ) (r r' : ℕ) → StateReturned cs old new r → StateReturned cs old new' r' → (r ≡ r') × (new ≡ new')
state_determined cs old new new' r r' x y =
    let same : y.excess ≡ x.excess = latest_only cs y.excess x.excess y.latest x.latest in
    lent_only 0 _ old new new' r r' x.state (subst (λ (e : ℤ). Lent 0 (state_numbers cs e) old new' r') same y.state)

pub preview_determined :
    (l : Ledger) (old new new' : List ℕ) (r r' : ℕ) → PreviewReturned l old new r → PreviewReturned l old new' r' → (r ≡ r') × (new ≡ new')
preview_determined l old new new' r r' x y = go (eqb (refusal l Close) 0) refl
  where
    go : (b : Bool) → eqb (refusal l Close) 0 ≡ b → (r ≡ r') × (new ≡ new')
    go true e = let z = eqb-true _ 0 e in lent_only 0 _ old new new' r r' (x.foretold z) (y.foretold z)
    go false e = let z = eqb-false _ 0 e in alike (x.refused z) (y.refused z)

pub curve_determined :
    (l : Ledger) (old new new' : List ℕ) (r r' : ℕ) → CurveReturned l old new r → CurveReturned l old new' r' → (r ≡ r') × (new ≡ new')
curve_determined l old new new' r r' x y = lent_only _ _ old new new' r r' x.points y.points
