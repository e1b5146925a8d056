-- The numbers of what is shown are those of what the seat reads.
use Rattle.std.specs.Prelude.{ℕ, Some, None, min, ◌+◌, ◌*◌, ◌≤◌, ◌≡◌, refl, true, ◌&&◌, leb, length, take}
use Rattle.std.proofs.Common.{ap, ap₂, ◌∙◌, ⊎_elim, take_at, leb-true}
use mathlib.Core.List.{List, [], ◌∷◌, ◌++◌, flatten}
use native.Mathlib.Omega.{arith}
use Rattle.std.proofs.Math.ListN.{length-append}
use Rattle.std.proofs.lemmas.List.{length-map}
use Rattle.std.proofs.Math.Seq.{length-take-le}
use Rattle.rules_numbers.specs.Cases.{and_true}
use Rattle.rules_numbers.specs.Lists.{padded}
use Rattle.rules_auction.specs.Ledger.{Step, Standing, none, made, Developer, Phase, Fresh, Ready, Round, Between, Closed, Ledger, nobody}
use Rattle.rules_auction.specs.Refusals.{rising, levels_ok}
use Rattle.laws_ledger.specs.Sound.{prices_of, levels_of, SoundOffer, Registered, Sound}
use Rattle.rules_seats.specs.Seats as seats
use Rattle.rules_seats.specs.Seats.{At}
use Rattle.rules_seats.specs.figures.Figures.{phase_figure, published_figures, step_figures, offer_figures, reading_figures}
use Rattle.engine_held.specs.history.Held.{pending}
use Rattle.engine_checks.specs.clock.Held.{held_phase, phase_number}
use Rattle.hall.specs.declared.seat_readings.StandingOffer.{StandingOffer}
use Rattle.hall.specs.declared.seat_readings.Reading.{Reading}
use Rattle.hall.specs.seat_readings.Shown.{shown_offer, shown_reading}
use Rattle.figure_writing.specs.reading_figures.Read.{published_in, level_figures, steps_in, offer_figures_in, steps_of, own_figures, own_in}

pub phase_figure_lem : (p : Phase) → phase_number (held_phase p) ≡ phase_figure p
phase_figure_lem Fresh = refl
phase_figure_lem Ready = refl
phase_figure_lem Round = refl
phase_figure_lem Between = refl
phase_figure_lem Closed = refl

-- ---- how many

pub steps_few : (ps qs : List ℕ) → length (steps_in ps qs) ≤ 2 * length ps
unfolding steps_in
steps_few [] qs = omega arith
steps_few (p ∷ ps) [] = omega arith
steps_few (p ∷ ps) (q ∷ qs) = omega (arith, steps_few ps qs)

pub steps_length : (ps qs : List ℕ) → length qs ≡ length ps → length (steps_in ps qs) ≡ 2 * length ps
unfolding steps_in
steps_length [] qs e = refl
steps_length (p ∷ ps) [] e = absurd (omega arith)
steps_length (p ∷ ps) (q ∷ qs) e = omega (arith, steps_length ps qs (omega arith))

-- of an offer whose lists are long enough
pub offer_length : (o : StandingOffer) (n : ℕ) → n ≤ length o.prices → n ≤ length o.levels → length (offer_figures_in (Some o) n) ≡ 2 + 2 * n
unfolding offer_figures_in
offer_length o n p q =
    let b = length-take-le n o.prices p in
    let c = length-take-le n o.levels q in
    omega (arith, steps_length (take n o.prices) (take n o.levels) (omega arith))

pub no_offer_length : length (offer_figures_in None 0) ≡ 2
unfolding offer_figures_in
no_offer_length = refl

module _ (r : Reading) (levels steps : ℕ) (l : levels ≤ length r.levels.values) (o : length (offer_figures_in r.offer steps) ≡ 2 + 2 * steps) where
  pub own_length : length (own_figures r levels steps) ≡ 7 + levels + 2 * steps
  unfolding own_figures published_in level_figures
  own_length =
      let a = length-take-le levels r.levels.values l in
      omega (arith, length-append (take levels r.levels.values) (offer_figures_in r.offer steps))

-- ---- of what is shown

pub published_shown : (x : seats.Reading) → published_in (shown_reading x) ≡ published_figures x.values
unfolding published_in
published_shown x = rw (phase_figure_lem x.values.phase)

steps_shown : (ss : List Step) → steps_in (prices_of ss) (levels_of ss) ≡ step_figures ss
unfolding steps_in flatten
steps_shown [] = refl
steps_shown (s ∷ ss) = ap (λ (l : List ℕ). s.price ∷ s.level ∷ l) (steps_shown ss)

-- the first of an array that holds a list
held_first : (n : ℕ) (xs : List ℕ) → length xs ≡ n → take n (padded 8 xs) ≡ xs
held_first n xs e = take_at xs _ n e

offer_shown : (o : Standing) → offer_figures_in (shown_offer o) (length (pending o)) ≡ offer_figures o
unfolding offer_figures_in steps_in
offer_shown none = refl
offer_shown (made ss) =
    ap (λ (l : List ℕ). 1 ∷ length ss ∷ l)
    (ap₂ steps_in (held_first (length ss) (prices_of ss) (length-map ss _)) (held_first (length ss) (levels_of ss) (length-map ss _)) ∙ steps_shown ss)

steps_few_of : (o : Standing) → length (pending o) ≤ 8 → steps_of (shown_offer o) ≡ length (pending o)
steps_few_of none h = refl
steps_few_of (made ss) h = omega arith

pub own_shown : (x : seats.Reading) (n : ℕ) → length x.levels ≤ 8 → length (pending x.offer) ≤ 8 → own_in (shown_reading x) ≡ reading_figures (At n) x
unfolding own_in own_figures level_figures reading_figures published_in offer_figures_in
own_shown x n h k =
    let a : min (length x.levels) 8 ≡ length x.levels = omega arith in
    let b : steps_of (shown_offer x.offer) ≡ length (pending x.offer) = steps_few_of x.offer k in
    rw (a, b) (ap₂ (λ (u v : List ℕ). u ++ v) (published_shown x)
    (ap₂ (λ (u v : List ℕ). (length x.levels ∷ u) ++ v) (held_first (length x.levels) x.levels refl) (offer_shown x.offer)))

-- ---- of a sound ledger: at most eight levels, and eight steps

levels_few : (ls : List ℕ) → levels_ok ls ≡ true → length ls ≤ 8
unfolding levels_ok
levels_few ls e =
    let t : (leb 1 (length ls) && leb (length ls) 8 ≡ true) × (rising 0 ls ≡ true) = and_true _ _ e in
    leb-true (length ls) 8 (and_true (leb 1 (length ls)) _ t.0).1

offer_few : (l : Ledger) (x : Developer) (o : Standing) → SoundOffer l x o → length (pending o) ≤ 8
unfolding SoundOffer
offer_few l x none h = omega arith
offer_few l x (made ss) h = h.at_most_eight

pub own_few : (l : Ledger) → Sound l → (n : ℕ) → (length (l.developers n).declared.levels ≤ 8) × (length (pending (l.developers n).offer) ≤ 8)
own_few l s n = ⊎_elim
    (λ (e : l.developers n ≡ nobody). rw e (omega arith, omega arith))
    (λ (r : Registered l n). (levels_few _ r.developer.declared.levels, offer_few l (l.developers n) (l.developers n).offer r.offer))
    (s.each n)
