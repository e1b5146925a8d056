-- From what the parts of each call ensure to the figures of the ledger that the auction holds.
use Prim.Native.Nat.{ℕ, ◌/◌, ◌≤◌, ◌<◌}
use mathlib.Core.Path.{◌≡◌, refl, sym, ap, ap₂, subst, ◌∙◌}
use mathlib.Core.List.{List, [], ◌∷◌}
use native.Mathlib.Omega.{arith}
use lib.IntN.{ℤ}
use lib.ListN.{length, take}
use Rattle.rules_numbers.specs.Tails.{laid}
use Rattle.rules_auction.specs.Ledger.{Call, Ledger}
use Rattle.rules_auction.specs.Clearing.{highest, supply}
use Rattle.rules_auction.specs.Rounds.{ledger}
use Rattle.laws_ledger.specs.Sound.{Sound}
use Rattle.laws_ledger.specs.reachable.Reachable.{sound}
use Rattle.rules_supply_curve.specs.Curve.{supply_curve}
use Rattle.rules_supply_curve.specs.CurveLaws.{Joined, curve_joined}
use Rattle.rules_replies.specs.Replies.{twos_complement}
use Rattle.rules_seats.specs.Seats as seats
use Rattle.rules_seats.specs.Seats.{Seat, Auctioneer, Auditor, At, HallLedger}
use Rattle.rules_seats.specs.figures.Figures.{state_figures, curve_figures, reading_figures}
use Rattle.rules_seats.specs.figures.FigureLaws.{curve_length}
use Rattle.engine_held.specs.supply.ByProject.{supply_of}
use Rattle.engine_held.specs.supply.ByProjectLaws.{supply_of_lem}
use Rattle.engine_checks.specs.clock.Held.{phase_number}
use Rattle.engine_curve.specs.highs_and_lows.Lows.{Highests}
use Rattle.engine_curve.specs.kept_curve.Held.{held_curve}
use Rattle.engine_curve.specs.kept_curve.HeldLaws.{curve_fits}
use Rattle.engine_auction.specs.Holds.{held_auction}
use Rattle.engine_auction.specs.declared.Auction.{Auction}
use Rattle.hall.specs.declared.seat_readings.Reading.{Reading}
use Rattle.hall.specs.seat_readings.Shown.{shown_reading, hall_with, ReadsFrom}
use Rattle.figure_writing.specs.lent_numbers.Lent.{Counted, GivesFigures, Counts, counted_as}
use Rattle.figure_writing.specs.lent_numbers.LentLaws.{gives_same, counts_short, counts_all}
use Rattle.figure_writing.specs.curve_points.Points.{points_from}
use Rattle.figure_writing.specs.curve_points.PointLaws.{curve_points}
use Rattle.figure_writing.specs.reading_figures.Read.{published_in, own_in}
use Rattle.figure_writing.specs.reading_figures.ReadLaws.{phase_figure_lem, published_shown, own_shown, own_few}
use Rattle.figure_writing.specs.Writes.{WritesState, WritesCurve, WritesReading}

-- ---- the state

module _ (a : Auction) (e : ℤ) (closings bits : ℕ) (old new : List ℕ) (n : ℕ) where
  pub state_written :
      bits ≡ twos_complement e → GivesFigures 0 (phase_number a.clock.phase ∷ a.clock.opening ∷ a.clock.closing ∷ bits ∷ closings ∷ []) old new n → WritesState a e closings old new n
  unfolding state_figures held_auction
  state_written b f = record {
    same = gives_same f;
    state_is = λ h p q.
        let phase = ap (λ (x : Auction). phase_number x.clock.phase) p ∙ phase_figure_lem h.ledger.phase in
        subst (λ (figures : List ℕ). GivesFigures 0 figures old new n)
        (λ i. phase i ∷ (p i).clock.opening ∷ (p i).clock.closing ∷ (b ∙ ap twos_complement q) i ∷ closings ∷ []) f;
  }

-- ---- the supply curve

module _ (a : Auction) (old : List ℕ) where
  -- the number of points
  count_is : (l : Ledger) → a ≡ held_auction l → a.curve.count ≡ length (supply_curve l)
  unfolding held_auction held_curve
  count_is l h = ap (λ (x : Auction). x.curve.count) h

  pub curve_short : length old / 3 < a.curve.count → WritesCurve a old old (counted_as 11 0)
  curve_short h = record {
    same = λ _. refl;
    curve_is = λ cs g. let l = ledger cs in
        counts_short (curve_figures (supply_curve l)) old (length (supply_curve l)) (omega (arith, curve_length (supply_curve l), count_is l g));
  }

  module _
      (firsts : List ℕ) (first : ℕ) (highests : Highests a.declared firsts) (first_is : first ≡ supply_of a.projects firsts) (new : List ℕ)
      (written : new ≡ laid (points_from first (take a.curve.count a.curve.words)) old) (room : a.curve.count ≤ length old / 3)
    where
      first_held : (l : Ledger) → Sound l → a ≡ held_auction l → first ≡ supply highest l
      unfolding held_auction
      first_held l s h =
          first_is ∙ ap₂ (λ (ks qs : List ℕ). supply_of ks qs) (λ i. (h i).projects) (highests.highest_are l s (λ i. (h i).declared)) ∙ supply_of_lem highest l

      points_are : (l : Ledger) → Sound l → a ≡ held_auction l → points_from first (take a.curve.count a.curve.words) ≡ curve_figures (supply_curve l)
      unfolding held_auction
      points_are l s h = curve_points a.curve first (supply_curve l) (λ i. (h i).curve)
          (subst (λ (n : ℕ). Joined n (supply_curve l)) (sym (first_held l s h)) (curve_joined l)) (curve_fits l s)

      pub curve_written : WritesCurve a old new (counted_as 0 a.curve.count)
      curve_written = record {
        same = λ z. absurd (z refl);
        curve_is = λ cs h.
            let l = ledger cs in
            let e = points_are l (sound cs) h in
            subst (λ (k : ℕ). Counts (length (supply_curve l)) (curve_figures (supply_curve l)) old new (counted_as 0 k)) (sym (count_is l h))
            (counts_all (curve_figures (supply_curve l)) old (length (supply_curve l)) new (omega (arith, curve_length (supply_curve l), count_is l h))
            (written ∙ ap (λ (t : List ℕ). laid t old) e));
      }

-- ---- what a seat reads

module _ (a : Auction) (e : ℤ) (s : Seat) (r : Reading) (reads : ReadsFrom a e s r) (old new : List ℕ) (k : Counted) where
  shown_is : (cs : List Call) (h : HallLedger) → h.ledger ≡ ledger cs → a ≡ held_auction h.ledger → e ≡ h.excess →
      r ≡ shown_reading (seats.reading h s)
  shown_is cs h l g x =
      reads.reading_is cs (g ∙ ap held_auction l) ∙ (λ i. shown_reading (seats.reading (hall_with (sym l i) (x i)) s))

  -- the figures of every struct's value are those of what is read, once it is shown
  reading_written :
      (figures : Reading → List ℕ) →
      ((cs : List Call) (h : HallLedger) → h.ledger ≡ ledger cs →
      figures (shown_reading (seats.reading h s)) ≡ reading_figures s (seats.reading h s)) →
      Counts (length (figures r)) (figures r) old new k → WritesReading a e s old new k
  reading_written figures w f = record {
    same = gives_same f.gives;
    reading_is = λ cs h l g x.
        let fs : figures r ≡ reading_figures s (seats.reading h s) = ap figures (shown_is cs h l g x) ∙ w cs h l in
        subst (λ (v : List ℕ). Counts (length v) v old new k) fs f;
  }

module _ (a : Auction) (e : ℤ) (r : Reading) (old new : List ℕ) (k : Counted) where
  pub auctioneer_written : ReadsFrom a e Auctioneer r → Counts 4 (published_in r) old new k → WritesReading a e Auctioneer old new k
  unfolding published_in reading_figures seats.reading
  auctioneer_written reads f = reading_written a e Auctioneer r reads old new k published_in (λ cs h l. published_shown (seats.reading h Auctioneer)) f

  pub auditor_written : ReadsFrom a e Auditor r → Counts 4 (published_in r) old new k → WritesReading a e Auditor old new k
  unfolding published_in reading_figures seats.reading
  auditor_written reads f = reading_written a e Auditor r reads old new k published_in (λ cs h l. published_shown (seats.reading h Auditor)) f

  pub developer_written : (n : ℕ) → ReadsFrom a e (At n) r → Counts (length (own_in r)) (own_in r) old new k → WritesReading a e (At n) old new k
  unfolding seats.reading
  developer_written n reads f = reading_written a e (At n) r reads old new k own_in (λ cs h l.
      let few = own_few h.ledger (subst Sound (sym l) (sound cs)) n in own_shown (seats.reading h (At n)) n few.0 few.1) f
