-- Closing a round: refused unless one is open; else the offers are applied, the supply curve is extended or, where nobody moved, left alone, the
-- excess is supply less Dem(C), the remainder that of Dem(C), and the phase follows from the excess.
use Prim.Native.Nat.{ℕ, ◌-◌}
use mathlib.Core.Path.{◌≡◌, refl, sym, ap, ◌∙◌, subst₂}
use mathlib.Core.Logic.{⊎_elim}
use mathlib.Core.Bool.{true, false, cond}
use mathlib.Core.List.{List, [], ◌∷◌, ◌++◌, append-nil}
use native.Mathlib.Omega.{arith}
use lib.IntN.{ℤ, pos, ◌-ℤ◌}
use lib.ListN.{length, get_or, length-append}
use Rattle.rules_numbers.specs.Lists.{keep}
use Rattle.rules_auction.specs.Ledger.{Close, Step, Round, Between, Closed, Ledger, nobody, with_developers}
use Rattle.rules_demand.specs.Demand.{InBounds, InRange}
use Rattle.rules_auction.specs.Clearing.{of_each, demand_at, remainder_at}
use Rattle.rules_auction.specs.Refusals.{is_fresh, in_round, floor, refusal}
use Rattle.rules_auction.specs.Rounds.{withdraws_all, reached, added, applied, supply_after, clears, phase_after, accepted, excess, granted}
use Rattle.laws_ledger.specs.Sound.{started, Registered, Sound}
use Rattle.laws_ledger.specs.reachable.Held.{in_round_lem}
use Rattle.rules_auction.specs.CheckLaws.{in_settings}
use Rattle.laws_ledger.specs.reachable.Bounds.{closing_in_range}
use Rattle.engine_held.specs.supply.ByProjectLaws.{supply_of_lem}
use Rattle.rules_supply_curve.specs.Curve.{supply_curve}
use Rattle.engine_held.specs.declared.history.History.{History}
use Rattle.engine_curve.specs.kept_curve.Held.{held_curve}
use Rattle.engine_curve.specs.declared.kept_curve.SupplyCurve.{SupplyCurve}
use Rattle.engine_curve.specs.highs_and_lows.Lows.{Highests}
use Rattle.engine_curve.specs.curve_closing.Extends.{Extended}
use Rattle.engine_checks.specs.declared.closing_figures.Figures.{Figures}
use Rattle.engine_checks.specs.closing_figures.Figured.{figures_of, left_in, Figured, supply_left}
use Rattle.engine_auction.specs.declared.Auction.{Auction}
use Rattle.engine_auction.specs.Holds.{held_phase, held_settings, held_course, held_auction}
use Rattle.engine_auction.specs.Called.{Called}
use Rattle.engine_auction.specs.Parts.{with_clock, clock_held, with_courses, courses_held, curve_stays}
use Rattle.engine_moves.specs.declared.closing_entries.Courses.{Courses}
use Rattle.engine_moves.specs.closing_entries.Courses.{after_round, OffersApplied}
use Rattle.engine_moves.specs.closing_entries.Places.{numbered_length, each_at}
use Rattle.engine_auction.proofs.Calls.{Refused, refused, Taken, taken}
use Rattle.engine_auction.specs.PhaseHeld.{phase_is}
use Rattle.engine_checks.specs.clock.Reading.{phase_in}

pub close_phase : (a : Auction) → in_round (phase_in a.clock.phase) ≡ false → Refused Close a 2
unfolding refusal
close_phase a z = refused Close a 2 (omega arith) (λ l s h. simp (ap in_round (sym (phase_is a l h)) ∙ z))

-- ---- the supply curve

-- the ledger with the offers applied
abbrev pub later : Ledger → Ledger
later l = with_developers l (λ m. after_round l (l.developers m))

-- in an open round that the auction a holds, b being its courses after it: v is the supply curve after it
abbrev pub CurveAfter : Auction → Courses → SupplyCurve → Type 0
CurveAfter a b v =
    (l : Ledger) → Sound l → l.phase ≡ Round → a ≡ held_auction l → b.histories ≡ of_each (λ x. held_course (after_round l x)) l →
    v ≡ held_curve (supply_curve (later l))

pub curve_extended :
    (a : Auction) (b : Courses) (firsts : List ℕ) (v : SupplyCurve) → Highests a.declared firsts →
    Extended a.curve a.projects firsts b.histories a.clock.opening v → CurveAfter a b v
unfolding held_auction
curve_extended a b firsts v highests extended l s round h after =
    extended.curve_is l s round (λ i. (h i).curve) (λ i. (h i).projects) (highests.highest_are l s (λ i. (h i).declared)) after (λ i. (h i).clock.opening)

none_added : (ws vs : List Step) → length (ws ++ vs) ≡ length ws → ws ++ vs ≡ ws
none_added ws [] e = append-nil ws
none_added ws (s ∷ vs) e = absurd (omega (arith, length-append ws (s ∷ vs)))

-- where the histories stay nothing is withdrawn
withdrawals_stay :
    (l : Ledger) → Sound l → of_each (λ x. held_course (after_round l x)) l ≡ of_each held_course l → (n : ℕ) →
    (after_round l (l.developers n)).withdrawals ≡ (l.developers n).withdrawals
unfolding applied added withdraws_all reached keep
withdrawals_stay l s e n = ⊎_elim (λ z. rw z) (λ r. none_added _ _ (same r)) (s.each n)
  where
    same : Registered l n → length (after_round l (l.developers n)).withdrawals ≡ length (l.developers n).withdrawals
    same r = ap (λ (h : History). h.count)
        (sym (each_at (λ x. held_course (after_round l x)) l n (held_course nobody) r.number_low r.number_high)
        ∙ ap (λ (hs : List History). get_or hs (n - 1) (held_course nobody)) e ∙ each_at held_course l n (held_course nobody) r.number_low r.number_high)

pub curve_left : (a : Auction) (b : Courses) → b.histories ≡ a.histories → CurveAfter a b a.curve
unfolding held_auction applied
curve_left a b e l s round h after =
    curve_stays a l (λ m. after_round l (l.developers m)) h (λ m. refl) (withdrawals_stay l s (sym after ∙ e ∙ (λ i. (h i).histories)))

-- ---- the closing

-- what the engine computed of the auction a: the courses b with the offers applied, the curve and the figures; x is the excess as it is answered
pub record Computed (a : Auction) (b : Courses) (v : SupplyCurve) (f : Figures) (x : ℤ) : Type 0 where
  pub round : in_round (phase_in a.clock.phase) ≡ true
  pub applied : OffersApplied a.kinds a.quantities a.histories a.clock.opening a.clock.closing b
  pub curve : CurveAfter a b v
  pub figures : Figured a.clock.settings a.clock.closing a.projects b.quantities f
  pub excess : x ≡ f.excess

module _ (a : Auction) (b : Courses) (v : SupplyCurve) (f : Figures) (x : ℤ) (k : Computed a b v f x) where
  -- the auction with the offers applied, in its next phase
  abbrev applied_only : Auction
  applied_only = with_courses a b.quantities b.histories v

  abbrev pub closed : Auction
  closed = with_clock applied_only (record { phase = f.phase; settings = a.clock.settings; opening = a.clock.opening; closing = a.clock.closing })

  module _ (l : Ledger) (s : Sound l) (h : a ≡ held_auction l) where
    open_round : in_round l.phase ≡ true
    open_round = ap in_round (sym (phase_is a l h)) ∙ k.round

    round : l.phase ≡ Round
    round = in_round_lem l.phase open_round

    bounds : InBounds l.settings.ce l.settings.d l.settings.m1 l.settings.m2
    bounds = (in_settings l.settings (s.settings (ap is_fresh round))).bounds

    in_range_lem : InRange l.settings.ce l.closing
    in_range_lem = closing_in_range s (ap started round)

    after : (b.quantities ≡ of_each (λ x. (after_round l x).quantity) l) × (b.histories ≡ of_each (λ x. held_course (after_round l x)) l)
    unfolding held_auction
    after = k.applied.as_ruled l s round (λ i. (h i).kinds) (λ i. (h i).quantities) (λ i. (h i).histories) (λ i. (h i).clock.opening) (λ i. (h i).clock.closing)

    -- the ledger that the figures read: it stands at the quantities after the round
    abbrev left : Ledger
    left = left_in (held_settings l.settings) l.closing (of_each (λ x. x.declared.project) l) (of_each (λ x. (after_round l x).quantity) l)

    supply_read : supply_after left ≡ supply_after l
    unfolding applied supply_after
    supply_read = sym (supply_left _ _ _ _ (numbered_length _) (numbered_length _)) ∙ supply_of_lem (λ x. (after_round l x).quantity) l

    figures_read : figures_of left ≡ figures_of l
    unfolding phase_after excess
    figures_read = ap (λ (q : ℕ). record {
      excess = pos q -ℤ pos (demand_at l l.closing);
      remainder = remainder_at l l.closing;
      phase = held_phase (cond (clears q (demand_at l l.closing) l.closing (floor l)) Closed Between);
    }) supply_read

    figures_held : f ≡ figures_of l
    unfolding held_auction
    figures_held =
        let read_so : Figured (held_settings l.settings) l.closing (held_auction l).projects (of_each (λ x. (after_round l x).quantity) l) f =
        subst₂ (λ (x : Auction) (qs : List ℕ). Figured x.clock.settings x.clock.closing x.projects qs f) h after.0 k.figures in
        read_so.as_ruled bounds in_range_lem ∙ figures_read

    courses_after : applied_only ≡ held_auction (later l)
    unfolding applied
    courses_after = courses_held a l (λ m. after_round l (l.developers m)) h (λ m. refl) after.0 after.1 (k.curve l s round h after.1)

    held_closed : Taken Close closed (record { number = 0; excess = x; remainder = f.remainder }) l
    unfolding refusal granted accepted held_auction
    held_closed = record {
      number = simp open_round;
      answer = λ i. record { number = 0; excess = (k.excess ∙ ap (λ (y : Figures). y.excess) figures_held) i; remainder = (figures_held i).remainder };
      next =
          clock_held applied_only (later l) (phase_after l) l.settings l.opening l.closing courses_after (λ i. record {
            phase = (figures_held i).phase;
            settings = (h i).clock.settings;
            opening = (h i).clock.opening;
            closing = (h i).clock.closing;
          });
    }

  pub close_taken : Called Close a closed (record { number = 0; excess = x; remainder = f.remainder })
  close_taken = taken Close a closed _ refl held_closed
