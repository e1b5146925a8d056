-- What a call in the hall changes. It is refused, and the hall stays as it is; or it is accepted, with the right to make it, and changes the
-- published values exactly if it moves the clock.
use Rattle.std.specs.Prelude.{ℕ, ◌≡◌, ◌⊎◌, Bool, cond, ◌&&◌, [], ◌∷◌, ℤ, pos, negsuc}
use Rattle.std.proofs.Math.Path.{refl}
use Rattle.std.proofs.Common.{ap, ◌∙◌, ⊎_elim}
use Rattle.std.proofs.Math.Logic.{inl, inr}
use Rattle.std.proofs.Math.Bool.{true, false, and-true, and-false}
use Rattle.std.proofs.Math.Dec.{eqb}
use borrow.Author.Tests.{eqb-true, eq-eqb}
use Rattle.rules_auction.specs.Ledger.{Call, SetUp, Register, Open, By, Close, Phase, Fresh, Ready, Round, Between, Closed, Ledger}
use Rattle.rules_auction.specs.Refusals.{refusal}
use Rattle.rules_auction.specs.Rounds.{phase_after, accepted, step, bare_answer, granted, answer}
use Rattle.rules_auction.specs.RoundLaws.{by_phase_after}
use Rattle.laws_ledger.specs.reachable.Checks.{set_up_passed, open_passed, close_passed}
use Rattle.laws_ledger.specs.reachable.Held.{is_fresh_lem, in_round_lem, by_may_open}
use Rattle.laws_ledger.specs.reachable.Steps.{granted_number}
use Rattle.rules_seats.specs.Seats.{HallLedger, Seated, has_right, hall_answer, latest_excess, hall_step, Published, published}
use Rattle.rules_seats.specs.Views.{same_excess, same_phase, same_values, Changed, changes, moves_clock, ClockAlone}

-- ---- refused or accepted

-- the hall after an accepted call
abbrev pub taken : HallLedger → Call → HallLedger
taken h c = record { ledger = accepted h.ledger c; excess = latest_excess c (granted h.ledger c) h.excess }

abbrev pub is_accepted : HallLedger → Seated → Bool
is_accepted h m = eqb (hall_answer h m).number 0

pub record CallRefused (h : HallLedger) (m : Seated) : Type 0 where
  pub not_accepted : is_accepted h m ≡ false
  pub stays : hall_step h m ≡ h

pub record CallAccepted (h : HallLedger) (m : Seated) : Type 0 where
  pub is_accepted_lem : is_accepted h m ≡ true
  pub allowed : has_right m ≡ true
  pub passes : refusal h.ledger m.call ≡ 0
  pub next : hall_step h m ≡ taken h m.call

refused_excess : (c : Call) (k : ℕ) (e : ℤ) → eqb k 0 ≡ false → latest_excess c (bare_answer k) e ≡ e
unfolding latest_excess
refused_excess (SetUp s) k e z = refl
refused_excess (Register n w x) k e z = refl
refused_excess (Open p) k e z = refl
refused_excess (By n m) k e z = refl
refused_excess Close k e z = rw z refl

module _ (h : HallLedger) (m : Seated) where
  abbrev l : Ledger
  l = h.ledger

  abbrev c : Call
  c = m.call

  pub outcome : CallRefused h m ⊎ CallAccepted h m
  unfolding hall_answer hall_step step answer
  outcome = go (has_right m) refl (eqb (refusal l c) 0) refl
    where
      go : (r : Bool) → has_right m ≡ r → (t : Bool) → eqb (refusal l c) 0 ≡ t → CallRefused h m ⊎ CallAccepted h m
      go true e true z = inr (record {
        is_accepted_lem = rw (e, z) (eq-eqb (granted l c).number 0 (granted_number l c));
        allowed = e;
        passes = eqb-true (refusal l c) 0 z;
        next = rw (e, z) refl;
      })
      go true e false z = inl (record {
        not_accepted = rw (e, z) z;
        stays = rw (e, z) (ap (λ (x : ℤ). record { ledger = l; excess = x }) (refused_excess c (refusal l c) h.excess z));
      })
      go false e t z = inl (record { not_accepted = rw e refl; stays = rw e refl })

-- ---- changes of published values

same_excess_lem : (e : ℤ) → same_excess e e ≡ true
unfolding same_excess
same_excess_lem (pos n) = eq-eqb n n refl
same_excess_lem (negsuc n) = eq-eqb n n refl

same_phase_lem : (p : Phase) → same_phase p p ≡ true
unfolding same_phase
same_phase_lem Fresh = refl
same_phase_lem Ready = refl
same_phase_lem Round = refl
same_phase_lem Between = refl
same_phase_lem Closed = refl

no_change : (p : Published) → changes p p ≡ []
unfolding changes same_values
no_change p = rw (eq-eqb p.opening p.opening refl, eq-eqb p.closing p.closing refl, same_excess_lem p.excess, same_phase_lem p.phase) refl

phase_change : (p q : Published) → same_phase p.phase q.phase ≡ false → changes p q ≡ Changed q ∷ []
unfolding changes same_values
phase_change p q e = rw (e, and-false (eqb p.opening q.opening && eqb p.closing q.closing && same_excess p.excess q.excess)) refl

changes_accepted :
    (h : HallLedger) (c : Call) → refusal h.ledger c ≡ 0 →
    changes (published h) (published (taken h c)) ≡ cond (moves_clock c) (Changed (published (taken h c)) ∷ []) []
unfolding moves_clock accepted latest_excess same_phase
changes_accepted h (SetUp s) z =
    let fresh = is_fresh_lem h.ledger.phase (set_up_passed h.ledger s z).phase in
    phase_change _ _ (ap (λ (p : Phase). same_phase p Ready) fresh)
changes_accepted h (Register n w x) z = no_change _
changes_accepted h (Open p) z =
    phase_change _ _ (by_may_open (λ q. same_phase q Round ≡ false) refl refl h.ledger.phase (open_passed h.ledger p z).phase)
changes_accepted h (By n m) z = no_change _
changes_accepted h Close z =
    let round = in_round_lem h.ledger.phase (close_passed h.ledger z).phase in
    phase_change _ _
    (ap (λ (p : Phase). same_phase p (phase_after h.ledger)) round ∙ by_phase_after h.ledger (λ q. same_phase Round q ≡ false) refl refl)

pub clock_alone : ClockAlone
clock_alone h m = ⊎_elim
    (λ (r : CallRefused h m). rw (r.not_accepted, and-false (moves_clock m.call), r.stays) (no_change (published h)))
    (λ (a : CallAccepted h m). rw (a.is_accepted_lem, and-true (moves_clock m.call), a.next) (changes_accepted h m.call a.passes))
    (outcome h m)
