-- Whose seat may what behind a session (document 02, 14; docs/FORMAT.md, sessions), by the kind of seat and the number that C passes.
use Rattle.std.specs.Prelude.{ℕ, ◌≤◌, ◌≡◌, ◌⊎◌, ◌↔◌, Bool, eqb}
use Rattle.std.proofs.Math.Path.{refl}
use Rattle.std.proofs.Math.Logic.{inl, inr}
use Rattle.std.proofs.Common.{⊎_elim}
use Rattle.std.proofs.Math.Bool.{true, false, cond}
use Rattle.std.proofs.lemmas.Bool.{false≢true}
use native.Mathlib.Omega.{arith}
use Rattle.std.proofs.Math.Dec.{leb}
use borrow.Author.Tests.{leb-true, le-leb, eqb-true, eq-eqb}
use Rattle.rules_numbers.specs.Cases.{le_or_lt, and_true, clash}
use Rattle.rules_format.specs.SessionLines.{is_seat}
use Rattle.rules_seats.specs.Seats.{Seat, Auctioneer, Auditor, At, may_conduct, may_settle}
use Rattle.rules_seats.specs.sessions.Sessions.{seat_by}
use Rattle.rules_seats.specs.sessions.SessionFigures.{seat_may}

-- to look, kind 0 with number 0, the auctioneer; to settle, that and kind 1 with number 0, the auditor; to read, these and kind 2 with
-- whichever number, a developer
pub record WhoMay : Type 0 where
  pub looks : (kind number : ℕ) → (seat_may may_conduct kind number ≡ true) ↔ ((kind ≡ 0) × (number ≡ 0))
  pub settles : (kind number : ℕ) → (seat_may may_settle kind number ≡ true) ↔ ((kind ≤ 1) × (number ≡ 0))
  pub reads : (kind number : ℕ) → (is_seat kind number ≡ true) ↔ (((kind ≤ 1) × (number ≡ 0)) ⊎ (kind ≡ 2))

-- ---- by the definitions

module _ (kind number : ℕ) where
  unnumbered : kind ≤ 1 → is_seat kind number ≡ true → number ≡ 0
  unfolding is_seat
  unnumbered h e = eqb-true number 0 (rw (le-leb kind 1 h) at e)

  pub unnumbered_seat : kind ≤ 1 → number ≡ 0 → is_seat kind number ≡ true
  unfolding is_seat
  unnumbered_seat h e = rw (le-leb kind 1 h, eq-eqb number 0 e)

  pub developer_seat : kind ≡ 2 → is_seat kind number ≡ true
  unfolding is_seat
  developer_seat e = rw e

  pub seated : is_seat kind number ≡ true → ((kind ≤ 1) × (number ≡ 0)) ⊎ (kind ≡ 2)
  unfolding is_seat
  seated e = go (leb kind 1) refl e
    where
      go : (b : Bool) → leb kind 1 ≡ b → cond b (eqb number 0) (eqb kind 2) ≡ true → ((kind ≤ 1) × (number ≡ 0)) ⊎ (kind ≡ 2)
      go true t h = inl (leb-true kind 1 t, eqb-true number 0 h)
      go false t h = inr (eqb-true kind 2 h)

  -- a right that a developer has not is of a seat of kind 0 or 1
  module _ (right : Seat → Bool) (not_developers : right (At number) ≡ false) (e : seat_may right kind number ≡ true) where
    parts : (is_seat kind number ≡ true) × (right (seat_by kind number) ≡ true)
    unfolding seat_may
    parts = and_true (is_seat kind number) (right (seat_by kind number)) e

    first_kinds : kind ≤ 1
    first_kinds = go (eqb kind 0) refl (eqb kind 1) refl parts.1
      where
        go :
            (b : Bool) → eqb kind 0 ≡ b → (d : Bool) → eqb kind 1 ≡ d → right (cond b Auctioneer (cond d Auditor (At number))) ≡ true → kind ≤ 1
        go true t d u h = omega (arith, eqb-true kind 0 t)
        go false t true u h = omega (arith, eqb-true kind 1 u)
        go false t false u h = absurd (clash h not_developers)

    no_number : number ≡ 0
    no_number = unnumbered first_kinds parts.0

  conducts : seat_may may_conduct kind number ≡ true → (kind ≡ 0) × (number ≡ 0)
  conducts e = (go (eqb kind 0) refl (eqb kind 1) (parts may_conduct refl e).1, no_number may_conduct refl e)
    where
      go : (b : Bool) → eqb kind 0 ≡ b → (d : Bool) → may_conduct (cond b Auctioneer (cond d Auditor (At number))) ≡ true → kind ≡ 0
      go true t d h = eqb-true kind 0 t
      go false t true h = absurd (false≢true h)
      go false t false h = absurd (false≢true h)

  settles_right : kind ≤ 1 → number ≡ 0 → seat_may may_settle kind number ≡ true
  unfolding seat_may
  settles_right h e = rw (unnumbered_seat h e)
      (⊎_elim (λ g. let z : kind ≡ 0 = omega arith in rw z) (λ g. let z : kind ≡ 1 = omega arith in rw z) (le_or_lt kind 0))

  conducts_right : kind ≡ 0 → number ≡ 0 → seat_may may_conduct kind number ≡ true
  unfolding seat_may is_seat
  conducts_right h e = rw (h, e)

pub who_may : WhoMay
who_may = record {
  looks = λ kind number. (conducts kind number, (λ t. conducts_right kind number t.0 t.1));
  settles = λ kind number. (
    (λ e. (first_kinds kind number may_settle refl e, no_number kind number may_settle refl e)),
    (λ t. settles_right kind number t.0 t.1),
  );
  reads = λ kind number. (seated kind number, (λ t. ⊎_elim (λ s. unnumbered_seat kind number s.0 s.1) (developer_seat kind number) t));
}
