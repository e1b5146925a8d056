-- PROMISED of the rounds (document 01, Rounds): at most A less the floor can be accepted, since every closing price lies below the one before, the
-- first below A.
use Rattle.std.specs.Prelude.{ℕ, ◌+◌, ◌-◌, ◌≤◌, ◌≡◌, refl, Bool, true, false, cond, List, [], ◌∷◌, eqb}
use Rattle.std.proofs.Common.{ap, arith, add-zero, add_assoc, eqb-true}
use Rattle.rules_numbers.specs.Cases.{never_true, clash}
use Rattle.rules_auction.specs.Ledger.{Call, SetUp, Register, Open, By, Close, Phase, Ledger, start}
use Rattle.rules_auction.specs.Refusals.{is_ready, floor, opening_price, refusal}
use Rattle.rules_auction.specs.Rounds.{accepted, step, step_all, ledger}
use Rattle.rules_auction.specs.RoundLaws.{by_phase_after}
use Rattle.laws_ledger.specs.Sound.{started}
use Rattle.laws_ledger.specs.reachable.Steps.{by_step}
use Rattle.laws_ledger.specs.reachable.Checks.{set_up_passed, open_passed, close_passed, closing_facts}
use Rattle.laws_ledger.specs.reachable.Held.{in_round_lem, by_may_open, started_not_fresh}
use Rattle.laws_ledger.specs.reachable.Reachable.{sound}

-- 1 for an accepted opening
unfoldable pub opened : Ledger → Call → ℕ
opened l (SetUp s) = 0
opened l (Register n w x) = 0
opened l (Open c) = cond (eqb (refusal l (Open c)) 0) 1 0
opened l (By n m) = 0
opened l Close = 0

unfoldable pub openings_from : Ledger → List Call → ℕ
openings_from l [] = 0
openings_from l (c ∷ cs) = opened l c + openings_from (step l c) cs

-- the accepted openings along a list of calls
unfoldable pub openings : List Call → ℕ
openings cs = openings_from start cs

-- ---- k rounds were opened so far

record SoFar (l : Ledger) (k : ℕ) : Type 0 where
  none : started l.phase ≡ false → k ≡ 0
  room : started l.phase ≡ true → k + l.closing ≤ l.settings.a

one_more : (l : Ledger) (c k : ℕ) → refusal l (Open c) ≡ 0 → SoFar l k → SoFar (accepted l (Open c)) (k + 1)
unfolding accepted opening_price
one_more l c k e h =
    let p = open_passed l c e in
    let below = (closing_facts l c p.closing).1 in
    let top = by_may_open From (λ f g. let z = f refl in omega arith) (λ f g. g refl) l.phase p.phase h.none h.room in
    record { none = λ f. absurd (clash refl f); room = λ f. omega arith }
  where
    From : Phase → Type 0
    From q = (started q ≡ false → k ≡ 0) → (started q ≡ true → k + l.closing ≤ l.settings.a) →
        k + cond (is_ready q) l.settings.a l.closing ≤ l.settings.a

-- a call that opens no round
still : (l : Ledger) (c : Call) (k : ℕ) → SoFar l k → (refusal l c ≡ 0 → SoFar (accepted l c) k) → SoFar (step l c) (k + 0)
still l c k h g = rw add-zero (by_step (λ m. SoFar m k) l c h g)

so_far_step : (l : Ledger) (c : Call) (k : ℕ) → SoFar l k → SoFar (step l c) (k + opened l c)
unfolding step opened accepted
so_far_step l (SetUp s) k h =
    still l (SetUp s) k h (λ e. record {
      none = λ f. h.none
          (never_true (started l.phase) (λ t. clash (set_up_passed l s e).phase (started_not_fresh l.phase t)));
      room = λ f. absurd (clash f refl);
    })
so_far_step l (Register n w x) k h = still l (Register n w x) k h (λ e. record { none = h.none; room = h.room })
so_far_step l (Open c) k h = go (eqb (refusal l (Open c)) 0) refl
  where
    go : (b : Bool) → eqb (refusal l (Open c)) 0 ≡ b → SoFar (cond b (accepted l (Open c)) l) (k + cond b 1 0)
    go true e = one_more l c k (eqb-true (refusal l (Open c)) 0 e) h
    go false e = rw add-zero h
so_far_step l (By n m) k h = still l (By n m) k h (λ e. record { none = h.none; room = h.room })
so_far_step l Close k h = still l Close k h (λ e. record {
  none = λ f. absurd (clash (by_phase_after l (λ q. started q ≡ true) refl refl) f);
  room = λ f. h.room (ap started (in_round_lem l.phase (close_passed l e).phase));
})

so_far : (l : Ledger) (cs : List Call) (k : ℕ) → SoFar l k → SoFar (step_all l cs) (k + openings_from l cs)
unfolding step_all openings_from
so_far l [] k h = rw add-zero h
so_far l (c ∷ cs) k h = rw (← add_assoc k (opened l c) (openings_from (step l c) cs)) (so_far (step l c) cs (k + opened l c) (so_far_step l c k h))

-- the accepted openings of every list of calls
pub openings_bounded : (cs : List Call) → openings cs ≤ (ledger cs).settings.a - floor (ledger cs)
unfolding openings ledger
openings_bounded cs = go (started (ledger cs).phase) refl
  where
    all : SoFar (ledger cs) (0 + openings cs)
    all = so_far start cs 0 (record { none = λ e. refl; room = λ e. absurd (clash e refl) })

    go : (b : Bool) → started (ledger cs).phase ≡ b → openings cs ≤ (ledger cs).settings.a - floor (ledger cs)
    go true e = let r = all.room e in let p = (sound cs).prices e in omega arith
    go false e = let z = all.none e in omega arith
