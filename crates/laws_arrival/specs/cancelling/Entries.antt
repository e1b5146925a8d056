-- One developer's entry while a round is open: no call of others but the closing reads or changes it. So with another entry in its place they
-- are answered alike, and leave the same beside it.
use Rattle.std.specs.Prelude.{ℕ, ◌≡◌, Bool, eqb}
use Rattle.std.proofs.Math.Path.{refl, ap, fun_ext}
use Rattle.std.proofs.Common.{sym, ◌∙◌, arith, eqb-true, eq-eqb}
use Rattle.std.proofs.Math.Bool.{true, false, cond}
use Rattle.rules_numbers.specs.Cases.{never_true, clash}
use Rattle.rules_auction.specs.Ledger.{Move, Offer, Lodge, Cancel, agent_for, Call, SetUp, Register, Open, By, Close, Developer, Phase, Round, Ledger, put}
use Rattle.rules_auction.specs.Ledger.{with_developers, with_developer}
use Rattle.rules_auction.specs.Refusals.{is_fresh, is_ready, may_open, in_round, settings_ok, is_number, numbers_ok, declaration_ok, closing_ok, start_covered, check}
use Rattle.rules_auction.specs.Refusals.{move_refusal, refusal}
use Rattle.rules_auction.specs.Rounds.{moved, accepted, step, bare_answer, granted, answer}
use Rattle.laws_ledger.specs.reachable.Steps.{step_refused, answer_refused, by_step}
use Rattle.laws_ledger.specs.reachable.Held.{in_round_lem}
use Rattle.laws_arrival.specs.cancelling.TakenBack.{own}

-- ---- entries put one behind the other

pub apart : (k n : ℕ) → eqb k n ≡ false → eqb n k ≡ false
apart k n e = never_true (eqb n k) (λ t. clash (eq-eqb k n (sym (eqb-true n k t))) e)

pub put_at : (n : ℕ) (x : Developer) (f : ℕ → Developer) → put n x f n ≡ x
put_at n x f = ap (λ (b : Bool). cond b x (f n)) (eq-eqb n n refl)

pub put_beside : (n k : ℕ) (x : Developer) (f : ℕ → Developer) → eqb k n ≡ false → put n x f k ≡ f k
put_beside n k x f e = ap (λ (b : Bool). cond b x (f k)) e

pub put_back : (n : ℕ) (x : Developer) (f : ℕ → Developer) → put n (f n) (put n x f) ≡ f
put_back n x f = fun_ext (λ j. go j (eqb j n) refl)
  where
    go : (j : ℕ) (b : Bool) → eqb j n ≡ b → cond b (f n) (cond b x (f j)) ≡ f j
    go j true e = ap f (sym (eqb-true j n e))
    go j false e = refl

put_apart : (n k : ℕ) (x y : Developer) (f : ℕ → Developer) → eqb k n ≡ false → put k x (put n y f) ≡ put n y (put k x f)
put_apart n k x y f e = fun_ext (λ j. go j (eqb j n) refl (eqb j k) refl)
  where
    go : (j : ℕ) (b : Bool) → eqb j n ≡ b → (t : Bool) → eqb j k ≡ t → cond t x (cond b y (f j)) ≡ cond b y (cond t x (f j))
    go j true h true g = absurd (clash (eq-eqb k n (sym (eqb-true j k g) ∙ eqb-true j n h)) e)
    go j true h false g = refl
    go j false h t g = refl

-- ---- a call beside developer n's entry

-- whichever entry y stands in n's place
pub record Beside (n : ℕ) (l : Ledger) (c : Call) : Type 0 where
  pub next : (y : Developer) → step (with_developer l n y) c ≡ with_developer (step l c) n y
  pub answered : (y : Developer) → answer (with_developer l n y) c ≡ answer l c
  pub entry : (step l c).developers n ≡ l.developers n

-- a move of another developer's, in any phase
module _ (n : ℕ) (l : Ledger) (k : ℕ) (m : Move) (e : eqb k n ≡ false) where
  same_move : (y x : Developer) (o : Move) → move_refusal (with_developer l n y) k x o ≡ move_refusal l k x o
  unfolding move_refusal
  same_move y x (Offer ps qs) = refl
  same_move y x (Lodge ps qs) = refl
  same_move y x Cancel = refl

  pub same_number : (y : Developer) → refusal (with_developer l n y) (By k m) ≡ refusal l (By k m)
  unfolding refusal
  same_number y = same_move y _ m ∙ ap (λ (x : Developer). move_refusal l k x m) (put_beside n k y l.developers e)

  same_accepted : (y : Developer) → accepted (with_developer l n y) (By k m) ≡ with_developer (accepted l (By k m)) n y
  unfolding accepted
  same_accepted y =
      ap (λ (x : Developer). with_developers l (put k (moved x m) (put n y l.developers))) (put_beside n k y l.developers e)
      ∙ ap (with_developers l) (put_apart n k (moved (l.developers k) m) y l.developers e)

  pub move_beside : Beside n l (By k m)
  unfolding step answer granted accepted
  move_beside = record {
    next = λ y.
        ap (λ (v : ℕ). cond (eqb v 0) (accepted (with_developer l n y) (By k m)) (with_developer l n y)) (same_number y)
        ∙ go y (eqb (refusal l (By k m)) 0);
    answered = λ y. ap (λ (v : ℕ). cond (eqb v 0) (bare_answer 0) (bare_answer v)) (same_number y);
    entry = by_step (λ q. q.developers n ≡ l.developers n) l (By k m) refl (λ g. entry_stays);
  }
    where
      go : (y : Developer) (b : Bool) → cond b (accepted (with_developer l n y) (By k m)) (with_developer l n y)
          ≡ with_developer (cond b (accepted l (By k m)) l) n y
      go y true = same_accepted y
      go y false = refl

      entry_stays : (accepted l (By k m)).developers n ≡ l.developers n
      entry_stays = put_beside k n (moved (l.developers k) m) l.developers (apart k n e)

-- ---- a call aside of developer n, in an open round

pub record Aside (n : ℕ) (l : Ledger) (c : Call) : Type 0 where
  pub beside : Beside n l c
  pub round : in_round (step l c).phase ≡ true

module _ (n : ℕ) (l : Ledger) (r : in_round l.phase ≡ true) where
  -- refused, with or without
  refused_aside : (c : Call) (k : ℕ) → (k ≡ 0 → ⊥) → ((m : Ledger) → m.phase ≡ l.phase → refusal m c ≡ k) → Aside n l c
  refused_aside c k z h =
      let same : step l c ≡ l = step_refused l c (λ e. z (sym (h l refl) ∙ e)) in
      record {
        beside = record {
          next = λ y.
              step_refused (with_developer l n y) c (λ e. z (sym (h (with_developer l n y) refl) ∙ e))
              ∙ ap (λ (m : Ledger). with_developer m n y) (sym same);
          answered = λ y. alike (with_developer l n y) refl ∙ sym (alike l refl);
          entry = ap (λ (m : Ledger). m.developers n) same;
        };
        round = rw same r;
      }
    where
      alike : (m : Ledger) → m.phase ≡ l.phase → answer m c ≡ bare_answer k
      alike m e = answer_refused m c (λ g. z (sym (h m e) ∙ g)) ∙ ap bare_answer (h m e)

  move_aside : (k : ℕ) (m : Move) → eqb k n ≡ false → Aside n l (By k m)
  unfolding accepted
  move_aside k m e = record { beside = move_beside n l k m e; round = by_step (λ q. in_round q.phase ≡ true) l (By k m) r (λ g. r) }

  -- one that no phase but others accepts
  barred : (c : Call) (t : Phase → Bool) (next : Ledger → ℕ) → t Round ≡ false → ((m : Ledger) → refusal m c ≡ check (t m.phase) 2 (next m)) → Aside n l c
  barred c t next e f =
      refused_aside c 2 (λ z. omega arith) (λ m g. f m ∙ ap (λ (b : Bool). check b 2 (next m)) (ap t (g ∙ in_round_lem l.phase r) ∙ e))

  -- every call of others but the closing
  pub aside : (c : Call) → own n c ≡ false → (c ≡ Close → ⊥) → Aside n l c
  unfolding own refusal
  aside (SetUp s) o z = barred (SetUp s) is_fresh (λ m. check (settings_ok s) 1 0) refl (λ m. refl)
  aside (Register k w x) o z =
      barred (Register k w x) is_ready
      (λ m. check (numbers_ok x.project k (m.developers k).declared.project) 3 (check (is_number (agent_for k w)) 3 (check (declaration_ok m x) 4 0)))
      refl (λ m. refl)
  aside (Open c) o z = barred (Open c) may_open (λ m. check (closing_ok m c) 5 (check (start_covered m) 9 0)) refl (λ m. refl)
  aside (By k m) o z = move_aside k m o
  aside Close o z = absurd (z refl)
