-- The call that a frame of each kind asks, and its arguments.
use Prim.Native.Nat.{ℕ, ◌<◌}
use mathlib.Core.Path.{◌≡◌, refl, sym, ap, ◌∙◌}
use mathlib.Core.Logic.{◌⊎◌, inl, inr, ⊎_elim}
use mathlib.Core.Bool.{Bool, true, false, ◌||◌}
use mathlib.Core.List.{List}
use Rattle.std.specs.Prelude.{Result}
use native.Mathlib.Omega.{arith}
use lib.Dec.{eqb}
use lib.ListN.{get_or, drop}
use borrow.Author.Tests.{eqb-true}
use Rattle.rules_format.specs.Fields.{fixed}
use Rattle.rules_auction.specs.Ledger.{Own, Named, Developer, Offer, Lodge, Cancel, Open, Ledger}
use Rattle.rules_replies.specs.Orders.{Asks, firsts, seconds, set_up_of, registration_of, registration_for_of, order_of}
use Rattle.frame_reading.specs.declared.frames.Frame.{Frame}
use Rattle.frame_reading.specs.arguments.FrameFields.{fields_in}
use Rattle.frame_reading.specs.arguments.FieldColumns.{below}
use Rattle.engine_held.specs.declared.history.History.{History}
use Rattle.engine_refusals.specs.declared.Refusal.{Refusal}
use Rattle.engine_checks.specs.declared.clock.Clock.{Clock}
use Rattle.engine_moves.specs.moves.Entries.{Moves}
use Rattle.engine_auction.specs.Called.{sets_up, registers_by}
use Rattle.engine_auction.specs.Decided.{AnswersClock, with_round, Enters}
use Rattle.engine_auction.specs.declared.Auction.{Auction}
use Rattle.engine_auction.specs.declared.Newcomer.{Newcomer}
use Rattle.record_lines.specs.line_calls.Decisions.{is_move, MoveFrame, RegistrationFrame, ClockFrame, developer_of}
use Rattle.record_lines.specs.line_calls.Decisions.{DecidesMove, DecidesRegistration, DecidesClock}
use Rattle.record_lines.specs.line_calls.DecisionLaws.{framed, ordered_as}

-- one of two kinds
either : (k x y : ℕ) → eqb k x || eqb k y ≡ true → (k ≡ x) ⊎ (k ≡ y)
either k x y = go (eqb k x) refl
  where
    go : (b : Bool) → eqb k x ≡ b → b || eqb k y ≡ true → (k ≡ x) ⊎ (k ≡ y)
    go true w e = inl (eqb-true k x w)
    go false w e = inr (eqb-true k y e)

-- 4, 9 or 7
pub moves_kinds : (k : ℕ) → is_move k ≡ true → (k ≡ 4) ⊎ ((k ≡ 9) ⊎ (k ≡ 7))
moves_kinds k = go (eqb k 4) refl
  where
    go : (b : Bool) → eqb k 4 ≡ b → b || (eqb k 9 || eqb k 7) ≡ true → (k ≡ 4) ⊎ ((k ≡ 9) ⊎ (k ≡ 7))
    go true w e = inl (eqb-true k 4 w)
    go false w e = inr (either k 9 7 e)

pub developer_below : (f : Frame) → MoveFrame f → developer_of f < 256
unfolding fixed
developer_below f w =
    ⊎_elim (λ e. below 4 f (framed 4 f w.reads (λ z. omega arith) e) 0 256 refl)
    (λ q. ⊎_elim (λ e. below 9 f (framed 9 f w.reads (λ z. omega arith) e) 0 256 refl)
    (λ e. below 7 f (framed 7 f w.reads (λ z. omega arith) e) 0 256 refl) q)
    (moves_kinds f.kind w.kind)

-- neither a cancellation nor an offer
pub lodges : (f : Frame) → MoveFrame f → (f.kind ≡ 9 → ⊥) → (f.kind ≡ 4 → ⊥) → f.kind ≡ 7
lodges f w n9 n4 = ⊎_elim (λ e. absurd (n4 e)) (λ q. ⊎_elim (λ e. absurd (n9 e)) (λ e. e) q) (moves_kinds f.kind w.kind)

-- not named, its agent is the developer
pub owns : (f : Frame) → RegistrationFrame f → (f.kind ≡ 8 → ⊥) → f.kind ≡ 2
owns f w n = ⊎_elim (λ e. e) (λ e. absurd (n e)) (either f.kind 2 8 w.kind)

pub sets_up_lem : (f : Frame) → ClockFrame f → (f.kind ≡ 3 → ⊥) → f.kind ≡ 1
sets_up_lem f w n = ⊎_elim (λ e. absurd (n e)) (λ e. e) (either f.kind 3 1 w.kind)

-- ---- moves

module _ (f : Frame) (held : Ledger → Developer → Type 0) (n k : ℕ) (h : History) (en : n ≡ developer_of f) where
  pub cancel_decided : f.kind ≡ 9 → Moves n Cancel held k h → DecidesMove f held k h
  unfolding order_of
  cancel_decided e w = record {
    move = Cancel;
    asked = record { order = ordered_as f 9 _ (λ z. omega arith) e refl; kind = sym e; bare = λ z. omega arith };
    moves = rw en at w;
  }

  module _ (ps qs : List ℕ) (ep : ps ≡ firsts (drop 2 (fields_in f))) (eq : qs ≡ seconds (drop 2 (fields_in f))) where
    pub offer_decided : f.kind ≡ 4 → Moves n (Offer ps qs) held k h → DecidesMove f held k h
    unfolding order_of
    offer_decided e w = record {
      move = Offer (firsts (drop 2 (fields_in f))) (seconds (drop 2 (fields_in f)));
      asked = record { order = ordered_as f 4 _ (λ z. omega arith) e refl; kind = sym e; bare = λ z. omega arith };
      moves = rw (en, ep, eq) at w;
    }

    pub lodge_decided : f.kind ≡ 7 → Moves n (Lodge ps qs) held k h → DecidesMove f held k h
    unfolding order_of
    lodge_decided e w = record {
      move = Lodge (firsts (drop 2 (fields_in f))) (seconds (drop 2 (fields_in f)));
      asked = record { order = ordered_as f 7 _ (λ z. omega arith) e refl; kind = sym e; bare = λ z. omega arith };
      moves = rw (en, ep, eq) at w;
    }

-- ---- registrations

module _ (f : Frame) (a : Auction) (k n kind g study day : ℕ) (ls : List ℕ) (r : Result Newcomer Refusal) (w : Enters a k n kind g study day ls r)
    (ek : k ≡ get_or (fields_in f) 0 0) (en : n ≡ get_or (fields_in f) 1 0) (eh : kind ≡ get_or (fields_in f) 2 0) where
  -- 02
  pub own_decided : f.kind ≡ 2 → n ≡ g → study ≡ get_or (fields_in f) 3 0 → day ≡ get_or (fields_in f) 4 0 → ls ≡ drop 6 (fields_in f) →
      DecidesRegistration f a r
  unfolding order_of
  own_decided e eg es ed el =
      let is : registers_by Own k n kind study day ls ≡ registration_of (fields_in f) = rw (ek, en, eh, es, ed, el) in
      record {
        call = registers_by Own k n kind study day ls;
        asked = record { order = ordered_as f 2 _ (λ z. omega arith) e refl ∙ ap Asks (sym is); kind = sym e; bare = λ z. omega arith };
        inside = w.inside;
        entered = λ b. w.entered Own eg b;
      }

  -- 08
  pub named_decided : f.kind ≡ 8 → g ≡ get_or (fields_in f) 3 0 → study ≡ get_or (fields_in f) 4 0 → day ≡ get_or (fields_in f) 5 0 → ls ≡ drop 7 (fields_in f) →
      DecidesRegistration f a r
  unfolding order_of
  named_decided e eg es ed el =
      let is : registers_by (Named g) k n kind study day ls ≡ registration_for_of (fields_in f) = rw (ek, en, eh, eg, es, ed, el) in
      record {
        call = registers_by (Named g) k n kind study day ls;
        asked = record { order = ordered_as f 8 _ (λ z. omega arith) e refl ∙ ap Asks (sym is); kind = sym e; bare = λ z. omega arith };
        inside = w.inside;
        entered = λ b. w.entered (Named g) refl b;
      }

-- ---- the clock

module _ (f : Frame) (x : Auction) (r : Result Clock Refusal) where
  pub open_decided : (n : ℕ) → n ≡ get_or (fields_in f) 0 0 → f.kind ≡ 3 → ((b : Auction) → AnswersClock (Open n) (with_round b x) r) → DecidesClock f x r
  unfolding order_of
  open_decided n en e w = record {
    call = Open n;
    asked = record { order = ordered_as f 3 _ (λ z. omega arith) e refl ∙ ap (λ (m : ℕ). Asks (Open m)) (sym en); kind = sym e; bare = λ z. omega arith };
    answers = w;
  }

  pub set_up_decided : (ce d m1 m2 a : ℕ) → ce ≡ get_or (fields_in f) 0 0 → d ≡ get_or (fields_in f) 1 0 → m1 ≡ get_or (fields_in f) 2 0 → m2 ≡ get_or (fields_in f) 3 0 →
      a ≡ get_or (fields_in f) 4 0 → f.kind ≡ 1 →
      ((b : Auction) → AnswersClock (sets_up ce d m1 m2 a) (with_round b x) r) → DecidesClock f x r
  unfolding order_of
  set_up_decided ce d m1 m2 a ec ed e1 e2 ea e w =
      let is : sets_up ce d m1 m2 a ≡ set_up_of (fields_in f) = rw (ec, ed, e1, e2, ea) in
      record {
        call = sets_up ce d m1 m2 a;
        asked = record { order = ordered_as f 1 _ (λ z. omega arith) e refl ∙ ap Asks (sym is); kind = sym e; bare = λ z. omega arith };
        answers = w;
      }
