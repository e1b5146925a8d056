-- What is told, by the tests: a refusal of the game, no byte for the move, or the outcome with the move's byte.
use Prim.Native.Nat.{ℕ, ◌<◌}
use mathlib.Core.Path.{◌≡◌, refl, sym, ap, ◌∙◌}
use Rattle.std.specs.Int.{from_bool}
use mathlib.Core.List.{List, [], ◌∷◌}
use native.Mathlib.Omega.{arith}
use borrow.Author.Tests.{eq-eqb, ne_eqb, lt-ltb}
use lib.ListN.{length, set}
use Rattle.rules_numbers.specs.Tails.{laid}
use Rattle.rules_auction.specs.Ledger.{Call, Ledger}
use Rattle.rules_auction.specs.Rounds.{ledger}
use Rattle.rules_forcing.specs.Game.{GameMove, Keep, Withdraw}
use Rattle.rules_forcing.specs.Forcing.{forcing_refusal, forced_outcome, first_move}
use Rattle.engine_auction.specs.Holds.{held_auction}
use Rattle.engine_auction.specs.declared.Auction.{Auction}
use Rattle.engine_looks.specs.rivals.Plain.{withdraws_by}
use Rattle.engine_looks.specs.forcing.Forces.{Forced, ForcesPrice}
use Rattle.record_replay.specs.record_forcing.Chosen.{Told, told_refusal, told_outcome, move_byte, chosen_in, Tells}

first_byte_lem : (b : ℕ) (old : List ℕ) → 0 < length old → set old 0 b ≡ laid (b ∷ []) old
unfolding laid
first_byte_lem b [] h = absurd (omega arith)
first_byte_lem b (x ∷ old) h = refl

move_byte_lem : (m : GameMove) → from_bool (withdraws_by m) ≡ move_byte m
unfolding withdraws_by
move_byte_lem Keep = refl
move_byte_lem Withdraw = refl

-- by the number told
module _ (l : Ledger) (m n : ℕ) (ps old : List ℕ) (r : Told) (e : r.number ≡ told_refusal l m n ps (length old)) where
  tells_refusal : (r.number ≡ 0 → ⊥) → r.outcome ≡ 0 → Tells l m n ps old old r
  unfolding told_outcome chosen_in
  tells_refusal z o =
      let t = ne_eqb (told_refusal l m n ps (length old)) 0 (λ y. z (e ∙ y)) in
      record { number = e; outcome = o ∙ rw t; buffer = rw t }

  tells_outcome : r.number ≡ 0 → 0 < length old → r.outcome ≡ forced_outcome l m n ps
      → Tells l m n ps old (set old 0 (move_byte (first_move l m n ps))) r
  unfolding told_outcome chosen_in
  tells_outcome z h o =
      let t = eq-eqb (told_refusal l m n ps (length old)) 0 (sym e ∙ z) in
      record { number = e; outcome = o ∙ rw t; buffer = first_byte_lem (move_byte (first_move l m n ps)) old h ∙ rw t }

-- what the game tells of the auction
module _ (a : Auction) (cs : List Call) (m n : ℕ) (ps old : List ℕ) (f : Forced) (h : a ≡ held_auction (ledger cs)) (w : ForcesPrice a m n ps f) where
  abbrev Tell : List ℕ → Told → Type 0
  Tell new r = Tells (ledger cs) m n ps old new r

  abbrev told : ℕ → ℕ → Told
  told k v = record { number = k; outcome = v }

  pub tells_refused : (f.number ≡ 0 → ⊥) → Tell old (told f.number 0)
  unfolding told_refusal
  tells_refused z =
      let e = w.number cs h in
      tells_refusal (ledger cs) m n ps old _ (e ∙ rw (ne_eqb (forcing_refusal (ledger cs) m n ps) 0 (λ y. z (e ∙ y)))) z refl

  module _ (z : f.number ≡ 0) where
    game_number : forcing_refusal (ledger cs) m n ps ≡ 0
    game_number = sym (w.number cs h) ∙ z

    pub tells_no_room : length old ≡ 0 → Tell old (told 11 0)
    unfolding told_refusal
    tells_no_room k = tells_refusal (ledger cs) m n ps old _ (rw (game_number, k)) (omega arith) refl

    pub tells_forced : (b : ℕ) → (length old ≡ 0 → ⊥) → b ≡ from_bool f.withdraws → Tell (set old 0 b) (told 0 f.outcome)
    unfolding told_refusal
    tells_forced b k e =
        let g = w.answer cs h z in
        let is : b ≡ move_byte (first_move (ledger cs) m n ps) = e ∙ ap (λ (x : Forced). from_bool x.withdraws) g ∙ move_byte_lem (first_move (ledger cs) m n ps) in
        rw is (tells_outcome (ledger cs) m n ps old _ (rw (game_number, lt-ltb 0 (length old) (omega arith))) refl (omega arith)
        (ap (λ (x : Forced). x.outcome) g))
