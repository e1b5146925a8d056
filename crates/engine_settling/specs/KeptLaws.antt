-- Laws of a kept settlement: an accepted settling leaves one; it holds whatever calls follow; and of a later settling only the limit is left to
-- test.
use Prim.Native.Nat.{ℕ, min, ◌*◌}
use Rattle.std.specs.Prelude.{◌≡◌, List, ◌++◌}
use Rattle.std.proofs.Math.Path.{refl}
use Rattle.std.proofs.Common.{sym, ap, ◌∙◌, subst, arith}
use Rattle.std.proofs.Math.Bool.{Bool, true, false}
use Rattle.std.proofs.Math.Dec.{leb}
use Rattle.std.proofs.Math.ListN.{length}
use Rattle.rules_auction.specs.Ledger.{Call, Ledger}
use Rattle.rules_auction.specs.Award.{admissible}
use Rattle.rules_auction.specs.Clearing.{closing_price}
use Rattle.rules_auction.specs.Refusals.{check, is_closed}
use Rattle.rules_auction.specs.Rounds.{ledger}
use Rattle.rules_auction.specs.Settling.{records, settlement_at, settlement, settling_refusal}
use Rattle.laws_ledger.specs.reachable.Closed.{ledger_closed}
use Rattle.engine_auction.specs.Holds.{held_auction}
use Rattle.engine_auction.specs.declared.Auction.{Auction}
use Rattle.engine_settling.specs.Settles.{Settled, Settles, settled_as}
use Rattle.engine_settling.specs.Kept.{refusal_again, Kept}

-- accepted for one limit
module _ (l : Ledger) (limit room : ℕ) (taken : settling_refusal l limit room ≡ 0) where
  pub accepted_closed : is_closed l.phase ≡ true
  unfolding settling_refusal
  accepted_closed = go (is_closed l.phase) _ taken
    where
      go : (b : Bool) (next : ℕ) → check b 2 next ≡ 0 → b ≡ true
      go true next e = refl
      go false next e = absurd (omega arith)

  pub refusal_again_lem : (other : ℕ) → settling_refusal l other room ≡ refusal_again (settled_as (settlement l)) other
  unfolding settling_refusal settlement settlement_at
  refusal_again_lem other = go (is_closed l.phase) (within limit) (leb (6 * length (records l (closing_price l))) room) (within other) taken
    where
      within : ℕ → Bool
      within n = leb (length (admissible l (closing_price l))) (min n 65536)

      go : (x y z t : Bool) → check x 2 (check y 10 (check z 11 0)) ≡ 0 → check x 2 (check t 10 (check z 11 0)) ≡ check t 10 0
      go true true true t e = refl
      go true true false t e = absurd (omega arith)
      go true false z t e = absurd (omega arith)
      go false y z t e = absurd (omega arith)

-- an accepted settling leaves one
pub kept : {a : Auction} {limit : ℕ} {old new : List ℕ} {s : Settled} → Settles a limit old new s → s.number ≡ 0
    → (cs : List Call) → a ≡ held_auction (ledger cs) → Kept (ledger cs) (length old) s new
kept {a} {limit} {old} {new} {s} w z cs h = record {
  limit = limit;
  taken = sym (w.number cs h) ∙ z;
  answer = w.answer cs h z;
  old = old;
  buffer = w.buffer cs h z;
}

-- whatever calls follow
pub kept_calls : (cs ds : List Call) {room : ℕ} {s : Settled} {bytes : List ℕ} → Kept (ledger cs) room s bytes → Kept (ledger (cs ++ ds)) room s bytes
kept_calls cs ds {room} {s} {bytes} k =
    subst (λ (l : Ledger). Kept l room s bytes) (sym (ledger_closed cs ds (accepted_closed (ledger cs) k.limit room k.taken))) k

-- another settling
pub kept_number : {l : Ledger} {room : ℕ} {s : Settled} {bytes : List ℕ} → Kept l room s bytes
    → (other : ℕ) → settling_refusal l other room ≡ refusal_again s other
kept_number {l} {room} {s} k other =
    refusal_again_lem l k.limit room k.taken other ∙ ap (λ (x : Settled). refusal_again x other) (sym k.answer)
