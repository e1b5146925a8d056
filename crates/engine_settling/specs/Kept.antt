-- A settlement that is kept for later settlings: a closed auction never changes again.
use Rattle.std.specs.Prelude.{ℕ, min, ◌≡◌, leb}
use mathlib.Core.List.{List, flatten}
use Rattle.rules_numbers.specs.Tails.{laid}
use Rattle.rules_auction.specs.Ledger.{Ledger}
use Rattle.rules_auction.specs.Refusals.{check}
use Rattle.rules_auction.specs.Settling.{settlement, settling_refusal}
use Rattle.engine_settling.specs.Settles.{Settled, settled_as}

-- the number of another settling into as many bytes, by the choices that were counted: 10 or 0
abbrev pub refusal_again : Settled → ℕ → ℕ
refusal_again s limit = check (leb s.choices (min limit 65536)) 10 0

-- a settling into a buffer of so many bytes was accepted, for some limit: s is its answer, and its records stand at the start of the bytes
pub record Kept (l : Ledger) (room : ℕ) (s : Settled) (bytes : List ℕ) : Type 0 where
  pub limit : ℕ
  pub taken : settling_refusal l limit room ≡ 0
  pub answer : s ≡ settled_as (settlement l)
  pub old : List ℕ
  pub buffer : bytes ≡ laid (flatten (settlement l).records) old
