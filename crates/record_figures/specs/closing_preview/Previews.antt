-- What a preview of a closing ensures, written into lent numbers. `a` is the auction; `old` and `new` are what was lent before and after, and n is the number
-- returned. On every value of the struct a refusal leaves all that was lent; and for every list of calls whose ledger the auction holds, the number and every
-- lent number are those of its figures.
use Rattle.std.specs.Prelude.{ℕ, ◌≡◌, List}
use Rattle.rules_auction.specs.Ledger.{Call}
use Rattle.rules_auction.specs.Rounds.{ledger}
use Rattle.rules_auction.specs.Preview.{preview}
use Rattle.rules_seats.specs.figures.Figures.{preview_refusal, preview_figures}
use Rattle.engine_auction.specs.Holds.{held_auction}
use Rattle.engine_auction.specs.declared.Auction.{Auction}
use Rattle.figure_writing.specs.lent_numbers.Lent.{GivesFigures}

pub record WritesPreview (a : Auction) (old new : List ℕ) (n : ℕ) : Type 0 where
  pub same : (n ≡ 0 → ⊥) → new ≡ old
  pub preview_is : (cs : List Call) → a ≡ held_auction (ledger cs) → GivesFigures (preview_refusal (ledger cs)) (preview_figures (preview (ledger cs))) old new n
