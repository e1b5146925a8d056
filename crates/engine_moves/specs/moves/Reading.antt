-- What is held of a developer, read as its entry in the ledger; and the number of a move by what is read so.
use Rattle.std.specs.Prelude.{ℕ, zero, suc, ◌≡◌, Bool, []}
use Rattle.rules_auction.specs.Ledger.{Standing, none, made, Move, Developer, Ledger}
use Rattle.rules_auction.specs.Refusals.{is_number, move_refusal}
use Rattle.engine_held.specs.levels.Held.{levels_in}
use Rattle.engine_moves.specs.moves.Entries.{Entry}

-- whether an offer stands, by its number; which steps it has is not read
abbrev pub standing_in : ℕ → Standing
standing_in zero = none
standing_in (suc k) = made []

abbrev pub entry_in : Entry → Developer
entry_in e = record {
  declared = record { project = 0; kind = e.kind; study = 0; day = 0; levels = levels_in e.declared };
  agent = 0;
  quantity = e.quantity;
  withdrawals = [];
  offer = standing_in e.history.offered;
  lodged = [];
}

-- of every developer n with this entry, where v says whether n is one of 1 to 32
pub record MoveNumber (v : Bool) (l : Ledger) (x : Developer) (m : Move) (r : ℕ) : Type 0 where
  pub as_ruled : (n : ℕ) → v ≡ is_number n → r ≡ move_refusal l n x m
