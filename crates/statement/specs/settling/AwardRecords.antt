-- The parts of what is stated of an award: the developer that a level goes to, and the order of the records in the lent buffer.
use Rattle.std.specs.Prelude.{ℕ, suc, ◌+◌, ◌-◌, ◌*◌, ◌<◌, ◌≡◌, ◌⊎◌, true, length, get_or}
use mathlib.Core.List.{List, [], Memᴰ}
use Rattle.rules_auction.specs.Ledger.{Ledger}
use Rattle.rules_auction.specs.Clearing.{developers_of}
use Rattle.rules_auction.specs.Award.{award, open_to_developer}
use Rattle.rules_auction.specs.Participation.{Grant}
use Rattle.laws_ledger.specs.awards.Winners.{PreferredTo}

-- the level of project k in the award at p
abbrev pub awarded_level : Ledger → ℕ → ℕ → ℕ
awarded_level l p k = get_or (award l p) (k - 1) 0

-- the level v of project k goes to developer n: one of the project's to whom it is open, preferred to each other such one by study value,
-- then start day, then number
pub record Goes (l : Ledger) (p k v n : ℕ) : Type 0 where
  pub developer : Memᴰ n (developers_of l k)
  pub is_open : open_to_developer p (l.developers n) v ≡ true
  pub preferred : (m : ℕ) → Memᴰ m (developers_of l k) → open_to_developer p (l.developers m) v ≡ true → (m ≡ n) ⊎ PreferredTo l n m

abbrev pub first_byte : List ℕ → ℕ
first_byte bytes = get_or bytes 0 0

-- the quantity of a record: its last four bytes, the high byte first
abbrev pub quantity_of : List ℕ → ℕ
quantity_of bytes = ((get_or bytes 2 0 * 256 + get_or bytes 3 0) * 256 + get_or bytes 4 0) * 256 + get_or bytes 5 0

-- what a record grants: that quantity, to the developer of its second byte
abbrev pub granted : List ℕ → Grant
granted bytes = record { developer = get_or bytes 1 0; quantity = quantity_of bytes }

-- the records stand by rising project number: the first byte of each, its project, is below that of the next (document 02, 8)
abbrev pub ByRisingProject : List (List ℕ) → Type 0
ByRisingProject rs = (i : ℕ) → suc i < length rs → first_byte (get_or rs i []) < first_byte (get_or rs (suc i) [])
