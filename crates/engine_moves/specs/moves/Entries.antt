-- A move decided over the clock and what is held of one developer: the rule's number, and the developer's next history.
use Rattle.std.specs.Prelude.{ℕ, suc, ◌≡◌, Bool, []}
use Rattle.rules_auction.specs.Ledger.{Move, By, Developer, Ledger}
use Rattle.rules_auction.specs.Refusals.{is_number, refusal}
use Rattle.rules_auction.specs.Rounds.{step}
use Rattle.laws_ledger.specs.Sound.{Sound}
use Rattle.engine_held.specs.supply.ByProject.{place_of}
use Rattle.engine_held.specs.levels.Held.{held_levels}
use Rattle.engine_held.specs.declared.levels.Levels.{Levels}
use Rattle.engine_held.specs.declared.history.History.{History}
use Rattle.engine_moves.specs.closing_entries.Courses.{held_course}
use Rattle.engine_checks.specs.clock.Held.{held_clock}
use Rattle.engine_checks.specs.declared.clock.Clock.{Clock}
use Rattle.engine_moves.specs.declared.moves.Entry as lent

-- what an array of histories has behind its end
abbrev pub no_history : History
no_history = record { prices = []; levels = []; count = 0; offered = 0; lodged = 0 }

-- whoever stands at n's place: developer n, or the first for a number that is none
abbrev pub seat : ℕ → ℕ
seat n = suc (place_of n)

-- what an entry holds, as it is where it is lent
pub record Entry : Type 0 where
  pub kind : ℕ
  pub declared : Levels
  pub quantity : ℕ
  pub history : History

abbrev pub entry_of : lent.Entry → Entry
entry_of e = record { kind = e.kind; declared = e.declared.now; quantity = e.quantity; history = e.history.now }

-- what is held of a developer
abbrev pub held_entry : Developer → Entry
held_entry x = record { kind = x.declared.kind; declared = held_levels x.declared.levels; quantity = x.quantity; history = held_course x }

-- what is held of the ledger's clock, and of the entry x
pub record Held (t : Clock) (e : Entry) (l : Ledger) (x : Developer) : Type 0 where
  pub clock : t ≡ held_clock l
  pub entry : e ≡ held_entry x

-- ---- what a move reads: a clock or an entry with these parts of another; with its own, itself

-- the phase, for a cancellation
abbrev pub with_phase : Clock → Clock → Clock
with_phase t now = record { phase = now.phase; settings = t.settings; opening = t.opening; closing = t.closing }

-- the phase and the settings, for a lodged list
abbrev pub with_settings : Clock → Clock → Clock
with_settings t now = record { phase = now.phase; settings = now.settings; opening = t.opening; closing = t.closing }

-- the phase and the round's prices, for an offer, which reads the whole entry
abbrev pub with_prices : Clock → Clock → Clock
with_prices t now = record { phase = now.phase; settings = t.settings; opening = now.opening; closing = now.closing }

-- the kind and the history, for a cancellation
abbrev pub with_history : Entry → Entry → Entry
with_history e now = record { kind = now.kind; declared = e.declared; quantity = e.quantity; history = now.history }

-- the kind, the declared levels and the history, for a lodged list
abbrev pub with_declared : Entry → Entry → Entry
with_declared e now = record { kind = now.kind; declared = now.declared; quantity = e.quantity; history = now.history }

-- ---- a move decided

-- k is the number of n's move, and h the history behind it at n's place
pub record MovedTo (l : Ledger) (n : ℕ) (m : Move) (k : ℕ) (h : History) : Type 0 where
  pub number : k ≡ refusal l (By n m)
  pub history : h ≡ held_course ((step l (By n m)).developers (seat n))

-- for every sound ledger of which this is held, with the entry at n's place
pub record Moves (n : ℕ) (m : Move) (held : Ledger → Developer → Type 0) (k : ℕ) (h : History) : Type 0 where
  pub moves_as_ruled : (l : Ledger) → Sound l → held l (l.developers (seat n)) → MovedTo l n m k h

-- for every developer n, where v says whether n is one of 1 to 32
abbrev pub Decides : Bool → Move → (Ledger → Developer → Type 0) → ℕ → History → Type 0
Decides v m held k h = (n : ℕ) → v ≡ is_number n → Moves n m held k h
