-- A ledger from which developers are taken out.
use Rattle.std.specs.Prelude.{ℕ, ◌≡◌, refl, ◌⊎◌}
use Rattle.std.proofs.Common.{inr}
use Rattle.rules_auction.specs.Ledger.{Ledger, nobody}

-- m has the settings and the last C of l, and of l's developers those that are not taken out
pub record Part (l m : Ledger) : Type 0 where
  pub settings : m.settings ≡ l.settings
  pub closing : m.closing ≡ l.closing
  pub each : (n : ℕ) → (m.developers n ≡ nobody) ⊎ (m.developers n ≡ l.developers n)

-- with nobody taken out
pub whole : (l : Ledger) → Part l l
whole l = record { settings = refl; closing = refl; each = λ n. inr refl }
