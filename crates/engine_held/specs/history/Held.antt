-- How the engine holds a history: the withdrawals, behind them the steps of the standing offer, then the lodged steps not reached, zeros behind
-- them. And what the functions over histories ensure.
use Rattle.std.specs.Prelude.{ℕ, suc, ◌+◌, ◌≤◌, ◌≡◌, ◌⊎◌, Bool, true, cond, List, [], ◌∷◌, ◌++◌, leb, length}
use Rattle.rules_numbers.specs.Lists.{padded}
use Rattle.rules_auction.specs.Ledger.{Step, Standing, none, made}
use Rattle.rules_auction.specs.Clearing.{quantity_after}
use Rattle.rules_auction.specs.Refusals.{falling}
use Rattle.rules_auction.specs.Rounds.{steps, reached, unreached, last_level}
use Rattle.laws_ledger.specs.Sound.{prices_of, levels_of}
use Rattle.engine_held.specs.declared.history.History.{History}

abbrev pub pending : Standing → List Step
pending none = []
pending (made ss) = ss

-- 0 for no offer, else 1 more than its steps
abbrev pub held_offer : Standing → ℕ
held_offer none = 0
held_offer (made ss) = suc (length ss)

-- the withdrawals ws, behind them the steps of the standing offer, then the lodged steps ls
abbrev pub held_history : List Step → Standing → List Step → History
held_history ws o ls = record {
  prices = padded 8 (prices_of (ws ++ (pending o ++ ls)));
  levels = padded 8 (levels_of (ws ++ (pending o ++ ls)));
  count = length ws;
  offered = held_offer o;
  lodged = length ls;
}

-- an offer's steps stand behind the withdrawals
pub record Offered (h : History) (ps qs : List ℕ) (r : History) : Type 0 where
  pub offer_stands : (ws : List Step) → h ≡ held_history ws none [] → length ps ≡ length qs → length ws + length ps ≤ 8 →
      r ≡ held_history ws (made (steps ps qs)) []

-- no offer stands: the withdrawals alone, zeros behind them (document 02, 7)
pub record Cancelled (h r : History) : Type 0 where
  pub withdrawals_alone : (ws : List Step) (s : Standing) → h ≡ held_history ws s [] → length ws ≤ 8 → r ≡ held_history ws none []

-- what closing adds: the steps of the offer, or all at the opening price o where an offer is missing
abbrev pub additions : Bool → ℕ → Standing → List Step
additions missing o none = cond missing (record { price = o; level = 0 } ∷ []) []
additions missing o (made ss) = ss

-- one that may be missing has nothing lodged
pub record Applied (h : History) (missing : Bool) (o : ℕ) (r : History) : Type 0 where
  pub offer_applied :
      (ws : List Step) (s : Standing) (ls : List Step) → h ≡ held_history ws s ls → (missing ≡ true → ls ≡ []) → length ws + length (additions missing o s) ≤ 8 →
      r ≡ held_history (ws ++ additions missing o s) none ls

-- a lodged list alone
pub record Lodged (ps qs : List ℕ) (r : History) : Type 0 where
  pub list_alone : length ps ≡ length qs → length ps ≤ 8 → r ≡ held_history [] none (steps ps qs)

-- how many of the lodged steps a closing at c reaches: they fall from below the opening price o, and no offer stands where there are any
pub record ReachedCount (h : History) (c r : ℕ) : Type 0 where
  pub reached_number :
      (ws : List Step) (s : Standing) (ls : List Step) (f o : ℕ) → h ≡ held_history ws s ls → (s ≡ none) ⊎ (ls ≡ []) → falling f o (prices_of ls) ≡ true →
      length ws + length ls ≤ 8 → r ≡ length (reached c o ls)

-- and they then stand as withdrawals
pub record Reached (h : History) (c : ℕ) (r : History) : Type 0 where
  pub reached_withdrawn :
      (ws : List Step) (s : Standing) (ls : List Step) (f o : ℕ) → h ≡ held_history ws s ls → (s ≡ none) ⊎ (ls ≡ []) → falling f o (prices_of ls) ≡ true →
      length ws + length ls ≤ 8 → r ≡ held_history (ws ++ reached c o ls) s (unreached c o ls)

-- the level of the last withdrawal, or q of none
pub record LastLevel (h : History) (q r : ℕ) : Type 0 where
  pub last_level_lem : (ws ls : List Step) → h ≡ held_history ws none ls → length ws ≤ 8 → r ≡ last_level q ws

-- the quantity after all withdrawals at p or above, q at first
pub record LevelAt (h : History) (q p r : ℕ) : Type 0 where
  pub level_at : (ws : List Step) (s : Standing) (ls : List Step) → h ≡ held_history ws s ls → length ws ≤ 8 → r ≡ quantity_after (leb p) q ws
