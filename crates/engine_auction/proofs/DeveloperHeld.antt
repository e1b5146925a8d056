-- What the auction holds of developer n, at place n - 1 of each array.
use Prim.Native.Nat.{ℕ, ◌-◌, ◌≤◌}
use mathlib.Core.Path.{◌≡◌, ap, ◌∙◌}
use lib.Dec.{eqb}
use lib.ListN.{get_or}
use Rattle.rules_auction.specs.Ledger.{Ledger}
use Rattle.rules_auction.specs.Refusals.{is_number, is_of_kind}
use Rattle.rules_auction.specs.CheckLaws.{is_number_lem}
use Rattle.engine_held.specs.levels.Held.{held_levels}
use Rattle.engine_held.specs.declared.levels.Levels.{Levels}
use Rattle.engine_held.specs.declared.history.History.{History}
use Rattle.engine_auction.specs.declared.Auction.{Auction}
use Rattle.engine_auction.specs.Holds.{held_course, held_auction}
use Rattle.engine_moves.specs.closing_entries.Places.{each_at}
use Rattle.engine_auction.proofs.Calls.{where_true}

module _ (n : ℕ) (a : Auction) where
  module _ (l : Ledger) (h : a ≡ held_auction l) (low : 1 ≤ n) (high : n ≤ 32) where
    kind_at : get_or a.kinds (n - 1) 0 ≡ (l.developers n).declared.kind
    unfolding held_auction
    kind_at = ap (λ (x : Auction). get_or x.kinds (n - 1) 0) h ∙ each_at (λ x. x.declared.kind) l n 0 low high

    pub quantity_at_lem : get_or a.quantities (n - 1) 0 ≡ (l.developers n).quantity
    unfolding held_auction
    quantity_at_lem = ap (λ (x : Auction). get_or x.quantities (n - 1) 0) h ∙ each_at (λ x. x.quantity) l n 0 low high

    pub declared_at : (d : Levels) → get_or a.declared (n - 1) d ≡ held_levels (l.developers n).declared.levels
    unfolding held_auction
    declared_at d = ap (λ (x : Auction). get_or x.declared (n - 1) d) h ∙ each_at (λ x. held_levels x.declared.levels) l n d low high

    pub history_at : (d : History) → get_or a.histories (n - 1) d ≡ held_course (l.developers n)
    unfolding held_auction
    history_at d = ap (λ (x : Auction). get_or x.histories (n - 1) d) h ∙ each_at held_course l n d low high

  pub kind_is : (k : ℕ) (l : Ledger) → a ≡ held_auction l → is_of_kind k n (get_or a.kinds (n - 1) 0) ≡ is_of_kind k n (l.developers n).declared.kind
  unfolding is_of_kind
  kind_is k l h = where_true (is_number n) (λ e. let b = is_number_lem n e in ap (λ (m : ℕ). eqb m k) (kind_at l h b.0 b.1))
