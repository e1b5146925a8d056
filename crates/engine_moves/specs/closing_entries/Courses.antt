-- The developers' courses as the engine holds them, and what closing a round does to them.
use Rattle.std.specs.Prelude.{ℕ, ◌≡◌, Bool, false, ◌||◌, List, ltb}
use Rattle.rules_auction.specs.Ledger.{Developer, Round, Ledger}
use Rattle.rules_auction.specs.Clearing.{of_each}
use Rattle.rules_auction.specs.Rounds.{withdraws_all, applied}
use Rattle.laws_ledger.specs.Sound.{Sound}
use Rattle.engine_held.specs.history.Held.{held_history}
use Rattle.engine_held.specs.declared.history.History.{History}
use Rattle.engine_moves.specs.declared.closing_entries.Course.{Course}
use Rattle.engine_moves.specs.declared.closing_entries.Courses.{Courses}

-- the history of a developer
abbrev pub held_course : Developer → History
held_course x = held_history x.withdrawals x.offer x.lodged

-- the developer's entry once the ledger's round is closed
abbrev pub after_round : Ledger → Developer → Developer
after_round l x = applied l.closing l.opening x

-- a closing can move a developer: an offer of it stands, steps are lodged, or it withdraws all for want of an offer
unfoldable pub moves : ℕ → ℕ → ℕ → ℕ → Bool
moves offered lodged kind quantity = ltb 0 offered || (ltb 0 lodged || withdraws_all kind quantity)

-- in an open round of a sound ledger: developer n, held so, with its offer and the lodged steps reached applied
pub record OfferApplied (kind quantity : ℕ) (history : History) (opening closing : ℕ) (r : Course) : Type 0 where
  pub as_ruled :
      (l : Ledger) (n : ℕ) → Sound l → l.phase ≡ Round → kind ≡ (l.developers n).declared.kind → quantity ≡ (l.developers n).quantity →
      history ≡ held_course (l.developers n) →
      opening ≡ l.opening → closing ≡ l.closing →
      (r.quantity ≡ (after_round l (l.developers n)).quantity) × (r.history ≡ held_course (after_round l (l.developers n)))

-- in an open round of a sound ledger that the arrays and prices hold: every offer and the lodged steps reached applied; and, of any arrays: where
-- nobody moved the histories are those before
pub record OffersApplied (kinds quantities : List ℕ) (histories : List History) (opening closing : ℕ) (r : Courses) : Type 0 where
  pub as_ruled :
      (l : Ledger) → Sound l → l.phase ≡ Round → kinds ≡ of_each (λ x. x.declared.kind) l → quantities ≡ of_each (λ x. x.quantity) l →
      histories ≡ of_each held_course l →
      opening ≡ l.opening → closing ≡ l.closing →
      (r.quantities ≡ of_each (λ x. (after_round l x).quantity) l) × (r.histories ≡ of_each (λ x. held_course (after_round l x)) l)
  pub stays : r.moved ≡ false → r.histories ≡ histories
