-- What holds of every number of a sound ledger, registered or not: withdrawals fall in level and descend in price from the highest level
-- declared, which is at most 10^9.
use Rattle.std.specs.Prelude.{ℕ, ◌≤◌, ◌≡◌, refl, true}
use Rattle.std.proofs.Common.{zero-le, sym, subst, ⊎_elim}
use Rattle.rules_numbers.specs.Lists.{last_or}
use Rattle.rules_auction.specs.Ledger.{Developer, Ledger, nobody}
use Rattle.rules_auction.specs.Clearing.{highest}
use Rattle.rules_auction.specs.Refusals.{lowering}
use Rattle.rules_auction.specs.Rounds.{last_level}
use Rattle.rules_auction.specs.CheckLaws.{highest_in_bounds}
use Rattle.laws_ledger.specs.Sound.{applied_to, levels_of, Descends, SoundDeveloper, Sound}
use Rattle.laws_ledger.specs.Parts.{Part}

-- levels fall strictly, from below the highest declared
abbrev pub Falls : Developer → Type 0
Falls x = lowering x.declared.levels (highest x) (levels_of x.withdrawals) ≡ true

-- a developer's course: what was withdrawn from its highest level, at prices from a down to c, and what is left
pub record Course (c a : ℕ) (x : Developer) : Type 0 where
  pub falls : Falls x
  pub prices : Descends c a x.withdrawals
  pub quantity : x.quantity ≡ last_level (highest x) x.withdrawals
  pub small : highest x ≤ 1000000000

pub course : (c a : ℕ) (x : Developer) → SoundDeveloper c a x → Course c a x
course c a x s =
    record { falls = s.falls; prices = s.prices; quantity = s.quantity; small = (highest_in_bounds x.declared.levels s.declared.levels).1 }

pub course_of_nobody : (c a : ℕ) → Course c a nobody
unfolding lowering last_level last_or Descends
course_of_nobody c a = record { falls = refl; prices = tt; quantity = refl; small = zero-le }

-- ---- of every number of a sound ledger

pub courses : (l : Ledger) → Sound l → (n : ℕ) → Course (applied_to l.phase l) l.settings.a (l.developers n)
courses l s n =
    ⊎_elim (λ e. subst (λ (x : Developer). Course (applied_to l.phase l) l.settings.a x) (sym e) (course_of_nobody _ _))
    (λ r. course _ _ _ r.developer) (s.each n)

-- and of a ledger from which developers are taken out
pub part_falls : (l m : Ledger) → Sound l → Part l m → (n : ℕ) → Falls (m.developers n)
part_falls l m s t n = ⊎_elim
    (λ e. subst Falls (sym e) (course_of_nobody 0 0).falls)
    (λ e. subst Falls (sym e) (courses l s n).falls)
    (t.each n)
