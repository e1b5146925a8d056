-- What a C host gets of the sealed auction (document 02, 13): what is left, or for a refusal 2^64 less its number.
use Rattle.std.specs.Prelude.{ℕ, ◌≡◌, refl, List, Result, Ok, Err, length}
use Rattle.std.proofs.Common.{ap₂, ◌∙◌}
use Rattle.rules_sealed.specs.Sealed.{Book, lent_refusal, lent_left}
use Rattle.engine_refusals.specs.declared.Refusal.{Refusal}
use Rattle.engine_sealed.specs.sealed_auction.Cleared.{Lent, lent_in, Lends}
use Rattle.record_replay.specs.host_numbers.HostNumbers.{host_number, value_answer, answered}

unfoldable pub host_sealed : ℕ → ℕ → Book → ℕ → ℕ
host_sealed ceiling demand b room = host_number (value_answer (lent_refusal ceiling demand b room) (lent_left ceiling demand b room))

-- from what the library tells
pub lent_answer : (t : Result ℕ Refusal) → answered t ≡ value_answer (lent_in t).number (lent_in t).left
lent_answer (Ok n) = refl
lent_answer (Err e) = refl

pub host_sealed_lem : (ceiling demand : ℕ) (b : Book) (old new : List ℕ) (t : Lent) (r : ℕ) → Lends ceiling demand b old new t
    → r ≡ host_number (value_answer t.number t.left) → r ≡ host_sealed ceiling demand b (length old)
unfolding host_sealed
host_sealed_lem ceiling demand b old new t r w e = e ∙ ap₂ (λ (k : ℕ) (v : ℕ). host_number (value_answer k v)) w.number w.left
