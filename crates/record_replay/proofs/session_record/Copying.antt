-- Bytes copied to a buffer's start, one by one.
use Prim.Native.Nat.{ℕ, ◌+◌, ◌≤◌, ◌<◌}
use mathlib.Core.Path.{◌≡◌, sym, ap, ap₂, ◌∙◌}
use mathlib.Core.List.{List}
use native.Mathlib.Nat.{zero-add}
use native.Mathlib.Numerals.{add-one}
use native.Mathlib.Omega.{arith}
use lib.ListN.{length, get_or, set}
use lib.Seq.{paste, paste-zero, paste-suc, length-paste, take-length}
use Rattle.rules_numbers.specs.Tails.{laid}

-- of the bytes, i stand in out, which was o at first
pub record Copying (bytes o out : List ℕ) (i : ℕ) : Type 0 where
  pub inside : i ≤ length bytes
  pub holds : out ≡ paste o 0 bytes i

pub copying_first : (bytes o : List ℕ) → Copying bytes o o 0
copying_first bytes o = record { inside = omega arith; holds = paste-zero o 0 bytes }

module _ (bytes o : List ℕ) (room : length bytes ≤ length o) (out : List ℕ) (i : ℕ) (c : Copying bytes o out i) where
  pub copying_long : length out ≡ length o
  copying_long = ap length c.holds ∙ length-paste o 0 bytes i (omega (arith, c.inside)) c.inside

  pub copying_next : i < length bytes → Copying bytes o (set out i (get_or bytes i 0)) (i + 1)
  copying_next h =
      let e = paste-suc o 0 bytes i 0 (omega arith) h in
      record { inside = omega arith; holds = ap₂ (λ (l : List ℕ) (k : ℕ). set l k (get_or bytes i 0)) c.holds (sym (zero-add i)) ∙ rw (add-one i) e }

  pub copying_end : length bytes ≤ i → out ≡ laid bytes o
  unfolding laid
  copying_end h =
      let e : i ≡ length bytes = omega (arith, c.inside) in
      c.holds ∙ rw (e, zero-add (length bytes), take-length bytes)
