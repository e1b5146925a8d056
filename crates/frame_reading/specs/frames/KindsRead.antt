-- The kind of the frame in a line, and what it says of the call that the line reads as.
use Rattle.std.specs.Prelude.{ℕ, ◌≤◌, ◌≡◌, Bool, List, ◌∷◌, ◌++◌, length, take, drop, get_or, replicate}
use Rattle.std.proofs.Math.Path.{refl}
use Rattle.std.proofs.Common.{sym, ap, ◌∙◌, arith}
use Rattle.std.proofs.Math.Bool.{true, false, cond}
use Rattle.std.proofs.Math.Option.{Option, none, some}
use Rattle.rules_numbers.specs.Lists.{total}
use Rattle.rules_format.specs.Hex.{hex_number}
use Rattle.rules_format.specs.Fields.{listed, fixed, repeats, layout, fields_at, RawCall, kind_of, asked_widths, well_formed, call_of, read}
use Rattle.frame_bytes.specs.field_table.RowLaws.{known_not_0}
use Rattle.rules_format.specs.FieldLaws.{WellFormed, reads, reads_none, was_read}

-- 0 of a malformed line: the table has no kind 0
abbrev pub kind_in : List ℕ → ℕ
kind_in l = cond (well_formed l) (kind_of l) 0

-- ---- laws

module _ (l : List ℕ) where
  apart : ◌≡◌ {A = Option RawCall} none (some (call_of l)) → ⊥
  apart h = let z : ◌≡◌ {A = ℕ} 0 1 = cc in omega arith

  pub kind_formed : WellFormed l → kind_of l ≡ kind_in l
  unfolding read
  kind_formed w = go (well_formed l) (reads l w)
    where
      go : (b : Bool) → cond b (some (call_of l)) none ≡ some (call_of l) → kind_of l ≡ cond b (kind_of l) 0
      go true e = refl
      go false e = absurd (apart e)

  kind_unread : read l ≡ none → 0 ≡ kind_in l
  unfolding read
  kind_unread = go (well_formed l)
    where
      go : (b : Bool) → cond b (some (call_of l)) none ≡ none → 0 ≡ cond b (kind_of l) 0
      go true e = absurd (apart (sym e))
      go false e = refl

  pub kind_malformed : (WellFormed l → ⊥) → 0 ≡ kind_in l
  kind_malformed h = kind_unread (reads_none l h)

  -- and back
  pub none_read : kind_in l ≡ 0 → read l ≡ none
  none_read z = reads_none l (λ w. known_not_0 _ w.kind_known (kind_formed w ∙ z))

  pub some_read : (kind_in l ≡ 0 → ⊥) → WellFormed l
  some_read h = go (read l) refl
    where
      go : (r : Option RawCall) → read l ≡ r → WellFormed l
      go none e = absurd (h (sym (kind_unread e)))
      go (some c) e = (was_read l c e).0

-- a first field of two digits stands behind the kind
pub first_there : (l : List ℕ) → WellFormed l → (k : ℕ) (ws : List ℕ) → kind_of l ≡ k → fixed k ≡ 2 ∷ ws →
    (4 ≤ length l) × (hex_number (take 2 (drop 2 l)) ≡ get_or (fields_at (asked_widths l) (drop 2 l)) 0 0)
unfolding asked_widths layout fields_at total
first_there l w k ws e f =
    let more : List ℕ = replicate (repeats (kind_of l) (fields_at (fixed (kind_of l)) (drop 2 l))) listed in
    let a : asked_widths l ≡ 2 ∷ (ws ++ more) = ap (λ (vs : List ℕ). vs ++ more) (ap fixed e ∙ f) in
    (omega (arith, w.exact, ap total a), sym (ap (λ (vs : List ℕ). get_or (fields_at vs (drop 2 l)) 0 0) a))
