-- A line of 48 digits and kind 01 is a set-up's, by the table of field widths.
use Prim.Native.Nat.{ℕ, ◌+◌}
use mathlib.Core.Path.{◌≡◌, sym, ap, ap₂, ◌∙◌}
use mathlib.Core.Bool.{true}
use mathlib.Core.List.{List, [], ◌∷◌}
use mathlib.Core.Option.{some}
use native.Mathlib.Nat.{zero-mul}
use native.Mathlib.Omega.{arith}
use lib.ListN.{length, take, drop}
use lib.Seq.{drop-drop}
use Rattle.rules_numbers.specs.Lists.{total, any}
use Rattle.rules_format.specs.Hex.{all_hex, hex_number}
use Rattle.rules_format.specs.Fields.{raw_call, known, fixed, each, count, repeats, layout, fields_at, kind_of, asked_widths, call_of, read}
use Rattle.rules_format.specs.FieldLaws.{WellFormed, reads}

-- the field of this width at this place
abbrev pub field_at : List ℕ → ℕ → ℕ → ℕ
field_at l at w = hex_number (take w (drop at l))

module _ (l : List ℕ) (n : length l ≡ 48) (hex : all_hex l ≡ true) (k : kind_of l ≡ 1) where
  widths : asked_widths l ≡ 8 ∷ 10 ∷ 10 ∷ 10 ∷ 8 ∷ []
  unfolding asked_widths layout fixed each
  widths = ap (λ (j : ℕ). layout j (repeats j (fields_at (fixed j) (drop 2 l)))) k
      ∙ ap (λ (j : ℕ). layout 1 j) (zero-mul (count 1 (fields_at (fixed 1) (drop 2 l))))

  well : WellFormed l
  unfolding known any total
  well = record {
    short = omega arith;
    hex = hex;
    kind_known = ap known k;
    exact = n ∙ ap (λ (ws : List ℕ). 2 + total ws) (sym widths);
  }

  fields : fields_at (asked_widths l) (drop 2 l) ≡ field_at l 2 8 ∷ field_at l 10 10 ∷ field_at l 20 10 ∷ field_at l 30 10 ∷ field_at l 40 8 ∷ []
  unfolding fields_at
  fields = ap (λ (ws : List ℕ). fields_at ws (drop 2 l)) widths ∙ rw (drop-drop 8 2 l, drop-drop 10 10 l, drop-drop 10 20 l, drop-drop 10 30 l)

  pub set_up_read : (ce d m1 m2 a : ℕ) → ce ≡ field_at l 2 8 → d ≡ field_at l 10 10 → m1 ≡ field_at l 20 10 → m2 ≡ field_at l 30 10 → a ≡ field_at l 40 8 →
      read l ≡ some (raw_call 1 (ce ∷ d ∷ m1 ∷ m2 ∷ a ∷ []))
  unfolding call_of
  set_up_read ce d m1 m2 a ec ed e1 e2 ea = rw (ec, ed, e1, e2, ea) (reads l well ∙ ap some (ap₂ raw_call k fields))
