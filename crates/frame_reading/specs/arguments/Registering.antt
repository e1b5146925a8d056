-- A registration's numbers, with its agent before the study value or without it, and its levels, as many as the frame's line has room for.
use Rattle.std.specs.Prelude.{ℕ, ◌+◌, ◌-◌, ◌≤◌, ◌<◌, ◌^◌, ◌≡◌, refl, List, [], ◌∷◌, length, get_or}
use Rattle.std.proofs.Common.{sym, ap, ◌∙◌, arith, get_or-take, get_or-drop}
use Rattle.rules_numbers.specs.Lists.{total}
use Rattle.rules_format.specs.Fields.{listed, fixed, each}
use Rattle.frame_reading.specs.declared.frames.Frame.{Frame}
use Rattle.frame_reading.specs.arguments.FrameFields.{fields_in, Framed, Registering}
use Rattle.frame_reading.specs.arguments.FieldColumns.{below, below_behind, listed_count}

-- the kinds of the table that are so: 02, and 08 with its agent at place 3 (document 02, 10)
pub registers : (f : Frame) → Framed 2 f → Registering 3 f
unfolding fixed each total
registers f w = record { of = 2; framed = w; front = refl; behind = refl; place = omega arith; last = refl; digits = omega arith; levels = refl }

pub registers_for_lem : (f : Frame) → Framed 8 f → Registering 4 f
unfolding fixed each total
registers_for_lem f w = record { of = 8; framed = w; front = refl; behind = refl; place = omega arith; last = refl; digits = omega arith; levels = refl }

pub agent_below : (f : Frame) → Framed 8 f → get_or (fields_in f) 3 0 < 256
unfolding fixed
agent_below f w = below 8 f w 3 256 refl

module _ (at : ℕ) (f : Frame) (w : Registering at f) where
  -- how many levels follow
  pub counted : (length (fields_in f) ≡ at + 3 + get_or (fields_in f) (at + 2) 0) × (get_or (fields_in f) (at + 2) 0 ≤ 16)
  counted =
      let some : 0 < length (fixed w.of) = omega (arith, w.last) in
      let p : at + 3 - 1 ≡ at + 2 = omega arith in
      let n = rw (w.last, w.levels, p) at (listed_count w.of f w.framed some) in
      (omega arith, omega (arith, w.digits))

  -- project, developer and kind
  pub front_below : (j : ℕ) → j < 3 → 16 ^ get_or (2 ∷ 2 ∷ 2 ∷ []) j listed ≡ 256 → get_or (fields_in f) j 0 < 256
  front_below j h e =
      let s : get_or (fixed w.of) j listed ≡ get_or (2 ∷ 2 ∷ 2 ∷ []) j listed =
      sym (get_or-take 3 (fixed w.of) j listed h) ∙ ap (λ (l : List ℕ). get_or l j listed) w.front in
      below w.of f w.framed j 256 (rw s e)

  -- study value, start day and count
  pub behind_below : (i j b : ℕ) → at + i ≡ j → 16 ^ get_or (8 ∷ 8 ∷ 2 ∷ []) i listed ≡ b → get_or (fields_in f) j 0 < b
  behind_below i j b n e =
      let s : get_or (8 ∷ 8 ∷ 2 ∷ []) i listed ≡ get_or (fixed w.of) j listed =
      ap (λ (l : List ℕ). get_or l i listed) (sym w.behind) ∙ get_or-drop at (fixed w.of) i listed ∙ ap (λ (m : ℕ). get_or (fixed w.of) m listed) n in
      below w.of f w.framed j b (rw s at e)

  pub level_below : (j : ℕ) → at + 3 ≤ j → get_or (fields_in f) j 0 < 2 ^ 32
  level_below j h = below_behind w.of f w.framed j (rw w.last h)
