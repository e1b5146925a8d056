-- Laws of what the plain record has of each line: by the call that the line's frame reads as, and one behind the other they are the record.
use Rattle.std.specs.Prelude.{ℕ, ◌+◌, ◌≡◌, Bool}
use Rattle.std.proofs.Math.Path.{refl, ap}
use Rattle.std.proofs.Common.{sym, ◌∙◌, arith, length-append}
use Rattle.std.proofs.Math.Bool.{true, false, cond, not}
use mathlib.Core.List.{List, [], ◌∷◌, ◌++◌, map, flatten}
use Rattle.std.proofs.Math.Option.{none, some}
use Rattle.std.proofs.Math.ListN.{length}
use Rattle.rules_numbers.specs.Lists.{keep}
use Rattle.rules_format.specs.Fields.{RawCall, read}
use Rattle.rules_format.specs.Lines.{lines}
use Rattle.rules_format.specs.SessionLines.{frame_in}
use Rattle.rules_seats.specs.sessions.Sessions.{permitted_lines, session_record}
use Rattle.rules_seats.specs.sessions.SessionLaws.{allowed}
use Rattle.rules_seats.specs.sessions.SeatedLines.{line_barred}
use Rattle.seats.specs.session_lines.FrameParts.{frame_behind}
use Rattle.seats.specs.session_lines.FramePartLaws.{unread_left, read_allowed, kept_frame_lem}
use Rattle.record_replay.specs.session_record.KeptFrames.{kept_frame, kept_text}

-- ---- a line

module _ (line : List ℕ) where
  pub none_kept : read (frame_behind line) ≡ none → kept_frame line ≡ []
  unfolding kept_frame
  none_kept e = rw (unread_left line e)

  module _ (c : RawCall) (e : read (frame_behind line) ≡ some c) where
    pub barred_left : line_barred line ≡ true → kept_frame line ≡ []
    unfolding kept_frame
    barred_left t = rw ((read_allowed line c e).0 ∙ ap not t)

    pub frame_kept : line_barred line ≡ false → kept_frame line ≡ frame_behind line
    unfolding kept_frame
    frame_kept t = rw ((read_allowed line c e).0 ∙ ap not t) (sym (read_allowed line c e).1)

  -- with its 0A, by how long it is
  pub no_text : length (kept_frame line) ≡ 0 → kept_text line ≡ []
  unfolding kept_frame kept_text
  no_text = go (allowed line) refl
    where
      go : (b : Bool) → allowed line ≡ b → length (cond b (frame_in line) []) ≡ 0 → cond b (frame_in line ++ (10 ∷ [])) [] ≡ []
      go true e h = absurd (omega (arith, kept_frame_lem line e))
      go false e h = refl

  pub text_is : (length (kept_frame line) ≡ 0 → ⊥) → kept_text line ≡ kept_frame line ++ (10 ∷ [])
  unfolding kept_frame kept_text
  text_is = go (allowed line)
    where
      go : (b : Bool) → (length (cond b (frame_in line) []) ≡ 0 → ⊥) → cond b (frame_in line ++ (10 ∷ [])) [] ≡ cond b (frame_in line) [] ++ (10 ∷ [])
      go true h = refl
      go false h = absurd (h refl)

  pub text_long : (length (kept_frame line) ≡ 0 → ⊥) → length (kept_text line) ≡ length (kept_frame line) + 1
  text_long h = ap length (text_is h) ∙ length-append (kept_frame line) (10 ∷ [])

-- ---- all lines

abbrev pub kept_in : List (List ℕ) → List ℕ
kept_in ls = flatten (map kept_text ls)

kept_all : (ls : List (List ℕ)) → flatten (map (λ line. frame_in line ++ (10 ∷ [])) (keep allowed ls)) ≡ kept_in ls
unfolding keep flatten kept_text
kept_all [] = refl
kept_all (l ∷ ls) = go (allowed l) (kept_all ls)
  where
    go :
        (b : Bool) → flatten (map (λ line. frame_in line ++ (10 ∷ [])) (keep allowed ls)) ≡ kept_in ls →
        flatten (map (λ line. frame_in line ++ (10 ∷ [])) (cond b (l ∷ keep allowed ls) (keep allowed ls))) ≡ cond b (frame_in l ++ (10 ∷ [])) [] ++ kept_in ls
    go true e = ap (λ (xs : List ℕ). (frame_in l ++ (10 ∷ [])) ++ xs) e
    go false e = e

pub record_is : (session : List ℕ) → session_record session ≡ kept_in (lines session)
unfolding session_record permitted_lines
record_is session = kept_all (lines session)
