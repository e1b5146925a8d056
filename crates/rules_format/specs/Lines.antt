-- The lines of a record (document 01, Frames): each ended by byte 0A, which a last line may lack.
use Rattle.std.specs.Prelude.{ℕ, suc, ◌+◌, min, cond, List, [], ◌∷◌, eqb, length, drop}

-- ---- the next line from a position: that part of the record, from its start to its end

-- the position, or the record's end if that comes first
unfoldable pub line_start : List ℕ → ℕ → ℕ
line_start s at = min at (length s)

-- how many bytes stand before the first 0A
unfoldable pub run : List ℕ → ℕ
run [] = 0
run (c ∷ cs) = cond (eqb c 10) 0 (suc (run cs))

-- the next 0A, or the record's end
unfoldable pub line_end : List ℕ → ℕ → ℕ
line_end s at = line_start s at + run (drop (line_start s at) s)

-- ---- all lines, without their 0A

-- a byte put before the first line
unfoldable pub on_first : ℕ → List (List ℕ) → List (List ℕ)
on_first c [] = (c ∷ []) ∷ []
on_first c (l ∷ ls) = (c ∷ l) ∷ ls

-- an empty rest behind the last 0A is no line; an empty part before a 0A is a blank one
unfoldable pub lines : List ℕ → List (List ℕ)
lines [] = []
lines (c ∷ cs) = cond (eqb c 10) ([] ∷ lines cs) (on_first c (lines cs))
