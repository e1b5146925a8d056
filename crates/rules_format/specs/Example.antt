-- A line of each kind, of document 01's sample record (Frames) or in its layout (document 02, 5, 7 and 10), as bytes, the call that it reads as,
-- and the line that is written for that call. Computed over the definitions, so that the table of field widths is held to the paper here.
use Rattle.std.specs.Prelude.{ℕ, zero, suc, ◌≡◌, refl, true, false, List, [], ◌∷◌, ◌++◌, map, replicate}
use Prim.Native.Char.{code}
use Prim.Native.String.{String, len, char_at}
use Rattle.std.proofs.Math.Option.{Option, some}
use Rattle.rules_numbers.specs.Lists.{total, any, all}
use Rattle.rules_numbers.specs.Tails.{laid}
use Rattle.rules_format.specs.Hex.{is_hex, value_of, char_of, digits, number_from}
use Rattle.rules_format.specs.Fields.{known, fixed, each, count, layout, RawCall, raw_call, fields_at, text_at, kind_of, asked_widths, well_formed, call_of}
use Rattle.rules_format.specs.Fields.{read}
use Rattle.rules_format.specs.Written.{written_widths, line_of, fit, writable, writing_refusal, lent_frame}

-- n characters of a text from place i on, as bytes
unfoldable pub codes : String → ℕ → ℕ → List ℕ
codes s i zero = []
codes s i (suc n) = code (char_at s i) ∷ codes s (suc i) n

abbrev bytes : String → List ℕ
bytes s = codes s 0 (len s)

-- kinds without a list, registrations, and kinds with steps
abbrev plain_lines : List String
plain_lines = "0100004E2000000003E8000000038400000004B000009C40" ∷ "03000061A8" ∷ "05" ∷ "0600000064" ∷ "0902" ∷ []

abbrev registration_lines : List String
registration_lines = "02020202000001900000000A0200000064000000C8" ∷ "0802020203000001900000000A0200000064000000C8" ∷ []

abbrev step_lines : List String
step_lines = "0402010000659000000064" ∷ "0701010000659000000064" ∷ []

abbrev plain_calls : List RawCall
plain_calls = raw_call 1 (20000 ∷ 1000 ∷ 900 ∷ 1200 ∷ 40000 ∷ []) ∷ raw_call 3 (25000 ∷ []) ∷ raw_call 5 [] ∷ raw_call 6 (100 ∷ []) ∷ raw_call 9 (2 ∷ []) ∷ []

abbrev registration_calls : List RawCall
registration_calls =
    raw_call 2 (2 ∷ 2 ∷ 2 ∷ 400 ∷ 10 ∷ 2 ∷ 100 ∷ 200 ∷ [])
    ∷ raw_call 8 (2 ∷ 2 ∷ 2 ∷ 3 ∷ 400 ∷ 10 ∷ 2 ∷ 100 ∷ 200 ∷ [])
    ∷ []

abbrev step_calls : List RawCall
step_calls = raw_call 4 (2 ∷ 1 ∷ 26000 ∷ 100 ∷ []) ∷ raw_call 7 (1 ∷ 1 ∷ 26000 ∷ 100 ∷ []) ∷ []

-- what the lines read as; to unfold it is to unfold all that its line names
unfoldable lines_read : List String → List (Option RawCall)
unfolding codes any all total is_hex value_of number_from known fixed each count layout fields_at kind_of asked_widths well_formed call_of read
lines_read ls = map (λ s. read (bytes s)) ls

plain_lines_lem : lines_read plain_lines ≡ map some plain_calls
unfolding lines_read
plain_lines_lem = refl

registration_lines_lem : lines_read registration_lines ≡ map some registration_calls
unfolding lines_read
registration_lines_lem = refl

step_lines_lem : lines_read step_lines ≡ map some step_calls
unfolding lines_read
step_lines_lem = refl

sample_lines :
    (lines_read plain_lines ≡ map some plain_calls)
    × (lines_read registration_lines ≡ map some registration_calls)
    × (lines_read step_lines ≡ map some step_calls)
sample_lines = (plain_lines_lem, registration_lines_lem, step_lines_lem)

sample_lines_written : map line_of (plain_calls ++ registration_calls ++ step_calls) ≡ map bytes (plain_lines ++ registration_lines ++ step_lines)
unfolding codes char_of digits fixed each count layout text_at written_widths line_of
sample_lines_written = refl

-- ---- what is just writable, and what is not (document 02, 2)

-- a registration of so many levels, without its agent and with it (document 02, 10)
abbrev levels : ℕ → RawCall
levels n = raw_call 2 (1 ∷ 1 ∷ 2 ∷ 0 ∷ 0 ∷ n ∷ replicate n 5)

abbrev agent_and_levels : ℕ → RawCall
agent_and_levels n = raw_call 8 (1 ∷ 1 ∷ 2 ∷ 1 ∷ 0 ∷ 0 ∷ n ∷ replicate n 5)

edges :
    map writable (
    raw_call 3 (4294967295 ∷ [])
    ∷ raw_call 3 (4294967296 ∷ [])  -- over 8 digits
    ∷ levels 16  -- 154 characters
    ∷ levels 17  -- 162 characters
    ∷ agent_and_levels 16  -- 156 characters
    ∷ agent_and_levels 17  -- 164 characters
    ∷ raw_call 8 (1 ∷ 1 ∷ 2 ∷ 256 ∷ 0 ∷ 0 ∷ 0 ∷ [])  -- an agent over 2 digits
    ∷ raw_call 4 (1 ∷ 2 ∷ 9 ∷ 8 ∷ [])  -- a count of 2 with one step
    ∷ raw_call 3 []  -- a field that is not there
    ∷ raw_call 10 []  -- a kind that the table lacks
    ∷ [])
    ≡ true ∷ false ∷ true ∷ false ∷ true ∷ false ∷ false ∷ false ∷ false ∷ false ∷ []
unfolding any char_of digits known fixed each count layout text_at written_widths line_of fit writable
edges = refl

-- read, a line of 17 levels is malformed
edges_read : map (λ c. well_formed (line_of c)) (levels 16 ∷ levels 17 ∷ agent_and_levels 16 ∷ agent_and_levels 17 ∷ []) ≡ true ∷ false ∷ true ∷ false ∷ []
unfolding any all total is_hex value_of char_of digits number_from known fixed each count layout fields_at text_at kind_of asked_widths well_formed written_widths line_of
edges_read = refl

-- 14 comes before 13; a buffer of exactly the frame's length is enough, and what stands behind the frame stays
answers :
    (map (λ b. writing_refusal b (48 ∷ 10 ∷ []) 1) (false ∷ true ∷ []) ≡ 14 ∷ 13 ∷ [])
    × (lent_frame true (48 ∷ 10 ∷ []) (7 ∷ 8 ∷ []) ≡ 48 ∷ 10 ∷ [])
    × (lent_frame true (48 ∷ 10 ∷ []) (7 ∷ 8 ∷ 9 ∷ []) ≡ 48 ∷ 10 ∷ 9 ∷ [])
unfolding writing_refusal lent_frame laid
answers = (refl, refl, refl)
