-- Lines of a session, what they read as, and what is written for them, computed over the definitions; and lines that name no seat.
use Rattle.std.specs.Prelude.{ℕ, ◌≡◌, refl, true, false, List, [], ◌∷◌, map}
use Prim.Native.String.{String, len}
use Rattle.std.proofs.Math.Option.{Option, none, some}
use Rattle.rules_numbers.specs.Lists.{total, any, all}
use Rattle.rules_numbers.specs.Tails.{laid}
use Rattle.rules_format.specs.Hex.{is_hex, value_of, char_of, digits, number_from}
use Rattle.rules_format.specs.Fields.{known, fixed, each, count, layout, raw_call, fields_at, text_at, kind_of, asked_widths, well_formed, call_of, read}
use Rattle.rules_format.specs.Written.{written_widths, line_of, writing_refusal, written, lent_frame}
use Rattle.rules_format.specs.SessionLines.{is_seat, seat_text, writable_seat, seat_kind, seat_number, names_seat, RawSeated, raw_seated, read_seated}
use Rattle.rules_format.specs.SessionLines.{seated_line_of}
use Rattle.rules_format.specs.Example.{codes}

abbrev bytes : String → List ℕ
bytes s = codes s 0 (len s)

-- the auctioneer opens a round, the auditor settles, developer 2 offers for itself, and developer 255 closes the round
abbrev seated_lines : List String
seated_lines = "000003000061A8" ∷ "01000600000064" ∷ "02020402010000659000000064" ∷ "02FF05" ∷ []

abbrev seated_calls : List RawSeated
seated_calls =
    raw_seated 0 0 (raw_call 3 (25000 ∷ []))
    ∷ raw_seated 1 0 (raw_call 6 (100 ∷ []))
    ∷ raw_seated 2 2 (raw_call 4 (2 ∷ 1 ∷ 26000 ∷ 100 ∷ []))
    ∷ raw_seated 2 255 (raw_call 5 [])
    ∷ []

-- what the lines read as; to unfold it is to unfold all that its line names
unfoldable lines_read : List String → List (Option RawSeated)
unfolding codes any all total is_hex value_of number_from known fixed each count layout fields_at kind_of asked_widths well_formed call_of read
    is_seat seat_kind seat_number names_seat read_seated
lines_read ls = map (λ s. read_seated (bytes s)) ls

seated_lines_lem : lines_read seated_lines ≡ map some seated_calls
unfolding lines_read
seated_lines_lem = refl

seated_lines_written : map seated_line_of seated_calls ≡ map bytes seated_lines
unfolding codes char_of digits fixed each count layout text_at written_widths line_of seat_text seated_line_of
seated_lines_written = refl

-- an auctioneer or an auditor with a number, a kind of seat that there is not, a small letter, fewer than four digits, no frame behind the seat
abbrev unseated : List String
unseated = "000105" ∷ "010205" ∷ "030005" ∷ "FF0105" ∷ "02fF05" ∷ "020" ∷ "05" ∷ []

abbrev unframed : List String
unframed = "0000" ∷ "00000505" ∷ "02020g" ∷ []

names_none : map (λ s. names_seat (bytes s)) unseated ≡ false ∷ false ∷ false ∷ false ∷ false ∷ false ∷ false ∷ []
unfolding lines_read
names_none = refl

reads_none : lines_read unframed ≡ map (λ _. none) unframed
unfolding lines_read
reads_none = refl

-- ---- a seat written

-- the number of a developer has two digits, that of the other two is 0, and there is no fourth kind
writable_seats :
    map (λ n. writable_seat 2 n) (0 ∷ 32 ∷ 33 ∷ 255 ∷ 256 ∷ []) ≡ true ∷ true ∷ true ∷ true ∷ false ∷ []
unfolding is_seat writable_seat
writable_seats = refl

other_seats : (map (λ k. writable_seat k 0) (0 ∷ 1 ∷ 2 ∷ 3 ∷ 256 ∷ []) ≡ true ∷ true ∷ true ∷ false ∷ false ∷ [])
    × (map (λ k. writable_seat k 1) (0 ∷ 1 ∷ 2 ∷ 3 ∷ []) ≡ false ∷ false ∷ true ∷ false ∷ [])
unfolding is_seat writable_seat
other_seats = (refl, refl)

-- 14 comes before 13; four bytes are enough, and what stands behind them stays
seat_answers :
    (writing_refusal (writable_seat 0 1) (seat_text 0 1) 3 ≡ 14)
    × (writing_refusal (writable_seat 2 7) (seat_text 2 7) 3 ≡ 13)
    × (written (writable_seat 2 7) (seat_text 2 7) 4 ≡ 4)
    × (lent_frame (writable_seat 2 7) (seat_text 2 7) (1 ∷ 1 ∷ 1 ∷ 1 ∷ 1 ∷ []) ≡ 48 ∷ 50 ∷ 48 ∷ 55 ∷ 1 ∷ [])
unfolding is_seat writable_seat seat_text char_of digits writing_refusal written lent_frame laid
seat_answers = (refl, refl, refl, refl)
