-- Award records in words and decimal numbers, a line each: a name, and the numbers with a blank between them.
use Rattle.std.specs.Prelude.{ℕ, zero, suc, ◌+◌, ◌*◌, List, [], ◌++◌, get_or}
use Rattle.trace_text.specs.decimal_text.Decimal.{bytes_of}
use Rattle.trace_text.specs.decimal_text.Items.{number_item}

-- the award record that starts at place i: project, developer, and the quantity in 4 bytes, high byte first
unfoldable pub quantity_at : List ℕ → ℕ → ℕ
quantity_at awards i = ((get_or awards (i + 2) 0 * 256 + get_or awards (i + 3) 0) * 256 + get_or awards (i + 4) 0) * 256 + get_or awards (i + 5) 0

unfoldable pub award_line : List ℕ → ℕ → List ℕ
award_line awards i = bytes_of "award " ++ number_item (get_or awards i 0) 32 ++ number_item (get_or awards (i + 1) 0) 32 ++ number_item (quantity_at awards i) 10

-- the first n award records, in their order: they stand by rising project
unfoldable pub award_lines : List ℕ → ℕ → List ℕ
award_lines awards zero = []
award_lines awards (suc n) = award_lines awards n ++ award_line awards (6 * n)
