-- A settlement in words and decimal numbers, an item a line.
use Rattle.std.specs.Prelude.{ℕ, min, cond, false, Option, Some, None, List, ◌++◌}
use Rattle.engine_settling.specs.declared.Settlement.{Settlement}
use Rattle.trace_text.specs.decimal_text.Decimal.{bytes_of}
use Rattle.trace_text.specs.decimal_text.Items.{item}
use Rattle.trace_text.specs.award_text.AwardLines.{award_lines}

-- below an accepted settling
unfoldable pub items : Settlement → List ℕ
items s =
    item (bytes_of "price ") s.price ++ item (bytes_of "demand ") s.demand ++ item (bytes_of "total ") s.total
    ++ item (bytes_of "choices ") s.choices ++ item (bytes_of "covering ") s.covering

-- behind the awards: what no reply says (document 02, 3), how many choices the search keeps; the remainder; the second price and its mark
unfoldable pub items_behind : Settlement → List ℕ
items_behind s =
    item (bytes_of "kept ") s.kept ++ item (bytes_of "remainder ") s.remainder
    ++ item (bytes_of "second ") s.second ++ item (bytes_of "short ") (cond s.short 1 0)

-- last: the mark of insufficient participation, and the price paid to existing plants (document 02, 10)
unfoldable pub items_paid : Settlement → List ℕ
items_paid s = item (bytes_of "insufficient ") (cond s.insufficient 1 0) ++ item (bytes_of "paid ") s.paid

unfoldable pub settlement_lines : Settlement → List ℕ → List ℕ
settlement_lines s awards = items s ++ award_lines awards (min s.records 32) ++ items_behind s ++ items_paid s

-- where nothing was settled: 0 in every place
abbrev pub unsettled : Settlement
unsettled =
    record {
      price = 0;
      demand = 0;
      remainder = 0;
      total = 0;
      choices = 0;
      covering = 0;
      kept = 0;
      second = 0;
      short = false;
      insufficient = false;
      paid = 0;
      records = 0;
    }

-- of the settlement behind a line: zeros where there is none
unfoldable pub settled_lines : Option Settlement → List ℕ → List ℕ
settled_lines (Some s) awards = settlement_lines s awards
settled_lines None awards = settlement_lines unsettled awards
