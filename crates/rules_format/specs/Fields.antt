-- The table of field widths by frame kind, and what a line reads as (document 01, Frames).
use Rattle.std.specs.Prelude.{ℕ, ◌+◌, ◌-◌, ◌*◌, Bool, cond, ◌&&◌, List, [], ◌∷◌, ◌++◌, leb, eqb, length, get_or, take, drop, replicate}
use Rattle.std.proofs.Math.Option.{Option, none, some}
use Rattle.rules_numbers.specs.Lists.{total, any}
use Rattle.rules_format.specs.Hex.{all_hex, digits, hex_number}

-- the fields of a frame kind: the widths of the fixed ones, and how many follow for each one that the last fixed field counts
pub record Row : Type 0 where
  pub kind : ℕ
  pub widths : List ℕ
  pub repeated : ℕ

abbrev pub table_row : ℕ → List ℕ → ℕ → Row
table_row k ws n = record { kind = k; widths = ws; repeated = n }

-- THE TABLE: a row for each kind
abbrev pub table_rows : List Row
table_rows =
    table_row 1 (8 ∷ 10 ∷ 10 ∷ 10 ∷ 8 ∷ []) 0  -- 01 set-up: CE, D, M1, M2, A
    ∷ table_row 2 (2 ∷ 2 ∷ 2 ∷ 8 ∷ 8 ∷ 2 ∷ []) 1  -- 02 registration: project, developer, kind, study, day, count; levels
    ∷ table_row 3 (8 ∷ []) 0  -- 03 open: C
    ∷ table_row 4 (2 ∷ 2 ∷ []) 2  -- 04 offer: developer, count; steps of price and level
    ∷ table_row 5 [] 0  -- 05 close
    ∷ table_row 6 (8 ∷ []) 0  -- 06 settle: limit
    ∷ table_row 7 (2 ∷ 2 ∷ []) 2  -- 07 lodging (document 02, 5): developer, count; steps of price and level
    ∷ table_row 8 (2 ∷ 2 ∷ 2 ∷ 2 ∷ 8 ∷ 8 ∷ 2 ∷ []) 1  -- 08 registration with its agent (document 02, 10): project, developer, kind, agent, study, day, count; levels
    ∷ table_row 9 (2 ∷ []) 0  -- 09 cancellation (document 02, 7): developer
    ∷ []

-- the width of each field that follows the fixed ones
abbrev pub listed : ℕ
listed = 8

-- a kind that the table has
unfoldable pub known : ℕ → Bool
known k = any (λ r. eqb r.kind k) table_rows

-- the row of a kind, and one of no kind and no fields where there is none
abbrev pub no_row : Row
no_row = table_row 0 [] 0

abbrev pub table_row_in : List Row → ℕ → Row
table_row_in [] k = no_row
table_row_in (r ∷ rs) k = cond (eqb r.kind k) r (table_row_in rs k)

-- the widths of a kind's fixed fields, and how many fields follow for each one counted
unfoldable pub fixed : ℕ → List ℕ
fixed k = (table_row_in table_rows k).widths

unfoldable pub each : ℕ → ℕ
each k = (table_row_in table_rows k).repeated

-- what the last of the fixed fields counts, where these are the fields; a kind that repeats nothing counts nothing (`each` is 0)
unfoldable pub count : ℕ → List ℕ → ℕ
count k ns = get_or (take (length (fixed k)) ns) (length (fixed k) - 1) 0

-- how many fields follow the fixed ones
abbrev pub repeats : ℕ → List ℕ → ℕ
repeats k ns = each k * count k ns

-- the widths of all fields of a frame of this kind, n of them behind the fixed ones
unfoldable pub layout : ℕ → ℕ → List ℕ
layout k n = fixed k ++ replicate n listed

-- ---- numbers at widths, one behind the other

-- the numbers that stand in bytes, at these widths
unfoldable pub fields_at : List ℕ → List ℕ → List ℕ
fields_at [] cs = []
fields_at (w ∷ ws) cs = hex_number (take w cs) ∷ fields_at ws (drop w cs)

-- the digits of numbers, at these widths
unfoldable pub text_at : List ℕ → List ℕ → List ℕ
text_at [] ns = []
text_at (w ∷ ws) ns = digits w (get_or ns 0 0) ++ text_at ws (drop 1 ns)

-- ---- reading

-- a call as its frame says it
pub record RawCall : Type 0 where
  pub kind : ℕ
  pub fields : List ℕ

abbrev pub raw_call : ℕ → List ℕ → RawCall
raw_call k ns = record { kind = k; fields = ns }

unfoldable pub kind_of : List ℕ → ℕ
kind_of l = hex_number (take 2 l)

-- the widths that a line's own kind and count ask
unfoldable pub asked_widths : List ℕ → List ℕ
asked_widths l = layout (kind_of l) (repeats (kind_of l) (fields_at (fixed (kind_of l)) (drop 2 l)))

abbrev pub longest_line : ℕ
longest_line = 160

-- at most 160 characters, all digits, a kind of the table, and as long as kind and count ask
unfoldable pub well_formed : List ℕ → Bool
well_formed l = leb (length l) longest_line && all_hex l && known (kind_of l) && eqb (length l) (2 + total (asked_widths l))

unfoldable pub call_of : List ℕ → RawCall
call_of l = raw_call (kind_of l) (fields_at (asked_widths l) (drop 2 l))

-- the call of a line, none of a malformed one
unfoldable pub read : List ℕ → Option RawCall
read l = cond (well_formed l) (some (call_of l)) none
