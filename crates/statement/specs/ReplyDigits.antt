-- Numbers that fit their widths are read from their digits: in the line of an accepted reply, in bytes of two digits, in an award record.
use Rattle.std.specs.Prelude.{ℕ, zero, suc, ◌/◌, ◌%◌, ◌^◌, ◌≤◌, ◌<◌, ◌≡◌, refl, length, get_or}
use Rattle.std.proofs.Common.{sym, ap, ◌∙◌, ⊎_elim, arith}
use mathlib.Core.List.Memᴰ
use mathlib.Core.List.{List, [], ◌∷◌, ◌++◌, flatten, append_assoc, append-nil}
use Rattle.rules_numbers.specs.ListLaws.{Each}
use Rattle.rules_format.specs.Hex.{char_of, digits}
use Rattle.rules_format.specs.Fields.{fields_at, text_at, listed}
use Rattle.rules_format.specs.HexLaws.{power_pos}
use Rattle.rules_format.specs.WidthLaws.{fields_text_lem}
use Rattle.rules_auction.specs.Settling.{record_of}
use Rattle.rules_replies.specs.Replies.{record_digits, answer_line}
use Rattle.statement.specs.Readable.{twos, award_widths}

-- ---- numbers that fit their widths

unfoldable pub FitWidths : List ℕ → List ℕ → Type 0
FitWidths [] [] = Unit {0}
FitWidths [] (n ∷ ns) = ⊥
FitWidths (w ∷ ws) [] = ⊥
FitWidths (w ∷ ws) (n ∷ ns) = (n < 16 ^ w) × FitWidths ws ns

fit_length : (ws ns : List ℕ) → FitWidths ws ns → length ns ≡ length ws
unfolding FitWidths
fit_length [] [] f = refl
fit_length [] (n ∷ ns) f = absurd f
fit_length (w ∷ ws) [] f = absurd f
fit_length (w ∷ ws) (n ∷ ns) f = ap suc (fit_length ws ns f.1)

fit_at : (ws ns : List ℕ) → FitWidths ws ns → (j : ℕ) → get_or ns j 0 < 16 ^ get_or ws j listed
unfolding FitWidths
fit_at [] [] f j = power_pos listed
fit_at [] (n ∷ ns) f j = absurd f
fit_at (w ∷ ws) [] f j = absurd f
fit_at (w ∷ ws) (n ∷ ns) f zero = f.0
fit_at (w ∷ ws) (n ∷ ns) f (suc j) = fit_at ws ns f.1 j

fit_reads : (ws ns rest : List ℕ) → FitWidths ws ns → fields_at ws (text_at ws ns ++ rest) ≡ ns
fit_reads ws ns rest f = fields_text_lem ws ns rest (fit_length ws ns f) (fit_at ws ns f)

pub fit_append : (ws ns vs ms : List ℕ) → FitWidths ws ns → FitWidths vs ms → FitWidths (ws ++ vs) (ns ++ ms)
unfolding FitWidths
fit_append [] [] vs ms f g = g
fit_append [] (n ∷ ns) vs ms f g = absurd f
fit_append (w ∷ ws) [] vs ms f g = absurd f
fit_append (w ∷ ws) (n ∷ ns) vs ms f g = (f.0, fit_append ws ns vs ms f.1 g)

pub text_append : (ws ns vs ms : List ℕ) → FitWidths ws ns → text_at (ws ++ vs) (ns ++ ms) ≡ text_at ws ns ++ text_at vs ms
unfolding FitWidths text_at
text_append [] [] vs ms f = refl
text_append [] (n ∷ ns) vs ms f = absurd f
text_append (w ∷ ws) [] vs ms f = absurd f
text_append (w ∷ ws) (n ∷ ns) vs ms f =
    ap (λ (t : List ℕ). digits w n ++ t) (text_append ws ns vs ms f.1) ∙ sym (append_assoc (digits w n) (text_at ws ns) (text_at vs ms))

-- a line of a reply, accepted: its kind, 0, and the numbers added
pub line_reads : (k : ℕ) (ws ns : List ℕ) → k < 256 → FitWidths ws ns → fields_at (2 ∷ 2 ∷ ws) (answer_line k 0 (text_at ws ns)) ≡ k ∷ 0 ∷ ns
unfolding FitWidths answer_line text_at digits
line_reads k ws ns h f =
    fit_reads (2 ∷ 2 ∷ ws) (k ∷ 0 ∷ ns) (10 ∷ []) (h, (omega arith, f))

-- ---- bytes, two digits each

abbrev pub Bytes : List ℕ → Type 0
Bytes = Each (λ b. b < 256)

pub fit_bytes : (bs : List ℕ) → Bytes bs → FitWidths (twos (length bs)) bs
unfolding FitWidths
fit_bytes [] h = tt
fit_bytes (b ∷ bs) h = (h b (Memᴰ.head refl), fit_bytes bs (λ x m. h x (Memᴰ.tail m)))

pub text_bytes : (bs : List ℕ) → text_at (twos (length bs)) bs ≡ record_digits bs
unfolding text_at flatten
text_bytes [] = refl
text_bytes (b ∷ bs) = ap (λ (t : List ℕ). digits 2 b ++ t) (text_bytes bs)

pub bytes_cons : (b : ℕ) (bs : List ℕ) → b < 256 → Bytes bs → Bytes (b ∷ bs)
bytes_cons b bs h g x m = ⊎_elim (λ e. omega arith) (g x) (Memᴰ.cases_cons m)

pub bytes_join : (xs ys : List ℕ) → Bytes xs → Bytes ys → Bytes (xs ++ ys)
bytes_join [] ys h g = g
bytes_join (x ∷ xs) ys h g = bytes_cons x (xs ++ ys) (h x (Memᴰ.head refl)) (bytes_join xs ys (λ y m. h y (Memᴰ.tail m)) g)

-- ---- award records

-- the four bytes of a quantity are its eight digits
quantity_digits : (v : ℕ) → digits 2 (v / 16777216 % 256) ++ digits 2 (v / 65536 % 256) ++ digits 2 (v / 256 % 256) ++ digits 2 (v % 256) ≡ digits 8 v
unfolding digits
quantity_digits v =
    let e7 : v / 16777216 % 256 / 16 % 16 ≡ v / 268435456 % 16 = omega arith in
    let e6 : v / 16777216 % 256 / 1 % 16 ≡ v / 16777216 % 16 = omega arith in
    let e5 : v / 65536 % 256 / 16 % 16 ≡ v / 1048576 % 16 = omega arith in
    let e4 : v / 65536 % 256 / 1 % 16 ≡ v / 65536 % 16 = omega arith in
    let e3 : v / 256 % 256 / 16 % 16 ≡ v / 4096 % 16 = omega arith in
    let e2 : v / 256 % 256 / 1 % 16 ≡ v / 256 % 16 = omega arith in
    let e1 : v % 256 / 16 % 16 ≡ v / 16 % 16 = omega arith in
    let e0 : v % 256 / 1 % 16 ≡ v / 1 % 16 = omega arith in
    λ i. char_of (e7 i) ∷ char_of (e6 i) ∷ char_of (e5 i) ∷ char_of (e4 i) ∷ char_of (e3 i) ∷ char_of (e2 i) ∷ char_of (e1 i) ∷ char_of (e0 i) ∷ []

record_text : (k n v : ℕ) → record_digits (record_of k n v) ≡ text_at award_widths (k ∷ n ∷ v ∷ [])
unfolding text_at flatten digits
record_text k n v = ap (λ (t : List ℕ). digits 2 k ++ digits 2 n ++ t ++ []) (quantity_digits v)

pub record_reads : (k n v : ℕ) → k ≤ 32 → n ≤ 32 → v ≤ 1000000000 → fields_at award_widths (record_digits (record_of k n v)) ≡ k ∷ n ∷ v ∷ []
unfolding FitWidths
record_reads k n v hk hn hv =
    ap (fields_at award_widths) (record_text k n v ∙ sym (append-nil _))
    ∙ fit_reads award_widths (k ∷ n ∷ v ∷ []) [] (omega arith, (omega arith, (omega arith, tt)))
