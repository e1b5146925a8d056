-- Laws of numbers at widths: the numbers that stand in bytes, the text of numbers, and that the one is the other's way back.
use Rattle.std.specs.Prelude.{ℕ, zero, suc, ◌+◌, ◌-◌, ◌^◌, ◌<◌, ◌≡◌, refl, true, List, [], ◌∷◌, ◌++◌, length, take, drop, get_or, replicate}
use Rattle.std.proofs.Common.{ap, append_assoc, arith, length-append, length-drop, take-append-drop, take_at, drop_at, length-take-le}
use Rattle.rules_numbers.specs.Lists.{total, all, padded}
use Rattle.rules_numbers.specs.ListLaws.{total_append}
use Rattle.rules_format.specs.Hex.{all_hex, digits, hex_number}
use Rattle.rules_format.specs.Fields.{listed, fields_at, text_at}
use Rattle.rules_format.specs.HexLaws.{field_fits, power_pos, length_digits, hex_digits, hex_append, hex_parts, number_digits, digits_number}

-- behind a list stands what is taken for those past its end
pub behind : (d : ℕ) (ws : List ℕ) (n j : ℕ) → get_or (ws ++ replicate n d) j d ≡ get_or ws j d
behind d [] zero j = refl
behind d [] (suc n) zero = refl
behind d [] (suc n) (suc j) = behind d [] n j
behind d (w ∷ ws) n zero = refl
behind d (w ∷ ws) n (suc j) = behind d ws n j

-- ---- the numbers that stand there

pub length_fields : (ws cs : List ℕ) → length (fields_at ws cs) ≡ length ws
unfolding fields_at
length_fields [] cs = refl
length_fields (w ∷ ws) cs = ap suc (length_fields ws (drop w cs))

-- the first fields do not see the widths behind them
pub fields_front : (ws vs cs : List ℕ) → take (length ws) (fields_at (ws ++ vs) cs) ≡ fields_at ws cs
unfolding fields_at
fields_front [] vs cs = refl
fields_front (w ∷ ws) vs cs = ap (λ (l : List ℕ). hex_number (take w cs) ∷ l) (fields_front ws vs (drop w cs))

pub take_fields : (ws cs : List ℕ) → take (length ws) (fields_at ws cs) ≡ fields_at ws cs
unfolding fields_at
take_fields [] cs = refl
take_fields (w ∷ ws) cs = ap (λ (l : List ℕ). hex_number (take w cs) ∷ l) (take_fields ws (drop w cs))

pub fields_fit : (ws cs : List ℕ) (j : ℕ) → get_or (fields_at ws cs) j 0 < 16 ^ get_or ws j listed
unfolding fields_at
fields_fit [] cs j = power_pos listed
fields_fit (w ∷ ws) cs zero = field_fits w cs
fields_fit (w ∷ ws) cs (suc j) = fields_fit ws (drop w cs) j

-- ---- the text of numbers at widths

pub length_text : (ws ns : List ℕ) → length (text_at ws ns) ≡ total ws
unfolding text_at total
length_text [] ns = refl
length_text (w ∷ ws) ns = rw (length-append, length_digits, length_text ws (drop 1 ns))

pub hex_text : (ws ns : List ℕ) → all_hex (text_at ws ns) ≡ true
unfolding text_at all
hex_text [] ns = refl
hex_text (w ∷ ws) ns = hex_append (digits w (get_or ns 0 0)) (text_at ws (drop 1 ns)) (hex_digits w (get_or ns 0 0)) (hex_text ws (drop 1 ns))

-- numbers that fit their widths are what stands there, whatever stands behind
pub fields_text_lem : (ws ns rest : List ℕ) → length ns ≡ length ws → ((j : ℕ) → get_or ns j 0 < 16 ^ get_or ws j listed) → fields_at ws (text_at ws ns ++ rest) ≡ ns
unfolding fields_at text_at
fields_text_lem [] [] rest l h = refl
fields_text_lem [] (n ∷ ns) rest l h = absurd (omega arith)
fields_text_lem (w ∷ ws) [] rest l h = absurd (omega arith)
fields_text_lem (w ∷ ws) (n ∷ ns) rest l h =
    let more : List ℕ = text_at ws ns ++ rest in
    let t : (digits w n ++ text_at ws ns) ++ rest ≡ digits w n ++ more = append_assoc (digits w n) (text_at ws ns) rest in
    let d : length (digits w n) ≡ w = length_digits w n in
    rw (t, take_at (digits w n) more w d, drop_at (digits w n) more w d, number_digits w n (h 0), fields_text_lem ws ns rest (omega arith) (λ j. h (suc j)))

-- bytes that are digits, as many as the widths say, are the text of the numbers that stand there
pub text_fields : (ws cs : List ℕ) → all_hex cs ≡ true → length cs ≡ total ws → text_at ws (fields_at ws cs) ≡ cs
unfolding fields_at text_at total
text_fields [] [] e l = refl
text_fields [] (c ∷ cs) e l = absurd (omega arith)
text_fields (w ∷ ws) cs e l =
    let h = hex_parts w cs e in
    let n : length (drop w cs) ≡ total ws = omega (arith, length-drop w cs) in
    rw (digits_number w (take w cs) h.0 (length-take-le w cs (omega arith)), text_fields ws (drop w cs) h.1 n) (take-append-drop w cs)

-- a place of width 0 has nothing, and 0 stands for a number that is not there
pub text_padded : (n : ℕ) (ws ns : List ℕ) → text_at (padded n ws) ns ≡ text_at ws ns
unfolding text_at digits
text_padded n ws ns = go ws (n - length ws) ns
  where
    go : (ws : List ℕ) (m : ℕ) (ns : List ℕ) → text_at (ws ++ replicate m 0) ns ≡ text_at ws ns
    go [] zero ns = refl
    go [] (suc m) ns = go [] m (drop 1 ns)
    go (w ∷ ws) m ns = ap (λ (t : List ℕ). digits w (get_or ns 0 0) ++ t) (go ws m (drop 1 ns))

pub values_padded : (n : ℕ) (ws ns : List ℕ) → text_at ws (padded n ns) ≡ text_at ws ns
unfolding text_at
values_padded n ws ns = go ws ns (n - length ns)
  where
    go : (ws ns : List ℕ) (m : ℕ) → text_at ws (ns ++ replicate m 0) ≡ text_at ws ns
    go [] ns m = refl
    go (w ∷ ws) [] zero = refl
    go (w ∷ ws) [] (suc m) = ap (λ (t : List ℕ). digits w 0 ++ t) (go ws [] m)
    go (w ∷ ws) (v ∷ ns) m = ap (λ (t : List ℕ). digits w v ++ t) (go ws ns m)

pub total_padded : (n : ℕ) (ws : List ℕ) → total (padded n ws) ≡ total ws
unfolding total
total_padded n ws = rw total_append (go (n - length ws))
  where
    go : (m : ℕ) → total ws + total (replicate m 0) ≡ total ws
    go zero = omega arith
    go (suc m) = omega (arith, go m)
