-- Laws of digits: one byte more of a number, how large a number of so many digits can be, how long digits are, and what they read as.
use Rattle.std.specs.Prelude.{ℕ, zero, suc, ◌+◌, ◌-◌, ◌*◌, ◌/◌, ◌%◌, ◌^◌, ◌≤◌, ◌<◌, ◌≡◌, refl, Bool, true, false, cond, ◌&&◌, List, [], ◌∷◌, ◌++◌, leb, ltb, length, take, drop, get_or}
use Rattle.std.proofs.Common.{sym, ap, ap₂, ◌∙◌, ⊎_elim, add-one, add_assoc, add-mul, add-zero, div-lt_iff_lt-mul, div-one, lt_of_lt_of_le, mod-eq_of_lt, mod-lt, mul_assoc, mul_comm, mul-one, one-mul, pow-suc, zero-add, zero-lt-suc, zero-mul, arith, leb-true, le-leb, ltb-true, ltb-false, lt-ltb, le-ltb, length-take, drop-cons}
use Rattle.std.proofs.Math.Nat.{div-div-eq-div-mul, mod-one, one-le-pow, pow-le-pow_right, pow-zero}
use Rattle.std.proofs.lemmas.Bool.{lt-leb}
use Rattle.std.proofs.Math.Arith.{digits_div, mod-mul}
use Rattle.rules_numbers.specs.Cases.{and_true, or_true}
use Rattle.rules_numbers.specs.Lists.{all}
use Rattle.rules_format.specs.Hex.{is_hex, all_hex, value_of, char_of, digits, number_from, hex_number}

pub hex_step : (s : List ℕ) (i : ℕ) → i < length s → all_hex (drop i s) ≡ is_hex (get_or s i 0) && all_hex (drop (i + 1) s)
unfolding all
hex_step s i h = rw (add-one, drop-cons s i 0)

pub number_step : (s : List ℕ) (i before : ℕ) → i < length s → number_from before (drop i s) ≡ number_from (before * 16 + value_of (get_or s i 0)) (drop (i + 1) s)
unfolding number_from
number_step s i before h = rw (add-one, drop-cons s i 0)

-- what was read is at most what is read in the end
pub number_from_le : (cs : List ℕ) (before : ℕ) → before ≤ number_from before cs
unfolding number_from
number_from_le [] before = omega arith
number_from_le (c ∷ cs) before = omega (arith, number_from_le cs (before * 16 + value_of c))

pub value_lt : (c : ℕ) → value_of c < 16
unfolding value_of
value_lt c = go (leb c 57) refl
  where
    go : (t : Bool) → leb c 57 ≡ t → cond t (c - 48) ((c - 55) % 16) < 16
    go true e = omega (arith, leb-true c 57 e)
    go false e = omega arith

pub power_pos : (k : ℕ) → 0 < 16 ^ k
power_pos k = one-le-pow k 16 (zero-lt-suc 15)

-- what was read before the bytes stands above them
pub number_above : (cs : List ℕ) (before : ℕ) → number_from before cs / 16 ^ length cs ≡ before
unfolding number_from
number_above [] before = simp (pow-zero, div-one)
number_above (c ∷ cs) before =
    rw (pow-suc 16 (length cs), ← div-div-eq-div-mul (number_from (before * 16 + value_of c) cs) (16 ^ length cs) 16, number_above cs (before * 16 + value_of c))
    (digits_div before (value_lt c))

pub number_lt : (cs : List ℕ) → hex_number cs < 16 ^ length cs
number_lt cs =
    rw one-mul at ((div-lt_iff_lt-mul {x = hex_number cs} {y = 1} (power_pos (length cs))).0 (omega (arith, number_above cs 0)))

-- w digits are below 16 to the w
pub number_fits : (w : ℕ) (cs : List ℕ) → length cs ≤ w → hex_number cs < 16 ^ w
number_fits w cs h = lt_of_lt_of_le (number_lt cs) (pow-le-pow_right (zero-lt-suc 15) h)

pub field_fits : (w : ℕ) (cs : List ℕ) → hex_number (take w cs) < 16 ^ w
field_fits w cs = number_fits w (take w cs) (omega (arith, length-take w cs))

pub length_digits : (w n : ℕ) → length (digits w n) ≡ w
unfolding digits
length_digits zero n = refl
length_digits (suc k) n = ap suc (length_digits k n)

-- ---- digits read as the number that they were written for

-- the digit of each value below 16
value_char : (d : ℕ) → d < 16 → value_of (char_of d) ≡ d
unfolding value_of char_of
value_char d h = go (ltb d 10) refl
  where
    go : (t : Bool) → ltb d 10 ≡ t → value_of (cond t (48 + d) (55 + d)) ≡ d
    go true e = let g : d < 10 = ltb-true d 10 e in rw (le-leb (48 + d) 57 (omega arith)) (omega arith)
    go false e = let g : 10 ≤ d = ltb-false d 10 e in rw (lt-leb (55 + d) 57 (omega arith)) (omega arith)

hex_char : (d : ℕ) → d < 16 → is_hex (char_of d) ≡ true
unfolding is_hex char_of
hex_char d h = go (ltb d 10) refl
  where
    go : (t : Bool) → ltb d 10 ≡ t → is_hex (cond t (48 + d) (55 + d)) ≡ true
    go true e = let g : d < 10 = ltb-true d 10 e in rw (le-leb 48 (48 + d) (omega arith), le-leb (48 + d) 57 (omega arith))
    go false e =
        let g : 10 ≤ d = ltb-false d 10 e in
        rw (le-leb 48 (55 + d) (omega arith), lt-leb (55 + d) 57 (omega arith), le-leb 65 (55 + d) (omega arith), le-leb (55 + d) 70 (omega arith))

pub hex_digits : (w n : ℕ) → all_hex (digits w n) ≡ true
unfolding digits all
hex_digits zero n = refl
hex_digits (suc k) n = rw (hex_char (n / 16 ^ k % 16) (mod-lt _ (zero-lt-suc 15))) (hex_digits k n)

pub hex_append : (cs ds : List ℕ) → all_hex cs ≡ true → all_hex ds ≡ true → all_hex (cs ++ ds) ≡ true
unfolding all
hex_append [] ds e g = g
hex_append (c ∷ cs) ds e g = let b = and_true (is_hex c) (all_hex cs) e in rw b.0 (hex_append cs ds b.1 g)

pub hex_parts : (n : ℕ) (cs : List ℕ) → all_hex cs ≡ true → (all_hex (take n cs) ≡ true) × (all_hex (drop n cs) ≡ true)
unfolding all
hex_parts zero cs e = (refl, e)
hex_parts (suc n) [] e = (refl, refl)
hex_parts (suc n) (c ∷ cs) e = let b = and_true (is_hex c) (all_hex cs) e in let r = hex_parts n cs b.1 in (rw b.0 r.0, r.1)

one_more : (k n before : ℕ) → (before * 16 + n / 16 ^ k % 16) * 16 ^ k + n % 16 ^ k ≡ before * 16 ^ suc k + n % 16 ^ suc k
one_more k n before =
    rw (pow-suc 16 k, mul_comm (16 ^ k) 16, mod-mul n (zero-lt-suc 15) (power_pos k)) (simp (add-mul, mul_assoc, add_assoc))

-- w digits read as the number less its multiples of 16 to the w
number_digits_from : (w n before : ℕ) → number_from before (digits w n) ≡ before * 16 ^ w + n % 16 ^ w
unfolding number_from digits
number_digits_from zero n before = simp (pow-zero, mul-one, mod-one, add-zero)
number_digits_from (suc k) n before =
    ap (λ (d : ℕ). number_from (before * 16 + d) (digits k n)) (value_char (n / 16 ^ k % 16) (mod-lt _ (zero-lt-suc 15)))
    ∙ number_digits_from k n (before * 16 + n / 16 ^ k % 16) ∙ one_more k n before

pub number_digits : (w n : ℕ) → n < 16 ^ w → hex_number (digits w n) ≡ n
number_digits w n h = number_digits_from w n 0 ∙ rw (zero-mul, zero-add) (mod-eq_of_lt h)

-- ---- bytes that are digits are what is written for the number that they read as

within : (a b c : ℕ) → leb a c && leb c b ≡ true → (a ≤ c) × (c ≤ b)
within a b c e = let t = and_true (leb a c) (leb c b) e in (leb-true a c t.0, leb-true c b t.1)

char_value : (c : ℕ) → is_hex c ≡ true → char_of (value_of c) ≡ c
unfolding is_hex value_of char_of
char_value c h = ⊎_elim
    (λ d. let b = within 48 57 c d in rw (le-leb c 57 b.1, lt-ltb (c - 48) 10 (omega (arith, b))) (omega (arith, b)))
    (λ d. let b = within 65 70 c d in rw (lt-leb c 57 (omega (arith, b)), le-ltb ((c - 55) % 16) 10 (omega (arith, b))) (omega (arith, b)))
    (or_true (leb 48 c && leb c 57) (leb 65 c && leb c 70) h)

digits_number_from : (cs : List ℕ) (before : ℕ) → all_hex cs ≡ true → digits (length cs) (number_from before cs) ≡ cs
unfolding digits number_from all
digits_number_from [] before e = refl
digits_number_from (c ∷ cs) before e =
    let b = and_true (is_hex c) (all_hex cs) e in
    let m : ℕ = before * 16 + value_of c in
    let v : number_from m cs / 16 ^ length cs % 16 ≡ value_of c = rw (number_above cs m) (omega (arith, value_lt c)) in
    ap₂ ◌∷◌ (ap char_of v ∙ char_value c b.0) (digits_number_from cs m b.1)

pub digits_number : (w : ℕ) (cs : List ℕ) → all_hex cs ≡ true → length cs ≡ w → digits w (hex_number cs) ≡ cs
digits_number w cs e l = ap (λ (n : ℕ). digits n (hex_number cs)) (sym l) ∙ digits_number_from cs 0 e
