-- How long replies are: award records in digits, and a bound on the reply to a line by the line's second digit alone.
use Rattle.std.specs.Prelude.{ℕ, suc, min, ◌+◌, ◌*◌, ◌≤◌, ◌<◌, ◌≡◌, refl, ◌⊎◌, Bool, true, false, cond, eqb, leb, length, get_or}
use Rattle.std.proofs.Common.{sym, ap, ◌∙◌, inl, inr, ⊎_elim, arith, leb-true, ne_eqb, eqb-true, length-append}
use mathlib.Core.List.Memᴰ
use mathlib.Core.List.{List, [], ◌∷◌, ◌++◌, map, flatten, append_assoc}
use Rattle.std.proofs.Math.Option.{Option, none, some}
use Rattle.std.proofs.lemmas.Bool.{eqb-false}
use Rattle.rules_numbers.specs.Lists.{total}
use Rattle.rules_numbers.specs.ListLaws.{Each, each_more, flat_length}
use Rattle.rules_format.specs.Hex.{value_of, digits, number_from}
use Rattle.rules_format.specs.HexLaws.{length_digits, value_lt}
use Rattle.rules_format.specs.Fields.{RawCall, raw_call, call_of, read}
use Rattle.rules_format.specs.Fields as fields
use Rattle.rules_format.specs.Lines.{lines}
use Rattle.rules_format.specs.WidthLaws.{length_text}
use Rattle.rules_format.specs.FieldLaws.{WellFormed, was_read}
use Rattle.rules_auction.specs.Ledger.{Ledger, start}
use Rattle.rules_auction.specs.Refusals.{check, is_closed}
use Rattle.rules_auction.specs.Rounds.{Answered, answer}
use Rattle.rules_auction.specs.Award.{award, winner, admissible}
use Rattle.rules_auction.specs.Clearing.{closing_price}
use Rattle.rules_auction.specs.Settling.{record_of, records_from, records, settlement_at, settlement, settling_refusal}
use Rattle.rules_replies.specs.Orders.{Order, Malformed, Asks, Settle, order_of, ordered, order_in}
use Rattle.rules_replies.specs.Replies.{call_kind, widths_of, values_of, closing_fields, settling_head, settling_tail, record_digits, closing_text, settling_text}
use Rattle.rules_replies.specs.Replies.{answer_line, award_room, reply_to, ledger_after, replies_from, replies}

-- what a reply of this kind can add: the widths of the fields before its award records, the most bytes of those, the widths behind them
unfoldable pub head_widths : ℕ → List ℕ
head_widths k = cond (eqb k 5) (widths_of closing_fields) (cond (eqb k 6) (widths_of settling_head) [])

unfoldable pub room_of : ℕ → ℕ
room_of k = cond (eqb k 6) award_room 0

unfoldable pub tail_widths : ℕ → List ℕ
tail_widths k = cond (eqb k 6) (widths_of settling_tail) []

-- kind, answer and 0A
abbrev pub bare : ℕ
bare = 5

-- the most bytes of a reply of this kind, each byte of a record being two digits
unfoldable pub most_of : ℕ → ℕ
most_of k = bare + total (head_widths k) + 2 * room_of k + total (tail_widths k)

-- at least as many bytes as the reply to a line has, by its second digit, which is its kind if that is below 16
unfoldable pub most_to : List ℕ → ℕ
most_to line = most_of (value_of (get_or line 1 0))

-- the same of a record
unfoldable pub most_in : List ℕ → ℕ
most_in bytes = total (map most_to (lines bytes))

-- ---- bytes, two digits each

pub bytes_append : (xs ys : List ℕ) → record_digits (xs ++ ys) ≡ record_digits xs ++ record_digits ys
unfolding flatten
bytes_append [] ys = refl
bytes_append (x ∷ xs) ys = ap (λ (l : List ℕ). digits 2 x ++ l) (bytes_append xs ys) ∙ sym (append_assoc (digits 2 x) (record_digits xs) (record_digits ys))

pub bytes_length : (xs : List ℕ) → length (record_digits xs) ≡ 2 * length xs
unfolding flatten
bytes_length [] = refl
bytes_length (x ∷ xs) = omega (arith, length-append (digits 2 x) (record_digits xs), length_digits 2 x, bytes_length xs)

-- ---- award records: 6 bytes each, at most 32 in 192 bytes

pub flat_digits : (rs : List (List ℕ)) → record_digits (flatten rs) ≡ flatten (map record_digits rs)
unfolding flatten
flat_digits [] = refl
flat_digits (r ∷ rs) = bytes_append r (flatten rs) ∙ ap (λ (l : List ℕ). record_digits r ++ l) (flat_digits rs)

six_from : (l : Ledger) (p k : ℕ) (vs : List ℕ) → Each (λ r. length r ≡ 6) (records_from l p k vs)
unfolding records_from
six_from l p k [] r m = absurd (Memᴰ.not-nil m)
six_from l p k (v ∷ vs) r m = each_more (λ q. length q ≡ 6) (eqb v 0) (record_of k (winner l p k v) v) _ refl (six_from l p (suc k) vs) r m

pub six : (l : Ledger) → Each (λ r. length r ≡ 6) (settlement l).records
unfolding records settlement settlement_at
six l = six_from l (closing_price l) 1 (award l (closing_price l))

pub records_room : (l : Ledger) (limit : ℕ) → settling_refusal l limit award_room ≡ 0 → 6 * length (settlement l).records ≤ award_room
unfolding settling_refusal settlement settlement_at
records_room l limit e = go (is_closed l.phase) (leb (length (admissible l (closing_price l))) (min limit 65536)) (leb size award_room) refl e
  where
    size : ℕ
    size = 6 * length (records l (closing_price l))

    go : (x y z : Bool) → leb size award_room ≡ z → check x 2 (check y 10 (check z 11 0)) ≡ 0 → size ≤ award_room
    go true true true h e = leb-true size award_room h
    go true true false h e = absurd (omega arith)
    go true false z h e = absurd (omega arith)
    go false y z h e = absurd (omega arith)

settled_length : (l : Ledger) → length (settling_text (settlement l)) ≡ total (head_widths 6) + 12 * length (settlement l).records + total (tail_widths 6)
unfolding settling_text head_widths tail_widths
settled_length l =
    let rs : List (List ℕ) = (settlement l).records in
    let n : length (flatten (map record_digits rs)) ≡ 12 * length rs =
    omega (arith, ap length (flat_digits rs), bytes_length (flatten rs), flat_length 6 rs (six l)) in
    simp (length-append, length_text) (omega (arith, n))

-- ---- the reply to an order

line_length : (k n b : ℕ) (added : List ℕ) → (n ≡ 0 → bare + length added ≤ b) → bare ≤ b → length (answer_line k n added) ≤ b
unfolding answer_line
line_length k n b added h least = simp (length-append, length_digits) (omega (arith, go (eqb n 0) refl))
  where
    go : (t : Bool) → eqb n 0 ≡ t → bare + length (cond t added []) ≤ b
    go true e = h (eqb-true n 0 e)
    go false e = omega arith

pub least_most : (k : ℕ) → bare ≤ most_of k
unfolding most_of
least_most k = omega arith

call_length : (r : Answered) (k : ℕ) → length (cond (eqb k 5) (closing_text r) []) ≤ total (head_widths k)
unfolding closing_text head_widths
call_length r k = go (eqb k 5)
  where
    go : (t : Bool) → length (cond t (closing_text r) []) ≤ total (cond t (widths_of closing_fields) (cond (eqb k 6) (widths_of settling_head) []))
    go true = omega (arith, length_text (widths_of closing_fields) (values_of closing_fields r))
    go false = omega arith

call_most : (r : Answered) (k : ℕ) → bare + length (cond (eqb k 5) (closing_text r) []) ≤ most_of k
unfolding most_of
call_most r k = omega (arith, call_length r k)

settling_most : (l : Ledger) (limit : ℕ) → settling_refusal l limit award_room ≡ 0 → bare + length (settling_text (settlement l)) ≤ most_of 6
unfolding most_of room_of
settling_most l limit e = omega (arith, settled_length l, records_room l limit e)

-- by what is asked: the most bytes of the reply
unfoldable most : Order → ℕ
most Malformed = bare
most (Asks c) = most_of (call_kind c)
most (Settle limit) = most_of 6

reply_most : (l : Ledger) (o : Order) → length (reply_to l o) ≤ most o
unfolding reply_to most
reply_most l Malformed = line_length 255 12 bare [] (λ e. omega arith) (omega arith)
reply_most l (Asks c) =
    line_length (call_kind c) (answer l c).number (most_of (call_kind c)) _ (λ e. call_most (answer l c) (call_kind c)) (least_most (call_kind c))
reply_most l (Settle limit) = line_length 6 (settling_refusal l limit award_room) (most_of 6) _ (settling_most l limit) (least_most 6)

-- ---- the second digit of a line says what it asks

second : (l : List ℕ) (k : ℕ) → WellFormed l → fields.kind_of l ≡ k → k < 16 → value_of (get_or l 1 0) ≡ k
unfolding fields.kind_of number_from
second [] k w e h = absurd (omega (arith, w.exact))
second (c ∷ []) k w e h = absurd (omega (arith, w.exact))
second (c ∷ d ∷ rest) k w e h =
    let v : (0 * 16 + value_of c) * 16 + value_of d ≡ k = e in
    omega (arith, value_lt d, v)

cond_most : (b : Bool) (x y : Order) → most (cond b x y) ≡ cond b (most x) (most y)
cond_most true x y = refl
cond_most false x y = refl

cond_same : (b : Bool) (n : ℕ) → cond b n n ≡ n
cond_same true n = refl
cond_same false n = refl

-- the kinds that add nothing
others_most : (c : RawCall) → (c.kind ≡ 5 → ⊥) → (c.kind ≡ 6 → ⊥) → most (order_of c) ≡ bare
unfolding most order_of most_of head_widths room_of tail_widths total
others_most c h5 h6 = simp (cond_most, ne_eqb c.kind 5 h5, ne_eqb c.kind 6 h6, cond_same)

adding_most : (k : ℕ) (ns : List ℕ) → (k ≡ 5) ⊎ (k ≡ 6) → most (order_of (raw_call k ns)) ≡ most_of k
unfolding most order_of
adding_most k ns e = ⊎_elim (λ h. rw h) (λ h. rw h) e

line_most : (line : List ℕ) → WellFormed line → most (order_of (call_of line)) ≤ most_to line
unfolding call_of most_to
line_most line w = go (eqb k 5) (eqb k 6) refl refl
  where
    k : ℕ
    k = fields.kind_of line

    known : (k ≡ 5) ⊎ (k ≡ 6) → k < 16
    known e = ⊎_elim (λ h. omega arith) (λ h. omega arith) e

    adds : (k ≡ 5) ⊎ (k ≡ 6) → most (order_of (call_of line)) ≤ most_to line
    adds e = omega (arith, adding_most k (call_of line).fields e, ap most_of (second line k w refl (known e)))

    go : (a b : Bool) → eqb k 5 ≡ a → eqb k 6 ≡ b → most (order_of (call_of line)) ≤ most_to line
    go true b e f = adds (inl (eqb-true k 5 e))
    go false true e f = adds (inr (eqb-true k 6 f))
    go false false e f = omega (arith, others_most (call_of line) (eqb-false k 5 e) (eqb-false k 6 f), least_most (value_of (get_or line 1 0)))

order_most : (line : List ℕ) → most (order_in line) ≤ most_to line
unfolding order_in ordered most most_to
order_most line = go (read line) refl
  where
    go : (r : Option RawCall) → read line ≡ r → most (ordered r) ≤ most_to line
    go none e = least_most (value_of (get_or line 1 0))
    go (some c) e = let r = was_read line c e in rw (sym r.1) (line_most line r.0)

pub reply_bound : (l : Ledger) (line : List ℕ) → length (reply_to l (order_in line)) ≤ most_to line
reply_bound l line = omega (arith, reply_most l (order_in line), order_most line)

bound_from : (l : Ledger) (ls : List (List ℕ)) → length (replies_from l ls) ≤ total (map most_to ls)
unfolding replies_from total
bound_from l [] = omega arith
bound_from l (line ∷ ls) =
    let next : Ledger = ledger_after l (order_in line) in
    omega (arith, length-append (reply_to l (order_in line)) (replies_from next ls), reply_bound l line, bound_from next ls)

pub replies_bound : (bytes : List ℕ) → length (replies bytes) ≤ most_in bytes
unfolding replies most_in
replies_bound bytes = bound_from start (lines bytes)
