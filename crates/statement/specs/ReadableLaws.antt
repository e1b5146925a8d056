-- The replies to every list of calls can be read: each figure of an accepted closing or settling fits its field.
use Prim.Native.Nat.{ℕ, ◌*◌, ◌<◌}
use Rattle.std.specs.Prelude.{◌≡◌, refl, Bool, not, length}
use Rattle.std.proofs.Math.Path.{sym, ap, ap₂}
use Rattle.std.proofs.Common.{◌∙◌, subst}
use Rattle.std.proofs.Math.Bool.{true, false, cond}
use mathlib.Core.List.Memᴰ
use mathlib.Core.List.{List, [], ◌∷◌, ◌++◌, flatten}
use native.Mathlib.Omega.{arith}
use Rattle.rules_numbers.specs.ListLaws.{Each, flat_length}
use Rattle.rules_format.specs.Fields.{fields_at, text_at}
use Rattle.rules_auction.specs.Ledger.{Call, Close, Ledger}
use Rattle.rules_auction.specs.Refusals.{refusal}
use Rattle.rules_auction.specs.Rounds.{ledger, granted, answer}
use Rattle.rules_auction.specs.Clearing.{closing_price}
use Rattle.rules_auction.specs.Second.{short}
use Rattle.rules_auction.specs.Participation.{grants, sufficient}
use Rattle.rules_auction.specs.Settling.{settlement, settlement_at, settling_refusal}
use Rattle.laws_ledger.specs.Sound.{Sound}
use Rattle.laws_ledger.specs.reachable.Reachable.{sound}
use Rattle.rules_replies.specs.Orders.{Asks, Settle}
use Rattle.rules_replies.specs.Replies.{twos_complement, widths_of, values_of, closing_fields, settling_head, settling_tail, record_digits, closing_text, settling_text}
use Rattle.rules_replies.specs.Replies.{answer_line, award_room, reply_to}
use Rattle.rules_replies.specs.Lengths.{flat_digits, six, records_room}
use Rattle.statement.specs.Readable.{signed, twos, Awarded, Readable}
use Rattle.statement.specs.ReplyDigits.{FitWidths, fit_append, text_append, line_reads, Bytes, fit_bytes, text_bytes, bytes_cons, bytes_join}
use Rattle.statement.specs.Figures.{Passed, passed, excess_small, excess_back, closing_remainder_small, price_small, demand_small, remainder_small}
use Rattle.statement.specs.Figures.{second_small, paid_small, total_small, covering_small, awarded}

-- ---- award records

record_bytes : (r : List ℕ) → Awarded r → Bytes r
record_bytes r a =
    let k = a.project_in in
    let n = a.developer_in_lem in
    subst Bytes (sym a.bytes)
    (bytes_cons _ _ (omega arith) (bytes_cons _ _ (omega arith) (bytes_cons _ _ (omega arith)
    (bytes_cons _ _ (omega arith) (bytes_cons _ _ (omega arith) (bytes_cons _ _ (omega arith) (λ x m. absurd (Memᴰ.not-nil m))))))))

records_bytes : (rs : List (List ℕ)) → Each Awarded rs → Bytes (flatten rs)
unfolding flatten
records_bytes [] h = λ x m. absurd (Memᴰ.not-nil m)
records_bytes (r ∷ rs) h = bytes_join r (flatten rs) (record_bytes r (h r (Memᴰ.head refl))) (records_bytes rs (λ x m. h x (Memᴰ.tail m)))

-- ---- the replies

accepted_number : (l : Ledger) → refusal l Close ≡ 0 → (answer l Close).number ≡ 0
unfolding answer granted
accepted_number l e = rw e

module _ (l : Ledger) (s : Sound l) where
  closing_fit : refusal l Close ≡ 0 → FitWidths (widths_of closing_fields) (values_of closing_fields (answer l Close))
  unfolding FitWidths answer granted
  closing_fit e = let r = closing_remainder_small l s e in rw e (excess_small l s e, (omega arith, tt))

  closing_reads : refusal l Close ≡ 0 →
      fields_at (2 ∷ 2 ∷ widths_of closing_fields) (reply_to l (Asks Close)) ≡ 5 ∷ 0 ∷ values_of closing_fields (answer l Close)
  unfolding reply_to closing_text
  closing_reads e =
      ap (λ (n : ℕ). fields_at (2 ∷ 2 ∷ widths_of closing_fields) (answer_line 5 n (closing_text (answer l Close)))) (accepted_number l e)
      ∙ line_reads 5 (widths_of closing_fields) (values_of closing_fields (answer l Close)) (omega arith) (closing_fit e)

  closing_back : refusal l Close ≡ 0 → signed (twos_complement (answer l Close).excess) ≡ (answer l Close).excess
  unfolding answer granted
  closing_back e = rw e (excess_back l s e)

  module _ (limit : ℕ) (e : settling_refusal l limit award_room ≡ 0) where
    went : Passed l
    went = passed l limit award_room e

    awards : Each Awarded (settlement l).records
    unfolding settlement settlement_at
    awards = awarded l s went

    head_fit : FitWidths (widths_of settling_head) (values_of settling_head (settlement l))
    unfolding FitWidths settlement settlement_at
    head_fit =
        let p = price_small l s went in
        let d = demand_small l s went in
        let t = total_small l s went in
        let a = went.within_limit in
        let c = covering_small l s went in
        let n = records_room l limit e in
        (omega arith, (omega arith, (omega arith, (omega arith, (omega arith, (omega arith, tt))))))

    tail_fit : FitWidths (widths_of settling_tail) (values_of settling_tail (settlement l))
    unfolding FitWidths settlement settlement_at
    tail_fit =
        let r = remainder_small l s went in
        let p = second_small l s went in
        let q = paid_small l s went in
        (omega arith, (omega arith, (mark (short l), (mark (not (sufficient l (grants l (closing_price l)))), (omega arith, tt)))))
      where
        mark : (b : Bool) → cond b 1 0 < 256
        mark true = omega arith
        mark false = omega arith

    abbrev bytes : List ℕ
    bytes = flatten (settlement l).records

    -- the figures before the records, and the records' bytes
    abbrev front_widths : List ℕ
    front_widths = widths_of settling_head ++ twos (length bytes)

    abbrev front : List ℕ
    front = values_of settling_head (settlement l) ++ bytes

    front_fit : FitWidths front_widths front
    front_fit =
        fit_append (widths_of settling_head) (values_of settling_head (settlement l)) (twos (length bytes)) bytes head_fit
        (fit_bytes bytes (records_bytes (settlement l).records awards))

    text_is : settling_text (settlement l) ≡ text_at (front_widths ++ widths_of settling_tail) (front ++ values_of settling_tail (settlement l))
    unfolding settling_text
    text_is =
        let head : List ℕ = text_at (widths_of settling_head) (values_of settling_head (settlement l)) in
        let tail : List ℕ = text_at (widths_of settling_tail) (values_of settling_tail (settlement l)) in
        let front_text : head ++ record_digits bytes ≡ text_at front_widths front =
        ap (λ (t : List ℕ). head ++ t) (sym (text_bytes bytes))
        ∙ sym (text_append (widths_of settling_head) (values_of settling_head (settlement l)) (twos (length bytes)) bytes head_fit) in
        ap (λ (t : List ℕ). head ++ t ++ tail) (sym (flat_digits (settlement l).records))
        ∙ ap (λ (t : List ℕ). t ++ tail) front_text
        ∙ sym (text_append front_widths front (widths_of settling_tail) (values_of settling_tail (settlement l)) front_fit)

    settling_reads :
        fields_at (2 ∷ 2 ∷ widths_of settling_head ++ twos (6 * length (settlement l).records) ++ widths_of settling_tail) (reply_to l (Settle limit))
        ≡ 6 ∷ 0 ∷ front ++ values_of settling_tail (settlement l)
    unfolding reply_to
    settling_reads =
        let ws : List ℕ = front_widths ++ widths_of settling_tail in
        let ns : List ℕ = front ++ values_of settling_tail (settlement l) in
        let fit : FitWidths ws ns = fit_append front_widths front (widths_of settling_tail) (values_of settling_tail (settlement l)) front_fit tail_fit in
        ap (λ (n : ℕ). fields_at (2 ∷ 2 ∷ widths_of settling_head ++ twos n ++ widths_of settling_tail) (reply_to l (Settle limit)))
        (sym (flat_length 6 (settlement l).records (six l)))
        ∙ ap₂ (λ (n : ℕ) (t : List ℕ). fields_at (2 ∷ 2 ∷ ws) (answer_line 6 n t)) e text_is
        ∙ line_reads 6 ws ns (omega arith) fit

pub readable : (cs : List Call) → Readable (ledger cs)
readable cs = record {
  closing = closing_reads (ledger cs) (sound cs);
  excess = closing_back (ledger cs) (sound cs);
  settling = settling_reads (ledger cs) (sound cs);
  records = awards (ledger cs) (sound cs);
}
