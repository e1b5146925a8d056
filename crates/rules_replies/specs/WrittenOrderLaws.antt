-- Laws of writing what a line asks: a writable order's line asks that order, each line that asks something is written as the same bytes,
-- and a record written order by order asks exactly those orders. An order is its kind and fields, both ways (`order_raw`, `raw_order`, a
-- line for each kind); all else are the laws of the table (format, WrittenLaws).
use Rattle.std.specs.Prelude.{ℕ, zero, suc, ◌+◌, ◌-◌, ◌*◌, ◌≤◌, ◌≡◌, refl, Bool, true, false, cond, eqb, length, get_or, drop}
use Rattle.std.proofs.Common.{sym, ap, ap₂, ◌∙◌, subst, arith, length-drop, drop_of_length-le, drop-cons, eqb-true, eq-eqb}
use Rattle.std.proofs.lemmas.Bool.{false≢true}
use mathlib.Core.List.{List, [], ◌∷◌, ◌++◌, map, flatten, append-nil}
use Rattle.std.proofs.Math.Option.{Option, none, some}
use Rattle.rules_numbers.specs.Cases.{and_true}
use Rattle.rules_numbers.specs.Lists.{all}
use Rattle.rules_numbers.specs.ListLaws.{any_true, all_true}
use Rattle.rules_format.specs.Fields.{Row, table_rows, known, RawCall, raw_call, fixed, each, kind_of, call_of, read}
use Rattle.rules_format.specs.FieldLaws.{WellFormed, reads, Formed, formed, as_many_at, listed_fields}
use Rattle.rules_format.specs.Lines.{lines}
use Rattle.rules_format.specs.Written.{line_of, frame_of, writable}
use Rattle.rules_format.specs.WrittenLaws.{reads_back, writes_back, frame_first}
use Rattle.rules_auction.specs.Ledger.{Ledger, start, Move, Offer, Lodge, Cancel, Own, Named, SetUp, Register, Open, By, Close}
use Rattle.rules_replies.specs.Orders.{Order, Malformed, Asks, Settle, firsts, seconds, order_of, ordered, order_in}
use Rattle.rules_replies.specs.WrittenOrders.{paired, raw_of, lists_match, writable_order, frame_of_order}
use Rattle.rules_replies.specs.Replies.{reply_to, ledger_after, replies_from, replies}

-- ---- steps, and their prices and levels

firsts_paired : (ps qs : List ℕ) → length ps ≡ length qs → firsts (paired ps qs) ≡ ps
unfolding firsts paired
firsts_paired [] qs e = refl
firsts_paired (p ∷ ps) [] e = absurd (omega arith)
firsts_paired (p ∷ ps) (q ∷ qs) e = ap (λ (l : List ℕ). p ∷ l) (firsts_paired ps qs (omega arith))

seconds_paired : (ps qs : List ℕ) → length ps ≡ length qs → seconds (paired ps qs) ≡ qs
unfolding seconds paired
seconds_paired [] [] e = refl
seconds_paired [] (q ∷ qs) e = absurd (omega arith)
seconds_paired (p ∷ ps) [] e = absurd (omega arith)
seconds_paired (p ∷ ps) (q ∷ qs) e = ap (λ (l : List ℕ). q ∷ l) (seconds_paired ps qs (omega arith))

record Paired (ss : List ℕ) (n : ℕ) : Type 0 where
  same : paired (firsts ss) (seconds ss) ≡ ss
  prices : length (firsts ss) ≡ n
  levels : length (seconds ss) ≡ n

paired_back : (ss : List ℕ) (n : ℕ) → length ss ≡ 2 * n → Paired ss n
unfolding firsts seconds paired
paired_back [] n e = record { same = refl; prices = omega arith; levels = omega arith }
paired_back (p ∷ []) n e = absurd (omega arith)
paired_back (p ∷ q ∷ ss) zero e = absurd (omega arith)
paired_back (p ∷ q ∷ ss) (suc n) e =
    let r = paired_back ss n (omega arith) in
    record { same = ap (λ (l : List ℕ). p ∷ q ∷ l) r.same; prices = ap suc r.prices; levels = ap suc r.levels }

-- an offer with a price that has no level is no frame
unequal_lists : (n p : ℕ) → lists_match (Asks (By n (Offer (p ∷ []) []))) ≡ false
unfolding lists_match
unequal_lists n p = refl

-- ---- an order from its kind and fields

by_steps : (n : ℕ) (move : List ℕ → List ℕ → Move) (ps qs : List ℕ) → eqb (length ps) (length qs) ≡ true →
    Asks (By n (move (firsts (paired ps qs)) (seconds (paired ps qs)))) ≡ Asks (By n (move ps qs))
by_steps n move ps qs e =
    let m = eqb-true (length ps) (length qs) e in
    ap₂ (λ (xs : List ℕ) (ys : List ℕ). Asks (By n (move xs ys))) (firsts_paired ps qs m) (seconds_paired ps qs m)

order_raw : (o : Order) → lists_match o ≡ true → order_of (raw_of o) ≡ o
unfolding order_of raw_of lists_match
order_raw Malformed e = refl
order_raw (Asks (SetUp s)) e = refl
order_raw (Asks (Register n Own x)) e = refl
order_raw (Asks (Register n (Named g) x)) e = refl
order_raw (Asks (Open c)) e = refl
order_raw (Asks (By n (Offer ps qs))) e = by_steps n Offer ps qs e
order_raw (Asks (By n (Lodge ps qs))) e = by_steps n Lodge ps qs e
order_raw (Asks (By n Cancel)) e = refl
order_raw (Asks Close) e = refl
order_raw (Settle limit) e = refl

-- ---- kind and fields from an order

-- n fields from place i on
abbrev spelled : ℕ → ℕ → List ℕ → List ℕ
spelled i zero ns = []
spelled i (suc n) ns = get_or ns i 0 ∷ spelled (suc i) n ns

spelled_from : (n i j : ℕ) (ns : List ℕ) → i + n ≡ j → j ≤ length ns → spelled i n ns ++ drop j ns ≡ drop i ns
spelled_from zero i j ns e h = let z : j ≡ i = omega arith in ap (λ (m : ℕ). drop m ns) z
spelled_from (suc n) i j ns e h =
    ap (λ (l : List ℕ). get_or ns i 0 ∷ l) (spelled_from n (suc i) j ns (omega arith) h) ∙ sym (drop-cons ns i 0 (omega arith))

front : (m : ℕ) (ns : List ℕ) → m ≤ length ns → spelled 0 m ns ++ drop m ns ≡ ns
front m ns h = spelled_from m 0 m ns (omega arith) h

-- a call that was read, by what its kind's row repeats
module _ (c : RawCall) (f : Formed c) (k : ℕ) (e : c.kind ≡ k) where
  abbrev ns : List ℕ
  ns = c.fields

  -- nothing: the fixed fields are all
  plain : each k ≡ 0 → raw_call k (spelled 0 (length (fixed k)) ns) ≡ c
  plain z =
      let n : length ns ≡ length (fixed k) = as_many_at c f k e ∙ rw z (omega arith) in
      let d : drop (length (fixed k)) ns ≡ [] = drop_of_length-le ns {i = length (fixed k)} (omega arith) in
      ap₂ raw_call (sym e) (rw (d, append-nil) at (front (length (fixed k)) ns (omega arith)))

  -- a list behind m fields and a count of it
  module _ (m : ℕ) (z : length (fixed k) ≡ suc m) where
    as_many : length ns ≡ suc m + each k * get_or ns m 0
    as_many = let p : length (fixed k) - 1 ≡ m = omega arith in rw (p, z) at (listed_fields c f k e (omega arith)).0

    counted : (n : ℕ) (rest : List ℕ) → n ≡ get_or ns m 0 → rest ≡ drop (suc m) ns → raw_call k (spelled 0 m ns ++ (n ∷ rest)) ≡ c
    counted n rest en er =
        let d : n ∷ rest ≡ drop m ns = ap₂ ◌∷◌ en er ∙ sym (drop-cons ns m 0 (omega (arith, as_many))) in
        ap₂ raw_call (sym e) (ap (λ (l : List ℕ). spelled 0 m ns ++ l) d ∙ front m ns (omega (arith, as_many)))

    behind : length (drop (suc m) ns) ≡ each k * get_or ns m 0
    behind = omega (arith, length-drop (suc m) ns, as_many)

    -- one field for each
    with_list : each k ≡ 1 → raw_call k (spelled 0 m ns ++ (length (drop (suc m) ns) ∷ drop (suc m) ns)) ≡ c
    with_list one = counted (length (drop (suc m) ns)) (drop (suc m) ns) (behind ∙ rw one (omega arith)) refl

    -- a price and a level for each
    with_steps : each k ≡ 2 → let ps = firsts (drop (suc m) ns) in let qs = seconds (drop (suc m) ns) in
        (raw_call k (spelled 0 m ns ++ (length ps ∷ paired ps qs)) ≡ c) × (eqb (length ps) (length qs) ≡ true)
    with_steps two =
        let r = paired_back (drop (suc m) ns) (get_or ns m 0) (behind ∙ rw two) in
        (counted _ _ r.prices r.same, eq-eqb _ _ (r.prices ∙ sym r.levels))

-- an order that asks something has the kind and fields that it was read from
abbrev Same : RawCall → Order → Type 0
Same c o = (raw_of o ≡ c) × (lists_match o ≡ true)

record From (c : RawCall) (o : Order) : Type 0 where
  back : (o ≡ Malformed → ⊥) → Same c o

at_kind : (c : RawCall) (k : ℕ) (x y : Order) → (c.kind ≡ k → Same c x) → From c y → From c (cond (eqb c.kind k) x y)
at_kind c k x y here other = go (eqb c.kind k) refl
  where
    go : (b : Bool) → eqb c.kind k ≡ b → From c (cond b x y)
    go true t = record { back = λ o. here (eqb-true c.kind k t) }
    go false t = other

raw_order : (c : RawCall) → Formed c → From c (order_of c)
unfolding order_of raw_of lists_match fixed each
raw_order c f =
    at_kind c 1 _ _ (λ e. (plain c f 1 e refl, refl))
    (at_kind c 2 _ _ (λ e. (with_list c f 2 e 5 refl refl, refl))
    (at_kind c 3 _ _ (λ e. (plain c f 3 e refl, refl))
    (at_kind c 4 _ _ (λ e. with_steps c f 4 e 1 refl refl)
    (at_kind c 5 _ _ (λ e. (plain c f 5 e refl, refl))
    (at_kind c 6 _ _ (λ e. (plain c f 6 e refl, refl))
    (at_kind c 7 _ _ (λ e. with_steps c f 7 e 1 refl refl)
    (at_kind c 8 _ _ (λ e. (with_list c f 8 e 6 refl refl, refl))
    (at_kind c 9 _ _ (λ e. (plain c f 9 e refl, refl))
    (record { back = λ o. absurd (o refl) })))))))))

-- ---- a line

-- the frame of a writable order, without its 0A, asks that order
pub order_reads : (o : Order) → writable_order o ≡ true → order_in (line_of (raw_of o)) ≡ o
unfolding order_in ordered writable_order
order_reads o e =
    let t = and_true (lists_match o) (writable (raw_of o)) e in
    ap ordered (reads_back (raw_of o) t.1) ∙ order_raw o t.0

-- each line that asks something, read and then written, is the same bytes, 0A added
pub line_writes : (l : List ℕ) (o : Order) → order_in l ≡ o → (o ≡ Malformed → ⊥)
    → (frame_of_order o ≡ l ++ (10 ∷ [])) × (writable_order o ≡ true)
unfolding order_in ordered writable_order frame_of_order frame_of
line_writes l o e asks = go (read l) refl e
  where
    go : (r : Option RawCall) → read l ≡ r → ordered r ≡ o → (frame_of_order o ≡ l ++ (10 ∷ [])) × (writable_order o ≡ true)
    go none g e = absurd (asks (sym e))
    go (some c) g e =
        let w = writes_back l c g in
        let b = (subst (From c) e (raw_order c (formed l c g))).back asks in
        (ap frame_of b.0 ∙ ap (λ (s : List ℕ). s ++ (10 ∷ [])) w.0, rw (b.1, b.0) w.1)

-- ---- each well-formed line asks something: a test computed over the table

unfoldable asks : Order → Bool
asks Malformed = false
asks (Asks c) = true
asks (Settle limit) = true

cond_asks : (b : Bool) (x y : Order) → asks (cond b x y) ≡ cond b (asks x) (asks y)
cond_asks true x y = refl
cond_asks false x y = refl

kind_asks : (k : ℕ) (ns ms : List ℕ) → asks (order_of (raw_call k ns)) ≡ asks (order_of (raw_call k ms))
unfolding asks order_of
kind_asks k ns ms = simp cond_asks

known_asks : (k : ℕ) (ns : List ℕ) → known k ≡ true → asks (order_of (raw_call k ns)) ≡ true
unfolding known all asks order_of
known_asks k ns e =
    let r = (any_true (λ (q : Row). eqb q.kind k) table_rows).0 e in
    let t = all_true (λ (q : Row). asks (order_of (raw_call q.kind []))) table_rows refl r.0 r.1 in
    kind_asks k ns [] ∙ ap (λ (j : ℕ). asks (order_of (raw_call j []))) (sym (eqb-true r.0.kind k r.2)) ∙ t

pub well_formed_asks : (l : List ℕ) → WellFormed l → order_in l ≡ Malformed → ⊥
unfolding order_in ordered call_of asks
well_formed_asks l w e =
    false≢true (sym (ap asks (sym (ap ordered (reads l w)) ∙ e)) ∙ known_asks (kind_of l) (call_of l).fields w.kind_known)

-- ---- a record

-- a record written order by order asks exactly those orders, in their order
pub record_asks : (os : List Order) → all writable_order os ≡ true → map order_in (lines (flatten (map frame_of_order os))) ≡ os
unfolding all flatten lines frame_of_order
record_asks [] e = refl
record_asks (o ∷ os) e =
    let t = and_true (writable_order o) (all writable_order os) e in
    ap (map order_in) (frame_first (raw_of o) (flatten (map frame_of_order os))) ∙ ap₂ ◌∷◌ (order_reads o t.0) (record_asks os t.1)

-- the replies to orders, one after the other
unfoldable pub replies_to : Ledger → List Order → List ℕ
replies_to l [] = []
replies_to l (o ∷ os) = reply_to l o ++ replies_to (ledger_after l o) os

replies_asked : (l : Ledger) (ls : List (List ℕ)) → replies_from l ls ≡ replies_to l (map order_in ls)
unfolding replies_from replies_to
replies_asked l [] = refl
replies_asked l (line ∷ ls) = ap (λ (r : List ℕ). reply_to l (order_in line) ++ r) (replies_asked (ledger_after l (order_in line)) ls)

-- so the replies to a written record are those to the orders
pub record_replies : (os : List Order) → all writable_order os ≡ true → replies (flatten (map frame_of_order os)) ≡ replies_to start os
unfolding replies
record_replies os e = replies_asked start (lines (flatten (map frame_of_order os))) ∙ ap (replies_to start) (record_asks os e)
