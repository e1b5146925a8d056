-- Lines of a record that ask calls of different developers, in whichever order (document 02, 12): the replies go along with the lines.
use Rattle.std.specs.Prelude.{ℕ, ◌+◌, ◌≡◌, refl, Bool, true, cond, eqb, length}
use Rattle.std.proofs.Common.{sym, ap, ◌∙◌, arith, length-append}
use Rattle.std.proofs.lemmas.Bool.{false≢true}
use mathlib.Core.List.{List, [], ◌∷◌, ◌++◌, map, flatten, append_assoc}
use Rattle.rules_format.specs.Lines.{lines}
use Rattle.rules_auction.specs.Ledger.{Ledger, start}
use Rattle.rules_auction.specs.Rounds.{Answered}
use Rattle.rules_replies.specs.Orders.{Order, Malformed, Asks, Settle, order_in}
use Rattle.rules_replies.specs.Replies.{call_kind, closing_text, answer_line, reply_to, ledger_after, replies_from, replies}
use Rattle.rules_numbers.specs.reordering.Exchanges.{Exchanged, unchanged, neighbours, behind, further}
use Rattle.rules_numbers.specs.reordering.ExchangeLaws.{exchanged, exchanged_same}
use Rattle.laws_arrival.specs.arrival.Arrival.{with_answers, order_is_move, order_own, line_own, ReorderedLines, replied_from, replied, RepliedAlike}
use Rattle.laws_arrival.specs.arrival.WithAnswers.{ending, with_answers_append, Free, exchanged_ending, exchanged_with_answers}
use Rattle.laws_arrival.specs.arrival.ArrivalLaws.{own_once, someones, calls_free}

-- ---- the replies are those of the lines, one behind the other

abbrev replies_of : List (List ℕ × List ℕ) → List ℕ
replies_of ts = flatten (map (λ t. t.1) ts)

from_replied : (l : Ledger) (ls : List (List ℕ)) → replies_from l ls ≡ replies_of (replied_from l ls)
unfolding replies_from with_answers flatten
from_replied l [] = refl
from_replied l (line ∷ rest) = ap (λ (bytes : List ℕ). reply_to l (order_in line) ++ bytes) (from_replied (ledger_after l (order_in line)) rest)

pub replies_replied : (bytes : List ℕ) → replies bytes ≡ flatten (map (λ t. t.1) (replied bytes))
unfolding replies
replies_replied bytes = from_replied start (lines bytes)

pub asked_with_answers : {S A B : Type 0} (next : S → A → S) (says : S → A → B) (s : S) (xs : List A) → map (λ t. t.0) (with_answers next says s xs) ≡ xs
unfolding with_answers
asked_with_answers next says s [] = refl
asked_with_answers next says s (x ∷ xs) = ap (λ (ys : List _). x ∷ ys) (asked_with_answers next says (next s x) xs)

-- ---- two neighbours

pub order_once : (o : Order) (n k : ℕ) → order_own n o ≡ true → order_own k o ≡ true → n ≡ k
unfolding order_own
order_once Malformed n k p q = absurd (false≢true p)
order_once (Asks c) n k p q = own_once c n k p q
order_once (Settle limit) n k p q = absurd (false≢true p)

pub order_someones : (o : Order) → order_is_move o ≡ true → (n : ℕ) × (order_own n o ≡ true)
unfolding order_own order_is_move
order_someones Malformed e = absurd (false≢true e)
order_someones (Asks c) e = someones c e
order_someones (Settle limit) e = absurd (false≢true e)

orders_free : Free ledger_after reply_to order_own
unfolding order_own ledger_after reply_to
orders_free l Malformed o n k p q e = absurd (false≢true p)
orders_free l (Settle limit) o n k p q e = absurd (false≢true p)
orders_free l (Asks c) Malformed n k p q e = absurd (false≢true q)
orders_free l (Asks c) (Settle limit) n k p q e = absurd (false≢true q)
orders_free l (Asks c) (Asks d) n k p q e =
    let f = calls_free l c d n k p q e in
    (f.0, ap (λ (r : Answered). answer_line (call_kind d) r.number (cond (eqb (call_kind d) 5) (closing_text r) [])) f.1)

-- ---- all through the lines

abbrev next : Ledger → List ℕ → Ledger
next l line = ledger_after l (order_in line)

abbrev says : Ledger → List ℕ → List ℕ
says l line = reply_to l (order_in line)

lines_free : Free next says line_own
lines_free l x y n k p q e = orders_free l (order_in x) (order_in y) n k p q e

in_three : (l : Ledger) (bs ds rest : List (List ℕ)) →
    replied_from l (bs ++ (ds ++ rest))
    ≡ replied_from l bs ++ (replied_from (ending next says l bs) ds ++ replied_from (ending next says (ending next says l bs) ds) rest)
in_three l bs ds rest =
    with_answers_append next says l bs (ds ++ rest) ∙ ap (λ (ts : List (List ℕ × List ℕ)). replied_from l bs ++ ts)
    (with_answers_append next says (ending next says l bs) ds rest)

-- exchanging keeps the length
three_long : (a b c : List ℕ) → length (a ++ (b ++ c)) ≡ length (b ++ (a ++ c))
three_long a b c = omega (arith, length-append a (b ++ c), length-append b c, length-append b (a ++ c), length-append a c)

exchanged_long : {its : ℕ → List ℕ × List ℕ → Bool} {ts us : List (List ℕ × List ℕ)} → Exchanged its ts us → length (replies_of ts) ≡ length (replies_of us)
unfolding flatten
exchanged_long unchanged = refl
exchanged_long (neighbours {x} {y} {zs} n k p q d) = three_long x.1 y.1 (replies_of zs)
exchanged_long (behind {xs} {ys} x h) = omega (arith, length-append x.1 (replies_of xs), length-append x.1 (replies_of ys), exchanged_long h)
exchanged_long (further h g) = exchanged_long h ∙ exchanged_long g

of_append : (ts us : List (List ℕ × List ℕ)) → replies_of (ts ++ us) ≡ replies_of ts ++ replies_of us
unfolding flatten
of_append [] us = refl
of_append (t ∷ ts) us = ap (λ (bytes : List ℕ). t.1 ++ bytes) (of_append ts us) ∙ sym (append_assoc t.1 (replies_of ts) (replies_of us))

midst_long : (rs ts us zs : List (List ℕ × List ℕ)) → length (replies_of ts) ≡ length (replies_of us) →
    length (replies_of (rs ++ (ts ++ zs))) ≡ length (replies_of (rs ++ (us ++ zs)))
midst_long rs ts us zs e = whole ts ∙ ap (λ (n : ℕ). length (replies_of rs) + (n + length (replies_of zs))) e ∙ sym (whole us)
  where
    whole : (vs : List (List ℕ × List ℕ)) → length (replies_of (rs ++ (vs ++ zs))) ≡ length (replies_of rs) + (length (replies_of vs) + length (replies_of zs))
    whole vs =
        ap length (of_append rs (vs ++ zs)) ∙ length-append (replies_of rs) _ ∙ ap (λ (n : ℕ). length (replies_of rs) + n)
        (ap length (of_append vs zs) ∙ length-append (replies_of vs) (replies_of zs))

module _ (bytes bytes' : List ℕ) (bs ds es rest : List (List ℕ)) (p : lines bytes ≡ bs ++ (ds ++ rest)) (p' : lines bytes' ≡ bs ++ (es ++ rest))
    (h : ReorderedLines ds es) where
  abbrev l : Ledger
  l = ending next says start bs

  abbrev heard : List (List ℕ) → List (List ℕ × List ℕ)
  heard ls = replied_from l ls

  swapped : Exchanged line_own ds es
  swapped =
      exchanged line_own (λ line. order_once (order_in line)) (λ line. order_is_move (order_in line)) (λ line. order_someones (order_in line)) ds es
      h.moves h.moves' h.each

  swapped_answers : Exchanged (λ n t. line_own n t.0) (heard ds) (heard es)
  swapped_answers = exchanged_with_answers next says line_own (λ line. order_once (order_in line)) lines_free l swapped

  abbrev later : List (List ℕ × List ℕ)
  later = replied_from (ending next says l ds) rest

  first_parts : replied bytes ≡ replied_from start bs ++ (heard ds ++ later)
  first_parts = ap (replied_from start) p ∙ in_three start bs ds rest

  second_parts : replied bytes' ≡ replied_from start bs ++ (heard es ++ later)
  second_parts =
      ap (replied_from start) p' ∙ in_three start bs es rest
      ∙ ap (λ (m : Ledger). replied_from start bs ++ (heard es ++ replied_from m rest))
      (sym (exchanged_ending next says line_own (λ line. order_once (order_in line)) lines_free l swapped))

  as_long : length (replies bytes) ≡ length (replies bytes')
  as_long =
      ap length (replies_replied bytes ∙ ap replies_of first_parts)
      ∙ midst_long (replied_from start bs) (heard ds) (heard es) later (exchanged_long swapped_answers)
      ∙ sym (ap length (replies_replied bytes' ∙ ap replies_of second_parts))

  pub lines_arrival : RepliedAlike bytes bytes' bs ds es
  lines_arrival = record {
    before = replied_from start bs;
    midst = heard ds;
    midst' = heard es;
    behind = later;
    one = record {
      parts = first_parts;
      asked = (asked_with_answers next says start bs, asked_with_answers next says l ds, asked_with_answers next says l es);
      each = exchanged_same (λ n t. line_own n t.0) (λ t. order_once (order_in t.0)) swapped_answers;
    };
    other = second_parts;
    long = as_long;
  }
