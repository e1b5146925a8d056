-- A text in a lent buffer where it fits, from a run of the replies; the refusal; and what the program prints, by the tests.
use Prim.Native.Nat.{ℕ, ◌+◌, ◌≤◌, ◌<◌}
use mathlib.Core.Path.{◌≡◌, refl, sym, ap, ap₂, subst, ◌∙◌}
use mathlib.Core.Logic.{⊎_elim}
use mathlib.Core.Bool.{Bool, true, false, cond}
use mathlib.Core.List.{List, [], ◌∷◌, ◌++◌, map, append_assoc}
use native.Mathlib.Nat.{zero-add}
use native.Mathlib.Omega.{arith}
use borrow.Author.Tests.{le-leb, lt-leb, leb-true}
use lib.Dec.{leb}
use lib.ListN.{length, take, drop, take-append-drop}
use lib.Seq.{take_at, drop-append-le, length-take-le, get_or-drop}
use Rattle.rules_numbers.specs.Cases.{le_or_lt}
use Rattle.rules_numbers.specs.Lists.{total}
use Rattle.rules_numbers.specs.Tails.{laid}
use Rattle.rules_format.specs.Hex.{char_of, value_of, digits}
use Rattle.rules_format.specs.Lines.{lines}
use Rattle.rules_format.specs.SessionLines.{frame_in}
use Rattle.rules_auction.specs.Ledger.{start}
use Rattle.rules_auction.specs.Rounds.{step_all, ledger}
use Rattle.rules_replies.specs.Lengths.{most_of, most_to, most_in, replies_bound}
use Rattle.rules_replies.specs.Replies.{answer_line, replies}
use Rattle.rules_seats.specs.sessions.Sessions.{session_replies}
use Rattle.rules_seats.specs.sessions.SessionFigureLaws.{session_replies_few}
use Rattle.rules_seats.specs.sessions.LinesReadLaws.{record_replies_read, session_replies_read}
use Rattle.engine_auction.specs.Holds.{held_auction}
use Rattle.engine_auction.specs.declared.Auction.{Auction}
use Rattle.engine_auction.specs.Parts.{with_clock}
use Rattle.reply_writing.specs.Placed.{Puts}
use Rattle.reply_writing.specs.reply_bound.Bounds.{most_by, most_by_all}
use Rattle.record_lines.specs.record_start.Progress.{puts_behind, all_replied}
use Rattle.record_lines.specs.record_start.Begins.{Begins}
use Rattle.record_lines.specs.declared.record_start.Begun.{Begun}
use Rattle.record_replies.specs.Runs.{Runs}
use Rattle.record_replies.specs.declared.Ran.{Ran}
use Rattle.std.specs.Prelude.{Result, Ok, Err}
use Rattle.engine_refusals.specs.Numbers.{number_in, after}
use Rattle.engine_refusals.specs.NumberLaws.{number_not_0}
use Rattle.engine_refusals.specs.declared.Refusal.{Refusal}
use Rattle.engine_refusals.specs.declared.Refusal.TheVariants.{BufferTooShort}
use Rattle.record_replay.specs.host_numbers.HostNumbers.{answered, host_number}
use Rattle.record_replay.specs.Replayed.{replies_of, over, Replied, Fitted, hosted, printed}

-- ---- a text where it fits

abbrev number : Result ℕ Refusal → ℕ
number r = number_in r

module _ (t o : List ℕ) where
  over_yes : length t ≤ length o → over t o ≡ laid t o
  unfolding over
  over_yes h = rw (le-leb (length t) (length o) h)

  over_no : length o < length t → over t o ≡ o
  unfolding over
  over_no h = rw (lt-leb (length t) (length o) h)

  fitted_yes : (out : List ℕ) (n : ℕ) → length t ≤ length o → n ≡ length t → out ≡ laid t o → Fitted t o out (Ok n)
  fitted_yes out n h e w = record { text = w ∙ sym (over_yes h); size = λ _. ap (λ (k : ℕ). Ok k) e; beyond = λ g. absurd (omega arith) }

  fitted_no : length o < length t → Fitted t o o (Err BufferTooShort)
  fitted_no h = record { text = sym (over_no h); size = λ f. absurd (omega arith); beyond = λ _. refl }

  module _ (out : List ℕ) (n : ℕ) (f : Fitted t o out (Ok n)) where
    fits_all : length t ≤ length o
    fits_all = ⊎_elim (λ g. g) (λ g. absurd (omega (arith, ap number (f.beyond g)))) (le_or_lt (length t) (length o))

    pub fitted_written : (n ≡ length t) × (out ≡ laid t o)
    fitted_written = (ap (after 0) (f.size fits_all), f.text ∙ over_yes fits_all)

    -- what a host gets
    pub hosted_yes : n ≡ hosted t o
    unfolding hosted host_number
    hosted_yes = fitted_written.0 ∙ rw (le-leb (length t) (length o) fits_all)

  module _ (out : List ℕ) (e : Refusal) (f : Fitted t o out (Err e)) where
    fits_not : length o < length t
    fits_not = ⊎_elim (λ g. absurd (number_not_0 e (ap number (f.size g)))) (λ g. g) (le_or_lt (length t) (length o))

    pub fitted_kept : out ≡ o
    fitted_kept = f.text ∙ over_no fits_not

    pub hosted_no : host_number (answered (Err e)) ≡ hosted t o
    unfolding hosted host_number
    hosted_no = ap (λ (r : Result ℕ Refusal). host_number (answered r)) (f.beyond fits_not) ∙ rw (lt-leb (length t) (length o) fits_not)

-- ---- the replies of a run

put_replied : (t o out : List ℕ) (limit r : ℕ) → Puts t limit 0 o out r → Replied t limit o out r
unfolding laid
put_replied t o out limit r p = record {
  fits = λ h. p.fits (omega arith) ∙ zero-add (length t);
  over = λ h. p.over (omega arith);
  text = λ h g. p.text (omega arith) (omega arith) [] o refl refl;
}

module _ (s : List ℕ) (limit : ℕ) (o out : List ℕ) (b : Begun) (d : Begins s limit o out b) where
  -- the first lines are all
  pub begun_all : length s ≤ b.read → Replied (replies s) limit o out b.written
  unfolding ledger step_all
  begun_all h = subst (λ (t : List ℕ). Replied t limit o out b.written) (record_replies_read s)
      (put_replied _ _ _ _ _ (all_replied _ _ _ _ _ _ _ _ _ _ _ d h))

  -- the run over those behind them
  pub begun_run : (a : Auction) (out' : List ℕ) (r : Ran) → a ≡ with_clock (held_auction start) b.clock →
      Runs a s false b.read limit b.written out out' r → Replied (replies s) limit o out' r.written
  unfolding ledger step_all
  begun_run a out' r e w = subst (λ (t : List ℕ). Replied t limit o out' r.written) (record_replies_read s)
      (put_replied _ _ _ _ _
      (rw d.all (puts_behind d.done _ limit 0 b.written r.written o out out' d.puts (w.replied d.calls (e ∙ d.holds)))))

-- a session is run from a fresh auction
pub session_run : (s : List ℕ) (limit : ℕ) (o out : List ℕ) (a : Auction) (r : Ran) → a ≡ held_auction (ledger []) → Runs a s true 0 limit 0 o out r →
    Replied (session_replies s) limit o out r.written
unfolding ledger step_all
session_run s limit o out a r e w = subst (λ (t : List ℕ). Replied t limit o out r.written) (session_replies_read s)
    (put_replied _ _ _ _ _ (w.replied [] e))

-- the frame's second digit is the line's sixth character
behind_seats : (ls : List (List ℕ)) → total (map (λ line. most_to (frame_in line)) ls) ≡ total (map (most_by 5) ls)
unfolding most_to most_by total
behind_seats [] = refl
behind_seats (line ∷ ls) = ap₂ (λ (x y : ℕ). x + y) (ap (λ (c : ℕ). most_of (value_of c)) (get_or-drop 4 line 1 0)) (behind_seats ls)

-- no more bytes than the digits of the kinds allow
replies_most : (seated : Bool) (s : List ℕ) → length (replies_of seated s) ≤ most_by_all (cond seated 5 1) s
unfolding most_by_all most_by most_to most_in
replies_most false s = replies_bound s
replies_most true s = rw (sym (behind_seats (lines s))) (session_replies_few s)

-- into a buffer that is surely long enough
pub replied_surely : (seated : Bool) (place : ℕ) (s o out : List ℕ) (r : ℕ) → place ≡ cond seated 5 1 → leb (most_by_all place s) (length o) ≡ true →
    Replied (replies_of seated s) (length o) o out r → Fitted (replies_of seated s) o out (Ok r)
replied_surely seated place s o out r ep e w =
    let h : length (replies_of seated s) ≤ length o =
    omega (arith, leb-true (most_by_all place s) (length o) e, ap (λ (k : ℕ). most_by_all k s) ep, replies_most seated s) in
    fitted_yes (replies_of seated s) o out r h (w.fits h) (w.text h h)

-- into other bytes b first, now x, with the buffer's length as the limit
module _ (t o b x : List ℕ) (n : ℕ) (w : Replied t (length o) b x n) where
  pub tried_over : length o < n → Fitted t o o (Err BufferTooShort)
  tried_over h = ⊎_elim (λ f. absurd (omega (arith, w.fits f))) (λ g. fitted_no t o g) (le_or_lt (length t) (length o))

  tried_fits : n ≤ length o → (length t ≤ length o) × (n ≡ length t)
  tried_fits h = ⊎_elim (λ f. (f, w.fits f)) (λ g. absurd (omega (arith, w.over g))) (le_or_lt (length t) (length o))

  pub tried_copied : n ≤ length o → n ≤ length b → (out : List ℕ) → out ≡ laid (take n x) o → Fitted t o out (Ok n)
  unfolding laid
  tried_copied h g out e =
      let f = tried_fits h in
      let p : take n x ≡ t = ap (take n) (w.text f.0 (omega arith)) ∙ take_at t (drop (length t) b) n (sym f.1) in
      fitted_yes t o out n f.0 f.1 (e ∙ ap (λ (y : List ℕ). laid y o) p)

  -- and once more into the buffer itself
  pub tried_again : n ≤ length o → (out : List ℕ) (r : ℕ) → Replied t n o out r → Fitted t o out (Ok r)
  tried_again h out r v =
      let f = tried_fits h in
      let m : length t ≤ n = omega arith in
      fitted_yes t o out r f.0 (v.fits m) (v.text m f.0)

-- ---- the program

refusal_length : length (answer_line 255 11 []) ≡ 5
unfolding digits char_of answer_line
refusal_length = refl

-- FF0B and 0A, put at the start of a buffer that has room for them
pub refusal_laid : (o out : List ℕ) (n : ℕ) → 5 ≤ length o → Puts (answer_line 255 11 []) 5 0 o out n →
    (n ≡ length (answer_line 255 11 [])) × (out ≡ laid (answer_line 255 11 []) o)
unfolding laid
refusal_laid o out n h p =
    let l = refusal_length in
    (p.fits (omega arith) ∙ zero-add (length (answer_line 255 11 [])), p.text (omega arith) (omega arith) [] o refl refl)

-- a text laid over a buffer's front is laid over the buffer
front_laid : (t o : List ℕ) (m : ℕ) → length t ≤ m → m ≤ length o → laid t (take m o) ++ drop m o ≡ laid t o
unfolding laid
front_laid t o m h g =
    append_assoc t (drop (length t) (take m o)) (drop m o)
    ∙ ap (λ (l : List ℕ). t ++ l)
    (sym (drop-append-le (length t) (take m o) (drop m o) (omega (arith, length-take-le m o g))) ∙ ap (drop (length t)) (take-append-drop m o))

-- the text that the program prints
module _ (s : List ℕ) where
  abbrev pub Prints : List ℕ → List ℕ → ℕ → Type 0
  Prints o out n = (n ≡ length (printed s)) × (n ≤ 65536) × (out ≡ laid (printed s) o)

  prints : (t o out : List ℕ) (n : ℕ) → printed s ≡ t → length t ≤ 65536 → (n ≡ length t) × (out ≡ laid t o) → Prints o out n
  prints t o out n e h w = (w.0 ∙ ap length (sym e), omega (arith, w.0), w.1 ∙ ap (λ (x : List ℕ). laid x o) (sym e))

  pub print_long : 65536 < length s → (o out : List ℕ) (n : ℕ) → (n ≡ length (answer_line 255 11 [])) × (out ≡ laid (answer_line 255 11 []) o) → Prints o out n
  unfolding printed
  print_long h o out n w = prints _ o out n (rw (lt-leb (length s) 65536 h)) (omega (arith, refusal_length)) w

  -- by the replies in the buffer's first 65,536 bytes
  module _ (h : length s ≤ 65536) (o ys : List ℕ) (m : 65536 ≤ length o) where
    front : length (take 65536 o) ≡ 65536
    front = length-take-le 65536 o m

    pub print_replies : (n : ℕ) → Fitted (replies s) (take 65536 o) ys (Ok n) → Prints o (ys ++ drop 65536 o) n
    unfolding printed
    print_replies n f =
        let w = fitted_written (replies s) (take 65536 o) ys n f in
        let g : length (replies s) ≤ 65536 = omega (arith, fits_all (replies s) (take 65536 o) ys n f, front) in
        prints (replies s) o _ n (rw (le-leb (length s) 65536 h, le-leb (length (replies s)) 65536 g)) g
        (w.0, ap (λ (l : List ℕ). l ++ drop 65536 o) w.1 ∙ front_laid (replies s) o 65536 g m)

    pub print_over : (e : Refusal) → Fitted (replies s) (take 65536 o) ys (Err e) → (out : List ℕ) (k : ℕ) → (k ≡ length (answer_line 255 11 [])) × (out ≡ laid (answer_line 255 11 []) (ys ++ drop 65536 o)) →
        Prints o out k
    unfolding printed
    print_over refusal f out k w =
        let e = fitted_kept (replies s) (take 65536 o) ys refusal f in
        let g : 65536 < length (replies s) = omega (arith, fits_not (replies s) (take 65536 o) ys refusal f, front) in
        prints (answer_line 255 11 []) o out k (rw (le-leb (length s) 65536 h, lt-leb (length (replies s)) 65536 g)) (omega (arith, refusal_length))
        (w.0, w.1 ∙ ap (laid (answer_line 255 11 [])) (ap (λ (l : List ℕ). l ++ drop 65536 o) e ∙ take-append-drop 65536 o))
