-- How far a pass over the lines of a record, or of a session where `seated` says so, has come: the calls asked and the replies put so far, and what a
-- line more makes of them.
use Rattle.std.specs.Prelude.{ℕ, ◌+◌, ◌≤◌, ◌<◌, ◌≡◌, refl, Bool, false, drop}
use Rattle.std.proofs.Common.{sym, ◌∙◌, ⊎_elim, arith, length-append}
use Rattle.std.proofs.Math.Path.{ap}
use mathlib.Core.List.{List, [], ◌∷◌, ◌++◌, append_assoc, append-nil}
use Rattle.std.proofs.Math.ListN.{length}
use Rattle.rules_numbers.specs.Cases.{le_or_lt}
use Rattle.rules_numbers.specs.Lists.{part}
use Rattle.rules_numbers.specs.Tails.{laid}
use Rattle.rules_format.specs.Lines.{lines, line_start, line_end}
use Rattle.rules_format.specs.LineLaws.{line_inside, next_line, no_line}
use Rattle.rules_auction.specs.Ledger.{Call, Ledger}
use Rattle.rules_auction.specs.Rounds.{ledger}
use Rattle.laws_ledger.specs.reachable.Steps.{ledger_append}
use Rattle.rules_seats.specs.sessions.LinesRead.{order_as, barred_as, reply_as, asked_as, replies_as, calls_as}
use Rattle.rules_seats.specs.sessions.LinesReadLaws.{reply_free, asked_free}
use Rattle.engine_auction.specs.Holds.{held_auction}
use Rattle.engine_auction.specs.declared.Auction.{Auction}
use Rattle.record_lines.specs.line_calls.Decisions.{Takes}
use Rattle.reply_writing.specs.Placed.{Puts}

-- the lines behind the place `at`
abbrev pub rest : ℕ → List ℕ → List (List ℕ)
rest at s = lines (drop at s)

-- of the lines behind `from`, those before `at` are answered: from the ledger of the calls cs they lead to the ledger of `calls`, which the auction a
-- holds, and their replies are put at `before` of the buffer o, now out, as far as the limit allows
pub record Progress (seated : Bool) (cs : List Call) (s : List ℕ) (from limit before : ℕ) (o out : List ℕ) (a : Auction) (at used : ℕ) : Type 0 where
  pub calls : List Call
  pub done : List ℕ
  pub holds : a ≡ held_auction (ledger calls)
  pub asked : cs ++ calls_as seated (rest from s) ≡ calls ++ calls_as seated (rest at s)
  pub all : replies_as seated (ledger cs) (rest from s) ≡ done ++ replies_as seated (ledger calls) (rest at s)
  pub puts : Puts done limit before o out used

-- ---- texts put one behind the other

pub puts_nothing : (limit before : ℕ) (o : List ℕ) → Puts [] limit before o o before
puts_nothing limit before o = record {
  fits = λ h. omega arith;
  over = λ h. omega arith;
  text = λ h g s old e n. e ∙ ap (λ (x : List ℕ). laid x old) (sym (append-nil s));
  same = refl;
}

pub puts_behind : (t u : List ℕ) (limit before used r : ℕ) (o out out' : List ℕ) → Puts t limit before o out used → Puts u limit used out out' r →
    Puts (t ++ u) limit before o out' r
puts_behind t u limit before used r o out out' p q =
    let n = length-append t u in
    record {
      fits = λ h. let e = p.fits (omega arith) in q.fits (omega arith) ∙ omega arith;
      over = λ h. q.over (⊎_elim (λ g. omega (arith, p.fits g)) (λ g. omega (arith, p.over g)) (le_or_lt (before + length t) limit));
      text = λ h g s old e m.
          let k : used ≡ before + length t = p.fits (omega arith) in
          let l = length-append s t in
          q.text (omega arith) (omega (arith, p.same)) (s ++ t) old (p.text (omega arith) (omega arith) s old e m) (omega arith)
          ∙ ap (λ (x : List ℕ). laid x old) (append_assoc s t u);
      same = q.same ∙ p.same;
    }

-- ---- the pass

unfoldable pub progress_first : (seated : Bool) (cs : List Call) (s : List ℕ) (from limit before : ℕ) (o : List ℕ) (a : Auction) → a ≡ held_auction (ledger cs) →
    Progress seated cs s from limit before o o a from before
progress_first seated cs s from limit before o a h = record {
  calls = cs;
  done = [];
  holds = h;
  asked = refl;
  all = refl;
  puts = puts_nothing limit before o;
}

-- the line l at `at`
module _ (s l : List ℕ) (at : ℕ) (h : at < length s) (el : l ≡ part s (line_start s at) (line_end s at)) where
  pub first_line : rest at s ≡ l ∷ rest (at + length l + 1) s
  first_line = rw el (next_line s at h)

  pub inside : at + length l ≤ length s
  inside = rw el (line_inside s at h)

  module _ (seated : Bool) where
    pub line_replies : (cs : List Call) → replies_as seated (ledger cs) (rest at s)
        ≡ reply_as seated (ledger cs) l ++ replies_as seated (ledger (cs ++ asked_as seated l)) (rest (at + length l + 1) s)
    unfolding replies_as
    line_replies cs = ap (replies_as seated (ledger cs)) first_line
        ∙ ap (λ (m : Ledger). reply_as seated (ledger cs) l ++ replies_as seated m (rest (at + length l + 1) s)) (sym (ledger_append cs (asked_as seated l)))

    pub line_calls : calls_as seated (rest at s) ≡ asked_as seated l ++ calls_as seated (rest (at + length l + 1) s)
    unfolding calls_as
    line_calls = ap (calls_as seated) first_line

    -- one line more, answered by t
    unfoldable pub progress_next : (cs : List Call) (from limit before : ℕ) (o out : List ℕ) (a : Auction) (used : ℕ)
        (d : Progress seated cs s from limit before o out a at used)
        (t out' : List ℕ) (r : ℕ) (b : Auction) → Puts t limit used out out' r → t ≡ reply_as seated (ledger d.calls) l →
        b ≡ held_auction (ledger (d.calls ++ asked_as seated l)) → Progress seated cs s from limit before o out' b (at + length l + 1) r
    progress_next cs from limit before o out a used d t out' r b p text next =
        let calls : List Call = d.calls ++ asked_as seated l in
        record {
          calls = calls;
          done = d.done ++ t;
          holds = next;
          asked = d.asked ∙ ap (λ (y : List Call). d.calls ++ y) line_calls ∙ sym (append_assoc d.calls (asked_as seated l) _);
          all = d.all
              ∙ ap (λ (y : List ℕ). d.done ++ y)
              (line_replies d.calls ∙ ap (λ (y : List ℕ). y ++ replies_as seated (ledger calls) (rest (at + length l + 1) s)) (sym text))
              ∙ sym (append_assoc d.done t _);
          puts = puts_behind d.done t limit before used r o out out' d.puts p;
        }

    pub progress_taken : (cs : List Call) (from limit before : ℕ) (o out : List ℕ) (a : Auction) (used : ℕ) → Progress seated cs s from limit before o out a at used →
        (t out' : List ℕ) (r : ℕ) (b : Auction) → Puts t limit used out out' r → barred_as seated l ≡ false →
        Takes a (order_as seated l) b t → Progress seated cs s from limit before o out' b (at + length l + 1) r
    progress_taken cs from limit before o out a used d t out' r b p free w =
        progress_next cs from limit before o out a used d t out' r b p
        (w.text d.calls d.holds ∙ sym (reply_free seated l (ledger d.calls) free))
        (w.next d.calls d.holds ∙ ap (λ (xs : List Call). held_auction (ledger (d.calls ++ xs))) (sym (asked_free seated l free)))

-- all lines answered
module _ (seated : Bool) (cs : List Call) (s : List ℕ) (from limit before : ℕ) (o out : List ℕ) (a : Auction) (at used : ℕ)
    (d : Progress seated cs s from limit before o out a at used)
    (h : length s ≤ at) where
  pub all_asked : cs ++ calls_as seated (rest from s) ≡ d.calls
  unfolding calls_as
  all_asked = d.asked ∙ ap (λ (x : List (List ℕ)). d.calls ++ calls_as seated x) (no_line s at h) ∙ append-nil d.calls

  pub all_replied : Puts (replies_as seated (ledger cs) (rest from s)) limit before o out used
  unfolding replies_as
  all_replied =
      let e : replies_as seated (ledger cs) (rest from s) ≡ d.done =
      d.all ∙ ap (λ (x : List (List ℕ)). d.done ++ replies_as seated (ledger d.calls) x) (no_line s at h) ∙ append-nil d.done in
      rw e d.puts
