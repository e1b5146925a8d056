-- The run over the lines: how far it has come, the closings so far, and the settlement of a closed auction, which is kept since such an auction never changes
-- again.
use Prim.Native.Nat.{ℕ, ◌+◌, ◌≤◌, ◌<◌}
use mathlib.Core.Path.{◌≡◌, refl, sym, ap, ◌∙◌, subst}
use mathlib.Core.Bool.{Bool, true, false}
use Rattle.std.specs.Prelude.{Option, Some, None, Result, Ok, Err}
use Rattle.std.specs.Result.{result_ok}
use mathlib.Core.List.{List, [], ◌++◌, append-nil}
use native.Mathlib.Omega.{arith}
use lib.IntN.{ℤ, pos}
use lib.ListN.{length}
use Rattle.rules_numbers.specs.Lists.{part}
use Rattle.rules_format.specs.Lines.{line_start, line_end}
use Rattle.rules_auction.specs.Ledger.{Call}
use Rattle.rules_auction.specs.Rounds.{ledger}
use Rattle.rules_replies.specs.Orders.{Settle}
use Rattle.rules_replies.specs.Replies.{award_room, answer_line, reply_to}
use Rattle.rules_replies.specs.record_calls.Calls.{asked_calls}
use Rattle.rules_seats.specs.figures.Figures.{hall_after, closings_from}
use Rattle.rules_seats.specs.sessions.LinesRead.{order_as, barred_as, reply_as, asked_as}
use Rattle.rules_seats.specs.sessions.LinesReadLaws.{reply_free, asked_free, reply_barred, asked_barred}
use Rattle.rules_seats.specs.sessions.SeatedLines.{order_kind}
use Rattle.engine_auction.specs.Holds.{held_auction}
use Rattle.engine_auction.specs.declared.Auction.{Auction}
use Rattle.engine_settling.specs.Kept.{refusal_again, Kept}
use Rattle.engine_settling.specs.KeptLaws.{kept, kept_calls}
use Rattle.engine_refusals.specs.declared.Refusal.{Refusal}
use Rattle.engine_settling.specs.Settles.{accepted_in, settled_in, Settles}
use Rattle.engine_settling.specs.declared.Settlement.{Settlement}
use Rattle.record_lines.specs.line_calls.Decisions.{Takes}
use Rattle.reply_writing.specs.reply_sizes.Texts.{text_of}
use Rattle.reply_writing.specs.declared.reply_sizes.Reply.{Reply}
use Rattle.reply_values.specs.Shows.{ShowsSettling}
use Rattle.reply_values.specs.ShowsLaws.{settling_replied, kept_replied, kept_refused}
use Rattle.reply_writing.specs.Placed.{Puts}
use Rattle.record_lines.specs.record_start.Progress.{Progress, progress_first, progress_next, line_calls, all_asked, all_replied}
use Rattle.record_replies.specs.Runs.{with_excess, Runs}
use Rattle.record_replies.specs.declared.Ran.{Ran}
use Rattle.record_replies.proofs.Counting.{Counts, counts_nothing, Counted, counted_first, counted_next, counted_end}

-- ---- the run, from the ledger of the calls cs: e and n are the excess and the closings so far, v the settlement that is kept, if one is, and w the bytes for
-- awards

pub record Done (seated : Bool) (cs : List Call) (s : List ℕ) (from limit before : ℕ) (o out : List ℕ) (a : Auction) (e : ℤ) (n : ℕ) (v : Option Settlement)
    (w : List ℕ) (at used : ℕ) : Type 0 where
  pub progress : Progress seated cs s from limit before o out a at used
  pub counted : Counted seated cs s from progress.calls at e n
  pub keeps : (x : Settlement) → v ≡ Some x → Kept (ledger progress.calls) award_room (accepted_in x) w

pub record Run (a₀ : Auction) (s : List ℕ) (seated : Bool) (from limit before : ℕ) (o out : List ℕ) (a : Auction) (e : ℤ) (n : ℕ) (v : Option Settlement)
    (w : List ℕ) (at used : ℕ) : Type 0 where
  pub same : length out ≡ length o
  pub room : length w ≡ award_room
  pub few : n ≤ at
  pub done : (cs : List Call) → a₀ ≡ held_auction (ledger cs) → Done seated cs s from limit before o out a e n v w at used

pub run_first : (a₀ : Auction) (s : List ℕ) (seated : Bool) (from limit before : ℕ) (o : List ℕ) (w : List ℕ) → length w ≡ award_room →
    Run a₀ s seated from limit before o o a₀ (pos 0) 0 None w from before
unfolding progress_first
run_first a₀ s seated from limit before o w r = record {
  same = refl;
  room = r;
  few = omega arith;
  done = λ cs h. record {
    progress = progress_first seated cs s from limit before o a₀ h;
    counted = counted_first seated cs s from;
    keeps = λ x z. cc;
  };
}

-- ---- one line more, answered by t

module _ (a₀ : Auction) (s : List ℕ) (seated : Bool) (from limit before : ℕ) (o out l : List ℕ) (a : Auction) (e : ℤ) (n : ℕ) (v : Option Settlement)
    (w : List ℕ) (at used : ℕ) (z : Run a₀ s seated from limit before o out a e n v w at used) (h : at < length s)
    (el : l ≡ part s (line_start s at) (line_end s at)) where
  -- the run behind the line
  abbrev Behind : List ℕ → Auction → ℤ → ℕ → Option Settlement → List ℕ → ℕ → Type 0
  Behind out' b e' n' v' w' r = Run a₀ s seated from limit before o out' b e' n' v' w' (at + length l + 1) r

  -- the reply and the auction behind it for the calls so far, the closings, and what is kept
  record Next (t : List ℕ) (b : Auction) (e' : ℤ) (n' : ℕ) (v' : Option Settlement) (w' : List ℕ) (cs : List Call) : Type 0 where
    pub text : t ≡ reply_as seated (ledger cs) l
    pub next : b ≡ held_auction (ledger (cs ++ asked_as seated l))
    pub excess : (hall_after (with_excess (ledger cs) e) (asked_as seated l)).excess ≡ e'
    pub closings : n + closings_from (ledger cs) (asked_as seated l) ≡ n'
    pub keeps : (x : Settlement) → v' ≡ Some x → Kept (ledger (cs ++ asked_as seated l)) award_room (accepted_in x) w'

  module _ (t out' : List ℕ) (r : ℕ) (p : Puts t limit used out out' r) where
    done_next : (b : Auction) (e' : ℤ) (n' : ℕ) (v' : Option Settlement) (w' : List ℕ) (cs : List Call)
        (d : Done seated cs s from limit before o out a e n v w at used) → Next t b e' n' v' w' d.progress.calls →
        Done seated cs s from limit before o out' b e' n' v' w' (at + length l + 1) r
    unfolding progress_next
    done_next b e' n' v' w' cs d x = record {
      progress = progress_next s l at h el seated cs from limit before o out a used d.progress t out' r b p x.text x.next;
      counted = counted_next seated cs s from d.progress.calls at e n d.counted (asked_as seated l) (at + length l + 1) e' n'
          (line_calls s l at h el seated) x.excess x.closings;
      keeps = x.keeps;
    }

    run_next : (b : Auction) (e' : ℤ) (n' : ℕ) (v' : Option Settlement) (w' : List ℕ) → length w' ≡ award_room → n' ≤ n + 1 →
        ((cs : List Call) → a ≡ held_auction (ledger cs) → ((x : Settlement) → v ≡ Some x → Kept (ledger cs) award_room (accepted_in x) w) → Next t b e' n' v' w' cs) →
        Behind out' b e' n' v' w' r
    run_next b e' n' v' w' q m x = record {
      same = p.same ∙ z.same;
      room = q;
      few = omega (arith, z.few);
      done = λ cs g. let d = z.done cs g in done_next b e' n' v' w' cs d (x d.progress.calls d.progress.holds d.keeps);
    }

    -- a line that settles nothing
    pub run_again : (b : Auction) (e' : ℤ) (n' : ℕ) → n' ≤ n + 1 → barred_as seated l ≡ false → Takes a (order_as seated l) b t →
        Counts a (asked_calls (order_as seated l)) e n e' n' → Behind out' b e' n' v w r
    run_again b e' n' m free x y =
        let c : asked_calls (order_as seated l) ≡ asked_as seated l = sym (asked_free seated l free) in
        run_next b e' n' v w z.room m (λ cs q kept. record {
          text = x.text cs q ∙ sym (reply_free seated l (ledger cs) free);
          next = x.next cs q ∙ ap (λ (ds : List Call). held_auction (ledger (cs ++ ds))) c;
          excess = rw c at (y.excess cs q);
          closings = rw c at (y.closings cs q);
          keeps = λ y' q'. kept_calls cs (asked_as seated l) (kept y' q');
        })

  -- ---- a line that asks no call

  module _ (none : asked_as seated l ≡ []) where
    stays : (cs : List Call) → a ≡ held_auction (ledger cs) → a ≡ held_auction (ledger (cs ++ asked_as seated l))
    stays cs q = q ∙ ap (λ (xs : List Call). held_auction (ledger xs)) (sym (append-nil cs) ∙ ap (λ (ds : List Call). cs ++ ds) (sym none))

    same_excess_lem : (cs : List Call) → a ≡ held_auction (ledger cs) → (hall_after (with_excess (ledger cs) e) (asked_as seated l)).excess ≡ e
    same_excess_lem cs q = rw none ((counts_nothing a e n).excess cs q)

    same_closings : (cs : List Call) → a ≡ held_auction (ledger cs) → n + closings_from (ledger cs) (asked_as seated l) ≡ n
    same_closings cs q = rw none ((counts_nothing a e n).closings cs q)

    run_asked_none : (t out' : List ℕ) (r : ℕ) → Puts t limit used out out' r → (v' : Option Settlement) (w' : List ℕ) → length w' ≡ award_room →
        ((cs : List Call) → a ≡ held_auction (ledger cs) → ((x : Settlement) → v ≡ Some x → Kept (ledger cs) award_room (accepted_in x) w) →
        (t ≡ reply_as seated (ledger cs) l) × ((x : Settlement) → v' ≡ Some x → Kept (ledger cs) award_room (accepted_in x) w')) →
        Behind out' a e n v' w' r
    run_asked_none t out' r p v' w' q x = run_next t out' r p a e n v' w' q (omega arith) (λ cs y kept. record {
      text = (x cs y kept).0;
      next = stays cs y;
      excess = same_excess_lem cs y;
      closings = same_closings cs y;
      keeps = λ y' q'. kept_calls cs (asked_as seated l) ((x cs y kept).1 y' q');
    })

  -- refused by 20
  pub run_barred : (t out' : List ℕ) (r kind : ℕ) → Puts t limit used out out' r → barred_as seated l ≡ true → order_kind (order_as seated l) ≡ kind →
      t ≡ answer_line kind 20 [] → Behind out' a e n v w r
  run_barred t out' r kind p barred ek et = run_asked_none (asked_barred seated l barred) t out' r p v w z.room (λ cs q kept.
      (et ∙ ap (λ (j : ℕ). answer_line j 20 []) (sym ek) ∙ sym (reply_barred seated l (ledger cs) barred), kept))

  -- ---- a settling of the closed auction

  module _ (limit' : ℕ) (free : barred_as seated l ≡ false) (eo : order_as seated l ≡ Settle limit') where
    none_asked : asked_as seated l ≡ []
    none_asked = asked_free seated l free ∙ ap asked_calls eo

    replied : (t : List ℕ) (cs : List Call) → t ≡ reply_to (ledger cs) (Settle limit') → t ≡ reply_as seated (ledger cs) l
    replied t cs q = q ∙ ap (reply_to (ledger cs)) (sym eo) ∙ sym (reply_free seated l (ledger cs) free)

    -- beyond the limit already: its reply is not looked for
    pub run_skipped : limit < used → Behind out a e n v w used
    run_skipped far = record {
      same = z.same;
      room = z.room;
      few = omega (arith, z.few);
      done = λ cs g.
          let d = z.done cs g in
          let calls : List Call = d.progress.calls in
          done_next (reply_as seated (ledger calls) l) out used (beyond _) a e n v w cs d (record {
            text = refl;
            next = stays none_asked calls d.progress.holds;
            excess = same_excess_lem none_asked calls d.progress.holds;
            closings = same_closings none_asked calls d.progress.holds;
            keeps = λ y q. kept_calls calls (asked_as seated l) (d.keeps y q);
          });
    }
      where
        beyond : (t : List ℕ) → Puts t limit used out out used
        beyond t = record { fits = λ u. absurd (omega arith); over = λ u. far; text = λ u. absurd (omega arith); same = refl }

    -- asked for the first time
    pub run_settled : (x : Result Settlement Refusal) (v' : Option Settlement) (w' out' : List ℕ) (r : ℕ) (reply : Reply) → Settles a limit' w w' (settled_in x) →
        v' ≡ result_ok x → ShowsSettling (settled_in x) w' reply → Puts (text_of reply) limit used out out' r → Behind out' a e n v' w' r
    run_settled x v' w' out' r reply y ev shows p = run_asked_none none_asked (text_of reply) out' r p v' w' (y.behind.0 ∙ z.room) (λ cs q before.
        (replied (text_of reply) cs (settling_replied y z.room shows cs q), λ t g. accepted x (sym ev ∙ g) y cs q))
      where
        accepted : {t : Settlement} (x : Result Settlement Refusal) → result_ok x ≡ Some t → Settles a limit' w w' (settled_in x) → (cs : List Call) →
            a ≡ held_auction (ledger cs) → Kept (ledger cs) award_room (accepted_in t) w'
        accepted {t} (Ok t') g y cs q = let u : t' ≡ t = cc in rw u at (rw z.room at (kept y refl cs q))
        accepted (Err t') g y cs q = cc

    -- by the settlement that is kept
    module _ (x : Settlement) (out' : List ℕ) (r : ℕ) (yes : v ≡ Some x) where
      run_kept : (t : List ℕ) → Puts t limit used out out' r → ((cs : List Call) → Kept (ledger cs) award_room (accepted_in x) w → t ≡ reply_to (ledger cs) (Settle limit')) →
          Behind out' a e n v w r
      run_kept t p y = run_asked_none none_asked t out' r p v w z.room (λ cs q kept. (replied t cs (y cs (kept x yes)), kept))

      pub run_kept_accepted : (reply : Reply) → ShowsSettling (accepted_in x) w reply → refusal_again (accepted_in x) limit' ≡ 0 →
          Puts (text_of reply) limit used out out' r → Behind out' a e n v w r
      run_kept_accepted reply shows q p = run_kept (text_of reply) p (λ cs kept. kept_replied kept shows limit' q)

      pub run_kept_refused : (m : ℕ) → m ≡ refusal_again (accepted_in x) limit' → (m ≡ 0 → ⊥) → Puts (answer_line 6 m []) limit used out out' r →
          Behind out' a e n v w r
      run_kept_refused m q ne p = run_kept (answer_line 6 m []) p (λ cs kept. rw q (kept_refused kept limit' (λ y. ne (q ∙ y))))

pub run_end : (a₀ : Auction) (s : List ℕ) (seated : Bool) (from limit before : ℕ) (o out : List ℕ) (at : ℕ) (r : Ran) →
    Run a₀ s seated from limit before o out r.auction r.excess r.closings r.settled r.awards at r.written → length s ≤ at →
    Runs a₀ s seated from limit before o out r
run_end a₀ s seated from limit before o out at r z h = record {
  same = z.same;
  replied = λ cs e. all_replied _ _ _ _ _ _ _ _ _ _ _ (z.done cs e).progress h;
  next = λ cs e. let d = (z.done cs e).progress in d.holds ∙ ap (λ (xs : List Call). held_auction (ledger xs)) (sym (all_asked _ _ _ _ _ _ _ _ _ _ _ d h));
  excess = λ cs e. (counted_end _ _ _ _ _ _ _ _ (z.done cs e).counted h).0;
  closings = λ cs e. (counted_end _ _ _ _ _ _ _ _ (z.done cs e).counted h).1;
  kept = λ cs e x q.
      let d = z.done cs e in
      subst (λ (xs : List Call). Kept (ledger xs) award_room (accepted_in x) r.awards) (sym (all_asked _ _ _ _ _ _ _ _ _ _ _ d.progress h)) (d.keeps x q);
}
