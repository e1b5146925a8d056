-- What is stated of settling determines all of it: for one ledger, limit and buffer, any two answers of which it holds are equal, and so are
-- the two buffers, byte for byte. So none of the clauses that are used here can be lost unseen; of the words of an acceptance WordsDecide shows
-- that. And the ledger is determined by the accepted calls, so they determine all of it too (document 02, 8).
use Rattle.std.specs.Prelude.{ℕ, min, ◌≡◌, refl, Bool, true, false, not, length}
use Rattle.std.proofs.Common.{sym, ◌∙◌, ⊎_elim, arith}
use Rattle.std.proofs.Math.Path.{ap}
use mathlib.Core.List.{List, flatten}
use Rattle.std.proofs.Math.Decide.{ℕ_discrete as dec_eq}
use Rattle.rules_numbers.specs.Cases.{le_or_lt}
use Rattle.rules_numbers.specs.Least.{least_is}
use Rattle.rules_numbers.specs.Tails.{laid}
use Rattle.rules_auction.specs.Ledger.{Call, Ledger}
use Rattle.rules_auction.specs.Clearing.{remainder_at, covered, closing_price}
use Rattle.rules_auction.specs.Refusals.{is_closed}
use Rattle.rules_auction.specs.Rounds.{ledger}
use Rattle.rules_auction.specs.Award.{admissible, covering_choices, kept_choices}
use Rattle.rules_auction.specs.Second.{second_price}
use Rattle.rules_auction.specs.Participation.{sufficient, grants, price_paid}
use Rattle.rules_auction.specs.Settling.{records, settlement_at, settlement}
use Rattle.laws_ledger.specs.reachable.AcceptedCalls.{accepted_calls, same_accepted}
use Rattle.engine_settling.specs.Settles.{Settled, refused_with, settled_as}
use Rattle.statement.specs.settling.Stated.{Within, Fit, Accepted, Stated}

-- an accepted answer is the ledger's settlement: place by place at its price, and its price is the ledger's
module _ (l : Ledger) (old new : List ℕ) (r : Settled) (z : r.number ≡ 0) (a : Accepted l old new r) where
  remainder_is : r.remainder ≡ remainder_at l r.price
  remainder_is = a.remainder

  covering_is : r.covering ≡ length (covering_choices l r.price)
  covering_is = a.covering

  kept_is : r.kept ≡ kept_choices l r.price
  kept_is = a.kept

  second_is : r.second ≡ second_price l
  second_is = a.second

  mark_is : r.insufficient ≡ not (sufficient l (grants l r.price))
  mark_is = a.insufficient

  paid_is : r.paid ≡ price_paid l r.price (grants l r.price)
  paid_is = a.paid

  accepted_is : r ≡ settled_as (settlement l)
  unfolding settlement settlement_at closing_price
  accepted_is =
      let p : r.price ≡ closing_price l = least_is (covered l) l.closing l.settings.a r.price a.price in
      whole ∙ ap (λ (q : ℕ). settled_as (settlement_at l q)) p
    where
      whole : r ≡ settled_as (settlement_at l r.price)
      whole = λ i. record {
        number = z i;
        price = r.price;
        demand = a.demand i;
        remainder = remainder_is i;
        total = a.total_is i;
        choices = a.choices i;
        covering = covering_is i;
        kept = kept_is i;
        second = second_is i;
        short = a.short i;
        insufficient = mark_is i;
        paid = paid_is i;
        records = a.count i;
      }

module _ (l : Ledger) (limit : ℕ) (old new new' : List ℕ) (r r' : Settled) (s : Stated l limit old new r) (t : Stated l limit old new' r') where
  -- refused by one number: the answers are equal, and no buffer is touched
  by_number : (n : ℕ) → (n ≡ 0 → ⊥) → r.number ≡ n → r'.number ≡ n → (r ≡ r') × (new ≡ new')
  by_number n z e f =
      let u = s.refused (λ g. z (sym e ∙ g)) in
      let v = t.refused (λ g. z (sym f ∙ g)) in
      (u.0 ∙ ap refused_with (e ∙ sym f) ∙ sym v.0, u.1 ∙ sym v.1)

  module _ (c : is_closed l.phase ≡ true) where
    -- accepted: by the same price
    both : r.number ≡ 0 → r'.number ≡ 0 → (r ≡ r') × (new ≡ new')
    both e f =
        let a = s.accepted c e in
        let b = t.accepted c f in
        let k : r ≡ r' = accepted_is l old new r e a ∙ sym (accepted_is l old new' r' f b) in
        (k, a.written ∙ ap (λ (x : Settled). laid (flatten (records l x.price)) old) k ∙ sym b.written)

    -- refused: the choices outnumber the limit, or the records do not fit
    neither : (r.number ≡ 0 → ⊥) → (r ≡ r') × (new ≡ new')
    neither z = ⊎_elim
        (λ w. let f : Fit l old → ⊥ = λ g. z ((s.exactly c).1 (w, g)) in by_number 11 (omega arith) (s.by_11 c w f) (t.by_11 c w f))
        (λ g. let w : Within l limit → ⊥ = λ h. omega arith in by_number 10 (omega arith) (s.by_10 c w) (t.by_10 c w))
        (le_or_lt (length (admissible l (closing_price l))) (min limit 65536))

    closed_too : (r ≡ r') × (new ≡ new')
    closed_too = go (dec_eq r.number 0)
      where
        go : Dec (r.number ≡ 0) → (r ≡ r') × (new ≡ new')
        go (yes z) = both z ((t.exactly c).1 ((s.exactly c).0 z))
        go (no z) = neither z

  pub determined : (r ≡ r') × (new ≡ new')
  determined = go (is_closed l.phase) refl
    where
      go : (b : Bool) → is_closed l.phase ≡ b → (r ≡ r') × (new ≡ new')
      go false e = by_number 2 (omega arith) (s.not_closed e) (t.not_closed e)
      go true e = closed_too e

-- two lists with the same accepted calls in the same order, whatever was refused between them; one limit, and buffers of equal bytes
module _ (cs ds : List Call) (limit limit' : ℕ) (old old' new new' : List ℕ) (r r' : Settled) where
  pub by_accepted :
      accepted_calls cs ≡ accepted_calls ds → limit ≡ limit' → old ≡ old' →
      Stated (ledger cs) limit old new r → Stated (ledger ds) limit' old' new' r' → (r ≡ r') × (new ≡ new')
  by_accepted e f g s t =
      let u : Stated (ledger cs) limit old new' r' = rw (same_accepted cs ds e, f, g) t in
      determined (ledger cs) limit old new new' r r' s u
