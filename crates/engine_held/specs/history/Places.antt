-- Histories that agree, and the places of a list with zeros behind it: what stands there, and a store behind the last.
use Rattle.std.specs.Prelude.{ℕ, ◌+◌, ◌≤◌, ◌<◌, ◌≡◌, List, [], ◌∷◌, ◌++◌, map, length, get_or, take, set}
use Rattle.std.proofs.Common.{sym, ap, ◌∙◌, append_assoc, arith, add-one, length-append, take-suc, length-take-le, get_or-append-add}
use Rattle.std.proofs.Math.ListN.{get_or-append}
use Rattle.rules_numbers.specs.Lists.{padded}
use Rattle.rules_numbers.specs.Padded.{padded_nth}
pub use Rattle.rules_numbers.specs.Padded.{padded_more}
use Rattle.rules_auction.specs.Ledger.{Step}
use Rattle.engine_held.specs.declared.history.History.{History}

pub same : (h g : History) → h.prices ≡ g.prices → h.levels ≡ g.levels → h.count ≡ g.count → h.offered ≡ g.offered → h.lodged ≡ g.lodged → h ≡ g
same h g p l c o d = λ i. record { prices = p i; levels = l i; count = c i; offered = o i; lodged = d i }

pub count_of : {h g : History} → h ≡ g → h.count ≡ g.count
count_of e = ap (λ (x : History). x.count) e

pub offered_of : {h g : History} → h ≡ g → h.offered ≡ g.offered
offered_of e = ap (λ (x : History). x.offered) e

pub lodged_of : {h g : History} → h ≡ g → h.lodged ≡ g.lodged
lodged_of e = ap (λ (x : History). x.lodged) e

module _ (k : ℕ) where
  -- the next element of ys stored behind xs and those before it
  pub padded_next :
      (xs ys : List ℕ) (n i : ℕ) → length xs ≡ n → i < length ys → n + length ys ≤ k →
      set (padded k (xs ++ take i ys)) (n + i) (get_or ys i 0) ≡ padded k (xs ++ take (i + 1) ys)
  padded_next xs ys n i e h w =
      let l : length (xs ++ take i ys) ≡ n + i = omega (arith, length-append xs (take i ys), length-take-le i ys (omega arith)) in
      padded_more k (xs ++ take i ys) (n + i) (get_or ys i 0) l (omega arith)
      ∙ ap (padded k) (append_assoc xs (take i ys) (get_or ys i 0 ∷ []) ∙ ap (λ (zs : List ℕ). xs ++ zs) (sym (rw add-one (take-suc ys i 0 h))))

abbrev pub no_step : Step
no_step = record { price = 0; level = 0 }

-- a place of the first steps
pub padded_at :
    (f : Step → ℕ) → f no_step ≡ 0 → (k : ℕ) (ws ss : List Step) (i : ℕ) → i < length ws →
    get_or (padded k (map f (ws ++ ss))) i 0 ≡ f (get_or ws i no_step)
padded_at f z k ws ss i w = padded_nth k f (ws ++ ss) i no_step z (omega (arith, length-append ws ss)) ∙ ap f (get_or-append ws ss no_step i w)

-- a place of the steps behind them
pub padded_behind :
    (f : Step → ℕ) → f no_step ≡ 0 → (k : ℕ) (ws ss : List Step) (i : ℕ) → i < length ss →
    get_or (padded k (map f (ws ++ ss))) (length ws + i) 0 ≡ f (get_or ss i no_step)
padded_behind f z k ws ss i w =
    padded_nth k f (ws ++ ss) (length ws + i) no_step z (omega (arith, length-append ws ss)) ∙ ap f (get_or-append-add ws ss i no_step)
