-- The lodged steps that a closing reaches: how many, where the loop keeps the answer for what is left, and that they are in place already.
use Prim.Native.Nat.{ℕ, suc, ◌+◌, ◌-◌, ◌≤◌, ◌<◌}
use mathlib.Core.Path.{◌≡◌, refl, sym, ap, subst, ◌∙◌}
use mathlib.Core.Logic.{◌⊎◌, ⊎_elim}
use mathlib.Core.Bool.{true}
use mathlib.Core.List.{List, [], ◌∷◌, ◌++◌, append-nil, append_assoc}
use native.Mathlib.Omega.{arith}
use native.Mathlib.Numerals.{add-one}
use native.Mathlib.Nat.{le_refl, zero-add}
use lib.ListN.{length, get_or, drop, drop_of_length-le, length-append}
use lib.Seq.{drop-cons}
use Rattle.rules_numbers.specs.Lists.{keep, padded}
use Rattle.rules_auction.specs.Ledger.{Step, Standing, none, made}
use Rattle.rules_auction.specs.Refusals.{falling}
use Rattle.rules_auction.specs.Rounds.{reached, unreached}
use Rattle.rules_auction.specs.CheckLaws.{falling_first}
use Rattle.laws_ledger.specs.Sound.{prices_of, levels_of}
use Rattle.laws_ledger.specs.LodgedLaws.{reached_first, reached_stops, reached_front}
use Rattle.engine_held.specs.declared.history.History.{History}
use Rattle.engine_held.specs.history.Held.{held_history, pending, ReachedCount, Reached}
use Rattle.engine_held.specs.history.Places.{same, count_of, offered_of, lodged_of, no_step, padded_behind}

-- ---- lodged steps reached

-- a lodged list as a history holds it, no offer standing where there are any: from below o down to f
pub record Lodges (h : History) (ws : List Step) (s : Standing) (ls : List Step) (f o : ℕ) : Type 0 where
  pub holds : h ≡ held_history ws s ls
  pub alone : (s ≡ none) ⊎ (ls ≡ [])
  pub falls : falling f o (prices_of ls) ≡ true
  pub fits : length ws + length ls ≤ 8

-- before step i of the list: i steps are reached already, those left fall from below b, which is at most o
record Left (c : ℕ) (ls : List Step) (f o i : ℕ) : Type 0 where
  within : i ≤ length ls
  number : i + length (reached c o (drop i ls)) ≡ length (reached c o ls)
  bound : ℕ
  below : bound ≤ o
  falls : falling f bound (prices_of (drop i ls)) ≡ true

pub record ReachedSoFar (h : History) (c i : ℕ) : Type 0 where
  left : (ws : List Step) (s : Standing) (ls : List Step) (f o : ℕ) → Lodges h ws s ls f o → Left c ls f o i

pub reached_none : (h : History) (c : ℕ) → ReachedSoFar h c 0
reached_none h c = record { left = λ ws s ls f o g. record { within = omega arith; number = zero-add _; bound = o; below = le_refl o; falls = g.falls } }

-- the answer, for every list that the history holds
answers : (h : History) (c i : ℕ) → ((ws : List Step) (s : Standing) (ls : List Step) (f o : ℕ) → Lodges h ws s ls f o → i ≡ length (reached c o ls)) →
    ReachedCount h c i
answers h c i a = record { reached_number = λ ws s ls f o e d g w. a ws s ls f o (record { holds = e; alone = d; falls = g; fits = w }) }

module _ (h : History) (c i : ℕ) (l : ReachedSoFar h c i) where
  module _ (w : i < h.lodged) where
    -- the price of step i
    price_at : (ws : List Step) (s : Standing) (ls : List Step) → h ≡ held_history ws s ls → (s ≡ none) ⊎ (ls ≡ []) →
        get_or h.prices (h.count + i) 0 ≡ (get_or ls i no_step).price
    price_at ws none ls e d = ap (λ (x : History). get_or x.prices (x.count + i) 0) e
        ∙ padded_behind (λ t. t.price) refl 8 ws ls i (omega (arith, lodged_of e))
    price_at ws (made ss) ls e d = ⊎_elim (λ z. absurd (let y : ◌≡◌ {A = ℕ} 0 1 = cc in omega arith)) (λ z. absurd (omega (arith, lodged_of e, ap length z))) d

    -- step i and those behind it
    from_here : (ls : List Step) → i < length ls → drop i ls ≡ get_or ls i no_step ∷ drop (suc i) ls
    from_here ls k = drop-cons ls i no_step k

    pub reached_more : c ≤ get_or h.prices (h.count + i) 0 → ReachedSoFar h c (i + 1)
    reached_more k = record {
      left = λ ws s ls f o g.
          let n : i < length ls = omega (arith, lodged_of g.holds) in
          let p = price_at ws s ls g.holds g.alone in
          let t = l.left ws s ls f o g in
          let d = from_here ls n in
          let q = falling_first f t.bound (get_or ls i no_step).price (prices_of (drop (suc i) ls))
          (subst (λ (x : List Step). falling f t.bound (prices_of x) ≡ true) d t.falls) in
          let below = t.below in
          let r = (reached_first c o (get_or ls i no_step) (drop (suc i) ls) (omega arith) (omega arith)).0 in
          let m : length (reached c o (drop i ls)) ≡ suc (length (reached c o (drop (suc i) ls))) = ap (λ (x : List Step). length (reached c o x)) d
          ∙ ap length r in
          let j = t.number in
          rw add-one (record { within = omega arith; number = omega arith; bound = (get_or ls i no_step).price; below = omega arith; falls = q.2 });
    }

    pub reached_stop : get_or h.prices (h.count + i) 0 < c → ReachedCount h c i
    reached_stop k = answers h c i (λ ws s ls f o g.
        let n : i < length ls = omega (arith, lodged_of g.holds) in
        let p = price_at ws s ls g.holds g.alone in
        let t = l.left ws s ls f o g in
        let d = from_here ls n in
        let r = reached_stops f t.bound c o (get_or ls i no_step) (drop (suc i) ls) (omega arith)
        (subst (λ (x : List Step). falling f t.bound (prices_of x) ≡ true) d t.falls) in
        let m : length (reached c o (drop i ls)) ≡ 0 = ap (λ (x : List Step). length (reached c o x)) d ∙ ap length r in
        omega (arith, t.number))

    -- there is a place for each step
    pub reached_room : (8 ≤ i) ⊎ (8 ≤ h.count + i) → ReachedCount h c i
    reached_room k = answers h c i (λ ws s ls f o g.
        let v = g.fits in
        absurd (⊎_elim (λ z. omega (arith, lodged_of g.holds)) (λ z. omega (arith, lodged_of g.holds, count_of g.holds)) k))

  pub reached_all : h.lodged ≤ i → ReachedCount h c i
  unfolding reached keep
  reached_all w = answers h c i (λ ws s ls f o g.
      let t = l.left ws s ls f o g in
      let n : length ls ≤ i = omega (arith, lodged_of g.holds) in
      let m : length (reached c o (drop i ls)) ≡ 0 = ap (λ (x : List Step). length (reached c o x)) (drop_of_length-le ls n) in
      omega (arith, t.number))

-- ---- reach

-- the lodged steps reached stand in front of the others: in place already
pub reach_lodged :
    (h : History) (c k n m : ℕ) → ReachedCount h c k → (h.count + k ≤ 8 → n ≡ h.count + k) → m ≡ h.lodged - k →
    Reached h c (record { prices = h.prices; levels = h.levels; count = n; offered = h.offered; lodged = m })
reach_lodged h c k n m r f g = record {
  reached_withdrawn = λ ws s ls b o e d v w.
      let i = r.reached_number ws s ls b o e d v w in
      let front = reached_front b o c o ls (le_refl o) v in
      let l = length-append (reached c o ls) (unreached c o ls) in
      let all : length (reached c o ls ++ unreached c o ls) ≡ length ls = ap length front in
      let sum : n ≡ h.count + k = f (omega (arith, count_of e)) in
      same _ (held_history (ws ++ reached c o ls) s (unreached c o ls))
      (ap (λ (x : History). x.prices) e ∙ ap (λ (x : List Step). padded 8 (prices_of x)) (moved ws s ls (reached c o ls) (unreached c o ls) front d))
      (ap (λ (x : History). x.levels) e ∙ ap (λ (x : List Step). padded 8 (levels_of x)) (moved ws s ls (reached c o ls) (unreached c o ls) front d))
      (omega (arith, count_of e, length-append ws (reached c o ls)))
      (offered_of e)
      (omega (arith, lodged_of e));
}
  where
    moved : (ws : List Step) (s : Standing) (ls rs us : List Step) → rs ++ us ≡ ls → (s ≡ none) ⊎ (ls ≡ []) →
        ws ++ (pending s ++ ls) ≡ (ws ++ rs) ++ (pending s ++ us)
    moved ws none ls rs us e d = ap (λ (x : List Step). ws ++ x) (sym e) ∙ sym (append_assoc ws rs us)
    moved ws (made ss) ls [] us e d = ap (λ (x : List Step). ws ++ (ss ++ x)) (sym e) ∙ ap (λ (x : List Step). x ++ (ss ++ us)) (sym (append-nil ws))
    moved ws (made ss) ls (t ∷ rs) us e d =
        ⊎_elim (λ z. absurd (let y : ◌≡◌ {A = ℕ} 0 1 = cc in omega arith)) (λ z. absurd (omega (arith, ap length (e ∙ z)))) d
