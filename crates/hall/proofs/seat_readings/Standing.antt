-- The steps of a standing offer copied out of a history, where they stand behind the withdrawals.
use Prim.Native.Nat.{ℕ, ◌+◌, ◌-◌, ◌≤◌, ◌<◌}
use mathlib.Core.Path.{◌≡◌, refl, sym, ap, ap₂, ◌∙◌}
use mathlib.Core.List.{List, ◌++◌, map, map-append, append_assoc}
use native.Mathlib.Omega.{arith}
use lib.ListN.{length, take, drop, length-map}
use lib.Seq.{take_at, drop_at}
use Rattle.std.specs.Prelude.{Option, Some, replicate}
use Rattle.std.proofs.lemmas.List.{drop-replicate}
use Rattle.rules_numbers.specs.Lists.{padded}
use Rattle.rules_auction.specs.Ledger.{Step, Standing, none, made}
use Rattle.laws_ledger.specs.Sound.{prices_of, levels_of}
use Rattle.engine_held.specs.declared.history.History.{History}
use Rattle.engine_held.specs.history.Held.{pending, held_history}
use Rattle.engine_held.specs.history.Places.{count_of, offered_of}
use Rattle.hall.specs.declared.seat_readings.StandingOffer.{StandingOffer}
use Rattle.hall.specs.seat_readings.Shown.{shown_offer, StandsIn}

same : (x y : StandingOffer) → x.count ≡ y.count → x.prices ≡ y.prices → x.levels ≡ y.levels → Some x ≡ Some y
same x y c p l = λ i. Some (record { count = c i; prices = p i; levels = l i })

-- the column f of the steps, copied from behind the n withdrawals over zeros
column :
    (f : Step → ℕ) (ws ss ls : List Step) (xs : List ℕ) (n m k : ℕ) →
    xs ≡ padded 8 (map f (ws ++ (ss ++ ls))) → n ≡ length ws → m ≡ length ss → k ≡ m → length ss ≤ 8 →
    take k (drop n xs) ++ drop m (replicate 8 0) ≡ padded 8 (map f ss)
column f ws ss ls xs n m k e a b q w =
    let z : List ℕ = replicate (8 - length (map f (ws ++ (ss ++ ls)))) 0 in
    let parts : xs ≡ map f ws ++ (map f ss ++ (map f ls ++ z)) =
    e ∙ ap (λ (l : List ℕ). l ++ z) (map-append f ws (ss ++ ls) ∙ ap (λ (l : List ℕ). map f ws ++ l) (map-append f ss ls))
    ∙ append_assoc (map f ws) (map f ss ++ map f ls) z
    ∙ ap (λ (l : List ℕ). map f ws ++ l) (append_assoc (map f ss) (map f ls) z) in
    let behind : drop n xs ≡ map f ss ++ (map f ls ++ z) = ap (drop n) parts ∙ drop_at (map f ws) _ n (length-map ws f ∙ sym a) in
    let taken : take k (drop n xs) ≡ map f ss = ap (take k) behind ∙ take_at (map f ss) _ k (length-map ss f ∙ sym (q ∙ b)) in
    let left : drop m (replicate 8 0) ≡ replicate (8 - length (map f ss)) 0 =
    drop-replicate m 8 0 ∙ ap (λ (i : ℕ). replicate (8 - i) 0) (b ∙ sym (length-map ss f)) in
    ap₂ (λ (l r : List ℕ). l ++ r) taken left

-- an offer stands
with_offer_lem :
    (h : History) (r : Option StandingOffer) → 0 < h.offered →
    ((ws ss ls : List Step) → h ≡ held_history ws (made ss) ls → length ws + length ss ≤ 8 → r ≡ shown_offer (made ss)) → StandsIn h r
with_offer_lem h r k f = record { offer_is = go }
  where
    go : (ws : List Step) (o : Standing) (ls : List Step) → h ≡ held_history ws o ls → length ws + length (pending o) ≤ 8 → r ≡ shown_offer o
    go ws none ls e w = absurd (omega (arith, offered_of e))
    go ws (made ss) ls e w = f ws ss ls e w

-- all steps are copied
pub copied : (h : History) (k j : ℕ) (ps qs : List ℕ) → 0 < h.offered → k ≡ h.offered - 1 → j ≡ k →
    ps ≡ take j (drop h.count h.prices) → qs ≡ take j (drop h.count h.levels) →
    StandsIn h (Some (record { count = k; prices = ps ++ drop k (replicate 8 0); levels = qs ++ drop k (replicate 8 0) }))
copied h k j ps qs v m q p l = with_offer_lem h _ v (λ ws ss ls e w.
    let n : h.count ≡ length ws = count_of e in
    let t : k ≡ length ss = omega (arith, offered_of e) in
    same _ (record { count = length ss; prices = padded 8 (prices_of ss); levels = padded 8 (levels_of ss) }) t
    (rw p (column (λ s. s.price) ws ss ls _ _ _ _ (ap (λ (x : History). x.prices) e) n t q (omega arith)))
    (rw l (column (λ s. s.level) ws ss ls _ _ _ _ (ap (λ (x : History). x.levels) e) n t q (omega arith))))
