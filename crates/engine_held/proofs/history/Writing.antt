-- What the writing functions leave: an offer's steps behind the withdrawals, a lodged list, and all withdrawn where an offer is missing.
use Prim.Native.Nat.{ℕ, ◌+◌, ◌-◌, ◌≤◌, ◌<◌}
use mathlib.Core.Path.{◌≡◌, refl, sym, ap, ◌∙◌}
use mathlib.Core.Bool.{Bool, true}
use mathlib.Core.List.{List, [], ◌∷◌, ◌++◌, map, map-append, append-nil, append_assoc}
use native.Mathlib.Omega.{arith}
use borrow.Rule.Slice.PartMut.{put_mid}
use Rattle.std.proofs.lemmas.List.{drop-replicate}
use lib.ListN.{length, set, replicate, length-append, length-map}
use lib.Seq.{take-append_seam, drop-append_seam}
use Rattle.rules_numbers.specs.Lists.{padded}
use Rattle.rules_auction.specs.Ledger.{Step, Standing, none, made}
use Rattle.rules_auction.specs.Rounds.{steps}
use Rattle.engine_held.specs.declared.history.History.{History}
use Rattle.engine_held.specs.history.Held.{held_history, additions, Offered, Lodged, Applied}
use Rattle.engine_held.specs.history.HeldLaws.{steps_prices, steps_levels, steps_length}
use Rattle.engine_held.specs.history.Places.{same, count_of, offered_of, lodged_of, padded_more}

-- a column of the arrays
column : (f : Step → ℕ) (ws ss : List Step) (xs : List ℕ) → map f ss ≡ xs → padded 8 (map f ws ++ xs) ≡ padded 8 (map f (ws ++ ss))
column f ws ss xs e = ap (padded 8) (ap (λ (ys : List ℕ). map f ws ++ ys) (sym e) ∙ sym (map-append f ws ss))

-- one step more
column_more :
    (f : Step → ℕ) (ws : List Step) (s : Step) (n : ℕ) → n ≡ length ws → n < 8 →
    set (padded 8 (map f (ws ++ []))) n (f s) ≡ padded 8 (map f ((ws ++ (s ∷ [])) ++ []))
column_more f ws s n e h =
    simp append-nil (padded_more 8 (map f ws) n (f s) (length-map ws f ∙ sym e) h ∙ column f ws (s ∷ []) (f s ∷ []) refl)

-- nothing behind the last steps
last : (f : Step → ℕ) (ws ss : List Step) → padded 8 (map f (ws ++ ss)) ≡ padded 8 (map f (ws ++ (ss ++ [])))
last f ws ss = ap (λ (x : List Step). padded 8 (map f (ws ++ x))) (sym (append-nil ss))

-- ---- offer

-- numbers put behind the first ones
put_behind : (xs ys : List ℕ) (n m : ℕ) → n ≡ length xs → m ≡ length ys → n + m ≤ 8 → put_mid n m (padded 8 xs) ys ≡ padded 8 (xs ++ ys)
put_behind xs ys n m e f h =
    let zeros : List ℕ = replicate (8 - length xs) 0 in
    let left : 8 - length xs - length ys ≡ 8 - length (xs ++ ys) = omega (arith, length-append xs ys) in
    rw (e, f, take-append_seam xs zeros, drop-append_seam xs zeros, drop-replicate {X = ℕ} (length ys) (8 - length xs) 0, left, append_assoc) refl

-- a column of the steps ss behind that of the steps ws
put_column :
    (f : Step → ℕ) (ws ss : List Step) (held xs : List ℕ) (n m : ℕ) → held ≡ padded 8 (map f (ws ++ [])) → xs ≡ map f ss → n ≡ length ws → m ≡ length ss →
    n + m ≤ 8 → put_mid n m held xs ≡ padded 8 (map f (ws ++ (ss ++ [])))
put_column f ws ss held xs n m e g l k h =
    rw (e, g)
    (simp append-nil
    (put_behind (map f ws) (map f ss) n m (l ∙ sym (length-map ws f)) (k ∙ sym (length-map ss f)) h ∙ ap (padded 8) (sym (map-append f ws ss))))

-- the steps stand behind the withdrawals, of which there are n
pub offer_lem :
    (h : History) (ps qs xs ys : List ℕ) (n m : ℕ) → (h.count ≤ 8 → n ≡ h.count) → m ≡ length ps → xs ≡ ps → ys ≡ qs →
    Offered h ps qs (record { prices = put_mid n m h.prices xs; levels = put_mid n m h.levels ys; count = h.count; offered = length ps + 1; lodged = h.lodged })
offer_lem h ps qs xs ys n m f g x y = record {
  offer_stands = λ ws e s w.
      let ss = steps ps qs in
      let l : n ≡ length ws = f (omega (arith, count_of e)) ∙ count_of e in
      let k : m ≡ length ss = g ∙ sym (steps_length ps qs s) in
      same _ (held_history ws (made ss) [])
      (put_column (λ t. t.price) ws ss h.prices xs n m (ap (λ (z : History). z.prices) e) (x ∙ sym (steps_prices ps qs s)) l k (omega arith))
      (put_column (λ t. t.level) ws ss h.levels ys n m (ap (λ (z : History). z.levels) e) (y ∙ sym (steps_levels ps qs s)) l k (omega arith))
      (count_of e)
      (omega (arith, steps_length ps qs s))
      (lodged_of e);
}

-- ---- lodge

-- an offer behind no withdrawals, held as a lodged list
pub lodge_list : (ps qs : List ℕ) (e h : History) → e ≡ held_history [] none [] → Offered e ps qs h →
    Lodged ps qs (record { prices = h.prices; levels = h.levels; count = h.count; offered = 0; lodged = length ps })
lodge_list ps qs e h z o = record {
  list_alone = λ s w.
      let g = o.offer_stands [] z s (omega arith) in
      same _ (held_history [] none (steps ps qs))
      (ap (λ (x : History). x.prices) g ∙ sym (last (λ x. x.price) [] (steps ps qs)))
      (ap (λ (x : History). x.levels) g ∙ sym (last (λ x. x.level) [] (steps ps qs)))
      (count_of g)
      refl
      (sym (steps_length ps qs s));
}

-- ---- close

module _ (h : History) (missing : Bool) (o : ℕ) where
  -- by the offer that stands
  by_standing :
      (r : History) →
      ((ws ls : List Step) → h ≡ held_history ws none ls → (missing ≡ true → ls ≡ []) → length ws + length (additions missing o none) ≤ 8 →
      r ≡ held_history (ws ++ additions missing o none) none ls) →
      ((ws ss ls : List Step) → h ≡ held_history ws (made ss) ls → length ws + length ss ≤ 8 → r ≡ held_history (ws ++ ss) none ls) →
      Applied h missing o r
  by_standing r f g = record { offer_applied = go }
    where
      go : (ws : List Step) (s : Standing) (ls : List Step) → h ≡ held_history ws s ls → (missing ≡ true → ls ≡ []) →
          length ws + length (additions missing o s) ≤ 8 → r ≡ held_history (ws ++ additions missing o s) none ls
      go ws none ls e m w = f ws ls e m w
      go ws (made ss) ls e m w = g ws ss ls e w

  without_offer :
      (r : History) → h.offered ≤ 0 →
      ((ws ls : List Step) → h ≡ held_history ws none ls → (missing ≡ true → ls ≡ []) → length ws + length (additions missing o none) ≤ 8 →
      r ≡ held_history (ws ++ additions missing o none) none ls) →
      Applied h missing o r
  without_offer r k f = by_standing r f (λ ws ss ls e w. absurd (omega (arith, offered_of e)))

  -- all is withdrawn at o
  pub close_missing :
      h.offered ≤ 0 → missing ≡ true → h.count < 8 →
      Applied h missing o (record {
        prices = set h.prices h.count o;
        levels = set h.levels h.count 0;
        count = h.count + 1;
        offered = h.offered;
        lodged = h.lodged;
      })
  close_missing k m n = without_offer _ k (λ ws ls e i w.
      let s : Step = record { price = o; level = 0 } in
      let l : h.count ≡ length ws = count_of e in
      let z : ls ≡ [] = i m in
      let g : h ≡ held_history ws none [] = e ∙ ap (held_history ws none) z in
      rw (m, z)
      (same _ (held_history (ws ++ (s ∷ [])) none [])
      (ap (λ (x : History). set x.prices h.count o) g ∙ column_more (λ x. x.price) ws s h.count l n)
      (ap (λ (x : History). set x.levels h.count 0) g ∙ column_more (λ x. x.level) ws s h.count l n)
      (omega (arith, length-append ws (s ∷ [])))
      (offered_of g)
      (lodged_of g)))
