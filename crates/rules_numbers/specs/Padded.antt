-- A list with zeros behind it, in k places: a store behind the last number, the last number taken away, and what stands at a place.
use Rattle.std.specs.Prelude.{ℕ, suc, ◌-◌, ◌<◌, ◌≡◌, List, [], ◌∷◌, ◌++◌, map, length, get_or, set, replicate}
use Rattle.std.proofs.Common.{sym, ap, ◌∙◌, append_assoc, arith, length-append}
use Rattle.std.proofs.lemmas.List.{length-map}
use Rattle.std.proofs.Math.ListN.{get_or-append, get_or-map}
use Rattle.std.proofs.Math.Seq.{set-append_seam}
use Rattle.rules_numbers.specs.Lists.{padded}

module _ (k : ℕ) where
  pub padded_more : (xs : List ℕ) (n x : ℕ) → length xs ≡ n → n < k → set (padded k xs) n x ≡ padded k (xs ++ (x ∷ []))
  padded_more xs n x e h =
      let f : k - length xs ≡ suc (k - length (xs ++ (x ∷ []))) = omega (arith, length-append xs (x ∷ [])) in
      rw (f, ← e) (set-append_seam xs 0 (replicate (k - length (xs ++ (x ∷ []))) 0) x
      ∙ sym (append_assoc xs (x ∷ []) (replicate (k - length (xs ++ (x ∷ []))) 0)))

  -- the last number taken away
  pub padded_less : (xs : List ℕ) (n x : ℕ) → length xs ≡ n → n < k → set (padded k (xs ++ (x ∷ []))) n 0 ≡ padded k xs
  padded_less xs n x e h =
      let f : k - length xs ≡ suc (k - length (xs ++ (x ∷ []))) = omega (arith, length-append xs (x ∷ [])) in
      rw (f, ← e, append_assoc xs (x ∷ []) (replicate (k - length (xs ++ (x ∷ []))) 0)) (set-append_seam xs x (replicate (k - length (xs ++ (x ∷ []))) 0) 0)

  -- the figure f of the element at a place
  pub padded_nth : {A : Type 0} (f : A → ℕ) (xs : List A) (i : ℕ) (d : A) → f d ≡ 0 → i < length xs → get_or (padded k (map f xs)) i 0 ≡ f (get_or xs i d)
  padded_nth f xs i d z h =
      get_or-append (map f xs) (replicate (k - length (map f xs)) 0) 0 i (omega (arith, length-map xs f))
      ∙ ap (λ (v : ℕ). get_or (map f xs) i v) (sym z)
      ∙ get_or-map f xs i d
