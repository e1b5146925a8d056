-- Bytes laid over a buffer's start, and texts laid one behind the other, each into the tail of the buffer that is left.
use Rattle.std.specs.Prelude.{ℕ, ◌+◌, ◌-◌, ◌≤◌, ◌≡◌, List, [], ◌++◌, length, take, drop}
use Rattle.std.proofs.Common.{sym, ap, ap₂, ◌∙◌, append_assoc, append-nil, arith, length-append, length-drop, drop_of_length-le, take_at, drop_at, take_all, drop-drop, length-take-le, take-add}
use Rattle.std.proofs.Math.Seq.{take-append_seam, drop-append_seam, take-length}
use borrow.Rule.Slice.PartMut.{put_mid, mid_of}

-- a text over a buffer's start: the bytes behind it stay
unfoldable pub laid : List ℕ → List ℕ → List ℕ
laid text old = text ++ drop (length text) old

pub length_laid : (t o : List ℕ) → length t ≤ length o → length (laid t o) ≡ length o
unfolding laid
length_laid t o h = omega (arith, length-append t (drop (length t) o), length-drop (length t) o)

-- the bytes behind a text stay
pub behind_laid : (t o : List ℕ) (m : ℕ) → length t ≤ m → drop m (laid t o) ≡ drop m o
unfolding laid
behind_laid t o m h =
    let n : length t + (m - length t) ≡ m = omega arith in
    sym (split n (t ++ drop (length t) o)) ∙ ap (drop (m - length t)) (drop-append_seam t (drop (length t) o)) ∙ split n o
  where
    split : length t + (m - length t) ≡ m → (xs : List ℕ) → drop (m - length t) (drop (length t) xs) ≡ drop m xs
    split n xs = drop-drop (m - length t) (length t) xs ∙ ap (λ (k : ℕ). drop k xs) n

-- the tail that is lent
pub tail_is : (a : ℕ) (xs : List ℕ) → mid_of a (length xs - a) xs ≡ drop a xs
tail_is a xs = take_all (length xs - a) (drop a xs) (omega (arith, length-drop a xs))

-- the tail that comes back
tail_back : (a : ℕ) (xs ys : List ℕ) → put_mid a (length xs - a) xs ys ≡ take a xs ++ ys
tail_back a xs ys =
    ap (λ (l : List ℕ). take a xs ++ (ys ++ l)) (drop_of_length-le (drop a xs) {i = length xs - a} (omega (arith, length-drop a xs)))
    ∙ ap (λ (l : List ℕ). take a xs ++ l) (append-nil ys)

-- what a buffer holds once t was laid over the tail behind s
pub grow : (s t o xs ys : List ℕ) (a : ℕ) → xs ≡ laid s o → a ≡ length s → ys ≡ laid t (mid_of a (length xs - a) xs)
    → put_mid a (length xs - a) xs ys ≡ laid (s ++ t) o
unfolding laid
grow s t o xs ys a ex ea ey =
    let d : drop a xs ≡ drop (length s) o = ap (drop a) ex ∙ drop_at s (drop (length s) o) a (sym ea) in
    let y : ys ≡ t ++ drop (length s + length t) o =
    ey ∙ ap (laid t) (tail_is a xs ∙ d) ∙ ap (λ (l : List ℕ). t ++ l) (drop-drop (length t) (length s) o) in
    let p : take a xs ≡ s = ap (take a) ex ∙ take_at s (drop (length s) o) a (sym ea) in
    tail_back a xs ys ∙ ap₂ ◌++◌ p y ∙ sym (append_assoc s t (drop (length s + length t) o))
    ∙ ap (λ (n : ℕ). (s ++ t) ++ drop n o) (sym (length-append s t))

-- the buffer xs, o at first, holds the first `used` bytes of a text; rest is what is left of it
pub record Filled (text o xs rest : List ℕ) (used : ℕ) : Type 0 where
  pub inside : used ≤ length text
  pub left : drop used text ≡ rest
  pub holds : xs ≡ laid (take used text) o

module _ (text o xs rest : List ℕ) (used : ℕ) where
  -- one part more, laid over the tail
  pub filled_more :
      (t : List ℕ) (ys : List ℕ) → Filled text o xs (t ++ rest) used → ys ≡ laid t (mid_of used (length xs - used) xs) →
      Filled text o (put_mid used (length xs - used) xs ys) rest (used + length t)
  filled_more t ys f e =
      let lt : length t + length rest ≡ length text - used = sym (length-append t rest) ∙ ap length (sym f.left) ∙ length-drop used text in
      let lp : length (take used text) ≡ used = length-take-le used text f.inside in
      let p : take (used + length t) text ≡ take used text ++ t =
      take-add used (length t) text ∙ ap (λ (l : List ℕ). take used text ++ take (length t) l) f.left
      ∙ ap (λ (l : List ℕ). take used text ++ l) (take-append_seam t rest) in
      record {
        inside = omega arith;
        left = sym (drop-drop (length t) used text) ∙ ap (drop (length t)) f.left ∙ drop-append_seam t rest;
        holds = grow (take used text) t o xs ys used f.holds (sym lp) e ∙ ap (λ (l : List ℕ). laid l o) (sym p);
      }

  -- nothing left
  pub filled_all : Filled text o xs rest used → rest ≡ [] → (used ≡ length text) × (xs ≡ laid text o)
  filled_all f e =
      let n : used ≡ length text = omega (arith, ap length (f.left ∙ e), length-drop used text, f.inside) in
      (n, f.holds ∙ ap (λ (l : List ℕ). laid l o) (ap (λ (k : ℕ). take k text) n ∙ take-length text))
