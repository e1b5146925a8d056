-- Texts written one behind the other, over plain lists.
use Rattle.std.specs.Prelude.{ℕ, ◌+◌, ◌≤◌, ◌<◌, ◌≡◌, refl, List, [], ◌∷◌, ◌++◌, length, take, drop, get_or, set}
use Rattle.std.proofs.Common.{sym, ap, ap₂, ◌∙◌, append_assoc, append-nil, add-one, arith, length-append, length-take, length-drop, take-append-drop, take_at, drop_at, drop-drop, take-suc}
use Rattle.std.proofs.lemmas.List.{set_split}
use Rattle.std.proofs.Math.Seq.{append_snoc}
use Rattle.trace_text.specs.decimal_text.Puts.{Puts}

-- nothing written
pub puts_none : (o : List ℕ) (most a : ℕ) → a ≤ length o → Puts [] most o o a a
puts_none o most a h = record {
  holds = rw append-nil (sym (take-append-drop a o));
  next = omega arith;
  short = omega arith;
  inside = h;
}

-- one byte written
pub puts_byte : (o : List ℕ) (a x : ℕ) → a + 1 ≤ length o → Puts (x ∷ []) 1 o (set o a x) a (a + 1)
puts_byte o a x h = record {
  holds = set_split o a x (omega arith) ∙ rw (add-one, append_snoc);
  next = refl;
  short = omega arith;
  inside = h;
}

module _ {s o xs : List ℕ} {m a b : ℕ} (p : Puts s m o xs a b) where
  -- what stands before the place behind the text
  before : length (take a o ++ s) ≡ b
  before = omega (arith, length-append (take a o) s, length-take a o, p.next, p.inside)

  pub puts_length : length xs ≡ length o
  puts_length = omega (arith, ap length p.holds, length-append (take a o ++ s) (drop b o), before, length-drop b o, p.inside)

  -- a text behind a text
  pub puts_then : {t ys : List ℕ} {n c : ℕ} → Puts t n xs ys b c → Puts (s ++ t) (m + n) o ys a c
  puts_then {t} {ys} {n} {c} q =
      let first : take b xs ≡ take a o ++ s = ap (take b) p.holds ∙ take_at (take a o ++ s) (drop b o) b before in
      let rest : drop b xs ≡ drop b o = ap (drop b) p.holds ∙ drop_at (take a o ++ s) (drop b o) b before in
      let behind : drop c xs ≡ drop c o =
      ap (λ (k : ℕ). drop k xs) q.next ∙ sym (drop-drop (length t) b xs) ∙ ap (drop (length t)) rest ∙ drop-drop (length t) b o
      ∙ ap (λ (k : ℕ). drop k o) (sym q.next) in
      record {
        holds = q.holds ∙ ap₂ (λ (x y : List ℕ). x ++ t ++ y) first behind ∙ ap (λ (l : List ℕ). l ++ drop c o) (append_assoc (take a o) s t);
        next = omega (arith, p.next, q.next, length-append s t);
        short = omega (arith, p.short, q.short, length-append s t);
        inside = omega (arith, q.inside, puts_length);
      }

  -- the same text under another name, with a wider bound
  pub puts_as : (u : List ℕ) (n : ℕ) → s ≡ u → m ≤ n → Puts u n o xs a b
  puts_as u n e h = rw (← e) record { holds = p.holds; next = p.next; short = omega (arith, p.short); inside = p.inside }

-- one byte more of a name
pub puts_more :
    (name o xs : List ℕ) (a i : ℕ) → Puts (take i name) i o xs a (a + i) → i < length name → a + length name ≤ length o →
    Puts (take (i + 1) name) (i + 1) o (set xs (a + i) (get_or name i 0)) a (a + (i + 1))
puts_more name o xs a i p h g =
    let q = puts_then p (puts_byte xs (a + i) (get_or name i 0) (omega (arith, puts_length p))) in
    let e : a + i + 1 ≡ a + (i + 1) = omega arith in
    let t : take i name ++ (get_or name i 0 ∷ []) ≡ take (i + 1) name = rw add-one (sym (take-suc name i 0 h)) in
    rw (← e) (puts_as q (take (i + 1) name) (i + 1) t (omega arith))
