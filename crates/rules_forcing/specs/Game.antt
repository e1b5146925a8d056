-- A game of two rivals that move in turn, one move a price (document 02, 11): the mover keeps, or withdraws at that price if it may. The first wants
-- the outcome high, the second low. `A` is what stands of a rival, `may` whether it may withdraw, `leave p` what stands of it once it withdraws at
-- p, `outcome` what the game ends with after the last price.
use Rattle.std.specs.Prelude.{ℕ, min, max, ◌≤◌, ◌≡◌, Bool, true, false, cond, ◌&&◌, List, [], ◌∷◌, ltb}

pub data Side : Type 0 where
  First : Side
  Second : Side

pub data GameMove : Type 0 where
  Keep : GameMove
  Withdraw : GameMove

module _ {A : Type 0} (may : A → Bool) (leave : ℕ → A → A) (outcome : A → A → ℕ) where
  -- what stands of the side that moves
  abbrev pub mover : Side → A → A → A
  mover First x y = x
  mover Second x y = y

  abbrev pub after : GameMove → ℕ → A → A
  after Keep p x = x
  after Withdraw p x = leave p x

  -- ---- strategies, and what is forced by them

  -- a strategy: from the position, which is the rivals and the prices left, to a legal move; one that may not withdraw keeps
  pub record Strategy (s : Side) : Type 0 where
    pub choose : A → A → List ℕ → GameMove
    pub legal : (x y : A) (ps : List ℕ) → may (mover s x y) ≡ false → choose x y ps ≡ Keep

  -- the outcome when both follow theirs, this side moving at the first of the prices left
  unfoldable pub played : Side → Strategy First → Strategy Second → A → A → List ℕ → ℕ
  played s f g x y [] = outcome x y
  played First f g x y (p ∷ ps) = played Second f g (after (f.choose x y (p ∷ ps)) p x) y ps
  played Second f g x y (p ∷ ps) = played First f g x (after (g.choose x y (p ∷ ps)) p y) ps

  -- the first, moving first, can force at least v by f, whatever the second replies; the second can hold it to at most v by g
  abbrev pub Forces : A → A → List ℕ → ℕ → Strategy First → Type 0
  Forces x y ps v f = (g : Strategy Second) → v ≤ played First f g x y ps

  abbrev pub Holds : A → A → List ℕ → ℕ → Strategy Second → Type 0
  Holds x y ps v g = (f : Strategy First) → played First f g x y ps ≤ v

  -- v is what the first can force against every reply and the second can hold it to against every reply; m begins a strategy that forces it, and
  -- is to keep if one that keeps forces it too
  pub record Forced (x y : A) (ps : List ℕ) (v : ℕ) (m : GameMove) : Type 0 where
    pub first : (f : Strategy First) × Forces x y ps v f × (f.choose x y ps ≡ m)
    pub second : (g : Strategy Second) × Holds x y ps v g
    pub keeping : (f : Strategy First) → Forces x y ps v f → f.choose x y ps ≡ Keep → m ≡ Keep

  -- ---- the same, computed

  -- the best outcome for the side that moves, the other replying as is best for it
  unfoldable pub value : Side → A → A → List ℕ → ℕ
  value s x y [] = outcome x y
  value First x y (p ∷ ps) = cond (may x) (max (value Second x y ps) (value Second (leave p x) y ps)) (value Second x y ps)
  value Second x y (p ∷ ps) = cond (may y) (min (value First x y ps) (value First x (leave p y) ps)) (value First x y ps)

  -- a best first move; keeping is preferred when equal
  unfoldable pub best : A → A → List ℕ → GameMove
  best x y [] = Keep
  best x y (p ∷ ps) = cond (may x && ltb (value Second x y ps) (value Second (leave p x) y ps)) Withdraw Keep
