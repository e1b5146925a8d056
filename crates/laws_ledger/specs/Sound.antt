-- What holds of the ledger after any list of calls, refused ones included. Stated here; shown in reachable/.
use Rattle.std.specs.Prelude.{ℕ, ◌≤◌, ◌<◌, ◌≡◌, ◌⊎◌, Bool, true, false, List, [], ◌∷◌, map, length}
use Rattle.rules_auction.specs.Ledger.{Declaration, Step, Standing, none, made, Developer, Phase, Fresh, Ready, Round, Between, Closed, Ledger, nobody, start}
use Rattle.rules_auction.specs.Clearing.{highest, covered}
use Rattle.rules_auction.specs.Refusals.{is_fresh, in_round, floor, settings_ok, levels_ok, falling, lowering}
use Rattle.rules_auction.specs.Rounds.{last_level}

-- a round was opened
abbrev pub started : Phase → Bool
started Fresh = false
started Ready = false
started Round = true
started Between = true
started Closed = true

-- the price down to which withdrawals were applied: the last C, or A before the first closing
abbrev pub applied_to : Phase → Ledger → ℕ
applied_to Fresh l = l.settings.a
applied_to Ready l = l.settings.a
applied_to Round l = l.opening
applied_to Between l = l.closing
applied_to Closed l = l.closing

abbrev pub prices_of : List Step → List ℕ
prices_of ss = map (λ s. s.price) ss

abbrev pub levels_of : List Step → List ℕ
levels_of ss = map (λ s. s.level) ss

-- prices from a down to c that do not rise
unfoldable pub Descends : ℕ → ℕ → List Step → Type 0
Descends c a [] = Unit {0}
Descends c a (w ∷ ws) = (c ≤ w.price) × (w.price ≤ a) × Descends c w.price ws

pub record SoundDeclaration (x : Declaration) : Type 0 where
  pub project_low : 1 ≤ x.project
  pub project_high : x.project ≤ 32
  pub kind : (x.kind ≡ 1) ⊎ (x.kind ≡ 2)
  pub levels : levels_ok x.levels ≡ true

-- withdrawals fall through declared levels or 0, at prices from a down to c that do not rise; the quantity is what they leave
pub record SoundDeveloper (c a : ℕ) (x : Developer) : Type 0 where
  pub declared : SoundDeclaration x.declared
  pub falls : lowering x.declared.levels (highest x) (levels_of x.withdrawals) ≡ true
  pub prices : Descends c a x.withdrawals
  pub quantity : x.quantity ≡ last_level (highest x) x.withdrawals

-- an offer stands in an open round only, is of kind 2 and well-formed
pub record SoundSteps (l : Ledger) (x : Developer) (ss : List Step) : Type 0 where
  pub round : in_round l.phase ≡ true
  pub kind : x.declared.kind ≡ 2
  pub at_most_eight : length ss ≤ 8
  pub prices : falling l.closing l.opening (prices_of ss) ≡ true
  pub levels : lowering x.declared.levels x.quantity (levels_of ss) ≡ true

unfoldable pub SoundOffer : Ledger → Developer → Standing → Type 0
SoundOffer l x none = Unit {0}
SoundOffer l x (made ss) = SoundSteps l x ss

-- lodged steps not reached (document 02, 5): of existing plants alone, from below the price c down to which withdrawals were applied to the
-- floor f, and from the quantity down
pub record SoundLodged (f c : ℕ) (x : Developer) : Type 0 where
  pub kind : x.declared.kind ≡ 2 → x.lodged ≡ []
  pub prices : falling f c (prices_of x.lodged) ≡ true
  pub levels : lowering x.declared.levels x.quantity (levels_of x.lodged) ≡ true

-- x may stand in the ledger under the number n
pub record Stands (l : Ledger) (n : ℕ) (x : Developer) : Type 0 where
  pub number_low : 1 ≤ n
  pub number_high : n ≤ 32
  pub developer : SoundDeveloper (applied_to l.phase l) l.settings.a x
  pub offer : SoundOffer l x x.offer
  pub lodged : SoundLodged (floor l) (applied_to l.phase l) x

abbrev pub Registered : Ledger → ℕ → Type 0
Registered l n = Stands l n (l.developers n)

-- floor <= C < opening price <= A
pub record RoundPrices (l : Ledger) : Type 0 where
  pub low : floor l ≤ l.closing
  pub order : l.closing < l.opening
  pub high : l.opening ≤ l.settings.a

pub record Sound (l : Ledger) : Type 0 where
  pub fresh : is_fresh l.phase ≡ true → l ≡ start
  pub settings : is_fresh l.phase ≡ false → settings_ok l.settings ≡ true
  pub unopened : started l.phase ≡ false → (l.opening ≡ 0) × (l.closing ≡ 0)
  pub idle : started l.phase ≡ false → (n : ℕ) → (l.developers n).withdrawals ≡ []
  pub prices : started l.phase ≡ true → RoundPrices l
  pub start_covered_lem : started l.phase ≡ true → covered l l.settings.a ≡ true
  pub each : (n : ℕ) → (l.developers n ≡ nobody) ⊎ Registered l n
  -- an existing project has one developer
  pub alone : (m n : ℕ) → (l.developers m).declared.kind ≡ 1 → (l.developers m).declared.project ≡ (l.developers n).declared.project → m ≡ n
