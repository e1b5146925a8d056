-- Sealed offers taken in turn: quantities and minimums alone count.
use Rattle.std.specs.Prelude.{ℕ, ◌≡◌, List, replicate}
use Rattle.rules_sealed.specs.Sealed.{book_of, offer_at, most_offers, awarded, left_behind}
use Rattle.rules_sealed.specs.Served.{served}

-- r is the award where `left` is left, whatever the offer's price and age
abbrev pub Awards : ℕ → ℕ → ℕ → ℕ → Type 0
Awards left q m r = (p g : ℕ) → r ≡ awarded left (record { price = p; quantity = q; minimum = m; age = g })

-- of the offers at the places ks, in this order, whatever prices and ages they have: each award at its place, and what is left
pub record Shares (qs ms : List ℕ) (demand : ℕ) (ks awards : List ℕ) (left : ℕ) : Type 0 where
  pub awarded : (ps gs : List ℕ) → awards ≡ served (offer_at (book_of ps qs ms gs)) demand ks (replicate most_offers 0)
  pub rest : (ps gs : List ℕ) → left ≡ left_behind (offer_at (book_of ps qs ms gs)) demand ks
