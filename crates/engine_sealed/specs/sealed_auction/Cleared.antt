-- What the sealed auction's calls answer, in numbers and values.
use Rattle.std.specs.Prelude.{ℕ, ◌≡◌, List, length, replicate, Result, Ok, Err}
use Rattle.rules_numbers.specs.Lists.{padded}
use Rattle.rules_sealed.specs.Sealed.{Book, most_offers, Sealing, lent_refusal, lent_left, lent_awards}
use Rattle.engine_refusals.specs.Numbers.{number_of}
use Rattle.engine_refusals.specs.declared.Refusal.{Refusal}
use Rattle.engine_sealed.specs.declared.sealed_awards.Sealed as engine

-- 0 or a refusal's number, the award of each offer in list order with 0 behind them, what is left
pub record Sealed : Type 0 where
  pub number : ℕ
  pub awards : List ℕ
  pub left : ℕ

-- a place for each offer that a list may have, 0 behind the awards
abbrev pub sealed_as : Sealing → Sealed
sealed_as s = record { number = s.number; awards = padded most_offers s.awards; left = s.left }

-- accepted, the awards and what is left; a refusal's number, with 0 in every other place
abbrev pub sealed_in : Result engine.Sealed Refusal → Sealed
sealed_in (Ok x) = record { number = 0; awards = x.awards; left = x.left }
sealed_in (Err e) = record { number = number_of e; awards = replicate most_offers 0; left = 0 }

-- what is told of awards in a lent buffer: a refusal's number and 0, or 0 and what is left
pub record Lent : Type 0 where
  pub number : ℕ
  pub left : ℕ

abbrev pub lent_in : Result ℕ Refusal → Lent
lent_in (Ok n) = record { number = 0; left = n }
lent_in (Err e) = record { number = number_of e; left = 0 }

-- `old` and `new` are the lent buffer before and after
pub record Lends (ceiling demand : ℕ) (b : Book) (old new : List ℕ) (r : Lent) : Type 0 where
  pub number : r.number ≡ lent_refusal ceiling demand b (length old)
  pub left : r.left ≡ lent_left ceiling demand b (length old)
  pub buffer : new ≡ lent_awards ceiling demand b old
