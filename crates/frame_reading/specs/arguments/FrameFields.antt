-- The fields of a frame as a call has them.
use Rattle.std.specs.Prelude.{ℕ, zero, suc, ◌+◌, ◌*◌, ◌≤◌, ◌≡◌, List, [], ◌∷◌, ◌++◌, length, get_or, take, drop}
use Rattle.std.proofs.Math.Option.{some}
use Rattle.rules_numbers.specs.Lists.{total}
use Rattle.rules_format.specs.Fields.{RawCall, fixed, each}
use Rattle.rules_format.specs.FieldLaws.{Formed}
use Rattle.rules_replies.specs.Orders.{firsts, seconds}
use Rattle.frame_reading.specs.frames.Decoded.{raw_call_in, call_in}
use Rattle.frame_reading.specs.declared.frames.Frame.{Frame}
use Rattle.frame_reading.specs.declared.arguments.Steps.{Steps}
use Rattle.frame_reading.specs.declared.arguments.Registration.{Registration}

unfoldable pub fields_in : Frame → List ℕ
fields_in f = (raw_call_in f).fields

-- n numbers of a list, from a place on and so far apart
unfoldable pub every : ℕ → ℕ → ℕ → List ℕ → List ℕ
every from apart zero ns = []
every from apart (suc n) ns = every from apart n ns ++ (get_or ns (from + apart * n) 0 ∷ [])

-- a frame that a line reads as, of this kind
pub record Framed (k : ℕ) (f : Frame) : Type 0 where
  pub kind : f.kind ≡ k
  pub formed : Formed (raw_call_in f)

-- the same, of a kind whose frames have a developer and counted steps of price and level
pub record Stepped (f : Frame) : Type 0 where
  pub of : ℕ
  pub framed : Framed of f
  pub widths : fixed of ≡ 2 ∷ 2 ∷ []
  pub pairs : each of ≡ 2

-- these, as a move has them
pub record StepsIn (f : Frame) (r : Steps) : Type 0 where
  pub developer : r.developer ≡ get_or (fields_in f) 0 0
  pub at_most_nine : r.count ≤ 9
  pub long_prices : length r.prices ≡ 16
  pub long_levels : length r.levels ≡ 16
  pub prices : take r.count r.prices ≡ firsts (drop 2 (fields_in f))
  pub levels : take r.count r.levels ≡ seconds (drop 2 (fields_in f))

-- a frame that a line reads as, of a kind whose frames have project, developer and kind, and from place `at` on study value, start day and
-- counted levels
pub record Registering (at : ℕ) (f : Frame) : Type 0 where
  pub of : ℕ
  pub framed : Framed of f
  pub front : take 3 (fixed of) ≡ 2 ∷ 2 ∷ 2 ∷ []
  pub behind : drop at (fixed of) ≡ 8 ∷ 8 ∷ 2 ∷ []
  pub place : at ≤ 5
  pub last : length (fixed of) ≡ at + 3
  pub digits : 24 ≤ total (fixed of)
  pub levels : each of ≡ 1

-- these, as a registration has them
pub record RegistrationIn (at : ℕ) (f : Frame) (r : Registration) : Type 0 where
  pub project : r.project ≡ get_or (fields_in f) 0 0
  pub developer : r.developer ≡ get_or (fields_in f) 1 0
  pub kind : r.kind ≡ get_or (fields_in f) 2 0
  pub study : r.study ≡ get_or (fields_in f) at 0
  pub day : r.day ≡ get_or (fields_in f) (at + 1) 0
  pub at_most_sixteen : r.count ≤ 16
  pub long : length r.levels ≡ 16
  pub levels : take r.count r.levels ≡ drop (at + 3) (fields_in f)

-- a frame that a line reads as, or that is none
abbrev pub Reads : Frame → Type 0
Reads f = (c : RawCall) → call_in f ≡ some c → Formed c
