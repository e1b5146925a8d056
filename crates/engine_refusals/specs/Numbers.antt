-- The refusals' numbers (document 01, The twelve numbers; document 02), and what an answer says in them.
use Rattle.std.specs.Prelude.{ℕ, Result, Ok, Err}
use Rattle.engine_refusals.specs.declared.Refusal.{Refusal}
use Rattle.engine_refusals.specs.declared.Refusal.TheVariants.{BeyondBounds, NotInThisPhase, BadNumber, BadRegistration, BadRoundPrice, BadSteps, BadLevel, SecondOffer, OpeningNotCovered, AboveTheLimit}
use Rattle.engine_refusals.specs.declared.Refusal.TheVariants.{BufferTooShort, MalformedLine, FrameBufferTooShort, NotWritable, NoExistingPlant, NoStandingOffer, NoSuchGame, SealedOutOfBounds, AboveTheCeiling, NoRight}

abbrev pub number_of : Refusal → ℕ
number_of BeyondBounds = 1
number_of NotInThisPhase = 2
number_of BadNumber = 3
number_of BadRegistration = 4
number_of BadRoundPrice = 5
number_of BadSteps = 6
number_of BadLevel = 7
number_of SecondOffer = 8
number_of OpeningNotCovered = 9
number_of AboveTheLimit = 10
number_of BufferTooShort = 11
number_of MalformedLine = 12
number_of FrameBufferTooShort = 13
number_of NotWritable = 14
number_of NoExistingPlant = 15
number_of NoStandingOffer = 16
number_of NoSuchGame = 17
number_of SealedOutOfBounds = 18
number_of AboveTheCeiling = 19
number_of NoRight = 20

-- 0 where the call is accepted
abbrev pub number_in : {T : Type 0} → Result T Refusal → ℕ
number_in (Ok x) = 0
number_in (Err e) = number_of e

-- what an accepted answer gives, or where it is refused what there was before
abbrev pub after : {T : Type 0} → T → Result T Refusal → T
after x (Ok y) = y
after x (Err e) = x
