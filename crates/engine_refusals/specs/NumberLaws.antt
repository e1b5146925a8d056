-- No refusal has the number 0.
use Rattle.std.specs.Prelude.{◌≡◌}
use Rattle.std.proofs.Common.{arith}
use Rattle.engine_refusals.specs.declared.Refusal.{Refusal}
use Rattle.engine_refusals.specs.declared.Refusal.TheVariants.{BeyondBounds, NotInThisPhase, BadNumber, BadRegistration, BadRoundPrice, BadSteps, BadLevel, SecondOffer, OpeningNotCovered, AboveTheLimit}
use Rattle.engine_refusals.specs.declared.Refusal.TheVariants.{BufferTooShort, MalformedLine, FrameBufferTooShort, NotWritable, NoExistingPlant, NoStandingOffer, NoSuchGame, SealedOutOfBounds, AboveTheCeiling, NoRight}
use Rattle.engine_refusals.specs.Numbers.{number_of}

pub number_not_0 : (e : Refusal) → number_of e ≡ 0 → ⊥
number_not_0 BeyondBounds h = omega arith
number_not_0 NotInThisPhase h = omega arith
number_not_0 BadNumber h = omega arith
number_not_0 BadRegistration h = omega arith
number_not_0 BadRoundPrice h = omega arith
number_not_0 BadSteps h = omega arith
number_not_0 BadLevel h = omega arith
number_not_0 SecondOffer h = omega arith
number_not_0 OpeningNotCovered h = omega arith
number_not_0 AboveTheLimit h = omega arith
number_not_0 BufferTooShort h = omega arith
number_not_0 MalformedLine h = omega arith
number_not_0 FrameBufferTooShort h = omega arith
number_not_0 NotWritable h = omega arith
number_not_0 NoExistingPlant h = omega arith
number_not_0 NoStandingOffer h = omega arith
number_not_0 NoSuchGame h = omega arith
number_not_0 SealedOutOfBounds h = omega arith
number_not_0 AboveTheCeiling h = omega arith
number_not_0 NoRight h = omega arith
