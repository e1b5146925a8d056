-- The sample record of document 01 (Frames) as a list of calls. Its settling and the ten marked cases of demand (Demand), with their
-- remainders (document 02, 4), shown jointly and computed.
use Rattle.std.specs.Prelude.{◌≡◌, refl, pos, ◌-ℤ◌, false, List, [], ◌∷◌, ◌++◌, map, replicate}
use Rattle.rules_numbers.specs.Lists.{total}
use Rattle.rules_demand.specs.Marked.{MarkedCases, marked_cases}
use Rattle.rules_auction.specs.Ledger.{Offer, Own, Call, SetUp, Register, Open, By, Close, Closed}
use Rattle.rules_auction.specs.Rounds.{ledger, answers}
use Rattle.rules_auction.specs.Award.{admissible}
use Rattle.rules_auction.specs.Settling.{record_of, settling_refusal, settlement}
use Rattle.rules_auction.specs.Computing.{call_refusals, settled}

abbrev pub sample : List Call
sample =
    SetUp (record { ce = 20000; d = 1000; m1 = 900; m2 = 1200; a = 40000 })
    ∷ Register 1 Own (record { project = 1; kind = 1; study = 0; day = 0; levels = 820 ∷ [] })
    ∷ Register 2 Own (record { project = 2; kind = 2; study = 400; day = 10; levels = 100 ∷ 200 ∷ [] })
    ∷ Register 3 Own (record { project = 2; kind = 2; study = 500; day = 20; levels = 200 ∷ [] })
    ∷ Register 4 Own (record { project = 3; kind = 2; study = 0; day = 0; levels = 150 ∷ [] })
    ∷ Open 25000
    ∷ By 2 (Offer (26000 ∷ []) (100 ∷ []))
    ∷ By 3 (Offer (26000 ∷ []) (0 ∷ []))
    ∷ By 4 (Offer (26000 ∷ []) (0 ∷ []))
    ∷ Close
    ∷ []

-- settling with the record's limit 100 and the replay's 192 bytes is accepted
abbrev SampleAccepted : Type 0
SampleAccepted = settling_refusal (ledger sample) 100 192 ≡ 0

sample_accepted : SampleAccepted
unfolding settled
sample_accepted = refl

-- the open totals are 920, 1,020, 1,070 and 1,170
abbrev SampleOpen : Type 0
SampleOpen = map total (admissible (ledger sample) 26000) ≡ 920 ∷ 1070 ∷ 1020 ∷ 1170 ∷ []

sample_open : SampleOpen
unfolding settled
sample_open = refl

-- P is 26,000 and Dem(P) 970, with no remainder (document 02, 4); three of the open totals cover, and the search keeps 1,070, then 1,020
-- (document 02, 3); the award is 1,020: 820 to developer 1 of project 1 and 200 to developer 3 of project 2, whose agent is small, so that
-- participation is sufficient (document 02, 10)
abbrev SampleSettlement : Type 0
SampleSettlement =
    settlement (ledger sample) ≡ record {
      price = 26000;
      demand = 970;
      remainder = 0;
      total = 1020;
      choices = 4;
      covering = 3;
      kept = 2;
      second = 26000;
      short = false;
      insufficient = false;
      paid = 26000;
      records = (1 ∷ 1 ∷ 0 ∷ 0 ∷ 3 ∷ 52 ∷ []) ∷ (2 ∷ 3 ∷ 0 ∷ 0 ∷ 0 ∷ 200 ∷ []) ∷ [];
    }

sample_settlement : SampleSettlement
unfolding settled
sample_settlement = refl

-- an award record by itself: of project 3, developer 5 and 01020304 in hexadecimal digits
record_bytes : record_of 3 5 16909060 ≡ 3 ∷ 5 ∷ 1 ∷ 2 ∷ 3 ∷ 4 ∷ []
record_bytes = refl

-- the excess at the closing is -55
abbrev SampleExcesses : Type 0
SampleExcesses = map (λ r. r.excess) (answers sample) ≡ replicate 9 (pos 0) ++ ((pos 0 -ℤ pos 55) ∷ [])

sample_excesses : SampleExcesses
unfolding call_refusals
sample_excesses = refl

abbrev pub SampleSettled : Type 0
SampleSettled =
    ((ledger sample).phase ≡ Closed)
    × SampleAccepted
    × SampleOpen
    × SampleSettlement
    × (map (λ r. r.number) (answers sample) ≡ replicate 10 0)
    × SampleExcesses
    × (map (λ r. r.remainder) (answers sample) ≡ replicate 10 0)

pub shown_jointly : MarkedCases × SampleSettled
unfolding call_refusals
shown_jointly = (marked_cases, (refl, sample_accepted, sample_open, sample_settlement, refl, sample_excesses, refl))
