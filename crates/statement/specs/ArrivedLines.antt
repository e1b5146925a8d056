-- ARRIVAL ORDER IN A ROUND (document 02, 12), of the lines of a record, as bytes. Two records that hold the same lines but for some in their midst, each
-- asking a developer's own call and each developer's in their own order: their replies, line by line, are the same but that those in the midst stand
-- exchanged as the lines do. So the replies to the one record decide those to the other, in every byte.
use Rattle.std.specs.Prelude.{ℕ, ◌≡◌}
use Rattle.std.proofs.Common.{ap, ◌∙◌}
use mathlib.Core.List.{List, ◌++◌, map, flatten}
use Rattle.rules_format.specs.Lines.{lines}
use Rattle.rules_replies.specs.Replies.{replies}
use Rattle.laws_arrival.specs.arrival.Arrival.{ReorderedLines, AsReplied, RepliedAlike}
use Rattle.laws_arrival.specs.arrival.LineLaws.{replies_replied, lines_arrival}
use Rattle.laws_arrival.specs.arrival.WordsDecide.{replies_decided}

pub record LinesArrived (bytes bytes' : List ℕ) (bs ds es : List (List ℕ)) : Type 0 where
  pub alike : RepliedAlike bytes bytes' bs ds es
  pub decided :
      (before midst midst' behind : List (List ℕ × List ℕ)) → AsReplied bytes bs ds es before midst midst' behind →
      replies bytes' ≡ flatten (map (λ t. t.1) (before ++ (midst' ++ behind)))

abbrev pub LinesArrivalStated : Type 0
LinesArrivalStated =
    (bytes bytes' : List ℕ) (bs ds es rest : List (List ℕ)) → lines bytes ≡ bs ++ (ds ++ rest) → lines bytes' ≡ bs ++ (es ++ rest) →
    ReorderedLines ds es → LinesArrived bytes bytes' bs ds es

pub lines_arrival_stated : LinesArrivalStated
lines_arrival_stated bytes bytes' bs ds es rest p p' h =
    let k = lines_arrival bytes bytes' bs ds es rest p p' h in
    record {
      alike = k;
      decided = λ before midst midst' behind w.
          replies_replied bytes' ∙ ap (λ (ts : List (List ℕ × List ℕ)). flatten (map (λ t. t.1) ts)) (replies_decided h k before midst midst' behind w);
    }
