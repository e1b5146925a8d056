-- The listed prices and Dem at each, entered one by one: the first i are in the game.
use Prim.Native.Nat.{ℕ, ◌+◌, ◌≤◌, ◌<◌, ◌^◌}
use mathlib.Core.Path.{◌≡◌, sym, ap, ◌∙◌}
use mathlib.Core.List.{List, [], ◌∷◌, ◌++◌, map, map-append}
use native.Mathlib.Omega.{arith}
use native.Mathlib.Numerals.{add-one}
use lib.ListN.{length, get_or, set, take, length-map}
use lib.Seq.{take-suc, take_all, length-take-le}
use Rattle.rules_numbers.specs.Lists.{padded}
use Rattle.rules_numbers.specs.Padded.{padded_more}
use Rattle.rules_choices.specs.EachChoice.{nth_in}
use Rattle.engine_checks.specs.clock.Reading.{demanded_at}
use Rattle.engine_checks.specs.declared.clock.Settings.{Settings}
use Rattle.engine_looks.specs.declared.rivals.Supplies.{Supplies}
use Rattle.engine_looks.specs.declared.rivals.Game.{Game}
use Rattle.engine_looks.specs.forcing.Playing.{Fitting, game_of}

pub price_fits : (ps : List ℕ) (i : ℕ) → Fitting ps → i < length ps → get_or ps i 0 < 2 ^ 32
price_fits ps i f h = f.each _ (nth_in 0 ps i h)

module _ (t : Settings) (standing : ℕ) (s : Supplies) (ps : List ℕ) where
  abbrev demand : ℕ → ℕ
  demand p = (demanded_at t p).value

  -- the game that counts all prices, with these alone entered
  abbrev entered : List ℕ → Game
  entered front = record {
    count = length ps;
    prices = padded 10 front;
    demands = padded 10 (map demand front);
    standing = standing;
    supplies = s;
  }

  -- the loop before place i
  pub record Listing (game : Game) (i : ℕ) : Type 0 where
    pub part : game ≡ entered (take i ps)

  pub listing_first : {game : Game} → game ≡ entered [] → Listing game 0
  listing_first e = record { part = e }

  module _ {game : Game} {i : ℕ} (f : Fitting ps) (l : Listing game i) where
    pub listing_all : length ps ≤ i → game ≡ game_of t standing s ps
    listing_all h = l.part ∙ ap entered (take_all i ps h)

    -- the game with the price p, and Dem there, at place i
    abbrev with_price : ℕ → ℕ → Game
    with_price p d = record {
      count = game.count;
      prices = set game.prices i p;
      demands = set game.demands i d;
      standing = game.standing;
      supplies = game.supplies;
    }

    pub listing_again : {d : ℕ} → i < length ps → d ≡ (demanded_at t (get_or ps i 0)).value → Listing (with_price (get_or ps i 0) d) (i + 1)
    listing_again {d} h e =
        let p = get_or ps i 0 in
        let front = take i ps in
        let room : i < 10 = let k = f.at_most_ten in omega arith in
        let long : length front ≡ i = length-take-le i ps (omega arith) in
        let next : take (i + 1) ps ≡ front ++ (p ∷ []) = rw add-one (take-suc ps i 0 h) in
        let stored : set game.prices i p ≡ padded 10 (take (i + 1) ps) =
        ap (λ (g : Game). set g.prices i p) l.part ∙ padded_more 10 front i p long room ∙ ap (padded 10) (sym next) in
        let demanded : set game.demands i d ≡ padded 10 (map demand (take (i + 1) ps)) =
        ap (λ (g : Game). set g.demands i d) l.part
        ∙ padded_more 10 (map demand front) i d (length-map front demand ∙ long) room
        ∙ ap (λ (n : ℕ). padded 10 (map demand front ++ (n ∷ []))) e
        ∙ ap (padded 10) (sym (map-append demand front (p ∷ [])) ∙ ap (map demand) (sym next)) in
        record {
          part = λ j. record { count = (l.part j).count; prices = stored j; demands = demanded j; standing = (l.part j).standing; supplies = (l.part j).supplies };
        }
