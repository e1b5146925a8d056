-- The points of a sound ledger's curve fit their words.
use Rattle.std.proofs.Common.{arith}
use Rattle.rules_numbers.specs.ListLaws.{Each}
use Rattle.rules_auction.specs.Ledger.{Ledger}
use Rattle.laws_ledger.specs.Sound.{Sound}
use Rattle.rules_supply_curve.specs.Curve.{supply_curve}
use Rattle.rules_supply_curve.specs.Closings.{curve_small}
use Rattle.engine_curve.specs.kept_curve.Held.{Fits}

pub curve_fits : (l : Ledger) → Sound l → Each Fits (supply_curve l)
curve_fits l s x m = let b = curve_small l s x m in record { price_high = b.0; after_high = omega (arith, b.1) }
