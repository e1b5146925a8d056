-- Lines of the sample record's trace, computed; and those where a preview is refused or nothing was settled.
use Rattle.std.specs.Prelude.{◌-◌, ◌^◌, ◌≡◌, refl, true, negsuc, None, Ok, Err, [], ◌∷◌}
use Rattle.engine_refusals.specs.declared.Refusal.TheVariants.{NotInThisPhase}
use Rattle.trace_text.specs.decimal_text.Decimal.{bytes_of, decimal, decimal_in}
use Rattle.trace_text.specs.decimal_text.Items.{number_item, signed, item, signed_item}
use Rattle.trace_text.specs.award_text.AwardLines.{quantity_at, award_line, award_lines}
use Rattle.trace_text.specs.settling_text.SettledLines.{items, items_behind, items_paid, settlement_lines, settled_lines}
use Rattle.trace_text.specs.Words.{no_preview, closed_lines, closing_lines, preview_line, previewed_line}

pub shown :
    (preview_line (Ok (record { excess = negsuc 54; remainder = 0; closed = true })) ≡ bytes_of "preview 0 -55 0 1\n")
    × (preview_line (Err NotInThisPhase) ≡ bytes_of "preview 2 0 0 0\n")
    × (closed_lines (Ok (record { excess = negsuc 54; remainder = 0; closed = true })) ≡ bytes_of "excess -55\nremainder 0\n")
    × (signed_item (bytes_of "excess ") (2 ^ 64 - 55) ≡ bytes_of "excess -55\n")
    × (item (bytes_of "price ") 26000 ≡ bytes_of "price 26000\n")
    × (item (bytes_of "remainder ") 0 ≡ bytes_of "remainder 0\n")
    × (award_line (1 ∷ 1 ∷ 0 ∷ 0 ∷ 3 ∷ 52 ∷ []) 0 ≡ bytes_of "award 1 1 820\n")
unfolding preview_line previewed_line closed_lines closing_lines signed_item signed item number_item award_line quantity_at decimal decimal_in
shown = (refl, refl, refl, refl, refl, refl, refl)

-- they stand, with zeros
pub zeros_shown :
    (preview_line (Ok no_preview) ≡ bytes_of "preview 0 0 0 0\n")
    × (closed_lines (Err NotInThisPhase) ≡ bytes_of "excess 0\nremainder 0\n")
    × (settled_lines None []
    ≡ bytes_of "price 0\ndemand 0\ntotal 0\nchoices 0\ncovering 0\nkept 0\nremainder 0\nsecond 0\nshort 0\ninsufficient 0\npaid 0\n")
unfolding preview_line previewed_line closed_lines closing_lines signed_item signed item number_item decimal decimal_in settled_lines settlement_lines items items_behind items_paid award_lines
zeros_shown = (refl, refl, refl)
