-- A tally of choices: how many cover, how many of these are kept, and the best of them, by its total and its place.
use Rattle.std.specs.Prelude.{ℕ, max, ◌+◌, cond, ltb, eqb}
use Rattle.engine_search.specs.declared.tally.Tally.{Tally}

-- n covering choices more that are set aside
abbrev pub only_counted : ℕ → Tally → Tally
only_counted n f = record { covering = f.covering + n; kept = f.kept; total = f.total; index = f.index }

-- n covering choices more, the best of them of total t and at the place i. Above the best total found they are set aside; else the best of them
-- is kept, and at an equal total the later place is better
unfoldable pub more : ℕ → ℕ → ℕ → Tally → Tally
more n t i f =
    cond (ltb f.total t)
    (only_counted n f)
    (record { covering = f.covering + n; kept = f.kept + 1; total = t; index = cond (eqb t f.total) (max i f.index) i })
