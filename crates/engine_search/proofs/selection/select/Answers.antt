-- `select` answers as `selected_as`: past the first test the table is valid, past the second the choices are few enough to search.
use Prim.Native.Nat.{◌≤◌}
use Rattle.std.proofs.Common.{arith, rules}
use Rattle.engine_table.specs.table.Places.{ValidFrom, Long}
use Rattle.engine_search.specs.searching.Searches.{Searchable}
use Rattle.engine_search.proofs.selection.Selecting.{Counted, not_valid, too_many, few_choices, searchable, chosen}
use Rattle.engine_search.proofs.selection.select.Goals as goal
use Rattle.engine_search.proofs.selection.select.Goals.{Else-limit-counted, Else-not-is_valid, After-count_choices-counted, After-strides_of-strides}

long : (c : Else-not-is_valid) → Long c.args.t.levels c.args.t.ends
long c = search rules

valid : (c : Else-not-is_valid) → ValidFrom c.args.t.levels 0 c.args.t.ends
valid c = c.is_valid.ensures.0 c.if-not-is_valid.false

counted : (c : After-count_choices-counted) → Counted c.args.t c.args.limit c.count_choices-counted.result
counted c = record {
  table = record { long = long (goal.at.After-count_choices-counted c).Else-not-is_valid; valid = valid (goal.at.After-count_choices-counted c).Else-not-is_valid };
  capped = c.requires;
  counts = c.count_choices-counted.ensures;
}

-- where they are not refused, the choices counted are within the limit
within : (c : Else-limit-counted) → c.count_choices-counted.result ≤ c.args.limit
within c = omega (arith, c.if-limit-counted.false)

-- the strides number the choices as they are listed
strides : (c : After-strides_of-strides) → Searchable c.args.t.levels c.args.t.ends c.strides_of-strides.result
strides c =
    searchable
    (counted (goal.at.After-strides_of-strides c).After-count_choices-counted)
    (within (goal.at.After-strides_of-strides c).Else-limit-counted)
    _
    c.strides_of-strides.ensures

pub returns-then-not-is_valid : goal.returns-then-not-is_valid
returns-then-not-is_valid c = not_valid _ c.is_valid.ensures c.if-not-is_valid.true

pub count_choices-counted-requires : goal.count_choices-counted-requires
count_choices-counted-requires c =
    ((long (goal.at.count_choices-counted-requires c).Else-not-is_valid).1, (valid (goal.at.count_choices-counted-requires c).Else-not-is_valid).0, c.requires)

pub returns-then-limit-counted : goal.returns-then-limit-counted
returns-then-limit-counted c =
    too_many (counted (goal.at.returns-then-limit-counted c).After-count_choices-counted) c.if-limit-counted.true

pub strides_of-strides-requires : goal.strides_of-strides-requires
strides_of-strides-requires c = (
  _,
  few_choices
      (counted (goal.at.strides_of-strides-requires c).After-count_choices-counted)
      (within (goal.at.strides_of-strides-requires c).Else-limit-counted),
)

pub find-found-requires : goal.find-found-requires
find-found-requires c = strides (goal.at.find-found-requires c).After-strides_of-strides

pub choice_at-award-requires : goal.choice_at-award-requires
choice_at-award-requires c =
    (strides (goal.at.choice_at-award-requires c).After-strides_of-strides, c.find-found.ensures.placed)

pub returns : goal.returns
returns c =
    chosen
    (counted (goal.at.returns c).After-count_choices-counted)
    (within (goal.at.returns c).Else-limit-counted)
    _
    c.find-found.ensures
    c.choice_at-award.ensures
