use Rattle.std.proofs.Common.{◌≡◌, ℕ, ◌+◌, List, length, ap, ◌∙◌, get_or, arith}
use Rattle.dwz_expand_sources.specs.declared.sources.NewUnit.{NewUnit}
use Rattle.dwz_expand_sources.specs.Numbers.{ranges_count}
use Rattle.dwz_expand_sources.specs.Sources.{ranges_of}
use Rattle.dwz_expand_sources.specs.Rows.{noted, with_root}
use Rattle.dwz_expand_sources.proofs.RowLemmas.{few_entries, notes_unit, starts_long}
use Rattle.dwz_expand_sources.proofs.rows.note_unit.Goals as goal

none : NewUnit
none = record { unit = 0; root = 0; first = 0; end = 0 }

pub bounds-roots-unit : goal.bounds-roots-unit
bounds-roots-unit c =
    let long = starts_long (length c.args.row.now) c.args.sources.now c.args.numbers.now.roots c.requires.entries in
    let same : length c.roots.result.now ≡ length c.args.numbers.now.roots = ap (λ (w : List ℕ). length w) c.roots.ensures in
    omega (arith, c.requires.unit)

pub note_entries-requires-clause-few : goal.note_entries-requires-clause-few
unfolding none
note_entries-requires-clause-few c =
    let n = c.args.unit in
    let s = c.args.sources.now in
    let few = few_entries (length c.args.row.now) s c.args.numbers.now.roots n none c.requires.entries c.requires.unit in
    let same : get_or c.roots.result.now n 0 + 1 + ranges_count (ranges_of c.ranges-2.result.now (get_or c.units.result.now n none))
    ≡ get_or c.args.numbers.now.roots n 0 + 1 + ranges_count (ranges_of s.ranges (get_or s.units n none)) =
    (λ j. get_or (c.roots.ensures j) n 0 + 1 + ranges_count (ranges_of (c.ranges-2.ensures j) (get_or (c.units.ensures j) n none))) in
    omega arith

pub returns : goal.returns
unfolding none
returns c =
    let n = c.args.unit in
    notes_unit c.args.sources.now c.args.numbers.now.roots n none c.args.row.now c.note_entries.new.row c.requires.entries c.requires.unit
    (c.note_entries.ensures
    ∙ (λ j. noted n (get_or (c.roots.ensures j) n 0) (with_root (get_or (c.units.ensures j) n none).root (ranges_of (c.ranges-2.ensures j) (get_or (c.units.ensures j) n none))) c.args.row.now))
