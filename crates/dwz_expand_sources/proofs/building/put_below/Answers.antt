use Rattle.std.proofs.Common.{◌≡◌, ℕ, List, ap, ◌++◌, ◌∙◌, ◌<◌, ◌+◌, length, [], subst, sym, arith}
use Rattle.std.specs.Prelude.{slice_index_or}
use Rattle.std.proofs.lemmas.List.{append_assoc}
use Rattle.std.proofs.lemmas.Result.{on_ok_weaker}
use Rattle.dwz_def_reading.specs.Lists.{Each}
use Rattle.dwz_unit.specs.Rows.{units_of}
use Rattle.dwz_graph.proofs.UnitBuilding.{root_within, some_list, unit_list}
use Rattle.dwz_expand_sources.specs.declared.sources.SourceRange.{SourceRange}
use Rattle.dwz_expand_sources.specs.Building.{kept_ranges, known_view, part_ranges}
use Rattle.dwz_expand_sources.proofs.UnitSteps.{each_at, number_there, ranges_compile, ranges_plain, root_room}
use Rattle.dwz_expand_sources.proofs.building.put_below.Goals as goal

pub entry-end-requires : goal.entry-end-requires
entry-end-requires c = root_within (units_of c.args.units.now) c.args.number c.args.unit.now c.requires.shown

pub overflow_add-first : goal.overflow_add-first
overflow_add-first c =
    let r = root_room (units_of c.args.units.now) c.args.number c.args.unit.now c.entry-end.result c.requires.shown c.entry-end.ensures.entry in
    let some = r.some in
    omega arith

pub returns-then-unit-ne-DW_UT_COMPILE : goal.returns-then-unit-ne-DW_UT_COMPILE
returns-then-unit-ne-DW_UT_COMPILE c = λ u found. on_ok_weaker c.put_range.result
    (λ put. put ∙ ap (λ (w : List SourceRange). c.args.ranges.now.items ++ w)
    (ranges_plain (units_of c.args.units.now) c.args.number c.args.unit.now c.entry-end.result c.requires.shown c.entry-end.ensures.entry u found (known_view c.args.known.now)
    c.if-unit-ne-DW_UT_COMPILE.true))
    c.put_range.ensures

pub put_kept-requires-clause-rows : goal.put_kept-requires-clause-rows
put_kept-requires-clause-rows c = some_list (units_of c.args.units.now) c.args.number c.args.unit.now c.entry-end.result c.requires.shown c.entry-end.ensures.entry

pub get-requires : goal.get-requires
get-requires c =
    let there = number_there (units_of c.args.units.now) c.args.number c.args.unit.now c.entry-end.result c.requires.shown c.entry-end.ensures.entry in
    let lists = c.requires.imports.lists in
    omega arith

pub put_parts-requires-clause-parts : goal.put_parts-requires-clause-parts
put_parts-requires-clause-parts c =
    let there = number_there (units_of c.args.units.now) c.args.number c.args.unit.now c.entry-end.result c.requires.shown c.entry-end.ensures.entry in
    let lists = c.requires.imports.lists in
    subst (λ (parts : List ℕ). Each (λ v. v < length c.args.known.now.spans.now) parts) (sym c.get.ensures)
    (each_at (λ parts. Each (λ v. v < length c.args.known.now.spans.now) parts) c.args.known.now.imports.now c.args.number c.requires.imports.within (omega arith))

pub returns : goal.returns
returns c = λ u found. (
    let raw = units_of c.args.units.now in
    let k = known_view c.args.known.now in
    let x = c.args.unit.now in
    let old = c.args.ranges.now.items in
    let kept = kept_ranges k.importing (x.first + 1) (x.first + 1) u.below in
    let parts = part_ranges k.spans (slice_index_or k.imports c.args.number []) in
    let list = unit_list raw c.args.number x c.entry-end.result u c.requires.shown c.entry-end.ensures.entry found in
    let mid : c.put_kept.new.ranges.items ≡ old ++ kept = c.in_ok-put_kept.ensures u.below list in
    on_ok_weaker c.put_parts.result
    (λ put. put ∙ (λ j. mid j ++ part_ranges k.spans (c.get.ensures j)) ∙ append_assoc old kept parts ∙ ap (λ (w : List SourceRange). old ++ w)
    (ranges_compile raw c.args.number x c.entry-end.result c.requires.shown c.entry-end.ensures.entry u found k c.if-unit-ne-DW_UT_COMPILE.false)) c.put_parts.ensures)
