use Rattle.std.proofs.Common.{ℕ, List, length, map, sym, ap, subst, ◌∙◌}
use Rattle.std.specs.Option.{option_map}
use Rattle.dwz_def_reading.specs.Units.{entries_in}
use Rattle.dwz_imports.specs.Said.{raw_beside}
use Rattle.dwz_unit.specs.Rows.{units_of}
use Rattle.dwz_expand_sources.specs.declared.spans.UnitSpan.{UnitSpan}
use Rattle.dwz_expand_sources.specs.Building.{AreImportsOf, AreSpans, Known, stored_shape, with_units}
use Rattle.dwz_expand_sources.proofs.PlanSaid.{plan_of}
use Rattle.dwz_expand_sources.proofs.SpanSteps.{spans_many, spans_rooted}
use Rattle.dwz_expand_sources.proofs.building.plan_of.Goals as goal

pub put_units-requires-clause-imports : goal.put_units-requires-clause-imports
put_units-requires-clause-imports c =
    let own = units_of c.args.own.now in
    let others = raw_beside (option_map (λ u. u.now) c.args.common) in
    let many = ap (λ (w : List UnitSpan). length w) c.as_slice.ensures.value ∙ spans_many own others c.in_ok-spans.spans.items c.in_ok-spans.ensures in
    subst (λ (n : ℕ). AreImportsOf (length own) n (entries_in own) c.args.imports.now c.args.importing.now) (sym many) c.requires.imports

pub put_units-requires-clause-spans : goal.put_units-requires-clause-spans
put_units-requires-clause-spans c =
    let own = units_of c.args.own.now in
    let others = raw_beside (option_map (λ u. u.now) c.args.common) in
    subst AreSpans (sym c.as_slice.ensures.value) (spans_rooted own others c.in_ok-spans.spans.items c.in_ok-spans.ensures)

pub returns : goal.returns
returns c = λ w says imports. (
    let own = units_of c.args.own.now in
    let others = raw_beside (option_map (λ u. u.now) c.args.common) in
    let k : Known = record { importing = c.args.importing.now; imports = c.args.imports.now; spans = c.as_slice.result.now } in
    plan_of own others w says k c.put_units.new.sources (c.as_slice.ensures.value ∙ c.in_ok-spans.ensures) imports
    (c.in_ok-put_units.ensures ∙ (λ j. with_units k 0 0 (map stored_shape own) (record { units = c.new.ensures.items j; ranges = c.new-2.ensures.items j }))))
