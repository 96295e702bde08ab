use Rattle.std.proofs.Common.{◌+◌, List, length, ap, sym, subst, ◌∙◌, arith}
use Rattle.std.specs.Option.{option_map}
use Rattle.dwz_def_reading.specs.Units.{RawUnit, entries_in}
use Rattle.dwz_imports.specs.Said.{SaysBeside, raw_beside}
use Rattle.dwz_unit.specs.Rows.{units_of}
use Rattle.dwz_expand_sources.specs.Building.{AreImports, AreImportsOf}
use Rattle.dwz_expand_sources.proofs.PlanSaid.{imports_there}
use Rattle.dwz_expand_sources.proofs.plan.sources_of.Goals as goal

pub plan_of-requires-clause-room : goal.plan_of-requires-clause-room
plan_of-requires-clause-room c =
    let own = c.requires.own in
    let common = c.requires.common in
    let same = ap (λ o. entries_in (raw_beside o)) c.units_beside.ensures in
    omega arith

pub plan_of-requires-clause-imports : goal.plan_of-requires-clause-imports
plan_of-requires-clause-imports c =
    let own = units_of c.args.file.now.units in
    let others = raw_beside (option_map (λ f. f.now.units) c.args.common) in
    let imports = c.in_ok-imports.imports.units in
    let importing = c.as_slice.result.now in
    let w = c.requires.says.0 in
    let says = c.requires.says.1 in
    let are : AreImports w imports importing = record {
      units = c.in_ok-imports.ensures.units w says;
      entries = c.as_slice.ensures ∙ c.in_ok-imports.ensures.importing w says;
    } in
    subst (λ (x : List RawUnit). AreImportsOf (length own) (length own + length x) (entries_in own) imports importing) (sym (ap raw_beside c.units_beside.ensures))
    (imports_there own others w says imports importing are)

pub returns : goal.returns
returns c = λ w says. (
    let own = units_of c.args.file.now.units in
    let are : AreImports w c.in_ok-imports.imports.units c.as_slice.result.now = record {
      units = c.in_ok-imports.ensures.units w says;
      entries = c.as_slice.ensures ∙ c.in_ok-imports.ensures.importing w says;
    } in
    c.plan_of.ensures w (subst (λ (x : List RawUnit). SaysBeside own x w) (sym (ap raw_beside c.units_beside.ensures)) says) are)
