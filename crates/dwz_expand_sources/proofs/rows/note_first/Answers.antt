use Rattle.std.proofs.Common.{◌≡◌, ◌-◌, List, length, refl, ap, ◌∙◌, arith}
use Rattle.dwz_expand_sources.specs.declared.sources.NewUnit.{NewUnit}
use Rattle.dwz_expand_sources.specs.Rows.{entry_lists}
use Rattle.dwz_expand_sources.proofs.RowLemmas.{blank_first, blank_name, first_next, of_length, still_name}
use Rattle.dwz_expand_sources.proofs.rows.note_first.Goals as goal

pub loop-unit-init : goal.loop-unit-init
loop-unit-init c =
    let many : length c.units-unit.result.now ≡ length c.args.sources.now.units = ap (λ (w : List NewUnit). length w) c.units-unit.ensures in
    record {
      inside = omega arith;
      len = refl;
      name = blank_name c.args.sources.now c.args.row.now c.requires.blank;
      least = blank_first c.args.sources.now c.args.row.now (length c.units-unit.result.now) many;
    }

pub note_unit-requires-clause-entries : goal.note_unit-requires-clause-entries
note_unit-requires-clause-entries c = of_length (length c.args.row.now) (length c.loop-unit.row) c.args.sources.now c.args.numbers.now.roots c.loop-unit.invariant.len c.requires.entries

pub loop-unit-preserved : goal.loop-unit-preserved
loop-unit-preserved c =
    let s = c.args.sources.now in
    let g = c.loop-unit.invariant in
    let n = c.loop-unit.unit - 1 in
    let low = g.inside in
    let len = g.len in
    let notes = c.note_unit.ensures in
    record {
      inside = omega arith;
      len = notes.len ∙ len;
      name = still_name (entry_lists s) n c.loop-unit.row c.note_unit.new.row notes g.name;
      least = first_next (entry_lists s) c.loop-unit.unit n c.loop-unit.row c.note_unit.new.row (omega arith) g.least notes;
    }

pub returns-clause-least : goal.returns-clause-least
returns-clause-least c = λ i m d lt le has. c.loop-unit.invariant.least i m d lt (omega arith) has
