use Rattle.std.proofs.Common.{◌≡◌, ℕ, List, map, refl, ap, subst, sym, ◌∙◌, arith}
use Rattle.std.proofs.lemmas.List.{length-map}
use Rattle.std.proofs.lemmas.Result.{err_from_is_err_and}
use Rattle.dwz_bytes.specs.Input.{input}
use Rattle.dwz_def_reading.specs.Faults.{Fails}
use Rattle.dwz_def_reading.specs.Units.{unit_at}
use Rattle.dwz_model.specs.declared.place.Pair.{Pair}
use Rattle.dwz_unit.specs.Kept.{KeepsUnit, known_in}
use Rattle.dwz_unit.specs.Known.{KnownRow, row_view}
use Rattle.dwz_unit.specs.Rows.{rows_of}
use Rattle.dwz_unit.proofs.ReadLemmas.{all_kept, answered, fewer_units, known_grown, nearer, none_yet, one_more, unit_fails}
use Rattle.dwz_unit.specs.Modes.{mode_view}
use Rattle.dwz_unit.proofs.units.Units.read_all.Goals as goal

pub loop-at-init : goal.loop-at-init
loop-at-init c = rw (c.in_ok-tables.ensures, c.new-units.ensures.items, c.new-entries.ensures.items) (none_yet c.args.info.now c.args.abbrevs.now (mode_view c.args.mode))

pub unit_of-requires-clause-number : goal.unit_of-requires-clause-number
unit_of-requires-clause-number c =
    let fewer = fewer_units c.args.info.now c.args.abbrevs.now (mode_view c.args.mode) c.loop-at.at c.loop-at.tables c.loop-at.units.items (known_in c.loop-at.tables c.loop-at.entries.items) c.loop-at.invariant in
    omega (arith, fewer, c.len.ensures, c.loop-at.units.ok.0, length-map c.loop-at.entries.items (row_view c.loop-at.tables.decls))

pub returns-in_err-unit-clause-answers : goal.returns-in_err-unit-clause-answers
returns-in_err-unit-clause-answers c =
    let p = err_from_is_err_and c.from_residual-in_err-unit.result c.from_residual-in_err-unit.ensures.1 in
    rw (p.1, p.2) (unit_fails c.in_err-unit.field-0.0 c.args.info.now c.args.abbrevs.now (mode_view c.args.mode) c.loop-at.at c.loop-at.tables c.loop-at.units.items (known_in c.loop-at.tables c.loop-at.entries.items) c.loop-at.invariant
    c.loop-at-test.true
    (subst (λ (n : ℕ). Fails c.in_err-unit.field-0.0 (unit_at c.loop-at.tables.section (mode_view c.args.mode) n (input c.args.info.now c.loop-at.at)))
    (sym (length-map c.loop-at.entries.items (row_view c.loop-at.tables.decls))) c.in_err-unit.ensures.unit))

pub loop-at-smaller : goal.loop-at-smaller
loop-at-smaller c = nearer c.args.info.now c.loop-at.at (mode_view c.args.mode) c.len.result c.unit_of.new.tables c.in_ok-unit.unit (known_in c.unit_of.new.tables c.loop-at.entries.items) (known_in c.unit_of.new.tables c.unit_of.new.entries.items) c.loop-at-test.true
    c.in_ok-unit.ensures.unit.0

pub loop-at-preserved : goal.loop-at-preserved
loop-at-preserved c =
    let old = c.loop-at.tables in
    let new = c.unit_of.new.tables in
    let rows = c.loop-at.entries.items in
    let r = c.loop-at.invariant in
    let grows = c.in_ok-unit.ensures.unit.1 in
    let same : known_in new rows ≡ known_in old rows = ap (λ (w : List (List Pair)). map (row_view w) rows) grows.decls ∙ known_grown old.decls grows.more rows (rows_of r.units) r.entries in
    let is = subst (λ (w : List KnownRow). KeepsUnit c.args.info.now c.loop-at.at (mode_view c.args.mode) c.len.result new w (known_in new c.unit_of.new.entries.items) c.in_ok-unit.unit) same
    c.in_ok-unit.ensures.unit.0 in
    one_more c.args.info.now c.args.abbrevs.now (mode_view c.args.mode) c.loop-at.at c.len.result old new c.loop-at.units.items c.push.new.self.items c.in_ok-unit.unit (known_in old rows)
    (known_in new c.unit_of.new.entries.items)
    r (c.len.ensures ∙ c.loop-at.units.ok.0) is grows (omega (arith, c.in_ok-unit.ensures.room, length-map c.unit_of.new.entries.items (row_view new.decls))) c.in_ok-push.ensures.items

pub kept-requires : goal.kept-requires
kept-requires c =
    all_kept c.args.info.now c.args.abbrevs.now c.args.mode c.loop-at.at c.loop-at.tables c.loop-at.units.items c.loop-at.entries.items _ c.loop-at.invariant c.loop-at-test.false
    refl c.requires.info c.requires.abbrevs

pub returns-clause-answers : goal.returns-clause-answers
returns-clause-answers c =
    rw c.in_ok-all.ensures (answered c.args.info.now c.args.abbrevs.now c.args.mode c.loop-at.at c.loop-at.tables c.loop-at.units.items (known_in c.loop-at.tables c.loop-at.entries.items) c.loop-at.invariant c.loop-at-test.false)
