use Rattle.std.proofs.Common.{◌≡◌, ◌+◌, ◌<◌, ◌∷◌, [], ℕ, List, Some, length, get_or, slice_get, sym, ap, ◌∙◌, arith}
use Rattle.std.proofs.lemmas.List.{length-append}
use Rattle.std.proofs.lemmas.Option.{slice_get-get_or}
use Rattle.dwz_def_reading.proofs.ListFacts.{got_there}
use Rattle.dwz_graph.specs.declared.index.SpaceEntry.{SpaceEntry}
use Rattle.dwz_graph.proofs.RowUnits.{unit_within}
use Rattle.dwz_graph.specs.Resolved.{around}
use Rattle.dwz_unit.proofs.RowsFound.{entry_row}
use Rattle.dwz_unit.specs.declared.rows.RawEntry.{RawEntry}
use Rattle.dwz_unit.specs.Rows.{units_of}
use Rattle.dwz_layout_input.specs.Names.{look}
use Rattle.dwz_layout_input.proofs.NamesRead.{name_read, unit_shown}
use Rattle.dwz_layout_input.proofs.TextNumbers.{numbered_next}
use Rattle.dwz_layout_input.proofs.names.put_texts.Goals as goal

abbrev no_entry : SpaceEntry
no_entry = record { entry = 0; outer = 0 }

pub entry-unit-requires : goal.entry-unit-requires
entry-unit-requires c = c.requires.entries c.loop-space.space-index no_entry c.loop-space-test.true

pub here_for-here-requires : goal.here_for-here-requires
here_for-here-requires c =
    let raw = units_of c.args.units.now in
    let r = entry_row raw (get_or c.args.spaces.now c.loop-space.space-index no_entry).entry c.entry-unit.result c.entry-unit.ensures.entry in
    let lt = unit_within raw (get_or c.args.spaces.now c.loop-space.space-index no_entry).entry r.0 r.1 in
    let same = ap (λ (w : RawEntry). w.unit) r.2 in
    omega arith

pub name_of-text-requires : goal.name_of-text-requires
name_of-text-requires c = c.requires.entries c.loop-space.space-index no_entry c.loop-space-test.true

pub loop-space-preserved : goal.loop-space-preserved
loop-space-preserved c =
    let raw = units_of c.args.units.now in
    let around_it = around c.args.sections.now raw in
    let spaces = c.args.spaces.now in
    let j = c.loop-space.space-index in
    let x : SpaceEntry = get_or spaces j no_entry in
    let old = c.args.texts.now.items in
    let texts = c.loop-space.texts.items in
    let within : j < length spaces = c.loop-space-test.true in
    let got : slice_get spaces j ≡ Some x = slice_get-get_or spaces j no_entry within in
    let r = entry_row raw x.entry c.entry-unit.result c.entry-unit.ensures.entry in
    let lt = unit_within raw x.entry r.0 r.1 in
    let unit = ap (λ (w : RawEntry). w.unit) r.2 in
    let u = got_there raw c.entry-unit.result.unit (omega arith) in
    let put = c.in_ok-push.ensures.items in
    let new : c.len-new.result ≡ length texts = omega arith in
    record {
      len = (let one = length-append texts (c.in_ok-number.number ∷ []) in let all = ap (λ (w : List ℕ). length w) put in let len = c.loop-space.invariant.len in omega arith);
      was = (u.0, c.here_for-here.ensures u.0 c.loop-space.invariant.was u.1);
      numbers = λ names reads h. (
          let named = reads j x got in
          let here = c.here_for-here.ensures named.u c.loop-space.invariant.was (ap (slice_get raw) (sym (unit_shown raw x.entry named.row c.entry-unit.result named.found c.entry-unit.ensures.entry))
          ∙ named.is_unit) in
          let text = name_read c.args.sections.now raw x.entry (names (length old + j)) c.here_for-here.result named here c.name_of-text.result.now c.name_of-text.ensures in
          numbered_next names texts c.push.new.self.items (look c.loop-space.seen) (look c.number_of.new.seen) c.name_of-text.result.now c.len-new.result (length old + j) c.in_ok-number.number
          (c.loop-space.invariant.numbers names reads h) new (sym c.loop-space.invariant.len) text c.in_ok-number.ensures put);
    }
