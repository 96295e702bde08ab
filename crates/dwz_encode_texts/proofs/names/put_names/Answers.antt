use Rattle.std.proofs.Common.{◌≡◌, ◌∙◌, Option, get_or, slice_get, ap, sym, append-nil, arith}
use Rattle.std.proofs.lemmas.Option.{slice_get-get_or}
use Rattle.dwz_def_reading.specs.Meanings.{first_raw}
use Rattle.dwz_unit.specs.Rows.{EntryRow, rows_of, units_of}
use Rattle.dwz_graph.specs.Resolved.{around}
use Rattle.dwz_unit.proofs.RowsFound.{row_there}
use Rattle.dwz_graph.specs.declared.index.SpaceEntry.{SpaceEntry}
use Rattle.dwz_graph.proofs.RowUnits.{unit_within}
use Rattle.dwz_encode_texts.specs.Names.{name_by_row, named_text}
use Rattle.dwz_encode_texts.specs.Texts.{slots_base_at}
use Rattle.dwz_encode_texts.proofs.RowUnits.{base_there, bases_many, shown_unit}
use Rattle.dwz_encode_texts.proofs.TextSteps.{map_all, map_push}
use Rattle.dwz_encode_texts.proofs.names.put_names.Goals as goal

abbrev no_space : SpaceEntry
no_space = record { entry = 0; outer = 0 }

pub loop-space-init : goal.loop-space-init
loop-space-init c = sym (append-nil c.args.texts.now.items)

pub entry-requires : goal.entry-requires
entry-requires c = c.requires c.loop-space.space-index no_space c.loop-space-test.true

pub index-base-requires : goal.index-base-requires
index-base-requires c =
    let raw = units_of c.args.file.now.units in
    let s = around c.args.file.now.sections raw in
    let space = get_or c.args.spaces.now c.loop-space.space-index no_space in
    let r = row_there raw space.entry (c.requires c.loop-space.space-index no_space c.loop-space-test.true) in
    let same = shown_unit raw space.entry c.entry.result r.0 c.entry.ensures.entry r.1 in
    let within = unit_within raw space.entry r.0 r.1 in
    let many = bases_many s raw c.in_ok-bases.bases.items (c.in_ok-bases.ensures s) in
    omega (arith, c.in_ok-bases.bases.ok.0)

pub name_of-requires : goal.name_of-requires
name_of-requires c = c.requires c.loop-space.space-index no_space c.loop-space-test.true

pub loop-space-preserved : goal.loop-space-preserved
loop-space-preserved c =
    let raw = units_of c.args.file.now.units in
    let s = around c.args.file.now.sections raw in
    let j = c.loop-space.space-index in
    let space = get_or c.args.spaces.now j no_space in
    let r = row_there raw space.entry (c.requires j no_space c.loop-space-test.true) in
    let same = shown_unit raw space.entry c.entry.result r.0 c.entry.ensures.entry r.1 in
    let within = unit_within raw space.entry r.0 r.1 in
    let base : c.index-base.result.now ≡ slots_base_at s raw r.0.unit =
    c.index-base.ensures
    ∙ base_there s raw c.in_ok-bases.bases.items (c.in_ok-bases.ensures s) c.entry.result.unit c.index-base.result.now (omega arith)
    ∙ ap (slots_base_at s raw) (sym same) in
    let name : c.name_of.result ≡ name_by_row s raw (slice_get (rows_of raw) space.entry) =
    c.name_of.ensures r.0 r.1
    ∙ (λ i. named_text s.sources.offsets (base i) (first_raw 0x03 r.0.entry.attrs))
    ∙ ap (λ (o : Option EntryRow). name_by_row s raw o) (sym r.1) in
    map_push (λ (w : SpaceEntry). name_by_row s raw (slice_get (rows_of raw) w.entry)) c.args.spaces.now j space c.args.texts.now.items c.loop-space.texts.items c.push.new.self.items c.name_of.result
    (slice_get-get_or c.args.spaces.now j no_space c.loop-space-test.true) c.loop-space.invariant name c.in_ok-push.ensures.items

pub returns : goal.returns
returns c =
    let raw = units_of c.args.file.now.units in
    let s = around c.args.file.now.sections raw in
    map_all (λ (w : SpaceEntry). name_by_row s raw (slice_get (rows_of raw) w.entry)) c.args.spaces.now c.loop-space.space-index c.args.texts.now.items c.loop-space.texts.items
    (omega (arith, c.loop-space-test.false)) c.loop-space.invariant
