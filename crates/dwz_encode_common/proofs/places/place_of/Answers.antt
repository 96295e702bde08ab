use Rattle.std.proofs.Common.{ℕ, List, Option, length, ap, sym, ◌∙◌, arith}
use Rattle.std.specs.Global.{Vec}
use Rattle.std.proofs.lemmas.Bool.{ltb-false}
use Rattle.std.proofs.lemmas.List.{length-map}
use Rattle.std.proofs.lemmas.Option.{slice_get_past}
use Rattle.dwz_def_reading.proofs.ListFacts.{got_below, item_got}
use Rattle.dwz_unit.specs.Rows.{units_of}
use Rattle.dwz_unit.proofs.RowsFound.{row_there}
use Rattle.dwz_layout.proofs.KnownLemmas.{entry_none, file_found}
use Rattle.dwz_encode_common.specs.Stored.{file_bases}
use Rattle.dwz_encode_common.proofs.PlaceSteps.{bases_found, file_at, no_file, no_row, row_found, rows_none, units_found}
use Rattle.dwz_encode_common.proofs.places.place_of.Goals as goal

pub returns-in_default : goal.returns-in_default
returns-in_default c = λ give. (
    let files = c.files.result.now in
    let past = slice_get_past files c.args.row.file (ltb-false c.args.row.file (length files) (sym c.in_default.ensures.lookup.0)) in
    no_file c.args.graph.now.given files c.args.known.now c.args.row c.files.ensures past give)

pub returns-in_default-get : goal.returns-in_default-get
returns-in_default-get c = λ give. (
    let files = c.deref.result.now in
    let past = slice_get_past files c.args.row.file (ltb-false c.args.row.file (length files) (sym c.in_default-get.ensures.lookup.0)) in
    no_row c.args.graph.now.given c.args.known.now c.args.row (rows_none c.args.known.now c.args.row files c.deref.ensures.value past) give)

pub returns-then-row-entries : goal.returns-then-row-entries
returns-then-row-entries c = λ give. (
    let f = c.in-Some-get.rows.now in
    let found = file_found c.deref.result.now c.args.known.now.files.items c.args.row.file f c.deref.ensures.value
    c.in-Some-get.ensures.lookup.0
    c.in-Some-get.ensures.lookup.1 in
    no_row c.args.graph.now.given c.args.known.now c.args.row
    (entry_none c.args.known.now c.args.row f found (omega (arith, c.entries.ensures, c.if-row-entries.true))) give)

pub bounds-bases-row : goal.bounds-bases-row
bounds-bases-row c =
    let f = c.in-Some-get.rows.now in
    let items = c.args.known.now.files.items in
    let found = file_found c.deref.result.now items c.args.row.file f c.deref.ensures.value c.in-Some-get.ensures.lookup.0
    c.in-Some-get.ensures.lookup.1 in
    let low = got_below items c.args.row.file f found in
    let one = length-map c.args.bases.now (λ (v : Vec (Option ℕ)). v.items) in
    let two = length-map items file_bases in
    let same = ap (λ (w : List (List (Option ℕ))). length w) c.requires in
    omega arith

pub returns : goal.returns
returns c =
    let k = c.args.known.now in
    let f = c.in-Some-get.rows.now in
    let found = file_found c.deref.result.now k.files.items c.args.row.file f c.deref.ensures.value c.in-Some-get.ensures.lookup.0
    c.in-Some-get.ensures.lookup.1 in
    let low = got_below k.files.items c.args.row.file f found in
    let one = length-map c.args.bases.now (λ (v : Vec (Option ℕ)). v.items) in
    let two = length-map k.files.items file_bases in
    let same = ap (λ (w : List (List (Option ℕ))). length w) c.requires in
    let bases = item_got c.args.bases.now c.args.row.file c.index-bases-row.result (omega arith) c.index-bases-row.is in
    let file = file_at c.args.graph.now.given c.files.result.now c.files.ensures c.args.row.file c.in-Some.file.now
    (file_found c.files.result.now c.files.result.now c.args.row.file c.in-Some.file.now
    (λ i. c.files.result.now) c.in-Some.ensures.lookup.0
    c.in-Some.ensures.lookup.1) in
    let raw = units_of f.units.now in
    let r = row_there raw c.args.row.entry (omega (arith, c.entries.ensures, c.if-row-entries.false)) in
    record {
      bytes = file.bytes;
      bytes_are = file.there;
      sources = file.sources;
      units = units_found k c.args.row f found;
      within = omega (arith, c.entries.ensures, c.if-row-entries.false);
      row = r.0;
      found = r.1;
      there = row_found k c.args.row f found ∙ r.1;
      bases = c.as_slice.ensures.value ∙ bases_found k c.args.row f found c.args.bases.now c.requires c.index-bases-row.result bases;
    }
