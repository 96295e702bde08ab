use Rattle.std.proofs.Common.{◌≡◌, slice_get, refl, sym, ap, subst, ◌∙◌}
use Rattle.dwz_def_tops.specs.Spots.{units_of}
use Rattle.dwz_graph.specs.Files.{docs_of}
use Rattle.dwz_layout.proofs.KnownLemmas.{file_found}
use Rattle.dwz_layout_input.proofs.PlaceLemmas.{Located, get_none, in_index, located, placed}
use Rattle.dwz_layout_input.proofs.places.place_of.Goals as goal

pub returns-in_err-index : goal.returns-in_err-index
returns-in_err-index c = λ contents files t knows got. (
    let indexes = c.args.indexes.now in
    let l = located contents files indexes c.args.tops.now c.args.top t knows got in
    let says = c.in_ok-file.ensures (units_of (docs_of contents)) t knows.first got in
    let same : c.in_ok-file.file ≡ t.file = cc in
    absurd (get_none indexes indexes c.in_ok-file.file l.x refl c.in_err-index.ensures.lookup.0 (ap (slice_get indexes) same ∙ l.index_got)))

pub returns-in_err-entry : goal.returns-in_err-entry
returns-in_err-entry c = λ contents files t knows got. (
    let indexes = c.args.indexes.now in
    let l = located contents files indexes c.args.tops.now c.args.top t knows got in
    let says = c.in_ok-file.ensures (units_of (docs_of contents)) t knows.first got in
    let same : c.in_ok-file.file ≡ t.file = cc in
    let x = c.in_ok-index.index.now in
    let found = file_found indexes indexes c.in_ok-file.file x refl c.in_ok-index.ensures.lookup.0 c.in_ok-index.ensures.lookup.1 in
    let here = in_index contents files indexes c.args.top t c.in_ok-file.file (subst (Located contents files indexes c.args.top t) (sym same) l) x found in
    let none = c.in_err-entry.ensures here.0 here.1 here.2 here.3 in
    absurd cc)

pub returns : goal.returns
returns c = λ contents files t knows got. (
    let indexes = c.args.indexes.now in
    let l = located contents files indexes c.args.tops.now c.args.top t knows got in
    let says = c.in_ok-file.ensures (units_of (docs_of contents)) t knows.first got in
    let same : c.in_ok-file.file ≡ t.file = cc in
    let x = c.in_ok-index.index.now in
    let found = file_found indexes indexes c.in_ok-file.file x refl c.in_ok-index.ensures.lookup.0 c.in_ok-index.ensures.lookup.1 in
    placed contents files indexes c.args.top t c.in_ok-file.file c.in_ok-entry.entry (subst (Located contents files indexes c.args.top t) (sym same) l) x found
    (λ k e there at. (let some = c.in_ok-entry.ensures k e there at in cc)))
