use Rattle.std.proofs.Common.{◌≡◌, ◌+◌, ◌<◌, ℕ, All, List, length, sym, ap, subst, ◌∙◌, arith}
use Rattle.dwz_def_tops.specs.Spots.{units_of}
use Rattle.dwz_def_reading.specs.Units.{entries_in}
use Rattle.dwz_graph.specs.Files.{docs_of}
use Rattle.dwz_graph.specs.Index.{Index}
use Rattle.dwz_graph.proofs.IndexesThere.{of_indexes}
use Rattle.dwz_graph.specs.declared.index.SpaceEntry.{SpaceEntry}
use Rattle.dwz_graph.specs.declared.index.Starts.{Starts}
use Rattle.dwz_layout_order.specs.Lists.{all_spaces}
use Rattle.dwz_layout_order.specs.Shown.{text_of}
use Rattle.dwz_layout_order.specs.Spaces.{said_of}
use Rattle.dwz_graph.specs.Resolved.{around}
use Rattle.dwz_unit.specs.Rows.{units_of as raw_units}
use Rattle.dwz_graph.specs.Across.{starts_at}
use Rattle.dwz_graph.proofs.FileCounts.{are_many}
use Rattle.dwz_move_files.proofs.FilesKnown.{below}
use Rattle.dwz_move_files.proofs.MarkSteps.{starts_zero}
use Rattle.dwz_layout_input.specs.Names.{HaveNumbers, Reads, look}
use Rattle.dwz_layout_input.proofs.AllPins.{got_file, got_index_of}
use Rattle.dwz_layout_input.proofs.NamesRead.{all_there, more_spaces, reads_there, room_for}
use Rattle.dwz_layout_input.proofs.SpaceCounts.{spaces_end, spaces_few}
use Rattle.dwz_layout_input.proofs.TextNumbers.{all_numbered, none_found, none_numbered}
use Rattle.dwz_layout_input.proofs.names.space_texts.Goals as goal

pub loop-number-init : goal.loop-number-init
loop-number-init c =
    let docs = docs_of c.args.graph.now.given in
    let names : ℕ → List ℕ = λ n. text_of (said_of (units_of docs) n) in
    let seen = c.new-seen.result in
    record {
      len = ap (λ (w : List ℕ). length w) c.new-texts.ensures.items ∙ sym (ap (λ (s : Starts). s.space) (starts_zero docs c.indexes-indexes.result.now));
      numbers = subst (λ (w : List ℕ). HaveNumbers names w (look seen)) (sym c.new-texts.ensures.items) (none_numbered names (look seen) (none_found seen c.new-seen.ensures.empty));
    }

pub bounds-indexes-number : goal.bounds-indexes-number
bounds-indexes-number c = below c.args.graph.now.given c.files-file-items.result.now c.indexes-indexes.result.now c.loop-number.number c.files-file-items.ensures c.indexes-indexes.ensures c.loop-number-test.true

pub put_texts-requires-clause-few : goal.put_texts-requires-clause-few
put_texts-requires-clause-few c =
    let contents = c.args.graph.now.given in
    let files = c.files-file-items.result.now in
    let indexes = c.indexes-indexes.result.now in
    let k = c.loop-number.number in
    let f = c.file-item.result in
    let x = c.index-indexes-number.result in
    let kept = c.files-file-items.ensures in
    let got_f = got_file contents files indexes k f x kept c.indexes-indexes.ensures c.loop-number-test.true c.file-item.is c.index-indexes-number.is in
    let got_x = got_index_of contents files indexes k f x kept c.indexes-indexes.ensures c.loop-number-test.true c.file-item.is c.index-indexes-number.is in
    let room = room_for contents files indexes kept c.indexes-indexes.ensures k f x got_f got_x in
    let len = c.loop-number.invariant.len in
    let own = ap (λ (w : List SpaceEntry). length w) c.spaces-spaces.ensures in
    omega arith

pub put_texts-requires-clause-entries : goal.put_texts-requires-clause-entries
put_texts-requires-clause-entries c =
    let contents = c.args.graph.now.given in
    let files = c.files-file-items.result.now in
    let indexes = c.indexes-indexes.result.now in
    let k = c.loop-number.number in
    let f = c.file-item.result in
    let x = c.index-indexes-number.result in
    let kept = c.files-file-items.ensures in
    let got_f = got_file contents files indexes k f x kept c.indexes-indexes.ensures c.loop-number-test.true c.file-item.is c.index-indexes-number.is in
    let got_x = got_index_of contents files indexes k f x kept c.indexes-indexes.ensures c.loop-number-test.true c.file-item.is c.index-indexes-number.is in
    subst (λ (w : List SpaceEntry). All (λ e. e.entry < entries_in (raw_units f.units)) w) (sym c.spaces-spaces.ensures) (all_there contents files indexes kept c.indexes-indexes.ensures k f x got_f got_x)

pub loop-number-preserved : goal.loop-number-preserved
loop-number-preserved c =
    let contents = c.args.graph.now.given in
    let files = c.files-file-items.result.now in
    let indexes = c.indexes-indexes.result.now in
    let k = c.loop-number.number in
    let f = c.file-item.result in
    let x = c.index-indexes-number.result in
    let kept = c.files-file-items.ensures in
    let got_f = got_file contents files indexes k f x kept c.indexes-indexes.ensures c.loop-number-test.true c.file-item.is c.index-indexes-number.is in
    let got_x = got_index_of contents files indexes k f x kept c.indexes-indexes.ensures c.loop-number-test.true c.file-item.is c.index-indexes-number.is in
    let raw = raw_units f.units in
    let names : ℕ → List ℕ = λ n. text_of (said_of (units_of (docs_of contents)) n) in
    let own = c.spaces-spaces.ensures in
    let reads = reads_there contents files indexes kept c.indexes-indexes.ensures k f x got_f got_x in
    let here : Reads raw (around f.sections raw) names (length c.loop-number.texts.items) c.spaces-spaces.result.now =
    subst (λ (n : ℕ). Reads raw (around f.sections raw) names n c.spaces-spaces.result.now) (sym c.loop-number.invariant.len)
    (subst (λ (w : List SpaceEntry). Reads raw (around f.sections raw) names (starts_at (docs_of contents) indexes k).space w) (sym own) reads) in
    record {
      len = c.in_ok-put_texts.ensures.len ∙ (λ i. c.loop-number.invariant.len i + length (own i)) ∙ sym (more_spaces contents files indexes kept c.indexes-indexes.ensures k f x got_f got_x);
      numbers = c.in_ok-put_texts.ensures.numbers names here c.loop-number.invariant.numbers;
    }

pub returns-clause-len : goal.returns-clause-len
returns-clause-len c =
    let docs = docs_of c.args.graph.now.given in
    let indexes = c.indexes-indexes.result.now in
    let k = c.loop-number.number in
    let many = are_many c.args.graph.now.given c.files-file-items.result.now indexes c.files-file-items.ensures c.indexes-indexes.ensures in
    let a = many.0 in
    let b = many.1 in
    let at : k ≡ length indexes = omega arith in
    of_indexes docs (λ (xs : List Index). length c.loop-number.texts.items ≡ length (all_spaces xs)) indexes c.indexes-indexes.ensures
    (c.loop-number.invariant.len ∙ ap (λ (n : ℕ). (starts_at docs indexes n).space) at ∙ spaces_end docs indexes c.indexes-indexes.ensures)

pub returns-clause-few : goal.returns-clause-few
returns-clause-few c = λ indexes are. spaces_few c.args.graph.now.given c.files-file-items.result.now indexes c.files-file-items.ensures are

pub returns-clause-numbers : goal.returns-clause-numbers
returns-clause-numbers c = λ indexes are.
    all_numbered (said_of (units_of (docs_of c.args.graph.now.given))) (all_spaces indexes) c.loop-number.texts.items (look c.loop-number.seen) (returns-clause-len c indexes are)
    c.loop-number.invariant.numbers
