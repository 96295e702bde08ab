use Rattle.std.proofs.Common.{ℕ, ◌<◌, length, subst, ◌∙◌, sym, arith}
use Rattle.std.proofs.lemmas.Option.{get_or_from_slice_get}
use Rattle.dwz_def_reading.proofs.ListFacts.{got_below, got_there}
use Rattle.dwz_graph.specs.Files.{docs_of}
use Rattle.dwz_graph.proofs.FileCounts.{all_ends, are_many}
use Rattle.dwz_move_files.specs.Stretches.{AreStretches}
use Rattle.dwz_move_files.proofs.FilesLow.{tops_few}
use Rattle.dwz_move_files.proofs.OutlineFileSteps.{few_steps}
use Rattle.dwz_move_files.proofs.PartSteps.{always}
use Rattle.dwz_move_files.proofs.stretches.gather_stretches.Goals as goal

pub cut_files-requires : goal.cut_files-requires
cut_files-requires g c =
    let contents = c.args.graph.now.given in
    let many = are_many contents c.files-files.result.now c.indexes-indexes.result.now c.files-files.ensures c.indexes-indexes.ensures in
    let a = many.0 in
    let b = many.1 in
    let e = many.2 in
    omega arith

pub known_files-requires-clause-len : goal.known_files-requires-clause-len
known_files-requires-clause-len g c =
    let contents = c.args.graph.now.given in
    let many = are_many contents c.files-files.result.now c.indexes-indexes.result.now c.files-files.ensures c.indexes-indexes.ensures in
    many.0 ∙ sym many.1

pub known_files-requires-clause-few : goal.known_files-requires-clause-few
known_files-requires-clause-few g c = λ k x there. (
    let contents = c.args.graph.now.given in
    let files = c.files-files.result.now in
    let indexes = c.indexes-indexes.result.now in
    let many = are_many contents files indexes c.files-files.ensures c.indexes-indexes.ensures in
    let a = many.0 in
    let b = many.1 in
    let within = got_below indexes k x there in
    let low : k < length files = omega arith in
    let f = got_there files k low in
    few_steps contents files indexes k f.0 x c.files-files.ensures c.indexes-indexes.ensures low (sym (get_or_from_slice_get files k f.0 f.0 f.1)) (sym (get_or_from_slice_get indexes k x x there)))

pub stretch_parts-requires-clause-work : goal.stretch_parts-requires-clause-work
stretch_parts-requires-clause-work g c κs within =
    let contents = c.args.graph.now.given in
    let docs = docs_of contents in
    let indexes = c.indexes-indexes.result.now in
    record {
      kept = c.files-files.ensures;
      indexed = c.indexes-indexes.ensures;
      known = c.in_ok-known.ensures;
      stretches = subst (λ (n : ℕ). AreStretches docs indexes 0 n c.in_ok-stretches.stretches.items) (all_ends contents indexes c.indexes-indexes.ensures).1
          (c.in_ok-stretches.ensures docs c.indexes-indexes.ensures);
    }

pub returns-clause-few : goal.returns-clause-few
returns-clause-few g c =
    always c.join_parts.result (tops_few c.args.graph.now.given c.files-files.result.now c.indexes-indexes.result.now c.files-files.ensures c.indexes-indexes.ensures)
