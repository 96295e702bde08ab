use Rattle.std.proofs.Common.{◌≤◌, length, arith}
use Rattle.dwz_graph.specs.Across.{starts_at}
use Rattle.dwz_def_tops.specs.Alike.{is_in, names_in_unit}
use Rattle.dwz_graph.specs.Files.{docs_of}
use Rattle.dwz_def_plan.specs.Plan.{is_pinned, pinned_in}
use Rattle.dwz_move_files.proofs.FilesKnown.{below, few, files_all, files_begin, marked}
use Rattle.dwz_move_files.proofs.marks.named_tops.Goals as goal

pub loop-number-init : goal.loop-number-init
loop-number-init c = (
    let docs = docs_of c.args.graph.now.given in
    let indexes = c.indexes-indexes.result.now in
    record {
      any = files_begin docs indexes names_in_unit c.in_ok-unset_flags.field-0.items (c.in_ok-unset_flags.ensures docs c.indexes-indexes.ensures);
      uleb = files_begin docs indexes (λ n. pinned_in (is_in n)) c.in_ok-unset_flags-2.field-0.items (c.in_ok-unset_flags-2.ensures docs c.indexes-indexes.ensures);
    })

pub bounds-indexes-number : goal.bounds-indexes-number
bounds-indexes-number c = below c.args.graph.now.given c.files-file-items.result.now c.indexes-indexes.result.now c.loop-number.number c.files-file-items.ensures c.indexes-indexes.ensures c.loop-number-test.true

pub mark_file-requires : goal.mark_file-requires
mark_file-requires c = few c.args.graph.now.given c.files-file-items.result.now c.indexes-indexes.result.now c.loop-number.number c.file-item.result c.index-indexes-number.result c.files-file-items.ensures c.indexes-indexes.ensures
    c.loop-number-test.true c.file-item.is c.index-indexes-number.is

pub loop-number-preserved : goal.loop-number-preserved
loop-number-preserved c = (
    let contents = c.args.graph.now.given in
    let files = c.files-file-items.result.now in
    let indexes = c.indexes-indexes.result.now in
    let count = (starts_at (docs_of contents) indexes (length indexes)).top in
    record {
      any = marked contents files indexes c.loop-number.number c.file-item.result c.index-indexes-number.result c.files-file-items.ensures c.indexes-indexes.ensures c.loop-number-test.true c.file-item.is
          c.index-indexes-number.is
          names_in_unit count c.loop-number.named.by_any.items c.mark_file.new.named.by_any.items c.loop-number.invariant.any c.in_ok-mark_file.ensures.any;
      uleb = marked contents files indexes c.loop-number.number c.file-item.result c.index-indexes-number.result c.files-file-items.ensures c.indexes-indexes.ensures c.loop-number-test.true c.file-item.is
          c.index-indexes-number.is
          (λ n. pinned_in (is_in n)) count c.loop-number.named.by_uleb.items c.mark_file.new.named.by_uleb.items c.loop-number.invariant.uleb c.in_ok-mark_file.ensures.uleb;
    })

pub returns : goal.returns
unfolding is_pinned
returns c = (
    let contents = c.args.graph.now.given in
    let files = c.files-file-items.result.now in
    let indexes = c.indexes-indexes.result.now in
    let k = c.loop-number.number in
    let high : length files ≤ k = omega arith in
    record {
      any = files_all contents files indexes k c.files-file-items.ensures c.indexes-indexes.ensures high (omega arith) names_in_unit c.loop-number.named.by_any.items c.loop-number.invariant.any;
      uleb = files_all contents files indexes k c.files-file-items.ensures c.indexes-indexes.ensures high (omega arith) (λ n. pinned_in (is_in n)) c.loop-number.named.by_uleb.items c.loop-number.invariant.uleb;
    })
