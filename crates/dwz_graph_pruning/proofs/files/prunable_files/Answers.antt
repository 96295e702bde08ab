use Rattle.std.proofs.Common.{◌<◌, ◌+◌, ℕ, List, Bool, length, sym, ap, subst, arith}
use Rattle.std.proofs.lemmas.List.{length-map}
use Rattle.dwz_def_reading.proofs.ListFacts.{drop_next}
use Rattle.dwz_graph.proofs.FileLemmas.{files_few}
use Rattle.dwz_graph_pruning.proofs.FileLemmas.{FilesLeft, file_read, files_begin, files_end, files_more, mapped_split}
use Rattle.dwz_graph_pruning.proofs.files.prunable_files.Goals as goal

pub loop-number-init : goal.loop-number-init
loop-number-init c = subst (λ (w : List Bool). FilesLeft c.args.graph.now.given c.files-file-items.result.now 0 w) (sym c.in_ok-flags.ensures.items)
    (files_begin c.args.graph.now.given c.files-file-items.result.now c.files-file-items.ensures)

pub is_prunable-requires : goal.is_prunable-requires
is_prunable-requires c =
    let k = c.loop-number.number in
    let files = c.files-file-items.result.now in
    let lt = c.loop-number-test.true in
    let many = files_few c.args.graph.now.given files c.files-file-items.ensures in
    let long = ap (λ (w : List (List ℕ)). length w) c.requires in
    let same = length-map c.args.contents.now (λ v. v.items) in
    let within : k < length c.args.contents.now = omega (arith, lt, many, long, same) in
    let some = mapped_split (λ v. v.items) c.args.graph.now.given c.args.contents.now k c.index-contents-number.result c.as_slice.result.now c.requires within c.index-contents-number.is
    c.as_slice.ensures.value in
    record {
      limits = c.loop-number.invariant.limits;
      number = k;
      read = file_read c.args.graph.now.given files k c.loop-number.flags.items c.loop-number.invariant c.as_slice.result.now c.file-item.result some
          (drop_next files k c.file-item.result lt c.file-item.is);
    }

pub loop-number-preserved : goal.loop-number-preserved
loop-number-preserved c =
    let k = c.loop-number.number in
    let files = c.files-file-items.result.now in
    let lt = c.loop-number-test.true in
    let many = files_few c.args.graph.now.given files c.files-file-items.ensures in
    let long = ap (λ (w : List (List ℕ)). length w) c.requires in
    let same = length-map c.args.contents.now (λ v. v.items) in
    let within : k < length c.args.contents.now = omega (arith, lt, many, long, same) in
    let some = mapped_split (λ v. v.items) c.args.graph.now.given c.args.contents.now k c.index-contents-number.result c.as_slice.result.now c.requires within c.index-contents-number.is
    c.as_slice.ensures.value in
    let split = drop_next files k c.file-item.result lt c.file-item.is in
    let left = c.loop-number.invariant in
    let read = file_read c.args.graph.now.given files k c.loop-number.flags.items left c.as_slice.result.now c.file-item.result some split in
    subst (λ (w : List Bool). FilesLeft c.args.graph.now.given files (k + 1) w) (sym c.in_ok-push.ensures.items)
    (files_more c.args.graph.now.given files k c.loop-number.flags.items left c.as_slice.result.now c.file-item.result some split c.in_ok-is_prunable.field-0
    (c.in_ok-is_prunable.ensures left.limits k read))

pub returns : goal.returns
returns c = files_end c.args.graph.now.given c.files-file-items.result.now c.loop-number.number c.loop-number.flags.items c.loop-number.invariant c.loop-number-test.false c.files-file-items.ensures
