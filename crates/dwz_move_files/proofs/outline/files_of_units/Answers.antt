use Rattle.std.proofs.Common.{◌∙◌, arith}
use Rattle.dwz_def_reading.proofs.ListFacts.{item_got}
use Rattle.dwz_graph.specs.Files.{docs_of}
use Rattle.dwz_graph.proofs.FileLemmas.{files_few}
use Rattle.dwz_graph.proofs.FileCounts.{files_many}
use Rattle.dwz_graph.proofs.UnitFiles.{files_end, files_none, files_step}
use Rattle.dwz_move_files.proofs.outline.files_of_units.Goals as goal

pub loop-number-init : goal.loop-number-init
loop-number-init c = c.new-numbers.ensures.items ∙ files_none

pub loop-number-preserved : goal.loop-number-preserved
loop-number-preserved c =
    let files = c.files-file-items.result.now in
    files_step c.args.graph.now.given files c.files-file-items.ensures c.loop-number.number c.file-item.result (item_got files c.loop-number.number c.file-item.result (omega arith) c.file-item.is)
    c.loop-number.numbers.items c.put_number.new.numbers.items c.len.result c.loop-number.invariant c.len.ensures c.in_ok-put_number.ensures

pub returns : goal.returns
returns c =
    let many = files_many c.args.graph.now.given c.files-file-items.result.now c.files-file-items.ensures in
    files_end (docs_of c.args.graph.now.given) c.loop-number.number c.loop-number.numbers.items (omega arith) c.loop-number.invariant

pub overflow_cast-number : goal.overflow_cast-number
overflow_cast-number c = (let many = files_few c.args.graph.now.given c.files-file-items.result.now c.files-file-items.ensures in omega arith)
