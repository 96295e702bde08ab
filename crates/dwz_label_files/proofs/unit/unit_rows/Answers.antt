use Rattle.std.proofs.Common.{arith, length, subst, ℕ, ◌≡◌}
use Rattle.dwz_def_reading.proofs.ListFacts.{item_got}
use Rattle.dwz_label_files.specs.Unit.{HaveRows}
use Rattle.dwz_label_files.proofs.RowLemmas.{file_more, none_yet}
use Rattle.dwz_label_files.proofs.unit.unit_rows.Goals as goal

pub loop-file-init : goal.loop-file-init
loop-file-init c = let run = c.args.run.now in none_yet run.graph.now.given run.files.now run.indexes.now _ c.new-rows.ensures.items

pub loop-file-preserved : goal.loop-file-preserved
loop-file-preserved c =
    let run = c.args.run.now in
    file_more run.graph.now.given run.files.now run.indexes.now c.loop-file.file-index c.file-item.result c.loop-file.rows.items c.put_unit_rows.new.rows.items c.requires.kept c.requires.indexed
    (item_got run.files.now c.loop-file.file-index c.file-item.result (omega arith) c.file-item.is) c.loop-file.invariant c.in_ok-put_unit_rows.ensures

pub returns : goal.returns
returns c =
    let run = c.args.run.now in
    subst (λ (n : ℕ). HaveRows run.files.now run.indexes.now n c.loop-file.rows.items) (let end : c.loop-file.file-index ≡ length run.files.now = omega arith in end) c.loop-file.invariant.are
