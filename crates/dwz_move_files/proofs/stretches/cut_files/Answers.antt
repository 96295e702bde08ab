use Rattle.std.proofs.Common.{◌≡◌, ℕ, ◌+◌, List, length, Some, slice_get, sym, ap, subst, ◌∙◌}
use Rattle.dwz_def_reading.proofs.ListFacts.{item_got}
use Rattle.dwz_graph.specs.declared.index.TopEntry.{TopEntry}
use Rattle.dwz_graph.specs.Across.{starts_at}
use Rattle.dwz_graph.proofs.FileCounts.{next_starts_are}
use Rattle.dwz_move_files.specs.Stretches.{AreStretches}
use Rattle.dwz_move_files.proofs.StretchSteps.{none_cut}
use Rattle.dwz_move_files.proofs.stretches.cut_files.Goals as goal

pub loop-file-init : goal.loop-file-init
loop-file-init c = λ docs is. none_cut docs c.args.indexes.now c.new-stretches.result.items c.new-stretches.ensures.items

pub loop-file-preserved : goal.loop-file-preserved
loop-file-preserved c = λ docs is. (
    let indexes = c.args.indexes.now in
    let x = c.index-indexes-file.result in
    let there : slice_get indexes c.loop-file.file ≡ Some x = item_got indexes c.loop-file.file x c.loop-file-test.true c.index-indexes-file.is in
    let len : length x.tops ≡ length c.tops.result.now = ap (λ (w : List TopEntry). length w) (sym c.tops.ensures) in
    let next : (starts_at docs indexes c.loop-file.file).top + length c.tops.result.now ≡ (starts_at docs indexes (c.loop-file.file + 1)).top =
    ap (λ (n : ℕ). (starts_at docs indexes c.loop-file.file).top + n) (sym len)
    ∙ sym (next_starts_are docs indexes is c.loop-file.file x there).0 in
    subst (λ (n : ℕ). AreStretches docs indexes 0 n c.cut_file.new.stretches.items) next (c.in_ok-cut_file.ensures docs indexes x there len (c.loop-file.invariant docs is)))
