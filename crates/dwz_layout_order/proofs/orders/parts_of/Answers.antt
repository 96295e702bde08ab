use Rattle.std.proofs.Common.{◌≡◌, ◌+◌, length, sym, ◌∙◌, arith}
use Rattle.std.proofs.lemmas.Result.{IfOk-weaker}
use Rattle.dwz_groups.specs.Groups.{grouped}
use Rattle.dwz_layout_order.specs.Parts.{file_pairs}
use Rattle.dwz_layout_order.proofs.FileSteps.{files_long}
use Rattle.dwz_layout_order.proofs.PartSteps.{files_low}
use Rattle.dwz_layout_order.proofs.orders.parts_of.Goals as goal

pub overflow_cast-files : goal.overflow_cast-files
overflow_cast-files c = (let m = files_long c.args.graph.now.given c.files-files.result.now c.files-files.ensures in let few = c.requires.few in omega arith)

pub parts_of_files-requires-clause-files : goal.parts_of_files-requires-clause-files
parts_of_files-requires-clause-files c =
    let m = files_long c.args.graph.now.given c.files-files.result.now c.files-files.ensures in
    files_low (length c.files-files.result.now) (length c.args.graph.now.given) c.args.settled.now.plan.now.partials c.partials.result.now c.partials.ensures m c.requires.files

pub returns : goal.returns
returns c =
    let contents = c.args.graph.now.given in
    let m = files_long contents c.files-files.result.now c.files-files.ensures in
    let parts = c.args.settled.now.plan.now.partials in
    IfOk-weaker c.parts_of_files.result (λ groups. groups ≡ grouped (length c.files-files.result.now + 1) (file_pairs 0 c.partials.result.now))
    (λ groups. groups ≡ grouped (length contents + 1) (file_pairs 0 parts))
    (λ groups are. are ∙ (λ i. grouped (sym m i + 1) (file_pairs 0 (c.partials.ensures i)))) c.parts_of_files.ensures
