use Rattle.std.proofs.Common.{◌+◌, arith}
use Rattle.dwz_move_files.specs.declared.draft.Draft.{Draft}
use Rattle.dwz_move_files.specs.Drafts.{IsDraft}
use Rattle.dwz_move_files.proofs.PartSteps.{on_appended, put_behind}
use Rattle.dwz_move_files.proofs.parts.put_part.Goals as goal

pub returns : goal.returns
returns c = λ docs count more d e. (
    let old = c.args.draft.now in
    let part = c.args.part in
    let new : Draft = record { rows = c.append.new.self; binds = c.append-2.new.self; pairs = c.append-3.new.self } in
    on_appended c.append-3.result old.pairs.items part.pairs.items new.pairs.items (IsDraft docs 0 (count + more) new) c.append-3.ensures.items
    (λ pairs. put_behind docs 0 count count more old part new (omega arith) d e c.in_ok-append.ensures.items c.in_ok-append-2.ensures.items pairs))
