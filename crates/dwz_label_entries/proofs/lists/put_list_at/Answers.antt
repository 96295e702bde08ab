use Rattle.std.proofs.Common.{List, ap, arith, subst}
use Rattle.std.specs.Prelude.{Err, Ok}
use Rattle.dwz_expr.specs.Gathering.{added}
use Rattle.dwz_lists.specs.FirstFault.{WalksInto}
use Rattle.dwz_def_reading.specs.declared.exprs.Operand.{Operand}
use Rattle.dwz_model.specs.declared.fault.ReadErr.TheVariants.{Refused}
use Rattle.dwz_label_entries.proofs.ListLemmas.{list_refused, list_told, list_within}
use Rattle.dwz_label_entries.proofs.lists.put_list_at.Goals as goal

pub returns-then-place-lists : goal.returns-then-place-lists
returns-then-place-lists c = λ s a v lists means. (
    let within = list_within s a v c.args.lists.now c.args.place lists means in
    absurd (omega arith))

pub returns-in-Err-Refused : goal.returns-in-Err-Refused
returns-in-Err-Refused c = λ s a v lists means. (
    let os = c.walk_into.new.operands.items in
    let f = c.in-Err-Refused._fault in
    let found = rw c.in-Err-Refused.field-0-is at c.in-Err-Refused.ensures.found in
    let walks = subst (λ (w : List Operand). WalksInto c.args.lists.now c.args.place w (Err (Refused f))) (ap (λ (w : List Operand). added w os) c.clear.ensures.items) found in
    absurd (list_refused s a v c.args.lists.now c.args.place os f lists means walks))

pub returns-in_ok-put_read-in-Ok : goal.returns-in_ok-put_read-in-Ok
returns-in_ok-put_read-in-Ok c = λ s a v lists means. (
    let os = c.walk_into.new.operands.items in
    let walks = subst (λ (w : List Operand). WalksInto c.args.lists.now c.args.place w (Ok c.in-Ok._end)) (ap (λ (w : List Operand). added w os) c.clear.ensures.items) c.in-Ok.ensures.found in
    list_told s a v c.args.lists.now c.args.place os c.in-Ok._end c.args.out.now.items c.put_read.new.out.items lists means walks c.in_ok-put_read-in-Ok.ensures)
