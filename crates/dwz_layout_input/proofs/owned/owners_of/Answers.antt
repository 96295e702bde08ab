use Rattle.std.proofs.Common.{arith}
use Rattle.dwz_layout_input.proofs.OwnerSteps.{owners_done, owners_next}
use Rattle.dwz_layout_input.proofs.owned.owners_of.Goals as goal

pub loop-number-preserved : goal.loop-number-preserved
loop-number-preserved c =
    let many = c.requires.fit.many in
    owners_next c.args.files.now c.args.indexes.now c.args.plan.now c.args.numbers.now c.loop-number.number c.index-files-number.result c.index-indexes-number.result
    c.loop-number.owners.items c.put_owners.new.owners.items (omega arith) c.index-files-number.is (omega arith) c.index-indexes-number.is
    (λ names is. c.in_ok-put_owners.ensures names is) c.loop-number.invariant

pub returns : goal.returns
returns c = owners_done c.args.files.now c.args.indexes.now c.args.plan.now c.args.numbers.now c.loop-number.number c.loop-number.owners.items (omega arith) c.requires.fit.many
    c.loop-number.invariant
