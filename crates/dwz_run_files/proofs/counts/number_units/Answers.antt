use Rattle.std.proofs.Common.{List, length, sym, ap, ◌∙◌, arith}
use Rattle.dwz_plan.specs.declared.plan.Partial.{Partial}
use Rattle.dwz_run_files.proofs.NumbersMade.{counts_few, counts_many, numbers_made}
use Rattle.dwz_run_files.proofs.counts.number_units.Goals as goal

pub make-requires-clause-few : goal.make-requires-clause-few
make-requires-clause-few c =
    let parts = ap (λ (w : List Partial). length w) c.partials.ensures in
    let few = c.requires.numbers in
    counts_few c.args.graph.now.given c.files.result.now c.files.ensures c.as_slice.result.now
    (c.as_slice.ensures.value ∙ c.in_ok-counts.ensures) (length c.partials.result.now) (omega arith)

pub make-requires-clause-files : goal.make-requires-clause-files
make-requires-clause-files c =
    let counts = c.as_slice.ensures.value ∙ c.in_ok-counts.ensures in
    let many = counts_many c.args.graph.now.given c.files.result.now c.files.ensures c.as_slice.result.now counts in
    let few = c.requires.few in
    omega (arith, many, few)

pub make-requires-clause-flags : goal.make-requires-clause-flags
make-requires-clause-flags c =
    let counts = c.as_slice.ensures.value ∙ c.in_ok-counts.ensures in
    c.requires.flags ∙ sym (counts_many c.args.graph.now.given c.files.result.now c.files.ensures c.as_slice.result.now counts)

pub returns : goal.returns
returns c =
    let counts = c.as_slice.ensures.value ∙ c.in_ok-counts.ensures in
    numbers_made c.args.graph.now.given c.files.result.now c.files.ensures c.as_slice.result.now counts
    c.make.result c.args.plan.now c.partials.result.now c.args.written.now c.partials.ensures c.make.ensures
