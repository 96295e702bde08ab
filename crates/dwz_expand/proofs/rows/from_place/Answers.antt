use Rattle.std.proofs.Common.{nat_lt, of_calls, rules}
use Rattle.std.proofs.lemmas.Bool.{ltb-true, ltb-false}
use Rattle.std.proofs.lemmas.Fn.{always_returns_same}
use Rattle.std.proofs.lemmas.List.Sorted.{IsPartitionedBy-ltb}
use Rattle.dwz_graph.specs.ListOperand.{ListOperand}
use Rattle.dwz_expand.proofs.rows.from_place.Goals as goal

pub returns-clause-begin : goal.returns-clause-begin
returns-clause-begin c = λ rises.
    let rows = c.args.operands.now in
    let point = c.partition_point.ensures.partitioned (λ (o : ListOperand). nat_lt o.at c.args.at) (always_returns_same _ _ _ (λ a r f k. search (rules, of_calls)))
    (IsPartitionedBy-ltb (λ (o : ListOperand). o.at) rows c.args.at rises) in
    (λ k d low high. ltb-true _ _ (point.0 k d low high), λ k d low high. ltb-false _ _ (point.1 k d low high))
