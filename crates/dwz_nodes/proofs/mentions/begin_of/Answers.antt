use Rattle.std.proofs.Common.{nat_lt, of_calls, rules}
use Rattle.std.proofs.lemmas.Bool.{ltb-true, ltb-false}
use Rattle.std.proofs.lemmas.Fn.{always_returns_same}
use Rattle.std.proofs.lemmas.List.Sorted.{IsPartitionedBy-ltb}
use Rattle.dwz_nodes.specs.declared.mentions.Mention.{Mention}
use Rattle.dwz_nodes.proofs.mentions.begin_of.Goals as goal

pub returns-clause-begin : goal.returns-clause-begin
returns-clause-begin c =
    let ms = c.args.mentions.now in
    let point = c.partition_point.ensures.partitioned (λ (m : Mention). nat_lt m.source c.args.a) (always_returns_same _ _ _ (λ a r f k. search (rules, of_calls)))
    (IsPartitionedBy-ltb (λ (m : Mention). m.source) ms c.args.a c.requires) in
    (λ k d low high. ltb-true _ _ (point.0 k d low high), λ k d low high. ltb-false _ _ (point.1 k d low high))
