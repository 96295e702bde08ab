use Rattle.std.proofs.Common.{Option, subst}
use Rattle.std.specs.Prelude.{IfSome}
use Rattle.dwz_graph.specs.Ahead.{IsAhead}
use Rattle.dwz_graph.specs.Files.{limits_view}
use Rattle.dwz_graph.specs.declared.file.File.{File}
use Rattle.dwz_graph.proofs.AheadLemmas.{read_behind}
use Rattle.dwz_graph.proofs.ahead.file_behind.Goals as goal

pub returns-then-is_enough : goal.returns-then-is_enough
returns-then-is_enough g c =
    let number = c.args.number in
    let bytes = c.args.bytes.now in
    let h : IsAhead number bytes c.in-Some.file = subst (λ (o : Option File). IfSome o (IsAhead number bytes)) c.in-Some.is c.requires in
    read_behind h.limits (limits_view c.args.left.now) number bytes c.in-Some.file (c.is_enough.ensures c.if-is_enough.true h.read.elf) h.read
