use Rattle.std.proofs.Common.{◌≡◌, ◌+◌, ◌++◌, true, length, map, IfOk, List, subst}
use Rattle.std.specs.Option.{option_map}
use Rattle.dwz_def_reading.specs.LineTables.{FileTable}
use Rattle.dwz_graph_resolve.proofs.joining.join_lines.Goals as goal

pub returns-clause-lines : goal.returns-clause-lines
returns-clause-lines c =
    subst (λ (w : List FileTable). IfOk c.add_lines.result (λ fits. fits ≡ true → c.add_lines.new.lines.items ≡ c.args.lines.now.items ++ map (option_map (λ k. length w + k)) c.args.more_lines.now))
    c.as_slice-before.ensures.value c.add_lines.ensures
