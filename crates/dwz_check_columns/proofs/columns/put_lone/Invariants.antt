use Rattle.std.proofs.Common.{◌≡◌, ◌++◌, false, replicate, take}
use Rattle.dwz_check_columns.proofs.columns.put_lone.Given as goal

abbrev pub invariant-loop-number : goal.invariant-loop-number
invariant-loop-number l = record {
  names : l.names.items ≡ l.fn.names.items ++ take l.number-index l.lone;
  plain : l.plain.items ≡ l.fn.plain.items ++ replicate l.number-index false;
}
