use Rattle.std.proofs.Common.{◌≡◌, ◌++◌}
use Rattle.dwz_encode_common.specs.WithCommon.{files_with}
use Rattle.dwz_encode_common.proofs.known.with_files.Given as goal

abbrev pub invariant-loop-places : goal.invariant-loop-places
invariant-loop-places l =
    l.made.items ++ files_with l.left.rest.items l.places-iterator.rest.items l.more.rest.items
    ≡ files_with l.fn.rows.items l.fn.texts.items l.fn.numbers.items
