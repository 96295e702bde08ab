use Rattle.std.proofs.Common.{◌≡◌, ◌++◌}
use Rattle.dwz_encode_common.specs.WithCommon.{files_with, kept_numbers}
use Rattle.dwz_encode_common.proofs.known.with_places.Given as goal

abbrev pub invariant-loop-places : goal.invariant-loop-places
invariant-loop-places l =
    l.made.items ++ files_with l.left.rest.items l.places-iterator.rest.items (kept_numbers l.left.rest.items)
    ≡ files_with l.fn.rows.items l.fn.texts.items (kept_numbers l.fn.rows.items)
