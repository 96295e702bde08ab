use Rattle.std.proofs.Common.{◌≡◌, ◌++◌}
use Rattle.std.specs.List.{flat_map}
use Rattle.dwz_encode.proofs.info.join_pages.Given as goal

abbrev pub invariant-loop-page : goal.invariant-loop-page
invariant-loop-page l = l.info.items ++ flat_map (λ page. page) l.page-iterator.rest.items ≡ flat_map (λ page. page) l.fn.pages.items
