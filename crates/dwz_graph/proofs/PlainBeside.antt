-- Plain values name nothing beside.
use Rattle.std.proofs.Common.{◌≡◌, ℕ, [], refl}
use Rattle.dwz_def_reading.specs.Documents.{Loc, Plain}
use Rattle.dwz_graph_resolve.specs.Named.{refs_beside}

pub none_beside : (plain : Plain) → refs_beside {P = ℕ} plain [] ≡ []
none_beside (Loc exprs) = refl
none_beside _ = refl
