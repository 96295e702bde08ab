-- Where declarations that were read stand in memory.
use Rattle.std.specs.Prelude.{◌≢◌, AllPairs, List}
use Rattle.dwz_abbrev.specs.declared.codes.Codes.{Codes}
use Rattle.dwz_abbrev.specs.declared.read_decl.ReadDecl.{ReadDecl}
use Rattle.dwz_abbrev.specs.Places.{Leads}
use Rattle.dwz_abbrev.specs.ReadViews.{read_codes}

-- their codes differ, and lead to their places
pub record AreLed (codes : Codes) (decls : List ReadDecl) : Type 0 where
  pub leads : Leads codes (read_codes decls)
  pub different : AllPairs (λ d e. d.code ≢ e.code) decls
