-- A finished common file that was read, and files beside it.
use Rattle.std.specs.Prelude.{ℕ, List}
use Rattle.dwz_def_reading.specs.Documents.{Doc}
use Rattle.dwz_def_taken.specs.Laws.{ArePlacedOver}
use Rattle.dwz_graph.specs.Files.{docs_of}
use Rattle.dwz_graph.specs.declared.file.File.{File}
use Rattle.dwz_reuse.specs.Read.{IsCommonRead}

-- the common file says this by itself, and no two entries of it or of one of the files have one place
pub record IsReadBeside (contents : List (List ℕ)) (f : File) (doc : Doc ℕ) : Type 0 where
  pub read : IsCommonRead f doc
  pub placed : ArePlacedOver (docs_of contents) doc
