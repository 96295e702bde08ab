-- A finished common file whose tops come behind those of files.
use Rattle.std.specs.Prelude.{◌≡◌, ℕ, List}
use Rattle.dwz_def_reading.specs.Documents.{Doc}
use Rattle.dwz_def_taken.specs.Beside.{own_tops, reused_of}
use Rattle.dwz_def_taken.specs.Laws.{ArePlacedOver}
use Rattle.dwz_graph.specs.declared.file.File.{File}
use Rattle.dwz_reuse.specs.Read.{IsCommonRead}

-- it was read, and says this; the files have so many tops, and no two entries of a file have one place
pub record StandsBehind (f : File) (first : ℕ) (docs : List (Doc ℕ)) (doc : Doc ℕ) : Type 0 where
  pub read : IsCommonRead f doc
  pub placed : ArePlacedOver docs doc
  pub tops : own_tops (reused_of docs doc) ≡ first
