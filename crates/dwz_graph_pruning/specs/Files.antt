-- Files as they were read.
use Rattle.std.specs.Prelude.{ℕ, List}
use Rattle.dwz_graph.specs.declared.file.File.{File}
use Rattle.dwz_graph.specs.Files.{IsRead}
use Rattle.dwz_def_reading.specs.Files.{Limits}

-- the file was read from these bytes, behind some others
pub record WasReadFrom (bytes : List ℕ) (f : File) : Type 0 where
  pub limits : Limits
  pub number : ℕ
  pub read : IsRead limits number bytes f
