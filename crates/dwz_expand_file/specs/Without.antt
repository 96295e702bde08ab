-- Inner: The file whose section headers were moved behind it.
use Rattle.std.specs.Prelude.{◌≡◌, ℕ, List}
use Rattle.dwz_def_reading.specs.ElfHeaders.{file_header}
use Rattle.dwz_def_expand.specs.Dropped.{table_place, without_sup}
use Rattle.dwz_expand_file.specs.declared.without.Moved.{Moved}

-- it is that file, with where they stand, and where they stood
pub record IsMoved (input : List ℕ) (m : Moved) : Type 0 where
  pub bytes_are : m.bytes.items ≡ without_sup input
  pub headers_are : m.headers_at ≡ table_place input
  pub began_at : m.began ≡ (file_header input).headers_at
