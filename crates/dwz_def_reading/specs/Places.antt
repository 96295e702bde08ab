-- Places in the debug information of several files.
use Rattle.std.specs.Prelude.{ℕ}

-- a file's number, and a place in its `.debug_info`, in bytes from its first
pub record Place : Type 0 where
  pub file : ℕ
  pub at : ℕ

abbrev pub at_file : ℕ → ℕ → Place
at_file file at = record { file = file; at = at }
