-- What is asked of the files whose labels are written together.
use Rattle.std.specs.Prelude.{ℕ, ◌+◌, ◌<◌, ◌^◌, length, Option, Some, None}
use Rattle.dwz_def_reading.specs.Units.{entries_in}
use Rattle.dwz_check_labels.specs.declared.source.Source.{Source}
use Rattle.dwz_check_labels.specs.Files.{IsReady, raw_of}
use Rattle.dwz_check_labels.specs.Rows.{AreTopsWithin, AreWithin}

-- the entries of its tops, and its roots and spaces, are entries of the file
pub record IsSourceReady (x : Source) : Type 0 where
  pub ready : IsReady x
  pub tops : AreTopsWithin (entries_in (raw_of x)) x.own.index.now.tops
  pub lone : AreWithin (entries_in (raw_of x)) x.own.index.now.lone

abbrev pub IsBesideReady : Option Source → Type 0
IsBesideReady None = Unit {0}
IsBesideReady (Some x) = IsSourceReady x

abbrev pub top_count : Source → ℕ
top_count x = length x.own.index.now.tops

abbrev pub lone_count : Source → ℕ
lone_count x = length x.own.index.now.lone

abbrev pub tops_beside : Option Source → ℕ
tops_beside None = 0
tops_beside (Some x) = top_count x

-- all labels have numbers of 32 bits
abbrev pub AreFew : Source → Source → Option Source → Type 0
AreFew old new common = top_count old + top_count new + tops_beside common + lone_count old + lone_count new < 2 ^ 32
