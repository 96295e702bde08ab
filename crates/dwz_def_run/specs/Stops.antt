-- What is held between the puts of a run.
use Rattle.std.specs.Prelude.{◌≡◌, ◌⊎◌, ℕ, true, List, Some}
use Rattle.dwz_def_tops.specs.Lists.{Nth}
use Rattle.dwz_def_images.specs.Units.{changes}
use Rattle.dwz_def_readback.specs.Files.{Run}
use Rattle.dwz_outside.specs.Store.{Store}
use Rattle.dwz_words.specs.declared.options.Options.{Options}
use Rattle.dwz_def_output.specs.FilesAfter.{common_bytes, file_after, has_common}
use Rattle.dwz_def_run.specs.Out.{sup_name}

-- something of the file moves, and its name holds what is made of it; and then the common file, if there is one, stands whole
pub record IsMade (o : Options) (r : Run) (now : Store) (file : ℕ) (name : List ℕ) : Type 0 where
  pub changed : changes r.move r.units file ≡ true
  pub bytes : now name ≡ Some (file_after (sup_name o) r file)
  pub common : (common : List ℕ) → o.common ≡ Some common → has_common r ≡ true → now common ≡ Some (common_bytes r)

-- each FILE holds the bytes that were read, or it is made so
abbrev pub AreOldOrMade : Options → Run → Store → Type 0
AreOldOrMade o r now = (file : ℕ) (name : List ℕ) → Nth 0 o.files file name → (now name ≡ Some (r.input.bytes file))
    ⊎ IsMade o r now file name
