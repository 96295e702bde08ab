-- What is held between the puts of files that are written over a finished common file.
use Rattle.std.specs.Prelude.{◌≡◌, ◌⊎◌, ℕ, true, List, [], Option, Some, None, IsTrue, get_or, is_none, length, ◌==◌, ◌||◌}
use Rattle.dwz_def_tops.specs.Lists.{Nth}
use Rattle.dwz_def_images.specs.Units.{changes}
use Rattle.dwz_outside.specs.Store.{Store}
use Rattle.dwz_words.specs.Conditions.{are_distinct, has_common_apart}
use Rattle.dwz_words.specs.declared.options.Options.{Options}
use Rattle.dwz_def_output.specs.FilesAfter.{bytes_after_by}
use Rattle.dwz_def_over.specs.Over.{OverFiles, run_over, stands}
use Rattle.dwz_def_over.specs.Written.{file_over}
use Rattle.dwz_def_run.specs.Out.{sup_name}

-- FILEs differ from each other and from the common file; and where the output goes elsewhere there is one FILE, and that isn't the common file
pub record FitOver (o : Options) : Type 0 where
  pub distinct : are_distinct o.files ≡ true
  pub apart : IsTrue (has_common_apart o)
  pub one : IsTrue (is_none o.out || length o.files == 1)
  pub elsewhere : (out : List ℕ) → o.out ≡ Some out → ¬ o.common ≡ Some out

-- something of the file moves or is taken, and its name holds what is made of it
pub record IsMadeOver (o : Options) (x : OverFiles) (now : Store) (file : ℕ) (name : List ℕ) : Type 0 where
  pub changed : changes (run_over x).move (run_over x).units file ≡ true
  pub bytes : now name ≡ Some (file_over (sup_name o) x file)

-- each FILE holds the bytes that were read, or it is made so
abbrev pub AreOldOrMadeOver : Options → OverFiles → Store → Type 0
AreOldOrMadeOver o x now = (file : ℕ) (name : List ℕ) → Nth 0 o.files file name
    → (now name ≡ Some (get_or x.contents file [])) ⊎ IsMadeOver o x now file name

-- ---- where all is put

-- where the bytes of a file go: to its name, or to that of the one output
abbrev pub goes_over : Option (List ℕ) → List ℕ → List ℕ
goes_over None name = name
goes_over (Some out) name = out

-- Each FILE, or else the one output, holds the bytes that the file has after: those that are made of it, or its own where nothing of it moves
-- or is taken.
abbrev pub HoldOver : Options → OverFiles → Store → Type 0
HoldOver o x now = (file : ℕ) (name : List ℕ) → Nth 0 o.files file name
    → now (goes_over o.out name) ≡ Some (bytes_after_by (stands x) (sup_name o) (run_over x) file)
