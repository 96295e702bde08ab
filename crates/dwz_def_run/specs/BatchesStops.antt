-- What is held between the puts of many files that are written over a finished common file.
use Rattle.std.specs.Prelude.{◌≡◌, ◌⊎◌, true, List, [], ◌∷◌, ℕ, Some, IsTrue}
use Rattle.dwz_def_reading.specs.Lists.{In}
use Rattle.dwz_def_reading.specs.Refusal.{Refusal}
use Rattle.dwz_outside.specs.Store.{Store}
use Rattle.dwz_words.specs.Conditions.{are_distinct, has_common_apart}
use Rattle.dwz_words.specs.declared.options.Options.{Options}
use Rattle.dwz_run_course.specs.declared.output.Output.{Output}
use Rattle.dwz_run_course.specs.Outcome.{refuses, writes}
use Rattle.dwz_def_run.specs.Out.{put_of}
use Rattle.dwz_def_run.specs.Batches.{Alone, FileGot, all_got}
use Rattle.dwz_def_run.specs.Reuses.{common_got}

-- FILEs differ from each other, and from the common file
pub record FitBatch (o : Options) : Type 0 where
  pub distinct : are_distinct o.files ≡ true
  pub apart : IsTrue (has_common_apart o)

-- the one put of a run of the file alone is of these bytes, and the file holds them
pub record IsPutAlone (o : Options) (common : List ℕ) (now : Store) (file : FileGot) : Type 0 where
  pub out : Output
  pub alone : Alone o common file (writes out)
  pub bytes : List ℕ
  pub puts : out.puts ≡ put_of file.name bytes ∷ []
  pub held : now file.name ≡ Some bytes

-- each FILE holds what it held before, or what is put there by a run of it alone
abbrev pub AreOldOrAlone : Options → List (List ℕ) → (before now : Store) → Type 0
AreOldOrAlone o contents before now =
    (file : FileGot) → In file (all_got o contents) → (now file.name ≡ before file.name) ⊎ IsPutAlone o (common_got contents) now file

-- each that is refused holds what it held before
abbrev pub KeepRefused : Options → List (List ℕ) → (before now : Store) → Type 0
KeepRefused o contents before now =
    (file : FileGot) → In file (all_got o contents) → (q : Refusal) → Alone o (common_got contents) file (refuses q)
    → now file.name ≡ before file.name
