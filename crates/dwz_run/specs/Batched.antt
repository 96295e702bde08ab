-- What follows of how a run ends whose words ask for many files over a finished common file, each as if it were alone with it.
use Rattle.std.specs.Prelude.{◌≡◌, ◌^◌, ℕ, Bool, List, [], ◌∷◌, Some, Ok, Err, take, slice_get}
use Rattle.dwz_model.specs.declared.fault.Refusal.{Refusal}
use Rattle.dwz_def_reading.specs.Lists.{In}
use Rattle.dwz_outside.specs.declared.puts.Put.{Put}
use Rattle.dwz_outside.specs.Store.{Store, done}
use Rattle.dwz_outside.specs.Told.{FailedWrite, FilesSeen, StoredWith}
use Rattle.dwz_report.specs.Texts.{write_text}
use Rattle.dwz_words.specs.declared.options.Options.{Options}
use Rattle.dwz_words.specs.Asked.{names_got}
use Rattle.dwz_words.specs.Lawful.{Lawful}
use Rattle.dwz_run_course.specs.declared.output.Output.{Output}
use Rattle.dwz_run_course.specs.Ends.{parts_text}
use Rattle.dwz_run_course.specs.Gets.{gets_by}
use Rattle.dwz_run_course.specs.Outcome.{Outcome, writes}
use Rattle.dwz_def_run.specs.Out.{sup_name}
use Rattle.dwz_def_over.specs.Over.{OverFiles}
use Rattle.dwz_def_over.specs.Written.{AreTiedOver, CanBeWrittenOver, ReadBackOver, file_over}
use Rattle.dwz_def_run.specs.Reuses.{HasContents, common_got}
use Rattle.dwz_def_run.specs.Batches.{Alone, Batch, Batches, FileGot, all_got, puts_of}
use Rattle.dwz_def_run.specs.BatchesStops.{AreOldOrAlone, KeepRefused}
use Rattle.dwz_def_run.specs.Yields.{batching}

-- ---- what is asked for

-- The words are lawful and name a finished common file over which each FILE is written as if it were alone; all are held. A FILE may be longer
-- by itself than a file may be: the gets go on, and it is refused.
pub record AsksToBatch (words : List (List ℕ)) (store : Store) : Type 0 where
  pub options : Options
  pub lawful : Lawful words options
  pub common : List ℕ
  pub batches : options.batch ≡ Some common
  pub contents : List (List ℕ)
  pub got : gets_by (2 ^ 28) (2 ^ 29) store 0 (names_got options) ≡ Some contents

-- the FILEs, and what was got of them
abbrev pub files_of : {words : List (List ℕ)} {store : Store} → AsksToBatch words store → List FileGot
files_of a = all_got (batching a.options) a.contents

-- what comes of one of them alone
abbrev pub ComesAlone : {words : List (List ℕ)} {store : Store} → AsksToBatch words store → FileGot → Outcome → Type 0
ComesAlone a file outcome = Alone (batching a.options) (common_got a.contents) file outcome

-- the first fault of the common file, or of too many bytes together
abbrev pub IsFirstBatch : Options → List (List ℕ) → Refusal → Type 0
IsFirstBatch o contents r = Batches (batching o) contents (Err r)

-- ---- what comes of it

-- Where the FILE isn't refused alone, it reads beside the common file, and what is written of it reads back with that as what was read (DWARF 5,
-- 7.3.6), where entries that the common file has more than once count as one place; and it has the name and the checksum of that, if it imports
-- from it.
pub record IsBackAlone {words : List (List ℕ)} {store : Store} (a : AsksToBatch words store) (file : FileGot) : Type 0 where
  pub files : OverFiles
  pub contents : HasContents (common_got a.contents) (file.content ∷ []) files
  pub can : CanBeWrittenOver (sup_name (batching a.options)) files
  pub back : ReadBackOver files (file_over (sup_name (batching a.options)) files)
  pub tied : AreTiedOver (sup_name (batching a.options)) files

-- The common file reads, there aren't too many bytes together, and this is put and said, file by file what comes of each alone. What is written
-- reads back.
pub record HasBatch {words : List (List ℕ)} {store : Store} (a : AsksToBatch words store) : Type 0 where
  pub all : Batch
  pub comes : Batches (batching a.options) a.contents (Ok all)
  pub back : (file : FileGot) → In file (files_of a) → (out : Output) → ComesAlone a file (writes out) → IsBackAlone a file

-- each FILE holds what a run of it alone leaves there
abbrev pub HoldAlone : {words : List (List ℕ)} {store : Store} → AsksToBatch words store → (now : Store) → Type 0
HoldAlone {words} {store} a now =
    (file : FileGot) → In file (files_of a) → (outcome : Outcome) → ComesAlone a file outcome
    → now file.name ≡ done (puts_of outcome) store file.name

-- ---- all is done

-- All is put, in order, each once, and nothing else: so each FILE holds what a run of it alone leaves, and the common file what was read of it.
-- This is the text, and so many FILEs are refused: none, or some.
pub record DidBatch (words : List (List ℕ)) (store : Store) (old new : FilesSeen) (text : List ℕ) (partly : Bool) : Type 0 where
  pub asks : AsksToBatch words store
  pub has : HasBatch asks
  pub is_partly : has.all.partly ≡ partly
  pub held : new.held ≡ Some (done has.all.puts store)
  pub stored : StoredWith old new has.all.puts
  pub after : HoldAlone asks (done has.all.puts store)
  pub common : done has.all.puts store asks.common ≡ Some (common_got asks.contents)
  pub text_is : text ≡ parts_text asks.options.quiet has.all.parts

-- ---- a put failed

-- The first puts are done, each once, and the next one failed, and was the last that did. Each FILE is as it was, or as a run of it alone makes it,
-- and as it was where it is refused; and the common file holds what was read of it.
pub record StoppedBatch (words : List (List ℕ)) (store : Store) (old new : FilesSeen) (text : List ℕ) : Type 0 where
  pub asks : AsksToBatch words store
  pub has : HasBatch asks
  pub count : ℕ
  pub failed : Put
  pub next : slice_get has.all.puts count ≡ Some failed
  pub fault : FailedWrite old new failed.name
  pub held : new.held ≡ Some (done (take count has.all.puts) store)
  pub stored : StoredWith old new (take count has.all.puts)
  pub after : AreOldOrAlone (batching asks.options) asks.contents store (done (take count has.all.puts) store)
  pub keeps : KeepRefused (batching asks.options) asks.contents store (done (take count has.all.puts) store)
  pub common : done (take count has.all.puts) store asks.common ≡ Some (common_got asks.contents)
  pub text_is : text ≡ write_text failed.name
