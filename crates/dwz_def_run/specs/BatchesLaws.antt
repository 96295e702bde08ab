-- Laws on what comes of many files that are written over a finished common file.
use Rattle.std.specs.Prelude.{◌≡◌, ◌⊎◌, ℕ, List, [], ◌∷◌, None, Ok, Some, Result, length, take}
use Rattle.std.specs.List.{filter}
use Rattle.std.specs.Str.{bytes_eq}
use Rattle.dwz_def_reading.specs.Refusal.{Refusal}
use Rattle.dwz_def_reading.specs.Finished.{BesideDocs, ReadBeside}
use Rattle.dwz_def_reading.specs.Lists.{In}
use Rattle.dwz_outside.specs.declared.puts.Put.{Put}
use Rattle.dwz_outside.specs.Store.{Store, done}
use Rattle.dwz_report.specs.Texts.{file_text}
use Rattle.dwz_words.specs.declared.options.Options.{Options}
use Rattle.dwz_run_course.specs.declared.output.Output.{Output}
use Rattle.dwz_run_course.specs.Ends.{done_text}
use Rattle.dwz_run_course.specs.Outcome.{Outcome, refuses, writes}
use Rattle.dwz_run_course.specs.Puts.{AreApart, AreOthers, Prefixes}
use Rattle.dwz_def_taken.specs.declared.fixed.Fixed.{Fixed}
use Rattle.dwz_def_taken.specs.Takes.{IsFixedOf}
use Rattle.dwz_def_run.specs.Out.{put_of}
use Rattle.dwz_def_run.specs.Reuses.{common_got}
use Rattle.dwz_def_run.specs.Batches.{Alone, Batch, Batches, FileGot, IsCommonRead, all_got, options_alone, part_of, puts_of}
use Rattle.dwz_def_run.specs.BatchesStops.{AreOldOrAlone, FitBatch, KeepRefused}
use Rattle.dwz_def_run.specs.Yields.{Yields}

-- at most one thing comes of options and contents
abbrev pub OneBatchLaw : Type 0
OneBatchLaw = (o : Options) (contents : List (List ℕ)) (a b : Result Batch Refusal) → Batches o contents a → Batches o contents b → a ≡ b

-- the same for every number of workers
abbrev pub SameBatchLaw : Type 0
SameBatchLaw =
    (o : Options) (contents : List (List ℕ)) (all : Result Batch Refusal) (n : ℕ) → Batches o contents all
    → Batches (record o { workers = n }) contents all

-- it is said what is taken of the common file and of the file, where both read
abbrev pub HasTaken : List ℕ → FileGot → Type 0
HasTaken common file = (said : BesideDocs) → ReadBeside common (file.content ∷ []) said → (fixed : Fixed) × IsFixedOf said fixed

-- and something does, where it is said what is taken of each file that reads
abbrev pub SomeBatchLaw : Type 0
SomeBatchLaw =
    (o : Options) (contents : List (List ℕ)) → ((file : FileGot) → In file (all_got o contents) → HasTaken (common_got contents) file)
    → (all : Result Batch Refusal) × Batches o contents all

-- ---- of all words

-- at most one thing comes of options and contents, whatever is asked for
abbrev pub OneYieldsLaw : Type 0
OneYieldsLaw = (o : Options) (contents : List (List ℕ)) (a b : Outcome) → Yields o contents a → Yields o contents b → a ≡ b

-- and it can't be that nothing does
abbrev pub NeverNothingYieldsLaw : Type 0
NeverNothingYieldsLaw = (o : Options) (contents : List (List ℕ)) → ((outcome : Outcome) → Yields o contents outcome → ⊥) → ⊥

-- ---- of one file

-- nothing of it moves: nothing is put, and that is said
abbrev pub IsUnmoved : Options → FileGot → Output → Type 0
IsUnmoved o file out =
    (out.puts ≡ []) × (done_text (options_alone o file.name) out ≡ file_text (file.name, length file.content, None))

-- these bytes are put at it, and it is said how many
abbrev pub IsWrittenAnew : Options → FileGot → List ℕ → Output → Type 0
IsWrittenAnew o file bytes out =
    (out.puts ≡ put_of file.name bytes ∷ [])
    × (done_text (options_alone o file.name) out ≡ file_text (file.name, length file.content, Some (length bytes)))

-- an output that comes of a FILE alone is one of these two
abbrev pub OutputLaw : Type 0
OutputLaw =
    (o : Options) (common : List ℕ) (file : FileGot) (out : Output) → Alone o common file (writes out)
    → IsUnmoved o file out ⊎ ((bytes : List ℕ) × IsWrittenAnew o file bytes out)

-- and a refusal that comes of it is of that FILE, where the common file reads
abbrev pub RefusalLaw : Type 0
RefusalLaw =
    (o : Options) (common : List ℕ) (file : FileGot) (q : Refusal) → IsCommonRead o common → Alone o common file (refuses q) → q.file ≡ 0

-- ---- of all

-- those of the puts that are of a name
abbrev pub puts_at : List ℕ → List Put → List Put
puts_at name puts = filter (λ p. bytes_eq name p.name) puts

-- The puts at each FILE are those of a run of it alone, and what is said of it is among what is said: so whatever the other files are. No two
-- puts are of one name.
abbrev pub AloneLaw : Type 0
AloneLaw =
    (o : Options) (contents : List (List ℕ)) (all : Batch) → FitBatch o → Batches o contents (Ok all)
    → AreApart all.puts
    × ((file : FileGot) → In file (all_got o contents) → (outcome : Outcome) → Alone o (common_got contents) file outcome
    → (puts_at file.name all.puts ≡ puts_of outcome) × In (part_of o file.name outcome) all.parts)

-- after all puts each FILE holds what a run of it alone leaves there
abbrev pub HeldBatchLaw : Type 0
HeldBatchLaw =
    (o : Options) (contents : List (List ℕ)) (all : Batch) → FitBatch o → Batches o contents (Ok all)
    → (file : FileGot) → In file (all_got o contents) → (outcome : Outcome) → Alone o (common_got contents) file outcome
    → (store : Store) → done all.puts store file.name ≡ done (puts_of outcome) store file.name

-- no put is of the common file, so that this keeps its bytes
abbrev pub NeverPutLaw : Type 0
NeverPutLaw =
    (o : Options) (contents : List (List ℕ)) (all : Batch) → FitBatch o → Batches o contents (Ok all)
    → (common : List ℕ) → o.common ≡ Some common
    → AreOthers common all.puts × ((store : Store) (k : ℕ) → done (take k all.puts) store common ≡ store common)

-- after the first puts, however many, each FILE is as it was, or as it is put by a run of it alone
abbrev pub StopBatchLaw : Type 0
StopBatchLaw =
    (o : Options) (contents : List (List ℕ)) (all : Batch) → FitBatch o → Batches o contents (Ok all)
    → (store : Store) → Prefixes all.puts store (AreOldOrAlone o contents store)

-- and one that is refused is as it was
abbrev pub KeepLaw : Type 0
KeepLaw =
    (o : Options) (contents : List (List ℕ)) (all : Batch) → FitBatch o → Batches o contents (Ok all)
    → (store : Store) → Prefixes all.puts store (KeepRefused o contents store)
