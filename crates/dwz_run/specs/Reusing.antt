-- What follows of how a run ends whose words ask for files over a finished common file.
use Rattle.std.specs.Prelude.{◌≡◌, ◌⊎◌, ℕ, List, [], Some, take, slice_get, if◌then◌else◌}
use Rattle.dwz_model.specs.declared.fault.Refusal.{Refusal}
use Rattle.dwz_def_reading.specs.Finished.{FirstBeside}
use Rattle.dwz_outside.specs.declared.puts.Put.{Put}
use Rattle.dwz_outside.specs.Store.{Store, done}
use Rattle.dwz_outside.specs.Told.{FailedWrite, FilesSeen, StoredWith}
use Rattle.dwz_report.specs.Texts.{summary_text, write_text}
use Rattle.dwz_words.specs.declared.options.Options.{Options}
use Rattle.dwz_words.specs.Asked.{names_got}
use Rattle.dwz_words.specs.Lawful.{Lawful}
use Rattle.dwz_run_course.specs.Gets.{gets}
use Rattle.dwz_def_run.specs.Out.{sup_name}
use Rattle.dwz_def_over.specs.Over.{AreOverFiles, OverFiles}
use Rattle.dwz_def_over.specs.Written.{AreTiedOver, CanBeWrittenOver, OverFault, ReadBackOver, file_over}
use Rattle.dwz_def_run.specs.Comes.{reusing}
use Rattle.dwz_def_run.specs.Reuses.{HasContents, common_got, files_got, puts_over, summary_over}
use Rattle.dwz_def_run.specs.ReusesStops.{AreOldOrMadeOver, HoldOver}

-- ---- what is asked for

-- the words are lawful and name a finished common file; its content is held, and those of the FILEs
pub record AsksToReuse (words : List (List ℕ)) (store : Store) : Type 0 where
  pub options : Options
  pub lawful : Lawful words options
  pub common : List ℕ
  pub reuses : options.reuse ≡ Some common
  pub contents : List (List ℕ)
  pub got : gets store 0 (names_got options) ≡ Some contents

-- the name by which FILEs refer to the common file
abbrev pub name_over : Options → List ℕ
name_over o = sup_name (reusing o)

-- the first fault of reading these contents beside that of the common file, which comes first, or of what is written of them
abbrev pub IsFirstOver : Options → List (List ℕ) → Refusal → Type 0
IsFirstOver o contents r =
    FirstBeside (common_got contents) (files_got o contents) r
    ⊎ ((x : OverFiles) × HasContents (common_got contents) (files_got o contents) x × AreOverFiles x × OverFault (name_over o) x r)

-- ---- all is done

-- The common file reads, and FILEs beside it, and nothing refuses what is written of them. With the common file that reads back as what was
-- read (DWARF 5, 7.3.6), where entries that it has more than once count as one place; and each FILE that imports from it has its name and its
-- checksum.
pub record HasOverOutput {words : List (List ℕ)} {store : Store} (a : AsksToReuse words store) : Type 0 where
  pub files : OverFiles
  pub contents : HasContents (common_got a.contents) (files_got a.options a.contents) files
  pub can : CanBeWrittenOver (name_over a.options) files
  pub back : ReadBackOver files (file_over (name_over a.options) files)
  pub tied : AreTiedOver (name_over a.options) files

-- what is put of them, in order
abbrev pub puts_of_over : {words : List (List ℕ)} {store : Store} {a : AsksToReuse words store} → HasOverOutput a → List Put
puts_of_over {a} has = puts_over (reusing a.options) has.files

-- the line of each FILE, unless there is to be none
abbrev pub said_over : Options → OverFiles → List ℕ
said_over o x = if o.quiet then [] else summary_text (summary_over (reusing o) x)

-- All is put, in order, each once, and nothing else: so each FILE, or the one output, holds what the file has after, and the common file holds what
-- was read of it. And this is the text of it.
pub record DidReuse (words : List (List ℕ)) (store : Store) (old new : FilesSeen) (text : List ℕ) : Type 0 where
  pub asks : AsksToReuse words store
  pub has : HasOverOutput asks
  pub held : new.held ≡ Some (done (puts_of_over has) store)
  pub stored : StoredWith old new (puts_of_over has)
  pub after : HoldOver (reusing asks.options) has.files (done (puts_of_over has) store)
  pub common : done (puts_of_over has) store asks.common ≡ Some has.files.common
  pub text_is : text ≡ said_over asks.options has.files

-- ---- a put failed

-- The first puts are done, each once, and the next one failed, and was the last that did. Each FILE is as it was, or as it is made, and the common
-- file holds what was read of it.
pub record StoppedOver (words : List (List ℕ)) (store : Store) (old new : FilesSeen) (text : List ℕ) : Type 0 where
  pub asks : AsksToReuse words store
  pub has : HasOverOutput asks
  pub count : ℕ
  pub failed : Put
  pub next : slice_get (puts_of_over has) count ≡ Some failed
  pub fault : FailedWrite old new failed.name
  pub held : new.held ≡ Some (done (take count (puts_of_over has)) store)
  pub stored : StoredWith old new (take count (puts_of_over has))
  pub after : AreOldOrMadeOver (reusing asks.options) has.files (done (take count (puts_of_over has)) store)
  pub common : done (take count (puts_of_over has)) store asks.common ≡ Some has.files.common
  pub text_is : text ≡ write_text failed.name
