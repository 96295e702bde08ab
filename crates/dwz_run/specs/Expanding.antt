-- What follows of how a run ends whose words ask for a file without its partial units.
use Rattle.std.specs.Prelude.{◌≡◌, ◌≤◌, ℕ, true, List, [], ◌∷◌, Some, if◌then◌else◌}
use Rattle.dwz_model.specs.declared.fault.Refusal.{Refusal}
use Rattle.dwz_def_reading.specs.ElfHeaders.{file_header}
use Rattle.dwz_def_reading.specs.Units.{RawUnit}
use Rattle.dwz_def_cross.specs.CrossSame.{CrossSame}
use Rattle.dwz_def_expand.specs.OneFile.{OneFile, said_by_file, same_place}
use Rattle.dwz_def_expand.specs.NewFile.{NewRefusal, expanded_bytes}
use Rattle.dwz_def_expand.specs.After.{ReadsFreely, SpacesFit, units_after}
use Rattle.dwz_outside.specs.declared.puts.Put.{Put}
use Rattle.dwz_outside.specs.Store.{Store, done}
use Rattle.dwz_outside.specs.Told.{FailedWrite, FilesSeen, StoredWith}
use Rattle.dwz_report.specs.Texts.{summary_text, write_text}
use Rattle.dwz_words.specs.declared.options.Options.{Options}
use Rattle.dwz_words.specs.Asked.{names_got}
use Rattle.dwz_words.specs.Lawful.{Lawful}
use Rattle.dwz_run_course.specs.Gets.{gets}
use Rattle.dwz_def_run.specs.Compares.{common_in}
use Rattle.dwz_def_run.specs.Expands.{IsOneRead, one_in, summary_with}

-- ---- what is asked for

-- the words are lawful and ask for a file without its partial units; its content is held, and that of its common file, where it is given
pub record AsksToExpand (words : List (List ℕ)) (store : Store) : Type 0 where
  pub options : Options
  pub lawful : Lawful words options
  pub expands : options.expand ≡ true
  pub contents : List (List ℕ)
  pub got : gets store 0 (names_got options) ≡ Some contents

-- ---- all is done

-- What is written reads as a file by itself, but for limits, and says the new units, each entry at its place: without partial units, and with
-- nothing of a common file. So it is where FILE has no more section headers than a file by itself may have.
abbrev pub ReadsAfter : OneFile → Type 0
ReadsAfter f = (file_header f.file.bytes).headers ≤ 65278 → (raw : List RawUnit) × ReadsFreely (expanded_bytes f) raw (units_after f)

-- And it means what FILE meant beside its common file, imports expanded, where spaces of partial units fit those of units.
abbrev pub MeansAfter : OneFile → Type 0
MeansAfter f = SpacesFit same_place (said_by_file f) → CrossSame (said_by_file f) (record { own = units_after f; common = [] })

-- The FILE, with its common file where it is given, reads as a file that may have been written; nothing refuses what is written of it without
-- its partial units (DWARF 5, 3.2.5), which goes to OUT; and that reads back, and means the same.
pub record HasOneOutput {words : List (List ℕ)} {store : Store} (a : AsksToExpand words store) : Type 0 where
  pub out : List ℕ
  pub is_out : a.options.out ≡ Some out
  pub file : OneFile
  pub read : IsOneRead (common_in a.options.sup a.contents) (one_in a.options.sup a.contents) file
  pub free : (q : Refusal) → ¬ NewRefusal file q
  pub back : ReadsAfter file
  pub same : MeansAfter file

-- the put of it
abbrev pub new_put : {words : List (List ℕ)} {store : Store} {a : AsksToExpand words store} → HasOneOutput a → Put
new_put x = record { name = x.out; bytes = expanded_bytes x.file }

-- the line of FILE, with its length before and after, unless there is to be none
abbrev pub said_of_one : Options → (was is : List ℕ) → List ℕ
said_of_one o was is = if o.quiet then [] else summary_text (summary_with o was is)

-- That is put, and nothing else, so OUT holds it. And this is the text of it.
pub record DidExpand (words : List (List ℕ)) (store : Store) (old new : FilesSeen) (text : List ℕ) : Type 0 where
  pub asks : AsksToExpand words store
  pub has : HasOneOutput asks
  pub held : new.held ≡ Some (done (new_put has ∷ []) store)
  pub stored : StoredWith old new (new_put has ∷ [])
  pub after : done (new_put has ∷ []) store has.out ≡ Some (expanded_bytes has.file)
  pub text_is : text ≡ said_of_one asks.options has.file.file.bytes (expanded_bytes has.file)

-- ---- the put failed

-- The one put of a FILE without its partial units failed, and was the last that did: nothing is held otherwise than before.
pub record StoppedOne (words : List (List ℕ)) (store : Store) (old new : FilesSeen) (text : List ℕ) : Type 0 where
  pub asks : AsksToExpand words store
  pub has : HasOneOutput asks
  pub fault : FailedWrite old new has.out
  pub held : new.held ≡ Some store
  pub stored : StoredWith old new []
  pub text_is : text ≡ write_text has.out
