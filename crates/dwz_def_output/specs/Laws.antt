-- Laws on what is written.
use Rattle.std.specs.Prelude.{◌≡◌, ◌⊎◌, ℕ, ◌≤◌, Bool, true, List}
use Rattle.dwz_model.specs.declared.fault.Refusal.{Refusal}
use Rattle.dwz_def_reading.specs.ElfLayout.{IsOrder}
use Rattle.dwz_def_reading.specs.ElfReading.{ElfView}
use Rattle.dwz_def_reading.specs.Lists.{Each, In}
use Rattle.dwz_def_reading.specs.Texts.{NoZero}
use Rattle.dwz_def_reading.specs.Values.{AreBytes}
use Rattle.dwz_def_reading.specs.Documents.{Doc}
use Rattle.dwz_def_tops.specs.Alike.{TopScope}
use Rattle.dwz_def_encoding.specs.Meant.{AreRenumbered}
use Rattle.dwz_def_images.specs.Units.{changes}
use Rattle.dwz_def_readback.specs.AllFiles.{AreMade, FileReads, ReadBack}
use Rattle.dwz_def_readback.specs.Files.{AreRanged, Run, imports_common, places, tells}
use Rattle.dwz_def_output.specs.Contents.{lists_after, ranges_after}
use Rattle.dwz_def_output.specs.FilesAfter.{common_bytes, file_after, order_of}
use Rattle.dwz_def_output.specs.Tied.{SaysSup, common_sup, file_sup}
use Rattle.dwz_def_output.specs.Refusals.{OutFault}
use Rattle.dwz_def_output.specs.Written.{CanBeWritten, common_under, rule_under, run_under, stored_of}

-- there is one order of the sections that are written again
abbrev pub OrderLaw : Type 0
OrderLaw = (e : ElfView) → IsOrder e (order_of e) × ((order : List (ℕ × ℕ)) → IsOrder e order → order ≡ order_of e)

-- at most one refusal is the first
abbrev pub OneRefusalLaw : Type 0
OneRefusalLaw = (name : List ℕ) (r : Run) (p q : Refusal) → OutFault name r p → OutFault name r q → p ≡ q

-- and either one is, or nothing refuses the files
abbrev pub EitherLaw : Type 0
EitherLaw = (name : List ℕ) (r : Run) → ((q : Refusal) × OutFault name r q) ⊎ ((q : Refusal) → ¬ OutFault name r q)

-- it is of a section
abbrev pub SectionLaw : Type 0
SectionLaw = (name : List ℕ) (r : Run) (q : Refusal) → OutFault name r q → q.section ≤ 9

-- in the location lists of a file that reads stand the numbers of where things stand, and in no other bytes do
abbrev pub ListsLaw : Type 0
ListsLaw =
    (r : Run) (file : ℕ) (doc : Doc ℕ) → FileReads (r.input.bytes file) (r.input.raw file) (r.input.prunes file) doc
    → AreRenumbered (places r) (tells r file) (lists_after r file) × ((new : List ℕ) → AreRenumbered (places r) (tells r file) new
    → new ≡ lists_after r file)

-- so it is with its address ranges
abbrev pub RangesLaw : Type 0
RangesLaw =
    (r : Run) (file : ℕ) (doc : Doc ℕ) → FileReads (r.input.bytes file) (r.input.raw file) (r.input.prunes file) doc
    → AreRanged r file (ranges_after r file) × ((new : List ℕ) → AreRanged r file new → new ≡ ranges_after r file)

-- Where the files are written, what is written of them is made as is asked, so that it reads back.
abbrev pub MadeLaw : Type 0
MadeLaw =
    (scope : TopScope) (name : List ℕ) (contents : List (List ℕ)) (docs : List (Doc ℕ)) (prunes : List Bool) → Each AreBytes contents
    → CanBeWritten scope name contents docs prunes
    → let r = run_under scope contents docs prunes in AreMade r (file_after name r) (common_under scope r)

-- And so it reads back: it says the same as what was read, along images, and entries share an image exactly where they move and nothing
-- tells them apart.
abbrev pub ReadBackLaw : Type 0
ReadBackLaw =
    (scope : TopScope) (name : List ℕ) (contents : List (List ℕ)) (docs : List (Doc ℕ)) (prunes : List Bool) → Each AreBytes contents
    → CanBeWritten scope name contents docs prunes
    → let r = run_under scope contents docs prunes in
    ReadBack scope docs (rule_under scope docs) (stored_of contents prunes) (file_after name r) (common_under scope r)

-- `.debug_sup` of the common file has its checksum; that of each file that imports from it has that checksum, and its name.
pub record AreTied (name : List ℕ) (r : Run) : Type 0 where
  pub common : SaysSup (common_bytes r) (common_sup r)
  pub file : (file : ℕ) → In file r.files → changes r.move r.units file ≡ true → imports_common r.move r.units file ≡ true
      → SaysSup (file_after name r file) (file_sup name r)

abbrev pub TiedLaw : Type 0
TiedLaw =
    (scope : TopScope) (name : List ℕ) (contents : List (List ℕ)) (docs : List (Doc ℕ)) (prunes : List Bool) → Each AreBytes contents
    → CanBeWritten scope name contents docs prunes
    → NoZero name → AreTied name (run_under scope contents docs prunes)
