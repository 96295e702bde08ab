-- Laws on what is written of files over a finished common file.
use Rattle.std.specs.Prelude.{◌≡◌, ◌⊎◌, ◌↔◌, ℕ, ◌<◌, ◌≤◌, List, length}
use Rattle.dwz_def_reading.specs.Refusal.{Refusal}
use Rattle.dwz_def_reading.specs.Finished.{FirstBeside}
use Rattle.dwz_def_reading.specs.Lists.{Each}
use Rattle.dwz_def_reading.specs.Texts.{NoZero}
use Rattle.dwz_def_reading.specs.Values.{AreBytes}
use Rattle.dwz_def_images.specs.Plan.{import_of, imports}
use Rattle.dwz_def_images.specs.After.{IsBelow}
use Rattle.dwz_def_taken.specs.Beside.{offsets_doc}
use Rattle.dwz_def_taken.specs.Laws.{ArePlacedOver}
use Rattle.dwz_def_taken.specs.Takes.{Takes}
use Rattle.dwz_def_over.specs.Over.{AreOverFiles, OverFiles, move_of, reused}
use Rattle.dwz_def_over.specs.Written.{AreTiedOver, CanBeWrittenOver, OverFault, ReadBackOver, file_over}

-- ---- what is read

-- What is read, and taken, is fixed by the bytes of the common file and of the files.
abbrev pub OneReadLaw : Type 0
OneReadLaw = (a b : OverFiles) → a.common ≡ b.common → a.contents ≡ b.contents → AreOverFiles a → AreOverFiles b → a ≡ b

-- and then nothing of it is refused
abbrev pub ReadNotRefusedLaw : Type 0
ReadNotRefusedLaw = (o : OverFiles) → AreOverFiles o → (q : Refusal) → ¬ FirstBeside o.common o.contents q

-- no two units or entries of a file have one place, of the common one neither, and each reference names an entry
abbrev pub PlacedLaw : Type 0
PlacedLaw = (o : OverFiles) → Each AreBytes o.contents → AreOverFiles o → ArePlacedOver o.said.docs (offsets_doc o.said.common)

-- ---- what refuses it

-- at most one refusal is the first
abbrev pub OneOverFaultLaw : Type 0
OneOverFaultLaw = (name : List ℕ) (o : OverFiles) (p q : Refusal) → OverFault name o p → OverFault name o q → p ≡ q

-- and either one is, or nothing refuses what is written
abbrev pub EitherOverLaw : Type 0
EitherOverLaw = (name : List ℕ) (o : OverFiles) → ((q : Refusal) × OverFault name o q) ⊎ ((q : Refusal) → ¬ OverFault name o q)

-- it is of a section
abbrev pub SectionOverLaw : Type 0
SectionOverLaw = (name : List ℕ) (o : OverFiles) (q : Refusal) → OverFault name o q → q.section ≤ 9

-- ---- what is written

-- among the imports of a unit is one of a partial unit of the common file exactly if it takes that (DWARF 5, 3.2.5)
abbrev pub ImportsLaw : Type 0
ImportsLaw =
    (o : OverFiles) → AreOverFiles o → (u p : ℕ) → p < length (reused o).commons
    → IsBelow (import_of u p) (imports u 0 (move_of o).parts) ↔ Takes (reused o) u p

-- Where nothing refuses it, all files read back beside the common file as what was read, where copies count as one place,
abbrev pub ReadBackOverLaw : Type 0
ReadBackOverLaw = (name : List ℕ) (o : OverFiles) → Each AreBytes o.contents → CanBeWrittenOver name o → ReadBackOver o (file_over name o)

-- and what imports from the common file is tied to it.
abbrev pub TiedOverLaw : Type 0
TiedOverLaw = (name : List ℕ) (o : OverFiles) → Each AreBytes o.contents → CanBeWrittenOver name o → NoZero name → AreTiedOver name o
