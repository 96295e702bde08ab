-- Rows of units where other things stand for their places.
use Rattle.std.specs.Prelude.{◌≡◌, ◌↔◌, ℕ, List, map}
use Rattle.dwz_def_reading.specs.Documents.{DwUnit, unit_map}
use Rattle.dwz_def_cross.specs.CrossSame.{EachTwo}
use Rattle.dwz_def_cross.specs.Tops.{WithCommon, whole_units}
use Rattle.dwz_def_check.specs.CrossNames.{CrossName, Side}
use Rattle.dwz_def_check.specs.CrossNodes.{new_side, node_count, old_side}
use Rattle.dwz_def_check.specs.CrossRows.{IsCrossRow, UnitRow}

-- different things stand for different places
abbrev pub TellsApart : {P A : Type 0} → (P → A) → Type 0
TellsApart {P} f = (p q : P) → f p ≡ f q → p ≡ q

-- the same units where other things stand for their places
abbrev pub files_map : {P A : Type 0} → (P → A) → WithCommon P → WithCommon A
files_map f v = record { own = map (unit_map f) v.own; common = map (unit_map f) v.common }

-- the same side of them, where these have any names
abbrev pub side_map : {P A : Type 0} → (P → A) → (A → CrossName) → Side P → Side A
side_map f name s = record { files = files_map f s.files; own = s.own; common = s.common; lone = s.lone; name = name }

-- a row is that of a unit exactly if it is that of the unit with other places
abbrev pub MappedRowLaw : Type 0 → Type 0 → Type 0
MappedRowLaw P A = (f : P → A) → TellsApart f → (s : Side P) (name : A → CrossName) (classes : List ℕ) (u : DwUnit P) (row : UnitRow)
    → IsCrossRow s classes u row ↔ IsCrossRow (side_map f name s) classes (unit_map f u) row

-- there are rows of the units of both files that aren't partial
pub record HaveRows {P Q : Type 0} (v : WithCommon P) (w : WithCommon Q) (name : P → CrossName) (other : Q → CrossName) (classes : List ℕ)
    (rows others : List UnitRow) : Type 0 where
  pub old : EachTwo (IsCrossRow (old_side v w name) classes) (whole_units v.own) rows
  pub new : EachTwo (IsCrossRow (new_side v w other) classes) (whole_units w.own) others

-- two files with other places have as many nodes, and the same rows
abbrev pub MappedFilesLaw : Type 0 → Type 0 → Type 0 → Type 0 → Type 0
MappedFilesLaw P Q A B =
    (f : P → A) (g : Q → B) → TellsApart f → TellsApart g → (v : WithCommon P) (w : WithCommon Q)
    → (name : P → CrossName) (other : Q → CrossName) (first : A → CrossName) (second : B → CrossName)
    → (node_count (files_map f v) (files_map g w) ≡ node_count v w)
    × ((classes : List ℕ) (rows others : List UnitRow) → HaveRows v w name other classes rows others
    → HaveRows (files_map f v) (files_map g w) first second classes rows others)
