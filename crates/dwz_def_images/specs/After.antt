-- The units before, with their names, and those after: what is asked of them.
use Rattle.std.specs.Prelude.{◌⊎◌, ◌≡◌, ℕ, suc, true, false, List, [], ◌∷◌, ◌++◌, map}
use Rattle.dwz_def_reading.specs.Documents.{Doc, DwUnit, Entries, Node, node_map, unit_map}
use Rattle.dwz_def_reading.specs.Lists.{In}
use Rattle.dwz_def_reading.specs.Trees.{End, Entry}
use Rattle.dwz_def_reading.specs.Places.{Place, at_file}
use Rattle.dwz_def_tops.specs.Lists.{NoneTwice, Nth}
use Rattle.dwz_def_tops.specs.Seen.{Closed, IsPartial, SameAlong}
use Rattle.dwz_def_tops.specs.Shown.{HaveMains, OnePlace, UnitsShown, units_keys}
use Rattle.dwz_def_tops.specs.Alike.{TopScope}
use Rattle.dwz_def_tops.specs.Spots.{EntryName, FileUnit, LabelledTop, Top}
use Rattle.dwz_def_tops.specs.Spots.{rows_of_root, tops_of, units_of}
use Rattle.dwz_def_plan.specs.Homes.{Rule, moves}
use Rattle.dwz_def_plan.specs.IsPlan.{Has, OfSpace}
use Rattle.dwz_def_plan.specs.Moves.{Move, image_in, plan}
use Rattle.dwz_def_plan.specs.Plan.{PartialUnit, image, import_of}
use Rattle.dwz_def_images.specs.Held.{IsHeld}
use Rattle.dwz_def_images.specs.Units.{all_units, changes, kept_unit, out_units, partial_root, partial_unit, units_of_file}
use Rattle.dwz_def_images.specs.Images.{IsAlone, OneImage, units_in}
use Rattle.dwz_def_tops.specs.UnitNames.{IsNamedUnit, name_of_place}

-- ---- before

-- all is at its own name, each reference names an entry, and the type of a type unit is an entry of it
pub record AreOld (units : List (FileUnit EntryName)) : Type 0 where
  pub units_named : (i : ℕ) (u : FileUnit EntryName) → Nth 0 units i u → IsNamedUnit i (rows_of_root units i) u.unit
  pub tops_named : (t : Top) → In t (tops_of units) → LabelledTop t
  pub closed : Closed (units_in units)
  pub mains : HaveMains (units_in units)

-- ---- after

-- it is a partial unit, by its number
pub record IsNewUnit (m : Move) (v : DwUnit EntryName) : Type 0 where
  pub number : ℕ
  pub part : PartialUnit
  pub nth : Nth 0 m.parts number part
  pub is : partial_unit m number ≡ v

-- it is an old unit that is kept
pub record IsKeptUnit (m : Move) (units : List (FileUnit EntryName)) (v : DwUnit EntryName) : Type 0 where
  pub number : ℕ
  pub unit : FileUnit EntryName
  pub nth : Nth 0 units number unit
  pub is : kept_unit m units number unit ≡ v

-- These are all that stand after, in whichever files: each partial unit and each old unit, and no other.
pub record AreAfter (m : Move) (units : List (FileUnit EntryName)) (outs : List (DwUnit EntryName)) : Type 0 where
  pub new : (n : ℕ) (part : PartialUnit) → Nth 0 m.parts n part → In (partial_unit m n) outs
  pub kept : (i : ℕ) (u : FileUnit EntryName) → Nth 0 units i u → In (kept_unit m units i u) outs
  pub from : (v : DwUnit EntryName) → In v outs → IsNewUnit m v ⊎ IsKeptUnit m units v

-- These stand after in place of some of the units before, such as those of one file: each of them, each partial unit that one of them
-- uses, and no other but partial units and old ones.
pub record AreAfterOf (Of : ℕ → Type 0) (m : Move) (units : List (FileUnit EntryName)) (outs : List (DwUnit EntryName)) : Type 0 where
  pub new : (n : ℕ) (part : PartialUnit) → Nth 0 m.parts n part → (i : ℕ) → In i part.users → Of i → In (partial_unit m n) outs
  pub kept : (i : ℕ) (u : FileUnit EntryName) → Nth 0 units i u → Of i → In (kept_unit m units i u) outs
  pub from : (v : DwUnit EntryName) → In v outs → IsNewUnit m v ⊎ IsKeptUnit m units v

-- the unit with that number is one of the file
abbrev pub IsOfFile : List (FileUnit EntryName) → ℕ → ℕ → Type 0
IsOfFile units file i = (u : FileUnit EntryName) × Nth 0 units i u × (u.file ≡ file)

-- These units stand in place of those before: all is at its own name, what moves is held as is asked, and these are all units after.
pub record Replaces (units : List (FileUnit EntryName)) (m : Move) (outs : List (DwUnit EntryName)) : Type 0 where
  pub old : AreOld units
  pub held : IsHeld units m
  pub after : AreAfter m units outs

-- one of these entries, or one below them
abbrev pub IsBelow : {P : Type 0} → Node P → Entries P → Type 0
IsBelow e End = ⊥
IsBelow e (Entry d children next) = (d ≡ e) ⊎ (IsBelow e children ⊎ IsBelow e next)

-- an entry of a unit: its root, or one below it
abbrev pub IsEntryOf : {P : Type 0} → Node P → DwUnit P → Type 0
IsEntryOf e u = (u.root ≡ e) ⊎ IsBelow e u.below

-- An entry after is an old entry with its places replaced by their images, or an import, or the root of a partial unit, or a space of
-- one.
pub data ComesFrom (m : Move) (units : List (FileUnit EntryName)) (e : Node EntryName) : Type 0 where
  OldEntry : (u : DwUnit EntryName) → In u (units_in units) → (d : Node EntryName) → IsEntryOf d u → e ≡ node_map (image_in m) d
      → ComesFrom m units e
  NewImport : (unit part : ℕ) → e ≡ import_of unit part → ComesFrom m units e
  NewRoot : (n : ℕ) → e ≡ partial_root m n → ComesFrom m units e
  NewSpace : (n : ℕ) (part : PartialUnit) (names : List (List ℕ)) (d : Node EntryName) → Nth 0 m.parts n part
      → Has names (OfSpace d) (m.rows n)
      → e ≡ node_map (image_in m) d → ComesFrom m units e

-- ---- places before

-- no two units or entries of a file stand at one place, none of its units is a partial unit, each reference names an entry, and the
-- type of a type unit is an entry of it
pub record ArePlaced (units : List (DwUnit ℕ)) : Type 0 where
  pub apart : NoneTwice (units_keys units)
  pub kinds : (u : DwUnit ℕ) → In u units → IsPartial u.kind → ⊥
  pub closed : Closed units
  pub mains : HaveMains units

-- the units of all files; the first file has that number
unfoldable pub units_placed_from : ℕ → List (Doc ℕ) → List (DwUnit Place)
units_placed_from file [] = []
units_placed_from file (doc ∷ docs) = map (unit_map (at_file file)) doc.units ++ units_placed_from (suc file) docs

-- places for the names of units, one for each name, at which they are these units
pub record StandAsNamed (units : List (DwUnit EntryName)) (placed : List (DwUnit ℕ)) : Type 0 where
  pub place : EntryName → ℕ
  pub shown : UnitsShown place units placed
  pub one : OnePlace place units

-- ---- what is said of files at once: those of one run, and the common file

-- A file of which nothing moves has its units as they were, at their places. No name stands twice among the units after, and each
-- reference there names an entry, as does the type of a type unit. Read back at places, one for each name, they are the same as
-- before, along the places of images; and just what nothing tells apart, and moves, has one place.
pub record AreSame (scope : TopScope) (docs : List (Doc ℕ)) (rule : Rule) (m : Move) (outs : List (DwUnit EntryName)) : Type 0 where
  pub still : (file : ℕ) → changes m (units_of docs) file ≡ false → out_units m (units_of docs) file ≡ units_of_file file (units_of docs)
  pub stands : (file : ℕ) (doc : Doc ℕ) → Nth 0 docs file doc → changes m (units_of docs) file ≡ false
      → StandAsNamed (out_units m (units_of docs) file) doc.units
  pub apart : NoneTwice (units_keys outs)
  pub closed : Closed outs
  pub mains : HaveMains outs
  pub same : (g : EntryName → Place) (placed : List (DwUnit Place)) → UnitsShown g outs placed → OnePlace g outs
      → SameAlong (λ p. g (image rule (units_of docs) (name_of_place docs p))) (units_placed_from 0 docs) placed
  pub alone : (g : EntryName → Place) → OnePlace g outs → IsAlone (units_of docs) (λ s. g (image rule (units_of docs) s))
  pub images : (g : EntryName → Place) → OnePlace g outs
      → OneImage scope (units_of docs) (λ n. moves rule (units_of docs) n ≡ true) (λ s. g (image rule (units_of docs) s))

-- so of the units after of all these files, where the tops of a choice move
abbrev pub FilesSame : TopScope → List (Doc ℕ) → Rule → List ℕ → Type 0
FilesSame scope docs rule files = AreSame scope docs rule (plan rule (units_of docs) files)
    (all_units (plan rule (units_of docs) files) (units_of docs) files)
