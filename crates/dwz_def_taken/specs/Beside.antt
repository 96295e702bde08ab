-- Files, and a finished common file beside them: their units with names, and which tops are alike across both.
use Rattle.std.specs.Prelude.{◌≡◌, ◌⊎◌, ℕ, ◌≤◌, List, [], ◌∷◌, ◌++◌, length, map, ◌==◌, if◌then◌else◌}
use Rattle.dwz_def_reading.specs.Documents.{Attr, Compile, Doc, DwUnit, Entries, Node, unit_map}
use Rattle.dwz_def_reading.specs.Finished.{BesideDocs}
use Rattle.dwz_def_reading.specs.Places.{Place}
use Rattle.dwz_def_reading.specs.Trees.{End, Entry}
use Rattle.dwz_def_tops.specs.Alike.{Alike}
use Rattle.dwz_def_tops.specs.Spots.{EntryName, FileUnit, RootOf, UnitOf, Within, named_files, tops_of, units_of}

-- ---- names

-- a partial unit of the common file, read as a compile unit: what stands in its root are tops and spaces
abbrev pub as_compile : {P : Type 0} → DwUnit P → DwUnit P
as_compile u = record { at = u.at; kind = Compile; root = u.root; below = u.below }

abbrev pub compile_doc : {P : Type 0} → Doc P → Doc P
compile_doc doc = record { machine = doc.machine; units = map as_compile doc.units }

-- The units of files, and those of a finished common file, read as compile units. These are counted behind, and so are their tops; and the
-- common file's own number comes behind those of the files.
pub record Reused : Type 0 where
  pub file : ℕ
  pub units : List (FileUnit EntryName)
  pub commons : List (FileUnit EntryName)

abbrev pub reused_of : List (Doc ℕ) → Doc ℕ → Reused
reused_of docs common = record {
  file = length docs;
  units = units_of docs;
  commons = named_files (length docs) (length (units_of docs)) (length (tops_of (units_of docs))) (compile_doc common ∷ []);
}

-- the same of what was read: offsets stand for the places of the common file, which are all its own
abbrev pub offsets_doc : Doc Place → Doc ℕ
offsets_doc doc = record { machine = doc.machine; units = map (unit_map (λ p. p.at)) doc.units }

abbrev pub reused_beside : BesideDocs → Reused
reused_beside said = reused_of said.docs (offsets_doc said.common)

-- all of them
abbrev pub together : Reused → List (FileUnit EntryName)
together r = r.units ++ r.commons

-- how many tops the files have; those of the common file have these numbers and higher ones
abbrev pub own_tops : Reused → ℕ
own_tops r = length (tops_of r.units)

-- ---- looks across both: languages aren't compared, as an imported entry is read in its importer (DWARF 5, 3.2.5); and from one partial
-- unit into another no reference leaves

-- DW_AT_language (13) under a number that is no attribute's
abbrev pub mute_attr : {P : Type 0} → Attr P → Attr P
mute_attr a = record { name = if a.name == 0x13 then 0 else a.name; form = a.form; raw = a.raw; value = a.value }

abbrev pub mute_root : {P : Type 0} → Node P → Node P
mute_root e = record { at = e.at; tag = e.tag; attrs = map mute_attr e.attrs }

-- a unit without its language
abbrev pub muted : FileUnit EntryName → FileUnit EntryName
muted f = record { file = f.file; unit = record { at = f.unit.at; kind = f.unit.kind; root = mute_root f.unit.root; below = f.unit.below } }

-- entries, and those behind them
unfoldable pub then_entries : {P : Type 0} → Entries P → Entries P → Entries P
then_entries End behind = behind
then_entries (Entry e children next) behind = Entry e children (then_entries next behind)

unfoldable pub all_below : List (FileUnit EntryName) → Entries EntryName
all_below [] = End
all_below (f ∷ units) = then_entries f.unit.below (all_below units)

unfoldable pub all_attrs : List (FileUnit EntryName) → List (Attr EntryName)
all_attrs [] = []
all_attrs (f ∷ units) = f.unit.root.attrs ++ all_attrs units

-- the units of the common file as one unit, with that number
abbrev pub as_one : ℕ → ℕ → List (FileUnit EntryName) → FileUnit EntryName
as_one file number commons = record {
  file = file;
  unit = record {
    at = UnitOf number;
    kind = Compile;
    root = record { at = RootOf number; tag = 0x11; attrs = all_attrs commons };
    below = all_below commons;
  };
}

-- the units that looks go over
abbrev pub look_units : Reused → List (FileUnit EntryName)
look_units r = map muted r.units ++ muted (as_one r.file (length r.units) r.commons) ∷ []

-- A top, of a file or of the common one, and a top of the common file: both are movable, where the common file is one unit, and looks of
-- every depth find them equal, whatever their languages.
pub record CommonAlike (r : Reused) (a c : ℕ) : Type 0 where
  pub common : own_tops r ≤ c
  pub alike : Alike (look_units r) a c

-- ---- copies: the common file may have a tree more than once

-- two entries are copies if they are one, or stand at equal paths under alike tops of the common file
abbrev pub Copies : Reused → EntryName → EntryName → Type 0
Copies r (Within s p) (Within t q) = ((s ≡ t) ⊎ ((own_tops r ≤ s) × CommonAlike r s t)) × (p ≡ q)
Copies r a b = a ≡ b
