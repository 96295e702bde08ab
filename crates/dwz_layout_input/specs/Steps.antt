-- Inner: no public clause cites what follows. Where tops stand, and what the roots of their units say of a line table.
use Rattle.std.specs.Prelude.{◌≡◌, ℕ, pos, List, [], ◌∷◌, None, Option, Some, slice_get}
use Rattle.dwz_graph.specs.Across.{IsFileAmong, IsTopOf}
use Rattle.dwz_layout_order.specs.Behind.{StandFirst}
use Rattle.dwz_def_tops.specs.Spots.{EntryName, FileUnit, Top, tops_of, units_of}
use Rattle.dwz_def_reading.specs.Entries.{RawAttr}
use Rattle.dwz_graph.specs.declared.file.File.{File}
use Rattle.dwz_graph.specs.Files.{AreKept, docs_of}
use Rattle.dwz_groups.specs.declared.tops.Tops.{Tops}
use Rattle.dwz_graph.specs.declared.index.TopEntry.{TopEntry}
use Rattle.dwz_graph.specs.Index.{Index}
use Rattle.dwz_graph.specs.Indexed.{AreIndexes}
use Rattle.dwz_def_reading.specs.Documents.{Attr}
use Rattle.dwz_def_reading.specs.Meanings.{number_of}
use Rattle.dwz_layout.specs.declared.known.Row.{Row}
use Rattle.dwz_def_reading.specs.Lists.{Each}
use Rattle.dwz_layout_input.specs.Roots.{root_line}

-- files that are kept, their indexes, and rows of their tops, behind which others may stand
pub record KnowsTops (contents : List (List ℕ)) (files : List File) (indexes : List Index) (tops : Tops) : Type 0 where
  pub kept : AreKept contents files
  pub indexed : AreIndexes (docs_of contents) indexes
  pub first : StandFirst (units_of (docs_of contents)) tops

-- the top stands there
pub record IsPlaced (contents : List (List ℕ)) (files : List File) (t : Top) (p : Row) : Type 0 where
  pub bytes : List ℕ
  pub f : File
  pub x : Index
  pub k : ℕ
  pub e : TopEntry
  pub got : slice_get files p.file ≡ Some f
  pub among : IsFileAmong contents p.file bytes f x
  pub entry : e.entry ≡ p.entry
  pub is : IsTopOf contents p.file bytes f x among.kept.read.doc k e t

abbrev pub IsPlacedAt : List (List ℕ) → List File → Top → Option Row → Type 0
IsPlacedAt contents files t None = ⊥
IsPlacedAt contents files t (Some p) = IsPlaced contents files t p

-- these are tops with these numbers
abbrev pub AreTops : List (FileUnit EntryName) → List Top → List ℕ → Type 0
AreTops units [] [] = Unit {0}
AreTops units (t ∷ ts) (n ∷ numbers) = (slice_get (tops_of units) n ≡ Some t) × AreTops units ts numbers
AreTops units _ _ = ⊥

-- ---- an offset of a line table

-- the offset that an attribute of form sec_offset (17) gives
abbrev pub LineIs : RawAttr → Option ℕ → Type 0
LineIs a None = a.pair.form ≡ 0x17 → ⊥
LineIs a (Some n) = (a.pair.form ≡ 0x17) × (number_of a.raw ≡ pos n)

abbrev pub LineOf : Option RawAttr → Option ℕ → Type 0
LineOf None line = line ≡ None
LineOf (Some a) line = LineIs a line

-- the same of an attribute of a document
abbrev pub SaysLine : Option (Attr EntryName) → Option ℕ → Type 0
SaysLine None line = line ≡ None
SaysLine (Some a) None = a.form ≡ 0x17 → ⊥
SaysLine (Some a) (Some n) = (a.form ≡ 0x17) × (a.raw ≡ pos n)

-- the roots of their units say that
abbrev pub HaveLine : List (FileUnit EntryName) → List Top → Option ℕ → Type 0
HaveLine units ts line = Each (λ t. SaysLine (root_line units t) line) ts
