-- Which entries of new units are copies of entries of a file and of its common file.
use Rattle.std.specs.Prelude.{◌≡◌, ◌≢◌, ℕ, suc, List, [], ◌∷◌, map, Some, slice_get}
use Rattle.std.specs.List.{flat_map}
use Rattle.dwz_def_cross.specs.CrossSame.{EachTwo}
use Rattle.dwz_def_cross.specs.Tops.{WithCommon, units_with_common, whole_units}
use Rattle.dwz_def_expand.specs.Chosen.{Choice, chosen_attr}
use Rattle.dwz_def_expand.specs.Source.{Copy, copy, copy_for, source_places}
use Rattle.dwz_def_expand.specs.Written.{written}
use Rattle.dwz_def_reading.specs.Documents.{Attr, DwUnit, attr_map, kind_map}
use Rattle.dwz_def_reading.specs.Lists.{Each}
use Rattle.dwz_def_tops.specs.Lists.{NoneTwice}
use Rattle.dwz_def_tops.specs.Shown.{units_keys}
use Rattle.dwz_expand_layout.specs.Shown.{attr_held, held_of}
use Rattle.dwz_expand_layout.specs.Depths.{DeepLine, with_ends}
use Rattle.dwz_expand_layout.specs.Entries.{UnitLines}
use Rattle.dwz_expand_layout.specs.Laws.{AreUnits}
use Rattle.dwz_expand_layout.specs.Shown.{KindShows, keys_of}
use Rattle.dwz_expand_sources.specs.declared.sources.NewUnit.{NewUnit}
use Rattle.dwz_expand_sources.specs.Sources.{AreSources, Sources, in_range, ranges_of}
use Rattle.dwz_expand_sources.specs.Imports.{same}
use Rattle.dwz_expand_layout.specs.Attributes.{OfRoot, OutAttr}
use Rattle.dwz_expand_layout.specs.Lines.{Line}
use Rattle.dwz_expand_passes.specs.Lined.{all_lines}
use Rattle.dwz_expand_passes.specs.Numbered.{key_in}

-- the copy that an entry stands for which the n-th new unit names
abbrev pub named_copy : WithCommon ℕ → ℕ → ℕ → Copy ℕ
named_copy w n place = copy_for same (source_places same w) n place

-- the attributes of the copy of an entry in the n-th new unit
abbrev pub copied_attrs : WithCommon ℕ → Choice ℕ → ℕ → ℕ → List (Attr ℕ) → List (Attr (Copy ℕ))
copied_attrs w c n place attrs = map (chosen_attr c (copy n place)) (map (attr_map (named_copy w n)) attrs)

-- It is the copy of an entry, in the n-th new unit: it stands as deep, and has its tag and what its attributes store.
pub record IsCopyOf (w : WithCommon ℕ) (c : Choice ℕ) (n : ℕ) (d : DeepLine) (l : Line ℕ) : Type 0 where
  pub depth : d.depth ≡ l.depth
  pub tag : d.tag ≡ l.node.tag
  pub attrs : map (attr_held (keys_of (key_in w))) d.attrs ≡ map held_of (copied_attrs w c n l.node.at l.node.attrs)

-- it doesn't name a root by its unit, as no attribute of a new unit does
abbrev pub NamesNoRoot : OutAttr → Type 0
NamesNoRoot a = (unit : ℕ) → a.content ≢ OfRoot unit

-- The n-th new unit has the copies of the sources that a plan has for it.
pub record HasCopies (w : WithCommon ℕ) (s : Sources) (c : Choice ℕ) (n : ℕ) (x : NewUnit) (u : DwUnit ℕ) (o : UnitLines) : Type 0 where
  pub kind : KindShows (key_in w) o.kind (kind_map (named_copy w n) u.kind)
  pub root : Line ℕ
  pub is_root : slice_get (all_lines w) x.root ≡ Some root
  pub deep : List DeepLine
  pub lines : o.lines ≡ with_ends deep
  pub copies : EachTwo (IsCopyOf w c n) deep (root ∷ flat_map (in_range (all_lines w)) (ranges_of s.ranges x))
  pub no_roots : Each (λ d. Each NamesNoRoot d.attrs) deep

-- units one by one, of which the first is the n-th
abbrev pub HaveCopies : WithCommon ℕ → Sources → Choice ℕ → ℕ → List NewUnit → List (DwUnit ℕ) → List UnitLines → Type 0
HaveCopies w s c n [] [] [] = Unit {0}
HaveCopies w s c n (x ∷ xs) (u ∷ us) (o ∷ order) = HasCopies w s c n x u o × HaveCopies w s c (suc n) xs us order
HaveCopies w s c n _ _ _ = ⊥

-- New units that have the copies of a plan's sources show those of the file that is written without its partial units.
abbrev pub CopiesLaw : Type 0
CopiesLaw =
    (w : WithCommon ℕ) (s : Sources) (c : Choice ℕ) (order : List UnitLines) → AreSources w s → NoneTwice (units_keys (units_with_common w))
    → HaveCopies w s c 0 s.units (whole_units w.own) order
    → AreUnits (key_in w) order (written same c w)
