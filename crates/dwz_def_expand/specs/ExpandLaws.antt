-- Laws on what is written of a file without its partial units.
use Rattle.std.specs.Prelude.{◌≡◌, ◌↔◌, ◌⊎◌, ℕ, List, map, Bool, true, Some}
use Rattle.dwz_def_reading.specs.Refusal.{Refusal}
use Rattle.dwz_def_reading.specs.Documents.{Compile, DwUnit, Node, unit_map}
use Rattle.dwz_def_reading.specs.Entries.{RawEntry}
use Rattle.dwz_def_reading.specs.FirstOf.{OfFirst}
use Rattle.dwz_def_reading.specs.Lists.{Each, In}
use Rattle.dwz_def_reading.specs.Meanings.{scope_of}
use Rattle.dwz_def_reading.specs.Places.{at_file}
use Rattle.dwz_def_reading.specs.Units.{RawUnit}
use Rattle.dwz_def_tops.specs.Lists.{NoneTwice}
use Rattle.dwz_def_tops.specs.Seen.{Closed, IsChild, IsImport, IsPartial}
use Rattle.dwz_def_tops.specs.Shown.{units_keys}
use Rattle.dwz_def_cross.specs.Tops.{WithCommon, units_with_common}
use Rattle.dwz_def_expand.specs.Chosen.{Choice}
use Rattle.dwz_def_expand.specs.OneFile.{IsStoredIn, OneFile, ReadsOne, around, attr_of, part, said_by_file, same_place, stored_attr}
use Rattle.dwz_def_expand.specs.Output.{ExpandRefusal, SiteRefusal, forms, sites_of_file}
use Rattle.dwz_def_expand.specs.Refusals.{AllCopied}
use Rattle.dwz_def_expand.specs.Source.{expanded, source_unit, source_units}

-- a test tells places
pub record IsTest {P : Type 0} (same : P → P → Bool) : Type 0 where
  pub yes : (p q : P) → same p q ≡ true → p ≡ q
  pub no : (p : P) → same p p ≡ true

-- but for the numbers of units each entry is its source: it has the source's tag, attributes and children, and each place in it is that of a
-- source
abbrev pub SourceLaw : Type 0 → Type 0
SourceLaw P = (same : P → P → Bool) (w : WithCommon P) → map (unit_map (λ k. k.source)) (expanded same w) ≡ source_units same w

-- what stands in a compile unit after: a child of its root that imports no partial unit, or one of the root of a partial unit that is imported
abbrev pub IsChildAfter : {P : Type 0} → List (DwUnit P) → DwUnit P → Node P → Type 0
IsChildAfter {P} units u e =
    (IsChild e u.below × ((v : DwUnit P) → ¬ IsImport units e v))
    ⊎ ((d : Node P) × (v : DwUnit P) × IsChild d u.below × IsImport units d v × IsChild e v.below)

abbrev pub ChildrenLaw : Type 0 → Type 0
ChildrenLaw P =
    (same : P → P → Bool) (units : List (DwUnit P)) (u : DwUnit P) → IsTest same → NoneTwice (units_keys units) → u.kind ≡ Compile → (e : Node P)
    → IsChild e (source_unit same units u).below ↔ IsChildAfter units u e

-- no name stands twice in the new file, no unit of it is partial, and each reference names an entry of it
pub record IsWhole {P : Type 0} (same : P → P → Bool) (w : WithCommon P) : Type 0 where
  pub apart : NoneTwice (units_keys (expanded same w))
  pub kinds : Each (λ u. ¬ IsPartial u.kind) (expanded same w)
  pub closed : Closed (expanded same w)

abbrev pub WholeLaw : Type 0 → Type 0
WholeLaw P =
    (same : P → P → Bool) (c : Choice P) (w : WithCommon P) → IsTest same → NoneTwice (units_keys (units_with_common w)) → AllCopied same c w
    → IsWhole same w

-- ---- of a file that reads

-- at most one refusal is the first
abbrev pub OneExpandRefusalLaw : Type 0
OneExpandRefusalLaw = (f : OneFile) (p q : Refusal) → ExpandRefusal f p → ExpandRefusal f q → p ≡ q

-- each value of each source can be copied, or not each can, and there is a first that refuses the file
abbrev pub CopiedLaw : Type 0
CopiedLaw =
    (f : OneFile) → AllCopied same_place (forms f) (said_by_file f)
    ⊎ ((q : Refusal) × OfFirst (SiteRefusal f) (sites_of_file f) q × ¬ AllCopied same_place (forms f) (said_by_file f))

-- where nothing refuses it, each value of each source can be copied, and the new file is whole
abbrev pub FileLaw : Type 0
FileLaw =
    (f : OneFile) → ReadsOne f → ((q : Refusal) → ¬ ExpandRefusal f q) → AllCopied same_place (forms f) (said_by_file f) × IsWhole same_place (said_by_file f)

-- in a file that reads the attributes of an entry, as they are stored, are those of the entry at its place
abbrev pub StoredLaw : Type 0
StoredLaw =
    (f : OneFile) → ReadsOne f → (number : ℕ) (u : RawUnit) (e : RawEntry) → In u (part f number).raw → IsStoredIn e u → (index : ℕ)
    → stored_attr f (at_file number e.at) index ≡ attr_of (scope_of (around f number) u) index (Some e)
