-- The sections that are written of a file without its partial units, and their first refusal.
use Rattle.std.specs.Prelude.{◌≡◌, ℕ, suc, ◌-◌, ◌≤◌, List, [], ◌∷◌, ◌++◌, get_or, map, Option, Some, None, ◌==◌, if◌then◌else◌}
use Rattle.dwz_def_reading.specs.Fault.{Fault}
use Rattle.dwz_def_reading.specs.Refusal.{Refusal}
use Rattle.dwz_def_reading.specs.Sections.{Sections}
use Rattle.dwz_def_reading.specs.Documents.{DwUnit}
use Rattle.dwz_def_reading.specs.declared.exprs.Operand.{Operand}
use Rattle.dwz_def_reading.specs.Files.{debug_aranges, sets_said, sources_of}
use Rattle.dwz_def_reading.specs.FirstOf.{OfFirst, OrElse}
use Rattle.dwz_def_reading.specs.Lists.{In}
use Rattle.dwz_def_reading.specs.NamedLists.{list_of_attr}
use Rattle.dwz_def_reading.specs.PatchedLists.{with_number, with_operands}
use Rattle.dwz_def_reading.specs.Patching.{with_units}
use Rattle.dwz_def_reading.specs.Places.{Place, at_file}
use Rattle.dwz_def_reading.specs.Ranges.{RangeSet}
use Rattle.dwz_def_reading.specs.Shared.{operands_in_lists}
use Rattle.dwz_def_encoding.specs.Meant.{led_to}
use Rattle.dwz_def_encoding.specs.Writing.{Numbering, base_place}
use Rattle.dwz_def_output.specs.Changed.{changes_by}
use Rattle.dwz_def_output.specs.Contents.{if_other, sets_in}
use Rattle.dwz_def_output.specs.Refusals.{InFile, IsLargeSection, IsOver, narrow_at, operands_of_attr}
use Rattle.dwz_def_cross.specs.Tops.{whole_units}
use Rattle.dwz_def_expand.specs.Chosen.{Choice, choice}
use Rattle.dwz_def_expand.specs.OneFile.{OneFile, StoredAttr, said_by_file, same_place, stored_attr, stored_where}
use Rattle.dwz_def_expand.specs.Refusals.{Site, SiteFault, sites}
use Rattle.dwz_def_expand.specs.Source.{Copy, copy, copy_for, source_places}
use Rattle.dwz_def_expand.specs.Written.{expanded_sections, expanded_places}

-- ---- where things stand after

abbrev pub forms : OneFile → Choice Place
forms f = choice same_place (said_by_file f) (sources_of f.file.bytes)

-- the sources of the new units, and their values
abbrev pub sources_by_file : OneFile → List (List Place)
sources_by_file f = source_places same_place (said_by_file f)

abbrev pub sites_of_file : OneFile → List (Site Place)
sites_of_file f = sites same_place (said_by_file f)

abbrev pub new_places : OneFile → Numbering (Copy Place)
new_places f = expanded_places same_place (forms f) (said_by_file f)

-- the units that aren't partial
abbrev pub wholes : OneFile → List (DwUnit Place)
wholes f = whole_units f.file.doc.units

-- the number of the one that begins at a place, where the first of these has that number
unfoldable pub unit_number : ℕ → List (DwUnit Place) → ℕ → ℕ
unit_number n [] at = n
unit_number n (u ∷ units) at = if u.at.at == at then n else unit_number (suc n) units at

abbrev pub number_of_unit : OneFile → ℕ → ℕ
number_of_unit f at = unit_number 0 (wholes f) at

-- where the unit with a number begins after
abbrev pub new_start : OneFile → ℕ → ℕ
new_start f n = (new_places f).place (copy n (get_or (map (λ u. u.at) (wholes f)) n (at_file 0 0)))

-- ---- operands (2.5)

-- an operand of a value in the unit with that number, and the entry that it named
pub record Spoken : Type 0 where
  pub unit : ℕ
  pub operand : Operand
  pub target : Place

-- its new number: that of what stands for the entry
abbrev pub number_of_operand : OneFile → Spoken → ℕ
number_of_operand f o = (new_places f).place (copy_for same_place (sources_by_file f) o.unit o.target) - base_place (new_start f o.unit) o.operand.base

-- those of an expression, and those of a location list
abbrev pub in_expression : StoredAttr → List Operand
in_expression v = operands_of_attr v.scope v.attr

abbrev pub in_list : StoredAttr → List Operand
in_list v = map (λ o. o.operand) (operands_in_lists (list_of_attr v.scope v.attr))

abbrev pub in_value : (StoredAttr → List Operand) → Site Place → Option StoredAttr → List Spoken
in_value operands s None = []
in_value operands s (Some v) =
    map (λ o. record { unit = s.unit; operand = o; target = at_file s.source.file (led_to v.scope.unit o) }) (operands v)

-- those of the values whose sources are in the file with that number, with one for each copy
unfoldable pub in_values : OneFile → (StoredAttr → List Operand) → ℕ → List (Site Place) → List Spoken
in_values f operands file [] = []
in_values f operands file (s ∷ sites) =
    (if s.source.file == file then in_value operands s (stored_attr f s.source s.index) else []) ++ in_values f operands file sites

abbrev pub spoken_in : OneFile → ℕ → List Spoken
spoken_in f file = in_values f in_expression file (sites_of_file f)

-- the common file has no location lists
abbrev pub in_lists : OneFile → List Spoken
in_lists f = in_values f in_list 0 (sites_of_file f)

-- ---- sections

-- `.debug_loclists` with the new numbers (7.7.3)
unfoldable pub new_lists : OneFile → List ℕ
new_lists f = with_operands (map (λ o. with_number (λ at. number_of_operand f o) o.operand) (in_lists f)) (sources_of f.file.bytes).lists

abbrev pub sets : OneFile → List RangeSet
sets f = sets_in (sets_said f.file.bytes f.file.raw)

-- `.debug_aranges` with the new offsets of units (6.1.2)
unfoldable pub new_ranges : OneFile → List ℕ
new_ranges f = with_units (sets f) (map (λ s. new_start f (number_of_unit f s.unit)) (sets f)) (debug_aranges f.file.bytes)

-- The sections of the new file. None stands for one that isn't there or keeps its bytes.
unfoldable pub new_sections : OneFile → Sections
new_sections f = record {
  info = (expanded_sections same_place (forms f) (said_by_file f)).info;
  «abbrev» = (expanded_sections same_place (forms f) (said_by_file f)).abbrevs;
  strs = None;
  offsets = None;
  line = None;
  loclists = if_other (sources_of f.file.bytes).lists (new_lists f);
  aranges = if_other (debug_aranges f.file.bytes) (new_ranges f);
}

-- ---- refusals

-- the value can't be copied; the fault is in the file of its source
abbrev pub SiteRefusal : OneFile → Site Place → Refusal → Type 0
SiteRefusal f s = InFile (λ file. SiteFault same_place (sources_by_file f) (forms f) (stored_where f) s) s.source.file

-- the new number of the operand needs more bytes than it has
abbrev pub IsTooNarrow : OneFile → Spoken → Type 0
IsTooNarrow f o = IsOver o.operand.uleb o.operand.width (number_of_operand f o)

-- the first of these operands of a section, by its place, that is so narrow
pub record FirstTooNarrow (f : OneFile) (section : ℕ) (operands : List Spoken) (fault : Fault) : Type 0 where
  pub one : Spoken
  pub there : In one operands
  pub narrow : IsTooNarrow f one
  pub least : (o : Spoken) → In o operands → IsTooNarrow f o → one.operand.at ≤ o.operand.at
  pub is_fault : fault ≡ narrow_at section one.operand.at

-- of the values of a file
abbrev pub NarrowIn : OneFile → ℕ → Refusal → Type 0
NarrowIn f = InFile (λ file. FirstTooNarrow f 1 (spoken_in f file))

abbrev pub NarrowInLists : OneFile → Refusal → Type 0
NarrowInLists f = InFile (λ file. FirstTooNarrow f 7 (in_lists f)) 0

-- a section has too many bytes
abbrev pub LargeRefusal : OneFile → Refusal → Type 0
LargeRefusal f = InFile (λ file. OfFirst IsLargeSection (changes_by (new_sections f) None).new) 0

-- The first refusal of a file that reads: of the first value that can't be copied; or else of an operand, in the values of the file, in its
-- location lists, or in the values of the common file; or else of a section.
abbrev pub ExpandRefusal : OneFile → Refusal → Type 0
ExpandRefusal f =
    OrElse (OfFirst (SiteRefusal f) (sites_of_file f))
    (OrElse (NarrowIn f 0) (OrElse (NarrowInLists f) (OrElse (NarrowIn f 1) (LargeRefusal f))))
