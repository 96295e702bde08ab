-- The operands of the location lists that the values of a copied entry name, with their new numbers (DWARF 5, 2.6.2 and 7.7.3).
use Rattle.std.specs.Prelude.{◌≡◌, ℕ, ◌<◌, ◌≤◌, List, [], ◌∷◌, ◌++◌, length, map, Ok}
use Rattle.dwz_def_reading.specs.declared.exprs.Operand.{Operand}
use Rattle.dwz_def_reading.specs.Documents.{Value}
use Rattle.dwz_def_reading.specs.Entries.{RawAttr}
use Rattle.dwz_def_reading.specs.Lists.{In}
use Rattle.dwz_def_reading.specs.Meanings.{Around, MeaningContext, scope_of, target_of}
use Rattle.dwz_def_reading.specs.Meant.{meaning}
use Rattle.dwz_def_reading.specs.NamedLists.{list_of_attr}
use Rattle.dwz_def_reading.specs.Places.{at_file}
use Rattle.dwz_def_reading.specs.Shared.{operands_in_lists}
use Rattle.dwz_def_reading.specs.Units.{RawUnit, entries_in}
use Rattle.dwz_def_cross.specs.Tops.{WithCommon}
use Rattle.dwz_def_encoding.specs.Meant.{led_to}
use Rattle.dwz_def_expand.specs.OneFile.{OneFile}
use Rattle.dwz_def_expand.specs.Output.{Spoken}
use Rattle.dwz_def_expand.specs.Refusals.{IsLost}
use Rattle.dwz_def_expand.specs.Source.{source_places}
use Rattle.dwz_graph.specs.Resolved.{IsHere}
use Rattle.dwz_expand_sources.specs.Imports.{same}
use Rattle.dwz_expand_sources.specs.Rows.{AreCopies}
use Rattle.dwz_expand_layout.specs.Laid.{layout_view}
use Rattle.dwz_expand_passes.specs.declared.new_file.NewFile.{NewFile}
use Rattle.dwz_expand_passes.specs.Passes.{IsReady, entry_many}
use Rattle.dwz_expand_sections.specs.Narrow.{operand_after}
use Rattle.dwz_expand.specs.Units.{IsLaidOf, IsOfOne}
use Rattle.dwz_expand_passes.specs.Files.{around_beside, common_of, raw_in}
use Rattle.dwz_expand.specs.declared.entry.AtUnit.{AtUnit}

-- what surrounds the units of the file
abbrev pub own_around : NewFile → Around ℕ
own_around x = around_beside x.own (common_of x.common)

abbrev pub own_scope : NewFile → RawUnit → MeaningContext ℕ
own_scope x u = scope_of (own_around x) u

-- the operands of the list that a value names
abbrev pub list_operands : MeaningContext ℕ → RawAttr → List Operand
list_operands s a = map (λ o. o.operand) (operands_in_lists (list_of_attr s a))

-- one of a value in the new unit with a number, which comes of the unit at a place
abbrev pub spoken_at : ℕ → ℕ → Operand → Spoken
spoken_at n unit o = record { unit = n; operand = o; target = at_file 0 (led_to unit o) }

-- with their new numbers
abbrev pub told_at : OneFile → ℕ → MeaningContext ℕ → List Operand → List Operand
told_at f n s operands = map (λ o. operand_after f (spoken_at n s.unit o)) operands

-- those of several values
unfoldable pub told_in : OneFile → ℕ → MeaningContext ℕ → List RawAttr → List Operand
told_in f n s [] = []
told_in f n s (a ∷ attrs) = told_at f n s (list_operands s a) ++ told_in f n s attrs

-- what is kept of the new unit at hand can be looked up
pub record CanTell (x : AtUnit) : Type 0 where
  pub ready : IsReady x.file.now
  pub many : length x.copies.now.first ≡ entry_many x.file.now
  pub copies : (roots : List ℕ) × AreCopies x.file.now.sources.now roots x.copies.now
  pub at : x.copies.now.unit ≡ x.unit
  pub inside : x.unit < length x.file.now.sources.now.units
  pub here : x.here.now.end ≤ entries_in (raw_in x.file.now.own)

-- it is of the file, whose new units are laid so; and the values at hand stand in that unit
pub record Tells (f : OneFile) (x : AtUnit) (u : RawUnit) : Type 0 where
  pub known : IsOfOne f x.file.now
  pub laid : IsLaidOf f x.file.now (layout_view x.layout.now)
  pub here : IsHere (raw_in x.file.now.own) u x.here.now

-- no new unit has the entry that the operand names
abbrev pub LosesOne : NewFile → WithCommon ℕ → ℕ → RawUnit → Operand → Type 0
LosesOne x w n u o = IsLost same (source_places same w) n (target_of (own_scope x u) o)

-- each names one that has a copy
abbrev pub AllKept : NewFile → WithCommon ℕ → ℕ → RawUnit → List Operand → Type 0
AllKept x w n u operands = (o : Operand) → In o operands → ¬ LosesOne x w n u o

-- each value means something, and what its list names has copies
abbrev pub CanBeRead : NewFile → WithCommon ℕ → ℕ → RawUnit → List RawAttr → Type 0
CanBeRead x w n u [] = Unit {0}
CanBeRead x w n u (a ∷ attrs) =
    ((v : Value ℕ) × (meaning (own_scope x u) a ≡ Ok v) × AllKept x w n u (list_operands (own_scope x u) a)) × CanBeRead x w n u attrs
