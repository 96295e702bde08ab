-- The operands of copied entries with their new numbers (DWARF 5, 2.5 and 7.7.1): where the copy stands that they name, counted from where
-- their unit begins, or from the first byte of `.debug_info`.
use Rattle.std.specs.Prelude.{ℕ, ◌-◌, List, [], map, slice_index, slice_index_or, if◌then◌else◌}
use Rattle.std.specs.List.{flat_map}
use Rattle.dwz_def_expand.specs.OneFile.{OneFile}
use Rattle.dwz_def_expand.specs.Output.{spoken_in}
use Rattle.dwz_def_encoding.specs.Writing.{base_place}
use Rattle.dwz_def_reading.specs.declared.exprs.Operand.{Operand}
use Rattle.dwz_def_reading.specs.PatchedLists.{with_number}
use Rattle.dwz_expand_layout.specs.Laid.{Made}
use Rattle.dwz_expand_layout.specs.declared.entries.NewOperand.{NewOperand}
use Rattle.dwz_expand.specs.declared.narrow.CopiedPlaces.{CopiedPlaces}
use Rattle.dwz_expand_passes.specs.Noted.{Noted}
use Rattle.dwz_expand_sections.specs.Narrow.{FirstPlace, operand_after}

-- where the new unit with a number begins
abbrev pub start_of : Made → ℕ → ℕ
start_of made unit = (slice_index_or made.units unit (record { at = 0; end = 0; table = 0 })).at

-- an operand of a unit that begins there
abbrev pub told : Made → ℕ → NewOperand → Operand
told made start o = with_number (λ at. slice_index made.places o.copy - base_place start o.operand.base) o.operand

-- those of a copied entry
abbrev pub told_of : Made → Noted → List Operand
told_of made s = map (told made (start_of made s.unit)) s.operands

-- those of entries of the file, and of entries of the common one
abbrev pub own_told : Made → List Noted → List Operand
own_told made given = flat_map (λ s. if s.common then [] else told_of made s) given

abbrev pub common_told : Made → List Noted → List Operand
common_told made given = flat_map (λ s. if s.common then told_of made s else []) given

-- the places are those of the first of them that are too narrow
pub record AreFirst (made : Made) (given : List Noted) (places : CopiedPlaces) : Type 0 where
  pub own : FirstPlace (own_told made given) places.own
  pub common : FirstPlace (common_told made given) places.common

-- ---- of a file

-- The places are those of the first operands that are too narrow, of the expressions of values: of those whose sources are in the file, and
-- of those whose sources are in its common one.
pub record AreFirstOf (f : OneFile) (places : CopiedPlaces) : Type 0 where
  pub own : FirstPlace (map (operand_after f) (spoken_in f 0)) places.own
  pub common : FirstPlace (map (operand_after f) (spoken_in f 1)) places.common
