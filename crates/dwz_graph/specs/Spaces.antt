-- Which entries are spaces, as they are stored.
use Rattle.std.specs.Prelude.{◌≡◌, ℕ, Bool, true, false, Option, Some, None, ◌==◌}
use Rattle.dwz_def_reading.specs.Entries.{RawAttr, RawEntry}
use Rattle.dwz_def_reading.specs.Meanings.{MeaningContext, first_raw}
use Rattle.dwz_def_reading.specs.Classes.{OfCommonText, OfText, OfTextBySlot, OfTextInLineStr, OfTextInStr}
use Rattle.dwz_def_reading.specs.Classes.{Class, class_of}
use Rattle.dwz_def_reading.specs.Meanings.{str_offsets_base}
use Rattle.dwz_graph_resolve.specs.declared.sections.InputSections.{InputSections}
use Rattle.dwz_graph_resolve.specs.Resolved.{sources_view}

-- the values of the class are texts
abbrev pub is_text : Class → Bool
is_text OfText = true
is_text OfTextInStr = true
is_text OfTextInLineStr = true
is_text OfTextBySlot = true
is_text OfCommonText = true
is_text _ = false

abbrev pub has_text : Option RawAttr → Bool
has_text None = false
has_text (Some a) = is_text (class_of a.pair.form)

-- a DW_TAG_namespace whose first DW_AT_name has the form of a text
unfoldable pub stored_space : RawEntry → Bool
stored_space e = elim (e.tag == 0x39) as (λ _. Bool) [ true ↦ has_text (first_raw 0x03 e.attrs) | false ↦ false ]

-- the scope of a unit in a file by itself, with these sections, where that is the base of the unit's slots of `.debug_str_offsets`
pub record IsOwn (sections : InputSections) (base : Option ℕ) (s : MeaningContext ℕ) : Type 0 where
  pub sources : s.around.sources ≡ sources_view sections
  pub common : s.around.common ≡ None
  pub base_is : base ≡ str_offsets_base s
