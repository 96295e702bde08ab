-- What is written of a value besides the entries that it names, and which these are.
use Rattle.std.specs.Prelude.{◌≡◌, ℕ, Bool, true, false, List, [], ◌++◌, length, Option, Some, None}
use Rattle.dwz_label_entries.specs.declared.named.Named.{Named}
use Rattle.dwz_label_entries.specs.declared.named.Named.TheVariants.{Next, Kept}
use Rattle.dwz_def_reading.specs.Entries.{RawAttr}
use Rattle.dwz_label.specs.Labels.{plain_label}
use Rattle.dwz_def_reading.specs.declared.exprs.Operand.{Operand}
use Rattle.dwz_def_reading.specs.Documents.{Value}
use Rattle.dwz_def_reading.specs.Exprs.{first_unnamed}
use Rattle.dwz_def_reading.specs.LineTables.{FileTable}
use Rattle.dwz_def_reading.specs.Meanings.{MeaningContext}
use Rattle.dwz_def_reading.specs.Classes.{OfConstant, OfExpression, OfInfoEntry, OfListIndex, OfOffset, OfUnitEntry}
use Rattle.dwz_def_reading.specs.Classes.{Class}
use Rattle.dwz_def_reading.specs.Meanings.{loclists_base, stmt_list, str_offsets_base, targets}
use Rattle.dwz_graph.specs.Here.{Here}
use Rattle.dwz_graph.specs.InputSections.{InputSections}
use Rattle.dwz_graph.specs.FileRows.{HasTable}
use Rattle.dwz_graph.specs.Named.{value_refs}
use Rattle.dwz_graph.specs.Operands.{is_named}
use Rattle.dwz_graph.specs.Parts.{numbers_file}
use Rattle.dwz_graph.specs.Resolved.{sources_view}

-- what is kept of a unit says what its values stand in, in a file without a supplementary one
pub record KnowsScope (sections : InputSections) (here : Here) (s : MeaningContext ℕ) : Type 0 where
  pub sources : s.around.sources ≡ sources_view sections
  pub alone : s.around.common ≡ None
  pub offsets : here.offsets ≡ str_offsets_base s
  pub lists : here.lists ≡ loclists_base s

-- the unit's line table is that with a number; or there is none, or the value isn't the number of a file
abbrev pub KnowsLine : MeaningContext ℕ → RawAttr → List FileTable → Option ℕ → Type 0
KnowsLine s a tables None = numbers_file a ≡ true → stmt_list s ≡ None
KnowsLine s a tables (Some number) = (place : ℕ) × (stmt_list s ≡ Some place) × HasTable s.around.sources tables place number

-- values of a class that name no entry, have no expression, and don't depend on the attribute
abbrev pub is_simple : Class → Bool
is_simple OfConstant = false
is_simple OfOffset = false
is_simple OfUnitEntry = false
is_simple OfInfoEntry = false
is_simple OfExpression = false
is_simple OfListIndex = false
is_simple _ = true

-- The entries that it names are so many of the references that are kept in order; or those of these operands, which aren't among
-- the references, and each of which names one.
abbrev pub NamesSo : MeaningContext ℕ → Value ℕ → List Operand → Named → Type 0
NamesSo s v operands (Next count) = (value_refs v ≡ v.refs) × (length v.refs ≡ count)
NamesSo s v operands Kept = (value_refs v ≡ []) × (v.refs ≡ targets s operands) × (first_unnamed (is_named s) operands ≡ None)

pub record TellsPlain (s : MeaningContext ℕ) (v : Value ℕ) (operands : List Operand) (old new : List ℕ) (named : Named) : Type 0 where
  pub bytes : new ≡ old ++ plain_label v.plain
  pub names : NamesSo s v operands named
