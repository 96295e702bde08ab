-- What is answered of the one file of a graph, written without its partial units (DWARF 5, 3.2.5).
use Rattle.std.specs.Prelude.{◌≡◌, [], ◌∷◌, Result, Ok, Err}
use Rattle.std.specs.Option.{option_map}
use Rattle.dwz_model.specs.declared.fault.GraphErr.{GraphErr}
use Rattle.dwz_model.specs.declared.fault.GraphErr.TheVariants.{NoMemory, Refused}
use Rattle.dwz_model.specs.declared.fault.Refusal.{Refusal}
use Rattle.dwz_model.specs.declared.sections.Sections.{Sections}
use Rattle.dwz_def_reading.specs.Files.{debug_aranges, sources_of}
use Rattle.dwz_def_expand.specs.OneFile.{OneFile, ReadsOne}
use Rattle.dwz_def_expand.specs.Output.{ExpandRefusal, new_sections}
use Rattle.dwz_graph.specs.declared.file.File.{File}
use Rattle.dwz_graph.specs.Files.{FilesRead}
use Rattle.dwz_graph.specs.Resolved.{sources_view}
use Rattle.dwz_unit.specs.Rows.{units_of}
use Rattle.dwz_expand_sections.specs.ListLaws.{AreListed}
use Rattle.dwz_expand_sections.specs.Refusals.{SizeRefusal}

-- the one file of a graph that was read back, and its common file
pub record IsOneOf (r : FilesRead) (f : OneFile) : Type 0 where
  pub reads : ReadsOne f
  pub content : r.back ≡ f.file.bytes ∷ []
  pub common : r.common ≡ option_map (λ c. c.bytes) f.common

-- nothing refuses that file, and these are its new sections; or it is refused with the first of its refusals
abbrev pub AnswersExpand : FilesRead → Result Sections GraphErr → Type 0
AnswersExpand r (Ok s) = (f : OneFile) × IsOneOf r f × ((q : Refusal) → ¬ ExpandRefusal f q) × (s ≡ new_sections f)
AnswersExpand r (Err NoMemory) = Unit {0}
AnswersExpand r (Err (Refused q)) = (f : OneFile) × IsOneOf r f × ExpandRefusal f q

-- ---- of what is kept of a file

-- it is kept of the file
pub record IsFileOf (f : OneFile) (own : File) : Type 0 where
  pub reads : ReadsOne f
  pub raw : f.file.raw ≡ units_of own.units
  pub aranges : own.sections.aranges.now ≡ debug_aranges f.file.bytes
  pub lists : own.sections.lists.now ≡ (sources_of f.file.bytes).lists
  pub sources : sources_view own.sections ≡ sources_of f.file.bytes
  pub listed : AreListed f own.resolved.operands.items

-- of a file whose values can all be copied: no number and no section is too large, and these are its new sections; or it is refused with the
-- first that is
abbrev pub AnswersSizes : OneFile → Result Sections GraphErr → Type 0
AnswersSizes f (Ok s) = ((q : Refusal) → ¬ SizeRefusal f q) × (s ≡ new_sections f)
AnswersSizes f (Err NoMemory) = Unit {0}
AnswersSizes f (Err (Refused q)) = SizeRefusal f q
