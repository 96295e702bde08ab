-- What a plan asks for is known of the one file of a graph.
use Rattle.std.proofs.Common.{◌≡◌, Bor, Option, length, ℕ, subst}
use Rattle.std.specs.Option.{option_map}
use Rattle.dwz_def_cross.specs.Tops.{WithCommon}
use Rattle.dwz_unit.specs.Rows.{Source, units_of}
use Rattle.dwz_graph.specs.declared.file.File.{File}
use Rattle.dwz_graph.specs.Files.{FilesRead}
use Rattle.dwz_law_check.proofs.Placed.{units_beside}
use Rattle.dwz_imports.specs.Said.{SaysBeside, raw_beside}
use Rattle.dwz_expand_sources.specs.Sources.{all_entries}
use Rattle.dwz_expand_passes.specs.Faults.{count_in}
use Rattle.dwz_expand_layout.specs.Shown.{keys_of}
use Rattle.dwz_expand_passes.specs.Numbered.{key_in}
use Rattle.dwz_expand.specs.OneKnown.{CanBePlanned, IsOneKnown}
use Rattle.dwz_expand.specs.declared.files.SourceFiles.{SourceFiles}
use Rattle.dwz_expand.proofs.PlanLemmas.{keys_known}

pub sources_known : (own : File) (common : Option (Bor File)) (w : WithCommon ℕ) → CanBePlanned own (option_map (λ f. f.now) common) w
    → SaysBeside (units_of own.units) (raw_beside (option_map (λ f. f.now.units) common)) w
sources_known own common w k = subst (λ (o : Option Source). SaysBeside (units_of own.units) (raw_beside o) w) (units_beside common) k.says

pub entries_known : (r : FilesRead) (own : File) (common : Option File) (s : SourceFiles) → (k : IsOneKnown r own common s) → length (all_entries k.w) ≡ count_in s.own s.common
entries_known r own common s k = (k.knows (keys_of (key_in k.w)) (keys_known k.w)).many
