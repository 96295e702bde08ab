-- How many entries files have that are said.
use Rattle.std.proofs.Common.{◌≡◌, ℕ, List, length, Option, None, Some, ap, ◌∙◌, arith}
use Rattle.std.proofs.lemmas.List.{length-append, length-map}
use Rattle.dwz_expand_sources.specs.Index.{ListedEntry, listed_units}
use Rattle.dwz_def_cross.specs.Tops.{WithCommon}
use Rattle.dwz_def_expand.specs.Refusals.{Where}
use Rattle.dwz_def_reading.specs.Documents.{DwUnit, entries_map, node_map}
use Rattle.dwz_graph.specs.Surroundings.{behind_own}
use Rattle.dwz_expand_sources.specs.Sources.{all_entries}
use Rattle.dwz_expand_passes.proofs.PlacesSaid.{said_many, units_joined, units_mapped}
use Rattle.dwz_expand_passes.specs.Files.{KnowsCommon, around_beside, common_count, common_of, raw_in}
use Rattle.dwz_expand_passes.specs.declared.files.SourceFile.{SourceFile}
use Rattle.dwz_expand_passes.specs.Passes.{Says, entry_many}
use Rattle.dwz_expand_passes.specs.declared.new_file.NewFile.{NewFile}

common_many : (c : Option SourceFile) (common : List (DwUnit ℕ)) (stands : Where ℕ) → KnowsCommon c common stands → length (listed_units common) ≡ common_count c
unfolding listed_units
common_many None common stands is = ap (λ (us : List (DwUnit ℕ)). length (listed_units us)) is
common_many (Some c) common stands k =
    let one : ListedEntry ℕ → ListedEntry ℕ = λ (x : ListedEntry ℕ). (node_map behind_own x.0, entries_map behind_own x.1) in
    ap (λ (us : List (DwUnit ℕ)). length (listed_units us)) k.2
    ∙ ap (λ (l : List (ListedEntry ℕ)). length l) (units_mapped behind_own k.0)
    ∙ length-map (listed_units k.0) one
    ∙ said_many (around_beside c None) (raw_in c) k.0 k.1.means

pub all_many : (x : NewFile) (w : WithCommon ℕ) (stands : Where ℕ) → Says x w stands → length (all_entries w) ≡ entry_many x
all_many x w stands says =
    let own = said_many (around_beside x.own (common_of x.common)) (raw_in x.own) w.own says.own.means in
    let common = common_many x.common w.common stands says.common in
    let joined = ap (λ (l : List (ListedEntry ℕ)). length l) (units_joined w.own w.common) in
    omega (arith, own, common, joined, length-append (listed_units w.own) (listed_units w.common))
