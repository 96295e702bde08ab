-- What is known of two tops that may move, where a chain is found between them.
use Rattle.std.proofs.Common.{◌≡◌, ℕ, ◌<◌, ◌^◌, All, Bool, List, [], get_or, length, sym, ap, subst, ◌∙◌}
use Rattle.dwz_def_reading.specs.Documents.{Doc}
use Rattle.dwz_def_reading.specs.Lists.{In}
use Rattle.dwz_def_tops.specs.Spots.{EntryName, FileUnit, Top, tops_of, units_of}
use Rattle.dwz_def_tops.proofs.Targets.{binds_false}
use Rattle.dwz_groups.specs.declared.tops.Tops.{Tops}
use Rattle.dwz_graph.specs.Files.{docs_of}
use Rattle.dwz_label.specs.Shown.{AreShown}
use Rattle.dwz_label_differences.specs.Told.{IsShort}
use Rattle.dwz_label_files.specs.LeastLaws.{flags_of}
use Rattle.dwz_label_files.specs.Run.{movable_labels}
use Rattle.dwz_label_files.specs.Shown.{ShowTargets}
use Rattle.dwz_label_files.proofs.LabelLemmas.{all_shown}
use Rattle.dwz_move_files.specs.Outlines.{IsOutline}
use Rattle.dwz_nodes_chains.specs.declared.search.Difference.{Difference}
use Rattle.dwz_plan.proofs.ListFacts.{all_from_in}
use Rattle.std.proofs.lemmas.List.{get_or_default}
use Rattle.dwz_explain.specs.Verdicts.{LabelEnds, LeadsApart}
use Rattle.dwz_explain.proofs.ChainTops.{end_label}

-- what an outline says of tops is what is asked of those whose labels are compared
pub flags_show : (docs : List (Doc ℕ)) (tops : Tops) (flags : List Bool) → IsOutline docs tops → flags ≡ flags_of tops → ShowTargets (units_of docs) flags tops.targets
flags_show docs tops flags o same =
    subst (λ (w : List Bool). ShowTargets (units_of docs) w tops.targets) (sym same)
    (record { flags = o.movable; are = λ t there m. o.targets t there (binds_false (units_of docs) t there m) })

pub flags_many : (docs : List (Doc ℕ)) (tops : Tops) (flags : List Bool) → IsOutline docs tops → flags ≡ flags_of tops → length flags ≡ length (tops_of (units_of docs))
flags_many docs tops flags o same = ap (λ (w : List Bool). length w) same ∙ o.movable.len

-- each target is a top
pub targets_low : (docs : List (Doc ℕ)) (tops : Tops) → IsOutline docs tops → All (λ ts. All (λ t. t < length tops.targets) ts) tops.targets
targets_low docs tops o k d lt =
    subst (λ (ts : List ℕ). All (λ t. t < length tops.targets) ts) (get_or_default tops.targets k [] d lt)
    (all_from_in (λ t. t < length tops.targets) (get_or tops.targets k []) (λ n there. o.inside k n there))

pub shown_by : (contents labels : List (List ℕ)) (tops : Tops) (flags : List Bool) → IsOutline (docs_of contents) tops → flags ≡ flags_of tops → labels ≡ movable_labels contents flags
    → AreShown (units_of (docs_of contents)) labels flags tops.targets
shown_by contents labels tops flags o same are = all_shown contents labels flags tops.targets are o.shows.len (flags_show (docs_of contents) tops flags o same)

-- the labels at the end of a chain
pub label_ends : (units : List (FileUnit EntryName)) (labels : List (List ℕ)) (movable : List Bool) (targets : List (List ℕ)) → AreShown units labels movable targets
    → ((t : Top) → In t (tops_of units) → IsShort t) → (x y : Top) (apart : Difference) → LeadsApart units x y apart → All (λ n. n < 2 ^ 32) apart.chain.items → LabelEnds labels apart
label_ends units labels movable targets shown short x y apart h few = record {
  first = h.first;
  second = h.second;
  first_label = end_label units labels movable targets shown h.first h.first_there h.first_moves apart.first h.first_is;
  second_label = end_label units labels movable targets shown h.second h.second_there h.second_moves apart.second h.second_is;
  short = short h.first h.first_there;
  differ = h.differ;
  few = few;
}
