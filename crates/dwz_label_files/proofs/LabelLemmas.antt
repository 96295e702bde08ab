-- Labels that were written one by one are those of all tops that may move, each at its top's number.
use Rattle.std.proofs.Common.{◌≡◌, ℕ, ◌<◌, All, Bool, true, false, List, [], length, map, get_or, Some, slice_get, ap, subst, ◌∙◌, arith}
use Rattle.std.specs.Prelude.{slice_index_or}
use Rattle.std.specs.List.{range_with_len}
use Rattle.std.proofs.lemmas.Bool.{cond-true}
use Rattle.std.proofs.lemmas.List.{get_or_default}
use Rattle.std.proofs.lemmas.List.FromFn.{get_or-map-range_with_len, length-map-range_with_len}
use Rattle.dwz_def_tops.specs.Spots.{Top, tops_of, units_of}
use Rattle.dwz_def_tops.specs.Deciding.{AreMovable}
use Rattle.dwz_def_tops.proofs.AlikeBound.{movable_decides}
use Rattle.dwz_def_tops.proofs.Targets.{binds_false}
use Rattle.dwz_def_tops.proofs.TopNumbers.{at_number, tops_numbers}
use Rattle.dwz_label_files.specs.Run.{Asked, labels_of, movable_label, movable_labels}
use Rattle.dwz_label_files.specs.Shown.{ShowTargets}
use Rattle.dwz_def_reading.specs.Documents.{Doc}
use Rattle.dwz_def_reading.specs.Lists.{In}
use Rattle.dwz_def_reading.proofs.ListFacts.{got_index_or, got_map}
use Rattle.dwz_graph.specs.Files.{docs_of}
use Rattle.dwz_label.specs.Labels.{label_of}
use Rattle.dwz_label.specs.Shown.{AreShown, nth_label}
use Rattle.dwz_label.proofs.NodeLooks.{top_below}
use Rattle.dwz_groups.specs.declared.tops.Tops.{Tops}
use Rattle.dwz_groups.specs.Spreading.{AreInside}
use Rattle.dwz_move_files.specs.Outlines.{AreTops}
use Rattle.dwz_plan.proofs.ListFacts.{all_from_in}

abbrev pub asked : List (List ℕ) → List Bool → Asked
asked contents movable = record { contents = contents; movable = movable }

pub all_labels : (w : Asked) (contents : List (List ℕ)) (movable : List Bool) (count : ℕ) → w ≡ asked contents movable
    → count ≡ length (tops_of (units_of (docs_of w.contents))) → map (movable_label w.contents w.movable) (range_with_len 0 count) ≡ movable_labels contents movable
all_labels w contents movable count is many =
    ap (λ (n : ℕ). map (movable_label w.contents w.movable) (range_with_len 0 n)) many ∙ (λ i. movable_labels ((is i).contents) ((is i).movable))

pub all_many : (contents : List (List ℕ)) (movable : List Bool) → length (movable_labels contents movable) ≡ length (tops_of (units_of (docs_of contents)))
all_many contents movable = length-map-range_with_len (movable_label contents movable) 0 (length (tops_of (units_of (docs_of contents))))

-- ---- by numbers

label_at : (contents : List (List ℕ)) (t : Top) → In t (tops_of (units_of (docs_of contents))) → nth_label (labels_of contents) t.number ≡ label_of t
label_at contents t there =
    let tops = tops_of (units_of (docs_of contents)) in
    let r = at_number 0 tops (tops_numbers (units_of (docs_of contents))) t there in
    let at : r.0 ≡ t.number = (let e = r.2 in omega arith) in
    got_index_or (labels_of contents) t.number (label_of t) [] (got_map label_of tops t.number t (subst (λ (k : ℕ). slice_get tops k ≡ Some t) at r.1))

-- of a top that may move its label
movable_at : (contents : List (List ℕ)) (movable : List Bool) (t : Top) → In t (tops_of (units_of (docs_of contents))) → slice_index_or movable t.number false ≡ true
    → nth_label (movable_labels contents movable) t.number ≡ label_of t
movable_at contents movable t there free =
    let units = units_of (docs_of contents) in
    let low = top_below units t there in
    get_or-map-range_with_len (movable_label contents movable) 0 (length (tops_of units)) t.number t.number [] low (omega arith)
    ∙ cond-true (slice_index_or movable t.number false) (nth_label (labels_of contents) t.number) [] free
    ∙ label_at contents t there

-- with flags and targets that are those of the tops
pub all_shown : (contents labels : List (List ℕ)) (movable : List Bool) (targets : List (List ℕ)) → labels ≡ movable_labels contents movable
    → length targets ≡ length (tops_of (units_of (docs_of contents))) → ShowTargets (units_of (docs_of contents)) movable targets
    → AreShown (units_of (docs_of contents)) labels movable targets
all_shown contents labels movable targets are many h =
    let units = units_of (docs_of contents) in
    record {
      flags = h.flags;
      labels_len = ap (λ (w : List (List ℕ)). length w) are ∙ all_many contents movable;
      labels_are = λ t there free. (
          let flag = h.flags.each t there ∙ (movable_decides units t there).1 free in
          ap (λ (w : List (List ℕ)). nth_label w t.number) are ∙ movable_at contents movable t there flag);
      targets_len = many;
      targets_are = h.are;
    }

-- ---- targets

-- those of the tops of files
pub tops_show : (docs : List (Doc ℕ)) (tops : Tops) (movable : List Bool) → AreTops docs tops → AreMovable (units_of docs) movable → ShowTargets (units_of docs) movable tops.targets
tops_show docs tops movable are flags = record { flags = flags; are = λ t there m. are.targets t there (binds_false (units_of docs) t there m) }

pub targets_low : (targets : List (List ℕ)) → AreInside targets → All (λ ts. All (λ t. t < length targets) ts) targets
targets_low targets inside k d lt =
    subst (λ (ts : List ℕ). All (λ t. t < length targets) ts) (get_or_default targets k [] d lt)
    (all_from_in (λ t. t < length targets) (get_or targets k []) (λ n there. inside k n there))
