-- One more top, root or space of a file was written, and then all.
use Rattle.std.proofs.Common.{◌≡◌, ℕ, ◌+◌, ◌<◌, ◌≤◌, zero, suc, List, [], ◌∷◌, get_or, length, map, take, Option, Some, None, slice_get, refl, sym, subst, ◌∙◌, arith}
use Rattle.std.proofs.lemmas.List.{length-map}
use Rattle.dwz_model.proofs.ListFacts.{got_below, got_there}
use Rattle.dwz_def_reading.specs.Documents.{DwUnit, node_map}
use Rattle.dwz_def_cross.specs.Tops.{CrossTop}
use Rattle.dwz_def_check.specs.CrossLabels.{cross_label, cross_targets, cross_top_map, lone_label, lone_targets}
use Rattle.dwz_def_check.specs.CrossNames.{CrossName, cross_names_from, cross_tops}
use Rattle.dwz_def_check.specs.CrossNodes.{lone_entries}
use Rattle.dwz_groups.specs.declared.groups.Edge.{Edge}
use Rattle.dwz_check_index.specs.declared.index.TopEntry.{TopEntry}
use Rattle.dwz_check_index.specs.Index.{IsTopEntry, ListedEntry, listed_units}
use Rattle.dwz_check_labels.specs.declared.source.Source.{Source}
use Rattle.dwz_check_labels.specs.Both.{KnowsBeside, Named, lone_into, lone_labels, top_labels, top_targets}
use Rattle.dwz_check_labels.specs.Files.{KnowsSource}
use Rattle.dwz_check_labels.specs.Rows.{Adds}
use Rattle.dwz_check_labels.specs.Told.{Tells}
use Rattle.dwz_check_labels.proofs.FileLemmas.{adds_all, adds_next, adds_none, from_empty}

-- the labels of the first so many tops were appended
abbrev pub TopsAdded : (ℕ → CrossName) → List (DwUnit ℕ) → ℕ → (old new : List (List ℕ)) → (before after : List Edge) → Type 0
TopsAdded name said i old new before after =
    Adds (map (λ t. cross_label (cross_top_map name t)) (take i (cross_tops said))) (map (λ t. cross_targets (cross_top_map name t)) (take i (cross_tops said))) old new before after

-- and of the first so many roots and spaces
abbrev pub LonesAdded : (ℕ → CrossName) → List (DwUnit ℕ) → ℕ → (old new : List (List ℕ)) → (before after : List Edge) → Type 0
LonesAdded name said i old new before after =
    Adds (map (λ d. lone_label (node_map name d)) (take i (lone_entries said))) (map (λ d. lone_targets (node_map name d)) (take i (lone_entries said))) old new before after

module _ (x : Source) (said : List (DwUnit ℕ)) (name : ℕ → CrossName) (k : KnowsSource x said name) (old mid new : List (List ℕ)) (before between after : List Edge) where
  pub top_next : (i : ℕ) (top : TopEntry) (none nothing out into label list : List ℕ) → slice_get x.own.index.now.tops i ≡ Some top
      → ((n : ℕ) (t : CrossTop ℕ) → IsTopEntry said (cross_names_from 0 k.own.top said) (listed_units said) n top t
      → Tells (cross_label (cross_top_map name t)) (cross_targets (cross_top_map name t)) none out nothing into)
      → none ≡ [] → nothing ≡ [] → label ≡ out → list ≡ into → TopsAdded name said i old mid before between → Adds (label ∷ []) (list ∷ []) mid new between after
      → TopsAdded name said (i + 1) old new before after
  top_next i top none nothing out into label list found told is_none is_nothing is_label is_list so_far one =
      let lt = got_below x.own.index.now.tops i top found in
      let len = k.own.index.tops.len in
      let there = got_there (cross_tops said) i (omega (arith, lt, len)) in
      let t = told (k.own.top + i) there.0 (k.own.index.tops.each i top there.0 found there.1) in
      adds_next (λ t. cross_label (cross_top_map name t)) (λ t. cross_targets (cross_top_map name t)) (cross_tops said) i there.0 old mid new before between after label list there.1
      (from_empty none out label _ is_none is_label t.bytes) (from_empty nothing into list _ is_nothing is_list t.tops) so_far one

  pub lone_next : (i entry : ℕ) (none nothing out into label list : List ℕ) → slice_get x.own.index.now.lone i ≡ Some entry
      → ((d : ListedEntry ℕ) → slice_get (listed_units said) entry ≡ Some d → Tells (lone_label (node_map name d.0)) (lone_targets (node_map name d.0)) none out nothing into)
      → none ≡ [] → nothing ≡ [] → label ≡ out → list ≡ into → LonesAdded name said i old mid before between → Adds (label ∷ []) (list ∷ []) mid new between after
      → LonesAdded name said (i + 1) old new before after
  lone_next i entry none nothing out into label list found told is_none is_nothing is_label is_list so_far one =
      let lt = got_below x.own.index.now.lone i entry found in
      let len = k.own.index.lone.len in
      let there = got_there (lone_entries said) i (omega (arith, lt, len)) in
      let e = k.own.index.lone.each i entry there.0 found there.1 in
      let t = told (there.0, e.0) e.1 in
      adds_next (λ d. lone_label (node_map name d)) (λ d. lone_targets (node_map name d)) (lone_entries said) i there.0 old mid new before between after label list there.1
      (from_empty none out label _ is_none is_label t.bytes) (from_empty nothing into list _ is_nothing is_list t.tops) so_far one

module _ (x : Source) (said : List (DwUnit ℕ)) (name : ℕ → CrossName) (k : KnowsSource x said name) (old new : List (List ℕ)) (before after : List Edge) where
  pub tops_all : (i : ℕ) → length x.own.index.now.tops ≤ i → TopsAdded name said i old new before after → Adds (top_labels name said) (top_targets name said) old new before after
  tops_all i le h =
      let len = k.own.index.tops.len in
      adds_all (λ t. cross_label (cross_top_map name t)) (λ t. cross_targets (cross_top_map name t)) (cross_tops said) i old new before after (omega (arith, le, len)) h

  pub lones_all : (i : ℕ) → length x.own.index.now.lone ≤ i → LonesAdded name said i old new before after → Adds (lone_labels name said) (lone_into name said) old new before after
  lones_all i le h =
      let len = k.own.index.lone.len in
      adds_all (λ d. lone_label (node_map name d)) (λ d. lone_targets (node_map name d)) (lone_entries said) i old new before after (omega (arith, le, len)) h

-- ---- lists as long as their labels

pub as_many_tops : (name : ℕ → CrossName) (said : List (DwUnit ℕ)) → length (top_labels name said) ≡ length (top_targets name said)
as_many_tops name said = length-map (cross_tops said) (λ t. cross_label (cross_top_map name t)) ∙ sym (length-map (cross_tops said) (λ t. cross_targets (cross_top_map name t)))

pub as_many_lones : (name : ℕ → CrossName) (said : List (DwUnit ℕ)) → length (lone_labels name said) ≡ length (lone_into name said)
as_many_lones name said = length-map (lone_entries said) (λ d. lone_label (node_map name d)) ∙ sym (length-map (lone_entries said) (λ d. lone_targets (node_map name d)))

-- ---- an element by its number

pub found_or : {X : Type 0} (xs : List X) (k : ℕ) (d : X) → k < length xs → slice_get xs k ≡ Some (get_or xs k d)
found_or [] k d lt = absurd (omega arith)
found_or (x ∷ xs) zero d lt = refl
found_or (x ∷ xs) (suc k) d lt = found_or xs k d (omega arith)

-- ---- no common file

pub none_beside : (o : Option Source) (n : Named) → o ≡ None → KnowsBeside o n → n.said ≡ []
none_beside None n is h = h
none_beside (Some x) n is h = absurd cc

added_none : (name : ℕ → CrossName) (old : List (List ℕ)) (before : List Edge) → Adds (top_labels name []) (top_targets name []) old old before before
unfolding cross_tops
added_none name old before = adds_none old before

pub none_added : (name : ℕ → CrossName) (said : List (DwUnit ℕ)) (old : List (List ℕ)) (before : List Edge) → said ≡ [] → Adds (top_labels name said) (top_targets name said) old old before before
none_added name said old before none = subst (λ (us : List (DwUnit ℕ)). Adds (top_labels name us) (top_targets name us) old old before before) (sym none) (added_none name old before)
