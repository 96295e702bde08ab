-- Labels of files where numbers stand for places are those with the places that have these numbers.
use Rattle.std.proofs.Common.{◌≡◌, ℕ, ◌+◌, List, length, map, refl, sym, ap, subst, ◌∙◌}
use Rattle.std.proofs.lemmas.List.{length-map}
use Rattle.dwz_def_reading.specs.Documents.{DwUnit, Node, node_map, unit_map}
use Rattle.dwz_def_reading.specs.Lists.{In}
use Rattle.dwz_def_reading.specs.Places.{Place}
use Rattle.dwz_def_reading.proofs.ListFacts.{in_left, in_right}
use Rattle.dwz_def_cross.specs.Tops.{CrossTop, WithCommon}
use Rattle.dwz_def_check.specs.CrossLabels.{cross_label, cross_targets, cross_top_map, lone_label, lone_targets}
use Rattle.dwz_def_check.specs.CrossNames.{CrossName, cross_names, cross_names_from, cross_tops}
use Rattle.dwz_def_check.specs.CrossNodes.{AreInLists, lone_entries, new_side, node_count, old_side, tops_before}
use Rattle.dwz_check_index.specs.Both.{with_common}
use Rattle.dwz_check_index.proofs.MapLemmas.{mapped}
use Rattle.dwz_check_labels.specs.Both.{Named, all_labels, all_targets, lone_into, lone_labels, top_labels, top_targets}
use Rattle.dwz_check_labels.specs.FilesSaid.{IsNamed}
use Rattle.dwz_check_labels.proofs.InListLemmas.{in_lists, lone_label_of, lone_targets_of, top_label_of, top_targets_of}
use Rattle.dwz_check_labels.proofs.MapLemmas.{labels_twice, lone_labels_twice, lone_targets_twice, targets_twice}
use Rattle.dwz_check_labels.proofs.PlaceLemmas.{placed_in}
use Rattle.dwz_check_labels.proofs.SideLemmas.{all_long, new_lists, old_lists}

-- what units say with numbers, and what is called what has the place of one
abbrev pub named_by : (Place → CrossName) → (ℕ → Place) → List (DwUnit ℕ) → Named
named_by name f said = record { said = said; name = λ n. name (f n) }

-- ---- of one file

module _ (f : ℕ → Place) (name : Place → CrossName) (said : List (DwUnit ℕ)) (us : List (DwUnit Place)) (is : us ≡ map (unit_map f) said) where
  tops_are : cross_tops us ≡ map (cross_top_map f) (cross_tops said)
  tops_are = ap (λ (w : List (DwUnit Place)). cross_tops w) is ∙ (mapped f said).tops

  lone_are : lone_entries us ≡ map (node_map f) (lone_entries said)
  lone_are = ap (λ (w : List (DwUnit Place)). lone_entries w) is ∙ (mapped f said).lone

  many_tops : length (cross_tops us) ≡ length (cross_tops said)
  many_tops = ap (λ (w : List (CrossTop Place)). length w) tops_are ∙ length-map (cross_tops said) (cross_top_map f)

  top_labels_are : map (λ t. cross_label (cross_top_map name t)) (cross_tops us) ≡ top_labels (λ n. name (f n)) said
  top_labels_are = ap (λ (w : List (CrossTop Place)). map (λ t. cross_label (cross_top_map name t)) w) tops_are ∙ labels_twice f name (cross_tops said)

  top_targets_are : map (λ t. cross_targets (cross_top_map name t)) (cross_tops us) ≡ top_targets (λ n. name (f n)) said
  top_targets_are = ap (λ (w : List (CrossTop Place)). map (λ t. cross_targets (cross_top_map name t)) w) tops_are ∙ targets_twice f name (cross_tops said)

  lone_labels_are : map (λ e. lone_label (node_map name e)) (lone_entries us) ≡ lone_labels (λ n. name (f n)) said
  lone_labels_are = ap (λ (w : List (Node Place)). map (λ e. lone_label (node_map name e)) w) lone_are ∙ lone_labels_twice f name (lone_entries said)

  lone_targets_are : map (λ e. lone_targets (node_map name e)) (lone_entries us) ≡ lone_into (λ n. name (f n)) said
  lone_targets_are = ap (λ (w : List (Node Place)). map (λ e. lone_targets (node_map name e)) w) lone_are ∙ lone_targets_twice f name (lone_entries said)

  -- where the first top has that number
  named_so : (k top : ℕ) → k ≡ top → ((p : Place) (x : CrossName) → In (p, x) (cross_names_from 0 k us) → name p ≡ x) → IsNamed top (λ n. n) (named_by name f said)
  named_so k top same h p x there =
      h (f p) x (subst (λ (w : List (DwUnit Place)). In (f p, x) (cross_names_from 0 k w)) (sym is) (subst (λ (m : ℕ). In (f p, x) (cross_names_from 0 m (map (unit_map f) said))) (sym same)
      (placed_in f top said p x there)))

-- ---- of all

module _ (fa fb fc : ℕ → Place) (name : Place → CrossName) (a b c : List (DwUnit ℕ)) (v w : WithCommon Place) (is_a : v.own ≡ map (unit_map fa) a) (is_b : w.own ≡ map (unit_map fb) b)
    (is_c : v.common ≡ map (unit_map fc) c) (same : w.common ≡ v.common) where
  many_before : tops_before v w ≡ tops_before (with_common a c) (with_common b c)
  many_before = (λ i. many_tops fa name a v.own is_a i + many_tops fb name b w.own is_b i)

  module _ (old_named : (p : Place) (x : CrossName) → In (p, x) (cross_names (old_side v w name)) → name p ≡ x) (new_named : (p : Place) (x : CrossName)
      → In (p, x) (cross_names (new_side v w name)) → name p ≡ x) where
    pub named_old : IsNamed 0 (λ n. n) (named_by name fa a)
    named_old = named_so fa name a v.own is_a 0 0 refl (λ p x h. old_named p x (in_left (p, x) (cross_names_from 0 0 v.own) (cross_names_from 0 (tops_before v w) v.common) h))

    pub named_new : IsNamed (length (cross_tops a)) (λ n. n) (named_by name fb b)
    named_new = named_so fb name b w.own is_b (length (cross_tops v.own)) (length (cross_tops a)) (many_tops fa name a v.own is_a)
        (λ p x h. new_named p x (in_left (p, x) (cross_names_from 0 (length (cross_tops v.own)) w.own) (cross_names_from 0 (tops_before v w) w.common) h))

    pub named_common : IsNamed (tops_before (with_common a c) (with_common b c)) (λ n. n) (named_by name fc c)
    named_common = named_so fc name c v.common is_c (tops_before v w) (tops_before (with_common a c) (with_common b c)) many_before
        (λ p x h. old_named p x (in_right (p, x) (cross_names_from 0 0 v.own) (cross_names_from 0 (tops_before v w) v.common) h))

  pub listed : (labels targets : List (List ℕ)) → labels ≡ all_labels (named_by name fa a) (named_by name fb b) (named_by name fc c)
      → targets ≡ all_targets (named_by name fa a) (named_by name fb b) (named_by name fc c)
      → (length labels ≡ node_count v w) × AreInLists (old_side v w name) labels targets × AreInLists (new_side v w name) labels targets
  listed labels targets are into =
      let s = old_side v w name in
      let t = new_side v w name in
      let la = top_labels (λ n. name (fa n)) a in
      let lb = top_labels (λ n. name (fb n)) b in
      let lc = top_labels (λ n. name (fc n)) c in
      let ld = lone_labels (λ n. name (fa n)) a in
      let le = lone_labels (λ n. name (fb n)) b in
      let ta = top_targets (λ n. name (fa n)) a in
      let tb = top_targets (λ n. name (fb n)) b in
      let tc = top_targets (λ n. name (fc n)) c in
      let td = lone_into (λ n. name (fa n)) a in
      let te = lone_into (λ n. name (fb n)) b in
      let pa = top_labels_are fa name a v.own is_a in
      let pb = top_labels_are fb name b w.own is_b in
      let pc = top_labels_are fc name c v.common is_c in
      let pd = lone_labels_are fa name a v.own is_a in
      let pe = lone_labels_are fb name b w.own is_b in
      let qa = top_targets_are fa name a v.own is_a in
      let qb = top_targets_are fb name b w.own is_b in
      let qc = top_targets_are fc name c v.common is_c in
      let qd = lone_targets_are fa name a v.own is_a in
      let qe = lone_targets_are fb name b w.own is_b in
      let ls = old_lists v w name (top_label_of s) (lone_label_of s) la lb lc ld le pa pb pc same pd pe in
      let ms = new_lists v w name (top_label_of t) (lone_label_of t) la lb lc ld le pa pb pc same pd pe in
      let ts = old_lists v w name (top_targets_of s) (lone_targets_of s) ta tb tc td te qa qb qc same qd qe in
      let us = new_lists v w name (top_targets_of t) (lone_targets_of t) ta tb tc td te qa qb qc same qd qe in
      let long = all_long v w name (top_label_of s) (lone_label_of s) la lb lc ld le pa pb pc same pd pe in (
        ap (λ (x : List (List ℕ)). length x) are ∙ long,
        subst (λ (x : List (List ℕ)). AreInLists s x targets) (sym are)
            (subst (λ (x : List (List ℕ)). AreInLists s (all_labels (named_by name fa a) (named_by name fb b) (named_by name fc c)) x) (sym into) (in_lists s _ _ ls ts)),
        subst (λ (x : List (List ℕ)). AreInLists t x targets) (sym are)
            (subst (λ (x : List (List ℕ)). AreInLists t (all_labels (named_by name fa a) (named_by name fb b) (named_by name fc c)) x) (sym into) (in_lists t _ _ ms us)),
      )
