-- In which files the values of sources stand.
use Rattle.std.proofs.Common.{◌≡◌, ◌∙◌, ℕ, suc, false, List, [], ◌∷◌, ◌++◌, map, Option, refl, sym, ap, subst, inl, inr}
use Rattle.dwz_model.specs.Lists.{Each, In, NoneTwice}
use Rattle.dwz_model.proofs.ListFacts.{in_cases}
use Rattle.dwz_model.proofs.OnceLemmas.{none_both, none_left}
use Rattle.dwz_def_cross.specs.Tops.{WithCommon, unless_partial, units_with_common, whole_units}
use Rattle.dwz_def_encoding.specs.Meant.{entry_keys}
use Rattle.dwz_def_encoding.specs.Placing.{holder_of}
use Rattle.dwz_def_expand.specs.Chosen.{choice, role_in}
use Rattle.dwz_def_expand.specs.Refusals.{Site, nodes, sites, sites_from, sites_in, sites_of}
use Rattle.dwz_def_expand.specs.Source.{source_unit}
use Rattle.dwz_def_reading.specs.Documents.{Attr, Compile, DwUnit, Kind, Node, OfType, Partial}
use Rattle.dwz_def_reading.specs.Meanings.{Sources}
use Rattle.dwz_def_reading.specs.Places.{Place}
use Rattle.dwz_def_tops.specs.Shown.{unit_keys, units_keys}
use Rattle.dwz_def_tops.proofs.UnitKeys.{keys_joined}
use Rattle.dwz_def_tops.proofs.ShownLemmas.{unit_key}
use Rattle.dwz_law_expand.proofs.SiteLemmas.{node_from, node_key, owner_is, owner_none}
use Rattle.dwz_expand_sources.proofs.ForLemmas.{tests}
use Rattle.dwz_expand_sources.specs.Imports.{same}
use Rattle.dwz_expand_passes.specs.Faults.{file_number}
use Rattle.dwz_expand.specs.Refused.{InFiles}

each_key : (P : ℕ → Type 0) (keys : List ℕ) (p : ℕ) → Each P keys → In p keys → P p
each_key P [] p all there = absurd there
each_key P (k ∷ keys) p all (inl e) = subst P e all.0
each_key P (k ∷ keys) p all (inr r) = each_key P keys p all.1 r

module _ (place : ℕ → Place) (w : WithCommon ℕ) (s : Sources) (files : InFiles place w) (apart : NoneTwice (units_keys (units_with_common w))) where
  abbrev Good : ℕ → Type 0
  Good p = file_number ((choice same w s).role p) ≡ (place p).file

  both_apart : NoneTwice (units_keys w.own ++ units_keys w.common)
  both_apart = subst NoneTwice (keys_joined w.own w.common) apart

  key_of : (us : List (DwUnit ℕ)) (u : DwUnit ℕ) (p : ℕ) → In u us → In p (entry_keys u) → In p (units_keys us)
  unfolding unit_keys
  key_of us u p there key = unit_key us u p there (inr key)

  own_holder : (k : Kind ℕ) → file_number (holder_of false k) ≡ 0
  own_holder Compile = refl
  own_holder (OfType t u) = refl
  own_holder Partial = refl

  good_own : (u : DwUnit ℕ) (p : ℕ) → In u w.own → In p (entry_keys u) → Good p
  good_own u p there key =
      ap (λ (o : Option (DwUnit ℕ)). file_number (role_in o)) (owner_is same tests w.own (none_left (units_keys w.own) (units_keys w.common) both_apart) u there p key)
      ∙ own_holder u.kind ∙ sym (each_key (λ k. (place k).file ≡ 0) (units_keys w.own) p files.own (key_of w.own u p there key))

  good_common : (u : DwUnit ℕ) (p : ℕ) → In u w.common → In p (entry_keys u) → Good p
  good_common u p there key =
      let other = key_of w.common u p there key in
      ap (λ (o : Option (DwUnit ℕ)). file_number (role_in o))
      (owner_none same tests w.own p (λ y y_is y_key. none_both (units_keys w.own) (units_keys w.common) both_apart p (key_of w.own y p y_is y_key) other))
      ∙ sym (each_key (λ k. (place k).file ≡ 1) (units_keys w.common) p files.common other)

  good_unit : (u : DwUnit ℕ) (p : ℕ) → In u (units_with_common w) → In p (entry_keys u) → Good p
  good_unit u p there key = elim (in_cases u w.own w.common there) [ inl a ↦ good_own u p a key | inr b ↦ good_common u p b key ]

  good_node : (u : DwUnit ℕ) (d : Node ℕ) → In u w.own → In d ((source_unit same (units_with_common w) u).root ∷ nodes (source_unit same (units_with_common w) u).below) → Good d.at
  good_node u d there (inl e) = subst (λ (x : Node ℕ). Good x.at) e (good_own u u.root.at there (inl refl))
  good_node u d there (inr r) = elim (node_from same tests (units_with_common w) apart u d r) [
    | inl own ↦ good_own u d.at there (inr (node_key u.below d own))
    | inr x ↦ good_unit x.0 d.at x.1.there (inr (node_key x.0.below d x.2))
  ]

  each_attr : (n : ℕ) (p : ℕ) (i : ℕ) (attrs : List (Attr ℕ)) → Good p → Each (λ (x : Site ℕ). Good x.source) (sites_of n p i attrs)
  each_attr n p i [] good = tt
  each_attr n p i (a ∷ attrs) good = (good, each_attr n p (suc i) attrs good)

  each_both : (P : Site ℕ → Type 0) (xs ys : List (Site ℕ)) → Each P xs → Each P ys → Each P (xs ++ ys)
  each_both P [] ys a b = b
  each_both P (x ∷ xs) ys a b = (a.0, each_both P xs ys a.1 b)

  each_node : (n : ℕ) (ds : List (Node ℕ)) → ((d : Node ℕ) → In d ds → Good d.at) → Each (λ (x : Site ℕ). Good x.source) (sites_in n ds)
  unfolding sites_in
  each_node n [] all = tt
  each_node n (d ∷ ds) all = each_both (λ (x : Site ℕ). Good x.source) (sites_of n d.at 0 d.attrs) (sites_in n ds) (each_attr n d.at 0 d.attrs (all d (inl refl))) (each_node n ds (λ e is. all e
      (inr is)))

  each_from : (n : ℕ) (us : List (DwUnit ℕ)) → ((u : DwUnit ℕ) → In u us → In u w.own) → Each (λ (x : Site ℕ). Good x.source) (sites_from n (map (source_unit same (units_with_common w)) us))
  unfolding sites_from
  each_from n [] own = tt
  each_from n (u ∷ us) own =
      let v = source_unit same (units_with_common w) u in
      each_both (λ (x : Site ℕ). Good x.source) (sites_in n (v.root ∷ nodes v.below)) (sites_from (suc n) (map (source_unit same (units_with_common w)) us))
      (each_node n (v.root ∷ nodes v.below) (λ d is. good_node u d (own u (inl refl)) is)) (each_from (suc n) us (λ y is. own y (inr is)))

  whole_own : (us : List (DwUnit ℕ)) (u : DwUnit ℕ) → In u (whole_units us) → In u us
  unfolding whole_units
  whole_own [] u h = h
  whole_own (v ∷ us) u h = by v.kind (whole_own us u) h where
    by : (k : Kind ℕ) → (In u (whole_units us) → In u us) → In u (unless_partial k v (whole_units us)) → In u (v ∷ us)
    by Compile more (inl e) = inl e
    by Compile more (inr r) = inr (more r)
    by (OfType t p) more (inl e) = inl e
    by (OfType t p) more (inr r) = inr (more r)
    by Partial more r = inr (more r)

  pub numbers_law : Each (λ (x : Site ℕ). file_number ((choice same w s).role x.source) ≡ (place x.source).file) (sites same w)
  numbers_law = each_from 0 (whole_units w.own) (whole_own w.own)
