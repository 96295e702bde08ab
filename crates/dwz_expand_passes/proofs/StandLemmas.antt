-- Each new unit has the entries of its unit, as deep as they stand there.
use Rattle.std.proofs.Common.{◌≡◌, ℕ, ◌<◌, List, [], ◌∷◌, inl, inr, length, map, slice_get, Some, refl, sym, ap, ◌∙◌, arith}
use Rattle.std.specs.List.{flat_map}
use Rattle.std.proofs.lemmas.Bool.{eq-eqb, eqb-true}
use Rattle.std.proofs.lemmas.List.{length-map}
use Rattle.dwz_expand_sources.specs.Index.{ListedEntry}
use Rattle.dwz_def_cross.specs.CrossSame.{EachTwo}
use Rattle.dwz_def_cross.specs.Tops.{WithCommon, units_with_common, whole_units}
use Rattle.dwz_def_expand.proofs.WholeLemmas.{in_all}
use Rattle.dwz_def_expand.specs.ExpandLaws.{IsTest}
use Rattle.dwz_def_expand.specs.Source.{source_unit}
use Rattle.dwz_def_reading.specs.Documents.{DwUnit, Node}
use Rattle.dwz_def_tops.specs.Shown.{units_keys}
use Rattle.dwz_expand_sources.specs.Imports.{same}
use Rattle.dwz_expand_layout.specs.Lines.{Line, line, lines}
use Rattle.dwz_model.proofs.ListFacts.{got_below, got_in, got_map, got_there}
use Rattle.dwz_model.specs.Lists.{Each, In, NoneTwice}
use Rattle.dwz_expand_sources.specs.declared.sources.NewUnit.{NewUnit}
use Rattle.dwz_expand_sources.specs.Sources.{IsNewUnit, Sources, all_entries, in_range, ranges_of}
use Rattle.dwz_expand_passes.specs.Lined.{LinesLaw, StandsAs, all_lines}
use Rattle.dwz_expand_passes.proofs.LineLemmas.{all_nodes, key_of, keys_once, line_nodes, listed_node, node_of, sources_there, unit_in}
use Rattle.dwz_expand_passes.proofs.ListLemmas.{one_of, ranges_in, ranges_map}

-- lists of entries that are there, with the same nodes
same_lines : {P : Type 0} (all : List (Line P)) → NoneTwice (map key_of all) → (xs ys : List (Line P)) → map node_of xs ≡ map node_of ys → Each (λ l. In l all) xs → Each (λ l. In l all) ys
    → xs ≡ ys
same_lines all once [] [] e a b = refl
same_lines all once [] (y ∷ ys) e a b = absurd cc
same_lines all once (x ∷ xs) [] e a b = absurd cc
same_lines {P} all once (x ∷ xs) (y ∷ ys) e a b =
    let first : x.node ≡ y.node = cc in
    let rest : map node_of xs ≡ map node_of ys = cc in
    let one : x ≡ y = one_of key_of all once x y a.0 b.0 (ap (λ (d : Node P). d.at) first) in
    (λ i. one i ∷ same_lines all once xs ys rest a.1 b.1 i)

module _ (w : WithCommon ℕ) (s : Sources) (test : IsTest same) (apart : NoneTwice (units_keys (units_with_common w))) where
  once : NoneTwice (map key_of (all_lines w))
  once = keys_once (units_with_common w) apart

  -- the entry with a number, with its depth
  line_at : (i : ℕ) (d : ListedEntry ℕ) (l : Line ℕ) → slice_get (all_entries w) i ≡ Some d → In l (all_lines w) → l.node ≡ d.0 → slice_get (all_lines w) i ≡ Some l
  line_at i d l found there node =
      let nodes = all_nodes (units_with_common w) in
      let shown : slice_get (map node_of (all_lines w)) i ≡ Some d.0 = ap (λ (ns : List (Node ℕ)). slice_get ns i) nodes ∙ got_map listed_node (all_entries w) i d found in
      let lt : i < length (all_lines w) = omega (arith, got_below (map node_of (all_lines w)) i d.0 shown, length-map (all_lines w) node_of) in
      let got = got_there (all_lines w) i lt in
      let mapped : slice_get (map node_of (all_lines w)) i ≡ Some got.0.node = got_map node_of (all_lines w) i got.0 got.1 in
      let same_node : got.0.node ≡ d.0 = cc in
      let one : got.0 ≡ l = one_of key_of (all_lines w) once got.0 l (got_in (all_lines w) i got.0 got.1) there (ap (λ (n : Node ℕ). n.at) (same_node ∙ sym node)) in
      got.1 ∙ ap (λ (x : Line ℕ). Some x) one

  stands_as : (x : NewUnit) (u : DwUnit ℕ) → In u (whole_units w.own) → IsNewUnit w s.ranges x u → StandsAs w s.ranges x u
  stands_as x u is new =
      let there = (in_all same test w apart u is).0 in
      let all = all_lines w in
      let rs = ranges_of s.ranges x in
      let source = source_unit same (units_with_common w) u in
      let nodes : map node_of (flat_map (in_range all) rs) ≡ map node_of (lines 2 source.below) =
      sym (ranges_map node_of all rs)
      ∙ ap (λ (ns : List (Node ℕ)). flat_map (in_range ns) rs) (all_nodes (units_with_common w))
      ∙ ranges_map listed_node (all_entries w) rs
      ∙ ap (map listed_node) new.below
      ∙ sym (line_nodes 2 source.below) in
      record {
        root = line_at x.root (u.root, u.below) (line 1 u.root) new.root (unit_in (units_with_common w) u (line 1 u.root) there (inl refl)) refl;
        below = same_lines all once (flat_map (in_range all) rs) (lines 2 source.below) nodes (ranges_in all rs) (sources_there same test (units_with_common w) apart u there);
      }

  pub all_stand : (xs : List NewUnit) (us : List (DwUnit ℕ)) → ((u : DwUnit ℕ) → In u us → In u (whole_units w.own)) → EachTwo (IsNewUnit w s.ranges) xs us
      → EachTwo (StandsAs w s.ranges) xs us
  all_stand [] [] into news = tt
  all_stand [] (u ∷ us) into news = absurd news
  all_stand (x ∷ xs) [] into news = absurd news
  all_stand (x ∷ xs) (u ∷ us) into news = (stands_as x u (into u (inl refl)) news.0, all_stand xs us (λ v is. into v (inr is)) news.1)

pub same_test : IsTest same
same_test = record { yes = λ p q e. eqb-true p q e; no = λ p. eq-eqb p p refl }

pub lines_law : LinesLaw
lines_law w s are apart = all_stand w s same_test apart s.units (whole_units w.own) (λ u is. is) are.units
