-- Entries with their depths: those of the sources of a unit are among those of all units, and stand as deep.
use Rattle.std.proofs.Common.{◌≡◌, ℕ, suc, Bool, List, [], ◌∷◌, ◌++◌, inl, inr, map, refl, sym, ap, subst, ◌∙◌, append_assoc}
use Rattle.std.proofs.lemmas.List.{map-append}
use Rattle.dwz_expand_sources.specs.Index.{ListedEntry, listed, listed_units}
use Rattle.dwz_def_encoding.specs.Meant.{entry_keys}
use Rattle.dwz_def_expand.proofs.SourceLemmas.{imports_good, once_good}
use Rattle.dwz_def_expand.specs.ExpandLaws.{IsTest}
use Rattle.dwz_def_expand.specs.Source.{followed_by, imported_by, imported_in, inside, once, source_unit, sources_below, unless_import, without_imports}
use Rattle.dwz_def_reading.specs.Documents.{Compile, DwUnit, Entries, Kind, Node, OfType, Partial}
use Rattle.dwz_def_reading.specs.Trees.{End, Entry}
use Rattle.dwz_def_tops.specs.Shown.{keys, unit_keys, units_keys}
use Rattle.dwz_expand_layout.specs.Lines.{Line, line, lines, unit_lines}
use Rattle.dwz_model.proofs.ListFacts.{in_cases, in_left, in_right}
use Rattle.dwz_model.proofs.Members.{each_append, each_in, each_of, each_split}
use Rattle.dwz_model.proofs.OnceLemmas.{none_append, none_both, none_left, none_right}
use Rattle.dwz_model.specs.Lists.{Each, In, NoneTwice}
use Rattle.dwz_expand_passes.specs.Lined.{units_lines}

-- ---- nodes and keys

module _ {P : Type 0} where
  abbrev pub node_of : Line P → Node P
  node_of l = l.node

  abbrev pub key_of : Line P → P
  key_of l = l.node.at

  abbrev pub listed_node : ListedEntry P → Node P
  listed_node d = d.0

  pub line_nodes : (depth : ℕ) (f : Entries P) → map node_of (lines depth f) ≡ map listed_node (listed f)
  unfolding lines listed
  line_nodes depth End = refl
  line_nodes depth (Entry e c n) =
      ap (λ (ns : List (Node P)). e ∷ ns)
      (map-append node_of (lines (suc depth) c) (lines depth n)
      ∙ (λ i. line_nodes (suc depth) c i ++ line_nodes depth n i)
      ∙ sym (map-append listed_node (listed c) (listed n)))

  pub all_nodes : (units : List (DwUnit P)) → map node_of (units_lines units) ≡ map listed_node (listed_units units)
  unfolding units_lines listed_units
  all_nodes [] = refl
  all_nodes (u ∷ units) =
      ap (λ (ns : List (Node P)). u.root ∷ ns)
      (map-append node_of (lines 2 u.below) (units_lines units)
      ∙ (λ i. line_nodes 2 u.below i ++ all_nodes units i)
      ∙ sym (map-append listed_node (listed u.below) (listed_units units)))

  line_keys : (depth : ℕ) (f : Entries P) → map key_of (lines depth f) ≡ keys f
  unfolding lines keys
  line_keys depth End = refl
  line_keys depth (Entry e c n) =
      ap (λ (ks : List P). e.at ∷ ks) (map-append key_of (lines (suc depth) c) (lines depth n) ∙ (λ i. line_keys (suc depth) c i ++ line_keys depth n i))

  pub unit_line_keys : (u : DwUnit P) → map key_of (unit_lines u) ≡ entry_keys u
  unit_line_keys u = ap (λ (ks : List P). u.root.at ∷ ks) (line_keys 2 u.below)

  all_keys : (u : DwUnit P) (units : List (DwUnit P)) → map key_of (units_lines (u ∷ units)) ≡ entry_keys u ++ map key_of (units_lines units)
  unfolding units_lines
  all_keys u units =
      ap (λ (ks : List P). u.root.at ∷ ks)
      (map-append key_of (lines 2 u.below) (units_lines units) ∙ ap (λ (ks : List P). ks ++ map key_of (units_lines units)) (line_keys 2 u.below))

  -- each is one of the units' keys
  key_in : (units : List (DwUnit P)) (k : P) → In k (map key_of (units_lines units)) → In k (units_keys units)
  unfolding units_lines units_keys unit_keys
  key_in [] k h = h
  key_in (u ∷ units) k h =
      elim (in_cases k (entry_keys u) (map key_of (units_lines units)) (subst (In k) (all_keys u units) h)) [
        | inl a ↦ inr (in_left k (entry_keys u) (units_keys units) a)
        | inr b ↦ inr (in_right k (entry_keys u) (units_keys units) (key_in units k b))
      ]

  -- so none stands twice where none of these does
  pub keys_once : (units : List (DwUnit P)) → NoneTwice (units_keys units) → NoneTwice (map key_of (units_lines units))
  unfolding units_keys unit_keys units_lines
  keys_once [] once = tt
  keys_once (u ∷ units) once =
      let own = entry_keys u in
      let others = units_keys units in
      let rest = map key_of (units_lines units) in
      subst NoneTwice (sym (all_keys u units))
      (none_append own rest (none_left own others once.1) (keys_once units (none_right own others once.1)) (λ k a b. none_both own others once.1 k a (key_in units k b)))

  -- ---- where the sources of a unit come from

  pub unit_in : (units : List (DwUnit P)) (u : DwUnit P) (l : Line P) → In u units → In l (unit_lines u) → In l (units_lines units)
  unfolding units_lines
  unit_in [] u l h there = absurd h
  unit_in (v ∷ units) u l (inl e) there = in_left l (unit_lines v) (units_lines units) (subst (λ (x : DwUnit P). In l (unit_lines x)) (sym e) there)
  unit_in (v ∷ units) u l (inr r) there = in_right l (unit_lines v) (units_lines units) (unit_in units u l r there)

  followed_lines : (depth : ℕ) (f last : Entries P) → lines depth (followed_by f last) ≡ lines depth f ++ lines depth last
  unfolding followed_by lines
  followed_lines depth End last = refl
  followed_lines depth (Entry e c n) last =
      ap (λ (ls : List (Line P)). line depth e ∷ (lines (suc depth) c ++ ls)) (followed_lines depth n last)
      ∙ ap (λ (ls : List (Line P)). line depth e ∷ ls) (sym (append_assoc (lines (suc depth) c) (lines depth n) (lines depth last)))

  module _ (Q : Line P → Type 0) where
    inside_lines : (parts : List (DwUnit P)) → Each (λ v. Each Q (lines 2 v.below)) parts → Each Q (lines 2 (inside parts))
    unfolding inside lines
    inside_lines [] h = tt
    inside_lines (v ∷ parts) h =
        subst (Each Q) (sym (followed_lines 2 v.below (inside parts))) (each_append Q (lines 2 v.below) (lines 2 (inside parts)) h.0 (inside_lines parts h.1))

    module _ (same : P → P → Bool) (units : List (DwUnit P)) where
      kept_lines : (depth : ℕ) (f : Entries P) → Each Q (lines depth f) → Each Q (lines depth (without_imports same units f))
      unfolding without_imports lines
      kept_lines depth End h = tt
      kept_lines depth (Entry e c n) h =
          let both = each_split Q (lines (suc depth) c) (lines depth n) h.1 in
          by (imported_by same units e) both.0 (kept_lines depth n both.1) where
            by : (parts : List (DwUnit P)) → Each Q (lines (suc depth) c) → Each Q (lines depth (without_imports same units n))
                → Each Q (lines depth (unless_import parts e c (without_imports same units n)))
            by [] inner rest = (h.0, each_append Q (lines (suc depth) c) (lines depth (without_imports same units n)) inner rest)
            by (v ∷ parts) inner rest = rest

module _ {P : Type 0} (same : P → P → Bool) (test : IsTest same) (units : List (DwUnit P)) (apart : NoneTwice (units_keys units)) where
  abbrev IsThere : Line P → Type 0
  IsThere l = In l (units_lines units)

  below_there : (u : DwUnit P) → In u units → Each IsThere (lines 2 u.below)
  below_there u is = each_of IsThere (lines 2 u.below) (λ l h. unit_in units u l is (inr h))

  -- each of its sources is one of the entries of all units
  pub sources_there : (u : DwUnit P) → In u units → Each IsThere (lines 2 (source_unit same units u).below)
  sources_there u is = by u.kind where
    own : Each IsThere (lines 2 u.below)
    own = below_there u is

    by : (kind : Kind P) → Each IsThere (lines 2 (sources_below same units kind u.below))
    by Compile =
        let all = once same (imported_in same units u.below) in
        let good = once_good same test units apart (imported_in same units u.below) (imports_good same test units apart u.below) in
        let inner = each_of (λ v. Each IsThere (lines 2 v.below)) all (λ v h. below_there v (each_in _ v all good h).0) in
        subst (Each IsThere) (sym (followed_lines 2 (without_imports same units u.below) (inside all)))
        (each_append IsThere (lines 2 (without_imports same units u.below)) (lines 2 (inside all)) (kept_lines IsThere same units 2 u.below own) (inside_lines IsThere all inner))
    by (OfType s t) = own
    by Partial = own
