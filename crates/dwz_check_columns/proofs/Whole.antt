-- What is put of three files, one behind the other, is what columns are drawn from.
use Rattle.std.proofs.Common.{◌≡◌, ◌<◌, ◌≤◌, ℕ, ◌+◌, ◌^◌, All, Bool, false, List, [], ◌∷◌, ◌++◌, length, map, replicate, refl, inl, inr, sym, ap, subst, ◌∙◌, arith}
use Rattle.std.proofs.lemmas.List.{append-nil, append_assoc, length-append, length-map, nil_from_length}
use Rattle.dwz_model.specs.Lists.{In}
use Rattle.dwz_def_reading.specs.Documents.{Compile, DwUnit, Kind, OfType, Partial, kind_map, unit_map}
use Rattle.dwz_model.proofs.ListFacts.{in_map}
use Rattle.dwz_def_tops.specs.Seen.{IsPartial}
use Rattle.dwz_def_cross.specs.CrossSame.{EachTwo}
use Rattle.dwz_def_check.specs.CrossLists.{numbered_units}
use Rattle.dwz_def_check.specs.CrossNames.{IsWellRead, cross_tops}
use Rattle.dwz_def_check.specs.CrossNodes.{lone_entries, lone_of}
use Rattle.dwz_groups.specs.declared.groups.Edge.{Edge}
use Rattle.dwz_groups.specs.Groups.{grouped}
use Rattle.dwz_graph.specs.Surroundings.{behind_own}
use Rattle.dwz_imports.specs.Stored.{edges_of}
use Rattle.dwz_imports.proofs.Grouped.{grouped_back, keys_low}
use Rattle.dwz_check_rows.specs.declared.columns.Columns.{Columns}
use Rattle.dwz_check_rows.specs.declared.columns.UnitNodes.{UnitNodes}
use Rattle.dwz_check_sides.specs.declared.lists.NameLists.{NameLists}
use Rattle.dwz_check_sides.specs.Names.{AreApart, IsListNumber, Keeps}
use Rattle.dwz_check_sides.specs.Units.{nodes_of}
use Rattle.dwz_check_sides.proofs.ListNumbers.{kept_numbers}
use Rattle.dwz_check_sides.proofs.UnitNodes.{numbered_long}
use Rattle.dwz_check_columns.specs.declared.nodes.NodeDraft.{NodeDraft}
use Rattle.dwz_check_columns.specs.declared.units.UnitDraft.{UnitDraft}
use Rattle.dwz_check_columns.specs.Drawn.{AreDrawn, among_all, imports_among, lone_lists, node_lists, plain_nodes, plain_tops, top_lists, unit_nodes}
use Rattle.dwz_check_columns.specs.Files.{PutsThree}
use Rattle.dwz_check_columns.specs.Shows.{beside}
use Rattle.dwz_check_columns.proofs.LoneNames.{own_once}
use Rattle.dwz_check_columns.proofs.TwoLists.{two_append, two_long, two_within}
use Rattle.dwz_check_columns.proofs.UnitPuts.{edges_append, has_path}

-- ---- three lists

three : {X : Type 0} (a b c none first second third : List X) → none ≡ [] → first ≡ none ++ a → second ≡ first ++ b → third ≡ second ++ c → third ≡ a ++ b ++ c
three {X} a b c none first second third e p q r = r ∙ ap (λ (w : List X). w ++ c) (q ∙ ap (λ (w : List X). w ++ b) (p ∙ ap (λ (w : List X). w ++ a) e))

-- those of edges are grouped as lists again
module _ (a b c : List (List ℕ)) (m n : ℕ) (none first second third : List Edge) (start : none ≡ []) (one : first ≡ none ++ edges_of 0 a) (two : second ≡ first ++ edges_of m b) (last : third ≡ second ++ edges_of n c)
    (first_many : length a ≡ m) (both_many : m + length b ≡ n) where
  edges_are : third ≡ edges_of 0 (a ++ b ++ c)
  edges_are =
      let at : m ≡ 0 + length a = omega (arith, first_many) in
      let to : n ≡ 0 + length (a ++ b) = omega (arith, first_many, both_many, length-append a b) in
      three (edges_of 0 a) (edges_of m b) (edges_of n c) none first second third start one two last
      ∙ ap (λ (k : ℕ). edges_of 0 a ++ edges_of k b ++ edges_of n c) at
      ∙ ap (λ (w : List Edge). w ++ edges_of n c) (sym (edges_append 0 a b))
      ∙ ap (λ (k : ℕ). edges_of 0 (a ++ b) ++ edges_of k c) to
      ∙ sym (edges_append 0 (a ++ b) c)

  pub edges_low : (count : ℕ) → length (a ++ b ++ c) ≡ count → All (λ (p : Edge). p.key < count) third
  edges_low count many = subst (λ (es : List Edge). All (λ (p : Edge). p.key < count) es) (sym edges_are) (keys_low (a ++ b ++ c) count many)

  pub edges_back : (count : ℕ) → length (a ++ b ++ c) ≡ count → grouped count third ≡ a ++ b ++ c
  edges_back count many = (λ i. grouped (sym many i) (edges_are i)) ∙ grouped_back (a ++ b ++ c)

-- ---- common units have no roots and spaces with numbers

no_lone_of : (k : Kind ℕ) (u : DwUnit ℕ) → IsPartial k → length (lone_of k u) ≡ 0
no_lone_of Compile u h = absurd h
no_lone_of (OfType signature main) u h = refl
no_lone_of Partial u h = refl

partial_kind : (k : Kind ℕ) → IsPartial (kind_map behind_own k) → IsPartial k
partial_kind Compile h = h
partial_kind (OfType signature main) h = h
partial_kind Partial h = h

no_lone : (c : List (DwUnit ℕ)) → ((u : DwUnit ℕ) → In u c → IsPartial u.kind) → length (lone_entries c) ≡ 0
unfolding lone_entries
no_lone [] h = refl
no_lone (u ∷ c) h = omega (arith, length-append (lone_of u.kind u) (lone_entries c), no_lone_of u.kind u (h u (inl refl)), no_lone c (λ v is. h v (inr is)))

common_lone : (a c : List (DwUnit ℕ)) → IsWellRead (beside a c) → length (lone_entries c) ≡ 0
common_lone a c read = no_lone c (λ u is. partial_kind u.kind (read.partial (unit_map behind_own u) (in_map (unit_map behind_own) u c is)))

-- ---- of three files

module _ (a b c : List (DwUnit ℕ)) (old_read : IsWellRead (beside a c)) (new_read : IsWellRead (beside b c)) (n3 : NodeDraft) (u3 : UnitDraft) (p : PutsThree a b c n3 u3) where
  abbrev known : NameLists
  known = n3.lists

  later : Keeps p.n1.lists known
  later = kept_numbers.steps p.n1.lists p.n2.lists known p.new_nodes.kept p.common_nodes.kept

  kept_to : (before : NameLists) → Keeps before known → (lists : List (List (List ℕ))) (numbers : List ℕ) → EachTwo (IsListNumber before) lists numbers → EachTwo (IsListNumber known) lists numbers
  kept_to before keeps lists numbers h = two_within (IsListNumber before) (IsListNumber known) lists numbers (λ list n there is. kept_numbers.numbers before known keeps list n is) h

  no_common : p.common_nodes.lone.put ≡ []
  no_common = nil_from_length p.common_nodes.lone.put (p.common_nodes.lone.many ∙ common_lone a c old_read)

  lone_are : n3.lone.items ≡ p.old_nodes.lone.put ++ p.new_nodes.lone.put
  lone_are =
      three p.old_nodes.lone.put p.new_nodes.lone.put p.common_nodes.lone.put p.n0.lone.items p.n1.lone.items p.n2.lone.items n3.lone.items p.none_lone p.old_nodes.lone.new_are p.new_nodes.lone.new_are p.common_nodes.lone.new_are
      ∙ ap (λ (w : List ℕ). p.old_nodes.lone.put ++ p.new_nodes.lone.put ++ w) no_common ∙ append-nil (p.old_nodes.lone.put ++ p.new_nodes.lone.put)

  tops_are : n3.tops.items ≡ p.old_nodes.tops.0 ++ p.new_nodes.tops.0 ++ p.common_nodes.tops.0
  tops_are = three p.old_nodes.tops.0 p.new_nodes.tops.0 p.common_nodes.tops.0 p.n0.tops.items p.n1.tops.items p.n2.tops.items n3.tops.items p.none_tops p.old_nodes.tops.1 p.new_nodes.tops.1 p.common_nodes.tops.1

  pub names_are : (names : List ℕ) → names ≡ n3.tops.items ++ n3.lone.items → EachTwo (IsListNumber known) (node_lists a b c) names
  names_are names is =
      let R = IsListNumber known in
      let tops = two_append R (top_lists a ++ top_lists b) (top_lists c) (p.old_nodes.tops.0 ++ p.new_nodes.tops.0) p.common_nodes.tops.0
      (two_append R (top_lists a) (top_lists b) p.old_nodes.tops.0 p.new_nodes.tops.0 (kept_to p.n1.lists later (top_lists a) p.old_nodes.tops.0 p.old_nodes.tops.2)
      (kept_to p.n2.lists p.common_nodes.kept (top_lists b) p.new_nodes.tops.0 p.new_nodes.tops.2))
      p.common_nodes.tops.2 in
      let old_list = kept_to p.n1.lists later (lone_lists a) p.old_nodes.lone.put (p.old_nodes.lone.are (own_once (beside a c) old_read)) in
      let new_list = kept_to p.n2.lists p.common_nodes.kept (lone_lists b) p.new_nodes.lone.put (p.new_nodes.lone.are (own_once (beside b c) new_read)) in
      let all = two_append R (top_lists a ++ top_lists b ++ top_lists c ++ lone_lists a) (lone_lists b) (p.old_nodes.tops.0 ++ p.new_nodes.tops.0 ++ p.common_nodes.tops.0 ++ p.old_nodes.lone.put) p.new_nodes.lone.put
      (two_append R (top_lists a ++ top_lists b ++ top_lists c) (lone_lists a) (p.old_nodes.tops.0 ++ p.new_nodes.tops.0 ++ p.common_nodes.tops.0) p.old_nodes.lone.put tops old_list) new_list in
      let same : p.old_nodes.tops.0 ++ p.new_nodes.tops.0 ++ p.common_nodes.tops.0 ++ p.old_nodes.lone.put ++ p.new_nodes.lone.put ≡ names =
      append_assoc (p.old_nodes.tops.0 ++ p.new_nodes.tops.0 ++ p.common_nodes.tops.0) p.old_nodes.lone.put p.new_nodes.lone.put ∙ (λ i. sym tops_are i ++ sym lone_are i) ∙ sym is in
      subst (λ (w : List ℕ). EachTwo R (node_lists a b c) w) same all

  pub plain_are : (plain : List Bool) → plain ≡ n3.plain.items ++ replicate (length n3.lone.items) false → plain ≡ plain_nodes a b c
  plain_are plain is =
      let many : length n3.lone.items ≡ length (lone_entries a) + length (lone_entries b) =
      ap (λ (w : List ℕ). length w) lone_are ∙ length-append p.old_nodes.lone.put p.new_nodes.lone.put ∙ (λ i. p.old_nodes.lone.many i + p.new_nodes.lone.many i) in
      is
      ∙ (λ i. three (plain_tops (beside a c)) (plain_tops (beside b c)) (plain_tops (beside c [])) p.n0.plain.items p.n1.plain.items p.n2.plain.items n3.plain.items p.none_plain p.old_nodes.plain p.new_nodes.plain p.common_nodes.plain i
      ++ replicate (many i) false)

  pub units_are : u3.units.items ≡ unit_nodes a b c
  units_are =
      three (map (nodes_of p.old_lone) (numbered_units 0 0 a)) (map (nodes_of p.new_lone) (numbered_units (length (cross_tops a)) 0 b))
      (map (nodes_of 0) (numbered_units (length (cross_tops a) + length (cross_tops b)) 0 c)) p.u0.units.items p.u1.units.items p.u2.units.items u3.units.items p.none_units p.old_units.units p.new_units.units p.common_units.units
      ∙ (λ i. map (nodes_of (p.old_lone_is i)) (numbered_units 0 0 a) ++ map (nodes_of (p.new_lone_is i)) (numbered_units (length (cross_tops a)) 0 b)
      ++ map (nodes_of 0) (numbered_units (length (cross_tops a) + length (cross_tops b)) 0 c))

  abbrev pub count : ℕ
  count = length u3.units.items

  count_is : length a + length b + length c ≡ count
  count_is =
      let all = ap (λ (w : List UnitNodes). length w) units_are in
      let lone = length (cross_tops a) + length (cross_tops b) + length (cross_tops c) in
      let x = map (nodes_of lone) (numbered_units 0 0 a) in
      let y = map (nodes_of (lone + length (lone_entries a))) (numbered_units (length (cross_tops a)) 0 b) in
      let z = map (nodes_of 0) (numbered_units (length (cross_tops a) + length (cross_tops b)) 0 c) in
      omega (
        arith,
        all,
        length-append (x ++ y) z,
        length-append x y,
        length-map (numbered_units 0 0 a) (nodes_of lone),
        length-map (numbered_units (length (cross_tops a)) 0 b) (nodes_of (lone + length (lone_entries a))),
        length-map (numbered_units (length (cross_tops a) + length (cross_tops b)) 0 c) (nodes_of 0),
        numbered_long 0 0 a,
        numbered_long (length (cross_tops a)) 0 b,
        numbered_long (length (cross_tops a) + length (cross_tops b)) 0 c,
      )

  -- ---- paths

  paths_two : EachTwo has_path (a ++ b ++ c) (p.old_units.paths.0 ++ p.new_units.paths.0 ++ p.common_units.paths.0)
  paths_two =
      two_append has_path (a ++ b) c (p.old_units.paths.0 ++ p.new_units.paths.0) p.common_units.paths.0
      (two_append has_path a b p.old_units.paths.0 p.new_units.paths.0 p.old_units.paths.2 p.new_units.paths.2) p.common_units.paths.2

  old_paths_many : length p.old_units.paths.0 ≡ p.from
  old_paths_many = sym (two_long has_path a p.old_units.paths.0 p.old_units.paths.2) ∙ sym p.from_is

  both_paths_many : p.from + length p.new_units.paths.0 ≡ p.behind
  both_paths_many = let long = two_long has_path b p.new_units.paths.0 p.new_units.paths.2 in omega (arith, long, p.from_is, p.behind_is)

  paths_many : length (p.old_units.paths.0 ++ p.new_units.paths.0 ++ p.common_units.paths.0) ≡ count
  paths_many =
      let long = two_long has_path (a ++ b ++ c) (p.old_units.paths.0 ++ p.new_units.paths.0 ++ p.common_units.paths.0) paths_two in
      omega (arith, long, length-append (a ++ b) c, length-append a b, count_is)

  pub paths_low : All (λ (p : Edge). p.key < count) u3.paths.items
  paths_low =
      edges_low p.old_units.paths.0 p.new_units.paths.0 p.common_units.paths.0 p.from p.behind p.u0.paths.items p.u1.paths.items p.u2.paths.items u3.paths.items p.none_paths p.old_units.paths.1 p.new_units.paths.1 p.common_units.paths.1
      old_paths_many both_paths_many count paths_many

  pub paths_are : (made : List (List ℕ)) → made ≡ grouped count u3.paths.items → EachTwo has_path (a ++ b ++ c) made
  paths_are made is =
      let same =
      is
      ∙ edges_back p.old_units.paths.0 p.new_units.paths.0 p.common_units.paths.0 p.from p.behind p.u0.paths.items p.u1.paths.items p.u2.paths.items u3.paths.items p.none_paths p.old_units.paths.1 p.new_units.paths.1 p.common_units.paths.1
      old_paths_many both_paths_many count paths_many in
      subst (λ (w : List (List ℕ)). EachTwo has_path (a ++ b ++ c) w) (sym same) paths_two

  -- ---- imports

  abbrev old_imports : List (List ℕ)
  old_imports = imports_among (length a) 0 p.behind p.old_units.imports.0

  abbrev new_imports : List (List ℕ)
  new_imports = imports_among (length b) p.from p.behind p.new_units.imports.0

  abbrev common_imports : List (List ℕ)
  common_imports = imports_among (length c) p.behind p.behind p.common_units.imports.0

  old_imports_many : length old_imports ≡ p.from
  old_imports_many = let len = p.old_units.imports.1.len in let same = length-map p.old_units.imports.0 (map (among_all (length a) 0 p.behind)) in omega (arith, len, same, p.from_is)

  new_imports_many : length new_imports ≡ length b
  new_imports_many = length-map p.new_units.imports.0 (map (among_all (length b) p.from p.behind)) ∙ p.new_units.imports.1.len

  common_imports_many : length common_imports ≡ length c
  common_imports_many = length-map p.common_units.imports.0 (map (among_all (length c) p.behind p.behind)) ∙ p.common_units.imports.1.len

  both_imports_many : p.from + length new_imports ≡ p.behind
  both_imports_many = omega (arith, new_imports_many, p.from_is, p.behind_is)

  imports_many : length (old_imports ++ new_imports ++ common_imports) ≡ count
  imports_many =
      omega (
        arith,
        length-append (old_imports ++ new_imports) common_imports,
        length-append old_imports new_imports,
        old_imports_many,
        new_imports_many,
        common_imports_many,
        p.from_is,
        count_is,
      )

  pub imports_low : All (λ (p : Edge). p.key < count) u3.imports.items
  imports_low =
      edges_low old_imports new_imports common_imports p.from p.behind p.u0.imports.items p.u1.imports.items p.u2.imports.items u3.imports.items p.none_imports p.old_units.imports.2 p.new_units.imports.2 p.common_units.imports.2
      old_imports_many both_imports_many count imports_many

  imports_are : (made : List (List ℕ)) → made ≡ grouped count u3.imports.items
      → made ≡ imports_among (length a) 0 (length a + length b) p.old_units.imports.0 ++ imports_among (length b) (length a) (length a + length b) p.new_units.imports.0
      ++ imports_among (length c) (length a + length b) (length a + length b) p.common_units.imports.0
  imports_are made is =
      is
      ∙ edges_back old_imports new_imports common_imports p.from p.behind p.u0.imports.items p.u1.imports.items p.u2.imports.items u3.imports.items p.none_imports p.old_units.imports.2 p.new_units.imports.2 p.common_units.imports.2
      old_imports_many both_imports_many count imports_many
      ∙ (λ i. imports_among (length a) 0 (p.behind_is i) p.old_units.imports.0 ++ imports_among (length b) (p.from_is i) (p.behind_is i) p.new_units.imports.0
      ++ imports_among (length c) (p.behind_is i) (p.behind_is i) p.common_units.imports.0)

  -- ---- columns

  pub drawn : (bound : ℕ) → AreApart known bound → bound ≤ 2 ^ 32 → (x : Columns) → x.names ≡ n3.tops.items ++ n3.lone.items
      → x.plain ≡ n3.plain.items ++ replicate (length n3.lone.items) false → x.units ≡ u3.units.items → x.old ≡ length a → x.new ≡ length b → x.paths ≡ grouped count u3.paths.items
      → x.imports ≡ grouped count u3.imports.items → AreDrawn a b c x
  drawn bound apart few x names plain units old new paths imports = record {
    known = known;
    bound = bound;
    apart = apart;
    few = few;
    names = names_are x.names names;
    plain = plain_are x.plain plain;
    units = units ∙ units_are;
    old = old;
    new = new;
    paths = paths_are x.paths paths;
    old_lists = p.old_units.imports.0;
    new_lists = p.new_units.imports.0;
    common_lists = p.common_units.imports.0;
    old_imports = p.old_units.imports.1;
    new_imports = p.new_units.imports.1;
    common_imports = p.common_units.imports.1;
    imports = imports_are x.imports imports;
  }
