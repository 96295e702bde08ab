-- Columns that are drawn from two files and their common one say the rows of these.
use Rattle.std.proofs.Common.{◌≡◌, ℕ, ◌+◌, ◌<◌, ◌^◌, Bool, false, List, [], ◌∷◌, ◌++◌, length, map, take, drop, replicate, Some, slice_get, refl, sym, ap, subst, ◌∙◌, arith}
use Rattle.std.specs.Prelude.{slice_index_or}
use Rattle.std.proofs.Math.Seq.{drop-append_seam, take-append_seam}
use Rattle.std.proofs.lemmas.List.{append_assoc, length-append, length-map}
use Rattle.dwz_model.specs.Lists.{In}
use Rattle.dwz_model.proofs.ListFacts.{get_first, got_below, got_index_or, got_map, got_there}
use Rattle.dwz_def_reading.specs.Documents.{DwUnit, unit_map}
use Rattle.dwz_def_cross.specs.CrossSame.{EachTwo}
use Rattle.dwz_def_cross.specs.Tops.{CrossTop, units_with_common, whole_units}
use Rattle.dwz_def_check.specs.CrossLabels.{cross_top_map}
use Rattle.dwz_def_check.specs.CrossLists.{numbered_units}
use Rattle.dwz_def_check.specs.CrossNames.{CrossName, IsWellRead, Side, cross_tops, unit_tops}
use Rattle.dwz_def_check.specs.CrossNodes.{lone_entries, lone_of, new_side, old_side}
use Rattle.dwz_def_check.specs.CrossRows.{IsCrossRow}
use Rattle.dwz_graph.specs.Surroundings.{behind_own}
use Rattle.dwz_graph.proofs.TopLemmas.{get_later}
use Rattle.dwz_check_index.specs.Both.{with_common}
use Rattle.dwz_check_index.proofs.MapLemmas.{mapped}
use Rattle.dwz_check_rows.specs.declared.columns.Columns.{Columns}
use Rattle.dwz_check_rows.specs.declared.columns.UnitNodes.{UnitNodes}
use Rattle.dwz_check_rows.specs.UnitRows.{no_unit, unit_at, unit_rows}
use Rattle.dwz_check_sides.specs.Units.{nodes_of}
use Rattle.dwz_check_sides.proofs.UnitNodes.{numbered_long}
use Rattle.dwz_check_columns.specs.Drawn.{AreDrawn, IsPathOf, among_all, imports_among, lone_lists, node_lists, plain_nodes, plain_tops, top_lists}
use Rattle.dwz_check_columns.specs.Shows.{ShowRows, beside}
use Rattle.dwz_check_columns.proofs.ColumnsFit.{columns_fit, tops_behind}
use Rattle.dwz_check_columns.proofs.FileRows.{IsDrawnSide, node_ends, side_rows, unit_ends}
use Rattle.dwz_check_columns.proofs.ListsFound.{first_list, numbering, stand_for}
use Rattle.dwz_check_columns.proofs.LoneNames.{lists_long}
use Rattle.dwz_check_columns.proofs.NumberedUnits.{names_of, nodes_from}
use Rattle.dwz_check_columns.proofs.PlainTops.{behind, flags_same, is_plain, keeps_plain}
use Rattle.dwz_check_columns.proofs.SideRows.{keeps, name_at}
use Rattle.dwz_check_columns.proofs.TwoLists.{Gives, gives_as, gives_at, gives_left, gives_map, gives_self, gives_three, two_at, two_long}

-- ---- common units behind those of another file

names_mapped : (ts : List (CrossTop ℕ)) → map names_of (map (cross_top_map behind_own) ts) ≡ map names_of ts
names_mapped [] = refl
names_mapped (t ∷ ts) = ap (λ (w : List (List (List ℕ))). t.names ∷ w) (names_mapped ts)

names_behind : (units : List (DwUnit ℕ)) → map names_of (cross_tops (behind units)) ≡ top_lists units
names_behind units = ap (map names_of) ((mapped behind_own units).tops) ∙ names_mapped (cross_tops units)

unit_tops_behind : (u : DwUnit ℕ) → length (unit_tops (unit_map behind_own u).kind (unit_map behind_own u)) ≡ length (unit_tops u.kind u)
unfolding cross_tops
unit_tops_behind u =
    let all = tops_behind (u ∷ []) in
    omega (arith, all, length-append (unit_tops (unit_map behind_own u).kind (unit_map behind_own u)) [], length-append (unit_tops u.kind u) [])

ends_behind : (top lone other : ℕ) (units : List (DwUnit ℕ)) → map node_ends (map (nodes_of 0) (numbered_units top lone units)) ≡ map unit_ends (numbered_units top other (behind units))
unfolding numbered_units
ends_behind top lone other [] = refl
ends_behind top lone other (u ∷ units) =
    let many = sym (unit_tops_behind u) in
    let v = unit_map behind_own u in
    let rest = ends_behind (top + length (unit_tops u.kind u)) (lone + length (lone_of u.kind u)) (other + length (lone_of v.kind v)) units in
    let next = ap (λ (n : ℕ). map unit_ends (numbered_units (top + n) (other + length (lone_of v.kind v)) (behind units))) many in
    let all = rest ∙ next in
    (λ i. (top, top + many i) ∷ all i)

module _ (a b c : List (DwUnit ℕ)) (x : Columns) (d : AreDrawn a b c x) where
  -- ---- of all three files

  abbrev lists : ℕ → List (List ℕ)
  lists = first_list x.names (node_lists a b c)

  abbrev before : ℕ
  before = length (cross_tops a) + length (cross_tops b)

  abbrev together : ℕ
  together = before + length (cross_tops (behind c))

  record NamesGiven : Type 0 where
    old : Gives (name_at x lists) 0 (top_lists a)
    new : Gives (name_at x lists) (length (cross_tops a)) (top_lists b)
    common : Gives (name_at x lists) before (map names_of (cross_tops (behind c)))
    old_lone : Gives (name_at x lists) together (lone_lists a)
    new_lone : Gives (name_at x lists) (together + length (lone_entries a)) (lone_lists b)

  names_given : NamesGiven
  names_given =
      let f = name_at x lists in
      let all : Gives f 0 (node_lists a b c) = stand_for d.known d.bound d.few d.apart (node_lists a b c) x.names d.names in
      let tops = top_lists a ++ top_lists b ++ top_lists c in
      let rest = gives_three f 0 tops (lone_lists a) (lone_lists b) all in
      let front = gives_three f 0 (top_lists a) (top_lists b) (top_lists c) rest.0 in
      let long = length-append (top_lists a ++ top_lists b) (top_lists c) in
      let both = length-append (top_lists a) (top_lists b) in
      let one = length-map (cross_tops a) names_of in
      let two = length-map (cross_tops b) names_of in
      let three = length-map (cross_tops c) names_of in
      let third = tops_behind c in
      let four = lists_long a in
      record {
        old = front.0;
        new = gives_as f (0 + length (top_lists a)) (length (cross_tops a)) (top_lists b) (omega (arith, one)) front.1;
        common = subst (λ (w : List (List (List ℕ))). Gives f before w) (sym (names_behind c))
            (gives_as f (0 + length (top_lists a) + length (top_lists b)) before (top_lists c) (omega (arith, one, two)) front.2);
        old_lone = gives_as f (0 + length tops) together (lone_lists a) (omega (arith, one, two, three, third, long, both)) rest.1;
        new_lone = gives_as f (0 + length tops + length (lone_lists a)) (together + length (lone_entries a)) (lone_lists b)
            (omega (arith, one, two, three, third, four, long, both)) rest.2;
      }

  record FlagsGiven : Type 0 where
    old : Gives (keeps x) 0 (plain_tops (beside a c))
    new : Gives (keeps x) (length (cross_tops a)) (plain_tops (beside b c))
    common : Gives (keeps x) before (plain_tops (with_common c []))

  flags_given : FlagsGiven
  flags_given =
      let none : List Bool = replicate (length (lone_entries a) + length (lone_entries b)) false in
      let old = plain_tops (beside a c) in
      let new = plain_tops (beside b c) in
      let common = plain_tops (with_common c []) in
      let all : Gives (keeps x) 0 (plain_nodes a b c) = subst (λ (w : List Bool). Gives (keeps x) 0 w) d.plain (gives_self x.plain false) in
      let front = gives_three (keeps x) 0 old new common (gives_left (keeps x) 0 (old ++ new ++ common) none all) in
      let one = length-map (cross_tops a) (is_plain (units_with_common (beside a c))) in
      let two = length-map (cross_tops b) (is_plain (units_with_common (beside b c))) in
      record {
        old = front.0;
        new = gives_as (keeps x) (0 + length old) (length (cross_tops a)) new (omega (arith, one)) front.1;
        common = gives_as (keeps x) (0 + length old + length new) before common (omega (arith, one, two)) front.2;
      }

  record NodesGiven : Type 0 where
    old : Gives (unit_at x) 0 (map (nodes_of 0) (numbered_units 0 together a))
    new : Gives (unit_at x) (length a) (map (nodes_of 0) (numbered_units (length (cross_tops a)) (together + length (lone_entries a)) b))
    common : Gives (unit_at x) (length a + length b) (map (nodes_of 0) (numbered_units before 0 c))
    units : x.units ≡ map (nodes_of 0) (numbered_units 0 together a) ++ map (nodes_of 0) (numbered_units (length (cross_tops a)) (together + length (lone_entries a)) b)
        ++ map (nodes_of 0) (numbered_units before 0 c)

  nodes_given : NodesGiven
  nodes_given =
      let lone = before + length (cross_tops c) in
      let third = tops_behind c in
      let same : lone ≡ together = omega (arith, third) in
      let old = map (nodes_of 0) (numbered_units 0 together a) in
      let new = map (nodes_of 0) (numbered_units (length (cross_tops a)) (together + length (lone_entries a)) b) in
      let common = map (nodes_of 0) (numbered_units before 0 c) in
      let old_is : map (nodes_of lone) (numbered_units 0 0 a) ≡ old = nodes_from lone 0 a ∙ ap (λ (n : ℕ). map (nodes_of 0) (numbered_units 0 n a)) same in
      let new_is : map (nodes_of (lone + length (lone_entries a))) (numbered_units (length (cross_tops a)) 0 b) ≡ new =
      nodes_from (lone + length (lone_entries a)) (length (cross_tops a)) b
      ∙ ap (λ (n : ℕ). map (nodes_of 0) (numbered_units (length (cross_tops a)) (n + length (lone_entries a)) b)) same in
      let units : x.units ≡ old ++ new ++ common = d.units ∙ (λ i. old_is i ++ new_is i ++ common) in
      let all : Gives (unit_at x) 0 (old ++ new ++ common) = subst (λ (w : List UnitNodes). Gives (unit_at x) 0 w) units (gives_self x.units no_unit) in
      let front = gives_three (unit_at x) 0 old new common all in
      let one = length-map (numbered_units 0 together a) (nodes_of 0) in
      let two = length-map (numbered_units (length (cross_tops a)) (together + length (lone_entries a)) b) (nodes_of 0) in
      let many = numbered_long 0 together a in
      let more = numbered_long (length (cross_tops a)) (together + length (lone_entries a)) b in
      record {
        old = front.0;
        new = gives_as (unit_at x) (0 + length old) (length a) new (omega (arith, one, many)) front.1;
        common = gives_as (unit_at x) (0 + length old + length new) (length a + length b) common (omega (arith, one, two, many, more)) front.2;
        units = units;
      }

  -- the nodes of the units of each of both
  taken : take x.old x.units ≡ map (nodes_of 0) (numbered_units 0 together a)
  taken =
      let old = map (nodes_of 0) (numbered_units 0 together a) in
      let new = map (nodes_of 0) (numbered_units (length (cross_tops a)) (together + length (lone_entries a)) b) in
      let common = map (nodes_of 0) (numbered_units before 0 c) in
      let units : x.units ≡ old ++ (new ++ common) = nodes_given.units ∙ append_assoc old new common in
      let one = length-map (numbered_units 0 together a) (nodes_of 0) in
      let long = numbered_long 0 together a in
      let count = d.old in
      let many : x.old ≡ length old = omega (arith, one, long, count) in
      (λ i. take (many i) (units i)) ∙ take-append_seam old (new ++ common)

  taken_behind : take x.new (drop x.old x.units) ≡ map (nodes_of 0) (numbered_units (length (cross_tops a)) (together + length (lone_entries a)) b)
  taken_behind =
      let old = map (nodes_of 0) (numbered_units 0 together a) in
      let new = map (nodes_of 0) (numbered_units (length (cross_tops a)) (together + length (lone_entries a)) b) in
      let common = map (nodes_of 0) (numbered_units before 0 c) in
      let units : x.units ≡ old ++ (new ++ common) = nodes_given.units ∙ append_assoc old new common in
      let one = length-map (numbered_units 0 together a) (nodes_of 0) in
      let two = length-map (numbered_units (length (cross_tops a)) (together + length (lone_entries a)) b) (nodes_of 0) in
      let long = numbered_long 0 together a in
      let more = numbered_long (length (cross_tops a)) (together + length (lone_entries a)) b in
      let count = d.old in
      let others = d.new in
      let many : x.old ≡ length old = omega (arith, one, long, count) in
      let after : x.new ≡ length new = omega (arith, two, more, others) in
      (λ i. take (after i) (drop (many i) (units i))) ∙ ap (take (length new)) (drop-append_seam old (new ++ common)) ∙ take-append_seam new common

  common_ends : Gives (λ n. node_ends (unit_at x n)) (length a + length b) (map unit_ends (numbered_units before 0 (behind c)))
  common_ends =
      subst (λ (w : List (ℕ × ℕ)). Gives (λ n. node_ends (unit_at x n)) (length a + length b) w) (ends_behind before 0 0 c)
      (gives_map node_ends (unit_at x) (length a + length b) (map (nodes_of 0) (numbered_units before 0 c)) nodes_given.common)

  path_at : (k : ℕ) (u : DwUnit ℕ) → slice_get (a ++ b ++ c) k ≡ Some u → IsPathOf u u.kind (slice_index_or x.paths k [])
  path_at k u e =
      let low = got_below (a ++ b ++ c) k u e in
      let many = two_long (λ v. IsPathOf v v.kind) (a ++ b ++ c) x.paths d.paths in
      let p = got_there x.paths k (omega (arith, low, many)) in
      subst (λ (path : List ℕ). IsPathOf u u.kind path) (sym (got_index_or x.paths k p.0 [] p.1)) (two_at (λ v. IsPathOf v v.kind) (a ++ b ++ c) x.paths k u p.0 d.paths e p.1)

  -- what own units import, where these lists are there from a number on
  imports_at : (own first : ℕ) (parts : List (List ℕ)) (k n : ℕ) → Gives (λ m. slice_index_or x.imports m []) k (imports_among own first (length a + length b) parts) → n < length parts
      → slice_index_or x.imports (k + n) [] ≡ map (among_all own first (length a + length b)) (slice_index_or parts n [])
  imports_at own first parts k n h lt =
      let o = got_there parts n lt in
      gives_at (λ m. slice_index_or x.imports m []) k n (imports_among own first (length a + length b) parts) (map (among_all own first (length a + length b)) o.0) h
      (got_map (map (among_all own first (length a + length b))) parts n o.0 o.1)
      ∙ ap (map (among_all own first (length a + length b))) (sym (got_index_or parts n o.0 [] o.1))

  record ImportsGiven : Type 0 where
    old : Gives (λ m. slice_index_or x.imports m []) 0 (imports_among (length a) 0 (length a + length b) d.old_lists)
    new : Gives (λ m. slice_index_or x.imports m []) (length a) (imports_among (length b) (length a) (length a + length b) d.new_lists)

  imports_given : ImportsGiven
  imports_given =
      let f : ℕ → List ℕ = λ m. slice_index_or x.imports m [] in
      let both = length a + length b in
      let old = imports_among (length a) 0 both d.old_lists in
      let new = imports_among (length b) (length a) both d.new_lists in
      let common = imports_among (length c) both both d.common_lists in
      let all : Gives f 0 (old ++ new ++ common) = subst (λ (w : List (List ℕ)). Gives f 0 w) d.imports (gives_self x.imports []) in
      let front = gives_three f 0 old new common all in
      let one = length-map d.old_lists (map (among_all (length a) 0 both)) in
      let many = d.old_imports.len in
      record { old = front.0; new = gives_as f (0 + length old) (length a) new (omega (arith, one, many)) front.1 }

  -- ---- of each of both

  module _ (old : IsWellRead (beside a c)) (new : IsWellRead (beside b c)) (old_low : (u : DwUnit ℕ) → In u a → u.root.at < 2 ^ 32) (new_low : (u : DwUnit ℕ) → In u b → u.root.at < 2 ^ 32)
      (few : length a + length b + length c < 2 ^ 32) (name other : ℕ → CrossName) where
    abbrev first : Side ℕ
    first = old_side (beside a c) (beside b c) name

    abbrev second : Side ℕ
    second = new_side (beside a c) (beside b c) other

    first_drawn : IsDrawnSide first x lists 0 (length a + length b)
    first_drawn = record {
      read = old;
      own_names = names_given.old;
      common_names = names_given.common;
      lone_names = names_given.old_lone;
      plain = keeps_plain first (keeps x) flags_given.old (subst (λ (w : List Bool). Gives (keeps x) before w) (sym (flags_same a c old_low)) flags_given.common);
      own_nodes = nodes_given.old;
      common_ends = common_ends;
      paths = λ n u e. (let same : n ≡ 0 + n = omega arith in path_at (0 + n) u (ap (slice_get (a ++ b ++ c)) (sym same) ∙ get_first (a ++ b) c n u (get_first a b n u e)));
      parts = d.old_lists;
      import_lists = d.old_imports;
      imports = λ n lt. let many = d.old_imports.len in imports_at (length a) 0 d.old_lists 0 n imports_given.old (omega (arith, lt, many));
    }

    second_drawn : IsDrawnSide second x lists (length a) (length a + length b)
    second_drawn = record {
      read = new;
      own_names = names_given.new;
      common_names = names_given.common;
      lone_names = names_given.new_lone;
      plain = keeps_plain second (keeps x) flags_given.new (subst (λ (w : List Bool). Gives (keeps x) before w) (sym (flags_same b c new_low)) flags_given.common);
      own_nodes = nodes_given.new;
      common_ends = common_ends;
      paths = λ n u e. path_at (length a + n) u (get_first (a ++ b) c (length a + n) u (get_later a b n u e));
      parts = d.new_lists;
      import_lists = d.new_imports;
      imports = λ n lt. let many = d.new_imports.len in imports_at (length b) (length a) d.new_lists (length a) n imports_given.new (omega (arith, lt, many));
    }

    -- such columns say the rows of both files
    pub drawn_rows : ShowRows (beside a c) (beside b c) name other x
    drawn_rows = record {
      fit = columns_fit a b c x d old few;
      lists = lists;
      numbering = numbering d.known d.bound d.few d.apart (node_lists a b c) x.names d.names;
      old = λ classes. subst (λ (us : List UnitNodes). EachTwo (IsCrossRow first classes) (whole_units a) (unit_rows lists classes x 0 us)) (sym taken) (side_rows first x lists 0 (length a + length b) first_drawn classes);
      new = λ classes. subst (λ (us : List UnitNodes). EachTwo (IsCrossRow second classes) (whole_units b) (unit_rows lists classes x x.old us)) (sym taken_behind)
          (subst (λ (k : ℕ). EachTwo (IsCrossRow second classes) (whole_units b) (unit_rows lists classes x k (map (nodes_of 0) (numbered_units (length (cross_tops a)) (together + length (lone_entries a)) b)))) (sym d.old)
          (side_rows second x lists (length a) (length a + length b) second_drawn classes));
    }
