-- The rows of the units of one of two files, where columns show it.
use Rattle.std.proofs.Common.{◌≡◌, ℕ, suc, ◌+◌, ◌-◌, ◌<◌, Bool, List, [], ◌∷◌, ◌++◌, length, map, Some, slice_get, refl, sym, ap, subst, ◌∙◌, inl, inr, arith}
use Rattle.std.specs.Prelude.{slice_index, slice_index_or, if◌then◌else◌}
use Rattle.std.specs.List.{flat_map}
use Rattle.std.proofs.lemmas.Bool.{le-ltb, lt-ltb}
use Rattle.dwz_model.specs.Lists.{In}
use Rattle.dwz_model.proofs.ListFacts.{got_below, got_in, got_map}
use Rattle.dwz_def_reading.specs.Documents.{Compile, DwUnit, Kind, OfType, Partial}
use Rattle.dwz_def_tops.specs.Seen.{IsPartial}
use Rattle.dwz_def_cross.specs.CrossSame.{EachTwo}
use Rattle.dwz_def_cross.specs.Tops.{unless_partial, units_with_common, whole_units}
use Rattle.dwz_def_check.specs.CrossLists.{AreImported, IsListedRow, KeepsPlain, NumberedUnit, classed_parts, classed_spaces, classed_tops, common_numbered, own_units}
use Rattle.dwz_def_check.specs.CrossNames.{IsWellRead, Side, cross_tops, cross_tops_in, unit_tops}
use Rattle.dwz_def_check.specs.CrossNodes.{lone_of}
use Rattle.dwz_def_check.specs.CrossRows.{Classed, CompileRow, IsCrossRow, SameMembers, TypeRow, UnitRow}
use Rattle.dwz_def_check.proofs.ListedRows.{listed_row}
use Rattle.dwz_def_expand.specs.Source.{imported_in, once}
use Rattle.dwz_graph.proofs.TopLemmas.{get_cases}
use Rattle.dwz_imports.specs.Imports.{AreImportLists, AreUnits, same}
use Rattle.dwz_check_rows.specs.declared.columns.Columns.{Columns}
use Rattle.dwz_check_rows.specs.declared.columns.UnitNodes.{UnitNodes}
use Rattle.dwz_check_rows.specs.UnitRows.{classed, kind_row, numbers_between, plain_tops, tops_with_imports, unit_at, unit_rows}
use Rattle.dwz_check_sides.specs.Units.{lone_end, meant_kind, nodes_of, tops_end}
use Rattle.dwz_check_sides.proofs.UnitNodes.{numbered_long, unit_at as numbered_at}
use Rattle.dwz_check_columns.specs.Drawn.{IsPathOf, among_all, lists_of, lone_lists}
use Rattle.dwz_check_columns.proofs.ImportedParts.{IsPart, PartsOf, are_imported, parts_of}
use Rattle.dwz_check_columns.proofs.NumberedUnits.{all_numbered, lone_given, names_of, tops_given, unit_of, units_numbered}
use Rattle.dwz_check_columns.proofs.SideRows.{IsUnitShown, keeps, name_at, parts_tops_are, spaces_are, unit_tops_are}
use Rattle.dwz_check_columns.proofs.TwoLists.{Gives, gives_at, two_mapped, two_within}

-- where the tops of a unit begin, and where they end
abbrev pub node_ends : UnitNodes → ℕ × ℕ
node_ends u = (u.top, u.tops_end)

abbrev pub unit_ends : NumberedUnit ℕ → ℕ × ℕ
unit_ends y = (y.top, tops_end y)

-- The columns show a file with its common one: its own units have numbers from `first` on, and the common ones from `behind` on.
pub record IsDrawnSide (s : Side ℕ) (x : Columns) (lists : ℕ → List (List ℕ)) (first behind : ℕ) : Type 0 where
  pub read : IsWellRead s.files
  pub own_names : Gives (name_at x lists) s.own (map names_of (cross_tops s.files.own))
  pub common_names : Gives (name_at x lists) s.common (map names_of (cross_tops s.files.common))
  pub lone_names : Gives (name_at x lists) s.lone (lone_lists s.files.own)
  pub plain : KeepsPlain s (keeps x)
  pub own_nodes : Gives (unit_at x) first (map (nodes_of 0) (own_units s))
  pub common_ends : Gives (λ n. node_ends (unit_at x n)) behind (map unit_ends (common_numbered s))
  pub paths : (n : ℕ) (u : DwUnit ℕ) → slice_get s.files.own n ≡ Some u → IsPathOf u u.kind (slice_index_or x.paths (first + n) [])
  pub parts : List (List ℕ)
  pub import_lists : AreImportLists s.files parts
  pub imports : (n : ℕ) → n < length s.files.own
      → slice_index_or x.imports (first + n) [] ≡ map (among_all (length s.files.own) first behind) (slice_index_or parts n [])

-- ---- numbers among all units

pub among_own : (own first behind n : ℕ) → n < own → among_all own first behind n ≡ first + n
among_own own first behind n lt = ap (λ (b : Bool). if b then first + n else behind + (n - own)) (lt-ltb n own lt)

pub among_common : (own first behind n j : ℕ) → n ≡ own + j → among_all own first behind n ≡ behind + j
among_common own first behind n j e =
    let rest : behind + (n - own) ≡ behind + j = omega (arith, e) in
    ap (λ (b : Bool). if b then first + n else behind + (n - own)) (le-ltb n own (omega (arith, e))) ∙ rest

-- ---- rows

members : {X : Type 0} (xs ys : List X) → xs ≡ ys → SameMembers xs ys
members {X} xs ys e z = (λ h. subst (λ (w : List X). In z w) e h, λ h. subst (λ (w : List X). In z w) (sym e) h)

partial_tops : (kind : Kind ℕ) (u : DwUnit ℕ) → IsPartial kind → unit_tops kind u ≡ cross_tops_in [] u.below
partial_tops Partial u p = refl
partial_tops Compile u p = absurd p
partial_tops (OfType signature main) u p = absurd p

module _ (s : Side ℕ) (x : Columns) (lists : ℕ → List (List ℕ)) (first behind : ℕ) (drawn : IsDrawnSide s x lists first behind) (classes : List ℕ) where
  abbrev class_of : ℕ → Classed
  class_of n = classed lists classes x n

  abbrev among : ℕ → ℕ
  among n = among_all (length s.files.own) first behind n

  shown_own : (n : ℕ) (y : NumberedUnit ℕ) → slice_get (own_units s) n ≡ Some y → IsUnitShown x lists (first + n) y
  shown_own n y e =
      let u = gives_at (unit_at x) first n (map (nodes_of 0) (own_units s)) (nodes_of 0 y) drawn.own_nodes (got_map (nodes_of 0) (own_units s) n y e) in
      record {
        top = ap (λ (w : UnitNodes). w.top) u;
        end = ap (λ (w : UnitNodes). w.tops_end) u;
        names = tops_given (name_at x lists) s.own s.lone s.files.own y drawn.own_names (got_in (own_units s) n y e);
      }

  shown_common : (n : ℕ) (y : NumberedUnit ℕ) → slice_get (common_numbered s) n ≡ Some y → IsUnitShown x lists (behind + n) y
  shown_common n y e =
      let u = gives_at (λ m. node_ends (unit_at x m)) behind n (map unit_ends (common_numbered s)) (unit_ends y) drawn.common_ends (got_map unit_ends (common_numbered s) n y e) in
      record {
        top = ap (λ (w : ℕ × ℕ). w.0) u;
        end = ap (λ (w : ℕ × ℕ). w.1) u;
        names = tops_given (name_at x lists) s.common 0 s.files.common y drawn.common_names (got_in (common_numbered s) n y e);
      }

  shown_part : (n : ℕ) (y : NumberedUnit ℕ) → slice_get (all_numbered s) n ≡ Some y → IsUnitShown x lists (among n) y
  shown_part n y e =
      let long = numbered_long s.own s.lone s.files.own in
      elim (get_cases (own_units s) (common_numbered s) n y e) [
        | inl a ↦
            (let low = got_below (own_units s) n y a in
            subst (λ (k : ℕ). IsUnitShown x lists k y) (sym (among_own (length s.files.own) first behind n (omega (arith, low, long)))) (shown_own n y a))
        | inr b ↦
            (let at = b.1 in
            subst (λ (k : ℕ). IsUnitShown x lists k y) (sym (among_common (length s.files.own) first behind n b.0 (omega (arith, at, long)))) (shown_common b.0 y b.2))
      ]

  -- one of the file's own units
  module _ (n : ℕ) (y : NumberedUnit ℕ) (got : slice_get (own_units s) n ≡ Some y) where
    abbrev imported_units : List (DwUnit ℕ)
    imported_units = once same (imported_in same (units_with_common s.files) y.unit.below)

    abbrev numbers : List ℕ
    numbers = slice_index_or drawn.parts n []

    unit_got : slice_get s.files.own n ≡ Some y.unit
    unit_got = numbered_at s.own s.lone s.files.own n y got

    are_units : AreUnits (units_with_common s.files) numbers imported_units
    are_units = drawn.import_lists.each n y.unit unit_got

    parts : PartsOf s numbers imported_units
    parts = parts_of s numbers imported_units are_units

    parts_imported : AreImported s y.unit parts.0
    parts_imported = are_imported s drawn.read y.unit numbers are_units parts

    abbrev TopsAre : ℕ → NumberedUnit ℕ → Type 0
    TopsAre m z = map class_of (plain_tops x (unit_at x m)) ≡ classed_tops classes (keeps x) z.top (cross_tops_in [] z.unit.below)

    part_tops : (m : ℕ) (z : NumberedUnit ℕ) → In z parts.0 → IsPart s m z → TopsAre (among m) z
    part_tops m z is at =
        let i = (parts_imported z).0 is in
        unit_tops_are x lists classes (among m) z (shown_part m z at) (partial_tops z.unit.kind z.unit i.1.2.partial)

    all_tops : y.unit.kind ≡ Compile → map class_of (tops_with_imports x (first + n)) ≡ classed_parts classes (keeps x) (y ∷ parts.0)
    all_tops e =
        let own : TopsAre (first + n) y = unit_tops_are x lists classes (first + n) y (shown_own n y got) (ap (λ (k : Kind ℕ). unit_tops k y.unit) e) in
        let others : EachTwo TopsAre (map among numbers) parts.0 = two_mapped among TopsAre numbers parts.0 (two_within (IsPart s) (λ m z. TopsAre (among m) z) numbers parts.0 part_tops parts.1) in
        let low = got_below s.files.own n y.unit unit_got in
        ap (λ (ms : List ℕ). map class_of (flat_map (λ m. plain_tops x (unit_at x m)) ((first + n) ∷ ms))) (drawn.imports n low)
        ∙ parts_tops_are x lists classes ((first + n) ∷ map among numbers) (y ∷ parts.0) (own, others)

    listed : (k : Kind ℕ) (row : UnitRow) → y.unit.kind ≡ k → IsListedRow classes (keeps x) y parts.0 k row → IsCrossRow s classes y.unit row
    listed k row e h =
        listed_row s classes (keeps x) y parts.0 drawn.read (got_in (own_units s) n y got) parts_imported drawn.plain row
        (subst (λ (w : Kind ℕ). IsListedRow classes (keeps x) y parts.0 w row) (sym e) h)

    spaces_so : y.unit.kind ≡ Compile → map class_of (numbers_between (suc (0 + y.lone)) (0 + lone_end y)) ≡ classed_spaces classes [] (suc y.lone) y.unit.below
    spaces_so e =
        let none : 0 + y.lone ≡ y.lone = omega arith in
        let many = ap (λ (k : Kind ℕ). length (lone_of k y.unit)) e in
        let names : Gives (name_at x lists) y.lone (lists_of Compile y.unit) =
        subst (λ (k : Kind ℕ). Gives (name_at x lists) y.lone (lists_of k y.unit)) e
        (lone_given (name_at x lists) s.own s.lone s.files.own y drawn.lone_names (got_in (own_units s) n y got)) in
        ap (λ (k : ℕ). map class_of (numbers_between (suc k) (0 + lone_end y))) none
        ∙ spaces_are x lists classes [] (suc y.lone) (0 + lone_end y) y.unit.below names.1 (omega (arith, many))

    -- its rows are those of the unit
    rows_of_kind : (k : Kind ℕ) → y.unit.kind ≡ k → (units : List (DwUnit ℕ)) (rows : List UnitRow) → EachTwo (IsCrossRow s classes) units rows
        → EachTwo (IsCrossRow s classes) (unless_partial k y.unit units) (kind_row lists classes x (first + n) (nodes_of 0 y) (meant_kind (0 + y.lone) (0 + lone_end y) k) ++ rows)
    rows_of_kind Compile e units rows h =
        let none : 0 + y.lone ≡ y.lone = omega arith in (
          listed Compile
              (CompileRow (slice_index classes (0 + y.lone)) (map class_of (numbers_between (suc (0 + y.lone)) (0 + lone_end y))) (map class_of (tops_with_imports x (first + n)))) e
              (ap (λ (m : ℕ). slice_index classes m) none, members _ _ (spaces_so e), members _ _ (all_tops e)),
          h,
        )
    rows_of_kind (OfType signature main) e units rows h = (
      listed (OfType signature main) (TypeRow signature (slice_index_or x.paths (first + n) []) (slice_index classes y.top)) e
          (refl, subst (λ (k : Kind ℕ). IsPathOf y.unit k (slice_index_or x.paths (first + n) [])) e (drawn.paths n y.unit unit_got), refl),
      h,
    )
    rows_of_kind Partial e units rows h = h

  rows_from : (n : ℕ) (ys : List (NumberedUnit ℕ)) → ((i : ℕ) (y : NumberedUnit ℕ) → slice_get ys i ≡ Some y → slice_get (own_units s) (n + i) ≡ Some y)
      → EachTwo (IsCrossRow s classes) (whole_units (map unit_of ys)) (unit_rows lists classes x (first + n) (map (nodes_of 0) ys))
  unfolding whole_units
  rows_from n [] h = tt
  rows_from n (y ∷ ys) h =
      let none : n + 0 ≡ n = omega arith in
      let next : first + suc n ≡ suc (first + n) = omega arith in
      let here : slice_get (own_units s) n ≡ Some y = ap (slice_get (own_units s)) (sym none) ∙ h 0 y refl in
      let later : (i : ℕ) (z : NumberedUnit ℕ) → slice_get ys i ≡ Some z → slice_get (own_units s) (suc n + i) ≡ Some z =
      λ i z e. (let k : suc n + i ≡ n + suc i = omega arith in ap (slice_get (own_units s)) k ∙ h (suc i) z e) in
      let rest = subst (λ (k : ℕ). EachTwo (IsCrossRow s classes) (whole_units (map unit_of ys)) (unit_rows lists classes x k (map (nodes_of 0) ys))) next (rows_from (suc n) ys later) in
      rows_of_kind n y here y.unit.kind refl (whole_units (map unit_of ys)) (unit_rows lists classes x (suc (first + n)) (map (nodes_of 0) ys)) rest

  -- the rows of all its units that aren't partial
  pub side_rows : EachTwo (IsCrossRow s classes) (whole_units s.files.own) (unit_rows lists classes x first (map (nodes_of 0) (own_units s)))
  side_rows =
      let none : first + 0 ≡ first = omega arith in
      let rows = rows_from 0 (own_units s) (λ i y e. let k : 0 + i ≡ i = omega arith in ap (slice_get (own_units s)) k ∙ e) in
      subst (λ (us : List (DwUnit ℕ)). EachTwo (IsCrossRow s classes) (whole_units us) (unit_rows lists classes x first (map (nodes_of 0) (own_units s)))) (units_numbered s.own s.lone s.files.own)
      (subst (λ (k : ℕ). EachTwo (IsCrossRow s classes) (whole_units (map unit_of (own_units s))) (unit_rows lists classes x k (map (nodes_of 0) (own_units s)))) none rows)
