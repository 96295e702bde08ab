-- A unit of a file stands from its root on; the entry of the type of a type unit is in no top, so it stands for itself.
use Rattle.std.proofs.Common.{◌≡◌, ℕ, ◌+◌, List, [], ◌∷◌, ◌++◌, drop, Some, slice_get, refl, sym, ap, subst, ◌∙◌, inl, inr}
use Rattle.dwz_def_reading.specs.Entries.{root_position}
use Rattle.dwz_def_reading.specs.Lists.{In}
use Rattle.dwz_def_reading.specs.Units.{CompileUnit, PartialUnit, RawKind, RawUnit, TypeUnit}
use Rattle.dwz_def_reading.proofs.ListFacts.{in_map}
use Rattle.dwz_def_reading.specs.Documents.{Compile, DwUnit, Kind, OfType, entries_map, kind_map, node_map, unit_map}
use Rattle.dwz_def_reading.specs.Files.{around_of}
use Rattle.dwz_def_reading.specs.Meanings.{Around, MeansKind, MeansUnit, places_of, scope_of}
use Rattle.dwz_def_reading.proofs.MeaningUnits.{entries_agree, node_agrees}
use Rattle.dwz_def_tops.specs.Lists.{Nth}
use Rattle.dwz_def_tops.specs.Seen.{IsPartial}
use Rattle.dwz_def_tops.specs.Shown.{keys as places_below}
use Rattle.dwz_def_tops.proofs.Members.{nth_in}
use Rattle.dwz_def_reading.proofs.HasLemmas.{in_has}
use Rattle.dwz_def_tops.specs.Spots.{EntryName, FileUnit, InType, Labelled, RootOf, in_file, rows_of_root as tops_row}
use Rattle.dwz_def_images.specs.Moves.{image_in}
use Rattle.dwz_def_images.specs.Plan.{image_by}
use Rattle.dwz_def_images.specs.After.{AreOld}
use Rattle.dwz_def_tops.specs.UnitNames.{IsNamedBelow}
use Rattle.dwz_def_images.proofs.ApartTrees.{behind}
use Rattle.dwz_def_images.proofs.OldFiles.{files_old}
use Rattle.dwz_graph.specs.Resolved.{place_at}
use Rattle.dwz_graph.specs.declared.file.File.{File}
use Rattle.dwz_graph.specs.Index.{Index}
use Rattle.dwz_unit.specs.Rows.{EntryRow, rows_in, rows_of, units_of as raw_units}
use Rattle.dwz_graph.proofs.TopThere.{alone_means}
use Rattle.dwz_graph.specs.Across.{IsFileAmong}
use Rattle.dwz_layout_order.specs.Sorts.{SortBy, SortOf, row_of}
use Rattle.dwz_layout.specs.declared.known.EntryTable.{EntryTable}
use Rattle.dwz_layout.specs.declared.order.Sort.{Sort}
use Rattle.dwz_layout.specs.declared.order.Sort.TheVariants.{Compile as CompileSort, OfType as TypeSort}
use Rattle.dwz_layout.specs.Entries.{row}
use Rattle.dwz_law_layout.specs.Knows.{ShowsRow, ShowsTree}
use Rattle.dwz_law_layout.specs.Beside.{Beside}
use Rattle.dwz_law_layout.specs.Facts.{AreFacts, RunFacts, docs, file_read, move, units}
use Rattle.dwz_law_layout.specs.Named.{keys}
use Rattle.dwz_law_layout.proofs.FileEntries.{IsHere, key_is, named_every, run_name}
use Rattle.dwz_law_layout.proofs.ReadFiles.{all_placed}
use Rattle.dwz_law_layout.specs.Roots.{UnitShown}
use Rattle.dwz_law_layout.proofs.AfterNames.{entries_named, name, node_named, row_of_tree}

-- ---- what stands for itself

-- the type of a type unit
main_stays : (all : List (FileUnit EntryName)) → AreOld all → (i : ℕ) (u : FileUnit EntryName) → Nth 0 all i u → (signature : ℕ) (main : EntryName) → u.unit.kind ≡ OfType signature main
    → (stand : ℕ → ℕ) → image_by stand main ≡ main
main_stays all old i u nth signature main kind stand =
    by (old.mains u.unit (in_map (λ (w : FileUnit EntryName). w.unit) u all (nth_in 0 all i u nth)) signature main kind)
  where
    named : Labelled (InType i) [] 0 u.unit.below
    named = subst (λ (k : Kind EntryName). IsNamedBelow i k (tops_row all i) u.unit.below) kind (old.units_named i u nth).below

    by : In main (u.unit.root.at ∷ places_below u.unit.below) → image_by stand main ≡ main
    by (inl e) =
        let is : main ≡ RootOf i = sym e ∙ (old.units_named i u nth).root in
        subst (λ (w : EntryName). image_by stand w ≡ w) (sym is) refl
    by (inr r) =
        let b = behind (InType i) [] 0 u.unit.below named main r in
        subst (λ (w : EntryName). image_by stand w ≡ w) (sym b.is) refl

-- ---- all of a unit

module _ {beside : Beside} (f : RunFacts beside) (n : ℕ) (bytes : List ℕ) (x : File) (index : Index) (is : IsFileAmong f.contents n bytes x index) where
  abbrev pub raw : List RawUnit
  raw = raw_units x.units

  abbrev pub around : Around ℕ
  around = around_of bytes raw

  abbrev pub called : ℕ → EntryName
  called = name f n bytes x index is

  unit_tree : (j first : ℕ) (u : RawUnit) (v : DwUnit ℕ) (rest : List EntryRow) → slice_get raw j ≡ Some u → MeansUnit around u v → drop first (rows_of raw) ≡ rows_in u j first ++ rest
      → ShowsTree (file_read f n bytes x) (row n first) (node_map (image_in (move f)) (node_map called v.root)) (entries_map (image_in (move f)) (entries_map called v.below))
  unit_tree j first u v rest is_unit means rows =
      let s = scope_of around u in
      record {
        number = j;
        unit = u;
        is_unit = is_unit;
        e = u.root;
        c = u.below;
        d = v.root;
        g = v.below;
        p = root_position first;
        behind = rest;
        row_is = refl;
        stand = rows;
        means = alone_means s u.root u.below v.root v.below (((node_agrees s u.root).ok v.root).1 means.root) (((entries_agree s u.below).ok v.below).1 means.below);
        node_is = node_named f n bytes x index is v.root;
        below_is = entries_named f n bytes x index is v.below;
      }

  -- ---- its sort

  pub unit_shown : (k : EntryTable) (facts : AreFacts f) (o : IsHere f k n x index) (j first i : ℕ) (u : RawUnit) (v : DwUnit ℕ) (rest : List EntryRow) (sort : Sort)
      → slice_get raw j ≡ Some u → MeansUnit around u v → (IsPartial v.kind → ⊥) → drop first (rows_of raw) ≡ rows_in u j first ++ rest
      → Nth 0 (units f) i (in_file n (unit_map called v)) → SortOf raw n o.start first u sort → UnitShown f n bytes x (unit_map called v) sort
  unit_shown k facts o j first i u v rest sort is_unit means whole rows nth sorted = by u.kind v.kind means.kind sorted whole nth where
    tree : ShowsTree (file_read f n bytes x) (row_of n first) (node_map (image_in (move f)) (node_map called v.root)) (entries_map (image_in (move f)) (entries_map called v.below))
    tree = unit_tree j first u v rest is_unit means rows

    alone : ShowsRow (file_read f n bytes x) (row_of n first) (node_map (image_in (move f)) (node_map called v.root))
    alone = row_of_tree (file_read f n bytes x) (row_of n first) (node_map (image_in (move f)) (node_map called v.root)) (entries_map (image_in (move f)) (entries_map called v.below)) tree

    -- with that kind
    so : Kind ℕ → DwUnit EntryName
    so kind = record { at = called v.at; kind = kind_map called kind; root = node_map called v.root; below = entries_map called v.below }

    by : (w : RawKind) (kind : Kind ℕ) → MeansKind (scope_of around u) w kind → SortBy raw n o.start first u w sort → (IsPartial kind → ⊥) → Nth 0 (units f) i (in_file n (so kind))
        → UnitShown f n bytes x (so kind) sort
    by CompileUnit kind means sorted whole nth =
        let here : UnitShown f n bytes x (so Compile) (CompileSort (row_of n first)) = record { sort = tt; root = λ at. inl alone; whole = inl tree } in
        subst (λ (q : Kind ℕ). UnitShown f n bytes x (so q) sort) (sym means) (subst (UnitShown f n bytes x (so Compile)) (sym sorted) here)
    by (TypeUnit signature type_offset) kind means sorted whole nth =
        let p = u.at + type_offset in
        let main = sorted.0 in
        let at : place_at raw main ≡ p = sorted.3 (in_has p (places_of u) means.0) in
        let type_unit : in_file n (so kind) ≡ in_file n (so (OfType signature p)) = ap (λ (q : Kind ℕ). in_file n (so q)) means.1 in
        let old = files_old (docs f) (all_placed f facts) in
        let stays : image_in (move f) (called p) ≡ called p =
        main_stays (units f) old i (in_file n (so (OfType signature p))) (subst (λ (w : FileUnit EntryName). Nth 0 (units f) i w) type_unit nth) signature (called p) refl (move f).stand in
        let key : (keys f).row (o.start + main) ≡ called p =
        key_is f k n x index o (o.start + main) _ (named_every f k n x index o main sorted.2) ∙ sym (run_name f k n x index o (place_at raw main)) ∙ is.names (place_at raw main) ∙ ap called at in
        let here : UnitShown f n bytes x (so (OfType signature p)) (TypeSort (row_of n first) signature (o.start + main)) =
        record { sort = (refl, key ∙ sym stays); root = λ at. inl alone; whole = inl tree } in
        subst (λ (q : Kind ℕ). UnitShown f n bytes x (so q) sort) (sym means.1) (subst (UnitShown f n bytes x (so (OfType signature p))) (sym sorted.1) here)
    by PartialUnit kind means sorted whole nth = absurd (subst (λ (q : Kind ℕ). IsPartial q → ⊥) means whole tt)
