-- The tops of all files in step with what is kept of them: ways up lead to spaces of the top's unit; so do the chains of a partial unit.
use Rattle.std.proofs.Common.{◌≡◌, ℕ, zero, suc, ◌+◌, List, [], ◌∷◌, ◌++◌, length, map, Some, slice_get, inl, inr, refl, sym, ap, subst, ◌∙◌, arith}
use Rattle.std.proofs.lemmas.List.{append-nil, append_assoc, length-append, length-map}
use Rattle.dwz_def_reading.specs.Lists.{In}
use Rattle.dwz_def_reading.specs.Trees.{size}
use Rattle.dwz_def_reading.specs.Documents.{Doc, DwUnit, Node, entries_map, kind_map, unit_map}
use Rattle.dwz_def_tops.proofs.Members.{each_in, each_more, in_map_from}
use Rattle.dwz_def_tops.specs.Spots.{EntryName, FileUnit, Top, in_file, named_files, spot_in, spots_from, tops_among, tops_from, tops_of, units_of}
use Rattle.dwz_def_tops.proofs.TopNumbers.{Numbered, tops_numbers}
use Rattle.dwz_graph.specs.declared.index.SpaceEntry.{SpaceEntry}
use Rattle.dwz_graph.specs.declared.index.Starts.{Starts}
use Rattle.dwz_graph.specs.declared.index.TopEntry.{TopEntry}
use Rattle.dwz_graph.specs.Index.{Index}
use Rattle.dwz_graph.specs.Steps.{all_spaces as spaces_from, below_root, is_space, space_entries, starts_behind as unit_behind}
use Rattle.dwz_graph.specs.Indexed.{AreIndexed, first_starts, starts_behind}
use Rattle.dwz_layout_items.specs.declared.order.ItemKind.{ItemKind}
use Rattle.dwz_layout_items.specs.declared.order.ItemKind.TheVariants.{Import, InChain, Root, Space as ASpaceOf, Top as ATopOf, Whole}
use Rattle.dwz_layout_items.specs.declared.partial.SpaceRow.{SpaceRow}
use Rattle.dwz_layout_items.specs.Chains.{Up, inner_at}
use Rattle.dwz_def_images.specs.Moves.{first_unit}
use Rattle.dwz_def_images.specs.Plan.{PartialUnit}
use Rattle.dwz_layout_order.specs.Lists.{all_spaces, all_tops, spaces_at}
use Rattle.dwz_layout_order.specs.Shown.{Pairs, RowsFrom, named_units}
use Rattle.dwz_layout_order.specs.Spaces.{said_of, spaces_below, spaces_of}
use Rattle.dwz_layout_order.proofs.ChainShown.{rows_parted}
use Rattle.dwz_layout_order.proofs.FileChains.{spaces_same}
use Rattle.dwz_layout_order.proofs.PartShown.{at_top, ups_from}
use Rattle.dwz_layout_order.proofs.UnitRows.{spaces_append}
use Rattle.dwz_law_layout.specs.Items.{IsOfPart}
use Rattle.dwz_law_layout.specs.New.{IsOfNew, NewItemsLaw, WaysLaw, rows_of_spaces, spaces_of_tops}
use Rattle.dwz_law_layout.specs.Old.{IsSpaceIn}
use Rattle.dwz_law_layout.proofs.PartItems.{part_items}
use Rattle.dwz_law_layout.proofs.SpaceWays.{IsWay, file_ways, spaces_long}

-- ---- file by file

pub file_long : (file first : ℕ) (name : ℕ → EntryName) (s : Starts) (said : List (DwUnit ℕ))
    → length (spaces_from is_space s first (map below_root said)) ≡ length (spaces_of (named_units file name said))
unfolding spaces_from spaces_of
file_long file first name s [] = refl
file_long file first name s (v ∷ said) =
    let b = below_root v in
    let next = unit_behind is_space s b in
    let behind = first + 1 + size v.below in
    let own = space_entries is_space s.space first b in
    let below = spaces_below (kind_map name v.kind) (entries_map name v.below) in
    let one = length-append own (spaces_from is_space next behind (map below_root said)) in
    let two = length-append below (spaces_of (named_units file name said)) in
    let mine = spaces_long is_space s.space first b in
    let same = spaces_same name v in
    let rest = file_long file behind name next said in
    omega arith

module _ (rows : List SpaceRow) (units : List (FileUnit EntryName)) where
  docs_ways : (file : ℕ) (s end : Starts) (docs : List (Doc ℕ)) (indexes : List Index) (before : List (FileUnit EntryName)) → AreIndexed s docs indexes end
      → units ≡ before ++ named_files file s.unit s.top docs
      → s.unit ≡ length before → s.space ≡ length (spaces_of before) → RowsFrom rows s.space (all_spaces indexes)
      → Pairs (IsWay rows units) (all_tops indexes) (tops_from s.unit s.top (named_files file s.unit s.top docs))
  unfolding named_files tops_from
  docs_ways file s end [] [] before h is number space from = tt
  docs_ways file s end [] (x ∷ indexes) before h is number space from = absurd h
  docs_ways file s end (doc ∷ docs) [] before h is number space from = absurd h
  docs_ways file s end (doc ∷ docs) (x ∷ indexes) before h is number space from =
      let name : ℕ → EntryName = spot_in (spots_from s.unit s.top doc.units) in
      let has = h.0.tops in
      let next = starts_behind s doc x in
      let mine = named_units file name doc.units in
      let others = named_files (suc file) (s.unit + length doc.units) (s.top + tops_among doc.units) docs in
      let parts = rows_parted rows s.space (length x.spaces) x.spaces (all_spaces indexes) refl from in
      let more : units ≡ (before ++ mine) ++ others = is ∙ sym (append_assoc before mine others) in
      let long = length-append before mine in
      let named_long : length mine ≡ length doc.units = length-map (map (unit_map name) doc.units) (in_file file) ∙ length-map doc.units (unit_map name) in
      let joined = ap (λ (w : List (Node EntryName)). length w) (spaces_append before mine) in
      let two = length-append (spaces_of before) (spaces_of mine) in
      let many = file_long file 0 name s doc.units in
      let spaces_are = ap (λ (w : List SpaceEntry). length w) has.spaces_are in
      let unit_next : next.unit ≡ length (before ++ mine) = omega arith in
      let space_next : next.space ≡ length (spaces_of (before ++ mine)) = omega arith in
      let rest = docs_ways (suc file) next end docs indexes (before ++ mine) h.1 more unit_next space_next parts.1 in
      let all = file_ways rows units file 0 name s doc.units before others (all_tops indexes) is number space (subst (RowsFrom rows s.space) has.spaces_are parts.0) rest in
      subst (λ (w : List TopEntry). Pairs (IsWay rows units) (w ++ all_tops indexes) (tops_from s.unit s.top (mine ++ others))) (sym has.tops_are) all

-- ---- a top by its number

paired : (R : TopEntry → Top → Type 0) (n : ℕ) (xs : List TopEntry) (ts : List Top) → Pairs R xs ts → Numbered n ts → (t : Top) → In t ts
    → (k : ℕ) × (x : TopEntry) × (slice_get xs k ≡ Some x) × (t.number ≡ n + k) × R x t
paired R n [] [] h numbers t i = absurd i
paired R n [] (u ∷ ts) h numbers t i = absurd h
paired R n (x ∷ xs) [] h numbers t i = absurd h
paired R n (x ∷ xs) (u ∷ ts) h numbers t (inl e) = (let number : t.number ≡ n = ap (λ (w : Top). w.number) (sym e) ∙ numbers.0 in (0, x, refl, omega arith, subst (R x) e h.0))
paired R n (x ∷ xs) (u ∷ ts) h numbers t (inr i) = (let r = paired R (suc n) xs ts h.1 numbers.1 t i in let number = r.3 in (suc r.0, r.1, r.2, omega arith, r.4))

inner_found : (lists : List ℕ) (xs : List TopEntry) (k : ℕ) (x : TopEntry) → slice_get xs k ≡ Some x → inner_at (map (spaces_at lists) xs) k ≡ x.inner
inner_found lists [] k x e = absurd cc
inner_found lists (y ∷ xs) zero x e = (let same : y ≡ x = cc in ap (λ (w : TopEntry). w.inner) same)
inner_found lists (y ∷ xs) (suc k) x e = inner_found lists xs k x e

pub ways : WaysLaw
unfolding spaces_of
ways docs indexes lists are t there ups up =
    let rows = rows_of_spaces indexes in
    let units = units_of docs in
    let from : RowsFrom rows 0 (all_spaces indexes) = record { after = []; rest = sym (append-nil rows) } in
    let pairs = docs_ways rows units 0 first_starts are.end docs indexes [] are.are refl refl refl from in
    let r = paired (IsWay rows units) 0 (all_tops indexes) (tops_of units) pairs (tops_numbers units) t there in
    let number : t.number ≡ r.0 = r.3 ∙ omega arith in
    let inner : inner_at (spaces_of_tops lists indexes) t.number ≡ r.1.inner = ap (inner_at (spaces_of_tops lists indexes)) number ∙ inner_found lists (all_tops indexes) r.0 r.1 r.2 in
    r.4 ups (subst (λ (k : ℕ). Up rows k ups) inner up)

-- ---- the items of a partial unit

of_new : (units : List (FileUnit EntryName)) (part : PartialUnit) (ups : ℕ → List ℕ) → ((j s : ℕ) → In j (map (λ t. t.number) part.tops) → In s (ups j) → IsSpaceIn units (first_unit part.tops) s)
    → (what : ItemKind)
    → IsOfPart (map (λ t. t.number) part.tops) ups what → IsOfNew units part what
of_new units part ups space Root h = h
of_new units part ups space Whole h = h
of_new units part ups space (ATopOf t) h = (let o = in_map_from (λ (x : Top). x.number) t part.tops h in (o.source, o.there, o.is))
of_new units part ups space (ASpaceOf s) h = h
of_new units part ups space (InChain chain s) h = space h.0 s h.1 h.2
of_new units part ups space (Import n) h = h

pub new_items : NewItemsLaw
new_items docs indexes m texts lists are known n part items made is =
    let rows = rows_of_spaces indexes in
    let units = units_of docs in
    let tops = all_tops indexes in
    let of_tops = spaces_of_tops lists indexes in
    let said = said_of units in
    let ups = ups_from rows said 0 tops (tops_of units) known.leads in
    let numbers : List ℕ = map (λ t. t.number) part.tops in
    let up : (j : ℕ) → In j numbers → Up rows (inner_at of_tops j) (ups j) = λ j i. (
    let o = in_map_from (λ (t : Top). t.number) j part.tops i in
    let t = o.source in
    let own = made.tops t o.there in
    let a = at_top rows said 0 tops (tops_of units) known.leads (tops_numbers units) t own.there in
    let number : t.number ≡ a.k = a.number ∙ omega arith in
    let inner : inner_at of_tops t.number ≡ a.x.inner = ap (inner_at of_tops) number ∙ inner_found lists tops a.k a.x a.found in
    subst (λ (w : ℕ). Up rows (inner_at of_tops w) (ups w)) o.is (subst (λ (w : ℕ). Up rows w (ups t.number)) (sym inner) a.up)
    ) in
    let names = part_items numbers ups rows of_tops items up is in
    let space : (j s : ℕ) → In j numbers → In s (ups j) → IsSpaceIn units (first_unit part.tops) s = λ j s i at. (
    let o = in_map_from (λ (t : Top). t.number) j part.tops i in
    let t = o.source in
    let own = made.tops t o.there in
    let each = ways docs indexes lists are t own.there (ups t.number) (up t.number (subst (λ (w : ℕ). In w numbers) (sym o.is) i)) in
    subst (λ (w : ℕ). IsSpaceIn units w s) own.unit (each_in (IsSpaceIn units t.unit) s (ups t.number) each (subst (λ (w : ℕ). In s (ups w)) (sym o.is) at))
    ) in
    record {
      others = names.others;
      items_are = names.items_are;
      each = each_more (λ x. IsOfPart numbers ups x.what) (λ x. IsOfNew units part x.what) names.others (λ x h. of_new units part ups space x.what h) names.each;
    }
