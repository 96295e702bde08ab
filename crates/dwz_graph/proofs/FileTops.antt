-- The rows of a top stand among those of its file: one unit after the other.
use Rattle.std.proofs.Common.{◌≡◌, ℕ, suc, ◌+◌, List, [], ◌∷◌, ◌++◌, map, drop, Some, Result, Ok, slice_get, refl, sym, ap, subst, ◌∙◌, inl, inr, arith}
use Rattle.std.specs.Prelude.{◌==◌, if◌then◌else◌, Bool, true, false}
use Rattle.std.proofs.lemmas.List.{append-nil}
use Rattle.dwz_def_reading.specs.Reading.{◌>>=◌}
use Rattle.dwz_def_reading.specs.Entries.{root_position}
use Rattle.dwz_def_reading.specs.Lists.{In}
use Rattle.dwz_def_reading.specs.Trees.{behind, first_below}
use Rattle.dwz_def_reading.specs.Units.{RawUnit, entry_count}
use Rattle.dwz_def_reading.proofs.PartLemmas.{bind_ok}
use Rattle.dwz_def_reading.proofs.ListFacts.{drop_first, in_cases}
use Rattle.dwz_def_tops.specs.Spots.{EntryName, Top, in_file, named, row_below, row_in, row_tops, spot_in, spots_from, top_count, tops_from}
use Rattle.dwz_def_tops.proofs.RowLemmas.{row_is, row_unit}
use Rattle.dwz_graph.specs.FlatTops.{HasTop, HasTopOfFile}
use Rattle.dwz_graph.proofs.TopThere.{has_language, has_top, left_behind}
use Rattle.dwz_def_reading.specs.Documents.{Attr, Compile, DwUnit, Entries, Kind, OfType, Partial, attr_map, entries_map, first_named, kind_map, language, number_of_attr, unit_map}
use Rattle.dwz_def_reading.specs.Meanings.{Around, scope_of}
use Rattle.dwz_def_reading.specs.Meant.{entries_meaning, kind_meaning, node_meaning, unit_meaning, unit_then, unit_with, units_meaning}
use Rattle.dwz_unit.specs.Rows.{EntryRow, rows_below, rows_from, rows_in, rows_of}
use Rattle.dwz_unit.proofs.ShownLemmas.{rows_in-length}

-- ---- what a unit means

unit_below : (around : Around ℕ) (u : RawUnit) (v : DwUnit ℕ) → unit_meaning around u ≡ Ok v → entries_meaning (scope_of around u) u.below ≡ Ok v.below
unit_below around u v h =
    let s = scope_of around u in
    let x = bind_ok (kind_meaning s u.kind) (λ kind. node_meaning s u.root >>= λ root. entries_meaning s u.below >>= unit_with around u kind root) v h in
    let y = bind_ok (node_meaning s u.root) (λ root. entries_meaning s u.below >>= unit_with around u x.0 root) v x.2 in
    let z = bind_ok (entries_meaning s u.below) (unit_with around u x.0 y.0) v y.2 in
    let w : DwUnit ℕ = record { at = around.place u.at; kind = x.0; root = y.0; below = z.0 } in
    let same : w ≡ v = cc in
    z.1 ∙ ap (λ (q : DwUnit ℕ). let r : Entries ℕ = q.below in let a : Result (Entries ℕ) _ = Ok r in a) same

pub record FirstUnit (around : Around ℕ) (u : RawUnit) (raw : List RawUnit) (units : List (DwUnit ℕ)) : Type 0 where
  pub v : DwUnit ℕ
  pub others : List (DwUnit ℕ)
  pub means : unit_meaning around u ≡ Ok v
  pub rest : units_meaning around raw ≡ Ok others
  pub is : v ∷ others ≡ units

first_unit : (around : Around ℕ) (u : RawUnit) (raw : List RawUnit) (units : List (DwUnit ℕ)) → units_meaning around (u ∷ raw) ≡ Ok units → FirstUnit around u raw units
unfolding units_meaning
first_unit around u raw units h =
    let x = bind_ok (unit_meaning around u) (λ v. units_meaning around raw >>= unit_then v) units h in
    let y = bind_ok (units_meaning around raw) (unit_then x.0) units x.2 in
    record { v = x.0; others = y.0; means = x.1; rest = y.1; is = (let w : x.0 ∷ y.0 ≡ units = cc in w) }

no_units : (around : Around ℕ) (units : List (DwUnit ℕ)) → units_meaning around [] ≡ Ok units → [] ≡ units
unfolding units_meaning
no_units around units h = let w : [] ≡ units = cc in w

-- ---- its language, with other places

number_same : (name : ℕ → EntryName) (attrs : List (Attr ℕ)) → number_of_attr (first_named 0x13 (map (attr_map name) attrs)) ≡ number_of_attr (first_named 0x13 attrs)
unfolding first_named
number_same name [] = refl
number_same name (a ∷ attrs) = go (number_same name attrs) (a.name == 0x13) where
  go : number_of_attr (first_named 0x13 (map (attr_map name) attrs)) ≡ number_of_attr (first_named 0x13 attrs) → (b : Bool)
      → number_of_attr (if b then Some (attr_map name a) else first_named 0x13 (map (attr_map name) attrs)) ≡ number_of_attr (if b then Some a else first_named 0x13 attrs)
  go more true = refl
  go more false = more

language_same : (name : ℕ → EntryName) (v : DwUnit ℕ) → language (unit_map name v) ≡ language v
language_same name v = number_same name v.root.attrs

-- ---- the rows of a unit

below_root : (u : RawUnit) (k before : ℕ) (rows rest : List EntryRow) → drop before rows ≡ rows_in u k before ++ rest → drop (first_below (root_position before)).before rows
    ≡ rows_below u.below k (first_below (root_position before)) ++ rest
unfolding rows_below
below_root u k before rows rest h =
    let p = root_position before in
    let row : EntryRow = record { entry = u.root; unit = k; depth = p.depth; end = (behind p u.below).before } in
    let f = drop_first rows before row ((rows_below u.below k (first_below p) ++ []) ++ rest) h in
    f.1 ∙ ap (λ (w : List EntryRow). w ++ rest) (append-nil (rows_below u.below k (first_below p)))

-- ---- unit by unit

module _ (around : Around ℕ) (name : ℕ → EntryName) (raw : List RawUnit) (units : List (DwUnit ℕ)) (file first : ℕ) where
  in_unit : (u : RawUnit) (v : DwUnit ℕ) (n m top before : ℕ) (rest : List EntryRow) (t : Top) → slice_get raw n ≡ Some u → slice_get units n ≡ Some v → unit_meaning around u ≡ Ok v → m ≡ first + n
      → drop before (rows_of raw) ≡ rows_in u n before ++ rest
      → (kind : Kind ℕ) → In t (row_tops (row_below file m top (unit_map name v) (kind_map name kind))) → HasTopOfFile around name raw units file first t
  unfolding row_tops
  in_unit u v n m top before rest t is_unit is_meant means number rows Compile is =
      let tongue = language (unit_map name v) in
      let from = first_below (root_position before) in
      let r = has_top (scope_of around u) name (rows_of raw) file m n tongue u.below v.below top [] from rest t (unit_below around u v means) (below_root u n before (rows_of raw) rest rows) is in
      let o = row_unit file m tongue [] top (row_in file m tongue [] top (entries_map name v.below)) (entries_map name v.below) (row_is file m tongue [] top (entries_map name v.below)) t is in
      record {
        n = n;
        u = u;
        v = v;
        is_unit = is_unit;
        is_meant = is_meant;
        means = means;
        of_file = o.0;
        number = o.1 ∙ number;
        of_language = has_language (scope_of around u) name (rows_of raw) file m n tongue v.below top [] t is ∙ language_same name v;
        top = subst (λ (w : List _). HasTop (scope_of around u) name (rows_of raw) n 2 w t) (sym r.1) r.2;
      }
  in_unit u v n m top before rest t is_unit is_meant means number rows (OfType signature main) is = absurd is
  in_unit u v n m top before rest t is_unit is_meant means number rows Partial is = absurd is

  from_unit : (us : List RawUnit) (vs : List (DwUnit ℕ)) (n m top before : ℕ) (t : Top) → units_meaning around us ≡ Ok vs → drop n raw ≡ us → drop n units ≡ vs → m ≡ first + n
      → drop before (rows_of raw) ≡ rows_from us n before
      → In t (tops_from m top (map (in_file file) (map (unit_map name) vs))) → HasTopOfFile around name raw units file first t
  unfolding tops_from rows_from
  from_unit [] vs n m top before t means at_raw at_units number rows is =
      absurd (subst (λ (w : List (DwUnit ℕ)). In t (tops_from m top (map (in_file file) (map (unit_map name) w)))) (sym (no_units around vs means)) is)
  from_unit (u ∷ us) vs n m top before t means at_raw at_units number rows is =
      let x = first_unit around u us vs means in
      let v = x.v in
      let fu = drop_first raw n u us at_raw in
      let fv = drop_first units n v x.others (at_units ∙ sym x.is) in
      let rest = rows_from us (n + 1) (before + entry_count u) in
      let both = subst (λ (w : List (DwUnit ℕ)). In t (tops_from m top (map (in_file file) (map (unit_map name) w)))) (sym x.is) is in
      elim (in_cases t (row_tops (row_below file m top (unit_map name v) (kind_map name v.kind)))
      (tops_from (suc m) (top + top_count (kind_map name v.kind) (entries_map name v.below)) (map (in_file file) (map (unit_map name) x.others))) both) [
        | inl a ↦ in_unit u v n m top before rest t fu.0 fv.0 x.means number rows v.kind a
        | inr b ↦ from_unit us x.others (n + 1) (suc m) (top + top_count (kind_map name v.kind) (entries_map name v.below)) (before + entry_count u) t x.rest fu.1 fv.1 (omega (arith, number))
            (left_behind (rows_of raw) before (before + entry_count u) (rows_in u n before) rest rows (ap (λ (k : ℕ). before + k) (rows_in-length u n before))) b
      ]

pub file_top : (around : Around ℕ) (raw : List RawUnit) (units : List (DwUnit ℕ)) (file unit top : ℕ) (t : Top) → units_meaning around raw ≡ Ok units
    → In t (tops_from unit top (map (in_file file) (named unit top units))) → HasTopOfFile around (spot_in (spots_from unit top units)) raw units file unit t
file_top around raw units file unit top t means is =
    from_unit around (spot_in (spots_from unit top units)) raw units file unit raw units 0 unit top 0 t means refl refl (omega arith) refl is
