-- The numbers of units, one behind the other.
use Rattle.std.proofs.Common.{◌≡◌, ◌≢◌, ℕ, zero, suc, ◌+◌, ◌<◌, ◌≤◌, List, [], ◌∷◌, ◌++◌, map, length, take, Some, None, slice_get, refl, sym, ap, subst, ◌∙◌, arith}
use Rattle.std.specs.Prelude.{false, get_or, nat_lt, true}
use Rattle.std.proofs.lemmas.Bool.{ltb-false, ltb-true}
use Rattle.std.proofs.lemmas.List.{append-nil, append_assoc, length-append, length-map, map-append, take_all}
use Rattle.std.proofs.lemmas.Option.{slice_get-get_or, slice_get_past, slice_get_read}
use Rattle.dwz_def_reading.specs.Documents.{DwUnit, Kind}
use Rattle.dwz_def_reading.specs.Meanings.{Around, MeanUnits, MeaningContext, MeansKind, MeansUnit, scope_of}
use Rattle.dwz_def_reading.specs.Units.{CompileUnit, PartialUnit, RawKind, RawUnit, TypeUnit}
use Rattle.dwz_def_reading.proofs.MeaningUnits.{units_agree}
use Rattle.dwz_def_check.specs.CrossLists.{NumberedUnit, numbered_units}
use Rattle.dwz_def_check.specs.CrossNames.{cross_tops, unit_tops}
use Rattle.dwz_def_check.specs.CrossNodes.{lone_entries, lone_of}
use Rattle.dwz_unit.proofs.RowsFound.{found_in_map, take_here, unit_there}
use Rattle.dwz_check_index.specs.Index.{start_of}
use Rattle.dwz_check_index.specs.declared.index.CrossStarts.{CrossStarts}
use Rattle.dwz_check_index.specs.declared.index.UnitStart.{UnitStart}
use Rattle.dwz_check_rows.specs.declared.columns.RowKind.{RowKind}
use Rattle.dwz_check_rows.specs.declared.columns.RowKind.TheVariants.{Compile, OfType, Partial}
use Rattle.dwz_check_rows.specs.declared.columns.UnitNodes.{UnitNodes}
use Rattle.dwz_unit.specs.declared.rows.RawUnit.{RawUnit as UnitOfCode}
use Rattle.dwz_unit.specs.Rows.{kind_number, shown_units, signature_of, unit_shown, units_of}
use Rattle.dwz_check_sides.specs.declared.side.Side.{Side}
use Rattle.dwz_check_sides.specs.Says.{IsSide}
use Rattle.dwz_check_sides.specs.Units.{lone_end, meant_kind, nodes_of, raw_kind, tops_end}
use Rattle.dwz_graph.proofs.IndexRoom.{units_same}

-- ---- what a unit is

pub compile_kind : (k : RawKind) (root end : ℕ) → kind_number k ≡ 1 → Compile root end ≡ raw_kind root end k
compile_kind CompileUnit root end e = refl
compile_kind (TypeUnit signature type_offset) root end e = absurd (omega (arith, e))
compile_kind PartialUnit root end e = absurd (omega (arith, e))

pub type_kind : (k : RawKind) (root end signature : ℕ) → kind_number k ≡ 2 → signature ≡ signature_of k → OfType signature ≡ raw_kind root end k
type_kind CompileUnit root end s e is = absurd (omega (arith, e))
type_kind (TypeUnit signature type_offset) root end s e is = ap (λ (n : ℕ). OfType n) is
type_kind PartialUnit root end s e is = absurd (omega (arith, e))

pub part_kind : (k : RawKind) (root end : ℕ) → kind_number k ≢ 1 → kind_number k ≢ 2 → Partial ≡ raw_kind root end k
part_kind CompileUnit root end a b = absurd (a refl)
part_kind (TypeUnit signature type_offset) root end a b = absurd (b refl)
part_kind PartialUnit root end a b = refl

means_kind : (m : MeaningContext ℕ) (k : RawKind) (kind : Kind ℕ) (root end : ℕ) → MeansKind m k kind → raw_kind root end k ≡ meant_kind root end kind
means_kind m CompileUnit kind root end e = ap (meant_kind root end) (sym e)
means_kind m PartialUnit kind root end e = ap (meant_kind root end) (sym e)
means_kind m (TypeUnit signature type_offset) kind root end e = ap (meant_kind root end) (sym e.1)

-- ---- numbers of units

next_of : (top lone : ℕ) (units : List (DwUnit ℕ)) (n : ℕ) (x y : NumberedUnit ℕ) → slice_get (numbered_units top lone units) n ≡ Some x → slice_get (numbered_units top lone units) (suc n) ≡ Some y
    → (y.top ≡ tops_end x) × (y.lone ≡ lone_end x)
unfolding numbered_units
next_of top lone [] n x y e f = absurd cc
next_of top lone (u ∷ []) zero x y e f = absurd cc
next_of top lone (u ∷ v ∷ units) zero x y e f =
    let a : record { unit = u; top = top; lone = lone } ≡ x = cc in
    let b : record { unit = v; top = top + length (unit_tops u.kind u); lone = lone + length (lone_of u.kind u) } ≡ y = cc in
    (ap (λ (w : NumberedUnit ℕ). w.top) (sym b) ∙ ap (λ (w : NumberedUnit ℕ). tops_end w) a, ap (λ (w : NumberedUnit ℕ). w.lone) (sym b) ∙ ap (λ (w : NumberedUnit ℕ). lone_end w) a)
next_of top lone (u ∷ units) (suc n) x y e f = next_of (top + length (unit_tops u.kind u)) (lone + length (lone_of u.kind u)) units n x y e f

last_of : (top lone : ℕ) (units : List (DwUnit ℕ)) (n : ℕ) (x : NumberedUnit ℕ) → slice_get (numbered_units top lone units) n ≡ Some x → length units ≤ suc n
    → (tops_end x ≡ top + length (cross_tops units)) × (lone_end x ≡ lone + length (lone_entries units))
unfolding numbered_units cross_tops lone_entries
last_of top lone [] n x e le = absurd cc
last_of top lone (u ∷ []) zero x e le =
    let a : record { unit = u; top = top; lone = lone } ≡ x = cc in
    let t = ap (λ (w : NumberedUnit ℕ). tops_end w) a in
    let l = ap (λ (w : NumberedUnit ℕ). lone_end w) a in
    (omega (arith, t, length-append (unit_tops u.kind u) []), omega (arith, l, length-append (lone_of u.kind u) []))
last_of top lone (u ∷ v ∷ units) zero x e le = absurd (omega (arith, le))
last_of top lone (u ∷ units) (suc n) x e le =
    let more = last_of (top + length (unit_tops u.kind u)) (lone + length (lone_of u.kind u)) units n x e (omega (arith, le)) in
    let t = more.0 in
    let l = more.1 in
    (omega (arith, t, length-append (unit_tops u.kind u) (cross_tops units)), omega (arith, l, length-append (lone_of u.kind u) (lone_entries units)))

pub low_of : (top lone : ℕ) (units : List (DwUnit ℕ)) (n : ℕ) (x : NumberedUnit ℕ) → slice_get (numbered_units top lone units) n ≡ Some x → (tops_end x ≤ top + length (cross_tops units))
    × (lone_end x ≤ lone + length (lone_entries units))
unfolding numbered_units cross_tops lone_entries
low_of top lone [] n x e = absurd cc
low_of top lone (u ∷ units) zero x e =
    let a : record { unit = u; top = top; lone = lone } ≡ x = cc in
    let t = ap (λ (w : NumberedUnit ℕ). tops_end w) a in
    let l = ap (λ (w : NumberedUnit ℕ). lone_end w) a in
    (omega (arith, t, length-append (unit_tops u.kind u) (cross_tops units)), omega (arith, l, length-append (lone_of u.kind u) (lone_entries units)))
low_of top lone (u ∷ units) (suc n) x e =
    let more = low_of (top + length (unit_tops u.kind u)) (lone + length (lone_of u.kind u)) units n x e in
    let t = more.0 in
    let l = more.1 in
    (omega (arith, t, length-append (unit_tops u.kind u) (cross_tops units)), omega (arith, l, length-append (lone_of u.kind u) (lone_entries units)))

pub numbered_long : (top lone : ℕ) (units : List (DwUnit ℕ)) → length (numbered_units top lone units) ≡ length units
unfolding numbered_units
numbered_long top lone [] = refl
numbered_long top lone (u ∷ units) = ap (λ (n : ℕ). suc n) (numbered_long (top + length (unit_tops u.kind u)) (lone + length (lone_of u.kind u)) units)

pub unit_at : (top lone : ℕ) (units : List (DwUnit ℕ)) (n : ℕ) (x : NumberedUnit ℕ) → slice_get (numbered_units top lone units) n ≡ Some x → slice_get units n ≡ Some x.unit
unfolding numbered_units
unit_at top lone [] n x e = absurd cc
unit_at top lone (u ∷ units) zero x e = let a : record { unit = u; top = top; lone = lone } ≡ x = cc in ap (λ (w : NumberedUnit ℕ). Some w.unit) a
unit_at top lone (u ∷ units) (suc n) x e = unit_at (top + length (unit_tops u.kind u)) (lone + length (lone_of u.kind u)) units n x e

none_past : {X : Type 0} (xs : List X) (k : ℕ) → slice_get xs k ≡ None → length xs ≤ k
none_past [] k e = omega arith
none_past (x ∷ xs) zero e = absurd cc
none_past (x ∷ xs) (suc k) e = let m = none_past xs k e in omega (arith, m)

-- ---- units as they are stored

meant_at : (around : Around ℕ) (us : List RawUnit) (vs : List (DwUnit ℕ)) → MeanUnits around us vs → (k : ℕ) (u : RawUnit) (v : DwUnit ℕ) → slice_get us k ≡ Some u → slice_get vs k ≡ Some v
    → MeansUnit around u v
meant_at around [] [] h k u v e f = absurd cc
meant_at around [] (w ∷ vs) h k u v e f = absurd h
meant_at around (t ∷ us) [] h k u v e f = absurd h
meant_at around (t ∷ us) (w ∷ vs) h zero u v e f = let a : t ≡ u = cc in let b : w ≡ v = cc in subst (λ (x : RawUnit). MeansUnit around x v) a (subst (λ (x : DwUnit ℕ). MeansUnit around t x) b h.0)
meant_at around (t ∷ us) (w ∷ vs) h (suc k) u v e f = meant_at around us vs h.1 k u v e f

module _ (s : Side) (said : List (DwUnit ℕ)) (starts : CrossStarts) (side : IsSide s said starts) where
  abbrev pub numbered : List (NumberedUnit ℕ)
  numbered = numbered_units starts.top starts.lone said

  abbrev pub raw : List RawUnit
  raw = units_of s.file.now.units

  mean : MeanUnits side.says.around raw said
  mean = ((units_agree side.says.around raw).ok said).0 side.says.means

  pub units_long : (length s.index.now.units ≡ length raw) × (length numbered ≡ length raw)
  units_long =
      let a = ap (λ (w : List UnitStart). length w) side.index_is.units in
      let b = length-map numbered start_of in
      let c = numbered_long starts.top starts.lone said in
      let d = units_same side.says.around raw said mean in
      (omega (arith, a, b, c, d), omega (arith, c, d))

  -- where the units behind begin
  pub started : (n : ℕ) (w : UnitStart) → slice_get s.index.now.units n ≡ Some w → (y : NumberedUnit ℕ) × (slice_get numbered n ≡ Some y) × (start_of y ≡ w)
  started n w e = found_in_map start_of numbered n w (ap (λ (us : List UnitStart). slice_get us n) (sym side.index_is.units) ∙ e)

  pub start_low : (n : ℕ) (w : UnitStart) → slice_get s.index.now.units n ≡ Some w → s.index.now.starts.lone ≡ 0 → w.lone ≤ length s.index.now.lone
  start_low n w e none =
      let y = started n w e in
      let low = (low_of starts.top starts.lone said n y.0 y.1).1 in
      let is = ap (λ (v : UnitStart). v.lone) y.2 in
      let long = side.index_is.lone.len in
      let zero_is = ap (λ (v : CrossStarts). v.lone) side.index_is.starts_are in
      omega (arith, low, is, long, zero_is, none)

  pub behind : (n : ℕ) (x : NumberedUnit ℕ) (w : UnitStart) → slice_get numbered n ≡ Some x → slice_get s.index.now.units (n + 1) ≡ Some w → (w.top ≡ tops_end x) × (w.lone ≡ lone_end x)
  behind n x w got e =
      let one : n + 1 ≡ suc n = omega arith in
      let y = started (suc n) w (ap (slice_get s.index.now.units) (sym one) ∙ e) in
      let both = next_of starts.top starts.lone said n x y.0 got y.1 in
      (ap (λ (v : UnitStart). v.top) (sym y.2) ∙ both.0, ap (λ (v : UnitStart). v.lone) (sym y.2) ∙ both.1)

  -- where there are none
  pub ends : (n : ℕ) (x : NumberedUnit ℕ) → slice_get numbered n ≡ Some x → slice_get s.index.now.units (n + 1) ≡ None → (tops_end x ≡ s.index.now.starts.top + length s.index.now.tops)
      × (lone_end x ≡ s.index.now.starts.lone + length s.index.now.lone)
  ends n x got none =
      let few = few_units in
      let both = last_of starts.top starts.lone said n x got few in
      let t = both.0 in
      let l = both.1 in
      let tops = side.index_is.tops.len in
      let lone = side.index_is.lone.len in
      let top_is = ap (λ (v : CrossStarts). v.top) side.index_is.starts_are in
      let lone_is = ap (λ (v : CrossStarts). v.lone) side.index_is.starts_are in
      (omega (arith, t, tops, top_is), omega (arith, l, lone, lone_is))
    where
      few_units : length said ≤ suc n
      few_units = (let long = units_long.0 in let all = units_same side.says.around raw said mean in let m = none_past s.index.now.units (n + 1) none in omega (arith, long, all, m))

  pub nodes_are : (n : ℕ) (x : NumberedUnit ℕ) (w : UnitStart) (u : UnitOfCode) (before spaces_end end : ℕ) (kind : RowKind) → slice_get numbered n ≡ Some x → slice_get s.index.now.units n ≡ Some w
      → slice_get (shown_units raw) n ≡ Some u
      → ((first : ℕ) (v : RawUnit) → unit_shown first v ≡ u → kind ≡ raw_kind (before + w.lone) spaces_end v.kind) → spaces_end ≡ before + lone_end x → end ≡ tops_end x
      → record { kind = kind; top = w.top; tops_end = end } ≡ nodes_of before x
  nodes_are n x w u before spaces_end end kind got start shown says spaces tops =
      let y = started n w start in
      let both : Some y.0 ≡ Some x = sym y.1 ∙ got in
      let one : y.0 ≡ x = cc in
      let start_is : start_of x ≡ w = ap (λ (v : NumberedUnit ℕ). start_of v) (sym one) ∙ y.2 in
      let t = unit_there raw 0 n u shown in
      let m = meant_at side.says.around raw said mean n t.0 x.unit t.1 (unit_at starts.top starts.lone said n x got) in
      let kind_is : kind ≡ meant_kind (before + x.lone) (before + lone_end x) x.unit.kind =
      says t.2 t.0 t.3 ∙ (λ i. raw_kind (before + (ap (λ (v : UnitStart). v.lone) (sym start_is) i)) (spaces i) t.0.kind)
      ∙ means_kind (scope_of side.says.around t.0) t.0.kind x.unit.kind (before + x.lone) (before + lone_end x) m.kind in
      (λ i. record { kind = kind_is i; top = ap (λ (v : UnitStart). v.top) (sym start_is) i; tops_end = tops i })

-- ---- what is found

pub item_found : {X : Type 0} (xs ys : List X) (i : ℕ) (f : X) → xs ≡ ys → true ≡ nat_lt i (length xs) → f ≡ get_or xs i f → slice_get ys i ≡ Some f
item_found {X} xs ys i f same lt is = ap (λ (w : List X). slice_get w i) (sym same) ∙ slice_get_read xs (length xs) i f refl (ltb-true i (length xs) (sym lt)) is

pub none_found : {X : Type 0} (xs ys : List X) (i : ℕ) → xs ≡ ys → false ≡ nat_lt i (length xs) → slice_get ys i ≡ None
none_found {X} xs ys i same lt = ap (λ (w : List X). slice_get w i) (sym same) ∙ slice_get_past xs i (ltb-false i (length xs) (sym lt))

pub item_below : {X : Type 0} (xs ys : List X) (i : ℕ) (d : X) → xs ≡ ys → i < length ys → slice_get ys i ≡ Some (get_or xs i d)
item_below {X} xs ys i d same lt =
    ap (λ (w : List X). slice_get w i) (sym same) ∙ slice_get-get_or xs i d (let long = ap (λ (w : List X). length w) same in omega (arith, long, lt))

-- ---- unit by unit

pub nodes_more : (before n : ℕ) (xs : List (NumberedUnit ℕ)) (old now new : List UnitNodes) (x : NumberedUnit ℕ) (node : UnitNodes) → slice_get xs n ≡ Some x → node ≡ nodes_of before x
    → now ≡ old ++ map (nodes_of before) (take n xs) → new ≡ now ++ node ∷ [] → new ≡ old ++ map (nodes_of before) (take (n + 1) xs)
nodes_more before n xs old now new x node got is was put =
    put ∙ (λ i. was i ++ is i ∷ []) ∙ append_assoc old (map (nodes_of before) (take n xs)) (nodes_of before x ∷ [])
    ∙ ap (λ (w : List UnitNodes). old ++ w) (sym (ap (map (nodes_of before)) (take_here xs n x got) ∙ map-append (nodes_of before) (take n xs) (x ∷ [])))

pub nodes_none : (before : ℕ) (xs : List (NumberedUnit ℕ)) (old : List UnitNodes) → old ≡ old ++ map (nodes_of before) (take 0 xs)
nodes_none before xs old = sym (append-nil old)

pub nodes_all : (before n : ℕ) (xs : List (NumberedUnit ℕ)) (old now : List UnitNodes) → length xs ≤ n → now ≡ old ++ map (nodes_of before) (take n xs) → now ≡ old ++ map (nodes_of before) xs
nodes_all before n xs old now le is = is ∙ ap (λ (w : List (NumberedUnit ℕ)). old ++ map (nodes_of before) w) (take_all n xs le)
