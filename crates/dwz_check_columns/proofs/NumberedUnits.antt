-- Units with numbers: name lists of their tops, roots and spaces, and their nodes.
use Rattle.std.proofs.Common.{◌≡◌, ℕ, ◌+◌, List, [], ◌∷◌, ◌++◌, length, map, refl, sym, ap, subst, ◌∙◌, inl, inr, arith}
use Rattle.std.proofs.lemmas.List.{length-map, map-append}
use Rattle.dwz_model.specs.Lists.{In, NoneTwice}
use Rattle.dwz_model.proofs.OnceLemmas.{none_both, none_right}
use Rattle.dwz_def_reading.specs.Documents.{DwUnit}
use Rattle.dwz_def_tops.specs.Shown.{unit_keys, units_keys}
use Rattle.dwz_def_tops.proofs.ShownLemmas.{unit_key}
use Rattle.dwz_def_cross.specs.Tops.{CrossTop, units_with_common}
use Rattle.dwz_def_check.specs.CrossLists.{NumberedUnit, common_numbered, numbered_units, own_units}
use Rattle.dwz_def_check.specs.CrossNames.{IsWellRead, Side, cross_tops, unit_tops}
use Rattle.dwz_def_check.specs.CrossNodes.{lone_of}
use Rattle.dwz_check_sides.specs.Units.{meant_kind, nodes_of}
use Rattle.dwz_check_columns.specs.Drawn.{lists_of, lone_lists}
use Rattle.dwz_check_columns.proofs.LoneNames.{unit_lists_long}
use Rattle.dwz_check_columns.proofs.TwoLists.{Gives, gives_as, gives_left, gives_right, one_by}

abbrev pub names_of : CrossTop ℕ → List (List ℕ)
names_of t = t.names

abbrev pub unit_of : NumberedUnit ℕ → DwUnit ℕ
unit_of y = y.unit

pub units_numbered : (top lone : ℕ) (units : List (DwUnit ℕ)) → map unit_of (numbered_units top lone units) ≡ units
unfolding numbered_units
units_numbered top lone [] = refl
units_numbered top lone (u ∷ units) = ap (λ (w : List (DwUnit ℕ)). u ∷ w) (units_numbered (top + length (unit_tops u.kind u)) (lone + length (lone_of u.kind u)) units)

-- ---- name lists of a unit

-- where all tops have these name lists, so have those of each unit
pub tops_given : (f : ℕ → List (List ℕ)) (top lone : ℕ) (units : List (DwUnit ℕ)) (y : NumberedUnit ℕ) → Gives f top (map names_of (cross_tops units)) → In y (numbered_units top lone units)
    → Gives f y.top (map names_of (unit_tops y.unit.kind y.unit))
unfolding numbered_units cross_tops
tops_given f top lone [] y h is = absurd is
tops_given f top lone (u ∷ units) y h is =
    let own = map names_of (unit_tops u.kind u) in
    let rest = map names_of (cross_tops units) in
    let both : Gives f top (own ++ rest) = subst (λ (w : List (List (List ℕ))). Gives f top w) (map-append names_of (unit_tops u.kind u) (cross_tops units)) h in
    let long = length-map (unit_tops u.kind u) names_of in
    elim is [
      | inl e ↦ subst (λ (z : NumberedUnit ℕ). Gives f z.top (map names_of (unit_tops z.unit.kind z.unit))) e (gives_left f top own rest both)
      | inr r ↦ tops_given f (top + length (unit_tops u.kind u)) (lone + length (lone_of u.kind u)) units y
          (gives_as f (top + length own) (top + length (unit_tops u.kind u)) rest (omega (arith, long)) (gives_right f top own rest both)) r
    ]

-- and so of roots and spaces
pub lone_given : (f : ℕ → List (List ℕ)) (top lone : ℕ) (units : List (DwUnit ℕ)) (y : NumberedUnit ℕ) → Gives f lone (lone_lists units) → In y (numbered_units top lone units)
    → Gives f y.lone (lists_of y.unit.kind y.unit)
unfolding numbered_units lone_lists
lone_given f top lone [] y h is = absurd is
lone_given f top lone (u ∷ units) y h is =
    let own = lists_of u.kind u in
    let rest = lone_lists units in
    let long = unit_lists_long u in
    elim is [
      | inl e ↦ subst (λ (z : NumberedUnit ℕ). Gives f z.lone (lists_of z.unit.kind z.unit)) e (gives_left f lone own rest h)
      | inr r ↦ lone_given f (top + length (unit_tops u.kind u)) (lone + length (lone_of u.kind u)) units y
          (gives_as f (lone + length own) (lone + length (lone_of u.kind u)) rest (omega (arith, long)) (gives_right f lone own rest h)) r
    ]

-- ---- nodes

nodes_behind : (before top lone : ℕ) (units : List (DwUnit ℕ)) → map (nodes_of before) (numbered_units top lone units) ≡ map (nodes_of 0) (numbered_units top (before + lone) units)
unfolding numbered_units
nodes_behind before top lone [] = refl
nodes_behind before top lone (u ∷ units) =
    let n = length (lone_of u.kind u) in
    let root : before + lone ≡ 0 + (before + lone) = omega arith in
    let end : before + (lone + n) ≡ 0 + (before + lone + n) = omega arith in
    let next : before + (lone + n) ≡ before + lone + n = omega arith in
    let first : nodes_of before (record { unit = u; top = top; lone = lone }) ≡ nodes_of 0 (record { unit = u; top = top; lone = before + lone }) =
    (λ i. record { kind = meant_kind (root i) (end i) u.kind; top = top; tops_end = top + length (unit_tops u.kind u) }) in
    let rest = nodes_behind before (top + length (unit_tops u.kind u)) (lone + n) units
    ∙ ap (λ (m : ℕ). map (nodes_of 0) (numbered_units (top + length (unit_tops u.kind u)) m units)) next in
    (λ i. first i ∷ rest i)

-- the nodes of units whose roots and spaces come behind so many others are those of units that are numbered from there on
pub nodes_from : (before top : ℕ) (units : List (DwUnit ℕ)) → map (nodes_of before) (numbered_units top 0 units) ≡ map (nodes_of 0) (numbered_units top before units)
nodes_from before top units =
    let none : before + 0 ≡ before = omega arith in
    nodes_behind before top 0 units ∙ ap (λ (m : ℕ). map (nodes_of 0) (numbered_units top m units)) none

-- ---- units, once each

units_once : (units : List (DwUnit ℕ)) → NoneTwice (units_keys units) → NoneTwice units
unfolding units_keys unit_keys
units_once [] h = tt
units_once (u ∷ units) h = ((λ i. none_both (unit_keys u) (units_keys units) h u.at (inl refl) (unit_key units u u.at i (inl refl))), units_once units (none_right (unit_keys u) (units_keys units) h))

-- ---- all units of a side

abbrev pub all_numbered : Side ℕ → List (NumberedUnit ℕ)
all_numbered s = own_units s ++ common_numbered s

pub all_units : (s : Side ℕ) → map unit_of (all_numbered s) ≡ units_with_common s.files
all_units s =
    let own = units_numbered s.own s.lone s.files.own in
    let common = units_numbered s.common 0 s.files.common in
    map-append unit_of (own_units s) (common_numbered s) ∙ (λ i. own i ++ common i)

-- the unit tells which it is
pub one_numbered : (s : Side ℕ) → IsWellRead s.files → (y z : NumberedUnit ℕ) → In y (all_numbered s) → In z (all_numbered s) → y.unit ≡ z.unit → y ≡ z
one_numbered s read y z is js e =
    one_by unit_of (all_numbered s) y z (subst (λ (w : List (DwUnit ℕ)). NoneTwice w) (sym (all_units s)) (units_once (units_with_common s.files) read.apart)) is js e
