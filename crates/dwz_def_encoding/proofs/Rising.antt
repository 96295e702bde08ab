-- Places rise from key to key, so two keys with one place are one key, and each stands within its unit.
use Rattle.std.proofs.Common.{◌≡◌, ℕ, ◌+◌, ◌-◌, ◌^◌, ◌<◌, ◌≤◌, Bool, true, false, List, [], ◌∷◌, ◌++◌, length, map, sym, ap, subst, ◌∙◌, arith}
use Rattle.std.proofs.Math.Logic.{inl, inr}
use Rattle.std.proofs.lemmas.List.{length-append}
use Rattle.dwz_def_reading.specs.Documents.{Attr, Compile, DwUnit, Entries, Kind, OfType, Operand, Part, Partial, Plain, Same, Sec, Value, only}
use Rattle.dwz_def_reading.specs.Spelling.{reach}
use Rattle.dwz_def_reading.specs.Patching.{FitsIn}
use Rattle.dwz_def_tops.specs.Alike.{joined_parts}
use Rattle.dwz_def_reading.specs.Exprs.{parts_of}
use Rattle.dwz_def_reading.specs.Base.{Base}
use Rattle.dwz_def_reading.specs.Base.TheVariants.{Unit as FromUnit, Info as FromInfo}
use Rattle.dwz_def_reading.specs.Lists.{Each, In}
use Rattle.dwz_def_reading.specs.Meanings.{IfSo}
use Rattle.dwz_def_reading.specs.Classes.{OfCommonEntry, OfExpression, OfInfoEntry, OfListIndex, OfOffset, OfUnitEntry, Class, class_of, names_list}
use Rattle.dwz_def_reading.specs.Trees.{End, Entry}
use Rattle.dwz_def_reading.proofs.ListFacts.{in_cases, in_left, in_right}
use Rattle.dwz_def_encoding.specs.Fitting.{AttrFits, EachAttr, EntriesFit, ExprFits, FitsAs, FitsInfo, FitsUnit, FitsWidth, HasRoom, HasRoomAs, KindFits, ListFits, OperandsFit, OperandsHaveRoom}
use Rattle.dwz_def_encoding.specs.Fitting.{PlainHasRoom, UnitFits, UnitHasRoom}
use Rattle.dwz_def_encoding.specs.Meant.{AttrSays, EntriesSay, ExprSays, KindSays, ListSays, OperandIn, OperandsIn, Own, SaysAs, Tells, UnitSays, UnitsSay, all_entry_keys, entry_keys, own_of}
use Rattle.dwz_def_encoding.specs.Placing.{Stands, UnitStands, UnitsStand}
use Rattle.dwz_def_tops.specs.Shown.{keys, unit_keys, units_keys}
use Rattle.dwz_def_encoding.specs.Writing.{DeclarationShape, Numbering, base_place, if_any, node_bytes, spelled, table_of, tree_bytes, written_header_size, written_unit_size}
use Rattle.dwz_def_encoding.proofs.UnitsSpelled.{header_some, node_some, units_size}
use Rattle.dwz_def_encoding.proofs.WriteCodes.{Covers, is_table}
use Rattle.dwz_def_tops.proofs.Members.{each_more}

-- the places of keys rise from one place to below another
abbrev pub Rises : {K : Type 0} → Numbering K → ℕ → List K → ℕ → Type 0
Rises n from [] to = from ≤ to
Rises n from (k ∷ ks) to = (from ≤ n.place k) × Rises n (n.place k + 1) ks to

module _ {K : Type 0} (n : Numbering K) where
  rises_lower : (ks : List K) (a b c : ℕ) → c ≤ a → Rises n a ks b → Rises n c ks b
  rises_lower [] a b c le h = omega (arith, le, h)
  rises_lower (k ∷ ks) a b c le h = (omega (arith, le, h.0), h.1)

  rises_append : (xs ys : List K) (a b c : ℕ) → Rises n a xs b → Rises n b ys c → Rises n a (xs ++ ys) c
  rises_append [] ys a b c h k = rises_lower ys b c a h k
  rises_append (x ∷ xs) ys a b c h k = (h.0, rises_append xs ys (n.place x + 1) b c h.1 k)

  rises_if : (children : Entries K) (bytes : List ℕ) (at : ℕ) → Rises n at (keys children) (at + length bytes) → Rises n at (keys children) (at + length (if_any children bytes))
  unfolding keys
  rises_if End bytes at h = omega arith
  rises_if (Entry e c d) bytes at h = h

  entries_rise : (unit : ℕ) (table : List DeclarationShape) (f : Entries K) (at : ℕ) → Covers table f → Stands n unit table at f → Rises n at (keys f) (at + length (spelled n unit table f))
  unfolding keys spelled
  entries_rise unit table End at c h = omega arith
  entries_rise unit table (Entry e f g) at c h =
      let front = node_bytes n unit table e f in
      let inner = if_any f (spelled n unit table f) in
      let rest = spelled n unit table g in
      let some = node_some n unit table e f c.0 in
      let len : at + length front + length inner + length rest ≡ at + length (front ++ (inner ++ rest)) = omega (arith, length-append front (inner ++ rest), length-append inner rest) in
      let a = rises_if f (spelled n unit table f) (at + length front) (entries_rise unit table f (at + length front) c.1 h.1) in
      let b = entries_rise unit table g (at + length front + length inner) c.2 h.2 in
      let both = rises_append (keys f) (keys g) (at + length front) (at + length front + length inner) (at + length front + length inner + length rest) a b in
      let both' = subst (λ (k : ℕ). Rises n (at + length front) (keys f ++ keys g) k) len both in
      (omega (arith, h.0), rises_lower (keys f ++ keys g) (at + length front) _ (n.place e.at + 1) (omega (arith, h.0, some)) both')

  pub unit_rises : (u : DwUnit K) (at : ℕ) → UnitStands n u at → Rises n at (unit_keys u) (at + written_unit_size n at u)
  unfolding unit_keys tree_bytes
  unit_rises u at h =
      let t = is_table u in
      let head = header_some u.kind in
      let front = node_bytes n at (table_of u) u.root u.below in
      let inner = if_any u.below (spelled n at (table_of u) u.below) in
      let some = node_some n at (table_of u) u.root u.below t.root in
      let len : at + written_header_size u.kind + length front + length inner ≡ at + (written_header_size u.kind + length (front ++ inner)) = omega (arith, length-append front inner) in
      let a = rises_if u.below (spelled n at (table_of u) u.below) (at + written_header_size u.kind + length front)
      (entries_rise at (table_of u) u.below (at + written_header_size u.kind + length front) t.below h.below) in
      let a' = subst (λ (k : ℕ). Rises n (at + written_header_size u.kind + length front) (keys u.below) k) len a in (
        omega (arith, h.unit),
        (
          omega (arith, h.unit, h.root, head),
          rises_lower (keys u.below) (at + written_header_size u.kind + length front) _ (n.place u.root.at + 1) (omega (arith, h.root, some))
              a',
        ),
      )

  -- where units end that stand from a place on
  pub units_rise : (units : List (DwUnit K)) (at : ℕ) → UnitsStand n units at → Rises n at (units_keys units) (at + units_size n units)
  unfolding units_keys units_size
  units_rise [] at h = omega arith
  units_rise (u ∷ units) at h =
      let same : written_unit_size n at u ≡ written_unit_size n (n.place u.at) u = ap (λ (k : ℕ). written_unit_size n k u) (sym h.0.unit) in
      let end : at + written_unit_size n at u + units_size n units ≡ at + (written_unit_size n (n.place u.at) u + units_size n units) = omega (arith, same) in
      let both = rises_append (unit_keys u) (units_keys units) at (at + written_unit_size n at u) (at + written_unit_size n at u + units_size n units) (unit_rises u at h.0) (units_rise units _ h.1) in
      subst (λ (k : ℕ). Rises n at (unit_keys u ++ units_keys units) k) end both

  rises_from : (ks : List K) (a b : ℕ) (k : K) → Rises n a ks b → In k ks → a ≤ n.place k
  rises_from [] a b k h is = absurd is
  rises_from (x ∷ ks) a b k h is = elim is [ inl e ↦ omega (arith, h.0, ap n.place e) | inr r ↦ omega (arith, h.0, rises_from ks (n.place x + 1) b k h.1 r) ]

  rises_through : (ks : List K) (a b : ℕ) → Rises n a ks b → a ≤ b
  rises_through [] a b h = h
  rises_through (k ∷ ks) a b h = omega (arith, h.0, rises_through ks (n.place k + 1) b h.1)

  rises_to : (ks : List K) (a b : ℕ) (k : K) → Rises n a ks b → In k ks → n.place k < b
  rises_to [] a b k h is = absurd is
  rises_to (x ∷ ks) a b k h is = elim is [ inl e ↦ omega (arith, rises_through ks (n.place x + 1) b h.1, ap n.place e) | inr r ↦ rises_to ks (n.place x + 1) b k h.1 r ]

  rises_one : (ks : List K) (a b : ℕ) (x y : K) → Rises n a ks b → In x ks → In y ks → n.place x ≡ n.place y → x ≡ y
  rises_one [] a b x y h p q e = absurd p
  rises_one (k ∷ ks) a b x y h p q e = elim p [
    | inl i ↦ (elim q [ inl j ↦ sym i ∙ j | inr r ↦ absurd (omega (arith, ap n.place i, e, rises_from ks (n.place k + 1) b y h.1 r)) ])
    | inr r ↦ (elim q [ inl j ↦ absurd (omega (arith, ap n.place j, e, rises_from ks (n.place k + 1) b x h.1 r)) | inr s ↦ rises_one ks (n.place k + 1) b x y h.1 r s e ])
  ]

  -- two keys with one place are one key
  pub place_one : (units : List (DwUnit K)) → UnitsStand n units 0 → (x y : K) → In x (units_keys units) → In y (units_keys units) → n.place x ≡ n.place y → x ≡ y
  place_one units h x y p q e = rises_one (units_keys units) 0 (0 + units_size n units) x y (units_rise units 0 h) p q e

  -- each key stands before the end of the units
  pub place_within : (units : List (DwUnit K)) → UnitsStand n units 0 → (k : K) → In k (units_keys units) → n.place k < units_size n units
  place_within units h k is = (let to = rises_to (units_keys units) 0 (0 + units_size n units) k (units_rise units 0 h) is in omega (arith, to))

-- ---- the names of entries are keys

entry_is_key : {K : Type 0} (u : DwUnit K) (k : K) → In k (entry_keys u) → In k (unit_keys u)
unfolding unit_keys
entry_is_key u k is = inr is

pub entries_are_keys : {K : Type 0} (units : List (DwUnit K)) (k : K) → In k (all_entry_keys units) → In k (units_keys units)
unfolding all_entry_keys units_keys
entries_are_keys [] k is = is
entries_are_keys (u ∷ units) k is = elim (in_cases k (entry_keys u) (all_entry_keys units) is) [
  | inl p ↦ in_left k (unit_keys u) (units_keys units) (entry_is_key u k p)
  | inr q ↦ in_right k (unit_keys u) (units_keys units) (entries_are_keys units k q)
]

-- the entries of a unit stand behind its first byte
module _ {K : Type 0} (n : Numbering K) where
  unit_above : (u : DwUnit K) (at : ℕ) → UnitStands n u at → (k : K) → In k (entry_keys u) → n.place u.at < n.place k
  unfolding unit_keys
  unit_above u at stands k is =
      let rises = unit_rises n u at stands in
      let from = rises_from n (entry_keys u) (n.place u.at + 1) (at + written_unit_size n at u) k rises.1 is in
      omega (arith, from)

  entries_above : (units : List (DwUnit K)) (at : ℕ) → UnitsStand n units at → (k : K) → In k (all_entry_keys units) → 0 < n.place k
  unfolding all_entry_keys
  entries_above [] at stands k is = absurd is
  entries_above (u ∷ units) at stands k is = elim (in_cases k (entry_keys u) (all_entry_keys units) is) [
    | inl p ↦ (let above = unit_above u at stands.0 k p in omega (arith, above))
    | inr q ↦ entries_above units (at + written_unit_size n at u) stands.1 k q
  ]

-- ---- what names entries fits

module _ {K : Type 0} (n : Numbering K) (unit : ℕ) (t : Tells K) (own : Own K) (inside : (k : K) → In k own.keys → FitsUnit n unit k) (behind : (k : K) → In k own.keys → unit < n.place k)
    (small : (k : K) → In k t.all → FitsInfo n k) (above : (k : K) → In k t.all → 0 < n.place k)
    (common : (k : K) → In k t.common → FitsInfo n k) where
  -- the number of an operand, which names an entry, and has room for it
  record Counts (base : Base) (k : K) : Type 0 where
    is_above : 0 < n.place k - base_place unit base
    is_few : n.place k - base_place unit base < 2 ^ 32

  counts : (base : Base) (k : K) → OperandIn t own base k → Counts base k
  counts FromUnit k is = (let b = behind k is in let i = inside k is in record { is_above = omega (arith, b); is_few = i.1 })
  counts FromInfo k is = (let b = above k is in let i = small k is in record { is_above = omega (arith, b); is_few = omega (arith, i) })

  fits_in : (uleb : Bool) (width number : ℕ) → 0 < number → number < 2 ^ 32 → FitsWidth uleb width number → FitsIn uleb width number
  fits_in true width number some few fits = (some, fits, omega (arith, few))
  fits_in false width number some few fits = fits

  operands_fit : (parts : List Part) (refs : List K) → OperandsHaveRoom n unit parts refs → OperandsIn t own parts refs → OperandsFit n unit parts refs
  operands_fit [] [] room says = tt
  operands_fit [] (k ∷ refs) room says = absurd says
  operands_fit (Same bytes ∷ parts) refs room says = operands_fit parts refs room says
  operands_fit (Operand width uleb base ∷ parts) [] room says = absurd says
  operands_fit (Operand width uleb base ∷ parts) (k ∷ refs) room says =
      let c = counts base k says.0 in (c.is_above, fits_in uleb width (n.place k - base_place unit base) c.is_above c.is_few room.0, operands_fit parts refs room.1 says.1)

  expr_fits : (a : Attr K) → PlainHasRoom n unit a.value.plain a.value.refs → ExprSays t own a → ExprFits n unit a.value.plain a.value.refs
  expr_fits a room says =
      let parts = subst (λ (p : Plain). PlainHasRoom n unit p a.value.refs) says.plain room in
      subst (λ (p : Plain). ExprFits n unit p a.value.refs) (sym says.plain) (operands_fit (parts_of says.expression) a.value.refs parts says.operands)

  list_fits : (a : Attr K) → PlainHasRoom n unit a.value.plain a.value.refs → ListSays t own a → ListFits n unit a.value.plain a.value.refs
  list_fits a room says =
      let parts = subst (λ (p : Plain). PlainHasRoom n unit p a.value.refs) says.plain room in
      subst (λ (p : Plain). ListFits n unit p a.value.refs) (sym says.plain) (operands_fit (joined_parts (map parts_of says.list.list.exprs)) a.value.refs parts says.operands)

  offset_fits : (a : Attr K) (b : Bool) → PlainHasRoom n unit a.value.plain a.value.refs → IfSo b (ListSays t own a) (a.value ≡ only (Sec (reach a.raw))) → ListFits n unit a.value.plain a.value.refs
  offset_fits a true room says = list_fits a room says
  offset_fits a false room says = subst (λ (v : Value K). ListFits n unit v.plain v.refs) (sym says) tt

  as_fits : (c : Class) (a : Attr K) → HasRoomAs c n unit a → SaysAs c t own a → FitsAs c n unit a
  as_fits OfUnitEntry a room says = each_more (λ k. In k own.keys) (FitsUnit n unit) a.value.refs inside says
  as_fits OfInfoEntry a room says = each_more (λ k. In k t.all) (FitsInfo n) a.value.refs small says
  as_fits OfCommonEntry a room says = each_more (λ k. In k t.common) (FitsInfo n) a.value.refs common says
  as_fits OfExpression a room says = expr_fits a room says
  as_fits OfOffset a room says = offset_fits a (names_list a.name) room says
  as_fits OfListIndex a room says = list_fits a room says
  as_fits _ a room says = tt

  node_fits : (attrs : List (Attr K)) → Each (HasRoom n unit) attrs → Each (AttrSays t own) attrs → Each (AttrFits n unit) attrs
  node_fits [] room says = tt
  node_fits (a ∷ attrs) room says = (as_fits (class_of a.form) a room.0 says.0, node_fits attrs room.1 says.1)

  entries_fit : (f : Entries K) → EachAttr (HasRoom n unit) f → EntriesSay t own f → EntriesFit n unit f
  entries_fit End room says = tt
  entries_fit (Entry e children next) room says = (node_fits e.attrs room.0 says.0, entries_fit children room.1 says.1, entries_fit next room.2 says.2)

  kind_fits : (kind : Kind K) → KindSays own.keys kind → KindFits n unit kind
  kind_fits Compile says = tt
  kind_fits (OfType signature main) says = inside main says
  kind_fits Partial says = tt

module _ {K : Type 0} (n : Numbering K) (t : Tells K) (small : (k : K) → In k t.all → FitsInfo n k) (above : (k : K) → In k t.all → 0 < n.place k) (common : (k : K) → In k t.common → FitsInfo n k)
  where
    unit_fits : (u : DwUnit K) (at : ℕ) → UnitStands n u at → written_unit_size n at u < 2 ^ 32 → UnitHasRoom n u → UnitSays t u → UnitFits n u
    unit_fits u at stands lt room says =
        let unit = n.place u.at in
        let rises = unit_rises n u at stands in
        let inside : (k : K) → In k (entry_keys u) → FitsUnit n unit k = λ k is.
        (let from = rises_from n (unit_keys u) at (at + written_unit_size n at u) k rises (entry_is_key u k is) in
        let to = rises_to n (unit_keys u) at (at + written_unit_size n at u) k rises (entry_is_key u k is) in
        (omega (arith, stands.unit, from), omega (arith, stands.unit, to, lt))) in
        let behind = unit_above n u at stands in
        record {
          kind = kind_fits n unit t (own_of u) inside behind small above common u.kind says.kind;
          root = node_fits n unit t (own_of u) inside behind small above common u.root.attrs room.0 says.root;
          below = entries_fit n unit t (own_of u) inside behind small above common u.below room.1 says.below;
        }

    each_fits : (units : List (DwUnit K)) (at : ℕ) → UnitsStand n units at → units_size n units < 2 ^ 32 → Each (UnitHasRoom n) units → UnitsSay t units → Each (UnitFits n) units
    unfolding units_size
    each_fits [] at stands lt room says = tt
    each_fits (u ∷ units) at stands lt room says =
        let same : written_unit_size n at u ≡ written_unit_size n (n.place u.at) u = ap (λ (k : ℕ). written_unit_size n k u) (sym stands.0.unit) in
        (unit_fits u at stands.0 (omega (arith, same, lt)) room.0 says.0, each_fits units _ stands.1 (omega (arith, lt)) room.1 says.1)

-- the numbers of units that stand in fewer than 2^32 bytes fit
pub units_fit : {K : Type 0} (n : Numbering K) (t : Tells K) (units : List (DwUnit K)) → t.all ≡ all_entry_keys units → ((k : K) → In k t.common → FitsInfo n k) → UnitsStand n units 0
    → units_size n units < 2 ^ 32 → Each (UnitHasRoom n) units → UnitsSay t units
    → Each (UnitFits n) units
units_fit {K} n t units same common stands lt room says =
    let small : (k : K) → In k t.all → FitsInfo n k = λ k is. (let to = place_within n units stands k (entries_are_keys units k (subst (In k) same is)) in omega (arith, to, lt)) in
    let above : (k : K) → In k t.all → 0 < n.place k = λ k is. entries_above n units 0 stands k (subst (In k) same is) in
    each_fits n t small above common units 0 stands lt room says
