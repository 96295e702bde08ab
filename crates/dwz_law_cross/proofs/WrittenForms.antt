-- Units after have forms, and stand as deep, as entries of files that may have been written may.
use Rattle.std.proofs.Common.{◌≡◌, ◌≢◌, ℕ, suc, ◌≤◌, Bool, true, false, List, [], ◌∷◌, map, Option, Some, None, refl, sym, ap, subst, ◌∙◌, arith, inl, inr}
use Rattle.dwz_def_reading.specs.Rows.{has}
use Rattle.dwz_def_reading.specs.Lists.{Each, In, Nth}
use Rattle.dwz_def_reading.proofs.ListFacts.{in_cases, in_left, in_map, in_right}
use Rattle.dwz_def_reading.proofs.Members.{each_in, each_more, each_of}
use Rattle.dwz_def_reading.specs.Classes.{class_of}
use Rattle.dwz_def_reading.specs.Documents.{Attr, Compile, DwUnit, Entries, Kind, OfType, Partial, first_named, kind_map}
use Rattle.dwz_def_reading.specs.Entries.{codes_of_common}
use Rattle.dwz_def_reading.specs.Trees.{End, Entry}
use Rattle.dwz_def_tops.specs.Seen.{Named, Seen, all_seen, named_value, see, seen}
use Rattle.dwz_def_tops.specs.Shown.{units_keys}
use Rattle.dwz_def_tops.specs.Spots.{EntryName, FileUnit, rows_of_root}
use Rattle.dwz_def_tops.proofs.SeenLemmas.{entry_seen, root_seen}
use Rattle.dwz_def_images.specs.Homes.{Common, Home, Local, Rule, Stay}
use Rattle.dwz_def_images.specs.Moves.{Move, first_unit, image_in, line_attrs, line_in, line_of, names_path, plan, root_in_part, root_of}
use Rattle.dwz_def_images.specs.Plan.{PartialUnit}
use Rattle.dwz_def_images.specs.After.{AreOld}
use Rattle.dwz_def_tops.specs.UnitNames.{IsNamedBelow}
use Rattle.dwz_def_images.specs.Units.{common_units, kept_unit, kept_units, out_units, partial_unit, partial_units}
use Rattle.dwz_def_images.proofs.HeldLemmas.{part_found}
use Rattle.dwz_def_encoding.specs.Bases.{Bases}
use Rattle.dwz_def_encoding.specs.Carried.{CarriedAttr, CarriedUnit, From, IsBuilt, IsBuiltAs}
use Rattle.dwz_def_encoding.specs.Fitting.{EachAttr, depth}
use Rattle.dwz_def_encoding.specs.Placing.{Chosen, Forms, KeyedForms, UnitForms, fit_as, fit_attr, fit_unit, fit_units, holder_of, unit_forms, with_keys}
use Rattle.dwz_def_encoding.proofs.FormsKnown.{import_class}
use Rattle.dwz_def_encoding.proofs.Chosen.{join_attrs, join_entries}
use Rattle.dwz_def_encoding.proofs.Places.{IsSame}
use Rattle.dwz_def_encoding.proofs.StoredClasses.{offset_class}
use Rattle.dwz_def_readback.proofs.FreeOperands.{carried_attrs, entries_more}
use Rattle.dwz_def_readback.proofs.HomeLemmas.{kept_from, parts_from}
use Rattle.dwz_law_cross.specs.ReadLaws.{IsFormOfBack, IsFormOfCommon}
use Rattle.dwz_law_cross.proofs.ChosenForms.{IsUnbound, common_fit, own_fit, unbound_fit}
use Rattle.dwz_law_cross.proofs.StoredForms.{UnitStandsSo, fit_stands, tag_of}

-- ---- attributes

built_of : {K : Type 0} (from : From) (origin : Bases) (a : Attr K) → CarriedAttr from origin a → IsBuilt a.form
built_of from origin a (inl came) = came.built
built_of from origin a (inr (inl i)) = subst IsBuiltAs (sym (ap class_of i.form ∙ import_class)) tt
built_of from origin a (inr (inr l)) = subst IsBuiltAs (sym (ap class_of l.form ∙ offset_class)) tt

-- what they refer to
abbrev pub Refer : {K : Type 0} → (K → Type 0) → Attr K → Type 0
Refer {K} Q a = (k : K) → In k a.value.refs → Q k

module _ {K : Type 0} (Q : K → Type 0) where
  attrs_refer : (attrs : List (Attr K)) → ((a : Named K) (k : K) → In a (map named_value attrs) → In k a.value.refs → Q k) → Each (Refer Q) attrs
  attrs_refer attrs refs = each_of (Refer Q) attrs (λ a there k k_in. refs (named_value a) k (in_map named_value a attrs there) k_in)

  entries_refer : (g : Entries K) → ((e : Seen K) (a : Named K) (k : K) → In e (seen g) → In a e.attrs → In k a.value.refs → Q k) → EachAttr (Refer Q) g
  unfolding seen
  entries_refer End refs = tt
  entries_refer (Entry e c n) refs = (
    attrs_refer e.attrs (λ a k there k_in. refs (see e c) a k (inl refl) there k_in),
    entries_refer c (λ d a k d_in there k_in. refs d a k (inr (in_left d (seen c) (seen n) d_in)) there k_in),
    entries_refer n (λ d a k d_in there k_in. refs d a k (inr (in_right d (seen c) (seen n) d_in)) there k_in),
  )

-- of units whose entries refer so
module _ {K : Type 0} (units : List (DwUnit K)) (Q : K → Type 0) (refs : (e : Seen K) (a : Named K) (k : K) → In e (all_seen units) → In a e.attrs → In k a.value.refs → Q k) (u : DwUnit K)
    (there : In u units) where
  root_refers : Each (Refer Q) u.root.attrs
  root_refers = attrs_refer Q u.root.attrs (λ a k a_in k_in. refs (see u.root u.below) a k (root_seen units u there) a_in k_in)

  below_refers : EachAttr (Refer Q) u.below
  below_refers = entries_refer Q u.below (λ e a k e_in a_in k_in. refs e a k (entry_seen units u e there e_in) a_in k_in)

map_each : {X Y : Type 0} (f : X → Y) (P : Y → Type 0) (xs : List X) → ((x : X) → In x xs → P (f x)) → Each P (map f xs)
map_each f P [] of = tt
map_each f P (x ∷ xs) of = (of x (inl refl), map_each f P xs (λ y there. of y (inr there)))

-- ---- the root of a partial unit

IsLine : Attr EntryName → Type 0
IsLine a = a.form ≡ 0x17

line_form : (units : List (FileUnit EntryName)) (part : PartialUnit) (h : Home) → (line_in units h part.tops).form ≡ 0x17
line_form units part Common = refl
line_form units part (Local file) = by (first_named 0x10 (root_of units (first_unit part.tops))) where
  by : (o : Option (Attr EntryName)) → (line_of o).form ≡ 0x17
  by None = refl
  by (Some a) = refl
line_form units part Stay = refl

roots_line : (units : List (FileUnit EntryName)) (rule : Rule) (files : List ℕ) (n : ℕ) (part : PartialUnit) → Nth 0 (plan rule units files).parts n part
    → Each IsLine ((plan rule units files).roots n)
unfolding line_attrs IsLine
roots_line units rule files n part nth = subst (Each IsLine) (sym (ap (root_in_part units) (part_found 0 (plan rule units files).parts n n part nth (omega arith)))) (by (names_path part)) where
  by : (b : Bool) → Each IsLine (elim b as (λ _. List (Attr EntryName)) [ true ↦ line_in units part.home part.tops ∷ [] | false ↦ [] ])
  by true = (line_form units part part.home, tt)
  by false = tt

line_common : (x : UnitForms EntryName) (a : Attr EntryName) → IsLine a → IsFormOfCommon 0x3c true (fit_attr x a).form
unfolding has IsLine
line_common x a is =
    let form : (fit_attr x a).form ≡ 0x17 = ap (λ (c : Chosen). c.form) (ap (λ k. fit_as k x a) (ap class_of is ∙ offset_class)) ∙ is in
    ap (λ (n : ℕ). has n (codes_of_common true)) form

-- ---- what is kept is no partial unit

tag_whole : (f : EntryName → EntryName) (k : Kind EntryName) (i : ℕ) (u : FileUnit EntryName) (units : List (FileUnit EntryName)) → IsNamedBelow i k (rows_of_root units i) u.unit.below
    → tag_of (kind_map f k) ≢ 0x3c
tag_whole f Compile i u units named e = omega (arith, e)
tag_whole f (OfType signature main) i u units named e = omega (arith, e)
tag_whole f Partial i u units named e = absurd named

module _ (units : List (FileUnit EntryName)) (rule : Rule) (files : List ℕ)
    (deep : (n : ℕ) (part : PartialUnit) → Nth 0 (plan rule units files).parts n part → suc (depth (partial_unit (plan rule units files) n).below) ≤ 256)
    (free : (n : ℕ) (part : PartialUnit) → Nth 0 (plan rule units files).parts n part → EachAttr IsUnbound (partial_unit (plan rule units files) n).below) where
  abbrev m : Move
  m = plan rule units files

  -- ---- the common file

  module _ (f : Forms EntryName) (same : IsSame f.same) (is_shared : f.is_common ≡ true) (from : From) (carried : Each (λ u. CarriedUnit from (f.origin u.at) u) (common_units m))
      (refs : (e : Seen EntryName) (a : Named EntryName) (k : EntryName) → In e (all_seen (common_units m)) → In a e.attrs → In k a.value.refs → In k (units_keys (common_units m))) where
    abbrev shared_forms : KeyedForms EntryName
    shared_forms = with_keys f (units_keys (common_units m))

    abbrev IsShared : Attr EntryName → Type 0
    IsShared a = IsUnbound a × (IsBuilt a.form × Refer (λ k. In k (units_keys (common_units m))) a)

    made : (n : ℕ) (part : PartialUnit) → Nth 0 m.parts n part → CarriedUnit from (f.origin (partial_unit m n).at) (partial_unit m n)
        → EachAttr (Refer (λ k. In k (units_keys (common_units m)))) (partial_unit m n).below
        → UnitStandsSo IsFormOfCommon (fit_unit shared_forms (partial_unit m n))
    made n part nth c refer =
        let v = partial_unit m n in
        let x = unit_forms shared_forms v in
        let origin = f.origin v.at in
        let built = entries_more (CarriedAttr from origin) (λ a. IsBuilt a.form) (built_of from origin) v.below (carried_attrs from origin v.below c.below) in
        let both = join_entries (λ a. IsBuilt a.form) (Refer (λ k. In k (units_keys (common_units m)))) (λ a. IsBuilt a.form × Refer (λ k. In k (units_keys (common_units m))) a)
        (λ a p q. (p, q)) v.below built refer in
        let all = join_entries IsUnbound (λ a. IsBuilt a.form × Refer (λ k. In k (units_keys (common_units m))) a) IsShared (λ a p q. (p, q)) v.below (free n part nth) both in
        fit_stands IsFormOfCommon IsLine IsShared shared_forms v (line_common x)
        (λ a b. common_fit x same (ap (λ (t : Bool). holder_of {K = EntryName} t Partial) is_shared) a b.0 b.1.0 b.1.1) (roots_line units rule files n part nth) all (deep n part nth)

    unit_shared : (u : DwUnit EntryName) → In u (common_units m) → UnitStandsSo IsFormOfCommon (fit_unit shared_forms u)
    unfolding common_units
    unit_shared u there =
        let o = parts_from m Common 0 m.parts u there in
        let c = each_in (λ w. CarriedUnit from (f.origin w.at) w) u (common_units m) carried there in
        let refer = below_refers (common_units m) (λ k. In k (units_keys (common_units m))) refs u there in
        subst (λ (w : DwUnit EntryName). UnitStandsSo IsFormOfCommon (fit_unit shared_forms w)) o.is
        (made o.number o.part o.nth (subst (λ (w : DwUnit EntryName). CarriedUnit from (f.origin w.at) w) (sym o.is) c)
        (subst (λ (w : DwUnit EntryName). EachAttr (Refer (λ k. In k (units_keys (common_units m)))) w.below) (sym o.is) refer))

    pub shared_stand : Each (UnitStandsSo IsFormOfCommon) (fit_units f (common_units m))
    unfolding fit_units
    shared_stand = map_each (fit_unit shared_forms) (UnitStandsSo IsFormOfCommon) (common_units m) unit_shared

-- ---- a file

module _ (units : List (FileUnit EntryName)) (m : Move) (file : ℕ)
    (deep : (n : ℕ) (part : PartialUnit) → Nth 0 m.parts n part → part.home ≡ Local file → suc (depth (partial_unit m n).below) ≤ 256)
    (free : (n : ℕ) (part : PartialUnit) → Nth 0 m.parts n part → part.home ≡ Local file → EachAttr IsUnbound (partial_unit m n).below) (sup : Bool) (old : AreOld units)
    (low : (i : ℕ) (u : FileUnit EntryName) → Nth 0 units i u → suc (depth (kept_unit m units i u).below) ≤ 256) (f : Forms EntryName) (same : IsSame f.same) (from : From)
    (carried : Each (λ u. CarriedUnit from (f.origin u.at) u) (out_units m units file)) (none : sup ≡ false → f.shared ≡ [])
    (refs : sup ≡ false → (e : Seen EntryName) (a : Named EntryName) (k : EntryName) → In e (all_seen (out_units m units file)) → In a e.attrs → In k a.value.refs
    → In k (units_keys (out_units m units file))) where
  abbrev own_forms : KeyedForms EntryName
  own_forms = with_keys f (units_keys (out_units m units file))

  abbrev Known : EntryName → Type 0
  Known k = sup ≡ false → In k (units_keys (out_units m units file))

  abbrev IsKept : Attr EntryName → Type 0
  IsKept a = IsBuilt a.form × Refer Known a

  abbrev IsMoved : Attr EntryName → Type 0
  IsMoved a = IsUnbound a × IsKept a

  alone_form : (u : DwUnit EntryName) (a : Attr EntryName) → IsKept a → sup ≡ false → ((fit_attr (unit_forms own_forms u) a).form ≢ 0x1c) × ((fit_attr (unit_forms own_forms u) a).form ≢ 0x1d)
  alone_form u a is e = own_fit (unit_forms own_forms u) same (none e) a is.0 (λ k i. is.1 k i e)

  roots : (u : DwUnit EntryName) → In u (out_units m units file) → Each IsKept u.root.attrs
  roots u there =
      let c = each_in (λ w. CarriedUnit from (f.origin w.at) w) u (out_units m units file) carried there in
      let built = each_more (CarriedAttr from (f.origin u.at)) (λ a. IsBuilt a.form) u.root.attrs (built_of from (f.origin u.at)) c.root.attrs in
      join_attrs (λ a. IsBuilt a.form) (Refer Known) IsKept (λ a p q. (p, q)) u.root.attrs built
      (root_refers (out_units m units file) Known (λ d a k d_in a_in k_in e. refs e d a k d_in a_in k_in) u there)

  belows : (u : DwUnit EntryName) → In u (out_units m units file) → EachAttr IsKept u.below
  belows u there =
      let c = each_in (λ w. CarriedUnit from (f.origin w.at) w) u (out_units m units file) carried there in
      let built = entries_more (CarriedAttr from (f.origin u.at)) (λ a. IsBuilt a.form) (built_of from (f.origin u.at)) u.below (carried_attrs from (f.origin u.at) u.below c.below) in
      join_entries (λ a. IsBuilt a.form) (Refer Known) IsKept (λ a p q. (p, q)) u.below built
      (below_refers (out_units m units file) Known (λ d a k d_in a_in k_in e. refs e d a k d_in a_in k_in) u there)

  part_stands : (n : ℕ) (part : PartialUnit) → Nth 0 m.parts n part → part.home ≡ Local file → Each IsKept (partial_unit m n).root.attrs → EachAttr IsKept (partial_unit m n).below
      → UnitStandsSo (IsFormOfBack sup) (fit_unit own_forms (partial_unit m n))
  part_stands n part nth home root below =
      let v = partial_unit m n in
      let all = join_entries IsUnbound IsKept IsMoved (λ a p q. (p, q)) v.below (free n part nth home) below in
      fit_stands (IsFormOfBack sup) IsKept IsMoved own_forms v (λ a is. record { alone = alone_form v a is; free = λ t r. absurd (let z : true ≡ false = r in cc) })
      (λ a is. record { alone = alone_form v a is.1; free = λ t r. unbound_fit (unit_forms own_forms v) a is.0 }) root all (deep n part nth home)

  kept_stands : (i : ℕ) (u : FileUnit EntryName) → Nth 0 units i u → Each IsKept (kept_unit m units i u).root.attrs → EachAttr IsKept (kept_unit m units i u).below
      → UnitStandsSo (IsFormOfBack sup) (fit_unit own_forms (kept_unit m units i u))
  kept_stands i u nth root below =
      let v = kept_unit m units i u in
      let whole = tag_whole (image_in m) u.unit.kind i u units (old.units_named i u nth).below in
      fit_stands (IsFormOfBack sup) IsKept IsKept own_forms v (λ a is. record { alone = alone_form v a is; free = λ t r. absurd (whole t) })
      (λ a is. record { alone = alone_form v a is; free = λ t r. absurd (whole t) }) root below (low i u nth)

  unit_stands : (u : DwUnit EntryName) → In u (out_units m units file) → UnitStandsSo (IsFormOfBack sup) (fit_unit own_forms u)
  unfolding out_units
  unit_stands u there = elim (in_cases u (partial_units m (Local file) 0 m.parts) (kept_units m units file 0 units) there) [
    | inl a ↦
        let o = parts_from m (Local file) 0 m.parts u a in
        subst (λ (w : DwUnit EntryName). UnitStandsSo (IsFormOfBack sup) (fit_unit own_forms w)) o.is
        (part_stands o.number o.part o.nth o.home_is (subst (λ (w : DwUnit EntryName). Each IsKept w.root.attrs) (sym o.is) (roots u there))
        (subst (λ (w : DwUnit EntryName). EachAttr IsKept w.below) (sym o.is) (belows u there)))
    | inr b ↦
        let o = kept_from m units file 0 units u b in
        subst (λ (w : DwUnit EntryName). UnitStandsSo (IsFormOfBack sup) (fit_unit own_forms w)) o.is
        (kept_stands o.number o.unit o.nth (subst (λ (w : DwUnit EntryName). Each IsKept w.root.attrs) (sym o.is) (roots u there))
        (subst (λ (w : DwUnit EntryName). EachAttr IsKept w.below) (sym o.is) (belows u there)))
  ]

  pub own_stand : Each (UnitStandsSo (IsFormOfBack sup)) (fit_units f (out_units m units file))
  unfolding fit_units
  own_stand = map_each (fit_unit own_forms) (UnitStandsSo (IsFormOfBack sup)) (out_units m units file) unit_stands
