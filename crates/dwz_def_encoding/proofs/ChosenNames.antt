-- Choosing forms changes no name and no offset in a root, and all that is written then has a fixed length.
use Rattle.std.proofs.Common.{◌≡◌, ◌⊎◌, ℕ, Bool, true, false, List, [], ◌∷◌, ◌++◌, map, Some, None, refl, sym, ap, subst, ◌∙◌, cond, eqb, eqb-true}
use Rattle.std.proofs.Math.Logic.{inl, inr}
use Rattle.dwz_def_reading.specs.Documents.{Attr, DwUnit, Entries, Node}
use Rattle.dwz_def_reading.specs.Lists.{Each, In}
use Rattle.dwz_def_reading.specs.Classes.{OfCommonEntry, OfConstant, OfInfoEntry, OfTextBySlot, OfTextInLineStr, OfTextInStr, OfUnitEntry}
use Rattle.dwz_def_reading.specs.Classes.{Class, class_in, class_of, class_rows, names_file}
use Rattle.dwz_def_reading.specs.Spelling.{reach}
use Rattle.dwz_def_reading.specs.Trees.{End, Entry}
use Rattle.dwz_def_reading.proofs.ListFacts.{in_cases, in_left, in_map, in_right}
use Rattle.dwz_def_encoding.specs.Bases.{offset_in}
use Rattle.dwz_def_encoding.specs.Meant.{Tells, all_entry_keys, entry_keys}
use Rattle.dwz_def_encoding.specs.Placing.{CommonUnit, InCommon, InFile, InUnit, KeyedForms, NewUnit, OldUnit, Reach, UnitForms, UnitRole, as_constant, as_file, as_line_text, as_slot, as_strp_if, as_text, fit}
use Rattle.dwz_def_encoding.specs.Placing.{fit_as, fit_attr, fit_unit, has_key, has_text, reach_of, ref_form, slot_number, unit_forms, with_form}
use Rattle.dwz_def_encoding.specs.Writing.{text_or_empty}
use Rattle.dwz_def_tops.specs.Shown.{keys, unit_keys, units_keys}
use Rattle.dwz_def_tops.specs.Seen.{Named, Seen, all_seen, named_value, see, seen, seen_below, seen_roots}
use Rattle.dwz_def_tops.specs.Lists.{NoneTwice}
use Rattle.dwz_def_encoding.proofs.Places.{IsSame}
use Rattle.dwz_def_tops.proofs.OnceLemmas.{none_both, none_left, none_right}
use Rattle.dwz_def_tops.proofs.ShownLemmas.{seen_key}
use Rattle.dwz_def_encoding.proofs.Rising.{entries_are_keys}
use Rattle.dwz_def_encoding.proofs.WriteLengths.{Fixed, FixedAs, FixedEntries, FixedUnit}
use Rattle.dwz_def_tops.proofs.Members.{each_of}
use Rattle.dwz_def_encoding.proofs.ChosenValues.{chosen}
use Rattle.dwz_def_encoding.proofs.StoredClasses.{offset_class}

-- ---- an offset of form sec_offset stays, and no other value gets that form

same_offset : {K : Type 0} (x : UnitForms K) (a : Attr K) (c : Class) → class_of a.form ≡ c → eqb a.form 0x17 ≡ false → offset_in (Some (with_form a (fit_as c x a))) ≡ None
same_offset x a c e other = by c where
  entry : (r : Reach) → cond (eqb (ref_form r) 0x17) (Some (reach a.raw)) None ≡ None
  entry InUnit = refl
  entry InFile = refl
  entry InCommon = refl

  kept : cond (eqb a.form 0x17) (Some (reach a.raw)) None ≡ None
  kept = ap (λ (b : Bool). cond b (Some (reach a.raw)) None) other

  strp : (b : Bool) (at : ℕ) → offset_in (Some (with_form a (as_strp_if b x a at))) ≡ None
  strp true at = refl
  strp false at = refl

  text : (h : UnitRole) → offset_in (Some (with_form a (as_text h x a))) ≡ None
  text CommonUnit = refl
  text OldUnit = strp (has_text x.shared (text_or_empty a.value.plain)) (reach a.raw)
  text NewUnit = strp (has_text x.shared (text_or_empty a.value.plain)) (reach a.raw)

  line_text : (h : UnitRole) → offset_in (Some (with_form a (as_line_text h x a))) ≡ None
  line_text CommonUnit = refl
  line_text OldUnit = kept
  line_text NewUnit = kept

  slots : (h : UnitRole) → offset_in (Some (with_form a (as_slot h x a))) ≡ None
  slots CommonUnit = refl
  slots OldUnit = kept
  slots NewUnit = strp (has_text x.shared (text_or_empty a.value.plain)) (slot_number x.offsets x.origin_bases.slots (reach a.raw))

  files : (h : UnitRole) → offset_in (Some (with_form a (as_file h x a))) ≡ None
  files CommonUnit = refl
  files OldUnit = kept
  files NewUnit = kept

  constants : (b : Bool) → offset_in (Some (with_form a (as_constant b x a))) ≡ None
  constants true = files x.holder
  constants false = kept

  by : (d : Class) → offset_in (Some (with_form a (fit_as d x a))) ≡ None
  by OfConstant = constants (names_file a.name)
  by OfUnitEntry = entry (reach_of x a.value.refs)
  by OfInfoEntry = entry (reach_of x a.value.refs)
  by OfCommonEntry = entry (reach_of x a.value.refs)
  by OfTextInStr = text x.holder
  by OfTextInLineStr = line_text x.holder
  by OfTextBySlot = slots x.holder
  by _ = kept

pub offset_fit : {K : Type 0} (x : UnitForms K) (a : Attr K) → offset_in (Some (fit_attr x a)) ≡ offset_in (Some a)
offset_fit x a = by (eqb a.form 0x17) refl where
  by : (b : Bool) → eqb a.form 0x17 ≡ b → offset_in (Some (fit_attr x a)) ≡ offset_in (Some a)
  by true e = ap (λ (c : Class). offset_in (Some (with_form a (fit_as c x a)))) (ap class_of (eqb-true a.form 0x17 e) ∙ offset_class)
  by false e = same_offset x a (class_of a.form) refl e ∙ ap (λ (b : Bool). cond b (Some (reach a.raw)) None) (sym e)

-- ---- whatever is written has a fixed length

chosen_fixed : {K : Type 0} (a : Attr K) (x : Reach) → Fixed (chosen a (ref_form x))
unfolding class_rows class_in
chosen_fixed a InUnit = refl
chosen_fixed a InFile = refl
chosen_fixed a InCommon = refl

strp_fixed : {K : Type 0} (b : Bool) (f : UnitForms K) (a : Attr K) (at : ℕ) → Fixed (with_form a (as_strp_if b f a at))
unfolding class_rows class_in
strp_fixed true f a at = tt
strp_fixed false f a at = tt

text_fixed : {K : Type 0} (h : UnitRole) (f : UnitForms K) (a : Attr K) → Fixed (with_form a (as_text h f a))
unfolding class_rows class_in
text_fixed CommonUnit f a = tt
text_fixed OldUnit f a = strp_fixed (has_text f.shared (text_or_empty a.value.plain)) f a (reach a.raw)
text_fixed NewUnit f a = strp_fixed (has_text f.shared (text_or_empty a.value.plain)) f a (reach a.raw)

line_text_fixed : {K : Type 0} (h : UnitRole) (f : UnitForms K) (a : Attr K) → FixedAs (class_of a.form) a → Fixed (with_form a (as_line_text h f a))
unfolding class_rows class_in
line_text_fixed CommonUnit f a e = tt
line_text_fixed OldUnit f a e = e
line_text_fixed NewUnit f a e = e

slot_fixed : {K : Type 0} (h : UnitRole) (f : UnitForms K) (a : Attr K) → FixedAs (class_of a.form) a → Fixed (with_form a (as_slot h f a))
unfolding class_rows class_in
slot_fixed CommonUnit f a e = tt
slot_fixed OldUnit f a e = e
slot_fixed NewUnit f a e = strp_fixed (has_text f.shared (text_or_empty a.value.plain)) f a (slot_number f.offsets f.origin_bases.slots (reach a.raw))

file_fixed : {K : Type 0} (h : UnitRole) (f : UnitForms K) (a : Attr K) → FixedAs (class_of a.form) a → Fixed (with_form a (as_file h f a))
unfolding class_rows class_in
file_fixed CommonUnit f a e = tt
file_fixed OldUnit f a e = e
file_fixed NewUnit f a e = e

constant_fixed : {K : Type 0} (b : Bool) (f : UnitForms K) (a : Attr K) → FixedAs (class_of a.form) a → Fixed (with_form a (as_constant b f a))
constant_fixed true f a e = file_fixed f.holder f a e
constant_fixed false f a e = e

attr_fixed : {K : Type 0} (f : UnitForms K) (a : Attr K) → Fixed (fit_attr f a)
attr_fixed f a = by (class_of a.form) refl where
  by : (c : Class) → class_of a.form ≡ c → Fixed (with_form a (fit_as c f a))
  by OfUnitEntry e = chosen_fixed a (reach_of f a.value.refs)
  by OfInfoEntry e = chosen_fixed a (reach_of f a.value.refs)
  by OfCommonEntry e = chosen_fixed a (reach_of f a.value.refs)
  by OfTextInStr e = text_fixed f.holder f a
  by OfTextInLineStr e = line_text_fixed f.holder f a (subst (λ (d : Class). FixedAs d a) (sym e) tt)
  by OfTextBySlot e = slot_fixed f.holder f a (subst (λ (d : Class). FixedAs d a) (sym e) tt)
  by OfConstant e = constant_fixed (names_file a.name) f a (subst (λ (d : Class). FixedAs d a) (sym e) tt)
  by c e = subst (λ (d : Class). FixedAs d a) (sym e) tt

attrs_fixed : {K : Type 0} (f : UnitForms K) (attrs : List (Attr K)) → Each Fixed (map (fit_attr f) attrs)
attrs_fixed f [] = tt
attrs_fixed f (a ∷ attrs) = (attr_fixed f a, attrs_fixed f attrs)

entries_fixed : {K : Type 0} (f : UnitForms K) (g : Entries K) → FixedEntries (fit f g)
unfolding fit
entries_fixed f End = tt
entries_fixed f (Entry e children next) = (attrs_fixed f e.attrs, entries_fixed f children, entries_fixed f next)

pub each_fixed : {K : Type 0} (f : KeyedForms K) (units : List (DwUnit K)) → Each FixedUnit (map (fit_unit f) units)
each_fixed f [] = tt
each_fixed f (u ∷ units) = ((attrs_fixed (unit_forms f u) u.root.attrs, entries_fixed (unit_forms f u) u.below), each_fixed f units)

-- ---- the names stay

fit_keys : {K : Type 0} (x : UnitForms K) (f : Entries K) → keys (fit x f) ≡ keys f
unfolding fit keys
fit_keys x End = refl
fit_keys {K} x (Entry e children next) =
    ap (λ (w : List K). e.at ∷ (w ++ keys (fit x next))) (fit_keys x children) ∙ ap (λ (w : List K). e.at ∷ (keys children ++ w)) (fit_keys x next)

pub fit_entry_keys : {K : Type 0} (f : KeyedForms K) (u : DwUnit K) → entry_keys (fit_unit f u) ≡ entry_keys u
fit_entry_keys {K} f u = ap (λ (w : List K). u.root.at ∷ w) (fit_keys (unit_forms f u) u.below)

pub fit_units_keys : {K : Type 0} (f : KeyedForms K) (units : List (DwUnit K)) → units_keys (map (fit_unit f) units) ≡ units_keys units
unfolding units_keys unit_keys
fit_units_keys f [] = refl
fit_units_keys {K} f (u ∷ units) =
    ap (λ (w : List K). u.at ∷ (w ++ units_keys (map (fit_unit f) units))) (ap (λ (w : List K). u.root.at ∷ w) (fit_keys (unit_forms f u) u.below))
    ∙ ap (λ (w : List K). u.at ∷ (u.root.at ∷ keys u.below) ++ w) (fit_units_keys f units)

pub fit_all_keys : {K : Type 0} (f : KeyedForms K) (units : List (DwUnit K)) → all_entry_keys (map (fit_unit f) units) ≡ all_entry_keys units
unfolding all_entry_keys
fit_all_keys f [] = refl
fit_all_keys {K} f (u ∷ units) =
    ap (λ (w : List K). w ++ all_entry_keys (map (fit_unit f) units)) (fit_entry_keys f u) ∙ ap (λ (w : List K). entry_keys u ++ w) (fit_all_keys f units)

-- ---- a key that is found

pub has_in : {K : Type 0} (same : K → K → Bool) (is : IsSame same) (k : K) (ks : List K) → has_key same k ks ≡ true → In k ks
unfolding has_key
has_in same is k [] e = absurd cc
has_in same is k (x ∷ xs) e = go (λ r. has_in same is k xs r) (same x k) refl e where
  go : (has_key same k xs ≡ true → In k xs) → (t : Bool) → same x k ≡ t → (elim t as (λ _. Bool) [ true ↦ true | false ↦ has_key same k xs ]) ≡ true → In k (x ∷ xs)
  go rest true q r = inl (is.true_is x k q)
  go rest false q r = inr (rest r)

unit_in_keys : {K : Type 0} (units : List (DwUnit K)) (u : DwUnit K) → In u units → In u.at (units_keys units)
unfolding units_keys unit_keys
unit_in_keys [] u is = is
unit_in_keys (w ∷ units) u is = elim is [
  | inl e ↦ inl (ap (λ (x : DwUnit _). x.at) e)
  | inr r ↦ in_right u.at (w.at ∷ w.root.at ∷ keys w.below) (units_keys units) (unit_in_keys units u r)
]

-- no unit's own name is an entry's
pub unit_apart : {K : Type 0} (units : List (DwUnit K)) (u : DwUnit K) → NoneTwice (units_keys units) → In u units → In u.at (all_entry_keys units) → ⊥
unfolding units_keys all_entry_keys unit_keys
unit_apart [] u once is k = is
unit_apart {K} (w ∷ units) u once is k =
    let ws = w.at ∷ w.root.at ∷ keys w.below in
    elim is [
      | inl e ↦
          let k' : In w.at (all_entry_keys (w ∷ units)) = subst (λ (x : DwUnit K). In x.at (all_entry_keys (w ∷ units))) (sym e) k in
          (elim (in_cases w.at (entry_keys w) (all_entry_keys units) k') [
            | inl p ↦ (none_left ws (units_keys units) once).0 p
            | inr q ↦ none_both ws (units_keys units) once w.at (inl refl) (entries_are_keys units w.at q)
          ])
      | inr r ↦ elim (in_cases u.at (entry_keys w) (all_entry_keys units) k) [
        | inl p ↦ none_both ws (units_keys units) once u.at (inr p) (unit_in_keys units u r)
        | inr q ↦ unit_apart units u (none_right ws (units_keys units) once) r q
      ]
    ]

-- ---- each reference names an entry

module _ {K : Type 0} (t : Tells K) where
  abbrev Known : K → Type 0
  Known k = In k t.all ⊎ In k t.common

  abbrev pub NamesAll : Attr K → Type 0
  NamesAll a = Each Known a.value.refs

  abbrev pub NodeNames : Node K → Type 0
  NodeNames e = Each NamesAll e.attrs

  abbrev pub EntriesName : Entries K → Type 0
  EntriesName End = Unit {0}
  EntriesName (Entry e children next) = NodeNames e × EntriesName children × EntriesName next

  abbrev pub SeenNames : Seen K → Type 0
  SeenNames e = (a : Named K) (k : K) → In a e.attrs → In k a.value.refs → Known k

  pub node_names : (e : Node K) (children : Entries K) → SeenNames (see e children) → NodeNames e
  node_names e children names = each_of NamesAll e.attrs (λ a is. each_of Known a.value.refs (λ k r. names (named_value a) k (in_map named_value a e.attrs is) r))

  pub entries_name : (f : Entries K) → ((e : Seen K) → In e (seen f) → SeenNames e) → EntriesName f
  unfolding seen
  entries_name End names = tt
  entries_name (Entry e children next) names = (
    node_names e children (names (see e children) (inl refl)),
    entries_name children (λ s is. names s (inr (in_left s (seen children) (seen next) is))),
    entries_name next (λ s is. names s (inr (in_right s (seen children) (seen next) is))),
  )

seen_below_key : {K : Type 0} (units : List (DwUnit K)) (s : Seen K) → In s (seen_below units) → In s.at (all_entry_keys units)
unfolding seen_below all_entry_keys
seen_below_key [] s is = is
seen_below_key (u ∷ units) s is = elim (in_cases s (seen u.below) (seen_below units) is) [
  | inl p ↦ in_left s.at (entry_keys u) (all_entry_keys units) (inr (seen_key u.below s p))
  | inr q ↦ in_right s.at (entry_keys u) (all_entry_keys units) (seen_below_key units s q)
]

seen_root_key : {K : Type 0} (units : List (DwUnit K)) (s : Seen K) → In s (seen_roots units) → In s.at (all_entry_keys units)
unfolding seen_roots all_entry_keys
seen_root_key [] s is = is
seen_root_key (u ∷ units) s is = elim is [
  | inl p ↦ inl (ap (λ (x : Seen _). x.at) p)
  | inr q ↦ in_right s.at (entry_keys u) (all_entry_keys units) (seen_root_key units s q)
]

pub all_seen_key : {K : Type 0} (units : List (DwUnit K)) (s : Seen K) → In s (all_seen units) → In s.at (all_entry_keys units)
all_seen_key units s is = elim (in_cases s (seen_roots units) (seen_below units) is) [ inl p ↦ seen_root_key units s p | inr q ↦ seen_below_key units s q ]
