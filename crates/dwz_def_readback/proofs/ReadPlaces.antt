-- The places of units that are read differ, and each reference there names an entry.
use Rattle.std.proofs.Common.{◌≡◌, ℕ, ◌+◌, ◌⊎◌, ◌==◌, ◌&&◌, ◌||◌, Bool, true, false, List, [], ◌∷◌, ◌++◌, ℤ, Option, Some, None, length, map, refl, sym, ap, subst, ◌∙◌, arith, inl, inr}
use Rattle.std.proofs.Common.{eqb-true}
use Rattle.std.proofs.lemmas.Bool.{and_parts, or_cases}
use Rattle.dwz_def_reading.specs.Documents.{Attr, Doc, DwUnit, Entries, Kind, Num, Plain, Sec, Value, only, ref}
use Rattle.dwz_def_reading.specs.Shared.{operands_of}
use Rattle.dwz_def_readback.proofs.ReadBuilt.{own, units_built}
use Rattle.dwz_def_reading.proofs.PlacesRise.{all_raw_keys, raw_keys, rise_none, units_rise}
use Rattle.dwz_def_reading.proofs.ReadNamed.{expr_named, list_named}
use Rattle.dwz_def_reading.specs.Entries.{Mode, RawAttr, RawEntry, given}
use Rattle.dwz_def_reading.specs.Files.{Limits, Reads, debug_abbrev, debug_info, sources_of}
use Rattle.dwz_def_reading.specs.Lists.{Each, In}
use Rattle.dwz_def_reading.specs.Rows.{has}
use Rattle.dwz_def_reading.specs.Base.{Base}
use Rattle.dwz_def_reading.specs.Base.TheVariants.{Unit as FromUnit, Info as FromInfo}
use Rattle.dwz_def_reading.specs.declared.exprs.Operand.{Operand}
use Rattle.dwz_def_reading.specs.Exprs.{AreNamed}
use Rattle.dwz_def_reading.proofs.MeaningLemmas.{has_in}
use Rattle.dwz_def_reading.specs.Meanings.{Around, IsLocList, MeanAttrs, MeanEntries, MeanUnits, MeansAs, MeansKind, MeansUnit}
use Rattle.dwz_def_reading.specs.Classes.{OfAddress, OfBlock, OfCommonEntry, OfCommonText, OfConstant}
use Rattle.dwz_def_reading.specs.Classes.{Class}
use Rattle.dwz_def_reading.specs.Meanings.{MeaningContext, Sources}
use Rattle.dwz_def_reading.specs.Classes.{OfExpression, OfFlag, OfIndex, OfInfoEntry, OfListIndex, OfOffset, OfSignature, OfText, OfTextBySlot, OfTextInLineStr, OfTextInStr, OfUnitEntry}
use Rattle.dwz_def_reading.specs.Meanings.{IfSo, IsFileBy, all_places, entries_for, expr_context, number_of, offset_of, places_in, places_of}
use Rattle.dwz_def_reading.specs.Classes.{Unread}
use Rattle.dwz_def_reading.specs.Classes.{class_of, kept_width, names_file, names_list}
use Rattle.dwz_def_reading.specs.Meanings.{scope_of, stmt_list, target_of, targets, without_siblings}
use Rattle.dwz_def_reading.specs.Trees.{End, Entry, Forest}
use Rattle.dwz_def_reading.specs.Units.{CompileUnit, PartialUnit, RawKind, RawUnit, SpellsUnit, SpellsUnits, TypeUnit, entry_count, is_read, kind_by, unit_type}
use Rattle.dwz_def_reading.specs.Values.{AreBytes}
use Rattle.dwz_def_reading.proofs.ListFacts.{in_cases, in_left, in_right}
use Rattle.dwz_def_tops.specs.Lists.{NoneTwice}
use Rattle.dwz_def_tops.specs.Seen.{Closed, IsPartial, Named, Seen, all_seen, named_value, see, seen, seen_below, seen_roots}
use Rattle.dwz_def_tops.specs.Shown.{HaveMains, keys, unit_keys, units_keys}
use Rattle.dwz_def_tops.proofs.Members.{each_in}
use Rattle.dwz_def_tops.proofs.SeenLemmas.{entry_seen, root_from, root_seen, seen_from}
use Rattle.dwz_def_images.specs.After.{ArePlaced}
use Rattle.dwz_def_encoding.specs.Carried.{CarriedUnit, From, OfFile}
use Rattle.dwz_def_encoding.specs.Bases.{bases_in}
use Rattle.dwz_def_encoding.specs.Meant.{KindSays, entry_keys}
use Rattle.dwz_def_encoding.proofs.ReadAgain.{keys_read, units_carried}
use Rattle.dwz_def_readback.specs.Back.{WasReadFrom}

-- ---- the same places in what they mean

map_same : (ps : List ℕ) → map (λ p. p) ps ≡ ps
map_same [] = refl
map_same (p ∷ ps) = ap (λ (w : List ℕ). p ∷ w) (map_same ps)

pub entries_places : (s : MeaningContext ℕ) (f : Forest RawEntry) (g : Entries ℕ) → s.around.place ≡ (λ n. n) → MeanEntries s f g → keys g ≡ places_in f
entries_places s f g same h = keys_read s f g h ∙ ap (λ (p : ℕ → ℕ). map p (places_in f)) same ∙ map_same (places_in f)

module _ (sources : Sources) (all : List ℕ) where
  unit_places : (u : RawUnit) (v : DwUnit ℕ) → MeansUnit (own sources all) u v → unit_keys v ≡ raw_keys u
  unfolding unit_keys
  unit_places u v h =
      ap (λ (w : ℕ). w ∷ v.root.at ∷ keys v.below) h.place ∙ ap (λ (w : ℕ). u.at ∷ w ∷ keys v.below) h.root.place
      ∙ ap (λ (w : List ℕ). u.at ∷ u.root.at ∷ w) (entries_places (scope_of (own sources all) u) u.below v.below refl h.below)

  units_places : (raw : List RawUnit) (units : List (DwUnit ℕ)) → MeanUnits (own sources all) raw units → units_keys units ≡ all_raw_keys raw
  unfolding units_keys all_raw_keys
  units_places [] [] h = refl
  units_places (u ∷ raw) (v ∷ units) h = ap (λ (w : List ℕ). w ++ units_keys units) (unit_places u v h.0) ∙ ap (λ (w : List ℕ). raw_keys u ++ w) (units_places raw units h.1)
  units_places _ _ h = absurd h

-- ---- units and what they mean, one by one

record MeansIn (sources : Sources) (all : List ℕ) (raw : List RawUnit) (v : DwUnit ℕ) : Type 0 where
  unit : RawUnit
  there : In unit raw
  means : MeansUnit (own sources all) unit v

means_in : (sources : Sources) (all : List ℕ) (raw : List RawUnit) (units : List (DwUnit ℕ)) → MeanUnits (own sources all) raw units → (v : DwUnit ℕ) → In v units → MeansIn sources all raw v
means_in sources all [] [] h v is = absurd is
means_in sources all (u ∷ raw) (w ∷ units) h v (inl x) = record { unit = u; there = inl refl; means = subst (MeansUnit (own sources all) u) x h.0 }
means_in sources all (u ∷ raw) (w ∷ units) h v (inr r) = let o = means_in sources all raw units h.1 v r in record { unit = o.unit; there = inr o.there; means = o.means }
means_in sources all _ _ h v is = absurd h

record SpelledIn (abbrevs : List ℕ) (mode : Mode) (u : RawUnit) : Type 0 where
  before : ℕ
  start : ℕ
  bytes : List ℕ
  spelled : SpellsUnit abbrevs mode before u start bytes

spelled_in : (abbrevs : List ℕ) (mode : Mode) (before : ℕ) (raw : List RawUnit) (start : ℕ) (bytes : List ℕ) → SpellsUnits abbrevs mode before raw start bytes → (u : RawUnit) → In u raw
    → SpelledIn abbrevs mode u
spelled_in abbrevs mode before [] start bytes is u h = absurd h
spelled_in abbrevs mode before (w ∷ raw) start bytes is u (inl x) =
    record { before = before; start = start; bytes = is.first_bytes; spelled = subst (λ (y : RawUnit). SpellsUnit abbrevs mode before y start is.first_bytes) x is.first }
spelled_in abbrevs mode before (w ∷ raw) start bytes is u (inr r) = spelled_in abbrevs mode (before + entry_count w) raw (start + length is.first_bytes) is.second_bytes is.second u r

-- ---- no partial units

kind_not_partial : (mode : Mode) → mode.partial ≡ false → (type : ℕ) (bytes : List ℕ) → is_read mode type ≡ true → kind_by (type == 2) (type == 3) bytes ≡ PartialUnit → ⊥
kind_not_partial mode none type bytes read same = elim (or_cases (mode.whole && (type == 1 || type == 2)) (mode.partial && type == 3) read) [
  | inl whole ↦ elim (or_cases (type == 1) (type == 2) (and_parts mode.whole (type == 1 || type == 2) whole).1) [
    | inl one ↦ by (type == 2) (type == 3) refl refl (eqb-true type 1 one) same
    | inr two ↦ (let e : kind_by (type == 2) (type == 3) bytes ≡ kind_by true (type == 3) bytes = ap (λ (b : Bool). kind_by b (type == 3) bytes) two in let f = sym e ∙ same in cc)
  ]
  | inr three ↦ (let e : (false && (type == 3)) ≡ true = ap (λ (b : Bool). b && (type == 3)) (sym none) ∙ three in cc)
]
  where
    by : (a b : Bool) → (type == 2) ≡ a → (type == 3) ≡ b → type ≡ 1 → kind_by a b bytes ≡ PartialUnit → ⊥
    by true b p q e same = cc
    by false true p q e same = omega (arith, e, eqb-true type 3 q)
    by false false p q e same = cc

partial_only : (s : MeaningContext ℕ) (k : RawKind) (kind : Kind ℕ) → MeansKind s k kind → IsPartial kind → k ≡ PartialUnit
partial_only s CompileUnit kind h is = absurd (subst IsPartial h is)
partial_only s PartialUnit kind h is = refl
partial_only s (TypeUnit signature type_offset) kind h is = absurd (subst IsPartial h.1 is)

-- ---- references name entries

abbrev Known : MeaningContext ℕ → ℕ → Type 0
Known s p = In p s.own ⊎ In p s.around.all

only_known : (s : MeaningContext ℕ) (plain : Plain) (v : Value ℕ) → v ≡ only plain → (p : ℕ) → In p v.refs → Known s p
only_known s plain v e p is = absurd (subst (λ (w : Value ℕ). In p w.refs) e is)

ref_known : (s : MeaningContext ℕ) (q : ℕ) (v : Value ℕ) → v ≡ ref q → (p : ℕ) → In p v.refs → q ≡ p
ref_known s q v e p is = elim (subst (λ (w : Value ℕ). In p w.refs) e is) [ inl x ↦ x | inr r ↦ absurd r ]

base_known : (s : MeaningContext ℕ) (base : Base) (n : ℕ) → has n (entries_for s base) ≡ true → Known s n
base_known s FromUnit n h = inl (has_in n s.own h)
base_known s FromInfo n h = inr (has_in n s.around.all h)

target_known : (s : MeaningContext ℕ) → s.around.place ≡ (λ n. n) → (os : List Operand) → AreNamed (λ o. has (target_of s o) (entries_for s o.base)) os → (p : ℕ) → In p (targets s os) → Known s p
target_known s same [] named p is = absurd is
target_known s same (o ∷ os) named p (inl e) = subst (Known s) (ap (λ (f : ℕ → ℕ). f (target_of s o)) (sym same) ∙ e) (base_known s o.base (target_of s o) named.0)
target_known s same (o ∷ os) named p (inr r) = target_known s same os named.1 p r

list_known : (s : MeaningContext ℕ) → s.around.place ≡ (λ n. n) → (place : ℕ) (v : Value ℕ) → IsLocList s place v → (p : ℕ) → In p v.refs → Known s p
list_known s same place v h p is =
    target_known s same (operands_of h.list.exprs) (list_named (expr_context s 7) h.list place h.stands.front h.stands.spelled) p (subst (λ (w : Value ℕ). In p w.refs) h.value is)

offset_known : (s : MeaningContext ℕ) → s.around.place ≡ (λ n. n) → (a : RawAttr) (v : Value ℕ) (b : Bool) → IfSo b (IsLocList s (offset_of a) v) (v ≡ only (Sec (offset_of a))) → (p : ℕ) → In p v.refs
    → Known s p
offset_known s same a v true h p is = list_known s same (offset_of a) v h p is
offset_known s same a v false h p is = only_known s _ v h p is

file_known : (s : MeaningContext ℕ) (o : Option ℕ) (number : ℤ) (v : Value ℕ) → IsFileBy o s number v → (p : ℕ) → In p v.refs → Known s p
file_known s None number v h p is = only_known s _ v h.1 p is
file_known s (Some place) number v h p is = only_known s _ v h.value p is

constant_known : (s : MeaningContext ℕ) (a : RawAttr) (v : Value ℕ) (b : Bool) → IfSo b (IsFileBy (stmt_list s) s (number_of a.raw) v)
    (v ≡ only (Num (kept_width a.pair.name a.pair.form (offset_of a)) (number_of a.raw))) → (p : ℕ) → In p v.refs → Known s p
constant_known s a v true h p is = file_known s (stmt_list s) (number_of a.raw) v h p is
constant_known s a v false h p is = only_known s _ v h p is

class_known : (k : Class) (s : MeaningContext ℕ) (same : (s.around.place ≡ (λ n. n)) × (s.around.common ≡ None)) (a : RawAttr) (v : Value ℕ) → MeansAs k s a v → (p : ℕ) → In p v.refs → Known s p
class_known OfAddress s same a v h p is = only_known s _ v h p is
class_known OfBlock s same a v h p is = only_known s _ v h p is
class_known OfConstant s same a v h p is = constant_known s a v (names_file a.pair.name) h p is
class_known OfFlag s same a v h p is = only_known s _ v h p is
class_known OfText s same a v h p is = only_known s _ v h p is
class_known OfTextInStr s same a v h p is = only_known s _ v h.value p is
class_known OfTextInLineStr s same a v h p is = only_known s _ v h.value p is
class_known OfTextBySlot s same a v h p is = only_known s _ v h.text.value p is
class_known OfUnitEntry s same a v h p is = inl (subst (λ (w : ℕ). In w s.own) (ap (λ (f : ℕ → ℕ). f (s.unit + offset_of a)) (sym same.0) ∙ ref_known s _ v h.1 p is) h.0)
class_known OfInfoEntry s same a v h p is = inr (subst (λ (w : ℕ). In w s.around.all) (ap (λ (f : ℕ → ℕ). f (offset_of a)) (sym same.0) ∙ ref_known s _ v h.1 p is) h.0)
class_known OfSignature s same a v h p is = only_known s _ v h p is
class_known OfOffset s same a v h p is = offset_known s same.0 a v (names_list a.pair.name) h p is
class_known OfExpression s same a v h p is = target_known s same.0 h.expression.operands (expr_named (expr_context s 1) h.expression _ _ h.spelled) p (subst (λ (w : Value ℕ). In p w.refs) h.value is)
class_known OfListIndex s same a v h p is = list_known s same.0 _ v h.list p is
class_known OfIndex s same a v h p is = only_known s _ v h p is
class_known OfCommonEntry s same a v h p is = absurd (let none = sym same.1 ∙ h.1 in cc)
class_known OfCommonText s same a v h p is = absurd (let none = sym same.1 ∙ h.1 in cc)
class_known Unread s same a v h p is = absurd h

attrs_known : (s : MeaningContext ℕ) (same : (s.around.place ≡ (λ n. n)) × (s.around.common ≡ None)) (raw : List RawAttr) (attrs : List (Attr ℕ)) → MeanAttrs s raw attrs → (a : Named ℕ)
    → In a (map named_value attrs) → (p : ℕ) → In p a.value.refs → Known s p
attrs_known s same [] [] h a is p ref = absurd is
attrs_known s same (r ∷ raw) (b ∷ attrs) h a (inl x) p ref = class_known (class_of r.pair.form) s same r b.value h.0.value p (subst (λ (w : Named ℕ). In p w.value.refs) (sym x) ref)
attrs_known s same (r ∷ raw) (b ∷ attrs) h a (inr y) p ref = attrs_known s same raw attrs h.1 a y p ref
attrs_known s same _ _ h a is p ref = absurd h

seen_known : (s : MeaningContext ℕ) (same : (s.around.place ≡ (λ n. n)) × (s.around.common ≡ None)) (f : Forest RawEntry) (g : Entries ℕ) → MeanEntries s f g → (e : Seen ℕ) → In e (seen g)
    → (a : Named ℕ)
    → In a e.attrs → (p : ℕ) → In p a.value.refs → Known s p
unfolding seen
seen_known s same End End h e is a attr p ref = absurd is
seen_known s same (Entry r f f') (Entry d g g') h e (inl x) a attr p ref = attrs_known s same (without_siblings r.attrs) d.attrs h.0.attrs a (subst (λ (w : Seen ℕ). In a w.attrs) (sym x) attr) p ref
seen_known s same (Entry r f f') (Entry d g g') h e (inr y) a attr p ref = elim (in_cases e (seen g) (seen g') y) [
  | inl b ↦ seen_known s same f g h.1 e b a attr p ref
  | inr c ↦ seen_known s same f' g' h.2 e c a attr p ref
]
seen_known s same _ _ h e is a attr p ref = absurd h

-- ---- an entry stands at each place

abbrev StandsAt : List (DwUnit ℕ) → ℕ → Type 0
StandsAt units p = (d : Seen ℕ) × In d (all_seen units) × (d.at ≡ p)

pub key_seen : {P : Type 0} (g : Entries P) (p : P) → In p (keys g) → (d : Seen P) × In d (seen g) × (d.at ≡ p)
unfolding keys seen
key_seen End p h = absurd h
key_seen (Entry e f g) p (inl x) = (see e f, inl refl, x)
key_seen (Entry e f g) p (inr r) = elim (in_cases p (keys f) (keys g) r) [
  | inl a ↦ (let o = key_seen f p a in (o.0, inr (in_left o.0 (seen f) (seen g) o.1), o.2))
  | inr b ↦ (let o = key_seen g p b in (o.0, inr (in_right o.0 (seen f) (seen g) o.1), o.2))
]

unit_stands : (sources : Sources) (all : List ℕ) (u : RawUnit) (v : DwUnit ℕ) → MeansUnit (own sources all) u v → (units : List (DwUnit ℕ)) → In v units → (p : ℕ) → In p (places_of u)
    → StandsAt units p
unit_stands sources all u v h units there p (inl x) = (see v.root v.below, root_seen units v there, h.root.place ∙ x)
unit_stands sources all u v h units there p (inr r) =
    let o = key_seen v.below p (subst (In p) (sym (entries_places (scope_of (own sources all) u) u.below v.below refl h.below)) r) in
    (o.0, entry_seen units v o.0 there o.1, o.2)

place_stands : (sources : Sources) (all : List ℕ) (raw : List RawUnit) (units whole : List (DwUnit ℕ)) → MeanUnits (own sources all) raw units → ((v : DwUnit ℕ) → In v units → In v whole) → (p : ℕ)
    → In p (all_places raw) → StandsAt whole p
unfolding all_places
place_stands sources all [] [] whole h into p is = absurd is
place_stands sources all (u ∷ raw) (v ∷ units) whole h into p is = elim (in_cases p (places_of u) (all_places raw) is) [
  | inl a ↦ unit_stands sources all u v h.0 whole (into v (inl refl)) p a
  | inr b ↦ place_stands sources all raw units whole h.1 (λ w there. into w (inr there)) p b
]
place_stands sources all _ _ whole h into p is = absurd h

own_known : (raw : List RawUnit) (u : RawUnit) → In u raw → (p : ℕ) → In p (places_of u) → In p (all_places raw)
unfolding all_places
own_known [] u h p is = absurd h
own_known (w ∷ raw) u (inl x) p is = in_left p (places_of w) (all_places raw) (subst (λ (y : RawUnit). In p (places_of y)) (sym x) is)
own_known (w ∷ raw) u (inr r) p is = in_right p (places_of w) (all_places raw) (own_known raw u r p is)

-- ---- all of it

module _ (abbrevs info : List ℕ) (mode : Mode) (raw : List RawUnit) (sources : Sources) (units : List (DwUnit ℕ)) (spelled : SpellsUnits abbrevs mode 0 raw 0 info)
    (means : MeanUnits (own sources (all_places raw)) raw units) where
  read_apart : NoneTwice (units_keys units)
  read_apart = subst NoneTwice (sym (units_places sources (all_places raw) raw units means)) (rise_none 0 (all_raw_keys raw) (0 + length info) (units_rise abbrevs mode 0 raw 0 info spelled))

  read_kinds : mode.partial ≡ false → (v : DwUnit ℕ) → In v units → IsPartial v.kind → ⊥
  read_kinds none v there is =
      let m = means_in sources (all_places raw) raw units means v there in
      let s = spelled_in abbrevs mode 0 raw 0 info spelled m.unit m.there in
      let kind = partial_only (scope_of (own sources (all_places raw)) m.unit) m.unit.kind v.kind m.means.kind is in
      let header = s.spelled.is_header in
      kind_not_partial mode none (unit_type s.spelled.header) s.spelled.header header.unit_type (sym header.of_kind ∙ kind)

  known_stands : (u : RawUnit) → In u raw → (p : ℕ) → Known (scope_of (own sources (all_places raw)) u) p → StandsAt units p
  known_stands u there p (inl own) = place_stands sources (all_places raw) raw units units means (λ v is. is) p (own_known raw u there p own)
  known_stands u there p (inr all) = place_stands sources (all_places raw) raw units units means (λ v is. is) p all

  read_closed : Closed units
  read_closed = λ e a p is attr ref. elim (in_cases e (seen_roots units) (seen_below units) is) [
    | inl x ↦
        (let o = root_from units e x in
        let m = means_in sources (all_places raw) raw units means o.unit o.there in
        let s = scope_of (own sources (all_places raw)) m.unit in
        known_stands m.unit m.there p (attrs_known s (refl, refl) (without_siblings m.unit.root.attrs) o.unit.root.attrs m.means.root.attrs a (subst (λ (w : Seen ℕ). In a w.attrs) (sym o.is) attr) p
        ref))
    | inr y ↦
        (let o = seen_from units e y in
        let m = means_in sources (all_places raw) raw units means o.unit o.there in
        let s = scope_of (own sources (all_places raw)) m.unit in
        known_stands m.unit m.there p (seen_known s (refl, refl) m.unit.below o.unit.below m.means.below e o.is a attr p ref))
  ]

  -- units that are read without partial units are placed
  pub read_placed : mode.partial ≡ false → HaveMains units → ArePlaced units
  read_placed none mains = record { apart = read_apart; kinds = read_kinds none; closed = read_closed; mains = mains }

-- ---- a file

units_main : (from : From) (units : List (DwUnit ℕ)) → Each (λ u. CarriedUnit from (bases_in u) u) units → HaveMains units
units_main from units are = λ u there signature main e.
    (let c = each_in (λ w. CarriedUnit from (bases_in w) w) u units are there in subst (λ (k : Kind ℕ). KindSays (entry_keys u) k) e c.main)

pub read_from : (l : Limits) (input : List ℕ) (raw : List RawUnit) (doc : Doc ℕ) → Reads l input raw doc → AreBytes (debug_info input) → WasReadFrom (sources_of input) doc.units
read_from l input raw doc reads are =
    let carried = units_carried (debug_abbrev input) (given l.entries) refl (OfFile (sources_of input)) (own (sources_of input) (all_places raw)) (λ s a same. ap (λ (w : Around ℕ). w.sources) same)
    raw doc.units 0 0 (debug_info input)
    reads.spelled reads.means are (units_built (sources_of input) (all_places raw) raw doc.units reads.means) in
    record {
      placed = read_placed (debug_abbrev input) (debug_info input) (given l.entries) raw (sources_of input) doc.units reads.spelled reads.means refl
          (units_main (OfFile (sources_of input)) doc.units carried);
      carried = carried;
    }
