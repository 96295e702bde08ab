-- What units mean that were read: no place is that of two entries, and each reference names an entry, of the file or of the common one.
use Rattle.std.proofs.Common.{◌≡◌, ℕ, ◌+◌, ◌⊎◌, ◌==◌, ◌&&◌, ◌||◌, Bool, true, false, List, [], ◌∷◌, ◌++◌, ℤ, Option, Some, None, length, map, refl, sym, ap, subst, ◌∙◌, inl, inr}
use Rattle.std.proofs.Common.{eqb-true}
use Rattle.std.proofs.lemmas.Bool.{and_parts, or_cases}
use Rattle.std.proofs.lemmas.List.{map-append}
use Rattle.dwz_def_reading.specs.Base.{Base}
use Rattle.dwz_def_reading.specs.Base.TheVariants.{Unit as FromUnit, Info as FromInfo}
use Rattle.dwz_def_reading.specs.declared.exprs.Operand.{Operand}
use Rattle.dwz_def_reading.specs.Classes.{Class, OfAddress, OfBlock, OfCommonEntry, OfCommonText, OfConstant, OfExpression, OfFlag, OfIndex, OfInfoEntry, OfListIndex, OfOffset, OfSignature, OfText, OfTextBySlot, OfTextInLineStr, OfTextInStr, OfUnitEntry, Unread}
use Rattle.dwz_def_reading.specs.Classes.{class_of, kept_width, names_file, names_list}
use Rattle.dwz_def_reading.specs.Documents.{Attr, DwUnit, Entries, Kind, Num, OfType, Plain, Sec, Value, only, ref}
use Rattle.dwz_def_reading.specs.Entries.{Mode, RawAttr, RawEntry}
use Rattle.dwz_def_reading.specs.Exprs.{AreNamed}
use Rattle.dwz_def_reading.specs.Lists.{In}
use Rattle.dwz_def_reading.specs.Meanings.{Around, Common, IfSo, IsFileBy, IsLocList, MeanAttrs, MeanEntries, MeanUnits, MeaningContext, MeansAs, MeansKind, MeansUnit}
use Rattle.dwz_def_reading.specs.Meanings.{all_places, entries_for, expr_context, number_of, offset_of, places_in, places_of, scope_of, stmt_list, target_of, targets, without_siblings}
use Rattle.dwz_def_reading.specs.Rows.{has}
use Rattle.dwz_def_reading.specs.Shared.{operands_of}
use Rattle.dwz_def_reading.specs.Trees.{End, Entry, Forest}
use Rattle.dwz_def_reading.specs.Units.{CompileUnit, PartialUnit, RawKind, RawUnit, SpellsUnit, SpellsUnits, TypeUnit, entry_count, is_read, kind_by, unit_type}
use Rattle.dwz_def_reading.proofs.ListFacts.{in_cases, in_left, in_map, in_right}
use Rattle.dwz_def_reading.proofs.MeaningLemmas.{has_in}
use Rattle.dwz_def_reading.proofs.PlacesRise.{all_raw_keys}
use Rattle.dwz_def_reading.proofs.ReadNamed.{expr_named, list_named}
use Rattle.dwz_def_tops.specs.Seen.{IsPartial, Named, Seen, all_seen, named_value, see, seen, seen_below, seen_roots}
use Rattle.dwz_def_tops.specs.Shown.{HaveMains, keys, unit_keys, units_keys}
use Rattle.dwz_def_tops.proofs.SeenLemmas.{entry_seen, root_from, root_seen, seen_from}

-- ---- references name entries

-- the place is that of an entry of the unit or of the file, or of the common file
abbrev KnownIn : {P : Type 0} → MeaningContext P → P → Type 0
KnownIn {P} s p =
    ((n : ℕ) × (In n s.own ⊎ In n s.around.all) × (s.around.place n ≡ p)) ⊎ ((c : Common P) × (n : ℕ) × (s.around.common ≡ Some c) × In n c.entries × (c.place n ≡ p))

only_known : {P : Type 0} (s : MeaningContext P) (plain : Plain) (v : Value P) → v ≡ only plain → (p : P) → In p v.refs → KnownIn s p
only_known {P} s plain v e p is = absurd (subst (λ (w : Value P). In p w.refs) e is)

ref_is : {P : Type 0} (q : P) (v : Value P) → v ≡ ref q → (p : P) → In p v.refs → q ≡ p
ref_is {P} q v e p is = elim (subst (λ (w : Value P). In p w.refs) e is) [ inl x ↦ x | inr r ↦ absurd r ]

base_known : {P : Type 0} (s : MeaningContext P) (base : Base) (n : ℕ) → has n (entries_for s base) ≡ true → In n s.own ⊎ In n s.around.all
base_known s FromUnit n h = inl (has_in n s.own h)
base_known s FromInfo n h = inr (has_in n s.around.all h)

target_known : {P : Type 0} (s : MeaningContext P) (os : List Operand) → AreNamed (λ o. has (target_of s o) (entries_for s o.base)) os → (p : P) → In p (targets s os) → KnownIn s p
target_known s [] named p is = absurd is
target_known s (o ∷ os) named p (inl e) = inl (target_of s o, base_known s o.base (target_of s o) named.0, e)
target_known s (o ∷ os) named p (inr r) = target_known s os named.1 p r

list_known : {P : Type 0} (s : MeaningContext P) (place : ℕ) (v : Value P) → IsLocList s place v → (p : P) → In p v.refs → KnownIn s p
list_known {P} s place v h p is =
    target_known s (operands_of h.list.exprs) (list_named (expr_context s 7) h.list place h.stands.front h.stands.spelled) p (subst (λ (w : Value P). In p w.refs) h.value is)

offset_known : {P : Type 0} (s : MeaningContext P) (a : RawAttr) (v : Value P) (b : Bool) → IfSo b (IsLocList s (offset_of a) v) (v ≡ only (Sec (offset_of a))) → (p : P) → In p v.refs → KnownIn s p
offset_known s a v true h p is = list_known s (offset_of a) v h p is
offset_known s a v false h p is = only_known s _ v h p is

file_known : {P : Type 0} (s : MeaningContext P) (o : Option ℕ) (number : ℤ) (v : Value P) → IsFileBy o s number v → (p : P) → In p v.refs → KnownIn s p
file_known s None number v h p is = only_known s _ v h.1 p is
file_known s (Some place) number v h p is = only_known s _ v h.value p is

constant_known : {P : Type 0} (s : MeaningContext P) (a : RawAttr) (v : Value P) (b : Bool) → IfSo b (IsFileBy (stmt_list s) s (number_of a.raw) v)
    (v ≡ only (Num (kept_width a.pair.name a.pair.form (offset_of a)) (number_of a.raw))) → (p : P) → In p v.refs → KnownIn s p
constant_known s a v true h p is = file_known s (stmt_list s) (number_of a.raw) v h p is
constant_known s a v false h p is = only_known s _ v h p is

class_known : {P : Type 0} (k : Class) (s : MeaningContext P) (a : RawAttr) (v : Value P) → MeansAs k s a v → (p : P) → In p v.refs → KnownIn s p
class_known OfAddress s a v h p is = only_known s _ v h p is
class_known OfBlock s a v h p is = only_known s _ v h p is
class_known OfConstant s a v h p is = constant_known s a v (names_file a.pair.name) h p is
class_known OfFlag s a v h p is = only_known s _ v h p is
class_known OfText s a v h p is = only_known s _ v h p is
class_known OfTextInStr s a v h p is = only_known s _ v h.value p is
class_known OfTextInLineStr s a v h p is = only_known s _ v h.value p is
class_known OfTextBySlot s a v h p is = only_known s _ v h.text.value p is
class_known OfUnitEntry s a v h p is = inl (s.unit + offset_of a, inl h.0, ref_is _ v h.1 p is)
class_known OfInfoEntry s a v h p is = inl (offset_of a, inr h.0, ref_is _ v h.1 p is)
class_known OfSignature s a v h p is = only_known s _ v h p is
class_known OfOffset s a v h p is = offset_known s a v (names_list a.pair.name) h p is
class_known {P} OfExpression s a v h p is = target_known s h.expression.operands (expr_named (expr_context s 1) h.expression _ _ h.spelled) p (subst (λ (w : Value P). In p w.refs) h.value is)
class_known OfListIndex s a v h p is = list_known s _ v h.list p is
class_known OfIndex s a v h p is = only_known s _ v h p is
class_known OfCommonEntry s a v h p is = inr (h.0, offset_of a, h.1, h.2.0, ref_is _ v h.2.1 p is)
class_known OfCommonText s a v h p is = only_known s _ v h.2.value p is
class_known Unread s a v h p is = absurd h

attrs_known : {P : Type 0} (s : MeaningContext P) (raw : List RawAttr) (attrs : List (Attr P)) → MeanAttrs s raw attrs → (a : Named P) → In a (map named_value attrs) → (p : P) → In p a.value.refs → KnownIn s p
attrs_known s [] [] h a is p r = absurd is
attrs_known {P} s (x ∷ raw) (b ∷ attrs) h a (inl e) p r = class_known (class_of x.pair.form) s x b.value h.0.value p (subst (λ (w : Named P). In p w.value.refs) (sym e) r)
attrs_known s (x ∷ raw) (b ∷ attrs) h a (inr y) p r = attrs_known s raw attrs h.1 a y p r
attrs_known s _ _ h a is p r = absurd h

seen_known : {P : Type 0} (s : MeaningContext P) (f : Forest RawEntry) (g : Entries P) → MeanEntries s f g → (e : Seen P) → In e (seen g) → (a : Named P) → In a e.attrs → (p : P) → In p a.value.refs → KnownIn s p
unfolding seen
seen_known s End End h e is a attr p r = absurd is
seen_known {P} s (Entry x f f') (Entry d g g') h e (inl y) a attr p r = attrs_known s (without_siblings x.attrs) d.attrs h.0.attrs a (subst (λ (w : Seen P). In a w.attrs) (sym y) attr) p r
seen_known s (Entry x f f') (Entry d g g') h e (inr y) a attr p r = elim (in_cases e (seen g) (seen g') y) [
  | inl b ↦ seen_known s f g h.1 e b a attr p r
  | inr c ↦ seen_known s f' g' h.2 e c a attr p r
]
seen_known s _ _ h e is a attr p r = absurd h

-- ---- the places of what units mean

tree_keys : {P : Type 0} (s : MeaningContext P) (f : Forest RawEntry) (g : Entries P) → MeanEntries s f g → keys g ≡ map s.around.place (places_in f)
unfolding keys places_in
tree_keys s End End h = refl
tree_keys {P} s (Entry e f f') (Entry d g g') h =
    let place = s.around.place in
    let a = tree_keys s f g h.1 in
    let b = tree_keys s f' g' h.2 in
    let c = h.0.place in
    (λ i. c i ∷ (a i ++ b i)) ∙ ap (λ (w : List P). place e.at ∷ w) (sym (map-append place (places_in f) (places_in f')))
tree_keys s _ _ h = absurd h

pub means_keys : {P : Type 0} (around : Around P) (raw : List RawUnit) (units : List (DwUnit P)) → MeanUnits around raw units → units_keys units ≡ map around.place (all_raw_keys raw)
unfolding units_keys unit_keys all_raw_keys
means_keys around [] [] h = refl
means_keys {P} around (u ∷ raw) (v ∷ units) h =
    let place = around.place in
    let a = tree_keys (scope_of around u) u.below v.below h.0.below in
    let b = means_keys around raw units h.1 in
    let c = h.0.place in
    let d = h.0.root.place in
    (λ i. c i ∷ d i ∷ (a i ++ b i)) ∙ ap (λ (w : List P). place u.at ∷ place u.root.at ∷ w) (sym (map-append place (places_in u.below) (all_raw_keys raw)))
means_keys around _ _ h = absurd h

-- ---- an entry stands at each place

abbrev pub StandsAt : {P : Type 0} → List (DwUnit P) → P → Type 0
StandsAt {P} units p = (d : Seen P) × In d (all_seen units) × (d.at ≡ p)

tree_stands : {P : Type 0} (s : MeaningContext P) (f : Forest RawEntry) (g : Entries P) → MeanEntries s f g → (n : ℕ) → In n (places_in f) → (d : Seen P) × In d (seen g) × (d.at ≡ s.around.place n)
unfolding seen places_in
tree_stands s End End h n is = absurd is
tree_stands s (Entry e f f') (Entry d g g') h n (inl x) = (see d g, inl refl, h.0.place ∙ ap s.around.place x)
tree_stands s (Entry e f f') (Entry d g g') h n (inr r) = elim (in_cases n (places_in f) (places_in f') r) [
  | inl a ↦ (let o = tree_stands s f g h.1 n a in (o.0, inr (in_left o.0 (seen g) (seen g') o.1), o.2))
  | inr b ↦ (let o = tree_stands s f' g' h.2 n b in (o.0, inr (in_right o.0 (seen g) (seen g') o.1), o.2))
]
tree_stands s _ _ h n is = absurd h

unit_stands : {P : Type 0} (around : Around P) (u : RawUnit) (v : DwUnit P) → MeansUnit around u v → (units : List (DwUnit P)) → In v units → (n : ℕ) → In n (places_of u) → StandsAt units (around.place n)
unit_stands around u v h units there n (inl x) = (see v.root v.below, root_seen units v there, h.root.place ∙ ap around.place x)
unit_stands around u v h units there n (inr r) = let o = tree_stands (scope_of around u) u.below v.below h.below n r in (o.0, entry_seen units v o.0 there o.1, o.2)

stands_in : {P : Type 0} (around : Around P) (raw : List RawUnit) (units whole : List (DwUnit P)) → MeanUnits around raw units → ((v : DwUnit P) → In v units → In v whole) → (n : ℕ) → In n (all_places raw)
    → StandsAt whole (around.place n)
unfolding all_places
stands_in around [] [] whole h into n is = absurd is
stands_in around (u ∷ raw) (v ∷ units) whole h into n is = elim (in_cases n (places_of u) (all_places raw) is) [
  | inl a ↦ unit_stands around u v h.0 whole (into v (inl refl)) n a
  | inr b ↦ stands_in around raw units whole h.1 (λ w there. into w (inr there)) n b
]
stands_in around _ _ whole h into n is = absurd h

pub place_stands : {P : Type 0} (around : Around P) (raw : List RawUnit) (units : List (DwUnit P)) → MeanUnits around raw units → (n : ℕ) → In n (all_places raw) → StandsAt units (around.place n)
place_stands around raw units h n is = stands_in around raw units units h (λ v there. there) n is

-- ---- what units name

pub record MeansIn {P : Type 0} (around : Around P) (raw : List RawUnit) (v : DwUnit P) : Type 0 where
  pub unit : RawUnit
  pub there : In unit raw
  pub means : MeansUnit around unit v

pub means_in : {P : Type 0} (around : Around P) (raw : List RawUnit) (units : List (DwUnit P)) → MeanUnits around raw units → (v : DwUnit P) → In v units → MeansIn around raw v
means_in around [] [] h v is = absurd is
means_in around (u ∷ raw) (w ∷ units) h v (inl x) = record { unit = u; there = inl refl; means = subst (MeansUnit around u) x h.0 }
means_in around (u ∷ raw) (w ∷ units) h v (inr r) = let o = means_in around raw units h.1 v r in record { unit = o.unit; there = inr o.there; means = o.means }
means_in around _ _ h v is = absurd h

own_place : (raw : List RawUnit) (u : RawUnit) → In u raw → (n : ℕ) → In n (places_of u) → In n (all_places raw)
unfolding all_places
own_place [] u h n is = absurd h
own_place (w ∷ raw) u (inl x) n is = in_left n (places_of w) (all_places raw) (subst (λ (y : RawUnit). In n (places_of y)) (sym x) is)
own_place (w ∷ raw) u (inr r) n is = in_right n (places_of w) (all_places raw) (own_place raw u r n is)

-- what is named in a file that has these entries: one of them, or one of the common file
abbrev pub NamedOf : {P : Type 0} → Around P → List (DwUnit P) → P → Type 0
NamedOf {P} around units p = StandsAt units p ⊎ ((c : Common P) × (n : ℕ) × (around.common ≡ Some c) × In n c.entries × (c.place n ≡ p))

module _ {P : Type 0} (around : Around P) (raw : List RawUnit) (units : List (DwUnit P)) (means : MeanUnits around raw units) (all : around.all ≡ all_places raw) where
  named_at : (u : RawUnit) → In u raw → (p : P) → KnownIn (scope_of around u) p → NamedOf around units p
  named_at u there p (inl (n, inl own, e)) = inl (subst (λ (q : P). StandsAt units q) e (place_stands around raw units means n (own_place raw u there n own)))
  named_at u there p (inl (n, inr other, e)) = inl (subst (λ (q : P). StandsAt units q) e (place_stands around raw units means n (subst (λ (w : List ℕ). In n w) all other)))
  named_at u there p (inr c) = inr c

  pub refs_named : (e : Seen P) (a : Named P) (p : P) → In e (all_seen units) → In a e.attrs → In p a.value.refs → NamedOf around units p
  refs_named e a p is attr r = elim (in_cases e (seen_roots units) (seen_below units) is) [
    | inl x ↦
        (let o = root_from units e x in
        let m = means_in around raw units means o.unit o.there in
        named_at m.unit m.there p (attrs_known (scope_of around m.unit) (without_siblings m.unit.root.attrs) o.unit.root.attrs m.means.root.attrs a (subst (λ (w : Seen P). In a w.attrs) (sym o.is) attr) p r))
    | inr y ↦
        (let o = seen_from units e y in
        let m = means_in around raw units means o.unit o.there in
        named_at m.unit m.there p (seen_known (scope_of around m.unit) m.unit.below o.unit.below m.means.below e o.is a attr p r))
  ]

-- ---- the type of a type unit is an entry of it

main_by : {P : Type 0} (around : Around P) (u : RawUnit) (v : DwUnit P) → MeansUnit around u v → (k : RawKind) → MeansKind (scope_of around u) k v.kind → (signature : ℕ) (main : P) → v.kind ≡ OfType signature main
    → In main (v.root.at ∷ keys v.below)
main_by around u v h CompileUnit kind signature main e = let same = sym kind ∙ e in absurd cc
main_by around u v h PartialUnit kind signature main e = let same = sym kind ∙ e in absurd cc
main_by {P} around u v h (TypeUnit number offset) kind signature main e =
    let same : OfType number (around.place (u.at + offset)) ≡ OfType signature main = sym kind.1 ∙ e in
    let main_is : around.place (u.at + offset) ≡ main = cc in
    let below = tree_keys (scope_of around u) u.below v.below h.below in
    let root = h.root.place in
    let own : map around.place (places_of u) ≡ v.root.at ∷ keys v.below = λ i. sym root i ∷ sym below i in
    subst (λ (p : P). In p (v.root.at ∷ keys v.below)) main_is (subst (λ (ps : List P). In (around.place (u.at + offset)) ps) own (in_map around.place (u.at + offset) (places_of u) kind.0))

pub read_mains : {P : Type 0} (around : Around P) (raw : List RawUnit) (units : List (DwUnit P)) → MeanUnits around raw units → HaveMains units
read_mains around raw units means u is signature main e = let m = means_in around raw units means u is in main_by around m.unit u m.means m.unit.kind m.means.kind signature main e

-- ---- a finished common file has partial units alone

record SpelledIn (abbrevs : List ℕ) (mode : Mode) (u : RawUnit) : Type 0 where
  before : ℕ
  start : ℕ
  bytes : List ℕ
  spelled : SpellsUnit abbrevs mode before u start bytes

spelled_in : (abbrevs : List ℕ) (mode : Mode) (before : ℕ) (raw : List RawUnit) (start : ℕ) (bytes : List ℕ) → SpellsUnits abbrevs mode before raw start bytes → (u : RawUnit) → In u raw → SpelledIn abbrevs mode u
spelled_in abbrevs mode before [] start bytes is u h = absurd h
spelled_in abbrevs mode before (w ∷ raw) start bytes is u (inl x) =
    record { before = before; start = start; bytes = is.first_bytes; spelled = subst (λ (y : RawUnit). SpellsUnit abbrevs mode before y start is.first_bytes) x is.first }
spelled_in abbrevs mode before (w ∷ raw) start bytes is u (inr r) = spelled_in abbrevs mode (before + entry_count w) raw (start + length is.first_bytes) is.second_bytes is.second u r

third_is_partial : (type : ℕ) (bytes : List ℕ) → type ≡ 3 → kind_by (type == 2) (type == 3) bytes ≡ PartialUnit
third_is_partial type bytes e = ap (λ (n : ℕ). kind_by (n == 2) (n == 3) bytes) e

read_partial : (mode : Mode) → mode.whole ≡ false → (type : ℕ) (bytes : List ℕ) → is_read mode type ≡ true → kind_by (type == 2) (type == 3) bytes ≡ PartialUnit
read_partial mode none type bytes read = elim (or_cases (mode.whole && (type == 1 || type == 2)) (mode.partial && type == 3) read) [
  | inl whole ↦ (let e : (false && (type == 1 || type == 2)) ≡ true = ap (λ (b : Bool). b && (type == 1 || type == 2)) (sym none) ∙ whole in absurd cc)
  | inr three ↦ third_is_partial type bytes (eqb-true type 3 (and_parts mode.partial (type == 3) three).1)
]

partial_kind : {P : Type 0} (s : MeaningContext P) (k : RawKind) (kind : Kind P) → MeansKind s k kind → k ≡ PartialUnit → IsPartial kind
partial_kind s CompileUnit kind h e = absurd cc
partial_kind s PartialUnit kind h e = subst IsPartial (sym h) tt
partial_kind s (TypeUnit signature type_offset) kind h e = absurd cc

pub all_partial : {P : Type 0} (around : Around P) (raw : List RawUnit) (units : List (DwUnit P)) (abbrevs : List ℕ) (mode : Mode) (info : List ℕ) → mode.whole ≡ false → SpellsUnits abbrevs mode 0 raw 0 info
    → MeanUnits around raw units → (u : DwUnit P) → In u units → IsPartial u.kind
all_partial around raw units abbrevs mode info none spelled means u is =
    let m = means_in around raw units means u is in
    let s = spelled_in abbrevs mode 0 raw 0 info spelled m.unit m.there in
    let header = s.spelled.is_header in
    partial_kind (scope_of around m.unit) m.unit.kind u.kind m.means.kind (header.of_kind ∙ read_partial mode none (unit_type s.spelled.header) s.spelled.header header.unit_type)
