-- What a file says beside a common file it says by itself, where none of its forms leads to that.
use Rattle.std.proofs.Common.{◌≡◌, ℕ, ℤ, Bool, true, false, List, [], ◌∷◌, ◌==◌, cond, Option, Some, None, refl, sym, ap, ◌∙◌, inl, inr}
use Rattle.std.specs.List.{list_all}
use Rattle.std.proofs.lemmas.Bool.{eqb-true}
use Rattle.dwz_def_reading.specs.Rows.{has}
use Rattle.dwz_def_reading.specs.Lists.{Each}
use Rattle.dwz_def_reading.specs.Classes.{Class, OfAddress, OfBlock, OfCommonEntry, OfCommonText, OfConstant, OfExpression, OfFlag, OfIndex, OfInfoEntry, OfListIndex, OfOffset, OfSignature}
use Rattle.dwz_def_reading.specs.Classes.{OfText, OfTextBySlot, OfTextInLineStr, OfTextInStr, OfUnitEntry, Unread, class_of, class_rows, names_file, names_list}
use Rattle.dwz_def_reading.specs.Documents.{Attr, DwUnit, Entries, Kind, Node, Sec, Value, only}
use Rattle.dwz_def_reading.specs.Entries.{RawAttr, RawEntry}
use Rattle.dwz_def_reading.specs.Finished.{around_in}
use Rattle.dwz_def_reading.specs.Files.{sources_of}
use Rattle.dwz_def_reading.specs.Meanings.{Around, Common, IfSo, IsFileBy, IsLocList, MeanAttrs, MeanEntries, MeanUnits, MeaningContext, MeansAs, MeansKind, MeansNode, all_places}
use Rattle.dwz_def_reading.specs.Meanings.{constant_value, number_of, offset_of, scope_of, stmt_list, without_siblings}
use Rattle.dwz_def_reading.specs.Places.{Place, at_file}
use Rattle.dwz_def_reading.specs.Trees.{EachEntry, End, Entry, Forest, Position, behind, first_below}
use Rattle.dwz_def_reading.specs.Units.{CompileUnit, PartialUnit, RawKind, RawUnit, TypeUnit, root_tag}
use Rattle.dwz_def_readback.specs.Back.{SaysUnits}
use Rattle.dwz_def_readback.proofs.StillLists.{still_none}
use Rattle.dwz_law_cross.specs.ReadLaws.{AllMayStand, IsFormOfBack, MayStand}
use Rattle.dwz_law_cross.proofs.ChosenForms.{IsOwn, told}

-- ---- classes of forms that lead to a common file

abbrev is_lead : Class → Bool
is_lead OfCommonEntry = true
is_lead OfCommonText = true
is_lead _ = false

leads_as : ℕ → Class → Bool
leads_as form c = cond (is_lead c) (has form (0x1c ∷ 0x1d ∷ [])) true

all_lead : list_all (λ r. leads_as r.form r.class) class_rows ≡ true
unfolding class_rows has leads_as
all_lead = refl

of_two : (form : ℕ) → has form (0x1c ∷ 0x1d ∷ []) ≡ true → IsOwn form → ⊥
unfolding has
of_two form is own = by (0x1c == form) (0x1d == form) refl refl is where
  by : (a b : Bool) → (0x1c == form) ≡ a → (0x1d == form) ≡ b → cond a true (cond b true false) ≡ true → ⊥
  by true b x y h = own.0 (sym (eqb-true 0x1c form x))
  by false true x y h = own.1 (sym (eqb-true 0x1d form y))
  by false false x y h = cc

not_lead : (form : ℕ) → IsOwn form → (c : Class) → class_of form ≡ c → is_lead c ≡ true → ⊥
unfolding leads_as
not_lead form own c e is = elim (told leads_as class_rows form all_lead) [
  | inl u ↦ (let no_ : is_lead Unread ≡ true = ap is_lead (sym u ∙ e) ∙ is in cc)
  | inr h ↦ of_two form (sym (ap (λ (b : Bool). cond b (has form (0x1c ∷ 0x1d ∷ [])) true) (ap is_lead e ∙ is)) ∙ h) own
]

-- ---- values

abbrev alone : {P : Type 0} → Around P → Around P
alone around = record { sources = around.sources; all = around.all; place = around.place; common = None }

module _ {P : Type 0} (s : MeaningContext P) where
  abbrev t : MeaningContext P
  t = record { around = alone s.around; unit = s.unit; root = s.root; own = s.own }

  file_too : (o : Option ℕ) (number : ℤ) (v : Value P) → IsFileBy o s number v → IsFileBy o t number v
  file_too None number v h = h
  file_too (Some place) number v h = record { table = h.table; stands = h.stands; path = h.path; is_path = h.is_path; value = h.value }

  constant_too : (b : Bool) (a : RawAttr) (v : Value P) → IfSo b (IsFileBy (stmt_list s) s (number_of a.raw) v) (v ≡ constant_value a)
      → IfSo b (IsFileBy (stmt_list s) t (number_of a.raw) v) (v ≡ constant_value a)
  constant_too true a v h = file_too (stmt_list s) (number_of a.raw) v h
  constant_too false a v h = h

  list_too : (place : ℕ) (v : Value P) → IsLocList s place v → IsLocList t place v
  list_too place v h = record { list = h.list; within = h.within; stands = h.stands; value = h.value }

  offset_too : (b : Bool) (a : RawAttr) (v : Value P) → IfSo b (IsLocList s (offset_of a) v) (v ≡ only (Sec (offset_of a))) → IfSo b (IsLocList t (offset_of a) v) (v ≡ only (Sec (offset_of a)))
  offset_too true a v h = list_too (offset_of a) v h
  offset_too false a v h = h

  as_too : (c : Class) (a : RawAttr) (v : Value P) → (is_lead c ≡ true → ⊥) → MeansAs c s a v → MeansAs c t a v
  as_too OfAddress a v none h = h
  as_too OfBlock a v none h = h
  as_too OfConstant a v none h = constant_too (names_file a.pair.name) a v h
  as_too OfFlag a v none h = h
  as_too OfText a v none h = h
  as_too OfTextInStr a v none h = h
  as_too OfTextInLineStr a v none h = h
  as_too OfTextBySlot a v none h = record { base = h.base; is_base = h.is_base; offset = h.offset; slot = h.slot; text = h.text }
  as_too OfUnitEntry a v none h = h
  as_too OfInfoEntry a v none h = h
  as_too OfSignature a v none h = h
  as_too OfOffset a v none h = offset_too (names_list a.pair.name) a v h
  as_too OfExpression a v none h = record { expression = h.expression; spelled = h.spelled; value = h.value }
  as_too OfListIndex a v none h = record { base = h.base; is_base = h.is_base; offset = h.offset; slot = h.slot; list = list_too _ v h.list }
  as_too OfIndex a v none h = h
  as_too OfCommonEntry a v none h = absurd (none refl)
  as_too OfCommonText a v none h = absurd (none refl)
  as_too Unread a v none h = absurd h

  abbrev Owns : List RawAttr → Type 0
  Owns attrs = Each (λ a. IsOwn a.pair.form) attrs

  without_too : (attrs : List RawAttr) → Owns attrs → Owns (without_siblings attrs)
  unfolding without_siblings
  without_too [] own = tt
  without_too (a ∷ attrs) own = by (a.pair.name == 0x01) (without_too attrs own.1) where
    by : (b : Bool) → Owns (without_siblings attrs) → Owns (cond b (without_siblings attrs) (a ∷ without_siblings attrs))
    by true rest = rest
    by false rest = (own.0, rest)

  attrs_too : (raw : List RawAttr) (attrs : List (Attr P)) → Owns raw → MeanAttrs s raw attrs → MeanAttrs t raw attrs
  attrs_too [] [] own h = tt
  attrs_too (a ∷ raw) (b ∷ attrs) own h = (
    record { name = h.0.name; form = h.0.form; raw = h.0.raw; value = as_too (class_of a.pair.form) a b.value (not_lead a.pair.form own.0 (class_of a.pair.form) refl) h.0.value },
    attrs_too raw attrs own.1 h.1,
  )
  attrs_too [] (b ∷ attrs) own h = absurd h
  attrs_too (a ∷ raw) [] own h = absurd h

  node_too : (e : RawEntry) (d : Node P) → Owns e.attrs → MeansNode s e d → MeansNode t e d
  node_too e d own h = record { place = h.place; tag = h.tag; attrs = attrs_too (without_siblings e.attrs) d.attrs (without_too e.attrs own) h.attrs }

  may_own : (tag : ℕ) (root : Bool) (attrs : List RawAttr) → Each (λ a. IsFormOfBack false tag root a.pair.form) attrs → Owns attrs
  may_own tag root [] h = tt
  may_own tag root (a ∷ attrs) h = (h.0.alone refl, may_own tag root attrs h.1)

  entries_too : (tag : ℕ) (p : Position) (k : Forest RawEntry) (g : Entries P) → EachEntry (MayStand (IsFormOfBack false) tag) p k → MeanEntries s k g → MeanEntries t k g
  entries_too tag p End End own h = tt
  entries_too tag p (Entry e k l) (Entry d g m) own h = (
    node_too e d (may_own tag (p.depth == 1) e.attrs own.0.forms) h.0,
    entries_too tag (first_below p) k g own.1 h.1,
    entries_too tag (behind p k) l m own.2 h.2,
  )
  entries_too tag p End (Entry d g m) own h = absurd h
  entries_too tag p (Entry e k l) End own h = absurd h

  kind_too : (k : RawKind) (m : Kind P) → MeansKind s k m → MeansKind t k m
  kind_too CompileUnit m h = h
  kind_too PartialUnit m h = h
  kind_too (TypeUnit signature type_offset) m h = h

units_too : {P : Type 0} (around : Around P) (raw : List RawUnit) (units : List (DwUnit P)) → AllMayStand (IsFormOfBack false) raw → MeanUnits around raw units → MeanUnits (alone around) raw units
units_too around [] [] own h = tt
units_too around (u ∷ raw) (v ∷ units) own h =
    let s = scope_of around u in (
      record {
        place = h.0.place;
        kind = kind_too s u.kind v.kind h.0.kind;
        root = node_too s u.root v.root (may_own s (root_tag u.kind) true u.root.attrs own.0.0.forms) h.0.root;
        below = entries_too s (root_tag u.kind) (record { before = 1; depth = 2 }) u.below v.below own.0.1 h.0.below;
      },
      units_too around raw units own.1 h.1,
    )
units_too around [] (v ∷ units) own h = absurd h
units_too around (u ∷ raw) [] own h = absurd h

-- so it is with a file
pub by_itself : (common : Option (Common Place)) (number : ℕ) (bytes : List ℕ) (raw : List RawUnit) (units : List (DwUnit Place)) → SaysUnits common number bytes raw units
    → AllMayStand (IsFormOfBack false) raw
    → SaysUnits None number bytes raw units
by_itself common number bytes raw units says own = record {
  elf = says.elf;
  mode = says.mode;
  whole = says.whole;
  partial = says.partial;
  forms = says.forms;
  spelled = says.spelled;
  means = units_too (around_in common number bytes raw) raw units own says.means;
  ranges = says.ranges;
  lists = still_none (sources_of bytes) (all_places raw) (at_file number) None (at_file number) common raw says.lists;
}
