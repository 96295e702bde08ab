-- A value is a file with a path exactly where its name and form are those of a number of a file and its unit has a line table; so it is
-- of entries, and of tops.
use Rattle.std.proofs.Common.{◌≡◌, ℕ, ℤ, ◌==◌, ◌&&◌, ◌||◌, cond, Bool, true, false, List, [], ◌∷◌, map, Option, Some, None, Ok, refl, sym, ap, ◌∙◌, eqb-true}
use Rattle.std.specs.Option.{is_some}
use Rattle.std.specs.List.{list_any}
use Rattle.dwz_def_reading.specs.Entries.{RawAttr}
use Rattle.dwz_def_tops.specs.Alike.{any_attr}
use Rattle.dwz_def_tops.specs.Spots.{EntryName}
use Rattle.dwz_def_reading.specs.Documents.{Attr, Node, Value, attr_map, node_map, only, Sec}
use Rattle.dwz_def_reading.specs.Meanings.{IfSo, IsFileBy, IsFileNumber, IsLocList, MeanAttrs, MeansAs, MeaningContext, constant_value, number_of, offset_of, stmt_list, without_siblings}
use Rattle.dwz_def_reading.specs.Classes.{OfAddress, OfBlock, OfCommonEntry, OfCommonText, OfConstant, OfExpression, OfFlag, OfIndex}
use Rattle.dwz_def_reading.specs.Classes.{Class}
use Rattle.dwz_def_reading.specs.Classes.{OfInfoEntry, OfListIndex, OfOffset, OfSignature, OfText, OfTextBySlot, OfTextInLineStr, OfTextInStr, OfUnitEntry, Unread}
use Rattle.dwz_def_reading.specs.Classes.{class_of}
use Rattle.dwz_def_reading.specs.Classes.{names_file, names_list}
use Rattle.dwz_def_reading.specs.Meant.{node_meaning}
use Rattle.dwz_def_reading.proofs.MeaningUnits.{node_agrees}
use Rattle.dwz_def_images.specs.Moves.{has_path}
use Rattle.dwz_layout_numbers.specs.Befores.{is_constant, is_pair_file}
use Rattle.dwz_graph.specs.Rows.{RowsMean}
use Rattle.dwz_unit.specs.Rows.{EntryRow}
use Rattle.dwz_layout_input.specs.Roots.{numbers_file}

-- ---- a value

path_is : (v w : Value ℕ) → v ≡ w → has_path v.plain ≡ has_path w.plain
path_is v w e = ap (λ (x : Value ℕ). has_path x.plain) e

file_path : (s : MeaningContext ℕ) (o : Option ℕ) (number : ℤ) (v : Value ℕ) → IsFileBy o s number v → has_path v.plain ≡ is_some o
file_path s None number v h = path_is v _ h.1
file_path s (Some place) number v h = path_is v _ h.value

constant_path : (s : MeaningContext ℕ) (a : RawAttr) (v : Value ℕ) (b : Bool) → IfSo b (IsFileNumber s a v) (v ≡ constant_value a) → has_path v.plain ≡ (b && is_some (stmt_list s))
constant_path s a v true h = file_path s (stmt_list s) (number_of a.raw) v h
constant_path s a v false h = path_is v _ h

offset_path : (s : MeaningContext ℕ) (a : RawAttr) (v : Value ℕ) (b : Bool) → IfSo b (IsLocList s (offset_of a) v) (v ≡ only (Sec (offset_of a))) → has_path v.plain ≡ false
offset_path s a v true h = path_is v _ h.value
offset_path s a v false h = path_is v _ h

class_path : (c : Class) (s : MeaningContext ℕ) (a : RawAttr) (v : Value ℕ) → MeansAs c s a v → has_path v.plain ≡ ((is_constant c && names_file a.pair.name) && is_some (stmt_list s))
class_path OfAddress s a v h = path_is v _ h
class_path OfBlock s a v h = path_is v _ h
class_path OfConstant s a v h = constant_path s a v (names_file a.pair.name) h
class_path OfFlag s a v h = path_is v _ h
class_path OfText s a v h = path_is v _ h
class_path OfTextInStr s a v h = path_is v _ h.value
class_path OfTextInLineStr s a v h = path_is v _ h.value
class_path OfTextBySlot s a v h = path_is v _ h.text.value
class_path OfUnitEntry s a v h = path_is v _ h.1
class_path OfInfoEntry s a v h = path_is v _ h.1
class_path OfSignature s a v h = path_is v _ h
class_path OfOffset s a v h = offset_path s a v (names_list a.pair.name) h
class_path OfExpression s a v h = path_is v _ h.value
class_path OfListIndex s a v h = path_is v _ h.list.value
class_path OfIndex s a v h = path_is v _ h
class_path OfCommonEntry s a v h = path_is v _ h.2.1
class_path OfCommonText s a v h = path_is v _ h.2.value
class_path Unread s a v h = absurd h

-- ---- an entry

abbrev pub attr_path : {P : Type 0} → Attr P → Bool
attr_path a = has_path a.value.plain

abbrev file_attr : RawAttr → Bool
file_attr a = is_pair_file a.pair

or_and : (a b l : Bool) → ((a && l) || (b && l)) ≡ ((a || b) && l)
or_and true true true = refl
or_and true true false = refl
or_and true false true = refl
or_and true false false = refl
or_and false true l = refl
or_and false false l = refl

and_false : (a : Bool) → (a && false) ≡ false
and_false true = refl
and_false false = refl

-- a sibling is no number of a file
not_sibling : (a : RawAttr) → a.pair.name ≡ 0x01 → file_attr a ≡ false
not_sibling a e = ap (λ (n : ℕ). is_constant (class_of a.pair.form) && names_file n) e ∙ and_false (is_constant (class_of a.pair.form))

attrs_path : (s : MeaningContext ℕ) (raw : List RawAttr) (attrs : List (Attr ℕ)) → MeanAttrs s (without_siblings raw) attrs
    → list_any attr_path attrs ≡ (list_any file_attr raw && is_some (stmt_list s))
unfolding without_siblings
attrs_path s [] [] h = refl
attrs_path s [] (b ∷ attrs) h = absurd h
attrs_path s (a ∷ raw) attrs h = go (attrs_path s raw) (a.pair.name == 0x01) refl attrs h where
  go : ((attrs : List (Attr ℕ)) → MeanAttrs s (without_siblings raw) attrs → list_any attr_path attrs ≡ (list_any file_attr raw && is_some (stmt_list s))) → (t : Bool) → (a.pair.name == 0x01) ≡ t
      → (attrs : List (Attr ℕ)) → MeanAttrs s (cond t (without_siblings raw) (a ∷ without_siblings raw)) attrs
      → list_any attr_path attrs ≡ ((file_attr a || list_any file_attr raw) && is_some (stmt_list s))
  go rest true e attrs h = rest attrs h ∙ sym (ap (λ (b : Bool). (b || list_any file_attr raw) && is_some (stmt_list s)) (not_sibling a (eqb-true a.pair.name 0x01 e)))
  go rest false e [] h = absurd h
  go rest false e (b ∷ attrs) h =
      (λ i. class_path (class_of a.pair.form) s a b.value h.0.value i || rest attrs h.1 i)
      ∙ or_and (file_attr a) (list_any file_attr raw) (is_some (stmt_list s))

named_path : (name : ℕ → EntryName) (attrs : List (Attr ℕ)) → list_any attr_path (map (attr_map name) attrs) ≡ list_any attr_path attrs
named_path name [] = refl
named_path name (a ∷ attrs) = ap (λ (b : Bool). attr_path a || b) (named_path name attrs)

pub node_path : (s : MeaningContext ℕ) (row : EntryRow) (d : Node ℕ) (name : ℕ → EntryName) → node_meaning s row.entry ≡ Ok d
    → any_attr attr_path (node_map name d) ≡ (numbers_file row && is_some (stmt_list s))
node_path s row d name e = named_path name d.attrs ∙ attrs_path s row.entry.attrs d.attrs (((node_agrees s row.entry).ok d).0 e).attrs

-- entries one behind the other
pub rows_path : (s : MeaningContext ℕ) (rows : List EntryRow) (ds : List (Node ℕ)) (name : ℕ → EntryName) → RowsMean s rows ds → list_any (any_attr attr_path) (map (node_map name) ds)
    ≡ (list_any numbers_file rows && is_some (stmt_list s))
rows_path s [] [] name h = refl
rows_path s [] (d ∷ ds) name h = absurd h
rows_path s (row ∷ rows) [] name h = absurd h
rows_path s (row ∷ rows) (d ∷ ds) name h = (λ i. node_path s row d name h.0 i || rows_path s rows ds name h.1 i) ∙ or_and (numbers_file row) (list_any numbers_file rows) (is_some (stmt_list s))
