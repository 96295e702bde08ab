-- Each reference takes a byte of `.debug_info` at least, so there are no more of them than bytes.
use Rattle.std.proofs.Common.{◌≡◌, ℕ, ◌+◌, ◌<◌, ◌≤◌, Bool, true, false, List, [], ◌∷◌, ◌++◌, length, suc, Option, None, Some, Result, Ok, Err, refl, sym, ap, subst, ◌∙◌, arith}
use Rattle.std.specs.Prelude.{ℤ, ◌==◌, ◌||◌, ◌&&◌, not, if◌then◌else◌}
use Rattle.std.specs.List.{filter, list_all}
use Rattle.std.proofs.lemmas.Bool.{eqb-true, false≢true}
use Rattle.std.proofs.lemmas.List.{length-append, length-map}
use Rattle.dwz_def_reading.specs.Input.{input}
use Rattle.dwz_def_reading.proofs.PaddedLemmas.{some_groups}
use Rattle.dwz_def_reading.specs.Shape.{Shape}
use Rattle.dwz_def_reading.specs.Shape.TheVariants.{Nothing, Refused, Fixed1, Fixed2, Fixed3, Fixed4, Fixed8, Fixed16, Uleb, Sleb, ZeroEnded, Block1, Block2, Block4, BlockUleb, Address}
use Rattle.dwz_def_reading.specs.Forms.{form_rows}
use Rattle.dwz_def_reading.specs.Modes.{forms_with, free_forms}
use Rattle.dwz_def_reading.specs.Rows.{RowView, has}
use Rattle.dwz_model.specs.declared.fault.Fault.{Fault}
use Rattle.dwz_model.specs.declared.place.Pair.{Pair}
use Rattle.dwz_def_reading.specs.Entries.{IsAttr, Mode, RawAttr, RawEntry, SpellsAttrs, SpellsEntry, root_position, SpellsFront, UnitContext, codes_of_common}
use Rattle.dwz_def_reading.specs.Trees.{End, Entry, Forest, IfChildren, Position, SpellsForest}
use Rattle.dwz_def_reading.specs.Units.{RawUnit, SpellsUnit, SpellsUnits, units_at}
use Rattle.dwz_def_reading.specs.Values.{Raw, constant_of, SpellsShape, SpellsValue, shape_of, written_rows}
use Rattle.dwz_def_reading.proofs.UnitListLemmas.{units_found}
use Rattle.dwz_def_reading.proofs.CaseFacts.{and_left}
use Rattle.dwz_def_reading.specs.Documents.{Kind, Sec, Value, only}
use Rattle.dwz_def_reading.specs.declared.exprs.Operand.{Operand}
use Rattle.dwz_def_reading.specs.Exprs.{most_inside}
use Rattle.dwz_def_reading.specs.Meanings.{Around, IfSo, IsExpression, IsFileBy, IsFileNumber, IsLocList, MeansAs}
use Rattle.dwz_def_reading.specs.Classes.{OfAddress, OfBlock, OfCommonEntry, OfCommonText, OfConstant}
use Rattle.dwz_def_reading.specs.Classes.{Class, ClassRow}
use Rattle.dwz_def_reading.specs.Meanings.{MeaningContext}
use Rattle.dwz_def_reading.specs.Classes.{OfExpression, OfFlag, OfIndex, OfInfoEntry, OfListIndex, OfOffset, OfSignature, OfText, OfTextBySlot, OfTextInLineStr, OfTextInStr, OfUnitEntry, Unread}
use Rattle.dwz_def_reading.specs.Meanings.{block_begins, bytes_of, constant_value, expr_context, number_of, offset_of}
use Rattle.dwz_def_reading.specs.Classes.{class_in, class_of, class_rows, names_file, names_list}
use Rattle.dwz_def_reading.specs.Meant.{kind_meaning, meaning}
use Rattle.dwz_def_reading.specs.Meanings.{scope_of, stmt_list, target_of}
use Rattle.dwz_def_reading.specs.NamedLists.{list_of_attr}
use Rattle.dwz_def_reading.specs.Shared.{NamedList}
use Rattle.dwz_def_reading.proofs.CutLemmas.{Lie}
use Rattle.dwz_def_reading.proofs.MeaningLemmas.{value_agrees}
use Rattle.dwz_def_reading.proofs.StandLemmas.{within_stands}
use Rattle.dwz_graph_resolve.specs.Named.{Found, and_then, attr_named, collect, entry_named, found_in, joined, kind_named, map_ok, nothing_found, preorder, unit_named, units_named, value_refs}
use Rattle.dwz_graph_resolve.proofs.NamedLemmas.{collect_append}
use Rattle.dwz_unit.specs.Modes.{forms_of, mode_of}
use Rattle.dwz_unit.specs.Rows.{Source, or_none, units_of}
use Rattle.dwz_unit.specs.declared.mode.FileKind.{FileKind}
use Rattle.dwz_unit.specs.declared.mode.FileKind.TheVariants.{Given, Common as CommonFile, Back}

-- ---- values that have a byte

-- a value of that shape has a byte, if there is one
abbrev takes : Shape → Bool
takes Refused = true
takes Fixed1 = true
takes Fixed2 = true
takes Fixed3 = true
takes Fixed4 = true
takes Fixed8 = true
takes Uleb = true
takes _ = false

shape_takes : (shape : Shape) (number : ℤ) (bytes : List ℕ) (raw : Raw) → takes shape ≡ true → SpellsShape shape number bytes raw → 0 < length bytes
shape_takes Refused number bytes raw e s = absurd s
shape_takes Fixed1 number bytes raw e s = let len = s.spelled.len in omega arith
shape_takes Fixed2 number bytes raw e s = let len = s.spelled.len in omega arith
shape_takes Fixed3 number bytes raw e s = let len = s.spelled.len in omega arith
shape_takes Fixed4 number bytes raw e s = let len = s.spelled.len in omega arith
shape_takes Fixed8 number bytes raw e s = let len = s.spelled.len in omega arith
shape_takes Uleb number bytes raw e s = some_groups bytes s.spelled.groups
shape_takes _ number bytes raw e s = absurd (false≢true e)

-- the bytes of a value are some of those that spell it
shape_holds : (shape : Shape) (number : ℤ) (bytes : List ℕ) (raw : Raw) → SpellsShape shape number bytes raw → length (bytes_of raw) ≤ length bytes
shape_holds Nothing number bytes raw s = let none = ap (λ (r : Raw). length (bytes_of r)) s.value in omega arith
shape_holds Fixed1 number bytes raw s = let none = ap (λ (r : Raw). length (bytes_of r)) s.value in omega arith
shape_holds Fixed2 number bytes raw s = let none = ap (λ (r : Raw). length (bytes_of r)) s.value in omega arith
shape_holds Fixed3 number bytes raw s = let none = ap (λ (r : Raw). length (bytes_of r)) s.value in omega arith
shape_holds Fixed4 number bytes raw s = let none = ap (λ (r : Raw). length (bytes_of r)) s.value in omega arith
shape_holds Fixed8 number bytes raw s = let none = ap (λ (r : Raw). length (bytes_of r)) s.value in omega arith
shape_holds Fixed16 number bytes raw s = let one = ap (λ (r : Raw). length (bytes_of r)) s.value in let same = ap (λ (w : List ℕ). length w) s.spelled.same in omega arith
shape_holds Uleb number bytes raw s = let none = ap (λ (r : Raw). length (bytes_of r)) s.value in omega arith
shape_holds Sleb number bytes raw s = let none = ap (λ (r : Raw). length (bytes_of r)) s.value in omega arith
shape_holds ZeroEnded number bytes raw s = let one = ap (λ (r : Raw). length (bytes_of r)) s.value in let parts = ap (λ (w : List ℕ). length w) s.spelled.parts in let both =
    length-append s.content (0 ∷ []) in omega arith
shape_holds Block1 number bytes raw s = let one = ap (λ (r : Raw). length (bytes_of r)) s.value in let parts = ap (λ (w : List ℕ). length w) s.spelled.parts in let both =
    length-append s.spelled.front s.content in omega arith
shape_holds Block2 number bytes raw s = let one = ap (λ (r : Raw). length (bytes_of r)) s.value in let parts = ap (λ (w : List ℕ). length w) s.spelled.parts in let both =
    length-append s.spelled.front s.content in omega arith
shape_holds Block4 number bytes raw s = let one = ap (λ (r : Raw). length (bytes_of r)) s.value in let parts = ap (λ (w : List ℕ). length w) s.spelled.parts in let both =
    length-append s.spelled.front s.content in omega arith
shape_holds BlockUleb number bytes raw s = let one = ap (λ (r : Raw). length (bytes_of r)) s.value in let parts = ap (λ (w : List ℕ). length w) s.spelled.parts in let both =
    length-append s.spelled.front s.content in omega arith
shape_holds Address number bytes raw s = let none = ap (λ (r : Raw). length (bytes_of r)) s.value in omega arith
shape_holds _ number bytes raw s = absurd s

-- ---- forms that name an entry

abbrev names_one : Class → Bool
names_one OfUnitEntry = true
names_one OfInfoEntry = true
names_one OfCommonEntry = true
names_one _ = false

abbrev takes_if : List RowView → ClassRow → Bool
takes_if forms r = not (names_one r.class) || takes (shape_of forms r.form)

-- each value that names an entry has a byte, in these forms
abbrev AllTake : List RowView → Type 0
AllTake forms = list_all (takes_if forms) class_rows ≡ true

own_take : AllTake form_rows
unfolding class_rows form_rows
own_take = refl

written_take : AllTake written_rows
unfolding class_rows form_rows
written_take = refl

free_take : (sup : Bool) → AllTake (free_forms (forms_with sup))
unfolding class_rows form_rows has
free_take true = refl
free_take false = refl

common_take : (is_root : Bool) → AllTake (filter (λ row. has row.code (codes_of_common is_root)) form_rows)
unfolding class_rows form_rows has
common_take true = refl
common_take false = refl

with_take : (sup : Bool) → AllTake (forms_with sup)
with_take true = written_take
with_take false = own_take

kind_take : (kind : FileKind) (tag : ℕ) (is_root : Bool) → AllTake (forms_of kind tag is_root)
kind_take Given tag is_root = own_take
kind_take CommonFile tag is_root = common_take is_root
kind_take (Back sup) tag true = with_take sup
kind_take (Back sup) tag false = by (tag == 0x3c) where
  by : (b : Bool) → AllTake (if b then free_forms (forms_with sup) else forms_with sup)
  by true = free_take sup
  by false = with_take sup

second : (a b : Bool) → (a && b) ≡ true → b ≡ true
second true b e = e
second false b e = absurd (false≢true e)

must : (a b : Bool) → (not a || b) ≡ true → a ≡ true → b ≡ true
must true b e t = e
must false b e t = absurd (false≢true t)

class_takes : (forms : List RowView) (rows : List ClassRow) (form : ℕ) → list_all (takes_if forms) rows ≡ true → names_one (class_in rows form) ≡ true → takes (shape_of forms form) ≡ true
unfolding class_in
class_takes forms [] form all one = absurd (false≢true one)
class_takes forms (r ∷ rows) form all one = by (r.form == form) refl (class_takes forms rows form (second (takes_if forms r) (list_all (takes_if forms) rows) all)) where
  by : (b : Bool) → (r.form == form) ≡ b → (names_one (class_in rows form) ≡ true → takes (shape_of forms form) ≡ true) → takes (shape_of forms form) ≡ true
  by true same later =
      let here : names_one r.class ≡ true = ap (λ (b : Bool). names_one (if b then r.class else class_in rows form)) (sym same) ∙ one in
      ap (λ (n : ℕ). takes (shape_of forms n)) (sym (eqb-true r.form form same)) ∙ must (names_one r.class) (takes (shape_of forms r.form)) (and_left (takes_if forms r) (list_all (takes_if forms) rows) all)
      here
  by false other later = later (ap (λ (b : Bool). names_one (if b then r.class else class_in rows form)) (sym other) ∙ one)

-- ---- a value

lie_many : (os : List Operand) (from to : ℕ) → Lie from to os → from + length os ≤ to
lie_many [] from to h = omega (arith, h)
lie_many (o ∷ os) from to h = let rest = lie_many os (o.at + o.width) to h.2 in let low = h.0 in let some = h.1 in omega arith

no_refs : (v w : Value ℕ) (n : ℕ) → v ≡ w → value_refs w ≡ [] → length (value_refs v) ≤ n
no_refs v w n same none = let e = ap (λ (x : Value ℕ). length (value_refs x)) same ∙ ap (λ (x : List ℕ). length x) none in omega arith

module _ (forms : List RowView) (take : AllTake forms) (s : MeaningContext ℕ) (pair : Pair) (a : RawAttr) (start : ℕ) (bytes : List ℕ) (is : IsAttr forms pair a start bytes) where
  spelled : SpellsShape (shape_of forms a.pair.form) (constant_of a.pair) bytes a.raw
  spelled = subst (λ (p : Pair). SpellsValue forms p bytes a.raw) (sym is.same) is.value

  one_takes : (k : Class) → class_of a.pair.form ≡ k → names_one k ≡ true → 0 < length bytes
  one_takes k e one = shape_takes (shape_of forms a.pair.form) (constant_of a.pair) bytes a.raw (class_takes forms class_rows a.pair.form take (ap names_one e ∙ one)) spelled

  one_ref : (v w : Value ℕ) (k : Class) → class_of a.pair.form ≡ k → names_one k ≡ true → v ≡ w → length (value_refs w) ≤ 1 → length (value_refs v) ≤ length bytes
  one_ref v w k e one same few = let some = one_takes k e one in let len = ap (λ (x : Value ℕ). length (value_refs x)) same in omega arith

  file_few : (line : Option ℕ) (v : Value ℕ) → IsFileBy line s (number_of a.raw) v → length (value_refs v) ≤ length bytes
  file_few None v h = no_refs v _ (length bytes) h.1 refl
  file_few (Some place) v h = no_refs v _ (length bytes) h.value refl

  constant_few : (b : Bool) (v : Value ℕ) → IfSo b (IsFileNumber s a v) (v ≡ constant_value a) → length (value_refs v) ≤ length bytes
  constant_few true v h = file_few (stmt_list s) v h
  constant_few false v h = no_refs v _ (length bytes) h refl

  offset_few : (b : Bool) (v : Value ℕ) → IfSo b (IsLocList s (offset_of a) v) (v ≡ only (Sec (offset_of a))) → length (value_refs v) ≤ length bytes
  offset_few true v h = no_refs v _ (length bytes) h.value refl
  offset_few false v h = no_refs v _ (length bytes) h refl

  expr_few : (v : Value ℕ) → IsExpression s a v → length (value_refs v) ≤ length bytes
  expr_few v h =
      let many = lie_many h.expression.operands (block_begins a) (block_begins a + length (bytes_of a.raw))
      (within_stands (expr_context s 1) (suc most_inside) h.expression (block_begins a) (bytes_of a.raw) h.spelled).lie in
      let same = ap (λ (x : Value ℕ). length (value_refs x)) h.value in
      let named = length-map h.expression.operands (λ (o : Operand). s.around.place (target_of s o)) in
      let held = shape_holds (shape_of forms a.pair.form) (constant_of a.pair) bytes a.raw spelled in
      omega arith

  value_few : (k : Class) (v : Value ℕ) → class_of a.pair.form ≡ k → MeansAs k s a v → length (value_refs v) ≤ length bytes
  value_few OfAddress v e m = no_refs v _ (length bytes) m refl
  value_few OfBlock v e m = no_refs v _ (length bytes) m refl
  value_few OfConstant v e m = constant_few (names_file a.pair.name) v m
  value_few OfFlag v e m = no_refs v _ (length bytes) m refl
  value_few OfText v e m = no_refs v _ (length bytes) m refl
  value_few OfTextInStr v e m = no_refs v _ (length bytes) m.value refl
  value_few OfTextInLineStr v e m = no_refs v _ (length bytes) m.value refl
  value_few OfTextBySlot v e m = no_refs v _ (length bytes) m.text.value refl
  value_few OfUnitEntry v e m = one_ref v _ OfUnitEntry e refl m.1 (omega arith)
  value_few OfInfoEntry v e m = one_ref v _ OfInfoEntry e refl m.1 (omega arith)
  value_few OfSignature v e m = no_refs v _ (length bytes) m refl
  value_few OfOffset v e m = offset_few (names_list a.pair.name) v m
  value_few OfExpression v e m = expr_few v m
  value_few OfListIndex v e m = no_refs v _ (length bytes) m.list.value refl
  value_few OfIndex v e m = no_refs v _ (length bytes) m refl
  value_few OfCommonEntry v e m = one_ref v _ OfCommonEntry e refl m.2.1 (omega arith)
  value_few OfCommonText v e m = no_refs v _ (length bytes) m.2.value refl
  value_few Unread v e m = absurd m

  found_few : (lists : List NamedList) (r : Result (Value ℕ) Fault) (f : Found) → meaning s a ≡ r → map_ok (found_in lists) r ≡ Ok f → length f.refs ≤ length bytes
  found_few lists (Err e) f is named = absurd (let both : Err e ≡ Ok f = named in cc)
  found_few lists (Ok v) f is named =
      let same : found_in lists v ≡ f = (let both : Ok (found_in lists v) ≡ Ok f = named in cc) in
      let few = value_few (class_of a.pair.form) v refl (((value_agrees s a).ok v).0 is) in
      let len = ap (λ (w : Found). length w.refs) same in
      omega arith

  pub attr_few : (f : Found) → attr_named s a ≡ Ok f → length f.refs ≤ length bytes
  attr_few f named = by (a.pair.name == 0x01) refl where
    by : (b : Bool) → (a.pair.name == 0x01) ≡ b → length f.refs ≤ length bytes
    by true is =
        let same : Ok nothing_found ≡ Ok f = ap (λ (b : Bool). if b then Ok nothing_found else map_ok (found_in (list_of_attr s a)) (meaning s a)) (sym is) ∙ named in
        let none : nothing_found ≡ f = cc in
        let len = ap (λ (w : Found). length w.refs) none in omega arith
    by false is = found_few (list_of_attr s a) (meaning s a) f refl (ap (λ (b : Bool). if b then Ok nothing_found else map_ok (found_in (list_of_attr s a)) (meaning s a)) (sym is) ∙ named)

-- ---- one thing and then another

-- there are at most so many references, where anything is named
abbrev Few : Result Found Fault → ℕ → Type 0
Few r n = (f : Found) → r ≡ Ok f → length f.refs ≤ n

few_none : (n : ℕ) → Few (Ok nothing_found) n
few_none n f e = let same : nothing_found ≡ f = cc in let len = ap (λ (w : Found). length w.refs) same in omega arith

few_both : (r q : Result Found Fault) (m n : ℕ) → Few r m → Few q n → Few (joined r q) (m + n)
few_both (Err e) q m n h k f is = absurd (let both : Err e ≡ Ok f = is in cc)
few_both (Ok a) (Err e) m n h k f is = absurd (let both : Err e ≡ Ok f = is in cc)
few_both (Ok a) (Ok b) m n h k f is =
    let same : and_then a b ≡ f = (let both : Ok (and_then a b) ≡ Ok f = is in cc) in
    let len = ap (λ (w : Found). length w.refs) same in
    let one = h a refl in
    let two = k b refl in
    omega (arith, length-append a.refs b.refs)

few_more : (r : Result Found Fault) (m n : ℕ) → m ≤ n → Few r m → Few r n
few_more r m n le h f is = let low = h f is in omega arith

attrs_few : (forms : List RowView) (take : AllTake forms) (s : MeaningContext ℕ) (pairs : List Pair) (attrs : List RawAttr) (start : ℕ) (bytes : List ℕ) → SpellsAttrs forms pairs attrs start bytes
    → Few (collect (attr_named s) attrs) (length bytes)
unfolding collect
attrs_few forms take s [] [] start bytes is = few_none (length bytes)
attrs_few forms take s [] (a ∷ attrs) start bytes is = absurd is
attrs_few forms take s (pair ∷ pairs) [] start bytes is = absurd is
attrs_few forms take s (pair ∷ pairs) (a ∷ attrs) start bytes is =
    let len = ap (λ (w : List ℕ). length w) is.parts in
    let parts = length-append is.first_bytes is.second_bytes in
    few_more _ (length is.first_bytes + length is.second_bytes) (length bytes) (omega arith)
    (few_both (attr_named s a) (collect (attr_named s) attrs) (length is.first_bytes) (length is.second_bytes) (attr_few forms take s pair a start is.first_bytes is.first)
    (attrs_few forms take s pairs attrs (start + length is.first_bytes) is.second_bytes is.second))

-- ---- entries and units

module _ (kind : FileKind) (room : ℕ) (s : MeaningContext ℕ) (c : UnitContext) (mode : c.mode ≡ mode_of kind room) where
  entry_few : (p : Position) (e : RawEntry) (start : ℕ) (bytes : List ℕ) → SpellsEntry c p e start bytes → Few (entry_named s e) (length bytes)
  entry_few p e start bytes is =
      let t = is.parts in
      let len = ap (λ (w : List ℕ). length w) t.parts in
      let parts = length-append t.first_bytes t.second_bytes in
      let forms = forms_of kind c.root_tag (p.depth == 1) in
      let rows : SpellsAttrs forms is.decl.pairs e.attrs (start + length t.first_bytes) t.second_bytes =
      subst (λ (m : Mode). SpellsAttrs (m.forms c.root_tag (p.depth == 1)) is.decl.pairs e.attrs (start + length t.first_bytes) t.second_bytes) mode t.second in
      few_more _ (length t.second_bytes) (length bytes) (omega arith) (attrs_few forms (kind_take kind c.root_tag (p.depth == 1)) s is.decl.pairs e.attrs (start + length t.first_bytes) t.second_bytes rows)

  if_few : (flag : Bool) (f : Forest RawEntry) (bytes : List ℕ) (Spelled : Type 0) → IfChildren flag f Spelled bytes → (Spelled → Few (collect (entry_named s) (preorder f)) (length bytes))
      → Few (collect (entry_named s) (preorder f)) (length bytes)
  unfolding collect preorder
  if_few true f bytes Spelled is deep = deep is
  if_few false f bytes Spelled is deep = subst (λ (g : Forest RawEntry). Few (collect (entry_named s) (preorder g)) (length bytes)) (sym is.0) (few_none (length bytes))

  entries_few : (f : Forest RawEntry) (p : Position) (start : ℕ) (bytes : List ℕ) → SpellsForest (λ (e : RawEntry). e.children) (SpellsFront c) f p start bytes
      → Few (collect (entry_named s) (preorder f)) (length bytes)
  unfolding collect preorder
  entries_few End p start bytes is = few_none (length bytes)
  entries_few (Entry e children next) p start bytes is =
      let a = is.first_bytes in
      let b = is.second_bytes in
      let d = is.third_bytes in
      let len = ap (λ (w : List ℕ). length w) is.parts in
      let front = length-append a (b ++ d) in
      let rest = length-append b d in
      let below = if_few e.children children b _ is.second (λ q. entries_few children _ (start + length a) b q) in
      let after = entries_few next _ (start + length a + length b) d is.third in
      let both : Few (collect (entry_named s) (preorder children ++ preorder next)) (length b + length d) =
      subst (λ (r : Result Found Fault). Few r (length b + length d)) (sym (collect_append (entry_named s) (preorder children) (preorder next))) (few_both _ _ (length b) (length d) below after) in
      few_more _ (length a + (length b + length d)) (length bytes) (omega arith) (few_both (entry_named s e) _ (length a) (length b + length d) (entry_few p e start a is.first) both)

kind_few : (s : MeaningContext ℕ) (r : Result _ Fault) → Few (map_ok (λ (k : Kind ℕ). nothing_found) r) 0
kind_few s (Err e) f is = absurd (let both : Err e ≡ Ok f = is in cc)
kind_few s (Ok k) f is = few_none 0 f is

module _ (abbrevs : List ℕ) (kind : FileKind) (room : ℕ) (around : Around ℕ) where
  unit_few : (u : RawUnit) (before start : ℕ) (bytes : List ℕ) → SpellsUnit abbrevs (mode_of kind room) before u start bytes → Few (unit_named around u) (length bytes)
  unfolding collect
  unit_few u before start bytes is =
      let s = scope_of around u in
      let c = is.context in
      let mode = is.is_context.same_mode in
      let t = is.is_tree in
      let len = ap (λ (w : List ℕ). length w) is.parts in
      let head = length-append is.header (is.tree ++ is.padding) in
      let pad = length-append is.tree is.padding in
      let inner = ap (λ (w : List ℕ). length w) t.parts in
      let both = length-append t.first_bytes t.second_bytes in
      let root = entry_few kind room s c mode (root_position before) u.root (start + length is.header) t.first_bytes t.first in
      let below = if_few kind room s c mode u.root.children u.below t.second_bytes _ t.second
      (λ q. entries_few kind room s c mode u.below _ (start + length is.header + length t.first_bytes) t.second_bytes q) in
      few_more _ (0 + (length t.first_bytes + length t.second_bytes)) (length bytes) (omega arith)
      (few_both (kind_named s u.kind) _ 0 (length t.first_bytes + length t.second_bytes) (kind_few s (kind_meaning s u.kind))
      (few_both (entry_named s u.root) _ (length t.first_bytes) (length t.second_bytes) root below))

  units_few : (raw : List RawUnit) (before start : ℕ) (bytes : List ℕ) → SpellsUnits abbrevs (mode_of kind room) before raw start bytes → Few (units_named around raw) (length bytes)
  unfolding collect
  units_few [] before start bytes is = few_none (length bytes)
  units_few (u ∷ raw) before start bytes is =
      let len = ap (λ (w : List ℕ). length w) is.parts in
      let both = length-append is.first_bytes is.second_bytes in
      few_more _ (length is.first_bytes + length is.second_bytes) (length bytes) (omega arith)
      (few_both (unit_named around u) _ (length is.first_bytes) (length is.second_bytes) (unit_few u before start is.first_bytes is.first)
      (units_few raw _ (start + length is.first_bytes) is.second_bytes is.second))

read_few : (abbrevs : List ℕ) (kind : FileKind) (room : ℕ) (around : Around ℕ) (info : List ℕ) (r : Result (List RawUnit) Fault) → units_at abbrevs (mode_of kind room) 0 (input info 0) ≡ r
    → Few (units_named around (or_none r)) (length info)
unfolding collect
read_few abbrevs kind room around info (Err f) e = few_none (length info)
read_few abbrevs kind room around info (Ok raw) e = units_few abbrevs kind room around raw 0 0 info (units_found abbrevs (mode_of kind room) 0 (input info 0) raw e)

-- what the units of a section name
pub refs_few : (source : Source) (around : Around ℕ) (f : Found) → units_named around (units_of source) ≡ Ok f → length f.refs ≤ length source.info
unfolding units_of
refs_few source around = read_few source.abbrevs source.kind source.room around source.info (units_at source.abbrevs (mode_of source.kind source.room) 0 (input source.info 0)) refl
