-- Values that weigh the same whatever is stored.
use Rattle.std.proofs.Common.{◌≡◌, ◌≢◌, ℕ, ℤ, ◌+◌, Bool, true, false, List, [], ◌∷◌, length, map, drop, Option, Some, None, Ok, refl, sym, ap, subst, ◌∙◌, arith, if◌then◌else◌, ◌==◌, ◌||◌, not}
use Rattle.std.specs.Prelude.{codes, nat_lt}
use Rattle.std.proofs.lemmas.Bool.{eqb-false, eqb-true}
use Rattle.dwz_codes.specs.declared.shape.Shape.{Shape}
use Rattle.dwz_codes.specs.declared.shape.Shape.TheVariants.{Nothing, Fixed1, Fixed2, Fixed3, Fixed4, Fixed8, Address}
use Rattle.dwz_def_tops.specs.Spots.{EntryName}
use Rattle.dwz_def_reading.specs.Spelling.{le_bytes, reach}
use Rattle.dwz_def_reading.specs.Forms.{form_rows}
use Rattle.dwz_def_reading.specs.Rows.{RowView, row, row_of}
use Rattle.dwz_def_reading.specs.Entries.{RawAttr}
use Rattle.dwz_def_reading.specs.Units.{RawUnit}
use Rattle.dwz_def_reading.specs.Values.{Number, number_bytes, shape_in, shape_of, value_bytes, written_rows}
use Rattle.dwz_def_reading.specs.Documents.{Addr, Attr, Flag, Index, Loc, Node, Num, Plain, Sec, Sig, Value, node_map, only}
use Rattle.dwz_def_reading.specs.Exprs.{parts_of}
use Rattle.dwz_def_reading.specs.Meanings.{MeansAs, IfSo, IsFileBy, IsLocList, MeaningContext, constant_value, number_of, offset_of, stmt_list}
use Rattle.dwz_def_reading.specs.Classes.{OfAddress, OfBlock, OfCommonEntry, OfCommonText, OfConstant, OfExpression, OfFlag, OfIndex, OfInfoEntry, OfListIndex}
use Rattle.dwz_def_reading.specs.Classes.{OfOffset, OfSignature, OfText, OfTextBySlot, OfTextInLineStr, OfTextInStr, OfUnitEntry, Unread}
use Rattle.dwz_def_reading.specs.Classes.{Class, class_of, kept_width, names_file, names_list}
use Rattle.dwz_def_reading.specs.Meant.{meaning}
use Rattle.dwz_def_reading.proofs.CutLemmas.{le_len}
use Rattle.dwz_def_reading.proofs.MeaningLemmas.{value_agrees}
use Rattle.dwz_def_plan.specs.Gain.{attrs_weight, value_weight}
use Rattle.dwz_graph.specs.Named.{value_refs}
use Rattle.dwz_graph.specs.Rows.{AreAttrsMeant, IsEntryMeant}
use Rattle.dwz_graph.proofs.StepLemmas.{entry as node, no_value, sibling, value}
use Rattle.dwz_unit.specs.Known.{pairs_of}
use Rattle.dwz_unit.specs.Rows.{EntryRow}
use Rattle.dwz_move.specs.Weights.{capped, form_weight, node_weight, number_size, pair_weight, pairs_weight, weigh_both}
use Rattle.dwz_move.proofs.DeclaredWeights.{pairs_low}
use Rattle.dwz_move.proofs.WeightLemmas.{Weighs, entry, of_file, plain_is, plain_of, text, text_class}
use Rattle.dwz_move.proofs.WeightSteps.{named_weight}

-- ---- numbers

skipped : (r : RowView) (rows : List RowView) (form : ℕ) → (r.code == form) ≡ false → shape_of (r ∷ rows) form ≡ shape_of rows form
skipped r rows form e = ap (λ (b : Bool). shape_in (if b then Some r else row_of rows form)) e

unread_entry : number_size (shape_of form_rows 0x1c) ≡ None
unfolding form_rows
unread_entry = refl

unread_text : number_size (shape_of form_rows 0x1d) ≡ None
unfolding form_rows
unread_text = refl

-- a form whose numbers have one size is written as it is read
written : (form size : ℕ) → number_size (shape_of form_rows form) ≡ Some size → shape_of written_rows form ≡ shape_of form_rows form
written form size e = by (0x1c == form) (0x1d == form) refl refl where
  none : (n : ℕ) → number_size (shape_of form_rows n) ≡ None → n ≡ form → ⊥
  none n unread is = let never : None ≡ Some size = sym unread ∙ ap (λ (m : ℕ). number_size (shape_of form_rows m)) is ∙ e in absurd cc

  by : (x y : Bool) → (0x1c == form) ≡ x → (0x1d == form) ≡ y → shape_of written_rows form ≡ shape_of form_rows form
  by true y a b = absurd (none 0x1c unread_entry (eqb-true 0x1c form a))
  by false true a b = absurd (none 0x1d unread_text (eqb-true 0x1d form b))
  by false false a b =
      skipped (row 0x1c Fixed4 (codes "ref_sup4")) (row 0x1d Fixed4 (codes "strp_sup") ∷ form_rows) form a
      ∙ skipped (row 0x1d Fixed4 (codes "strp_sup")) form_rows form b

so : (m n len : ℕ) → Some n ≡ Some m → len ≡ n → m ≡ len
so m n len e is = cc

-- ---- values

module _ (s : MeaningContext ℕ) (a : RawAttr) (v : Value ℕ) (m : ℕ) where
  abbrev shape : Shape
  shape = shape_of form_rows a.pair.form

  sized : (z : ℤ) → number_size shape ≡ Some m → m ≡ length (value_bytes a.pair.form (Number z))
  unfolding value_bytes
  sized z e = by shape e ∙ ap (λ (t : Shape). length (number_bytes t z)) (sym (written a.pair.form m e)) where
    by : (t : Shape) → number_size t ≡ Some m → m ≡ length (number_bytes t z)
    by Nothing e = so m 0 0 e refl
    by Fixed1 e = so m 1 (length (le_bytes 1 (reach z))) e (le_len 1 (reach z))
    by Fixed2 e = so m 2 (length (le_bytes 2 (reach z))) e (le_len 2 (reach z))
    by Fixed3 e = so m 3 (length (le_bytes 3 (reach z))) e (le_len 3 (reach z))
    by Fixed4 e = so m 4 (length (le_bytes 4 (reach z))) e (le_len 4 (reach z))
    by Fixed8 e = so m 8 (length (le_bytes 8 (reach z))) e (le_len 8 (reach z))
    by Address e = so m 8 (length (le_bytes 8 (reach z))) e (le_len 8 (reach z))
    by _ e = absurd (let never : None ≡ Some m = e in cc)

  number : (plain : Plain) → v ≡ only plain → number_size shape ≡ Some m → Weighs a (length (value_bytes a.pair.form (Number (number_of a.raw)))) plain → Weighs a m v.plain
  number plain e size w = plain_is a m v plain (ap plain_of e) (sized (number_of a.raw) size ∙ w)

  list : (place : ℕ) → IsLocList s place v → number_size shape ≡ Some m → Weighs a m v.plain
  list place l size = plain_is a m v (Loc (map parts_of l.list.exprs)) (ap plain_of l.value) (sized (number_of a.raw) size)

  offset : (named : Bool) → IfSo named (IsLocList s (offset_of a) v) (v ≡ only (Sec (offset_of a))) → number_size shape ≡ Some m → Weighs a m v.plain
  offset true h size = list (offset_of a) h size
  offset false h size = number (Sec (offset_of a)) h size refl

  module _ (other : a.pair.form ≢ 0x08) where
    four : Weighs a 4 v.plain → Some 4 ≡ Some m → Weighs a m v.plain
    four w e = (let is : 4 ≡ m = cc in subst (λ (n : ℕ). Weighs a n v.plain) is w)

    constant : (file : Bool) → IfSo file (IsFileBy (stmt_list s) s (number_of a.raw) v) (v ≡ constant_value a) → form_weight OfConstant file shape ≡ Some m → Weighs a m v.plain
    constant true h e = (let is : 1 ≡ m = (let both : Some 1 ≡ Some m = e in cc) in subst (λ (n : ℕ). Weighs a n v.plain) is (of_file s a v other (stmt_list s) h))
    constant false h e = number (Num (kept_width a.pair.name a.pair.form (offset_of a)) (number_of a.raw)) h e refl

    by_class : (c : Class) → MeansAs c s a v → form_weight c (names_file a.pair.name) shape ≡ Some m → Weighs a m v.plain
    by_class OfAddress h e = number (Addr (offset_of a)) h e refl
    by_class OfBlock h e = absurd (let never : None ≡ Some m = e in cc)
    by_class OfConstant h e = constant (names_file a.pair.name) h e
    by_class OfFlag h e = number (Flag (a.pair.form == 0x19 || not (offset_of a == 0))) h e refl
    by_class OfText h e = absurd (let never : None ≡ Some m = e in cc)
    by_class OfTextInStr h e = four (text s a v other h.text h.value) e
    by_class OfTextInLineStr h e = four (text s a v other h.text h.value) e
    by_class OfTextBySlot h e = four (text s a v other h.text.text h.text.value) e
    by_class OfUnitEntry h e = four (entry s a v other _ h.1) e
    by_class OfInfoEntry h e = four (entry s a v other _ h.1) e
    by_class OfSignature h e = number (Sig (offset_of a)) h e refl
    by_class OfOffset h e = offset (names_list a.pair.name) h e
    by_class OfExpression h e = absurd (let never : None ≡ Some m = e in cc)
    by_class OfListIndex h e = list (h.base + h.offset) h.list e
    by_class OfIndex h e = number (Index (offset_of a)) h e refl
    by_class OfCommonEntry h e = four (entry s a v other _ h.2.1) e
    by_class OfCommonText h e = four (text s a v other h.2.text h.2.value) e
    by_class Unread h e = absurd h

  pub form_weighs : form_weight (class_of a.pair.form) (names_file a.pair.name) shape ≡ Some m → meaning s a ≡ Ok v → Weighs a m v.plain
  form_weighs e is = by_class other (class_of a.pair.form) (((value_agrees s a).ok v).0 is) e where
    other : a.pair.form ≢ 0x08
    other eight =
        let text_is : class_of a.pair.form ≡ OfText = ap class_of eight ∙ text_class in
        let never : None ≡ Some m = sym (ap (λ (c : Class). form_weight c (names_file a.pair.name) shape) text_is) ∙ e in
        absurd cc

-- ---- entries

-- values weigh what their declaration tells
abbrev Later : List RawUnit → MeaningContext ℕ → (ℕ → EntryName) → List RawAttr → Type 0
Later raw s name values = (numbers : List ℕ) (attrs : List (Attr ℕ)) (w : ℕ) → pairs_weight (map (λ (a : RawAttr). a.pair) values) ≡ Some w → AreAttrsMeant raw s numbers values attrs
    → capped (named_weight name attrs) ≡ w

pub attrs_weigh : (raw : List RawUnit) (s : MeaningContext ℕ) (name : ℕ → EntryName) (values : List RawAttr) (numbers : List ℕ) (attrs : List (Attr ℕ)) (w : ℕ)
    → pairs_weight (map (λ (a : RawAttr). a.pair) values) ≡ Some w → AreAttrsMeant raw s numbers values attrs → capped (named_weight name attrs) ≡ w
unfolding attrs_weight pairs_weight
attrs_weigh raw s name [] numbers attrs w e m =
    (let is : Some 0 ≡ Some w = e in
    let none : capped (named_weight name attrs) ≡ 0 = ap (λ (as' : List (Attr ℕ)). capped (named_weight name as')) (no_value raw s numbers attrs m) in
    cc)
attrs_weigh raw s name (a ∷ values) numbers attrs w e m =
    both (λ ns as' y r n. attrs_weigh raw s name values ns as' y r n) (pair_weight a.pair) (pairs_weight (map (λ (b : RawAttr). b.pair) values)) refl refl e
  where
    sum : Later raw s name values → (x y : ℕ) → pair_weight a.pair ≡ Some x → pairs_weight (map (λ (b : RawAttr). b.pair) values) ≡ Some y → capped (x + y) ≡ w → (b : Bool) → (a.pair.name == 0x01) ≡ b
        → capped (named_weight name attrs) ≡ w
    sum more x y own rest is true sib =
        (let made : (b : Bool) → Option ℕ = λ b. if b then Some 0 else form_weight (class_of a.pair.form) (names_file a.pair.name) (shape_of form_rows a.pair.form) in
        let zero : Some 0 ≡ Some x = sym (ap made sib) ∙ own in
        let none : 0 ≡ x = cc in
        let low : capped y ≡ y = pairs_low (map (λ (b : RawAttr). b.pair) values) y rest in
        let later = more numbers attrs y rest (sibling raw s numbers a values attrs (eqb-true a.pair.name 0x01 sib) m) in
        grind arith)
    sum more x y own rest is false sib =
        (let made : (b : Bool) → Option ℕ = λ b. if b then Some 0 else form_weight (class_of a.pair.form) (names_file a.pair.name) (shape_of form_rows a.pair.form) in
        let n = value raw s numbers a values attrs (eqb-false a.pair.name 0x01 sib) m in
        let weight : form_weight (class_of a.pair.form) (names_file a.pair.name) (shape_of form_rows a.pair.form) ≡ Some x = sym (ap made sib) ∙ own in
        let here : x ≡ value_weight a.pair.form (number_of a.raw) n.value.plain = form_weighs s a n.value x weight n.means in
        let split : named_weight name attrs ≡ x + named_weight name n.left = ap (named_weight name) n.parts ∙ ap (λ (k : ℕ). k + named_weight name n.left) (sym here) in
        let later : capped (named_weight name n.left) ≡ y = more (drop (length (value_refs n.value)) numbers) n.left y rest n.rest in
        grind arith)

    both : Later raw s name values → (x y : Option ℕ) → pair_weight a.pair ≡ x → pairs_weight (map (λ (b : RawAttr). b.pair) values) ≡ y → weigh_both x y ≡ Some w → capped (named_weight name attrs) ≡ w
    both more (Some x) (Some y) own rest e = sum more x y own rest (let is : Some (capped (x + y)) ≡ Some w = e in cc) (a.pair.name == 0x01) refl
    both more (Some x) None own rest e = absurd (let never : None ≡ Some w = e in cc)
    both more None y own rest e = absurd (let never : None ≡ Some w = e in cc)

pub entry_weighs : (raw : List RawUnit) (s : MeaningContext ℕ) (name : ℕ → EntryName) (numbers : List ℕ) (i : ℕ) (row : EntryRow) (d : Node ℕ) (own w weight : ℕ) → IsEntryMeant raw s i numbers row d
    → pairs_weight (pairs_of row.entry) ≡ Some w → own ≡ (if nat_lt (i + 1) row.end then 2 else 1) → weight ≡ capped (own + w) → weight ≡ capped (node_weight (nat_lt (i + 1) row.end) (node_map name d))
entry_weighs raw s name numbers i row d own w weight m e alone made =
    (let values : capped (named_weight name d.attrs) ≡ w = attrs_weigh raw s name row.entry.attrs numbers d.attrs w e (node raw s i numbers row d m) in
    let both : capped (own + w) ≡ capped (own + named_weight name d.attrs) = grind arith in
    made ∙ both ∙ ap (λ (n : ℕ). capped (n + named_weight name d.attrs)) alone)
