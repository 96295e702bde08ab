-- What a value weighs, by the class of its form; an expression is as long whatever its operands are.
use Rattle.std.proofs.Common.{◌≡◌, ◌≢◌, ℕ, ◌+◌, ◌-◌, ◌<◌, ◌≤◌, Bool, true, false, List, [], ◌∷◌, ◌++◌, length, map, take, drop, Option, Some, None, Ok, refl, sym, ap, subst, ◌∙◌, arith, if◌then◌else◌, ltb}
use Rattle.std.proofs.Common.{ltb-true, ◌==◌, ◌||◌, not}
use Rattle.std.specs.List.{list_all}
use Rattle.std.proofs.Math.Logic.{inl, inr}
use Rattle.std.proofs.lemmas.Bool.{eq-eqb, ne_eqb}
use Rattle.std.proofs.lemmas.List.{length-append, length-map}
use Rattle.dwz_def_reading.specs.Spelling.{le_bytes}
use Rattle.dwz_def_reading.specs.Forms.{form_rows}
use Rattle.dwz_def_reading.specs.Rows.{RowView, row_of}
use Rattle.dwz_def_reading.specs.Entries.{RawAttr}
use Rattle.dwz_def_reading.specs.Values.{Bytes, HasSpelling, Number, Raw, SpellsShape, constant_of, shape_in, shape_of, value_bytes, written_rows}
use Rattle.dwz_def_reading.specs.declared.exprs.Operand.{Operand}
use Rattle.dwz_def_reading.specs.Documents.{Addr, Block, Expr, File, Flag, Index, Loc, Num, Plain, Ref, Sec, Sig, Text, Value, only, ref}
use Rattle.dwz_def_reading.specs.Exprs.{Expression, ExprContext, SpellsExpr, parts_from, parts_of}
use Rattle.dwz_def_reading.specs.Meanings.{MeansAs, MeansValue, IfSo}
use Rattle.dwz_def_reading.specs.Classes.{OfAddress, OfBlock, OfCommonEntry, OfCommonText, OfConstant, OfExpression, OfFlag, OfIndex, OfInfoEntry, OfListIndex}
use Rattle.dwz_def_reading.specs.Classes.{Class}
use Rattle.dwz_def_reading.specs.Meanings.{MeaningContext, bytes_of, expr_context}
use Rattle.dwz_def_reading.specs.Classes.{OfOffset, OfSignature, OfText, OfTextBySlot, OfTextInLineStr, OfTextInStr, OfUnitEntry, Unread}
use Rattle.dwz_def_reading.specs.Classes.{class_in, class_of, class_rows}
use Rattle.dwz_def_reading.specs.Meanings.{constant_value, block_begins, number_of, offset_of, stmt_list, IsExpression, IsFileBy, IsLocList}
use Rattle.dwz_def_reading.specs.Classes.{kept_width, names_file, names_list}
use Rattle.dwz_def_reading.specs.Meant.{meaning}
use Rattle.dwz_def_reading.specs.Patching.{filled, number_in_width}
use Rattle.dwz_def_reading.proofs.ClassLemmas.{row_checked}
use Rattle.dwz_def_reading.proofs.CutLemmas.{le_len, number_len}
use Rattle.dwz_def_reading.proofs.MeaningLemmas.{value_agrees}
use Rattle.dwz_def_reading.proofs.PatchedLemmas.{patched_length}
use Rattle.dwz_def_plan.specs.Gain.{bare_bytes, value_weight}
use Rattle.dwz_def_encoding.proofs.StoredClasses.{class_agrees, is_bytes, is_number, rows_agree, stores_bytes}
use Rattle.dwz_def_encoding.proofs.WriteLengths.{run_len}
use Rattle.dwz_move.specs.Weights.{capped, set_weight}

-- ---- counted up to 64

pub capped_add : (a b : ℕ) → capped (capped a + b) ≡ capped (a + b)
capped_add a b = grind arith

pub capped_few : (n w : ℕ) → w ≡ capped n → w ≤ 64
capped_few n w e = grind arith

-- ---- expressions

bare_same : (at : ℕ) (bytes : List ℕ) (os : List Operand) (numbers : List ℕ) → length numbers ≡ length os
    → length (bare_bytes (parts_from at bytes os)) ≡ length (filled (parts_from at bytes os) numbers)
unfolding bare_bytes filled parts_from
bare_same at bytes [] numbers many = refl
bare_same at bytes (o ∷ os) [] many = absurd (omega (arith, many))
bare_same at bytes (o ∷ os) (n ∷ numbers) many =
    let rest = bare_same (o.at + o.width) (drop (o.at + o.width - at) bytes) os numbers (omega (arith, many)) in
    let bare = bare_bytes (parts_from (o.at + o.width) (drop (o.at + o.width - at) bytes) os) in
    let full = filled (parts_from (o.at + o.width) (drop (o.at + o.width - at) bytes) os) numbers in
    let front = take (o.at - at) bytes in
    omega (
      arith,
      rest,
      le_len o.width 0,
      number_len o.uleb o.width n,
      length-append front (le_bytes o.width 0 ++ bare),
      length-append (le_bytes o.width 0) bare,
      length-append front (number_in_width o.uleb o.width n ++ full),
      length-append (number_in_width o.uleb o.width n) full,
    )

pub bare_length : (c : ExprContext) (e : Expression) (start : ℕ) (bytes : List ℕ) → SpellsExpr c e start bytes → length (bare_bytes (parts_of e)) ≡ length bytes
bare_length c e start bytes s =
    let zeros : List ℕ = map (λ (o : Operand). 0) e.operands in
    let many : length zeros ≡ length e.operands = length-map e.operands (λ (o : Operand). 0) in
    bare_same e.at e.bytes e.operands zeros many ∙ patched_length c e start bytes zeros s many

-- ---- forms

in_sixteen : RowView → Bool
in_sixteen r = ltb r.code 65536

all_in_sixteen : list_all in_sixteen written_rows ≡ true
unfolding in_sixteen form_rows
all_in_sixteen = refl

-- a form that some bytes spell something in is one of the table
pub form_fits : (form : ℕ) (raw : Raw) → HasSpelling form raw → form < 65536
unfolding in_sixteen
form_fits form raw h = go (row_of written_rows h.pair.form) refl h.spelled where
  go : (o : Option RowView) → row_of written_rows h.pair.form ≡ o → SpellsShape (shape_in o) (constant_of h.pair) h.bytes raw → form < 65536
  go None e s = absurd s
  go (Some r) e s =
      let c = row_checked in_sixteen written_rows h.pair.form r all_in_sixteen e in
      let low = ltb-true r.code 65536 c.0 in
      let same = c.1 in
      let own = h.of_form in
      omega arith

-- ---- values

abbrev pub weight_or : Option ℕ → ℕ → ℕ
weight_or (Some w) n = w
weight_or None n = n

-- what is told of a value's plain part
abbrev pub Weighs : RawAttr → ℕ → Plain → Type 0
Weighs a n plain = n ≡ value_weight a.pair.form (number_of a.raw) plain

pub plain_is : (a : RawAttr) (n : ℕ) (v : Value ℕ) (plain : Plain) → v.plain ≡ plain → Weighs a n plain → Weighs a n v.plain
plain_is a n v plain e w = subst (λ (p : Plain). Weighs a n p) (sym e) w

abbrev pub plain_of : Value ℕ → Plain
plain_of v = v.plain

module _ (s : MeaningContext ℕ) (a : RawAttr) (v : Value ℕ) (other : a.pair.form ≢ 0x08) where
  abbrev size : ℕ
  size = length (value_bytes a.pair.form a.raw)

  pub text : (t : List ℕ) → v ≡ only (Text t) → Weighs a 4 v.plain
  text t e = plain_is a 4 v (Text t) (ap plain_of e) (ap (λ (b : Bool). if b then length t + 1 else 4) (sym (ne_eqb a.pair.form 0x08 other)))

  pub entry : (p : ℕ) → v ≡ ref p → Weighs a 4 v.plain
  entry p e = plain_is a 4 v Ref (ap plain_of e) refl

  pub of_file : (o : Option ℕ) → IsFileBy o s (number_of a.raw) v → Weighs a 1 v.plain
  of_file None m = plain_is a 1 v (File None) (ap plain_of m.1) refl
  of_file (Some place) m = plain_is a 1 v (File (Some m.path)) (ap plain_of m.value) refl

  -- what is stored as a number, and what as bytes
  number : (plain : Plain) → v ≡ only plain → a.raw ≡ Number (number_of a.raw) → Weighs a (length (value_bytes a.pair.form (Number (number_of a.raw)))) plain → Weighs a size v.plain
  number plain e n w = plain_is a size v plain (ap plain_of e) (ap (λ (r : Raw). length (value_bytes a.pair.form r)) n ∙ w)

  list : (place : ℕ) → IsLocList s place v → a.raw ≡ Number (number_of a.raw) → Weighs a size v.plain
  list place m n = plain_is a size v (Loc (map parts_of m.list.exprs)) (ap plain_of m.value) (ap (λ (r : Raw). length (value_bytes a.pair.form r)) n)

  block : v ≡ only (Block (bytes_of a.raw)) → a.raw ≡ Bytes (bytes_of a.raw) → Weighs a size v.plain
  block e b = plain_is a size v (Block (bytes_of a.raw)) (ap plain_of e) (ap (λ (r : Raw). length (value_bytes a.pair.form r)) b)

  expression : IsExpression s a v → a.raw ≡ Bytes (bytes_of a.raw) → Weighs a size v.plain
  unfolding value_bytes
  expression m b = plain_is a size v (Expr (parts_of m.expression)) (ap plain_of m.value)
      (ap (λ (r : Raw). length (value_bytes a.pair.form r)) b
      ∙ run_len (shape_of written_rows a.pair.form) (bytes_of a.raw) (bare_bytes (parts_of m.expression)) (sym (bare_length (expr_context s 1) m.expression (block_begins a) (bytes_of a.raw)
      m.spelled)))

  constant : (file : Bool) → IfSo file (IsFileBy (stmt_list s) s (number_of a.raw) v) (v ≡ constant_value a) → a.raw ≡ Number (number_of a.raw)
      → Weighs a (weight_or (set_weight OfConstant file) size) v.plain
  constant true m n = of_file (stmt_list s) m
  constant false m n = number (Num (kept_width a.pair.name a.pair.form (offset_of a)) (number_of a.raw)) m n refl

  offset : (named : Bool) → IfSo named (IsLocList s (offset_of a) v) (v ≡ only (Sec (offset_of a))) → a.raw ≡ Number (number_of a.raw) → Weighs a size v.plain
  offset true m n = list (offset_of a) m n
  offset false m n = number (Sec (offset_of a)) m n refl

  by_class : (c : Class) → MeansAs c s a v → (stores_bytes c ≡ false → a.raw ≡ Number (number_of a.raw)) → (stores_bytes c ≡ true → a.raw ≡ Bytes (bytes_of a.raw))
      → Weighs a (weight_or (set_weight c (names_file a.pair.name)) size) v.plain
  by_class OfAddress m n b = number (Addr (offset_of a)) m (n refl) refl
  by_class OfBlock m n b = block m (b refl)
  by_class OfConstant m n b = constant (names_file a.pair.name) m (n refl)
  by_class OfFlag m n b = number (Flag (a.pair.form == 0x19 || not (offset_of a == 0))) m (n refl) refl
  by_class OfText m n b = text (bytes_of a.raw) m
  by_class OfTextInStr m n b = text m.text m.value
  by_class OfTextInLineStr m n b = text m.text m.value
  by_class OfTextBySlot m n b = text m.text.text m.text.value
  by_class OfUnitEntry m n b = entry _ m.1
  by_class OfInfoEntry m n b = entry _ m.1
  by_class OfSignature m n b = number (Sig (offset_of a)) m (n refl) refl
  by_class OfOffset m n b = offset (names_list a.pair.name) m (n refl)
  by_class OfExpression m n b = expression m (b refl)
  by_class OfListIndex m n b = list (m.base + m.offset) m.list (n refl)
  by_class OfIndex m n b = number (Index (offset_of a)) m (n refl) refl
  by_class OfCommonEntry m n b = entry _ m.2.1
  by_class OfCommonText m n b = text m.2.text m.2.value
  by_class Unread m n b = absurd m

  own_number : HasSpelling a.pair.form a.raw → MeansValue s a v → stores_bytes (class_of a.pair.form) ≡ false → a.raw ≡ Number (number_of a.raw)
  own_number h m e =
      let spelled : SpellsShape (shape_of written_rows a.pair.form) (constant_of h.pair) h.bytes a.raw = subst (λ (f : ℕ). SpellsShape (shape_of written_rows f) (constant_of h.pair) h.bytes a.raw)
      h.of_form h.spelled in
      elim (class_agrees class_rows a.pair.form rows_agree) [
        | inl none ↦ absurd (let no : MeansAs Unread s a v = subst (λ (c : Class). MeansAs c s a v) none m in no)
        | inr same ↦ is_number (constant_of h.pair) h.bytes a.raw (shape_of written_rows a.pair.form) (sym same ∙ e) spelled
      ]

  own_bytes : HasSpelling a.pair.form a.raw → MeansValue s a v → stores_bytes (class_of a.pair.form) ≡ true → a.raw ≡ Bytes (bytes_of a.raw)
  own_bytes h m e =
      let spelled : SpellsShape (shape_of written_rows a.pair.form) (constant_of h.pair) h.bytes a.raw = subst (λ (f : ℕ). SpellsShape (shape_of written_rows f) (constant_of h.pair) h.bytes a.raw)
      h.of_form h.spelled in
      elim (class_agrees class_rows a.pair.form rows_agree) [
        | inl none ↦ absurd (let no : MeansAs Unread s a v = subst (λ (c : Class). MeansAs c s a v) none m in no)
        | inr same ↦ is_bytes (constant_of h.pair) h.bytes a.raw (shape_of written_rows a.pair.form) (sym same ∙ e) spelled
      ]

  pub value_weighs : HasSpelling a.pair.form a.raw → meaning s a ≡ Ok v → Weighs a (weight_or (set_weight (class_of a.pair.form) (names_file a.pair.name)) size) v.plain
  value_weighs h e =
      let m = ((value_agrees s a).ok v).0 e in
      by_class (class_of a.pair.form) m (own_number h m) (own_bytes h m)

pub text_class : class_of 0x08 ≡ OfText
unfolding class_rows class_in
text_class = refl

pub text_weighs : (s : MeaningContext ℕ) (a : RawAttr) (v : Value ℕ) → a.pair.form ≡ 0x08 → meaning s a ≡ Ok v → Weighs a (length (bytes_of a.raw) + 1) v.plain
text_weighs s a v e is =
    let m = subst (λ (c : Class). MeansAs c s a v) (ap class_of e ∙ text_class) (((value_agrees s a).ok v).0 is) in
    let same : v ≡ only (Text (bytes_of a.raw)) = m in
    plain_is a (length (bytes_of a.raw) + 1) v (Text (bytes_of a.raw)) (ap plain_of same) (ap (λ (b : Bool). if b then length (bytes_of a.raw) + 1 else 4) (sym (eq-eqb a.pair.form 0x08 e)))
