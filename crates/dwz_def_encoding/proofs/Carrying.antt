-- What a file stores can be written again.
use Rattle.std.proofs.Common.{◌≡◌, ◌≢◌, ℕ, ℤ, pos, ◌<◌, ◌≤◌, ◌⊎◌, Bool, true, false, List, [], Option, Some, None, refl, sym, ap, subst, ◌∙◌, arith, cond, eqb, eqb-true, eq-eqb, length, map, ◌^◌}
use Rattle.std.specs.Prelude.{MatchBool}
use Rattle.std.proofs.lemmas.List.{length-map}
use Rattle.std.proofs.Math.Logic.{inl, inr}
use Rattle.dwz_def_reading.specs.Pair.{Pair}
use Rattle.dwz_def_reading.specs.Spelling.{SpellsSleb, fits_i64, reach, le_bytes}
use Rattle.dwz_def_reading.specs.Abbrevs.{SpellsPair}
use Rattle.dwz_def_reading.specs.Documents.{Attr, Expr, Plain, Sec, Text, Value, only, ref, value_map}
use Rattle.dwz_def_reading.specs.Entries.{RawAttr}
use Rattle.dwz_def_reading.specs.Meanings.{IsExpression, IsFileBy, MeansAs, MeaningContext, block_begins, bytes_of, expr_context, number_of, path_by, stmt_list, target_of, targets, text_sections_of}
use Rattle.dwz_def_reading.specs.Classes.{OfAddress, OfBlock, OfCommonEntry, OfCommonText, OfConstant, OfExpression, OfFlag, OfIndex, OfInfoEntry, OfListIndex}
use Rattle.dwz_def_reading.specs.Classes.{Class}
use Rattle.dwz_def_reading.specs.Classes.{OfOffset, OfSignature, OfText, OfTextBySlot, OfTextInLineStr, OfTextInStr, OfUnitEntry, Unread}
use Rattle.dwz_def_reading.specs.Classes.{class_of, class_rows}
use Rattle.dwz_def_reading.specs.Classes.{names_file, names_list}
use Rattle.dwz_def_reading.specs.declared.exprs.Operand.{Operand}
use Rattle.dwz_def_reading.specs.Exprs.{ExprContext, Expression, SpellsExpr, parts_of}
use Rattle.dwz_def_reading.proofs.DecideLemmas.{if_false, if_true}
use Rattle.dwz_def_reading.specs.Texts.{IsSlot, IsTextAt}
use Rattle.dwz_def_reading.specs.Values.{Bytes, Number, Raw, SpellsShape, SpellsValue, constant_of, shape_of, written_rows}
use Rattle.dwz_def_reading.proofs.WrittenLemmas.{same_shape}
use Rattle.dwz_def_encoding.specs.Carried.{CameFrom, CarriedAttr, From, Imports, IsBuiltAs, NamesLines, NumbersFile}
use Rattle.dwz_def_encoding.specs.Bases.{Bases}
use Rattle.dwz_def_encoding.specs.Meant.{AttrSays, FileSays, Own, SaysAs, Tells, WasRead}
use Rattle.dwz_def_encoding.specs.Placing.{Chosen, UnitForms, as_constant, as_file, as_read, as_reference, fit_as, fit_attr, with_form, zeros}
use Rattle.dwz_def_encoding.specs.Sound.{HasBytes, SoundAttr, StoresAs}
use Rattle.dwz_def_encoding.specs.Writing.{block_in, expr_bytes, pair_of, text_or_empty}
use Rattle.dwz_def_encoding.proofs.ValuesMean.{plain_is, so_not}
use Rattle.dwz_def_encoding.proofs.PoolLemmas.{le_are}
use Rattle.dwz_def_encoding.proofs.StoredClasses.{class_agrees, expression_form, exprloc_block, is_bytes, is_number, offset_class, rows_agree, stores_bytes}
use Rattle.dwz_def_encoding.proofs.FilledParts.{expr_as_long}
use Rattle.dwz_def_encoding.proofs.FormsKnown.{import_class, implicit_is, no_list, offset_spelled}

-- ---- an attribute that came from a file

constant_fits : (p : Pair) (bytes : List ℕ) → SpellsPair bytes p → p.form ≡ 0x21 → fits_i64 p.constant ≡ true
constant_fits p bytes is e = go (eqb p.form 0x21) (eq-eqb p.form 0x21 e) is.constant where
  go : (t : Bool) → t ≡ true → MatchBool t (SpellsSleb is.constant_bytes p.constant) ((is.constant_bytes ≡ []) × (p.constant ≡ pos 0)) → fits_i64 p.constant ≡ true
  go true r c = c.in_range
  go false r c = absurd cc

-- the class of a value that names an entry
abbrev pub IsEntryClass : Class → Type 0
IsEntryClass OfUnitEntry = Unit {0}
IsEntryClass OfInfoEntry = Unit {0}
IsEntryClass OfCommonEntry = Unit {0}
IsEntryClass _ = ⊥

-- that of a value whose form stays, whatever unit holds it; and whether the name is that of a file's number
abbrev pub KeepsForm : Class → Bool → Type 0
KeepsForm OfConstant names = names ≡ false
KeepsForm OfUnitEntry names = ⊥
KeepsForm OfInfoEntry names = ⊥
KeepsForm OfCommonEntry names = ⊥
KeepsForm OfTextInStr names = ⊥
KeepsForm OfTextInLineStr names = ⊥
KeepsForm OfTextBySlot names = ⊥
KeepsForm OfCommonText names = ⊥
KeepsForm _ names = Unit {0}

-- a reference, whose form is still to be chosen
pub record Reference {K : Type 0} (a : Attr K) : Type 0 where
  pub class : IsEntryClass (class_of a.form)
  pub some_name : 0 < a.name
  pub name_fits : a.name ≤ 0xffff
  pub no_sibling : a.name ≢ 0x01
  pub target : K
  pub value : a.value ≡ ref target
  pub chosen : (f : UnitForms K) → fit_attr f a ≡ with_form a (as_reference f a)

-- a text that has a place in a section
pub record Placed {K : Type 0} (from : From) (a : Attr K) : Type 0 where
  pub scope : MeaningContext ℕ
  pub old : RawAttr
  pub file : from scope old
  pub text : List ℕ
  pub value : a.value ≡ only (Text text)
  pub sound : SoundAttr a
  pub class : ((class_of a.form ≡ OfTextInStr) × IsTextAt scope.around.sources.strs (reach a.raw) text)
      ⊎ ((class_of a.form ≡ OfTextInLineStr) × IsTextAt scope.around.sources.line_strs (reach a.raw) text)

-- a text by its slot
pub record Slotted {K : Type 0} (from : From) (origin : Bases) (a : Attr K) : Type 0 where
  pub scope : MeaningContext ℕ
  pub old : RawAttr
  pub file : from scope old
  pub base : ℕ
  pub is_base : origin.slots ≡ Some base
  pub offset : ℕ
  pub slot : IsSlot scope.around.sources.offsets base (reach a.raw) offset
  pub text : List ℕ
  pub stands : IsTextAt scope.around.sources.strs offset text
  pub value : a.value ≡ only (Text text)
  pub sound : SoundAttr a
  pub class : class_of a.form ≡ OfTextBySlot

-- the number of a file
pub record Filed {K : Type 0} (from : From) (origin : Bases) (a : Attr K) : Type 0 where
  pub scope : MeaningContext ℕ
  pub old : RawAttr
  pub file : from scope old
  pub numbers : NumbersFile a
  pub says : FileSays (text_sections_of scope.around.sources) scope.around.sources.line origin.line a
  pub chosen : (f : UnitForms K) → fit_attr f a ≡ with_form a (as_file f.holder f a)
  pub sound : SoundAttr a

-- an expression
pub record Computed {K : Type 0} (a : Attr K) : Type 0 where
  pub context : ExprContext
  pub expression : Expression
  pub start : ℕ
  pub bytes : List ℕ
  pub spelled : SpellsExpr context expression start bytes
  pub plain : a.value.plain ≡ Expr (parts_of expression)
  pub address : a.value.address ≡ expression.address
  pub class : class_of a.form ≡ OfExpression
  pub sound : SoundAttr a

-- a location list
pub record Listed {K : Type 0} (a : Attr K) : Type 0 where
  pub class : ((class_of a.form ≡ OfOffset) × (names_list a.name ≡ true)) ⊎ (class_of a.form ≡ OfListIndex)
  pub stays : (f : UnitForms K) → fit_attr f a ≡ a
  pub sound : SoundAttr a

-- any other attribute, whose form stays
pub record Other {K : Type 0} (a : Attr K) : Type 0 where
  pub keeps : KeepsForm (class_of a.form) (names_file a.name)
  pub stays : (f : UnitForms K) → fit_attr f a ≡ a
  pub sound : SoundAttr a
  pub says : (t : Tells K) (own : Own K) → AttrSays t own a

module _ {K : Type 0} (from : From) (origin : Bases) (a : Attr K) (came : CameFrom from origin a) where
  abbrev old : RawAttr
  old = came.was_read.old

  same_form : old.pair.form ≡ a.form
  same_form = sym came.was_read.means.form ∙ sym (ap (λ (b : Attr K). b.form) came.was_read.same)

  same_name : old.pair.name ≡ a.name
  same_name = sym came.was_read.means.name ∙ sym (ap (λ (b : Attr K). b.name) came.was_read.same)

  same_raw : number_of old.raw ≡ a.raw
  same_raw = sym came.was_read.means.raw ∙ sym (ap (λ (b : Attr K). b.raw) came.was_read.same)

  stored : SpellsValue written_rows old.pair came.stored.bytes old.raw
  stored = same_shape old.pair.form (constant_of old.pair) came.stored.bytes old.raw came.stored.spelled

  -- the constant of an implicit_const is the number
  constant_is : a.form ≡ 0x21 → a.raw ≡ constant_of old.pair
  constant_is e = sym same_raw ∙ ap number_of (implicit_is old.pair.form (constant_of old.pair) came.stored.bytes old.raw (same_form ∙ e) stored)

  same_constant : constant_of old.pair ≡ constant_of (pair_of a)
  same_constant = go (eqb a.form 0x21) refl where
    go : (t : Bool) → eqb a.form 0x21 ≡ t → constant_of old.pair ≡ cond t (cond t a.raw (pos 0)) (pos 0)
    go true e = sym (constant_is (eqb-true a.form 0x21 e))
    go false e = ap (λ (t : Bool). cond t old.pair.constant (pos 0)) (ap (λ (f : ℕ). eqb f 0x21) same_form ∙ e)

  has_bytes : HasBytes a old.raw
  has_bytes = record {
    bytes = came.stored.bytes;
    are_bytes = came.stored.are_bytes;
    spelled = subst (λ (z : ℤ). SpellsShape (shape_of written_rows a.form) z came.stored.bytes old.raw) same_constant
        (subst (λ (f : ℕ). SpellsShape (shape_of written_rows f) (constant_of old.pair) came.stored.bytes old.raw) same_form stored);
  }

  fits_constant : a.form ≡ 0x21 → fits_i64 a.raw ≡ true
  fits_constant e =
      let form : old.pair.form ≡ 0x21 = same_form ∙ e in
      let known : constant_of old.pair ≡ old.pair.constant = ap (λ (t : Bool). cond t old.pair.constant (pos 0)) (eq-eqb old.pair.form 0x21 form) in
      ap fits_i64 (constant_is e ∙ known) ∙ constant_fits old.pair came.stored.pair_bytes came.stored.pair form

  some_name : 0 < a.name
  some_name = subst (λ (n : ℕ). 0 < n) same_name came.stored.pair.some_name

  name_fits : a.name ≤ 0xffff
  name_fits = subst (λ (n : ℕ). n ≤ 0xffff) same_name came.stored.pair.name_fits

  no_sibling : a.name ≢ 0x01
  no_sibling e = came.stored.no_sibling (same_name ∙ e)

  -- what was stored is what is stored
  again_bytes : (c : Class) → class_of a.form ≡ c → stores_bytes c ≡ true → old.raw ≡ Bytes (bytes_of old.raw)
  again_bytes c e stores =
      elim (class_agrees class_rows a.form rows_agree) [
        | inl u ↦ absurd (let no : stores_bytes (class_of a.form) ≡ false = ap stores_bytes u in let yes : stores_bytes (class_of a.form) ≡ true = ap stores_bytes e ∙ stores in cc)
        | inr h ↦ is_bytes (constant_of (pair_of a)) has_bytes.bytes old.raw (shape_of written_rows a.form) (sym h ∙ ap stores_bytes e ∙ stores) has_bytes.spelled
      ]

  again_number : (c : Class) → class_of a.form ≡ c → stores_bytes c ≡ false → (c ≡ Unread → ⊥) → old.raw ≡ Number a.raw
  again_number c e stores some =
      elim (class_agrees class_rows a.form rows_agree) [
        | inl u ↦ absurd (some (sym e ∙ u))
        | inr h ↦ is_number (constant_of (pair_of a)) has_bytes.bytes old.raw (shape_of written_rows a.form) (sym h ∙ ap stores_bytes e ∙ stores) has_bytes.spelled ∙ ap Number same_raw
      ]

  -- an attribute of a class that names no entry
  other_sound : StoresAs (class_of a.form) a → SoundAttr a
  other_sound value = record { some_name = some_name; name_fits = name_fits; no_sibling = no_sibling; known = λ u. subst IsBuiltAs u came.built; constant = fits_constant; value = value }

  -- one whose form stays
  other : (c : Class) → class_of a.form ≡ c → KeepsForm c (names_file a.name) → ((f : UnitForms K) → fit_as c f a ≡ as_read a) → (HasBytes a old.raw → StoresAs c a) → (WasRead a → (t : Tells K) (own : Own K) → SaysAs c t own a) → Other a
  other c e keeps form stores says = record {
    keeps = subst (λ (d : Class). KeepsForm d (names_file a.name)) (sym e) keeps;
    stays = λ f. ap (λ (d : Class). with_form a (fit_as d f a)) e ∙ ap (λ (x : Chosen). with_form a x) (form f);
    sound = other_sound (subst (λ (d : Class). StoresAs d a) (sym e) (stores has_bytes));
    says = λ t own. subst (λ (d : Class). SaysAs d t own a) (sym e) (says came.was_read t own);
  }

  reference : (c : Class) → class_of a.form ≡ c → IsEntryClass c → ((f : UnitForms K) → fit_as c f a ≡ as_reference f a) → (k : K) → a.value ≡ ref k → Reference a
  reference c e class form k value = record {
    class = subst IsEntryClass (sym e) class;
    some_name = some_name;
    name_fits = name_fits;
    no_sibling = no_sibling;
    target = k;
    value = value;
    chosen = λ f. ap (λ (d : Class). with_form a (fit_as d f a)) e
        ∙ ap (λ (x : Chosen). with_form a x) (form f);
  }

  abbrev w : WasRead a
  w = came.was_read

  same_value : a.value ≡ value_map w.name w.read.value
  same_value = ap (λ (b : Attr K). b.value) w.same

  plain_of : (p : Plain) → w.read.value ≡ only p → a.value.plain ≡ p
  plain_of p is = plain_is a w.name w.read.value p same_value is

  -- one that stores a number
  number : (c : Class) → class_of a.form ≡ c → stores_bytes c ≡ false → (c ≡ Unread → ⊥) → HasBytes a old.raw → HasBytes a (Number a.raw)
  number c e stores some h = subst (HasBytes a) (again_number c e stores some) h

  -- one that stores bytes
  content : (c : Class) (bytes : List ℕ) → class_of a.form ≡ c → stores_bytes c ≡ true → bytes_of old.raw ≡ bytes → HasBytes a old.raw → HasBytes a (Bytes bytes)
  content c bytes e stores same h = subst (HasBytes a) (again_bytes c e stores ∙ ap (λ (b : List ℕ). Bytes b) same) h

  abbrev Kinds : Type 0
  Kinds = Reference a ⊎ (Placed from a ⊎ (Slotted from origin a ⊎ (Filed from origin a ⊎ (Computed a ⊎ (Listed a ⊎ Other a)))))

  -- the file of a number, by the line table that the unit has
  file_by : (o : Option ℕ) → IsFileBy o w.scope (number_of old.raw) w.read.value → FileSays (text_sections_of w.scope.around.sources) w.scope.around.sources.line o a
  file_by None f = (sym same_raw ∙ f.0, same_value ∙ ap (λ (v : Value ℕ). value_map w.name v) f.1)
  file_by (Some place) f = record {
    table = f.table;
    stands = f.stands;
    path = f.path;
    is_path = ap (λ (z : ℤ). path_by f.table z) (sym same_raw) ∙ f.is_path;
    value = same_value ∙ ap (λ (v : Value ℕ). value_map w.name v) f.value;
  }

  constant : class_of a.form ≡ OfConstant → (b : Bool) → names_file a.name ≡ b → MeansAs OfConstant w.scope old w.read.value → Kinds
  constant e true names m = inr (inr (inr (inl (record {
    scope = w.scope;
    old = w.old;
    file = came.file;
    numbers = (e, names);
    says = subst (λ (o : Option ℕ). FileSays (text_sections_of w.scope.around.sources) w.scope.around.sources.line o a) (ap (λ (b : Bases). b.line) came.unit)
        (file_by (stmt_list w.scope) (if_true (names_file old.pair.name) _ _ (ap names_file same_name ∙ names) m));
    chosen = λ f. ap (λ (d : Class). with_form a (fit_as d f a)) e ∙ ap (λ (b : Bool). with_form a (as_constant b f a)) names;
    sound = other_sound (subst (λ (d : Class). StoresAs d a) (sym e) (number OfConstant e refl (λ x. cc) has_bytes));
  }))))
  constant e false names m = inr (inr (inr (inr (inr (inr (other OfConstant e names (λ f. ap (λ (b : Bool). as_constant b f a) names) (number OfConstant e refl (λ x. cc))
      (λ r t own. so_not (names_file a.name) _ _ names r)))))))

  plain_is_expr : (m : IsExpression w.scope old w.read.value) → a.value.plain ≡ Expr (parts_of m.expression)
  plain_is_expr m = ap (λ (v : Value K). v.plain) same_value ∙ ap (λ (v : Value ℕ). v.plain) m.value

  -- its length is that of a block that was read
  short_expr : class_of a.form ≡ OfExpression → (m : IsExpression w.scope old w.read.value) → length (expr_bytes zeros 0 a.value.plain a.value.refs) < 2 ^ 64
  short_expr e m =
      let block = exprloc_block (constant_of (pair_of a)) has_bytes.bytes old.raw
      (subst (λ (f : ℕ). SpellsShape (shape_of written_rows f) (constant_of (pair_of a)) has_bytes.bytes old.raw) (expression_form a.form e) has_bytes.spelled) in
      let refs : a.value.refs ≡ map w.name (targets w.scope m.expression.operands) = ap (λ (v : Value K). v.refs) same_value ∙ ap (λ (v : Value ℕ). map w.name v.refs) m.value in
      let many : length a.value.refs ≡ length m.expression.operands = ap length refs ∙ length-map (targets w.scope m.expression.operands) w.name
      ∙ length-map m.expression.operands (λ (o : Operand). w.scope.around.place (target_of w.scope o)) in
      let as_long = expr_as_long zeros 0 (expr_context w.scope 1) m.expression (block_begins old) (bytes_of old.raw) a.value.refs m.spelled many in
      let same = ap (λ (p : Plain). length (expr_bytes zeros 0 p a.value.refs)) (plain_is_expr m) in
      omega (arith, block, as_long, same)

  by_class : (c : Class) → class_of a.form ≡ c → IsBuiltAs c → MeansAs c w.scope old w.read.value → Kinds
  by_class OfAddress e built m = inr (inr (inr (inr (inr (inr (other OfAddress e tt (λ f. refl) (number OfAddress e refl (λ x. cc)) (λ r t own. r)))))))
  by_class OfBlock e built m = inr (inr (inr (inr (inr (inr (other OfBlock e tt (λ f. refl) (content OfBlock _ e refl (sym (ap block_in (plain_of _ m)))) (λ r t own. r)))))))
  by_class OfConstant e built m = constant e (names_file a.name) refl m
  by_class OfFlag e built m = inr (inr (inr (inr (inr (inr (other OfFlag e tt (λ f. refl) (number OfFlag e refl (λ x. cc)) (λ r t own. r)))))))
  by_class OfText e built m = inr (inr (inr (inr (inr (inr (other OfText e tt (λ f. refl) (content OfText _ e refl (sym (ap text_or_empty (plain_of _ m)))) (λ r t own. r)))))))
  by_class OfTextInStr e built m = inr (inl (record {
    scope = w.scope;
    old = w.old;
    file = came.file;
    text = m.text;
    value = same_value ∙ ap (λ (v : Value ℕ). value_map w.name v) m.value;
    sound = other_sound (subst (λ (d : Class). StoresAs d a) (sym e) (number OfTextInStr e refl (λ x. cc) has_bytes));
    class = inl (e, subst (λ (z : ℤ). IsTextAt w.scope.around.sources.strs (reach z) m.text) same_raw m.stands);
  }))
  by_class OfTextInLineStr e built m = inr (inl (record {
    scope = w.scope;
    old = w.old;
    file = came.file;
    text = m.text;
    value = same_value ∙ ap (λ (v : Value ℕ). value_map w.name v) m.value;
    sound = other_sound (subst (λ (d : Class). StoresAs d a) (sym e) (number OfTextInLineStr e refl (λ x. cc) has_bytes));
    class = inr (e, subst (λ (z : ℤ). IsTextAt w.scope.around.sources.line_strs (reach z) m.text) same_raw m.stands);
  }))
  by_class OfTextBySlot e built m = inr (inr (inl (record {
    scope = w.scope;
    old = w.old;
    file = came.file;
    base = m.base;
    is_base = sym (ap (λ (b : Bases). b.slots) came.unit) ∙ m.is_base;
    offset = m.offset;
    slot = subst (λ (z : ℤ). IsSlot w.scope.around.sources.offsets m.base (reach z) m.offset) same_raw m.slot;
    text = m.text.text;
    stands = m.text.stands;
    value = same_value ∙ ap (λ (v : Value ℕ). value_map w.name v) m.text.value;
    sound = other_sound (subst (λ (d : Class). StoresAs d a) (sym e) (number OfTextBySlot e refl (λ x. cc) has_bytes));
    class = e;
  })))
  by_class OfUnitEntry e built m = inl (reference OfUnitEntry e tt (λ f. refl) _ (same_value ∙ ap (λ (v : Value ℕ). value_map w.name v) m.1))
  by_class OfInfoEntry e built m = inl (reference OfInfoEntry e tt (λ f. refl) _ (same_value ∙ ap (λ (v : Value ℕ). value_map w.name v) m.1))
  by_class OfCommonEntry e built m = inl (reference OfCommonEntry e tt (λ f. refl) _ (same_value ∙ ap (λ (v : Value ℕ). value_map w.name v) m.2.1))
  by_class OfSignature e built m = inr (inr (inr (inr (inr (inr (other OfSignature e tt (λ f. refl) (number OfSignature e refl (λ x. cc)) (λ r t own. r)))))))
  by_class OfOffset e built m = by (names_list a.name) refl where
    by : (b : Bool) → names_list a.name ≡ b → Kinds
    by true names = inr (inr (inr (inr (inr (inl (record {
      class = inl (e, names);
      stays = λ f. ap (λ (d : Class). with_form a (fit_as d f a)) e;
      sound = other_sound (subst (λ (d : Class). StoresAs d a) (sym e) (number OfOffset e refl (λ x. cc) has_bytes));
    }))))))
    by false names =
        (let m' = if_false (names_list old.pair.name) _ _ (ap names_list same_name ∙ names) m in
        inr (inr (inr (inr (inr (inr (other OfOffset e tt (λ f. refl) (number OfOffset e refl (λ x. cc))
        (λ r t own. so_not (names_list a.name) _ _ names (same_value ∙ ap (λ (v : Value ℕ). value_map w.name v) m' ∙ ap (λ (z : ℤ). only (Sec (reach z))) same_raw)))))))))
  by_class OfExpression e built m = inr (inr (inr (inr (inl (record {
    context = expr_context w.scope 1;
    expression = m.expression;
    start = block_begins old;
    bytes = bytes_of old.raw;
    spelled = m.spelled;
    plain = plain_is_expr m;
    address = ap (λ (v : Value K). v.address) same_value ∙ ap (λ (v : Value ℕ). v.address) m.value;
    class = e;
    sound = other_sound (subst (λ (d : Class). StoresAs d a) (sym e) (record { form = expression_form a.form e; short = short_expr e m }));
  })))))
  by_class OfListIndex e built m = inr (inr (inr (inr (inr (inl (record {
    class = inr e;
    stays = λ f. ap (λ (d : Class). with_form a (fit_as d f a)) e;
    sound = other_sound (subst (λ (d : Class). StoresAs d a) (sym e) (number OfListIndex e refl (λ x. cc) has_bytes));
  }))))))
  by_class OfIndex e built m = inr (inr (inr (inr (inr (inr (other OfIndex e tt (λ f. refl) (number OfIndex e refl (λ x. cc)) (λ r t own. r)))))))
  by_class OfCommonText e built m = absurd built
  by_class Unread e built m = absurd built

  pub came_is : Kinds
  came_is = by_class (class_of a.form) refl came.built (subst (λ (f : ℕ). MeansAs (class_of f) w.scope old w.read.value) same_form w.means.value)

imports_is : {K : Type 0} (a : Attr K) → Imports a → Reference a
imports_is a is = record {
  class = subst IsEntryClass (sym (ap class_of is.form ∙ import_class)) tt;
  some_name = omega (arith, is.name);
  name_fits = omega (arith, is.name);
  no_sibling = λ e. omega (arith, is.name, e);
  target = is.target;
  value = is.value;
  chosen = λ f. ap (λ (d : Class). with_form a (fit_as d f a)) (ap class_of is.form ∙ import_class);
}

-- ---- the line table of a partial unit

lines_is : {K : Type 0} (a : Attr K) → NamesLines a → Other a
lines_is a is =
    let class : class_of a.form ≡ OfOffset = ap class_of is.form ∙ offset_class in
    let bytes : HasBytes a (Number a.raw) = record {
      bytes = le_bytes 4 is.place;
      are_bytes = le_are 4 is.place;
      spelled = subst (λ (z : ℤ). SpellsShape (shape_of written_rows a.form) (constant_of (pair_of a)) (le_bytes 4 is.place) (Number z)) (sym is.raw)
          (subst (λ (f : ℕ). SpellsShape (shape_of written_rows f) (constant_of (pair_of a)) (le_bytes 4 is.place) (Number (pos is.place))) (sym is.form)
          (offset_spelled (constant_of (pair_of a)) is.place is.fits));
    } in
    record {
      keeps = subst (λ (d : Class). KeepsForm d (names_file a.name)) (sym class) tt;
      stays = λ f. ap (λ (d : Class). with_form a (fit_as d f a)) class;
      sound = record {
        some_name = omega (arith, is.name);
        name_fits = omega (arith, is.name);
        no_sibling = λ e. omega (arith, is.name, e);
        known = λ u. (let no : OfOffset ≡ Unread = sym class ∙ u in cc);
        constant = λ e. absurd (omega (arith, is.form, e));
        value = subst (λ (d : Class). StoresAs d a) (sym class) bytes;
      };
      says = λ t own. subst (λ (d : Class). SaysAs d t own a) (sym class)
          (so_not (names_list a.name) _ _ (ap names_list is.name ∙ no_list) (is.value ∙ ap (λ (z : ℤ). only (Sec (reach z))) (sym is.raw)));
    }

pub carried_is : {K : Type 0} (from : From) (origin : Bases) (a : Attr K) → CarriedAttr from origin a
    → Reference a ⊎ (Placed from a ⊎ (Slotted from origin a ⊎ (Filed from origin a ⊎ (Computed a ⊎ (Listed a ⊎ Other a)))))
carried_is from origin a is = elim is [ inl c ↦ came_is from origin a c | inr more ↦ elim more [ inl i ↦ inl (imports_is a i) | inr l ↦ inr (inr (inr (inr (inr (inr (lines_is a l)))))) ] ]
