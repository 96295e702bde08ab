-- What a value says that binds, by the class of its form.
use Rattle.std.proofs.Common.{◌≡◌, ◌≢◌, ◌↔◌, ◌⊎◌, ℕ, Bool, true, false, zero, suc, List, [], ◌∷◌, length, drop, map, Option, Some, None, ℤ, Ok, refl, sym, ap, subst, ◌∙◌, eqb, eqb-true, inl, inr}
use Rattle.std.proofs.Common.{arith}
use Rattle.std.specs.Prelude.{not, ◌==◌, ◌||◌, if◌then◌else◌, slice_index_or}
use Rattle.std.specs.List.{list_all, list_any}
use Rattle.std.proofs.lemmas.Bool.{false≢true, ne_eqb}
use Rattle.dwz_def_reading.proofs.GroupLemmas.{chosen}
use Rattle.dwz_def_tops.specs.Alike.{attr_binds, binding_forms, has_operand, holds_place, leaves}
use Rattle.dwz_def_tops.specs.Spots.{EntryName, Top}
use Rattle.dwz_def_reading.specs.Entries.{RawAttr}
use Rattle.dwz_def_reading.specs.Rows.{has}
use Rattle.dwz_def_reading.proofs.CaseFacts.{or_left, or_right}
use Rattle.dwz_def_reading.proofs.AbbrevLemmas.{and_true}
use Rattle.dwz_def_reading.specs.declared.exprs.Operand.{Operand}
use Rattle.dwz_def_reading.specs.Documents.{Expr, Plain, Value, attr_map, only, ref}
use Rattle.dwz_def_reading.specs.Exprs.{Expression, expr_at, parts_from}
use Rattle.dwz_def_reading.specs.Meanings.{IfSo, IsExpression, IsFileBy, MeansAs}
use Rattle.dwz_def_reading.specs.Classes.{OfAddress, OfBlock, OfCommonEntry, OfCommonText, OfConstant, OfExpression, OfFlag, OfIndex, OfInfoEntry}
use Rattle.dwz_def_reading.specs.Classes.{Class, ClassRow}
use Rattle.dwz_def_reading.specs.Meanings.{MeaningContext, bytes_of}
use Rattle.dwz_def_reading.specs.Classes.{OfListIndex, OfOffset, OfSignature, OfText, OfTextBySlot, OfTextInLineStr, OfTextInStr, OfUnitEntry, Unread}
use Rattle.dwz_def_reading.specs.Classes.{class_in, class_of}
use Rattle.dwz_def_reading.specs.Meant.{attr_with}
use Rattle.dwz_def_reading.specs.Meanings.{block_begins, constant_value, expr_context, expr_value, number_of, stmt_list, target_of}
use Rattle.dwz_def_reading.specs.Classes.{class_rows, names_file}
use Rattle.dwz_def_reading.specs.Meant.{meaning}
use Rattle.dwz_def_reading.proofs.ExprLemmas.{expr_agrees}
use Rattle.dwz_def_reading.proofs.MeaningLemmas.{value_agrees}
use Rattle.dwz_graph.specs.Named.{refs_beside, value_refs}
use Rattle.dwz_graph.proofs.PlainBeside.{none_beside}
use Rattle.dwz_move.specs.Bound.{AreInto, count_of, is_expression}
use Rattle.dwz_graph.specs.Names.{top_in}
use Rattle.dwz_move.specs.Values.{is_entry}

-- ---- lists have binding forms

is_list : Class → Bool
is_list OfOffset = true
is_list OfListIndex = true
is_list _ = false

binds_list : ClassRow → Bool
binds_list r = not (is_list r.class) || has r.form binding_forms

rows_bind : list_all binds_list class_rows ≡ true
unfolding binds_list is_list class_rows has
rows_bind = refl

in_rows : (rows : List ClassRow) (form : ℕ) → list_all binds_list rows ≡ true → (class_in rows form ≡ Unread) ⊎ ((not (is_list (class_in rows form)) || has form binding_forms) ≡ true)
unfolding class_in binds_list
in_rows [] form all = inl refl
in_rows (r ∷ rows) form all =
    let both = and_true (binds_list r) (list_all binds_list rows) all in
    elim (chosen (eqb r.form form) r.class (class_in rows form) (class_in (r ∷ rows) form) refl) [
      | inl h ↦ inr ((λ i. not (is_list (sym h.1 i)) || has (sym (eqb-true r.form form h.0) i) binding_forms) ∙ both.0)
      | inr h ↦ elim (in_rows rows form both.1) [ inl none ↦ inl (sym h.1 ∙ none) | inr some ↦ inr ((λ i. not (is_list (sym h.1 i)) || has form binding_forms) ∙ some) ]
    ]

-- a list's form binds
list_binds : (form : ℕ) (c : Class) → class_of form ≡ c → is_list c ≡ true → has form binding_forms ≡ true
unfolding is_list
list_binds form c e l = elim (in_rows class_rows form rows_bind) [
  | inl none ↦ absurd (let no : is_list c ≡ false = ap is_list (sym e ∙ none) in cc)
  | inr some ↦ (let yes : is_list (class_of form) ≡ true = ap is_list e ∙ l in by (is_list (class_of form)) yes (has form binding_forms) some)
]
  where
    by : (a : Bool) → a ≡ true → (b : Bool) → (not a || b) ≡ true → b ≡ true
    by true q b h = h
    by false q b h = absurd cc

-- ---- what a value is that doesn't bind by its form

abbrev Names : Value ℕ → Type 0
Names v = (p : ℕ) × (v ≡ ref p)

-- it names nothing and holds no place
abbrev IsPlain : Value ℕ → Type 0
IsPlain v = (holds_place v ≡ false) × (v.refs ≡ [])

plain_only : (v : Value ℕ) (plain : Plain) → has_operand plain ≡ false → v ≡ only plain → IsPlain v
plain_only v plain e is = (ap (λ (w : Value ℕ). holds_place w) is ∙ ap (λ (b : Bool). b || false) e, ap (λ (w : Value ℕ). w.refs) is)

module _ (s : MeaningContext ℕ) (a : RawAttr) (v : Value ℕ) (free : has a.pair.form binding_forms ≡ false) where
  abbrev Says : Class → Type 0
  Says c = (is_entry c ≡ true → Names v) × (is_entry c ≡ false → is_expression c ≡ false → IsPlain v)

  plainly : (c : Class) → is_entry c ≡ false → IsPlain v → Says c
  plainly c e p = (λ is. absurd (let no : false ≡ true = sym e ∙ is in false≢true no), λ x y. p)

  entry : (c : Class) (p : ℕ) → is_entry c ≡ true → v ≡ ref p → Says c
  entry c p e is = (λ x. (p, is), λ no y. absurd (let q : false ≡ true = sym no ∙ e in false≢true q))

  of_file : (o : Option ℕ) (z : ℤ) → IsFileBy o s z v → IsPlain v
  of_file None z m = plain_only v _ refl m.1
  of_file (Some place) z m = plain_only v _ refl m.value

  constant : (file : Bool) → IfSo file (IsFileBy (stmt_list s) s (number_of a.raw) v) (v ≡ constant_value a) → IsPlain v
  constant true m = of_file (stmt_list s) (number_of a.raw) m
  constant false m = plain_only v _ refl m

  says : (c : Class) → class_of a.pair.form ≡ c → MeansAs c s a v → Says c
  unfolding is_list
  says OfAddress e m = plainly OfAddress refl (plain_only v _ refl m)
  says OfBlock e m = plainly OfBlock refl (plain_only v _ refl m)
  says OfConstant e m = plainly OfConstant refl (constant (names_file a.pair.name) m)
  says OfFlag e m = plainly OfFlag refl (plain_only v _ refl m)
  says OfText e m = plainly OfText refl (plain_only v _ refl m)
  says OfTextInStr e m = plainly OfTextInStr refl (plain_only v _ refl m.value)
  says OfTextInLineStr e m = plainly OfTextInLineStr refl (plain_only v _ refl m.value)
  says OfTextBySlot e m = plainly OfTextBySlot refl (plain_only v _ refl m.text.value)
  says OfUnitEntry e m = entry OfUnitEntry _ refl m.1
  says OfInfoEntry e m = entry OfInfoEntry _ refl m.1
  says OfSignature e m = plainly OfSignature refl (plain_only v _ refl m)
  says OfOffset e m = absurd (let q : false ≡ true = sym free ∙ list_binds a.pair.form OfOffset e refl in false≢true q)
  says OfExpression e m = (λ no. absurd (false≢true no), λ x y. absurd (false≢true (sym y)))
  says OfListIndex e m = absurd (let q : false ≡ true = sym free ∙ list_binds a.pair.form OfListIndex e refl in false≢true q)
  says OfIndex e m = plainly OfIndex refl (plain_only v _ refl m)
  says OfCommonEntry e m = entry OfCommonEntry _ refl m.2.1
  says OfCommonText e m = plainly OfCommonText refl (plain_only v _ refl m.2.value)
  says Unread e m = absurd m

  pub value_says : meaning s a ≡ Ok v → Says (class_of a.pair.form)
  value_says e = says (class_of a.pair.form) refl (((value_agrees s a).ok v).0 e)

-- ---- an expression

expression_is : (s : MeaningContext ℕ) (a : RawAttr) (v : Value ℕ) (c : Class) → is_expression c ≡ true → MeansAs c s a v → IsExpression s a v
expression_is s a v OfExpression e m = m
expression_is s a v _ e m = absurd cc

pub said_expression : (s : MeaningContext ℕ) (a : RawAttr) (v : Value ℕ) → is_expression (class_of a.pair.form) ≡ true → meaning s a ≡ Ok v → IsExpression s a v
said_expression s a v e is = expression_is s a v (class_of a.pair.form) e (((value_agrees s a).ok v).0 is)

-- ---- it holds a place exactly if it has an address, or an operand that names an entry

operand_among : (at : ℕ) (bytes : List ℕ) (o : Operand) (os : List Operand) → has_operand (Expr (parts_from at bytes (o ∷ os))) ≡ true
unfolding parts_from
operand_among at bytes o os = refl

no_operand : (at : ℕ) (bytes : List ℕ) → has_operand (Expr (parts_from at bytes [])) ≡ false
unfolding parts_from
no_operand at bytes = refl

place_tells : (s : MeaningContext ℕ) (e : Expression) (os : List Operand) → e.operands ≡ os → (holds_place (expr_value s e) ≡ true) ↔ ((e.address ≡ true) ⊎ (e.operands ≢ []))
place_tells s e [] is =
    let same : holds_place (expr_value s e) ≡ e.address = ap (λ (w : List Operand). has_operand (Expr (parts_from e.at e.bytes w)) || e.address) is
    ∙ ap (λ (b : Bool). b || e.address) (no_operand e.at e.bytes) in (
      λ h. inl (sym same ∙ h),
      λ h. elim h [ inl a ↦ same ∙ a | inr some ↦ absurd (some is) ],
    )
place_tells s e (o ∷ os) is = (
  λ h. inr (λ none. let no : (o ∷ os) ≡ [] = sym is ∙ none in cc),
  λ h. ap (λ (w : List Operand). has_operand (Expr (parts_from e.at e.bytes w)) || e.address) is ∙ ap (λ (b : Bool). b || e.address) (operand_among e.at e.bytes o os),
)

-- ---- and whether it binds

or_true : (b : Bool) → (b || true) ≡ true
or_true true = refl
or_true false = refl

or_false : (b : Bool) → (b || false) ≡ b
or_false true = refl
or_false false = refl

not_true : (b : Bool) → (b ≡ true → ⊥) → b ≡ false
not_true true h = absurd (h refl)
not_true false h = refl

-- the top of the first reference
pub first_into : (name : ℕ → EntryName) (into : List (Option ℕ)) (n p : ℕ) (ps : List ℕ) → AreInto name (drop n into) (p ∷ ps) → slice_index_or into n None ≡ top_in (name p)
first_into name [] zero p ps h = absurd h
first_into name [] (suc n) p ps h = absurd h
first_into name (t ∷ into) zero p ps h = h.0
first_into name (t ∷ into) (suc n) p ps h = first_into name into n p ps h

module _ (tops : List Top) (unit : ℕ) (name : ℕ → EntryName) (a : RawAttr) (v : Value ℕ) where
  abbrev pub Binds : Bool → Type 0
  Binds b = b ≡ attr_binds tops unit (attr_map name (attr_with a v))

  pub binds_form : has a.pair.form binding_forms ≡ true → Binds true
  binds_form e = λ i. sym e i || (holds_place v || list_any (leaves tops unit) (map name v.refs))

  pub binds_entry : (p : ℕ) → has a.pair.form binding_forms ≡ false → v ≡ ref p → Binds (leaves tops unit (name p))
  binds_entry p free e = sym ((λ i. free i || (holds_place (e i) || list_any (leaves tops unit) (map name (e i).refs))) ∙ or_false (leaves tops unit (name p)))

  pub binds_plain : has a.pair.form binding_forms ≡ false → holds_place v ≡ false → v.refs ≡ [] → Binds false
  binds_plain free h r = sym (λ i. free i || (h i || list_any (leaves tops unit) (map name (r i))))

  binds_place : holds_place v ≡ true → Binds true
  binds_place h = sym ((λ i. has a.pair.form binding_forms || (h i || list_any (leaves tops unit) (map name v.refs))) ∙ or_true (has a.pair.form binding_forms))

  module _ (s : MeaningContext ℕ) (m : IsExpression s a v) where
    abbrev e : Expression
    e = m.expression

    tells : (holds_place v ≡ true) ↔ ((e.address ≡ true) ⊎ (e.operands ≢ []))
    tells =
        let t = place_tells s e e.operands refl in
        let same : holds_place v ≡ holds_place (expr_value s e) = ap (λ (w : Value ℕ). holds_place w) m.value in
        (λ h. t.0 (sym same ∙ h), λ h. same ∙ t.1 h)

    pub binds_address : e.address ≡ true → Binds true
    binds_address h = binds_place (tells.1 (inl h))

    pub binds_operands : has a.pair.form binding_forms ≡ false → e.address ≡ false → (os : List Operand) → e.operands ≡ os → Binds (not (length os == 0))
    binds_operands free other [] is = binds_plain free (not_true (holds_place v) none) refs where
      none : holds_place v ≡ true → ⊥
      none x = elim (tells.0 x) [ inl y ↦ (let q : false ≡ true = sym other ∙ y in false≢true q) | inr some ↦ some is ]

      refs : v.refs ≡ []
      refs = ap (λ (w : Value ℕ). w.refs) m.value ∙ ap (λ (w : List Operand). map (λ (o : Operand). s.around.place (target_of s o)) w) is
    binds_operands free other (o ∷ os) is =
        let some : (length (o ∷ os) == 0) ≡ false = ne_eqb (length (o ∷ os)) 0 (λ z. omega arith) in
        subst (λ (b : Bool). Binds (not b)) (sym some) (binds_place (tells.1 (inr (λ none. let q : (o ∷ os) ≡ [] = sym is ∙ none in cc))))

    pub reads : expr_at (expr_context s 1) (record { at = block_begins a; rest = bytes_of a.raw }) ≡ Ok e
    reads = ((expr_agrees (expr_context s 1) (record { at = block_begins a; rest = bytes_of a.raw })).ok e).1 m.spelled

-- ---- how many entries a value names that doesn't bind

abbrev pub Free : List Top → ℕ → (ℕ → EntryName) → RawAttr → Value ℕ → Type 0
Free tops unit name a v = false ≡ attr_binds tops unit (attr_map name (attr_with a v))

no_refs : (v : Value ℕ) → v.refs ≡ [] → length (value_refs v) ≡ 0
no_refs v e = ap (λ (ps : List ℕ). length (refs_beside v.plain ps)) e ∙ ap (λ (ps : List ℕ). length ps) (none_beside v.plain)

no_operands : (os : List Operand) → (os ≢ [] → ⊥) → os ≡ []
no_operands [] h = refl
no_operands (o ∷ os) h = absurd (h (λ e. cc))

module _ (tops : List Top) (unit : ℕ) (name : ℕ → EntryName) (s : MeaningContext ℕ) (a : RawAttr) (v : Value ℕ) (is : meaning s a ≡ Ok v) (free : Free tops unit name a v) where
  form_free : has a.pair.form binding_forms ≡ false
  form_free = or_left (has a.pair.form binding_forms) _ (sym free)

  place_free : holds_place v ≡ false
  place_free = or_left (holds_place v) _ (or_right (has a.pair.form binding_forms) _ (sym free))

  by_class : (c : Class) → class_of a.pair.form ≡ c → (b d : Bool) → is_entry c ≡ b → is_expression c ≡ d → count_of c ≡ length (value_refs v)
  by_class c e true d p q =
      let o = (value_says s a v form_free is).0 (ap is_entry e ∙ p) in
      ap (λ (x : Bool). let n : ℕ = if x then 1 else 0 in n) p ∙ sym (ap (λ (w : Value ℕ). length (value_refs w)) o.1)
  by_class c e false false p q =
      let o = (value_says s a v form_free is).1 (ap is_entry e ∙ p) (ap is_expression e ∙ q) in
      ap (λ (x : Bool). let n : ℕ = if x then 1 else 0 in n) p ∙ sym (no_refs v o.1)
  by_class c e false true p q =
      let m = said_expression s a v (ap is_expression e ∙ q) is in
      let none = no_operands m.expression.operands (λ some. let yes = (tells tops unit name a v s m).1 (inr some) in false≢true (sym place_free ∙ yes)) in
      let refs : v.refs ≡ [] = ap (λ (w : Value ℕ). w.refs) m.value ∙ ap (λ (w : List Operand). map (λ (o : Operand). s.around.place (target_of s o)) w) none in
      ap (λ (x : Bool). let n : ℕ = if x then 1 else 0 in n) p ∙ sym (no_refs v refs)

  pub value_counts : count_of (class_of a.pair.form) ≡ length (value_refs v)
  value_counts = by_class (class_of a.pair.form) refl (is_entry (class_of a.pair.form)) (is_expression (class_of a.pair.form)) refl refl

-- ---- what a value says where its form doesn't bind and it is no expression: what it names may leave

module _ (tops : List Top) (unit : ℕ) (name : ℕ → EntryName) (s : MeaningContext ℕ) (a : RawAttr) (v : Value ℕ) (is : meaning s a ≡ Ok v) (free : has a.pair.form binding_forms ≡ false)
    (none : is_expression (class_of a.pair.form) ≡ false) where
  pub record NamesAlone : Type 0 where
    pub counts : count_of (class_of a.pair.form) ≡ length (value_refs v)
    pub binds : attr_binds tops unit (attr_map name (attr_with a v)) ≡ list_any (leaves tops unit) (map name (value_refs v))

  names_by : (b : Bool) → is_entry (class_of a.pair.form) ≡ b → NamesAlone
  names_by true p =
      let o = (value_says s a v free is).0 p in
      record {
        counts = ap (λ (x : Bool). let n : ℕ = if x then 1 else 0 in n) p ∙ sym (ap (λ (w : Value ℕ). length (value_refs w)) o.1);
        binds = sym (binds_entry tops unit name a v o.0 free o.1) ∙ sym (or_false (leaves tops unit (name o.0)))
            ∙ sym (ap (λ (w : Value ℕ). list_any (leaves tops unit) (map name (value_refs w))) o.1);
      }
  names_by false p =
      let o = (value_says s a v free is).1 p none in
      let refs : value_refs v ≡ [] = ap (λ (ps : List ℕ). refs_beside v.plain ps) o.1 ∙ none_beside v.plain in
      record {
        counts = ap (λ (x : Bool). let n : ℕ = if x then 1 else 0 in n) p ∙ sym (no_refs v o.1);
        binds = sym (binds_plain tops unit name a v free o.0 o.1) ∙ sym (ap (λ (ps : List ℕ). list_any (leaves tops unit) (map name ps)) refs);
      }

  pub names_alone : NamesAlone
  names_alone = names_by (is_entry (class_of a.pair.form)) refl
