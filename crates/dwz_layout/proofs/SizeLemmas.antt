-- How many bytes an attribute has, by its way.
use Rattle.std.proofs.Common.{◌≡◌, ℕ, ◌+◌, ◌-◌, ◌<◌, ◌≤◌, List, [], ◌∷◌, ◌++◌, get_or, length, pos, None, Some, refl, sym, ap, subst, ◌∙◌, arith}
use Rattle.std.specs.Prelude.{All, IfOk, OnOk, Result, Ok, Err}
use Rattle.std.proofs.lemmas.List.{length-append}
use Rattle.dwz_def_reading.specs.Spelling.{uleb}
use Rattle.dwz_def_reading.specs.Forms.{form_rows}
use Rattle.dwz_def_reading.specs.Entries.{RawAttr}
use Rattle.dwz_def_reading.specs.Input.{Input}
use Rattle.dwz_def_reading.specs.Abbrevs.{IsPlainPair}
use Rattle.dwz_def_reading.specs.Values.{Bytes, Number, Raw, value_at, value_bytes, written_rows}
use Rattle.dwz_model.specs.declared.fault.Fault.{Fault}
use Rattle.dwz_model.specs.declared.place.Pair.{Pair}
use Rattle.dwz_def_reading.specs.declared.exprs.Operand.{Operand}
use Rattle.dwz_def_reading.specs.Exprs.{any_operands, expr_at, parts_from}
use Rattle.dwz_def_reading.specs.Meanings.{bytes_of}
use Rattle.dwz_def_reading.specs.Patching.{filled}
use Rattle.dwz_def_encoding.specs.Placing.{reach_by}
use Rattle.dwz_layout.specs.declared.known.ValueCounts.{ValueCounts}
use Rattle.dwz_layout.specs.declared.known.EntryTable.{EntryTable}
use Rattle.dwz_layout.specs.declared.known.Row.{Row}
use Rattle.dwz_layout.specs.declared.known.TextAt.{TextAt}
use Rattle.dwz_layout.specs.declared.walk.Origin.TheVariants.{Read}
use Rattle.dwz_layout.specs.declared.ways.Rewrite.{Rewrite}
use Rattle.dwz_layout.specs.declared.ways.Rewrite.TheVariants.{AsEntry, AsExpression, AsFile, AsRead, AsText, Dropped, KeepsText}
use Rattle.dwz_layout.specs.Attributes.{WritingContext, Numbers, OutAttr, Read as Stored, plain_pair, after, after_by, attrs_of, entry_attr, expr_attr, expr_parts, file_attr, import_attr, line_attrs}
use Rattle.dwz_layout.specs.Attributes.{name_by}
use Rattle.dwz_layout.specs.Attributes.{no_numbers, operand_count, operand_numbers, out_attr, out_by, parts_or, raw_of, read_attr, references_from, stored_all, stored_of, text_attr, value_read}
use Rattle.dwz_layout.specs.Known.{HasValues, firsts_of, row_at}
use Rattle.dwz_layout.specs.Stored.{pairs_of, values_bytes}
use Rattle.dwz_layout.specs.Ways.{rewrite_of}
use Rattle.dwz_layout.proofs.LeftLemmas.{LeftOf, left_end, left_next, left_start, left_value, length_more, no_attrs, no_values, one_value, pairs_more}
use Rattle.dwz_layout.proofs.NumberLemmas.{line_len, number_bytes, ref_len, text_len}
use Rattle.dwz_layout.proofs.PartLemmas.{count_from, expr_len}
use Rattle.dwz_layout.proofs.PlainLemmas.{plain_none}

one_len : (n : Numbers) (a : OutAttr) → length (values_bytes (stored_all n (a ∷ []))) ≡ length (value_bytes a.pair.form (raw_of n a.pair.form a.content))
one_len n a = ap (λ (w : List ℕ). length w) (one_value (stored_of n a))

-- so many bytes have all that is stored
abbrev pub Sized : Numbers → List OutAttr → ℕ → Type 0
Sized n attrs size = size ≡ length (values_bytes (stored_all n attrs))

pub none_sized : (n : Numbers) → Sized n [] 0
none_sized n = sym (ap (λ (w : List ℕ). length w) no_values)

pub read_sized : (n : Numbers) (a : RawAttr) (size : ℕ) → size ≡ length (value_bytes a.pair.form a.raw) → Sized n (read_attr a ∷ []) size
read_sized n a size is = is ∙ sym (one_len n (read_attr a))

pub text_sized : (n : Numbers) (name : ℕ) (text : TextAt) → Sized n (text_attr name text ∷ []) 4
text_sized n name text = text_len text ∙ sym (one_len n (text_attr name text))

pub file_sized : (n : Numbers) (name number size : ℕ) → size ≡ length (uleb number) → Sized n (file_attr name number ∷ []) size
file_sized n name number size is = is ∙ sym (ap (λ (w : List ℕ). length w) (number_bytes number)) ∙ sym (one_len n (file_attr name number))

pub entry_sized : (n : Numbers) (k : EntryTable) (here name number : ℕ) → Sized n (entry_attr k here name number ∷ []) 4
entry_sized n k here name number = ref_len (reach_by _ _) _ ∙ sym (one_len n (entry_attr k here name number))

pub import_sized : (n : Numbers) (k : EntryTable) (here unit : ℕ) → Sized n (import_attr k here unit ∷ []) 4
import_sized n k here unit = ref_len (reach_by _ _) _ ∙ sym (one_len n (import_attr k here unit))

pub expr_bytes_are : (bytes : List ℕ) → value_bytes 0x18 (Bytes bytes) ≡ uleb (length bytes) ++ bytes
unfolding value_bytes form_rows
expr_bytes_are bytes = refl

pub expr_sized : (n : Numbers) (k : EntryTable) (file name next : ℕ) (a : RawAttr) (size : ℕ) → size ≡ length (uleb (length (bytes_of a.raw)) ++ bytes_of a.raw)
    → Sized n (expr_attr k file name next (expr_parts a) ∷ []) size
expr_sized n k file name next a size is =
    let parts = expr_parts a in
    let out = filled parts (operand_numbers n parts (references_from k file next (operand_count parts))) in
    let same : length out ≡ length (bytes_of a.raw) = expr_len k file next n a in
    let front : length (uleb (length out)) ≡ length (uleb (length (bytes_of a.raw))) = ap (λ (m : ℕ). length (uleb m)) same in
    let whole = ap (λ (w : List ℕ). length w) (expr_bytes_are out) in
    omega (arith, is, one_len n (expr_attr k file name next parts), whole, length-append (uleb (length out)) out, length-append (uleb (length (bytes_of a.raw))) (bytes_of a.raw), front, same)

-- ---- by the way of a value

module _ (k : EntryTable) (file : ℕ) (here : WritingContext) (next : ValueCounts) (a : RawAttr) (way : Rewrite) (is : way ≡ rewrite_of here.holder a.pair) where
  pub out_is : out_by k file here.unit next a way ≡ out_attr k file here next a
  out_is = ap (out_by k file here.unit next a) is

  pub after_is : after_by next a way ≡ after here next a
  after_is = ap (after_by next a) is

  pub out_sized : (size : ℕ) → Sized no_numbers (out_by k file here.unit next a way) size → Sized no_numbers (out_attr k file here next a) size
  out_sized size sized = sized ∙ ap (λ (attrs : List OutAttr). length (values_bytes (stored_all no_numbers attrs))) out_is

pub ok_sized : {E : Type 0} (r : Result ℕ E) (size : ℕ) (attrs : List OutAttr) → IfOk r (λ s. s ≡ size) → Sized no_numbers attrs size
    → IfOk r (λ s. s ≡ length (values_bytes (stored_all no_numbers attrs)))
ok_sized (Ok s) size attrs is sized = is ∙ sized
ok_sized (Err e) size attrs is sized = tt

pub on_ok : {T E P : Type 0} (r : Result T E) → P → OnOk r P
on_ok (Ok x) p = p
on_ok (Err e) p = tt

-- ---- expressions

abbrev pub expr_size : List ℕ → ℕ
expr_size bytes = length (uleb (length bytes) ++ bytes)

-- as many more are named as operands are read
pub expr_next : (k : EntryTable) (file : ℕ) (here : WritingContext) (next : ValueCounts) (a : RawAttr) → AsExpression ≡ rewrite_of here.holder a.pair → (bytes : List ℕ) → bytes ≡ bytes_of a.raw
    → (os : List Operand)
    → parts_from (a.end - length bytes) bytes os ≡ parts_or bytes (expr_at (any_operands 1) (record { at = a.end - length bytes; rest = bytes })) → (more len : ℕ) → len ≡ length os
    → more ≡ next.reference + len
    → record { reference = more; text = next.text; file = next.file } ≡ after here next a
expr_next k file here next a way bytes same os read more len many is =
    let parts : parts_from (a.end - length bytes) bytes os ≡ expr_parts a = read ∙ ap (λ (w : List ℕ). parts_or w (expr_at (any_operands 1) (record { at = a.end - length w; rest = w }))) same in
    let count : len ≡ operand_count (expr_parts a) = many ∙ sym (count_from (a.end - length bytes) bytes os) ∙ ap operand_count parts in
    let sum : more ≡ next.reference + operand_count (expr_parts a) = omega (arith, is, count) in
    (λ i. let f : ValueCounts = record { reference = sum i; text = next.text; file = next.file } in f) ∙ after_is k file here next a AsExpression way

-- ---- the values of an entry, one after the other

pub record Measured (k : EntryTable) (here : WritingContext) (r : Row) (pairs : List Pair) (j : ℕ) (at : Input) (next : ValueCounts) (room : List Pair) (size : ℕ) : Type 0 where
  pub done : List OutAttr
  pub left : LeftOf k here r pairs j at next done
  pub names : room ≡ pairs_of (stored_all no_numbers done)
  pub sized : Sized no_numbers done size
  pub plain : All IsPlainPair room

module _ (k : EntryTable) (here : WritingContext) (r : Row) (pairs : List Pair) where
  pub measured_none : (at : Input) (room : List Pair) → HasValues k r pairs at → room ≡ [] → Measured k here r pairs 0 at (firsts_of k r) room 0
  measured_none at room has none = record { done = []; left = left_start k here r pairs at has; names = none; sized = none_sized no_numbers; plain = plain_none room none }

  -- what the value that is read at a place added, behind which is another one
  abbrev pub Added : Result (Raw × Input) Fault → Pair → Input → ValueCounts → List Pair → ValueCounts → List Pair → ℕ → Type 0
  Added read pair place next room new names one =
      (IfOk read (λ x. place ≡ x.1))
      × (IfOk read (λ x. new ≡ after here next (value_read x.1.at pair x.0)))
      × (IfOk read (λ x. names ≡ room ++ pairs_of (stored_all no_numbers (out_attr k r.file here next (value_read x.1.at pair x.0)))))
      × (IfOk read (λ x. one ≡ length (values_bytes (stored_all no_numbers (out_attr k r.file here next (value_read x.1.at pair x.0))))))

  pub measured_more : (j : ℕ) (d : Pair) (at place : Input) (next : ValueCounts) (room : List Pair) (size : ℕ) → Measured k here r pairs j at next room size → j < length pairs
      → (new : ValueCounts) (names : List Pair) (one sum : ℕ) → Added (value_at written_rows (get_or pairs j d) at) (get_or pairs j d) place next room new names one → sum ≡ size + one
      → All IsPlainPair names → Measured k here r pairs (j + 1) place new names sum
  measured_more j d at place next room size m lt new names one sum added add plain =
      let pair = get_or pairs j d in
      let v = left_value k here r pairs j d at next m.done m.left lt in
      let a = value_read v.place.at pair v.raw in
      let attrs = out_attr k r.file here next a in
      let x = subst (λ (read : Result (Raw × Input) Fault). Added read pair place next room new names one) v.value added in
      let left = left_next k here r pairs j d at next m.done m.left lt v.place v.raw v.value in
      let named = x.2 in
      let sized = x.3 in
      record {
        done = m.done ++ attrs;
        left =
            subst (λ (i : Input). LeftOf k here r pairs (j + 1) i new (m.done ++ attrs)) (sym x.0)
            (subst (λ (f : ValueCounts). LeftOf k here r pairs (j + 1) v.place f (m.done ++ attrs)) (sym x.1) left);
        names = named ∙ ap (λ (w : List Pair). w ++ pairs_of (stored_all no_numbers attrs)) m.names ∙ sym (pairs_more no_numbers m.done attrs);
        sized = omega (arith, add, sized, m.sized, length_more no_numbers m.done attrs);
        plain = plain;
      }

  pub measured_names : (j : ℕ) (at : Input) (next : ValueCounts) (room : List Pair) (size : ℕ) → Measured k here r pairs j at next room size → length pairs ≤ j
      → room ≡ pairs_of (stored_all no_numbers (attrs_of k here (Read r)))
  measured_names j at next room size m le = m.names ∙ ap (λ (w : List OutAttr). pairs_of (stored_all no_numbers w)) (sym (left_end k here r pairs j at next m.done m.left le))

  pub measured_size : (j : ℕ) (at : Input) (next : ValueCounts) (room : List Pair) (size : ℕ) → Measured k here r pairs j at next room size → length pairs ≤ j
      → Sized no_numbers (attrs_of k here (Read r)) size
  measured_size j at next room size m le = m.sized ∙ ap (λ (w : List OutAttr). length (values_bytes (stored_all no_numbers w))) (sym (left_end k here r pairs j at next m.done m.left le))

  pub nothing_sized : row_at k r ≡ None → Sized no_numbers (attrs_of k here (Read r)) 0
  nothing_sized none = none_sized no_numbers ∙ ap (λ (w : List OutAttr). length (values_bytes (stored_all no_numbers w))) (sym (no_attrs k here r pairs none))

  pub nothing_names : (room : List Pair) → room ≡ [] → row_at k r ≡ None → room ≡ pairs_of (stored_all no_numbers (attrs_of k here (Read r)))
  nothing_names room none there = none ∙ ap (λ (w : List OutAttr). pairs_of (stored_all no_numbers w)) (sym (no_attrs k here r pairs there))

pub line_sized : (n : Numbers) (line : ℕ) → Sized n (line_attrs (Some line)) 4
line_sized n line = line_len line ∙ sym (one_len n (record { pair = plain_pair 0x10 0x17; content = Stored (Number (pos line)) }))

-- ---- names of spaces

pub ok_named : {T E : Type 0} (r : Result T E) (new old : List Pair) (p : Pair) (attrs : List OutAttr) → OnOk r (new ≡ old ++ p ∷ []) → old ≡ [] → p ∷ [] ≡ pairs_of (stored_all no_numbers attrs)
    → OnOk r (new ≡ pairs_of (stored_all no_numbers attrs))
ok_named (Ok x) new old p attrs is none same = is ∙ ap (λ (w : List Pair). w ++ p ∷ []) none ∙ same
ok_named (Err e) new old p attrs is none same = tt

module _ (text : TextAt) (a : RawAttr) (way : Rewrite) where
  pub name_text : AsText ≡ way → text_attr 0x03 text ≡ name_by text a way
  name_text is = ap (name_by text a) is

  pub name_read : (way ≡ AsText → ⊥) → read_attr a ≡ name_by text a way
  name_read other = go way other where
    go : (w : Rewrite) → (w ≡ AsText → ⊥) → read_attr a ≡ name_by text a w
    go AsText differs = absurd (differs refl)
    go Dropped differs = refl
    go AsRead differs = refl
    go KeepsText differs = refl
    go AsFile differs = refl
    go AsEntry differs = refl
    go AsExpression differs = refl

abbrev named_pairs : OutAttr → List Pair
named_pairs x = pairs_of (stored_all no_numbers (x ∷ []))

pub pair_named : (p : Pair) (x y : OutAttr) → p ≡ x.pair → x ≡ y → p ∷ [] ≡ pairs_of (stored_all no_numbers (y ∷ []))
pair_named p x y is same = ap (λ (q : Pair). q ∷ []) is ∙ ap named_pairs same

pub sized_same : (x y : OutAttr) (size : ℕ) → x ≡ y → Sized no_numbers (x ∷ []) size → Sized no_numbers (y ∷ []) size
sized_same x y size same sized = sized ∙ ap (λ (z : OutAttr). length (values_bytes (stored_all no_numbers (z ∷ [])))) same

pub space_sized : (xs ys : List OutAttr) (size : ℕ) → xs ≡ ys → Sized no_numbers ys size → Sized no_numbers xs size
space_sized xs ys size same sized = sized ∙ ap (λ (z : List OutAttr). length (values_bytes (stored_all no_numbers z))) (sym same)

pub space_ok : {T E : Type 0} (r : Result T E) (new : List Pair) (xs ys : List OutAttr) → xs ≡ ys → OnOk r (new ≡ pairs_of (stored_all no_numbers ys))
    → OnOk r (new ≡ pairs_of (stored_all no_numbers xs))
space_ok r new xs ys same is = subst (λ (z : List OutAttr). OnOk r (new ≡ pairs_of (stored_all no_numbers z))) (sym same) is

pub space_named : {E : Type 0} (r : Result ℕ E) (xs ys : List OutAttr) → xs ≡ ys → IfOk r (λ s. s ≡ length (values_bytes (stored_all no_numbers ys)))
    → IfOk r (λ s. s ≡ length (values_bytes (stored_all no_numbers xs)))
space_named r xs ys same is = subst (λ (z : List OutAttr). IfOk r (λ s. s ≡ length (values_bytes (stored_all no_numbers z)))) (sym same) is
