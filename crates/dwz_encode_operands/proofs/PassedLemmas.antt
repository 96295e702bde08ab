-- An entry of which forms tell how many it names has no operands of expressions.
use Rattle.std.proofs.Common.{◌≡◌, ℕ, ◌+◌, Bool, true, false, List, [], ◌∷◌, ◌++◌, cond, drop, length, map, Option, Some, Ok, refl, sym, ap, ◌∙◌, arith}
use Rattle.std.specs.Prelude.{◌==◌, ◌&&◌, count_by, not}
use Rattle.std.proofs.lemmas.Bool.{cond-false, cond-true}
use Rattle.std.proofs.lemmas.List.{drop_at, length-append, length-map}
use Rattle.std.proofs.lemmas.List.Sums.{sum_by-cons}
use Rattle.dwz_def_reading.specs.Reading.{◌>>=◌}
use Rattle.dwz_def_reading.specs.Entries.{RawAttr}
use Rattle.dwz_def_reading.specs.Classes.{class_of}
use Rattle.dwz_def_reading.specs.declared.exprs.Operand.{Operand}
use Rattle.dwz_def_reading.specs.Documents.{Attr, Node, Value}
use Rattle.dwz_def_reading.specs.Meanings.{MeaningContext, without_siblings}
use Rattle.dwz_def_reading.specs.Meant.{attr_with, attrs_meaning, meaning, node_meaning, with_attr}
use Rattle.dwz_def_reading.proofs.PartLemmas.{bind_ok}
use Rattle.dwz_def_output.specs.Refusals.{all_of_unit, operands_of_attr, operands_of_attrs}
use Rattle.dwz_encode_operands.specs.First.{first_over, first_of_two}
use Rattle.dwz_encode_operands.specs.Narrow.{number_by}
use Rattle.dwz_encode_operands.specs.Walked.{NotesOperands, row_operands}
use Rattle.dwz_encode_operands.proofs.FirstLemmas.{first_alone}
use Rattle.dwz_encode_operands.proofs.ValueLemmas.{none_as}
use Rattle.dwz_graph.proofs.TreeLemmas.{node_attrs}
use Rattle.dwz_graph.specs.Named.{attrs_refs, value_refs}
use Rattle.dwz_graph.specs.Rows.{node_refs}
use Rattle.dwz_model.specs.declared.place.Pair.{Pair}
use Rattle.dwz_move.proofs.NameMarks.{value_kinds}
use Rattle.dwz_move.proofs.OtherValues.{AreOthers, forms_tell, others_by_forms}
use Rattle.dwz_unit.specs.Known.{pairs_of}
use Rattle.dwz_unit.specs.Named.{is_entry, is_expression, named_count, names_entry}
use Rattle.dwz_unit.specs.Rows.{EntryRow}

-- how many entries these values name
abbrev names : List RawAttr → ℕ
names values = count_by names_entry (map (λ (a : RawAttr). a.pair) values)

counts_next : (a : RawAttr) (values : List RawAttr) → names (a ∷ values) ≡ cond (names_entry a.pair) 1 0 + names values
counts_next a values = sum_by-cons (λ (p : Pair). cond (names_entry p) 1 0) a.pair (map (λ (w : RawAttr). w.pair) values)

-- ---- values that are no expressions

-- they have no operands, and name as many entries as forms tell
record Passed (s : MeaningContext ℕ) (values : List RawAttr) (attrs : List (Attr ℕ)) : Type 0 where
  operands : operands_of_attrs s (without_siblings values) ≡ []
  many : length (attrs_refs attrs) ≡ names values

-- as many as a value's form tells
named_by_form : (s : MeaningContext ℕ) (a : RawAttr) (v : Value ℕ) → (a.pair.name == 0x01) ≡ false → is_expression (class_of a.pair.form) ≡ false → meaning s a ≡ Ok v
    → length (value_refs v) ≡ cond (names_entry a.pair) 1 0
named_by_form s a v other none e = by (is_entry (class_of a.pair.form)) refl where
  told : (b : Bool) → is_entry (class_of a.pair.form) ≡ b → names_entry a.pair ≡ b
  told b is = (λ i. not (other i) && is i)

  by : (b : Bool) → is_entry (class_of a.pair.form) ≡ b → length (value_refs v) ≡ cond (names_entry a.pair) 1 0
  by true is = ((value_kinds s a v e).0 is).1 ∙ ap (λ (b : Bool). cond b 1 0) (sym (told true is))
  by false is = ((value_kinds s a v e).1 is none).1 ∙ ap (λ (b : Bool). cond b 1 0) (sym (told false is))

passed : (s : MeaningContext ℕ) (values : List RawAttr) (attrs : List (Attr ℕ)) → AreOthers values → attrs_meaning s (without_siblings values) ≡ Ok attrs → Passed s values attrs
unfolding without_siblings attrs_meaning operands_of_attrs operands_of_attr
passed s [] attrs others m =
    let none : [] ≡ attrs = cc in
    record { operands = refl; many = ap (λ (w : List (Attr ℕ)). length (attrs_refs w)) (sym none) }
passed s (a ∷ values) attrs others m = by (a.pair.name == 0x01) refl (λ left e. passed s values left others.1 e) where
  by : (b : Bool) → (a.pair.name == 0x01) ≡ b → ((left : List (Attr ℕ)) → attrs_meaning s (without_siblings values) ≡ Ok left → Passed s values left) → Passed s (a ∷ values) attrs
  by true is later =
      let same : without_siblings (a ∷ values) ≡ without_siblings values = cond-true (a.pair.name == 0x01) (without_siblings values) (a ∷ without_siblings values) is in
      let p = later attrs (ap (attrs_meaning s) (sym same) ∙ m) in
      let zero : names values ≡ 0 + names values = omega arith in
      let none : names_entry a.pair ≡ false = (λ i. not (is i) && is_entry (class_of a.pair.form)) in
      record {
        operands = ap (operands_of_attrs s) same ∙ p.operands;
        many = p.many ∙ zero ∙ sym (counts_next a values ∙ ap (λ (b : Bool). cond b 1 0 + names values) none);
      }
  by false is later =
      let rest = without_siblings values in
      let same : without_siblings (a ∷ values) ≡ a ∷ rest = cond-false (a.pair.name == 0x01) rest (a ∷ rest) is in
      let e = ap (attrs_meaning s) (sym same) ∙ m in
      let x = bind_ok (meaning s a) (λ v. attrs_meaning s rest >>= with_attr a v) attrs e in
      let y = bind_ok (attrs_meaning s rest) (with_attr a x.0) attrs x.2 in
      let made : attr_with a x.0 ∷ y.0 ≡ attrs = cc in
      let p = later y.0 y.1 in
      let own : length (value_refs x.0) ≡ cond (names_entry a.pair) 1 0 = named_by_form s a x.0 is others.0 x.1 in
      let nothing : operands_of_attr s a ≡ [] = none_as s a (class_of a.pair.form) others.0 in
      record {
        operands = ap (operands_of_attrs s) same ∙ (λ i. nothing i ++ p.operands i);
        many = ap (λ (w : List (Attr ℕ)). length (attrs_refs w)) (sym made) ∙ length-append (value_refs x.0) (attrs_refs y.0) ∙ (λ i. own i + p.many i) ∙ sym (counts_next a values);
      }

-- ---- an entry

-- nothing of it is noted, and what it names is passed over
pub passed_over : (s : MeaningContext ℕ) (after : ℕ → ℕ) (row : EntryRow) (d : Node ℕ) (first : Option ℕ) (targets more left : List ℕ) (count : ℕ) → named_count (pairs_of row.entry) ≡ Some count
    → node_meaning s row.entry ≡ Ok d → targets ≡ map after (node_refs d) ++ more → left ≡ drop count targets → NotesOperands after s.unit (row_operands s row) first first more left
unfolding first_over
passed_over s after row d first targets more left count told means are is =
    let t = forms_tell (pairs_of row.entry) count told in
    let p = passed s row.entry.attrs d.attrs (others_by_forms row.entry.attrs t.0) (node_attrs s row.entry d means).0 in
    record {
      first = sym (ap (λ (w : List Operand). first_of_two first (first_over (number_by after) (all_of_unit s.unit w))) p.operands ∙ first_alone first);
      behind = is ∙ ap (drop count) are ∙ drop_at (map after (node_refs d)) more count (length-map (node_refs d) after ∙ p.many ∙ t.1);
    }
