-- What a value names, and the operands of an expression among that.
use Rattle.std.proofs.Common.{◌≡◌, ℕ, true, false, List, [], ◌∷◌, ◌++◌, drop, length, map, Option, Ok, refl, sym, ap, ◌∙◌}
use Rattle.std.proofs.lemmas.Bool.{false≢true}
use Rattle.std.proofs.lemmas.List.{drop_at, length-map}
use Rattle.dwz_def_reading.specs.Entries.{RawAttr}
use Rattle.dwz_def_reading.specs.declared.exprs.Operand.{Operand}
use Rattle.dwz_def_reading.specs.Documents.{Value}
use Rattle.dwz_def_reading.specs.Exprs.{expr_at}
use Rattle.dwz_def_reading.specs.Meanings.{IsExpression, MeaningContext, block_begins, bytes_of, expr_context, leads_to, target_of}
use Rattle.dwz_def_reading.specs.Classes.{OfExpression}
use Rattle.dwz_def_reading.specs.Classes.{Class, class_of}
use Rattle.dwz_def_reading.specs.Meant.{meaning}
use Rattle.dwz_def_reading.proofs.ExprLemmas.{expr_agrees}
use Rattle.dwz_model.specs.declared.place.Base.{Base}
use Rattle.dwz_model.specs.declared.place.Base.TheVariants.{Unit as FromUnit, Info as FromInfo}
use Rattle.dwz_encode_operands.specs.First.{first_over, first_of_two}
use Rattle.dwz_encode_operands.specs.Narrow.{number_by}
use Rattle.dwz_encode_operands.specs.Walked.{KeepsPlaces, NotesOperands}
use Rattle.dwz_encode_operands.proofs.FirstLemmas.{first_alone}
use Rattle.dwz_def_output.specs.Refusals.{all_of_unit, operands_as, operands_of_attr, operands_read}
use Rattle.dwz_graph.specs.Named.{value_refs}
use Rattle.dwz_move.specs.Bound.{is_expression}
use Rattle.dwz_move.specs.Values.{is_entry}
use Rattle.dwz_move.proofs.BindLemmas.{said_expression}
use Rattle.dwz_move.proofs.NameMarks.{value_kinds}
use Rattle.dwz_def_encoding.specs.Meant.{led_to, place_counted}

pub none_as : (s : MeaningContext ℕ) (a : RawAttr) (c : Class) → is_expression c ≡ false → operands_as c s a ≡ []
none_as s a OfExpression e = absurd (false≢true (sym e))
none_as s a _ e = refl

no_expression : (c : Class) → is_entry c ≡ true → is_expression c ≡ false
no_expression OfExpression e = absurd (false≢true e)
no_expression _ e = refl

led : (s : MeaningContext ℕ) (base : Base) (number : ℕ) → leads_to s base number ≡ place_counted base s.unit number
led s FromUnit number = refl
led s FromInfo number = refl

module _ (s : MeaningContext ℕ) (plain : KeepsPlaces s) (a : RawAttr) (v : Value ℕ) (e : meaning s a ≡ Ok v) (after : ℕ → ℕ) (targets more : List ℕ) (are : targets ≡ map after (value_refs v)
    ++ more) where
  left_behind : (n : ℕ) → length (value_refs v) ≡ n → drop n targets ≡ more
  left_behind n many = ap (drop n) are ∙ drop_at (map after (value_refs v)) more n (length-map (value_refs v) after ∙ many)

  nothing : (first : Option ℕ) → is_expression (class_of a.pair.form) ≡ false → first ≡ first_of_two first (first_over (number_by after) (all_of_unit s.unit (operands_of_attr s a)))
  unfolding operands_of_attr first_over
  nothing first none = sym (ap (λ (w : List Operand). first_of_two first (first_over (number_by after) (all_of_unit s.unit w))) (none_as s a (class_of a.pair.form) none) ∙ first_alone first)

  pub of_entry : (first : Option ℕ) (left : List ℕ) → is_entry (class_of a.pair.form) ≡ true → left ≡ drop 1 targets → NotesOperands after s.unit (operands_of_attr s a) first first more left
  of_entry first left is drops = record {
    first = nothing first (no_expression (class_of a.pair.form) is);
    behind = drops ∙ left_behind 1 ((value_kinds s a v e).0 is).1;
  }

  pub of_other : (first : Option ℕ) → is_entry (class_of a.pair.form) ≡ false → is_expression (class_of a.pair.form) ≡ false
      → NotesOperands after s.unit (operands_of_attr s a) first first more targets
  of_other first other none = record {
    first = nothing first none;
    behind = left_behind 0 ((value_kinds s a v e).1 other none).1;
  }

  -- ---- an expression

  module _ (is : is_expression (class_of a.pair.form) ≡ true) where
    abbrev pub m : IsExpression s a v
    m = said_expression s a v is e

    abbrev os : List Operand
    os = m.expression.operands

    pub reads : expr_at (expr_context s 1) (record { at = block_begins a; rest = bytes_of a.raw }) ≡ Ok m.expression
    reads = ((expr_agrees (expr_context s 1) (record { at = block_begins a; rest = bytes_of a.raw })).ok m.expression).1 m.spelled

    expression_as : (c : Class) → is_expression c ≡ true → operands_as c s a ≡ os
    expression_as OfExpression same = ap operands_read reads
    expression_as _ same = absurd (false≢true same)

    operands_are : operands_of_attr s a ≡ os
    unfolding operands_of_attr
    operands_are = expression_as (class_of a.pair.form) is

    places : (xs : List Operand) → map after (map (λ (o : Operand). s.around.place (target_of s o)) xs) ≡ map (λ (o : Operand). after (led_to s.unit o)) xs
    places [] = refl
    places (o ∷ xs) = (λ i. after ((plain (target_of s o) ∙ led s o.base o.number) i) ∷ places xs i)

    refs_are : map after (value_refs v) ≡ map (λ (o : Operand). after (led_to s.unit o)) os
    refs_are = ap (λ (w : Value ℕ). map after (value_refs w)) m.value ∙ places os

    pub targets_are : (operands : List Operand) → operands ≡ os → targets ≡ map (λ (o : Operand). after (led_to s.unit o)) operands ++ more
    targets_are operands same = are ∙ ap (λ (w : List ℕ). w ++ more) (refs_are ∙ ap (map (λ (o : Operand). after (led_to s.unit o))) (sym same))

    pub of_expression : (operands : List Operand) → operands ≡ os → (old new : Option ℕ) (left : List ℕ) → new ≡ first_of_two old (first_over (number_by after) (all_of_unit s.unit operands))
        → left ≡ drop (length operands) targets → NotesOperands after s.unit (operands_of_attr s a) old new more left
    of_expression operands same old new left made drops = record {
      first = made ∙ ap (λ (w : List Operand). first_of_two old (first_over (number_by after) (all_of_unit s.unit w))) (same ∙ sym operands_are);
      behind = drops ∙ ap (drop (length operands)) (targets_are operands same) ∙ drop_at (map (λ (o : Operand). after (led_to s.unit o)) operands) more (length operands)
          (length-map operands (λ (o : Operand). after (led_to s.unit o)));
    }
