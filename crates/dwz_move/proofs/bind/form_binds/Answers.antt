use Rattle.std.proofs.Common.{◌≡◌, ℕ, true, false, [], drop, sym, ap, subst, ◌∙◌}
use Rattle.dwz_def_tops.specs.Alike.{binding_forms}
use Rattle.dwz_def_reading.specs.Rows.{has}
use Rattle.dwz_def_reading.specs.Documents.{Value}
use Rattle.dwz_def_reading.specs.Classes.{class_of}
use Rattle.dwz_graph.specs.Named.{value_refs}
use Rattle.dwz_move.specs.Bound.{AreInto, is_expression}
use Rattle.dwz_move.specs.Values.{is_entry}
use Rattle.dwz_move.proofs.BindLemmas.{binds_entry, binds_form, binds_plain, first_into, value_says}
use Rattle.dwz_move.proofs.bind.form_binds.Goals as goal

pub returns-then-is_binding : goal.returns-then-is_binding
returns-then-is_binding c = λ s a v tops unit name has' e form none into.
    binds_form tops unit name a v (ap (λ (f : ℕ). has f binding_forms) form ∙ sym c.is_binding.ensures ∙ c.if-is_binding.true)

pub returns-then-is_entry : goal.returns-then-is_entry
returns-then-is_entry c = λ s a v tops unit name has' e form none into. (
    let free : has a.pair.form binding_forms ≡ false = ap (λ (f : ℕ). has f binding_forms) form ∙ sym c.is_binding.ensures ∙ c.if-is_binding.false in
    let yes : is_entry (class_of a.pair.form) ≡ true = ap (λ (f : ℕ). is_entry (class_of f)) form ∙ ap is_entry (sym c.class_of.ensures) ∙ sym c.is_entry.ensures ∙ c.if-is_entry.true in
    let o = (value_says s a v free e).0 yes in
    let one = first_into name c.args.into.now c.args.next o.0 [] (subst (λ (w : Value ℕ). AreInto name (drop c.args.next c.args.into.now) (value_refs w)) o.1 into) in
    c.leaves.ensures tops unit (name o.0) has' (c.at_or.ensures ∙ one) ∙ binds_entry tops unit name a v o.0 free o.1)

pub returns : goal.returns
returns c = λ s a v tops unit name has' e form none into. (
    let free : has a.pair.form binding_forms ≡ false = ap (λ (f : ℕ). has f binding_forms) form ∙ sym c.is_binding.ensures ∙ c.if-is_binding.false in
    let no : is_entry (class_of a.pair.form) ≡ false = ap (λ (f : ℕ). is_entry (class_of f)) form ∙ ap is_entry (sym c.class_of.ensures) ∙ sym c.is_entry.ensures ∙ c.if-is_entry.false in
    let plain : is_expression (class_of a.pair.form) ≡ false = ap (λ (f : ℕ). is_expression (class_of f)) form ∙ none in
    let o = (value_says s a v free e).1 no plain in
    binds_plain tops unit name a v free o.0 o.1)
