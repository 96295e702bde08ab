use Rattle.std.proofs.Common.{◌≡◌, ℕ, ◌+◌, List, Option, Some, None, length, sym, ap, ◌∙◌, arith}
use Rattle.dwz_def_reading.specs.Values.{value_bytes}
use Rattle.dwz_forms.specs.RawValues.{raw_view}
use Rattle.dwz_def_reading.specs.Classes.{class_of, names_file}
use Rattle.dwz_graph.specs.Resolved.{stored}
use Rattle.dwz_move.specs.Weights.{set_weight}
use Rattle.dwz_move.proofs.WeightLemmas.{form_fits, text_weighs, value_weighs, weight_or}
use Rattle.dwz_move.proofs.weight.weight_of_value.Goals as goal

pub returns-then-pair-eq-DW_FORM_STRING : goal.returns-then-pair-eq-DW_FORM_STRING
returns-then-pair-eq-DW_FORM_STRING c = λ s at end v e. ap (λ (b : List ℕ). length b + 1) c.bytes_of.ensures ∙ text_weighs s (stored at end c.args.pair.now c.args.raw.now) v c.if-pair-eq-DW_FORM_STRING.true e

pub overflow_cast-pair : goal.overflow_cast-pair
overflow_cast-pair c = let low = form_fits c.args.pair.now.form (raw_view c.args.raw.now) c.requires in omega arith

pub returns-in-Some : goal.returns-in-Some
returns-in-Some c = λ s at end v e. (
    let set : Some c.in-Some.weight ≡ set_weight (class_of c.args.pair.now.form) (names_file c.args.pair.now.name) = sym c.in-Some.is ∙ c.set_weight.ensures
    ∙ (λ i. set_weight (c.class_of.ensures i) (c.names_file.ensures i)) in
    ap (λ (o : Option ℕ). weight_or o (length (value_bytes c.args.pair.now.form (raw_view c.args.raw.now)))) set
    ∙ value_weighs s (stored at end c.args.pair.now c.args.raw.now) v c.if-pair-eq-DW_FORM_STRING.false c.requires e)

pub returns-in-None : goal.returns-in-None
returns-in-None c = λ s at end v e. (
    let set : None ≡ set_weight (class_of c.args.pair.now.form) (names_file c.args.pair.now.name) = sym c.in-None.is ∙ c.set_weight.ensures
    ∙ (λ i. set_weight (c.class_of.ensures i) (c.names_file.ensures i)) in
    c.size_of_value.ensures ∙ ap (λ (o : Option ℕ). weight_or o (length (value_bytes c.args.pair.now.form (raw_view c.args.raw.now)))) set
    ∙ value_weighs s (stored at end c.args.pair.now c.args.raw.now) v c.if-pair-eq-DW_FORM_STRING.false c.requires e)
