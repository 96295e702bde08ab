use Rattle.std.proofs.Common.{◌∙◌, ◌∷◌, ◌++◌, [], List, ap, append_assoc, false, get_or, map, sym, take, arith}
use Rattle.std.proofs.lemmas.List.{append-nil, map-append, take_all, take_more}
use Rattle.dwz_def_reading.specs.declared.exprs.Operand.{Operand}
use Rattle.dwz_model.specs.declared.place.Base.TheVariants.{Unit as FromUnit}
use Rattle.dwz_graph.specs.Operands.{is_named}
use Rattle.dwz_label_entries.proofs.RefLemmas.{each_named}
use Rattle.dwz_model.proofs.ListFacts.{got_in}
use Rattle.dwz_expand_passes.proofs.OperandLemmas.{got_or_default}
use Rattle.dwz_expand_sections.specs.Narrow.{operand_after}
use Rattle.dwz_expand.specs.Gathered.{own_scope, spoken_at}
use Rattle.dwz_expand.proofs.entry.put_operands.Goals as goal

no_operand : Operand
no_operand = record { at = 0; width = 0; uleb = false; base = FromUnit; number = 0 }

pub loop-operand-init : goal.loop-operand-init
loop-operand-init c = λ f u t none kept. sym (append-nil c.args.told.now.items)

pub loop-operand-preserved : goal.loop-operand-preserved
unfolding no_operand
loop-operand-preserved c = λ f u t none kept. (
    let s = own_scope c.args.x.now.file.now u in
    let os = c.args.operands.now in
    let k = c.loop-operand.operand-index in
    let o = get_or os k no_operand in
    let lt = c.loop-operand-test.true in
    let g = λ (r : Operand). operand_after f (spoken_at c.args.x.now.unit u.at r) in
    let more = c.in_ok-put_operand.ensures f u t (each_named (is_named s) os k no_operand none lt) (kept o (got_in os k o (got_or_default os k no_operand lt))) in
    more ∙ ap (λ (w : List Operand). w ++ g o ∷ []) (c.loop-operand.invariant f u t none kept)
    ∙ append_assoc c.args.told.now.items (map g (take k os)) (g o ∷ [])
    ∙ ap (λ (w : List Operand). c.args.told.now.items ++ w)
    (sym (map-append g (take k os) (o ∷ [])) ∙ ap (λ (w : List Operand). map g w) (sym (take_more os k no_operand lt))))

pub returns : goal.returns
returns c = λ f u t none kept. (
    let os = c.args.operands.now in
    let k = c.loop-operand.operand-index in
    let g = λ (r : Operand). operand_after f (spoken_at c.args.x.now.unit u.at r) in
    let le = c.loop-operand-test.false in
    c.loop-operand.invariant f u t none kept ∙ ap (λ (w : List Operand). c.args.told.now.items ++ map g w) (take_all k os (omega (arith, le))))
