use Rattle.std.proofs.Common.{◌≡◌, ◌∙◌, ◌+◌, ◌∷◌, ◌++◌, [], List, false, ap, append_assoc, get_or, map, sym, subst, take, arith}
use Rattle.std.proofs.lemmas.List.{append-nil, map-append, take_all, take_more}
use Rattle.dwz_model.specs.declared.place.Base.TheVariants.{Unit as FromUnit}
use Rattle.dwz_def_reading.specs.declared.exprs.Operand.{Operand}
use Rattle.dwz_expand_layout.specs.Laid.{layout_view}
use Rattle.dwz_expand_layout.specs.declared.entries.NewOperand.{NewOperand}
use Rattle.dwz_expand.specs.Told.{told}
use Rattle.dwz_expand_sections.specs.Narrow.{FirstPlace}
use Rattle.dwz_expand.proofs.told.note_all.Goals as goal

no_operand : NewOperand
no_operand = record { operand = record { at = 0; width = 0; uleb = false; base = FromUnit; number = 0 }; copy = 0 }

pub loop-operand-init : goal.loop-operand-init
loop-operand-init c = λ noted h. subst (λ (w : List Operand). FirstPlace w c.args.before) (sym (append-nil noted)) h

pub loop-operand-preserved : goal.loop-operand-preserved
unfolding no_operand
loop-operand-preserved c = λ noted h. (
    let operands = c.args.operands.now in
    let i = c.loop-operand.operand-index in
    let f = told (layout_view c.args.layout.now) c.args.start in
    let more = c.note_operand-first.ensures (noted ++ map f (take i operands)) (c.loop-operand.invariant noted h) in
    let same : (noted ++ map f (take i operands)) ++ c.renumbered.result ∷ [] ≡ noted ++ map f (take (i + 1) operands) =
    append_assoc noted (map f (take i operands)) (c.renumbered.result ∷ [])
    ∙ ap (λ (w : List Operand). noted ++ w) ((λ j. map f (take i operands) ++ c.renumbered.ensures j ∷ []) ∙ sym (map-append f (take i operands) (get_or operands i no_operand ∷ []))
    ∙ ap (map f) (sym (take_more operands i no_operand c.loop-operand-test.true))) in
    subst (λ (w : List Operand). FirstPlace w c.note_operand-first.result) same more)

pub returns : goal.returns
returns c = λ noted h. (
    let le = c.loop-operand-test.false in
    subst (λ (w : List NewOperand). FirstPlace (noted ++ map (told (layout_view c.args.layout.now) c.args.start) w) c.loop-operand.first)
    (take_all c.loop-operand.operand-index c.args.operands.now (omega (arith, le))) (c.loop-operand.invariant noted h))
