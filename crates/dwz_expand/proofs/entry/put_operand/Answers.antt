use Rattle.std.proofs.Common.{◌∙◌, ◌++◌, ◌∷◌, [], ap}
use Rattle.dwz_def_reading.specs.declared.exprs.Operand.{Operand}
use Rattle.dwz_expand.proofs.OperandCopies.{all_there, copy_there, inside, lost, number_told, stands}
use Rattle.dwz_expand.proofs.entry.put_operand.Goals as goal

pub returns-in_default-copy_of : goal.returns-in_default-copy_of
returns-in_default-copy_of c = λ f u t named kept. (
    let x = c.args.x.now in
    let o = c.args.operand.now in
    let looks = c.in-Some.ensures.looks u t.here in
    let d = stands f x u c.requires t o c.in-Some.entry looks in
    let is = c.copy_of.ensures t.known.w x.file.now.sources.now c.requires.copies.0 t.known.says.are t.known.says.apart c.requires.copies.1
    (all_there f x u c.requires t o) (inside f x u c.requires t o) d.0 d.1 in
    absurd (kept (lost f x u c.requires t o c.copy_of.result (copy_there f x u c.requires t o c.in-Some.entry looks c.copy_of.result is) c.in_default-copy_of.not-Some)))

pub returns : goal.returns
returns c = λ f u t named kept. (
    let x = c.args.x.now in
    let o = c.args.operand.now in
    let looks = c.in-Some.ensures.looks u t.here in
    let d = stands f x u c.requires t o c.in-Some.entry looks in
    let is = c.copy_of.ensures t.known.w x.file.now.sources.now c.requires.copies.0 t.known.says.are t.known.says.apart c.requires.copies.1
    (all_there f x u c.requires t o) (inside f x u c.requires t o) d.0 d.1 in
    c.in_ok-push.ensures.items
    ∙ ap (λ (r : Operand). c.args.told.now.items ++ r ∷ []) (c.renumbered.ensures ∙ number_told f x u c.requires t o c.in-Some.entry looks c.copy_of.result c.in-Some-copy_of.copy c.in-Some-copy_of.is
    (copy_there f x u c.requires t o c.in-Some.entry looks c.copy_of.result is)))
