use Rattle.std.proofs.Common.{ℕ, ◌<◌, ◌++◌, List, [], ◌∷◌, Some, length, get_or, take, sym, ap, subst, ◌∙◌, arith}
use Rattle.std.proofs.lemmas.List.{append_assoc, take_all}
use Rattle.std.proofs.Math.ListN.{set}
use Rattle.dwz_model.proofs.ListFacts.{in_at}
use Rattle.dwz_takes.specs.Images.{AreLeast}
use Rattle.dwz_takes.proofs.ImageFacts.{see_one}
use Rattle.dwz_takes.proofs.MarkFacts.{take_next}
use Rattle.dwz_takes.proofs.imaged.see.Goals as goal

pub bounds-classes-top : goal.bounds-classes-top
bounds-classes-top c =
    let l : c.loop-top.top-index < length c.args.tops.now = omega arith in
    c.requires.tops (get_or c.args.tops.now c.loop-top.top-index 0) (in_at c.args.tops.now c.loop-top.top-index l)

pub slice_copy_out-lesser : goal.slice_copy_out-lesser
slice_copy_out-lesser c =
    let l : c.loop-top.top-index < length c.args.tops.now = omega arith in
    let low = c.requires.classes (get_or c.args.tops.now c.loop-top.top-index 0) (in_at c.args.tops.now c.loop-top.top-index l) in
    omega arith

pub bounds-firsts-class : goal.bounds-firsts-class
bounds-firsts-class c =
    let l : c.loop-top.top-index < length c.args.tops.now = omega arith in
    let low = c.requires.classes (get_or c.args.tops.now c.loop-top.top-index 0) (in_at c.args.tops.now c.loop-top.top-index l) in
    omega arith

pub loop-top-preserved : goal.loop-top-preserved
loop-top-preserved c seen h =
    let i = c.loop-top.top-index in
    let tops : List ℕ = c.args.tops.now in
    let l : i < length tops = omega arith in
    let low = c.requires.classes (get_or tops i 0) (in_at tops i l) in
    subst (λ (ts : List ℕ). AreLeast c.args.classes.now ts (set c.loop-top.firsts (get_or c.args.classes.now (get_or tops i 0) 0) (Some c.lesser.result)))
    (append_assoc seen (take i tops) (get_or tops i 0 ∷ []) ∙ ap (λ (ts : List ℕ). seen ++ ts) (sym (take_next tops i l)))
    (see_one c.args.classes.now (seen ++ take i tops) c.loop-top.firsts (get_or tops i 0) c.lesser.result (omega arith) c.lesser.ensures (c.loop-top.invariant seen h))

pub returns : goal.returns
returns c seen h = subst (λ (ts : List ℕ). AreLeast c.args.classes.now (seen ++ ts) c.loop-top.firsts) (take_all c.loop-top.top-index c.args.tops.now (omega arith)) (c.loop-top.invariant seen h)
