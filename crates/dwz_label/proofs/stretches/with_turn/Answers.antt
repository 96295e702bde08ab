use Rattle.std.proofs.Common.{◌≡◌, ℕ, ◌+◌, ◌*◌, ◌<◌, ◌++◌, [], List, length, sym, ap, ◌∙◌, arith}
use Rattle.std.specs.Prelude.{slice_index_or}
use Rattle.std.specs.Global.{Vec}
use Rattle.std.proofs.lemmas.List.{get_or_read}
use Rattle.dwz_label.specs.Stretches.{front}
use Rattle.dwz_label.proofs.Wholes.{front_more}
use Rattle.dwz_label.proofs.stretches.with_turn.Goals as goal

pub loop-part-preserved : goal.loop-part-preserved
loop-part-preserved c = λ label count len are first. (
    let parts : List (Vec (List (List ℕ))) = c.args.parts.now in
    let turn : ℕ = c.args.turn in
    let k : ℕ = c.loop-part.part-index in
    let low : k < length parts = (let t = c.loop-part-test.true in omega arith) in
    let own = are k c.part-item.result low in
    let item = ap (λ (v : Vec (List (List ℕ))). slice_index_or v.items turn []) c.part-item.is in
    let many = ap (λ (v : Vec (List (List ℕ))). length v.items) c.part-item.is in
    let inside : turn < length c.part-item.result.items = (let m = own.many in let t = c.requires.turn in omega arith) in
    let found = get_or_read c.part-item.result.items turn c.index.result.now inside c.index.ensures [] in
    let next : turn * length parts + k + 1 ≡ turn * length parts + (k + 1) = omega arith in
    c.in_ok-all.ensures
    ∙ (λ i. c.loop-part.invariant label count len are first i ++ (found ∙ item ∙ own.each turn c.requires.turn) i)
    ∙ sym (front_more label count len (turn * length parts + k))
    ∙ ap (front label count len) next)
