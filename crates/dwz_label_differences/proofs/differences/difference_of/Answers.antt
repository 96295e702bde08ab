use Rattle.std.proofs.Common.{◌≡◌, IsTrue, arith, subst}
use Rattle.dwz_def_explain.specs.What.{IsFirstUnequal}
use Rattle.dwz_label_differences.proofs.DifferenceLemmas.{behind_tag, tags_told}
use Rattle.dwz_label_differences.proofs.SamePieces.{unequal_within}
use Rattle.dwz_label_differences.proofs.differences.difference_of.Goals as goal

pub returns-then-not-are_same : goal.returns-then-not-are_same
returns-then-not-are_same c = λ d e i j u v few same. (
    let t = tags_told d e c.args.a.now c.args.b.now c.after_number-a_attributes.result.now c.after_number-b_attributes.result.now (IsTrue c.are_same.result) i j c.after_number-a_attributes.ensures
    c.after_number-b_attributes.ensures c.are_same.ensures in
    let is = t.1 same in
    let no = c.if-not-are_same.true in
    absurd cc)

pub returns-in-Some : goal.returns-in-Some
returns-in-Some c = λ d e i j u v few. (
    let t = tags_told d e c.args.a.now c.args.b.now c.after_number-a_attributes.result.now c.after_number-b_attributes.result.now (IsTrue c.are_same.result) i j c.after_number-a_attributes.ensures
    c.after_number-b_attributes.ensures c.are_same.ensures in
    let p = behind_tag d c.args.a.now c.after_number-a_attributes.result.now i c.after_number-a_attributes.ensures in
    let q = behind_tag e c.args.b.now c.after_number-b_attributes.result.now j c.after_number-b_attributes.ensures in
    let unequal = c.in-Some.ensures d.node.attrs e.node.attrs p.0 q.0 p.1 q.1 in
    let within = unequal_within c.in-Some.index d.node.attrs e.node.attrs unequal in
    let least = c.min.ensures in
    let at : c.in-Some.index ≡ c.min.result = omega (arith, within, least, few) in
    (t.0 c.if-not-are_same.false, subst (λ k. IsFirstUnequal k d.node.attrs e.node.attrs) at unequal))

pub returns-then-a_children-b_children : goal.returns-then-a_children-b_children
returns-then-a_children-b_children c = λ d e i j u v few. (
    let t = tags_told d e c.args.a.now c.args.b.now c.after_number-a_attributes.result.now c.after_number-b_attributes.result.now (IsTrue c.are_same.result) i j c.after_number-a_attributes.ensures
    c.after_number-b_attributes.ensures c.are_same.ensures in
    let p = behind_tag d c.args.a.now c.after_number-a_attributes.result.now i c.after_number-a_attributes.ensures in
    let q = behind_tag e c.args.b.now c.after_number-b_attributes.result.now j c.after_number-b_attributes.ensures in
    let same = c.if-a_children-b_children.true in
    ((t.0 c.if-not-are_same.false, c.in_default.ensures d.node.attrs e.node.attrs p.0 q.0 p.1 q.1), omega (arith, same, u, v)))

pub returns-else-a_children-b_children : goal.returns-else-a_children-b_children
returns-else-a_children-b_children c = λ d e i j u v few. (
    let t = tags_told d e c.args.a.now c.args.b.now c.after_number-a_attributes.result.now c.after_number-b_attributes.result.now (IsTrue c.are_same.result) i j c.after_number-a_attributes.ensures
    c.after_number-b_attributes.ensures c.are_same.ensures in
    let p = behind_tag d c.args.a.now c.after_number-a_attributes.result.now i c.after_number-a_attributes.ensures in
    let q = behind_tag e c.args.b.now c.after_number-b_attributes.result.now j c.after_number-b_attributes.ensures in
    let other = c.if-a_children-b_children.false in
    ((t.0 c.if-not-are_same.false, c.in_default.ensures d.node.attrs e.node.attrs p.0 q.0 p.1 q.1), λ same. absurd (other (omega (arith, same, u, v)))))
