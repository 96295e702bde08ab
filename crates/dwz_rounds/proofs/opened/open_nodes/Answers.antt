use Rattle.std.proofs.Common.{◌≡◌, ℕ, ◌<◌, ◌++◌, All, Bool, List, length, drop, take, ap, subst, sym, ◌∙◌, arith}
use Rattle.std.proofs.Math.Seq.{take-append_seam}
use Rattle.std.proofs.lemmas.List.{get_or_default}
use Rattle.dwz_nodes.specs.Graph.{Node}
use Rattle.dwz_rounds.specs.Open.{AreOfMarked, HasShared, MarksChanged, MarksMoved, MarksShared}
use Rattle.dwz_rounds.specs.Rounds.{IsRound}
use Rattle.dwz_rounds.proofs.Opening.{open-partly, shared-kept}
use Rattle.dwz_rounds.proofs.opened.open_nodes.Goals as goal
use Rattle.dwz_rounds.proofs.opened.open_nodes.Goals.{In_ok-kept}

-- what is written over all of a row
over : (xs ys : List Bool) (n : ℕ) → n ≡ length xs → take n (xs ++ ys) ≡ xs
over xs ys n e = ap (λ (k : ℕ). take k (xs ++ ys)) e ∙ take-append_seam xs ys

-- each class is the number of a node
classes_inside : (g : List Node) (before classes : List ℕ) (n : ℕ) → IsRound g before classes → n ≡ length g → All (λ c. c < n) classes
classes_inside g before classes n round len i d l =
    let many = round.len in
    let below = (round.each i (omega arith)).inside in
    let same = get_or_default classes i 0 d l in
    omega arith

-- the nodes that are kept, as they are read from marks
of_shared : (c : In_ok-kept) → AreOfMarked c.args.classes.now c.mark_shared.new.shared c.args.live.now.items (length c.args.live.now.items) c.in_ok-kept.kept.items
of_shared c =
    let shared : List Bool = c.mark_shared.new.shared in
    let own : c.as_slice-4.result.now ≡ shared =
    c.as_slice-4.ensures.value
    ∙ over shared (drop (length shared) c.in_ok-shared.shared.items) c.in_ok-shared.shared.len (let a = c.mark_shared.ensures.len in let b = c.as_mut_slice.ensures.len in omega arith) in
    subst (λ (q : List ℕ × List Bool). AreOfMarked c.args.classes.now q.1 q.0 (length q.0) c.in_ok-kept.kept.items) (λ j. (c.as_slice-3.ensures.value j, own j)) c.in_ok-kept.ensures

marks : (c : In_ok-kept) → MarksShared c.args.classes.now c.args.live.now.items (length c.args.live.now.items) c.mark_shared.new.shared
marks c = subst (λ (l : List ℕ). MarksShared c.args.classes.now l (length l) c.mark_shared.new.shared) c.as_slice.ensures.value c.mark_shared.ensures.marked

has : (c : In_ok-kept) → HasShared c.args.classes.now c.in_ok-kept.kept.items
has c =
    shared-kept c.args.nodes.now c.requires.closed c.requires.level.0 c.args.before.now c.args.classes.now c.args.live.now.items c.requires.level.1 c.requires.round c.requires.live
    c.mark_shared.new.shared (marks c) c.in_ok-kept.kept.items (of_shared c)

-- each of them is a node
nodes_inside : (classes live slice : List ℕ) (n : ℕ) → HasShared classes live → slice ≡ live → length classes ≡ n → All (λ a. a < n) slice
nodes_inside classes live slice n shared is len = subst (λ (l : List ℕ). All (λ a. a < n) l) (sym is) (subst (λ (m : ℕ). All (λ a. a < m) live) len shared.inside)

pub mark_changed-requires-clause-live : goal.mark_changed-requires-clause-live
mark_changed-requires-clause-live c =
    nodes_inside c.args.classes.now c.in_ok-kept.kept.items c.as_slice-6.result.now (length c.args.nodes.now) (has (goal.at.mark_changed-requires-clause-live c).In_ok-kept) c.as_slice-6.ensures.value
    c.requires.round.len

pub of_marked-requires-2-clause-live : goal.of_marked-requires-2-clause-live
of_marked-requires-2-clause-live c =
    nodes_inside c.args.classes.now c.in_ok-kept.kept.items c.as_slice-7.result.now (length c.args.classes.now) (has (goal.at.of_marked-requires-2-clause-live c).In_ok-kept) c.as_slice-7.ensures.value
    (omega arith)

pub of_marked-requires-2-clause-classes : goal.of_marked-requires-2-clause-classes
of_marked-requires-2-clause-classes c =
    classes_inside c.args.nodes.now c.args.before.now c.args.classes.now (length c.as_slice-8.result.now) c.requires.round
    (let a = c.mark_changed.ensures.len in let b = c.as_mut_slice-3.ensures.len in let e = c.as_slice-8.ensures.len in grind (arith, c.len-count.ensures, c.in_ok-changed.ensures))

pub returns-clause-live : goal.returns-clause-live
returns-clause-live c = has (goal.at.returns-clause-live c).In_ok-kept

pub returns-clause-few : goal.returns-clause-few
returns-clause-few c =
    let few = (has (goal.at.returns-clause-few c).In_ok-kept).few in
    let kept = ap (λ (l : List ℕ). length l) c.as_slice-7.ensures.value in
    let listed = c.in_ok-listed.ensures.few in
    let many = c.requires.round.len in
    omega (arith, few, kept, listed, many)

pub returns-clause-partly : goal.returns-clause-partly
returns-clause-partly c =
    let d = (goal.at.returns-clause-partly c).In_ok-kept in
    let g : List Node = c.args.nodes.now in
    let before : List ℕ = c.args.before.now in
    let classes : List ℕ = c.args.classes.now in
    let live : List ℕ = c.args.live.now.items in
    let moved : List Bool = c.mark_moved.new.moved in
    let changed : List Bool = c.mark_changed.new.changed in
    let kept : List ℕ = c.in_ok-kept.kept.items in
    let listed : List ℕ = c.in_ok-listed.listed.items in
    let there : c.as_slice-5.result.now ≡ moved =
    c.as_slice-5.ensures.value
    ∙ over moved (drop (length moved) c.in_ok-moved.moved.items) c.in_ok-moved.moved.len (let a = c.mark_moved.ensures.len in let b = c.as_mut_slice-2.ensures.len in omega arith) in
    let other : c.as_slice-8.result.now ≡ changed =
    c.as_slice-8.ensures.value
    ∙ over changed (drop (length changed) c.in_ok-changed.changed.items) c.in_ok-changed.changed.len (let a = c.mark_changed.ensures.len in let b = c.as_mut_slice-3.ensures.len in omega arith) in
    let moves : MarksMoved before classes live (length live) moved = subst (λ (l : List ℕ). MarksMoved before classes l (length l) moved) c.as_slice-2.ensures.value c.mark_moved.ensures.marked in
    let changes : MarksChanged g moved classes kept (length kept) changed =
    subst (λ (q : List ℕ × List Bool). MarksChanged g q.1 classes q.0 (length q.0) changed) (λ j. (c.as_slice-6.ensures.value j, there j)) c.mark_changed.ensures.marked in
    let of_changed : AreOfMarked classes changed kept (length kept) listed =
    subst (λ (q : List ℕ × List Bool). AreOfMarked classes q.1 q.0 (length q.0) listed) (λ j. (c.as_slice-7.ensures.value j, other j)) c.in_ok-listed.ensures in
    open-partly g c.requires.closed c.requires.level.0 before classes live c.requires.level.1 c.requires.round c.requires.live c.mark_shared.new.shared (marks d) kept (of_shared d) moved moves changed changes
    listed of_changed
