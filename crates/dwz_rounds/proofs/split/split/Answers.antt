use Rattle.std.proofs.Common.{◌≡◌, ◌≤◌, ◌<◌, ◌+◌, ◌++◌, ◌∷◌, [], ℕ, List, Bool, length, ap, sym, subst, arith, ◌∙◌}
use Rattle.std.specs.Prelude.{slice_index, slice_index_or, slice_set, false}
use Rattle.std.proofs.Math.ListN.{length-set}
use Rattle.dwz_rounds.specs.declared.members.Range.{Range}
use Rattle.dwz_rounds.specs.Members.{AreMembers}
use Rattle.dwz_rounds.specs.Split.{IsChoice, IsGrouped, IsSplitting}
use Rattle.dwz_rounds.proofs.Splitting.{choice-ranges, IsRight, right, step-kept, step-moved}
use Rattle.dwz_rounds.proofs.split.split.Goals as goal
use Rattle.dwz_rounds.proofs.split.split.Goals.{then-number-count+in_ok-move_in+in_ok-push, else-number-count}

pub next_number-requires-clause-class : goal.next_number-requires-clause-class
next_number-requires-clause-class c =
    let i = c.loop-at.invariant in
    let node : ℕ = slice_index c.args.nodes.now c.loop-at.at in
    let inside : node < length c.args.numbers.now = c.requires.nodes c.loop-at.at 0 c.loop-at-test.true in
    let n = (i.members.each node (let e = i.len in omega arith)).number in
    let few = i.members.few in
    let len = c.requires.len in
    (let e = i.len in let a = len.1 in omega arith, let e = i.len in let a = len.2 in omega arith)

pub move_in-requires-clause-number : goal.move_in-requires-clause-number
move_in-requires-clause-number c =
    let cur : List ℕ = c.loop-at.numbers in
    let ranges : List Range = c.loop-at.ranges.items in
    let members : List ℕ = c.loop-at.members.items in
    let at : ℕ = c.loop-at.at in
    let node : ℕ = slice_index c.args.nodes.now at in
    let i = c.loop-at.invariant in
    let inside : node < length cur = let n = c.requires.nodes at 0 c.loop-at-test.true in let e = i.len in omega arith in
    let choice : IsChoice at (slice_index_or c.args.news.now at false) (slice_index cur node) c.loop-at.number (length c.args.numbers.now) c.args.whole.now c.args.parts.now ranges
    (length c.as_slice.result.now) c.next_number.new.number c.next_number.new.ranges.items = c.in_ok-room.ensures c.if-not-room.false in
    let r = choice-ranges at (slice_index_or c.args.news.now at false) (slice_index cur node) c.loop-at.number (length c.args.numbers.now) c.args.whole.now c.args.parts.now ranges
    (length c.as_slice.result.now) c.next_number.new.number c.next_number.new.ranges.items cur members choice i.members (ap (λ (l : List ℕ). length l) c.as_slice.ensures.value) (sym i.len)
    i.number (i.members.each node inside).number in
    r.inside

pub move_in-requires-clause-members : goal.move_in-requires-clause-members
move_in-requires-clause-members c =
    let cur : List ℕ = c.loop-at.numbers in
    let ranges : List Range = c.loop-at.ranges.items in
    let members : List ℕ = c.loop-at.members.items in
    let at : ℕ = c.loop-at.at in
    let node : ℕ = slice_index c.args.nodes.now at in
    let i = c.loop-at.invariant in
    let inside : node < length cur = let n = c.requires.nodes at 0 c.loop-at-test.true in let e = i.len in omega arith in
    let choice : IsChoice at (slice_index_or c.args.news.now at false) (slice_index cur node) c.loop-at.number (length c.args.numbers.now) c.args.whole.now c.args.parts.now ranges
    (length c.as_slice.result.now) c.next_number.new.number c.next_number.new.ranges.items = c.in_ok-room.ensures c.if-not-room.false in
    let r = choice-ranges at (slice_index_or c.args.news.now at false) (slice_index cur node) c.loop-at.number (length c.args.numbers.now) c.args.whole.now c.args.parts.now ranges
    (length c.as_slice.result.now) c.next_number.new.number c.next_number.new.ranges.items cur members choice i.members (ap (λ (l : List ℕ). length l) c.as_slice.ensures.value) (sym i.len)
    i.number (i.members.each node inside).number in
    r.members_are

pub loop-at-preserved : goal.loop-at-preserved
loop-at-preserved c =
    let cur : List ℕ = c.loop-at.numbers in
    let ranges : List Range = c.loop-at.ranges.items in
    let members : List ℕ = c.loop-at.members.items in
    let pending : List ℕ = c.loop-at.pending.items in
    let nodes : List ℕ = c.args.nodes.now in
    let news : List Bool = c.args.news.now in
    let old : List ℕ = c.args.numbers.now in
    let at : ℕ = c.loop-at.at in
    let node : ℕ = slice_index nodes at in
    let next : ℕ = c.next_number.new.number in
    let count : ℕ = c.len-count.result in
    let i = c.loop-at.invariant in
    let inside : node < length cur = let n = c.requires.nodes at 0 c.loop-at-test.true in let e = i.len in omega arith in
    let choice : IsChoice at (slice_index_or news at false) (slice_index cur node) c.loop-at.number (length old) c.args.whole.now c.args.parts.now ranges (length c.as_slice.result.now) next
    c.next_number.new.ranges.items = c.in_ok-room.ensures c.if-not-room.false in
    let r = choice-ranges at (slice_index_or news at false) (slice_index cur node) c.loop-at.number (length old) c.args.whole.now c.args.parts.now ranges (length c.as_slice.result.now) next
    c.next_number.new.ranges.items cur members choice i.members (ap (λ (l : List ℕ). length l) c.as_slice.ensures.value) (sym i.len) i.number (i.members.each node inside).number in
    let many : count ≡ length c.args.ranges.now.items = c.len-count.ensures ∙ c.args.ranges.now.ok.0 in
    let few = i.members.few in
    let wise : (key : ℕ → List ℕ) → (g : IsGrouped key old nodes news) → IsRight key nodes old c.args.whole.now c.args.parts.now count at cur pending c.loop-at.number (i.splitting key g) next =
    λ key g.
    right key nodes old c.args.whole.now c.args.parts.now count at cur pending c.loop-at.number (i.splitting key g) news c.loop-at-test.true g (length old) ranges (length c.as_slice.result.now) next
    c.next_number.new.ranges.items choice
    (λ p l. (i.members.each (slice_index nodes p) (let n = c.requires.nodes p 0 (let t = c.loop-at-test.true in omega arith) in let e = i.len in omega arith)).number) i.enough
    (let n = (c.requires.members.each node (let m = c.requires.nodes at 0 c.loop-at-test.true in m)).number in omega arith) in
    elim c.if-number-count.branch [
      | then-number-count+in_ok-move_in+in_ok-push w ↦
          let numbers : c.if-number-count.numbers ≡ slice_set cur node next = w.numbers-is ∙ w.in_ok-move_in.ensures.numbers in
          let lists : c.if-number-count.ranges.items ≡ w.move_in.new.ranges.items = ap (λ v. v.items) w.ranges-is in
          let row : c.if-number-count.members.items ≡ w.move_in.new.members.items = ap (λ v. v.items) w.members-is in
          let list : c.if-number-count.pending.items ≡ pending ++ node ∷ [] = ap (λ v. v.items) w.pending-is ∙ w.in_ok-push.ensures.items in
          let long : length c.if-number-count.ranges.items ≡ length c.next_number.new.ranges.items = ap (λ (l : List Range). length l) lists ∙ w.move_in.ensures.len in
          let high : count ≤ next = w.if-number-count.true in
          record {
            len = ap (λ (l : List ℕ). length l) numbers ∙ (length-set cur node next ∙ i.len);
            members = subst (λ (q : List ℕ × (List Range × List ℕ)). AreMembers q.0 q.1.0 q.1.1) (λ j. (sym (w.numbers-is) j, (sym lists j, sym row j))) w.in_ok-move_in.ensures.members;
            enough = let a = r.grown in let b = i.enough in omega arith;
            number = let a = r.inside in omega arith;
            more = λ some. let a = r.inside in omega arith;
            splitting = λ key g. subst (λ (q : List ℕ × List ℕ). IsSplitting key nodes old c.args.whole.now c.args.parts.now count (at + 1) q.0 q.1 next) (λ j. (sym numbers j, sym list j))
                (step-moved key nodes old c.args.whole.now c.args.parts.now count at cur pending c.loop-at.number (i.splitting key g) next (wise key g) inside high);
          }
      | else-number-count w ↦
          let numbers : c.if-number-count.numbers ≡ cur = w.numbers-is in
          let lists : c.if-number-count.ranges.items ≡ c.next_number.new.ranges.items = ap (λ v. v.items) w.ranges-is in
          let row : c.if-number-count.members.items ≡ members = ap (λ v. v.items) w.members-is in
          let list : c.if-number-count.pending.items ≡ pending = ap (λ v. v.items) w.pending-is in
          let low : next < count = w.if-number-count.false in
          let long : length c.if-number-count.ranges.items ≡ length c.next_number.new.ranges.items = ap (λ (l : List Range). length l) lists in
          record {
            len = ap (λ (l : List ℕ). length l) numbers ∙ i.len;
            members = subst (λ (q : List ℕ × (List Range × List ℕ)). AreMembers q.0 q.1.0 q.1.1) (λ j. (sym numbers j, (sym lists j, sym row j))) r.members_are;
            enough = let a = r.grown in let b = i.enough in omega arith;
            number = let a = r.inside in omega arith;
            more = λ some. let a = i.more (let e = ap (λ (l : List ℕ). length l) list in omega arith) in let b = r.grown in omega arith;
            splitting = λ key g. subst (λ (q : List ℕ × List ℕ). IsSplitting key nodes old c.args.whole.now c.args.parts.now count (at + 1) q.0 q.1 next) (λ j. (sym numbers j, sym list j))
                (step-kept key nodes old c.args.whole.now c.args.parts.now count at cur pending c.loop-at.number (i.splitting key g) next (wise key g) low);
          }
    ]
