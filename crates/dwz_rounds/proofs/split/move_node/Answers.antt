use Rattle.std.proofs.Common.{◌≡◌, ◌+◌, ◌∷◌, [], ℕ, List, length, length-append, ap, sym, subst, arith}
use Rattle.std.specs.Prelude.{slice_index, slice_set}
use Rattle.std.proofs.Math.ListN.{length-set}
use Rattle.dwz_rounds.specs.declared.members.Range.{Range}
use Rattle.dwz_rounds.specs.Members.{AreMembers, range_at}
use Rattle.dwz_rounds.proofs.Membership.{live-only, moved}
use Rattle.dwz_rounds.proofs.split.move_node.Goals as goal

pub slice_copy_out-old : goal.slice_copy_out-old
slice_copy_out-old c = (c.requires.members.each c.args.node c.requires.node).number

pub bounds-ranges-class : goal.bounds-ranges-class
bounds-ranges-class c = (c.requires.members.each c.args.node c.requires.node).number

pub returns-clause-members : goal.returns-clause-members
returns-clause-members c =
    let numbers : List ℕ = c.args.numbers.now in
    let ranges : List Range = c.args.ranges.now in
    let members : List ℕ = c.args.members.now.items in
    let class : ℕ = slice_index numbers c.args.node in
    let there = (c.requires.members.each c.args.node c.requires.node).number in
    let r : Range = record { start = (range_at ranges class).start; end = (range_at ranges class).end; live = c.saturating_sub.result } in
    let mid : List Range = slice_set ranges class r in
    let first : AreMembers numbers mid members = live-only numbers ranges members c.requires.members class c.saturating_sub.result there in
    let items = c.in_ok-push.ensures.items in
    let end : c.len.result ≡ length members + 1 = let e = c.len.ensures in let f = c.push.new.self.ok.0 in let g =
    ap (λ (l : List ℕ). length l) items in omega (arith, length-append members (c.args.node ∷ [])) in
    subst (λ (l : List ℕ). AreMembers (slice_set numbers c.args.node c.args.number)
    (slice_set mid c.args.number (record { start = (range_at mid c.args.number).start; end = c.len.result; live = c.saturating_add.result })) l) (sym items)
    (moved numbers mid members first c.args.node c.args.number c.saturating_add.result c.len.result c.requires.node (let e = length-set ranges class r in let n = c.requires.number in omega arith) end)
