use Rattle.std.proofs.Common.{◌≡◌, ◌<◌, ℕ, List, Bool, All, length, ap, sym, subst, arith}
use Rattle.dwz_nodes.specs.Mentions.{part_key, AreMentions}
use Rattle.dwz_nodes.specs.declared.mentions.Mention.{Mention}
use Rattle.dwz_nodes.specs.Among.{Among}
use Rattle.dwz_rounds.specs.declared.members.Range.{Range}
use Rattle.std.specs.Prelude.{slice_index}
use Rattle.dwz_rounds.specs.Marked.{AreMarked}
use Rattle.dwz_rounds.specs.Pending.{AreSame}
use Rattle.std.specs.List.Sorted.{IsNonDecreasingBy}
use Rattle.dwz_rounds.specs.Split.{IsGrouped}
use Rattle.dwz_rounds.specs.declared.split.Part.{Part}
use Rattle.dwz_rounds.proofs.Marking.{marked-inside}
use Rattle.dwz_rounds.proofs.Membership.{numbers-below}
use Rattle.dwz_rounds.proofs.Passing.{sources-below, all-below, some-range, listed-below, split-from, pass-pending}
use Rattle.dwz_rounds.proofs.Mentioned.{by-source}
use Rattle.dwz_rounds.proofs.pass.pass.Goals as goal

pub look-requires-clause-sources : goal.look-requires-clause-sources
look-requires-clause-sources c = sources-below c.args.nodes.now c.args.uses.now (length c.args.numbers.now) c.requires.uses c.requires.pending.len

pub look-requires-clause-pending : goal.look-requires-clause-pending
look-requires-clause-pending c =
    subst (λ (l : List ℕ). All (λ a. a < length c.args.numbers.now) l) (sym c.as_slice-3.ensures.value)
    (all-below c.args.pending.now.items (length c.args.numbers.now) (λ a h. let i = c.requires.pending.inside a h in let e = c.requires.pending.len in omega arith))

pub look-requires-clause-numbers : goal.look-requires-clause-numbers
look-requires-clause-numbers c =
    subst (λ (l : List Range). All (λ n. n < length l) c.args.numbers.now) (sym c.as_slice.ensures.value)
    (numbers-below c.args.numbers.now c.args.ranges.now.items c.args.members.now.items c.requires.members)

pub group_nodes-requires-clause-inside : goal.group_nodes-requires-clause-inside
group_nodes-requires-clause-inside c =
    let r = c.in_ok-look.ensures.looking in
    subst (λ (l : List ℕ). All (λ a. a < length c.args.numbers.now) l) (sym c.as_slice-5.ensures.value)
    (marked-inside c.look.new.room.marks.items c.look.new.room.visit.items (length c.args.numbers.now) r.marks_len r.marked)

pub group_nodes-requires-clause-rising : goal.group_nodes-requires-clause-rising
group_nodes-requires-clause-rising c =
    subst (λ (ms : List Mention). IsNonDecreasingBy (λ (m : Mention). m.source) ms) (sym c.as_slice-4.ensures.value)
    (by-source c.look.new.room.mentions.items c.in_ok-look.ensures.mentions.rising)

pub find_parts-requires-clause-nodes : goal.find_parts-requires-clause-nodes
find_parts-requires-clause-nodes c =
    let r = c.in_ok-look.ensures.looking in
    subst (λ (l : List ℕ). All (λ a. a < length c.args.numbers.now) l) (sym c.as_slice-listed.ensures.value)
    (listed-below c.look.new.room.marks.items c.look.new.room.visit.items c.in_ok-groups.groups.nodes.items (length c.args.numbers.now) r.marks_len r.marked
    (subst (λ (l : List ℕ). AreSame l c.in_ok-groups.groups.nodes.items) c.as_slice-5.ensures.value c.in_ok-groups.ensures.same))

pub find_parts-requires-clause-numbers : goal.find_parts-requires-clause-numbers
find_parts-requires-clause-numbers c = λ k d l.
    let n = numbers-below c.args.numbers.now c.args.ranges.now.items c.args.members.now.items c.requires.members k d l in
    let few = c.requires.members.few in
    let many = c.in_ok-look.ensures.looking.parts_len in
    let e = ap (λ (x : List Part). length x) c.as_mut_slice.ensures.value in
    omega arith

pub split-requires-clause-nodes : goal.split-requires-clause-nodes
split-requires-clause-nodes c =
    let r = c.in_ok-look.ensures.looking in
    subst (λ (l : List ℕ). All (λ a. a < length c.args.numbers.now) l) (sym c.as_slice-listed.ensures.value)
    (listed-below c.look.new.room.marks.items c.look.new.room.visit.items c.in_ok-groups.groups.nodes.items (length c.args.numbers.now) r.marks_len r.marked
    (subst (λ (l : List ℕ). AreSame l c.in_ok-groups.groups.nodes.items) c.as_slice-5.ensures.value c.in_ok-groups.ensures.same))

pub split-requires-clause-some : goal.split-requires-clause-some
split-requires-clause-some c = some-range c.args.numbers.now c.args.ranges.now.items c.args.members.now.items c.args.pending.now.items (length c.args.nodes.now) c.requires.members
    (sym c.requires.pending.len) c.requires.pending.inside c.requires.some

pub returns-clause-pending : goal.returns-clause-pending
returns-clause-pending c = λ done.
    let g = c.args.nodes.now in
    let numbers : List ℕ = c.args.numbers.now in
    let pending : List ℕ = c.args.pending.now.items in
    let r = c.in_ok-look.ensures.looking in
    let ms : List Mention = c.look.new.room.mentions.items in
    let visit : List ℕ = c.look.new.room.visit.items in
    let wholes : List ℕ = c.look.new.room.wholes.items in
    let nodes : List ℕ = c.as_slice-listed.result.now in
    let news : List Bool = c.as_slice-news.result.now in
    let whole : List Bool = c.as_slice-6.result.now in
    let parts : List Part = c.as_slice-7.result.now in
    let count : ℕ = length c.args.ranges.now.items in
    let part : ℕ → List ℕ = part_key numbers ms in
    let mentions : AreMentions c.args.uses.now numbers pending ms = subst (λ (l : List ℕ). AreMentions c.args.uses.now numbers l ms) c.as_slice-3.ensures.value c.in_ok-look.ensures.mentions in
    let grouped : IsGrouped part numbers nodes news =
    subst (λ (q : List Mention × List ℕ × List Bool). IsGrouped (part_key numbers q.0) numbers q.1 q.2)
    (λ j. (c.as_slice-4.ensures.value j, sym c.as_slice-listed.ensures.value j, sym c.as_slice-news.ensures.value j)) c.in_ok-groups.ensures.grouped in
    let same : AreSame visit nodes = subst (λ (q : List ℕ × List ℕ). AreSame q.0 q.1) (λ j. (c.as_slice-5.ensures.value j, sym c.as_slice-listed.ensures.value j)) c.in_ok-groups.ensures.same in
    let whole_is : whole ≡ c.look.new.room.whole.items = c.as_slice-6.ensures.value in
    let marked : AreMarked whole wholes = subst (λ (l : List Bool). AreMarked l wholes) (sym whole_is) r.marked_wholes in
    let n = c.requires.pending.len in
    let inside : (a : ℕ) → Among visit a → a < length g = λ a h. let i = (r.marked.inside a h).0 in let e = r.marks_len in omega arith in
    let below : (a : ℕ) → a < length g → slice_index numbers a < count = λ a l. (c.requires.members.each a (omega arith)).number in
    let x = c.in_ok-done.ensures.split done part grouped in
    pass-pending g c.requires.closed c.args.uses.now c.requires.uses numbers pending c.requires.pending ms mentions visit wholes
    c.in_ok-look.ensures.all inside count below c.split.new.numbers c.split.new.pending.items
    (split-from g part numbers visit wholes nodes whole parts count c.split.new.numbers c.split.new.pending.items x.0 same marked inside below
    (let few = c.requires.members.few in let e = r.whole_len in let f = ap (λ (l : List Bool). length l) whole_is in omega arith)
    c.split.ensures.len x.1)
