use Rattle.std.specs.Prelude.{slice_index_or}
use Rattle.dwz_groups.specs.declared.groups.Edge.{Edge}
use Rattle.std.proofs.Common.{◌≡◌, ◌<◌, ◌+◌, ◌++◌, ℕ, [], List, All, Contains, length, length-append, ap, sym, subst, arith, ◌∙◌}
use Rattle.std.proofs.lemmas.List.FromFn.{get_or-map-range_with_len}
use Rattle.dwz_groups.specs.Groups.{grouped, values_at}
use Rattle.dwz_groups.proofs.MarkLemmas.{grouped_length}
use Rattle.dwz_rounds.specs.Start.{number_pairs}
use Rattle.dwz_rounds.specs.declared.members.Range.{Range}
use Rattle.dwz_rounds.proofs.Starting.{AreListed, listed-more, listed-all, has-node, keys-low, nodes-inside}
use Rattle.dwz_rounds.proofs.start.members_of.Goals as goal

-- what is under a key of grouped pairs
grouped_at : (n m : ℕ) (pairs : List Edge) → m < n → slice_index_or (grouped n pairs) m [] ≡ values_at pairs m
unfolding grouped
grouped_at n m pairs l = get_or-map-range_with_len (values_at pairs) 0 n m m [] l (omega arith)

pub loop-class-preserved : goal.loop-class-preserved
loop-class-preserved c =
    let numbers : List ℕ = c.args.numbers.now in
    let class : ℕ = c.loop-class.class in
    let members : List ℕ = c.loop-class.members.items in
    let row : List ℕ = c.get.result.now in
    let pairs = number_pairs 0 numbers in
    let is : row ≡ values_at pairs class = c.get.ensures
    ∙ ap (λ (w : List (List ℕ)). slice_index_or w class []) (c.in_ok-nodes.ensures ∙ ap (grouped c.args.count) (c.as_slice.ensures.value ∙ c.in_ok-pairs.ensures))
    ∙ grouped_at c.args.count class pairs c.loop-class-test.true in
    let added : c.extend_from_slice.new.self.items ≡ members ++ row = c.in_ok-extend_from_slice.ensures.items in
    let start : c.len-start.result ≡ length members = c.len-start.ensures ∙ c.loop-class.members.ok.0 in
    let end : c.len-end.result ≡ length members + length row = let e = c.len-end.ensures in let f = c.extend_from_slice.new.self.ok.0 in let g =
    ap (λ (l : List ℕ). length l) added in omega (arith, length-append members row) in
    subst (λ (q : List Range × List ℕ). AreListed numbers (class + 1) q.0 q.1) (λ j. (sym c.in_ok-push.ensures.items j, sym added j))
    (listed-more numbers class c.min-live.result c.len-start.result c.len-end.result c.loop-class.ranges.items members row c.loop-class.invariant
    (λ a l e. subst (λ (xs : List ℕ). Contains xs a) (sym is) (has-node numbers class a l e))
    (subst (λ (xs : List ℕ). All (λ a. a < length numbers) xs) (sym is) (nodes-inside numbers class))
    start end)

pub group-requires : goal.group-requires
group-requires c =
    subst (λ (w : List Edge). All (λ p. p.key < c.args.count) w) (sym (c.as_slice.ensures.value ∙ c.in_ok-pairs.ensures)) (keys-low 0 c.args.count c.args.numbers.now c.requires.numbers)

pub get-requires : goal.get-requires
get-requires c =
    let many = ap (λ (w : List (List ℕ)). length w) c.in_ok-nodes.ensures ∙ grouped_length c.args.count (c.as_slice.result.now) in
    let t = c.loop-class-test.true in
    omega arith

pub returns : goal.returns
returns c =
    let t = c.loop-class-test.false in
    let e = c.loop-class.auto.class-end in
    listed-all c.args.numbers.now c.loop-class.class c.loop-class.ranges.items c.loop-class.members.items (let f = c.requires.count in omega arith)
    (λ k d l. let n = c.requires.numbers k d l in omega arith) c.loop-class.invariant
