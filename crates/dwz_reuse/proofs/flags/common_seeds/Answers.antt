use Rattle.std.proofs.Common.{◌+◌, ◌<◌, ◌||◌, ℕ, get_or, Bool, List, length, false, sym, ap, subst, ◌∙◌, arith}
use Rattle.std.specs.Prelude.{replicate}
use Rattle.std.proofs.lemmas.List.{length-map}
use Rattle.dwz_model.proofs.ListFacts.{replicate_long}
use Rattle.dwz_check_index.specs.Both.{from_top}
use Rattle.dwz_check_index.specs.Index.{IsCrossIndex}
use Rattle.dwz_check_index.specs.declared.index.TopEntry.{TopEntry}
use Rattle.dwz_def_check.specs.CrossNames.{cross_tops}
use Rattle.dwz_def_taken.specs.Beside.{look_units, own_tops, reused_of}
use Rattle.dwz_def_tops.specs.Spots.{tops_of}
use Rattle.dwz_graph.specs.Resolved.{AreEntries}
use Rattle.dwz_match.proofs.CommonTops.{spot_of}
use Rattle.dwz_move.specs.Bound.{HasTops}
use Rattle.dwz_move.specs.Known.{tops_of_refs}
use Rattle.dwz_move.specs.Marked.{MarksIf}
use Rattle.dwz_move.specs.declared.bind.TopRange.{TopRange}
use Rattle.dwz_move_files.specs.Lists.{entries_of}
use Rattle.dwz_unit.specs.Rows.{units_of}
use Rattle.dwz_reuse.specs.Binding.{AreBinding, tree_binds}
use Rattle.dwz_reuse.specs.Into.{common_name}
use Rattle.dwz_reuse.specs.Naming.{Names}
use Rattle.dwz_reuse.proofs.CommonNamed.{entries_low}
use Rattle.dwz_reuse.proofs.SeedFacts.{are_seeds, has_tops}
use Rattle.dwz_reuse.proofs.flags.common_seeds.Goals as goal

pub tops_into-requires-clause-entries : goal.tops_into-requires-clause-entries
tops_into-requires-clause-entries c = subst (AreEntries (units_of c.args.common.now.units)) (sym c.as_slice.ensures.value) c.requires.said.2.read.said.refs

pub tops_bind-requires : goal.tops_bind-requires
tops_bind-requires c = (c.requires.said.1.units, c.args.first, c.requires.said.2.read.said, c.requires.said.3)

pub named_tops-requires-clause-rows : goal.named_tops-requires-clause-rows
named_tops-requires-clause-rows c = entries_low c.args.common.now c.requires.said.1 c.requires.said.2.read c.requires.operands (spot_of c.requires.said.0 c.requires.said.1)

pub bound_or_named-requires : goal.bound_or_named-requires
bound_or_named-requires c =
    let docs = c.requires.said.0 in
    let doc = c.requires.said.1 in
    let s = c.requires.said.2 in
    let is = c.requires.said.3 in
    let f = c.args.common.now in
    let raw = units_of f.units in
    let r = reused_of docs doc in
    let x = c.args.index.now in
    let tops = is.tops.len in
    let here = ap (λ (w : List TopEntry). length w) c.tops.ensures in
    let low = s.tops in
    let own : TopRange = record { first = c.args.first; end = c.args.first + length c.tops.result.now } in
    let at : IsCrossIndex (from_top (own_tops r)) doc.units x = subst (λ (n : ℕ). IsCrossIndex (from_top n) doc.units x) (sym s.tops) is in
    let known = c.in_ok-into.ensures docs doc s.read at ∙ ap (tops_of_refs (common_name docs doc) raw) c.as_slice.ensures.value in
    let has : HasTops (tops_of (look_units r)) (length r.units) own = has_tops docs doc s.placed s.read.partial own (sym s.tops) (omega (arith, low, tops, here)) in
    let binding : AreBinding (tops_of (look_units r)) (length r.units) (common_name docs doc) doc.units c.in_ok-binding.binding.items =
    c.in_ok-binding.ensures doc.units c.args.first (common_name docs doc) (tops_of (look_units r)) (length r.units) s.read.said is (c.as_slice-2.ensures.value ∙ known) has in
    let many = ap (λ (w : List Bool). length w) binding ∙ length-map (cross_tops doc.units) (tree_binds (tops_of (look_units r)) (length r.units) (common_name docs doc)) in
    let names : MarksIf (Names (common_name docs doc) raw doc.units (entries_of f.resolved.operands.items)) (replicate own.end false) c.in_ok-named.named.items =
    c.in_ok-named.ensures docs doc s.read at (c.as_slice-3.ensures.value ∙ known) in
    let marks = names.len in
    let all = replicate_long own.end in
    let a = ap (λ (w : List Bool). length w) c.as_slice-4.ensures.value in
    let b = ap (λ (w : List Bool). length w) c.as_slice-5.ensures.value in
    record { len = omega (arith, many, marks, all, a, b, here, tops) }

pub returns-clause-len : goal.returns-clause-len
returns-clause-len c =
    let docs = c.requires.said.0 in
    let doc = c.requires.said.1 in
    let s = c.requires.said.2 in
    let is = c.requires.said.3 in
    let f = c.args.common.now in
    let raw = units_of f.units in
    let r = reused_of docs doc in
    let x = c.args.index.now in
    let tops = is.tops.len in
    let here = ap (λ (w : List TopEntry). length w) c.tops.ensures in
    let low = s.tops in
    let own : TopRange = record { first = c.args.first; end = c.args.first + length c.tops.result.now } in
    let at : IsCrossIndex (from_top (own_tops r)) doc.units x = subst (λ (n : ℕ). IsCrossIndex (from_top n) doc.units x) (sym s.tops) is in
    let known = c.in_ok-into.ensures docs doc s.read at ∙ ap (tops_of_refs (common_name docs doc) raw) c.as_slice.ensures.value in
    let has : HasTops (tops_of (look_units r)) (length r.units) own = has_tops docs doc s.placed s.read.partial own (sym s.tops) (omega (arith, low, tops, here)) in
    let binding : AreBinding (tops_of (look_units r)) (length r.units) (common_name docs doc) doc.units c.in_ok-binding.binding.items =
    c.in_ok-binding.ensures doc.units c.args.first (common_name docs doc) (tops_of (look_units r)) (length r.units) s.read.said is (c.as_slice-2.ensures.value ∙ known) has in
    let many = ap (λ (w : List Bool). length w) binding ∙ length-map (cross_tops doc.units) (tree_binds (tops_of (look_units r)) (length r.units) (common_name docs doc)) in
    let names : MarksIf (Names (common_name docs doc) raw doc.units (entries_of f.resolved.operands.items)) (replicate own.end false) c.in_ok-named.named.items =
    c.in_ok-named.ensures docs doc s.read at (c.as_slice-3.ensures.value ∙ known) in
    let a = ap (λ (w : List Bool). length w) c.as_slice-4.ensures.value in
    let len = c.in_ok-seeds.ensures.len in
    omega (arith, len, many, a, tops)

pub returns-clause-each : goal.returns-clause-each
returns-clause-each c = λ docs doc s is. (
    let f = c.args.common.now in
    let raw = units_of f.units in
    let r = reused_of docs doc in
    let x = c.args.index.now in
    let tops = is.tops.len in
    let here = ap (λ (w : List TopEntry). length w) c.tops.ensures in
    let low = s.tops in
    let own : TopRange = record { first = c.args.first; end = c.args.first + length c.tops.result.now } in
    let at : IsCrossIndex (from_top (own_tops r)) doc.units x = subst (λ (n : ℕ). IsCrossIndex (from_top n) doc.units x) (sym s.tops) is in
    let known = c.in_ok-into.ensures docs doc s.read at ∙ ap (tops_of_refs (common_name docs doc) raw) c.as_slice.ensures.value in
    let has : HasTops (tops_of (look_units r)) (length r.units) own = has_tops docs doc s.placed s.read.partial own (sym s.tops) (omega (arith, low, tops, here)) in
    let binding : AreBinding (tops_of (look_units r)) (length r.units) (common_name docs doc) doc.units c.in_ok-binding.binding.items =
    c.in_ok-binding.ensures doc.units c.args.first (common_name docs doc) (tops_of (look_units r)) (length r.units) s.read.said is (c.as_slice-2.ensures.value ∙ known) has in
    let many = ap (λ (w : List Bool). length w) binding ∙ length-map (cross_tops doc.units) (tree_binds (tops_of (look_units r)) (length r.units) (common_name docs doc)) in
    let names : MarksIf (Names (common_name docs doc) raw doc.units (entries_of f.resolved.operands.items)) (replicate own.end false) c.in_ok-named.named.items =
    c.in_ok-named.ensures docs doc s.read at (c.as_slice-3.ensures.value ∙ known) in
    let a = c.as_slice-4.ensures.value in
    let b = c.as_slice-5.ensures.value in
    are_seeds docs doc s.placed s.read.partial f s.read c.requires.operands c.args.first own.end s.tops (omega (arith, low, tops, here)) c.in_ok-binding.binding.items c.in_ok-named.named.items
    c.in_ok-seeds.seeds.items binding names (c.in_ok-seeds.ensures.len ∙ ap (λ (w : List Bool). length w) a)
    (λ k l. (
    let long : k < length c.as_slice-4.result.now = (let e = ap (λ (w : List Bool). length w) a in omega (arith, e, l)) in
    c.in_ok-seeds.ensures.each k long ∙ (λ i. get_or (a i) k false || get_or (b i) (c.args.first + k) false))))
