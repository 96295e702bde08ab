use Rattle.std.proofs.Common.{◌≡◌, ◌≤◌, ◌+◌, ◌^◌, Option, Ok, length, sym, subst, ◌∙◌, arith}
use Rattle.std.proofs.lemmas.Result.{IfOk-weaker}
use Rattle.std.specs.Option.{option_map}
use Rattle.dwz_def_reading.specs.Meant.{units_meaning}
use Rattle.dwz_def_reading.specs.Units.{entries_in}
use Rattle.dwz_check_index.specs.Both.{raw_beside}
use Rattle.dwz_graph.specs.declared.file.File.{File}
use Rattle.dwz_unit.specs.Rows.{Source, units_of}
use Rattle.dwz_check.proofs.Decides.{indexes_are}
use Rattle.dwz_law_check.proofs.Placed.{units_beside}
use Rattle.dwz_check.proofs.GraphSays.{common_meant, graph_of, pair_long, says_at}
use Rattle.dwz_check.proofs.indexes.indexes_of.Goals as goal

pub bounds-files-0 : goal.bounds-files-0
bounds-files-0 c =
    let r = c.args.graph.now in
    let common = option_map (λ f. f.now) c.common-shared.result in
    let files = c.back-files.result.now in
    let of = graph_of (record { common = c.placed_laws.ensures.common; back = c.placed_laws.ensures.back }) r (length r.given + length r.back) common files c.requires.two c.common-shared.ensures
    c.back-files.ensures in
    let two = pair_long r common files of in
    omega (arith, two)

pub bounds-files-1 : goal.bounds-files-1
bounds-files-1 c =
    let r = c.args.graph.now in
    let common = option_map (λ f. f.now) c.common-shared.result in
    let files = c.back-files.result.now in
    let of = graph_of (record { common = c.placed_laws.ensures.common; back = c.placed_laws.ensures.back }) r (length r.given + length r.back) common files c.requires.two c.common-shared.ensures
    c.back-files.ensures in
    let two = pair_long r common files of in
    omega (arith, two)

pub read-requires-clause-old : goal.read-requires-clause-old
read-requires-clause-old c =
    let r = c.args.graph.now in
    let common = option_map (λ f. f.now) c.common-shared.result in
    let files = c.back-files.result.now in
    let of = graph_of (record { common = c.placed_laws.ensures.common; back = c.placed_laws.ensures.back }) r (length r.given + length r.back) common files c.requires.two c.common-shared.ensures
    c.back-files.ensures in
    let s = says_at r common files c.index-files-0.result c.index-files-1.result of c.index-files-0.is c.index-files-1.is in
    subst (λ (w : File). entries_in (units_of w.units) ≤ 2 ^ 28) c.index-files-0.is s.old_few

pub read-requires-clause-new : goal.read-requires-clause-new
read-requires-clause-new c =
    let r = c.args.graph.now in
    let common = option_map (λ f. f.now) c.common-shared.result in
    let files = c.back-files.result.now in
    let of = graph_of (record { common = c.placed_laws.ensures.common; back = c.placed_laws.ensures.back }) r (length r.given + length r.back) common files c.requires.two c.common-shared.ensures
    c.back-files.ensures in
    let s = says_at r common files c.index-files-0.result c.index-files-1.result of c.index-files-0.is c.index-files-1.is in
    subst (λ (w : File). entries_in (units_of w.units) ≤ 2 ^ 28) c.index-files-1.is s.new_few

pub read-requires-clause-common : goal.read-requires-clause-common
read-requires-clause-common c =
    let r = c.args.graph.now in
    let common = option_map (λ f. f.now) c.common-shared.result in
    let files = c.back-files.result.now in
    let of = graph_of (record { common = c.placed_laws.ensures.common; back = c.placed_laws.ensures.back }) r (length r.given + length r.back) common files c.requires.two c.common-shared.ensures
    c.back-files.ensures in
    let s = says_at r common files c.index-files-0.result c.index-files-1.result of c.index-files-0.is c.index-files-1.is in
    subst (λ (o : Option Source). entries_in (raw_beside o) ≤ 2 ^ 28) (units_beside c.common-shared.result ∙ sym c.units_of.ensures) s.common_few

pub returns : goal.returns
returns c =
    let r = c.args.graph.now in
    let common = option_map (λ f. f.now) c.common-shared.result in
    let files = c.back-files.result.now in
    let of = graph_of (record { common = c.placed_laws.ensures.common; back = c.placed_laws.ensures.back }) r (length r.given + length r.back) common files c.requires.two c.common-shared.ensures
    c.back-files.ensures in
    let s = says_at r common files c.index-files-0.result c.index-files-1.result of c.index-files-0.is c.index-files-1.is in
    let m = common_meant s.old_says.around common s.c s.common_says in
    IfOk-weaker c.read.result _ _ (λ x are. indexes_are r s.a s.b s.c x c.requires.two s.numbered are)
    (c.read.ensures s.old_says.around s.new_says.around m.0 s.a s.b s.c (subst (λ (w : File). units_meaning s.old_says.around (units_of w.units) ≡ Ok s.a) c.index-files-0.is s.old_says.means)
    (subst (λ (w : File). units_meaning s.new_says.around (units_of w.units) ≡ Ok s.b) c.index-files-1.is s.new_says.means)
    (subst (λ (o : Option Source). units_meaning m.0 (raw_beside o) ≡ Ok s.c) (units_beside c.common-shared.result ∙ sym c.units_of.ensures) m.1))
