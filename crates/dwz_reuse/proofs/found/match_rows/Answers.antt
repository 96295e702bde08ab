use Rattle.std.proofs.Common.{◌≡◌, ℕ, List, length, sym, ap, subst, ◌∙◌, arith}
use Rattle.dwz_graph.specs.Files.{docs_of}
use Rattle.dwz_graph.proofs.FilesFew.{all_small}
use Rattle.dwz_match.specs.MatchRows.{AreKinRows}
use Rattle.dwz_match.proofs.RowFacts.{match_law}
use Rattle.dwz_reuse.proofs.LookSizes.{classes_many, cross_few}
use Rattle.dwz_reuse.proofs.found.match_rows.Goals as goal

pub kin-requires-clause-count : goal.kin-requires-clause-count
kin-requires-clause-count g c κs within =
    let doc = c.requires.beside.0 in
    let b = c.requires.beside.1 in
    let many = classes_many c.args.graph.now.given c.args.common.now doc b c.in_ok-classes.classes (c.in_ok-classes.ensures doc b) in
    let len = c.len-count.ensures in
    omega (arith, many, len)

pub kin-requires-clause-few : goal.kin-requires-clause-few
kin-requires-clause-few g c κs within =
    let doc = c.requires.beside.0 in
    let b = c.requires.beside.1 in
    let many = classes_many c.args.graph.now.given c.args.common.now doc b c.in_ok-classes.classes (c.in_ok-classes.ensures doc b) in
    let cross = cross_few c.args.graph.now.given c.args.common.now doc b in
    let small = (all_small c.args.graph.now.given c.files.result.now c.indexes.result.now c.files.ensures c.indexes.ensures).tops in
    let len = c.len-count.ensures in
    omega (arith, many, cross, small, len)

pub refers-requires : goal.refers-requires
refers-requires g c =
    let doc = c.requires.beside.0 in
    let b = c.requires.beside.1 in
    let many = classes_many c.args.graph.now.given c.args.common.now doc b c.in_ok-classes.classes (c.in_ok-classes.ensures doc b) in
    let len = c.len-count.ensures in
    omega (arith, many, len)

pub returns-clause-is : goal.returns-clause-is
returns-clause-is g c =
    let doc = c.requires.beside.0 in
    let b = c.requires.beside.1 in
    let many = classes_many c.args.graph.now.given c.args.common.now doc b c.in_ok-classes.classes (c.in_ok-classes.ensures doc b) in
    let cross = cross_few c.args.graph.now.given c.args.common.now doc b in
    let small = (all_small c.args.graph.now.given c.files.result.now c.indexes.result.now c.files.ensures c.indexes.ensures).tops in
    let len = c.len-count.ensures in
    let count : c.len-count.result ≡ length c.in_ok-rows.rows.classes = len ∙ ap (λ (w : List ℕ). length w) (sym c.in_ok-rows.ensures.classes) in
    record {
      rows = c.in_ok-rows.ensures.rows;
      apart = c.in_ok-rows.ensures.apart;
      kin = subst (λ (n : ℕ). AreKinRows n c.in_ok-kin.kin c.in_ok-targets.targets) count (record {
        few = omega (arith, many, cross, small, len);
        len = c.in_ok-kin.ensures.len;
        numbers = c.in_ok-kin.ensures.below;
        targets_len = c.in_ok-targets.ensures.len;
        below = c.in_ok-targets.ensures.below;
      });
    }

pub returns-clause-shows : goal.returns-clause-shows
returns-clause-shows g c = λ doc b. (
    let docs = docs_of c.args.graph.now.given in
    let k = c.in_ok-rows.ensures.shown doc b (c.in_ok-classes.ensures doc b) in
    record {
      name = k.name;
      shows = match_law docs doc c.args.movable.now k.name c.in_ok-rows.rows c.in_ok-kin.kin c.in_ok-targets.targets b.placed k.tops k.spaces k.units c.in_ok-kin.ensures.same c.in_ok-targets.ensures.shows;
    })
