use Rattle.std.proofs.Common.{◌≡◌, ◌<◌, ◌≤◌, ℕ, List, length, map, sym, ap, subst, ◌∙◌, arith}
use Rattle.std.proofs.lemmas.List.{length-map}
use Rattle.std.proofs.lemmas.Result.{IfOk-weaker}
use Rattle.dwz_def_tops.specs.Spots.{Top, tops_of, units_of}
use Rattle.dwz_graph.specs.Files.{docs_of}
use Rattle.dwz_label.specs.Nodes.{AreLeast}
use Rattle.dwz_label_files.proofs.LabelLemmas.{targets_low, tops_show}
use Rattle.dwz_match.specs.Kin.{AreKinBy, Rise}
use Rattle.dwz_match.specs.MatchRows.{AreSameKin}
use Rattle.dwz_match.proofs.ClassFacts.{kin_law}
use Rattle.dwz_model.specs.Lists.{In}
use Rattle.dwz_reuse.proofs.TopFiles.{files_rise}
use Rattle.dwz_reuse.proofs.LeastLow.{least_low}
use Rattle.dwz_reuse.proofs.file_kin.kin.Goals as goal

pub least-requires-clause-inside : goal.least-requires-clause-inside
least-requires-clause-inside g c κs within = targets_low c.args.tops.now.targets c.requires.tops.inside

pub kin_of-requires-clause-files : goal.kin_of-requires-clause-files
kin_of-requires-clause-files g c =
    let docs = docs_of c.args.graph.now.given in
    let tops = c.args.tops.now in
    let least = c.in_ok-least.ensures (tops_show docs tops c.args.movable.now c.requires.tops c.requires.flags) in
    ap (λ (w : List ℕ). length w) (c.as_slice-2.ensures.value ∙ c.in_ok-files.ensures docs c.requires.tops.shows) ∙ length-map (tops_of (units_of docs)) (λ (t : Top). t.file) ∙ sym least.len
    ∙ ap (λ (w : List ℕ). length w) (sym c.as_slice.ensures)

pub kin_of-requires-clause-least : goal.kin_of-requires-clause-least
kin_of-requires-clause-least g c =
    let docs = docs_of c.args.graph.now.given in
    let least = c.in_ok-least.ensures (tops_show docs c.args.tops.now c.args.movable.now c.requires.tops c.requires.flags) in
    subst (λ (w : List ℕ). (n : ℕ) → In n w → n < length w) (sym c.as_slice.ensures) (least_low (units_of docs) c.in_ok-least.least least)

pub kin_of-requires-clause-rise : goal.kin_of-requires-clause-rise
kin_of-requires-clause-rise g c =
    let docs = docs_of c.args.graph.now.given in
    subst Rise (sym (c.as_slice-2.ensures.value ∙ c.in_ok-files.ensures docs c.requires.tops.shows)) (files_rise docs)

pub kin_of-requires-clause-count : goal.kin_of-requires-clause-count
kin_of-requires-clause-count g c =
    let docs = docs_of c.args.graph.now.given in
    let least = c.in_ok-least.ensures (tops_show docs c.args.tops.now c.args.movable.now c.requires.tops c.requires.flags) in
    let len : length c.as_slice.result.now ≡ length (tops_of (units_of docs)) = ap (λ (w : List ℕ). length w) c.as_slice.ensures ∙ least.len in
    let most = c.requires.count in
    omega (arith, len, most)

pub returns-clause-same : goal.returns-clause-same
returns-clause-same g c =
    let docs = docs_of c.args.graph.now.given in
    let least = c.in_ok-least.ensures (tops_show docs c.args.tops.now c.args.movable.now c.requires.tops c.requires.flags) in
    let files = c.as_slice-2.ensures.value ∙ c.in_ok-files.ensures docs c.requires.tops.shows in
    IfOk-weaker c.kin_of.result (λ kin. AreKinBy c.as_slice.result.now c.as_slice-2.result.now c.args.count kin) (AreSameKin (units_of docs))
    (λ kin by. kin_law (units_of docs) c.as_slice.result.now c.args.count kin (subst (AreLeast (units_of docs)) (sym c.as_slice.ensures) least)
    (subst (λ (w : List ℕ). AreKinBy c.as_slice.result.now w c.args.count kin) files by)) c.kin_of.ensures.kin
