use Rattle.std.proofs.Common.{◌≡◌, ◌++◌, ℕ, Bool, List, length, refl, sym, ap, subst, ◌∙◌, arith}
use Rattle.std.proofs.lemmas.List.{length-append}
use Rattle.dwz_check_labels.specs.Both.{Named}
use Rattle.dwz_check_labels.specs.FilesSaid.{IsNamed}
use Rattle.dwz_def_check.specs.CrossNames.{CrossName, cross_names_from}
use Rattle.dwz_def_taken.specs.Beside.{Reused, look_units, own_tops, reused_of}
use Rattle.dwz_def_tops.specs.Deciding.{AreMovable}
use Rattle.dwz_def_tops.specs.Lists.{NoneTwice}
use Rattle.dwz_def_tops.specs.Spots.{units_of}
use Rattle.dwz_graph.specs.Files.{docs_of}
use Rattle.dwz_label.specs.Shown.{AreShown}
use Rattle.dwz_label_files.proofs.LabelLemmas.{all_shown, targets_low, tops_show}
use Rattle.dwz_match.specs.Bare.{AreCommonNames, ShowBare}
use Rattle.dwz_match.specs.ClassLaws.{AreCommonFlags}
use Rattle.dwz_match.proofs.FlagFacts.{flags_law}
use Rattle.dwz_reuse.proofs.CommonPlaced.{compile_keys}
use Rattle.dwz_reuse.proofs.PlaceNames.{name_at, names_found}
use Rattle.dwz_reuse.proofs.LookSizes.{cross_few}
use Rattle.dwz_reuse.proofs.look_classes.all_classes.Goals as goal

pub all_labels-requires-clause-said : goal.all_labels-requires-clause-said
all_labels-requires-clause-said g c = (c.requires.beside.0, c.requires.beside.1.read)

pub all_labels-requires-clause-own : goal.all_labels-requires-clause-own
all_labels-requires-clause-own g c = c.requires.tops.shows.len ∙ sym c.in_ok-labels.ensures.len

pub all_labels-requires-clause-inside : goal.all_labels-requires-clause-inside
all_labels-requires-clause-inside g c = targets_low c.args.tops.now.targets c.requires.tops.inside

pub common_flags-requires-clause-said : goal.common_flags-requires-clause-said
common_flags-requires-clause-said g c =
    let docs = docs_of c.args.graph.now.given in
    let doc = c.requires.beside.0 in
    let b = c.requires.beside.1 in
    let labels = c.in_ok-labels.ensures.len in
    let many = c.in_ok-all.ensures.many in
    let count = c.in_ok-all.ensures.count doc b.read in
    let few = c.in_ok-labels.ensures.few in
    (docs, doc, record { read = b.read; placed = b.placed; tops = omega (arith, labels, few) }, omega (arith, many, count, few))

pub classes-requires-clause-movable : goal.classes-requires-clause-movable
classes-requires-clause-movable g c κs within =
    let movable = c.args.movable.now in
    let a = ap (λ (w : List Bool). length w) (c.as_slice-2.ensures.value ∙ c.in_ok-flags.ensures) in
    let both = length-append movable c.as_slice.result.now in
    let b = ap (λ (w : List Bool). length w) c.as_slice.ensures.value in
    let others = c.in_ok-others.ensures.len in
    let many = c.in_ok-all.ensures.many in
    let flags = c.requires.flags.len in
    let labels = c.in_ok-labels.ensures.len in
    let few = c.in_ok-labels.ensures.few in
    omega (arith, a, both, b, others, many, flags, labels, few)

pub classes-requires-clause-few : goal.classes-requires-clause-few
classes-requires-clause-few g c κs within =
    let doc = c.requires.beside.0 in
    let b = c.requires.beside.1 in
    let count = c.in_ok-all.ensures.count doc b.read in
    let few = c.in_ok-labels.ensures.few in
    let cross = cross_few c.args.graph.now.given c.args.common.now doc b in
    omega (arith, count, few, cross)

pub returns : goal.returns
returns g c = λ doc b. (
    let docs = docs_of c.args.graph.now.given in
    let r : Reused = reused_of docs doc in
    let labels = c.in_ok-labels.labels in
    let all = c.in_ok-all.all in
    let low : own_tops r ≡ length labels = sym c.in_ok-labels.ensures.len in
    let name : ℕ → CrossName = name_at (cross_names_from 0 (own_tops r) doc.units) in
    let named : AreCommonNames docs doc name = names_found (own_tops r) doc.units (subst NoneTwice (compile_keys doc.units) b.read.parts.apart) in
    let shown : AreShown (units_of docs) labels c.args.movable.now c.args.tops.now.targets =
    all_shown c.args.graph.now.given labels c.args.movable.now c.args.tops.now.targets c.in_ok-labels.ensures.labels c.requires.tops.shows.len
    (tops_show docs c.args.tops.now c.args.movable.now c.requires.tops c.requires.flags) in
    let n : Named = record { said = doc.units; name = name } in
    let bare : ShowBare docs doc name all.labels all.targets =
    c.in_ok-all.ensures.shows docs doc n c.args.movable.now b.placed b.read refl (subst (λ (k : ℕ). IsNamed k (λ p. p) n) low named) shown in
    let len = c.in_ok-labels.ensures.len in
    let few = c.in_ok-labels.ensures.few in
    let others : AreCommonFlags r c.in_ok-others.others.items =
    c.in_ok-others.ensures.flags docs doc name all.labels (record { read = b.read; placed = b.placed; tops = omega (arith, len, few) }) named bare in
    let made = c.as_slice-2.ensures.value ∙ c.in_ok-flags.ensures ∙ ap (λ (w : List Bool). c.args.movable.now ++ w) c.as_slice.ensures.value in
    let flags : AreMovable (look_units r) c.as_slice-2.result.now =
    subst (AreMovable (look_units r)) (sym made) (flags_law docs doc c.args.movable.now c.in_ok-others.others.items b.placed c.requires.flags others) in
    c.classes.ensures docs doc name b.placed b.read.partial named flags bare)
