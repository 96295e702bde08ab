use Rattle.std.proofs.Common.{ℕ, List, None, sym, subst, ◌∙◌}
use Rattle.std.proofs.lemmas.Result.{IfOk-weaker}
use Rattle.dwz_def_reading.specs.Documents.{DwUnit}
use Rattle.dwz_def_check.specs.CrossNames.{cross_names_from}
use Rattle.dwz_check_labels.specs.FilesSaid.{IsFileSaid, around_given}
use Rattle.dwz_check_index.specs.Both.{from_top}
use Rattle.dwz_check_index.specs.Index.{IsCrossIndex}
use Rattle.dwz_reuse.specs.Joined.{AreCommonLists}
use Rattle.dwz_reuse.proofs.PlaceNames.{name_at, names_found}
use Rattle.dwz_reuse.proofs.LabelsInside.{keys_apart, targets_inside}
use Rattle.dwz_reuse.proofs.labels.common_labels.Goals as goal

pub labels_by_itself-requires : goal.labels_by_itself-requires
labels_by_itself-requires c =
    let doc = c.requires.said.0 in
    let r = c.requires.said.1 in
    record { said = doc.units; top = c.args.first; is = r.said; index = c.in_ok-index.ensures.names (around_given c.args.common.now None) doc.units r.said.means }

pub returns-clause-count : goal.returns-clause-count
returns-clause-count c = λ doc r. (
    let index = c.in_ok-index.ensures.names (around_given c.args.common.now None) doc.units r.said.means in
    IfOk-weaker c.labels_by_itself.result _ _ (λ x e. e ∙ index.tops.len) c.labels_by_itself.ensures.count)

pub returns-clause-lists : goal.returns-clause-lists
returns-clause-lists c = λ doc n r same named. (
    let f = c.args.common.now in
    let index = c.in_ok-index.ensures.names (around_given f None) doc.units r.said.means in
    let said = subst (λ (w : List (DwUnit ℕ)). IsFileSaid f None w) (sym same) r.said in
    let is = subst (λ (w : List (DwUnit ℕ)). IsCrossIndex (from_top c.args.first) w c.in_ok-index.index) (sym same) index in
    IfOk-weaker c.labels_by_itself.result _ _ (λ x told. subst (λ (w : List (DwUnit ℕ)). AreCommonLists (record { machine = doc.machine; units = w }) n.name x.labels x.targets) same
    (told n c.args.first said is named)) c.labels_by_itself.ensures.labels)

pub returns-clause-inside : goal.returns-clause-inside
returns-clause-inside c =
    let doc = c.requires.said.0 in
    let r = c.requires.said.1 in
    let f = c.args.common.now in
    let index = c.in_ok-index.ensures.names (around_given f None) doc.units r.said.means in
    let name = name_at (cross_names_from 0 c.args.first doc.units) in
    let found = names_found c.args.first doc.units (keys_apart doc.units r.parts) in
    IfOk-weaker c.labels_by_itself.result _ _ (λ x told. targets_inside c.args.first doc.units r.partial r.parts name found x.targets
    (told (record { said = doc.units; name = name }) c.args.first r.said index found).1) c.labels_by_itself.ensures.labels
