use Rattle.std.proofs.Common.{◌≡◌, ◌∙◌, ℕ, List, Option, Some, ap, sym, rules, subst}
use mir.Syntax.{w128}
use mir.Val.{of_z, to_z}
use Rattle.std.proofs.lemmas.Int.{to_z-of_z}
use Rattle.dwz_model.proofs.ListFacts.{item_got}
use Rattle.std.specs.Global.{Vec}
use Rattle.std.specs.Option.{option_map}
use Rattle.dwz_def_expand.specs.Chosen.{row_for}
use Rattle.dwz_def_reading.specs.Documents.{File, Plain}
use Rattle.dwz_def_reading.specs.Meanings.{number_of, path_by}
use Rattle.dwz_label_entries.specs.Plain.{KnowsLine}
use Rattle.dwz_expand_passes.proofs.FileSteps.{path_there}
use Rattle.dwz_expand_passes.proofs.numbers.row_of_file.Goals as goal

pub returns-in-None : goal.returns-in-None
returns-in-None c = λ s a v paths numbers is line means rows. (
    let tables = c.args.x.now.file.tables.now in
    let number = c.in-Some.number in
    let h = path_there s a v tables number (subst (λ (o : Option ℕ). KnowsLine s a tables o) c.in-Some.is line) means in
    let table = c.index-tables-number.result in
    let got = item_got tables number table (search rules) c.index-tables-number.is in
    let both : Some table ≡ Some h.table = sym got ∙ h.there in
    let one : table ≡ h.table = cc in
    let number_is : to_z w128 (of_z w128 c.number_of.result) ≡ number_of a.raw = to_z-of_z w128 c.number_of.result (search rules) ∙ c.number_of.ensures ∙ ap number_of (sym is) in
    let path_is : path_by table (to_z w128 (of_z w128 c.number_of.result)) ≡ Some h.path = (λ i. path_by (one i) (number_is i)) ∙ h.is_path in
    let there = c.in_ok-path_of.ensures h.path path_is in
    let none = sym (ap (λ (o : Option (Vec ℕ)). option_map (λ (w : Vec ℕ). w.items) o) c.in-None.is) ∙ there in
    absurd cc)

pub returns-in-Some-2 : goal.returns-in-Some-2
returns-in-Some-2 c = λ s a v paths numbers is line means rows. (
    let tables = c.args.x.now.file.tables.now in
    let number = c.in-Some.number in
    let h = path_there s a v tables number (subst (λ (o : Option ℕ). KnowsLine s a tables o) c.in-Some.is line) means in
    let table = c.index-tables-number.result in
    let got = item_got tables number table (search rules) c.index-tables-number.is in
    let both : Some table ≡ Some h.table = sym got ∙ h.there in
    let one : table ≡ h.table = cc in
    let number_is : to_z w128 (of_z w128 c.number_of.result) ≡ number_of a.raw = to_z-of_z w128 c.number_of.result (search rules) ∙ c.number_of.ensures ∙ ap number_of (sym is) in
    let path_is : path_by table (to_z w128 (of_z w128 c.number_of.result)) ≡ Some h.path = (λ i. path_by (one i) (number_is i)) ∙ h.is_path in
    let there = c.in_ok-path_of.ensures h.path path_is in
    let some = sym (ap (λ (o : Option (Vec ℕ)). option_map (λ (w : Vec ℕ). w.items) o) c.in-Some-2.is) ∙ there in
    let same : c.in-Some-2.path.items ≡ h.path = cc in
    c.row_for-in-Some-2.ensures paths rows ∙ ap (λ (w : List ℕ). row_for paths (File (Some w))) (c.as_slice.ensures.value ∙ same) ∙ ap (λ (p : Plain). row_for paths p) (sym h.plain))
