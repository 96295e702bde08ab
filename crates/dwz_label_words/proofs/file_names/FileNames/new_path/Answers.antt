use Rattle.std.proofs.Common.{◌≡◌, ◌<◌, ◌^◌, List, Option, Some, length, slice_get, sym, subst, ap, ℕ, ◌∙◌}
use Rattle.std.specs.Global.{Vec}
use Rattle.std.specs.Option.{option_map}
use Rattle.dwz_def_reading.specs.Documents.{File}
use Rattle.dwz_def_reading.specs.LineTables.{FileTable, nth_path}
use Rattle.dwz_def_reading.specs.TextRows.{text_number}
use Rattle.dwz_label.specs.Labels.{plain_label}
use Rattle.dwz_label_words.specs.Known.{FileNames}
use Rattle.dwz_label_words.proofs.FoundLemmas.{found_kept, some_same, stays_named}
use Rattle.dwz_label_words.proofs.file_names.FileNames.new_path.Goals as goal

pub invariant_of-self : goal.invariant_of-self
invariant_of-self c =
    let x = c.self.inside in
    found_kept x.names x.strs.now x.tables.now x.declarations x.texts x.paths x.shapes c.self.invariant c.name_path.new.names c.name_path.ensures.kept

pub returns-in_err-number-in-Some-clause-stays : goal.returns-in_err-number-in-Some-clause-stays
returns-in_err-number-in-Some-clause-stays c =
    let x = c.self.inside in
    stays_named c.args.self.now x.strs.now x.tables.now x.declarations x.names c.name_path.new.names c.self.view_is c.name_path.ensures.kept

pub invariant_of-self-in-Some : goal.invariant_of-self-in-Some
invariant_of-self-in-Some c =
    let x = c.self.inside in
    found_kept x.names x.strs.now x.tables.now x.declarations x.texts x.paths x.shapes c.self.invariant c.name_path.new.names c.name_path.ensures.kept

pub returns-in-None-clause-found : goal.returns-in-None-clause-found
returns-in-None-clause-found c = λ t path g p. (
    let here = ap (λ (x : FileNames). slice_get x.tables c.args.table) c.self.view_is ∙ g in
    let same : c.table_at.result.now ≡ t = some_same (sym c.table_at.ensures ∙ here) in
    let there = sym (ap (λ (o : Option (Vec ℕ)). option_map (λ (v : Vec ℕ). v.items) o) c.in-None.is) ∙ c.in_ok-path.ensures.path
    ∙ ap (λ (x : FileTable). nth_path x.paths c.args.row) same ∙ p in
    absurd cc)

pub returns-in_ok-number-in-Some-clause-found : goal.returns-in_ok-number-in-Some-clause-found
returns-in_ok-number-in-Some-clause-found c = λ t path g p. (
    let here = ap (λ (x : FileNames). slice_get x.tables c.args.table) c.self.view_is ∙ g in
    let same : c.table_at.result.now ≡ t = some_same (sym c.table_at.ensures ∙ here) in
    let there = sym (ap (λ (o : Option (Vec ℕ)). option_map (λ (v : Vec ℕ). v.items) o) c.in-Some.is) ∙ c.in_ok-path.ensures.path
    ∙ ap (λ (x : FileTable). nth_path x.paths c.args.row) same ∙ p in
    let items : c.in-Some.path.items ≡ path = some_same there in
    ap (λ (x : List ℕ). text_number c.name_path.new.names (plain_label (File (Some x)))) (sym (c.deref.ensures.value ∙ items))
    ∙ c.in_ok-number-in-Some.ensures.number)

pub returns-in-None-clause-many : goal.returns-in-None-clause-many
returns-in-None-clause-many c = λ t g. (
    let here = ap (λ (x : FileNames). slice_get x.tables c.args.table) c.self.view_is ∙ g in
    let same : c.table_at.result.now ≡ t = some_same (sym c.table_at.ensures ∙ here) in
    subst (λ (x : FileTable). length x.paths < 2 ^ 63) same c.in_ok-path.ensures.many)

pub returns-in_ok-number-in-Some-clause-many : goal.returns-in_ok-number-in-Some-clause-many
returns-in_ok-number-in-Some-clause-many c = λ t g. (
    let here = ap (λ (x : FileNames). slice_get x.tables c.args.table) c.self.view_is ∙ g in
    let same : c.table_at.result.now ≡ t = some_same (sym c.table_at.ensures ∙ here) in
    subst (λ (x : FileTable). length x.paths < 2 ^ 63) same c.in_ok-path.ensures.many)
