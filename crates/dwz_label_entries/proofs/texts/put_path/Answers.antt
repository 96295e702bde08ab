use Rattle.std.proofs.Common.{◌≡◌, ◌++◌, List, Option, Some, sym, subst, ap, ℕ, ◌∙◌}
use Rattle.std.specs.Global.{Vec}
use Rattle.std.specs.Option.{option_map}
use Rattle.std.specs.Prelude.{OnOk}
use mir.Syntax.{w128}
use Rattle.std.proofs.lemmas.Int.{to_z-of_z}
use Rattle.dwz_label.specs.Labels.{plain_label}
use Rattle.dwz_def_reading.specs.Documents.{File}
use Rattle.dwz_label_entries.proofs.PathLemmas.{path_at}
use Rattle.dwz_label_entries.proofs.texts.put_path.Goals as goal

pub returns-in-None : goal.returns-in-None
returns-in-None c = λ path is. (
    let row = path_at c.args.table.now c.args.number path c.row_of.result is c.in_ok-path.ensures.many
    (λ n e few. c.row_of.ensures n (to_z-of_z w128 c.args.number c.ranges.number ∙ e) few) in
    let there = sym (ap (λ (o : Option (Vec ℕ)). option_map (λ (v : Vec ℕ). v.items) o) c.in-None.is) ∙ c.in_ok-path.ensures.path ∙ row in
    absurd cc)

pub returns-in-Some : goal.returns-in-Some
returns-in-Some c = λ path is. (
    let row = path_at c.args.table.now c.args.number path c.row_of.result is c.in_ok-path.ensures.many
    (λ n e few. c.row_of.ensures n (to_z-of_z w128 c.args.number c.ranges.number ∙ e) few) in
    let there = sym (ap (λ (o : Option (Vec ℕ)). option_map (λ (v : Vec ℕ). v.items) o) c.in-Some.is) ∙ c.in_ok-path.ensures.path ∙ row in
    let same : c.in-Some.path.items ≡ path = cc in
    subst (λ (w : List ℕ). OnOk c.put_file.result (c.put_file.new.out.items ≡ c.args.out.now.items ++ plain_label (File (Some w)))) (c.deref.ensures.value ∙ same) c.put_file.ensures)
