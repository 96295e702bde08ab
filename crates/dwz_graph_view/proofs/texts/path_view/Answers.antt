use Rattle.std.proofs.Common.{◌≡◌, ℕ, List, Option, Some, ap, sym, ◌∙◌, arith}
use Rattle.std.specs.Global.{Vec}
use Rattle.std.specs.List.{slice_index_or}
use Rattle.std.specs.Option.{option_map}
use mir.Syntax.{w128}
use Rattle.std.proofs.lemmas.Int.{to_z-of_z}
use Rattle.dwz_model.specs.declared.place.Place.{Place}
use Rattle.dwz_def_reading.specs.Documents.{File, only}
use Rattle.dwz_def_reading.specs.LineTables.{FileTable}
use Rattle.dwz_def_reading.specs.Meanings.{path_by}
use Rattle.dwz_def_reading.proofs.ListFacts.{item_got, same_got}
use Rattle.dwz_label_entries.proofs.PathLemmas.{path_at}
use Rattle.dwz_graph_view.proofs.ValueSteps.{path_shown}
use Rattle.dwz_graph_view.proofs.texts.path_view.Goals as goal

pub returns-in-None : goal.returns-in-None
returns-in-None c = λ t a v there means. (
    let p = path_shown c.args.setting.now.file a (path_by t c.args.number) v means in
    let tables = c.args.setting.now.tables.now in
    let r = c.index-setting-table.result in
    let x = slice_index_or tables c.args.table r in
    let one = same_got tables c.args.table x t (item_got tables c.args.table r (omega (arith, c.if-table-setting.false)) c.index-setting-table.is ∙ ap Some c.index-setting-table.is) there in
    let path = ap (λ (w : FileTable). path_by w c.args.number) one ∙ p.1 in
    let row = path_at x c.args.number p.0 c.row_of.result path c.in_ok-path.ensures.many (λ n e few. c.row_of.ensures n (to_z-of_z w128 c.args.number c.ranges.number ∙ e) few) in
    let none = sym (ap (λ (o : Option (Vec ℕ)). option_map (λ (w : Vec ℕ). w.items) o) c.in-None.is) ∙ c.in_ok-path.ensures.path ∙ row in
    absurd cc)

pub returns-in-Some : goal.returns-in-Some
returns-in-Some c = λ t a v there means. (
    let p = path_shown c.args.setting.now.file a (path_by t c.args.number) v means in
    let tables = c.args.setting.now.tables.now in
    let r = c.index-setting-table.result in
    let x = slice_index_or tables c.args.table r in
    let one = same_got tables c.args.table x t (item_got tables c.args.table r (omega (arith, c.if-table-setting.false)) c.index-setting-table.is ∙ ap Some c.index-setting-table.is) there in
    let path = ap (λ (w : FileTable). path_by w c.args.number) one ∙ p.1 in
    let row = path_at x c.args.number p.0 c.row_of.result path c.in_ok-path.ensures.many (λ n e few. c.row_of.ensures n (to_z-of_z w128 c.args.number c.ranges.number ∙ e) few) in
    let some = sym (ap (λ (o : Option (Vec ℕ)). option_map (λ (w : Vec ℕ). w.items) o) c.in-Some.is) ∙ c.in_ok-path.ensures.path ∙ row in
    let same : c.in-Some.path.items ≡ p.0 = cc in
    ap (λ (w : List ℕ). Some (only {P = Place} (File (Some w)))) (c.new.ensures ∙ same) ∙ p.2)
