use Rattle.std.proofs.Common.{ℕ, List, Option, Some, map, sym, ap, ◌∙◌}
use Rattle.std.specs.Option.{option_map}
use Rattle.dwz_def_reading.specs.LineTables.{FileTable, PathRow, nth_path}
use Rattle.dwz_lines.specs.Reading.{path_in, path_of}
use Rattle.dwz_lines.proofs.MarkLemmas.{listed_path}
use Rattle.dwz_lines.proofs.marked_table.MarkedTable.path.Goals as goal

pub returns-in_default : goal.returns-in_default
returns-in_default c =
    let dirs = map path_of c.self.inside.dirs in
    let none = listed_path dirs c.self.inside.files c.args.index ∙ ap (λ (o : Option PathRow). option_map (path_in dirs) o) (sym c.in_default.ensures) in
    sym none ∙ ap (λ (t : FileTable). nth_path t.paths c.args.index) c.self.view_is

pub returns : goal.returns
returns c =
    let dirs = map path_of c.self.inside.dirs in
    let joined = rw (c.path.ensures, c.path-2.ensures) at c.in_ok-path.ensures in
    ap (λ (w : List ℕ). Some w) joined
    ∙ ap (λ (o : Option PathRow). option_map (path_in dirs) o) c.in-Some.ensures
    ∙ sym (listed_path dirs c.self.inside.files c.args.index)
    ∙ ap (λ (t : FileTable). nth_path t.paths c.args.index) c.self.view_is
