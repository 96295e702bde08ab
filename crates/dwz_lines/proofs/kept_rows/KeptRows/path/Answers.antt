use Rattle.std.proofs.Common.{ℕ, List, Some, Bor, map, sym, ap, ◌∙◌}
use Rattle.dwz_def_reading.specs.LineTables.{FileTable, nth_path}
use Rattle.dwz_lines.proofs.PathLemmas.{none_row, some_row}
use Rattle.dwz_lines.proofs.kept_rows.KeptRows.path.Goals as goal

pub returns-in-None-clause-path : goal.returns-in-None-clause-path
returns-in-None-clause-path c =
    let dirs = map (λ (d : Bor (List ℕ)). d.now) c.self.inside.dirs.items in
    let rows = c.deref.ensures.value in
    let none = none_row dirs c.self.inside.rows.items c.args.index (rw rows at c.in-None.ensures.lookup.0) in
    sym (ap (λ (t : FileTable). nth_path t.paths c.args.index) (sym c.self.view_is) ∙ none)

pub returns-in_ok-path-in-Some-clause-path : goal.returns-in_ok-path-in-Some-clause-path
returns-in_ok-path-in-Some-clause-path c =
    let dirs = map (λ (d : Bor (List ℕ)). d.now) c.self.inside.dirs.items in
    let rows = c.deref.ensures.value in
    let found = c.in-Some.ensures.lookup in
    let some = some_row dirs c.self.inside.rows.items c.args.index c.in-Some.row.now (rw rows at found.0) (rw rows at found.1) in
    let joined = rw c.deref-in-Some.ensures.value at c.in_ok-path-in-Some.ensures in
    ap (λ (w : List ℕ). Some w) joined ∙ sym some ∙ ap (λ (t : FileTable). nth_path t.paths c.args.index) c.self.view_is
