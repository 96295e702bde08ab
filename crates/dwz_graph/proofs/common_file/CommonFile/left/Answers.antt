use Rattle.std.proofs.Common.{ℕ, List, ◌∙◌, ap, subst}
use Rattle.dwz_def_reading.specs.Files.{Limits, limits_after, no_files_before}
use Rattle.dwz_graph.specs.ByRule.{IsReadBy, common_rule}
use Rattle.dwz_graph.specs.Files.{CommonRead, Leaves, limits_view}
use Rattle.dwz_unit.specs.declared.mode.FileKind.TheVariants.{Common}
use Rattle.dwz_unit.specs.Rows.{units_of}
use Rattle.dwz_graph.proofs.common_file.CommonFile.left.Goals as goal

pub returns : goal.returns
returns c =
    let f = c.self.inside.file in
    let bytes : List ℕ = c.self.inside.bytes.now in
    let r : IsReadBy common_rule Common no_files_before c.self.inside.number bytes f = c.self.invariant.read in
    let left : Leaves bytes (limits_view c.behind.result) = record {
      units = units_of f.units;
      doc = r.doc;
      means = r.means;
      left = c.behind.ensures r.elf ∙ ap (λ (l : Limits). limits_after l bytes (units_of f.units)) c.all_left.ensures;
    } in
    subst (λ (s : CommonRead). Leaves s.bytes (limits_view c.behind.result)) c.self.view_is left
