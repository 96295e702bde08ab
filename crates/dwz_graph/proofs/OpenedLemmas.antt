-- What is read of a file that was opened.
use Rattle.std.proofs.Common.{◌≡◌, ℕ, List, length, map, Ok, subst}
use Rattle.dwz_model.specs.declared.fault.ReadErr.{ReadErr}
use Rattle.dwz_def_reading.specs.Faults.{Fails}
use Rattle.dwz_def_reading.specs.Files.{Limits, file_meaning_by}
use Rattle.dwz_def_reading.specs.Meanings.{Around}
use Rattle.dwz_def_reading.specs.NamedLists.{lists_of_units}
use Rattle.dwz_def_reading.specs.Shared.{AreRows}
use Rattle.dwz_def_reading.specs.Units.{entries_in}
use Rattle.dwz_graph.specs.declared.file.Opened.{Opened}
use Rattle.dwz_graph_resolve.specs.declared.resolving.Resolved.{Resolved}
use Rattle.dwz_graph.specs.declared.rule.Rule.{Rule}
use Rattle.dwz_graph.specs.ByRule.{IsOpened, IsReadBy, kind_of, rule_view}
use Rattle.dwz_graph_resolve.specs.ListRows.{AreOfFile, operand_view}
use Rattle.dwz_graph_resolve.specs.Named.{map_ok, units_refs}
use Rattle.dwz_graph_resolve.specs.Parts.{AreParted, HaveLines}
use Rattle.dwz_graph_resolve.specs.Said.{said}
use Rattle.dwz_graph_resolve.specs.Surroundings.{AreAmong, around_in, place_among}
use Rattle.dwz_unit.specs.Rows.{units_of}
use Rattle.dwz_graph.proofs.FileLemmas.{has_doc, named_fail}

module _ (rule : Rule) (l : Limits) (bytes : List ℕ) (o : Opened) (is : IsOpened rule l bytes o) where
  pub opened_fails : (e : ReadErr) → Fails e (map_ok units_refs (said (around_in o.around (units_of o.units)) (units_of o.units) o.around.sections.aranges.now))
      → Fails e (file_meaning_by (rule_view rule) l bytes)
  opened_fails e bad = named_fail (rule_view rule) e l bytes (around_in o.around (units_of o.units)) o.around.sections.aranges.now (units_of o.units) is.says is.around is.aranges bad

  pub opened_reads : (number : ℕ) (r : Resolved)
      → AreAmong (around_in o.around (units_of o.units)).common (units_of o.units) r.refs.items
      → AreRows (lists_of_units (around_in o.around (units_of o.units)) (units_of o.units)) (map (operand_view (units_of o.units)) r.operands.items)
      → AreOfFile (units_of o.units) number r.operands.items
      → AreParted (around_in o.around (units_of o.units)) (units_of o.units) (entries_in (units_of o.units)) r.refs.items r.starts.items
      → HaveLines (around_in o.around (units_of o.units)) (units_of o.units) (length (units_of o.units)) r.tables.items r.lines.items
      → map_ok units_refs (said (around_in o.around (units_of o.units)) (units_of o.units) o.around.sections.aranges.now)
      ≡ Ok (map (place_among (around_in o.around (units_of o.units)).common (units_of o.units)) r.refs.items)
      → IsReadBy (rule_view rule) (kind_of rule) l number bytes (record { elf = o.elf; sections = o.around.sections; units = o.units; resolved = r })
  opened_reads number r within operands of_file starts lines answers =
      let raw = units_of o.units in
      let d = has_doc (rule_view rule) l bytes (around_in o.around raw) o.around.sections.aranges.now raw _ is.says is.around is.aranges answers in
      record {
        doc = d.doc;
        means = d.means;
        named = subst (λ (w : Around ℕ). units_refs d.doc.units ≡ map (place_among w.common raw) r.refs.items) is.around d.refs;
        within = subst (λ (w : Around ℕ). AreAmong w.common raw r.refs.items) is.around within;
        parts = subst (λ (w : Around ℕ). AreParted w raw (entries_in raw) r.refs.items r.starts.items) is.around starts;
        lines = subst (λ (w : Around ℕ). HaveLines w raw (length raw) r.tables.items r.lines.items) is.around lines;
        operands = subst (λ (w : Around ℕ). AreRows (lists_of_units w raw) (map (operand_view raw) r.operands.items)) is.around operands;
        of_file = of_file;
        elf = is.elf;
        kind = is.kind;
        info = is.info;
        sections = is.sections;
        aranges = is.aranges;
      }
