-- The common file of a graph, as it was read.
use Rattle.std.proofs.Common.{◌≡◌, ℕ, List, None, Ok, length, sym, subst}
use Rattle.dwz_def_reading.proofs.FileLemmas.{file_agrees_by}
use Rattle.dwz_def_reading.proofs.MeaningUnits.{units_agree}
use Rattle.dwz_def_reading.specs.Files.{ReadsBy, no_files_before}
use Rattle.dwz_def_reading.specs.Finished.{rule_of_common}
use Rattle.dwz_def_reading.specs.Meanings.{Around, all_places}
use Rattle.dwz_def_reading.specs.Meant.{units_meaning}
use Rattle.dwz_def_reading.specs.Rules.{ReadingRule}
use Rattle.dwz_def_reading.specs.Units.{RawUnit, entries_in}
use Rattle.dwz_check_labels.specs.FilesSaid.{IsFileSaid, around_given}
use Rattle.dwz_graph.proofs.IndexRoom.{entries_within}
use Rattle.dwz_graph.specs.ByRule.{IsReadBy, numbered_rule}
use Rattle.dwz_graph.specs.Parts.{AreParted, HaveLines}
use Rattle.dwz_graph.specs.declared.file.File.{File}
use Rattle.dwz_reuse.proofs.CommonPlaced.{partial, parts}
use Rattle.dwz_unit.specs.Rows.{units_of}
use Rattle.dwz_unit.specs.declared.mode.FileKind.TheVariants.{Common}
use Rattle.dwz_reuse.specs.Read.{CommonReadLaw}

module _ (number : ℕ) (bytes : List ℕ) (f : File) (h : IsReadBy (numbered_rule (rule_of_common number)) Common no_files_before number bytes f) where
  abbrev rule : ReadingRule ℕ
  rule = numbered_rule (rule_of_common number)

  abbrev raw : List RawUnit
  raw = units_of f.units

  same_around : rule.around bytes raw ≡ around_given f None
  same_around = λ j. record { sources = sym h.sections j; all = all_places raw; place = λ n. n; common = None }

  reads : ReadsBy rule no_files_before bytes raw h.doc
  reads = ((file_agrees_by rule no_files_before bytes).ok (raw, h.doc)).0 h.means

  pub said_by : IsFileSaid f None h.doc.units
  said_by = record {
    means = subst (λ (a : Around ℕ). units_meaning a raw ≡ Ok h.doc.units) same_around (((units_agree (rule.around bytes raw) raw).ok h.doc.units).1 reads.means);
    refs = h.within;
    parts = subst (λ (a : Around ℕ). AreParted a raw (entries_in raw) f.resolved.refs.items f.resolved.starts.items) same_around h.parts;
    lines = subst (λ (a : Around ℕ). HaveLines a raw (length raw) f.resolved.tables.items f.resolved.lines.items) same_around h.lines;
    few = entries_within rule no_files_before bytes raw h.doc h.means;
  }

pub read_law : CommonReadLaw
read_law number bytes f h = (
  h.doc,
  record {
    said = said_by number bytes f h;
    partial = partial number no_files_before bytes (units_of f.units) h.doc h.means;
    parts = parts number no_files_before bytes (units_of f.units) h.doc h.means;
  },
  h.means,
)
