use Rattle.std.proofs.Common.{◌≡◌, List, ℕ, ap, subst, sym, ◌∙◌}
use Rattle.dwz_def_reading.proofs.ListFacts.{same_got}
use Rattle.dwz_def_tops.specs.Spots.{units_of as file_units}
use Rattle.dwz_graph.specs.Files.{docs_of}
use Rattle.dwz_graph.specs.declared.file.File.{File}
use Rattle.dwz_label_files.specs.Marked.{AreFileNames, TellFrom}
use Rattle.dwz_label_words.specs.Known.{FileNames}
use Rattle.dwz_unit.specs.Declarations.{AreOf, Declarations}
use Rattle.dwz_unit.specs.Rows.{rows_of, units_of}
use Rattle.dwz_label_files.proofs.stretch.with_file.Goals as goal

pub put_labels-requires-clause-names : goal.put_labels-requires-clause-names
put_labels-requires-clause-names c = λ f got. (
    let read = c.file_at-read.result.now in
    let same : read ≡ f = same_got c.args.run.now.files.now c.args.file read f c.file_at-read.ensures got in
    let is = c.in_ok-names.ensures in
    subst (λ (w : File). AreFileNames w c.in_ok-names.names) same (record {
      strs = ap (λ (x : FileNames). x.strs) is;
      tables = ap (λ (x : FileNames). x.tables) is ∙ c.as_slice.ensures.value;
      declared = subst (λ (d : Declarations). AreOf (rows_of (units_of read.units)) d) (sym (ap (λ (x : FileNames). x.declarations) is)) c.declarations.ensures;
    }))

pub returns-clause-told : goal.returns-clause-told
returns-clause-told c = λ from flags at h. (
    let units = file_units (docs_of c.args.run.now.graph.now.given) in
    let is = ap (λ (x : FileNames). x.names) c.in_ok-names.ensures in
    let own = subst (λ (w : List (List ℕ)). TellFrom units w from c.args.labels.now) (sym is) h in
    subst (λ (w : List (List ℕ)). TellFrom units w from c.put_labels.new.labels) (sym c.into_names.ensures) (c.in_ok-put_labels.ensures.told from flags at own))
