use Rattle.std.proofs.Common.{List, ℕ, ap, arith, length}
use Rattle.dwz_def_reading.proofs.ListFacts.{got_below}
use Rattle.dwz_def_tops.specs.Spots.{units_of}
use Rattle.dwz_graph.specs.Files.{docs_of}
use Rattle.dwz_label_files.proofs.MarkedLemmas.{from_none}
use Rattle.dwz_label_files.proofs.stretch.stretch_of.Goals as goal

pub files-init : goal.files-init
files-init c = record {
  to = omega (arith, c.requires.within.0);
  len = (let none = ap (λ (w : List (List ℕ)). length w) c.in_ok-labels.ensures in omega arith);
  told = λ flags. from_none (units_of (docs_of c.args.run.now.graph.now.given)) c.new-names.result c.args.first c.in_ok-labels.labels c.in_ok-labels.ensures;
}

pub file_of-file-requires-clause-there : goal.file_of-file-requires-clause-there
file_of-file-requires-clause-there c = let within = c.requires.within.1 in let many = c.requires.movable in omega arith

pub with_file-requires-clause-file : goal.with_file-requires-clause-file
with_file-requires-clause-file c = let h = c.file_of-file.ensures in got_below c.args.run.now.files.now c.file_of-file.result h.f h.got

pub with_file-requires-clause-within : goal.with_file-requires-clause-within
with_file-requires-clause-within c =
    let behind = c.end_of.ensures.behind in
    let within = c.requires.within.1 in
    let stop = c.min-stop.ensures in
    (omega arith, omega arith)

pub with_file-requires-clause-there : goal.with_file-requires-clause-there
with_file-requires-clause-there c = λ n from to. (let stop = c.min-stop.ensures in c.end_of.ensures.all n from (omega arith))

pub files-preserved : goal.files-preserved
files-preserved c =
    let i = c.files.invariant in
    let behind = c.end_of.ensures.behind in
    let stop = c.min-stop.ensures in
    record {
      to = omega arith;
      len = (let before = i.len in let grown = c.in_ok-names.ensures.len in omega arith);
      told = λ flags. c.in_ok-names.ensures.told c.args.first flags i.len (i.told flags);
    }

pub returns : goal.returns
returns c = (let i = c.files.invariant in record { len = (let len = i.len in let to = i.to in omega arith); told = i.told })
