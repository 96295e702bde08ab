use Rattle.std.proofs.Common.{refl, sym, arith}
use Rattle.dwz_graph.proofs.FileCounts.{are_many}
use Rattle.dwz_graph.specs.Files.{docs_of}
use Rattle.dwz_graph.proofs.IndexesThere.{indexes_there}
use Rattle.dwz_layout_input.proofs.settled.settle.Goals as goal

pub overflow_cast-files : goal.overflow_cast-files
overflow_cast-files c =
    let there = indexes_there c.args.graph.now.given c.files.result.now c.files.ensures in
    let many = are_many c.args.graph.now.given c.files.result.now there.indexes c.files.ensures there.are in
    let files = many.0 in
    let contents = many.2 in
    let few = c.requires.few in
    omega arith

pub returns-clause-parts : goal.returns-clause-parts
returns-clause-parts c = λ indexes are. (
    let docs = docs_of c.args.graph.now.given in
    let many = are_many c.args.graph.now.given c.files.result.now indexes c.files.ensures are in
    record {
      planned = refl;
      marks = c.in_ok-marks.ensures.each;
      pinned = c.in_ok-pinned.ensures;
      spaces = c.in_ok-spaces.ensures indexes are;
      moved = λ m planned. record {
        lines = c.in_ok-lines.ensures m planned;
        written = c.in_ok-written.ensures docs m (sym many.0) planned;
        importing = c.in_ok-importing.ensures docs m (sym many.0) planned;
      };
    })
