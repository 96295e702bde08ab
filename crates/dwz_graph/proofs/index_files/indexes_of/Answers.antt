use Rattle.std.proofs.Common.{List, sym, subst, arith}
use Rattle.dwz_graph.specs.Index.{Index}
use Rattle.dwz_graph.specs.Indexed.{first_starts}
use Rattle.dwz_graph.proofs.IndexSteps.{Going, begins, behind_room, ends, goes_on, has_room}
use Rattle.dwz_graph.proofs.index_files.indexes_of.Goals as goal

pub loop-file-init : goal.loop-file-init
loop-file-init c = λ contents kept. (
    let files = c.args.files.now in
    subst (λ (xs : List Index). Going contents files 0 first_starts xs) (sym c.new-indexes.ensures.items) (begins contents files kept))

pub read-requires : goal.read-requires
read-requires c =
    let contents = c.requires.0 in
    record {
      room = has_room contents c.args.files.now c.loop-file.file-index c.loop-file.starts c.loop-file.indexes.items c.file-item.result (c.loop-file.invariant contents c.requires.1) (omega arith)
          c.file-item.is;
    }

pub behind-starts-requires-clause-room : goal.behind-starts-requires-clause-room
behind-starts-requires-clause-room c =
    let contents = c.requires.0 in
    behind_room contents c.args.files.now c.loop-file.file-index c.loop-file.starts c.loop-file.indexes.items c.file-item.result c.in_ok-index.index (c.loop-file.invariant contents c.requires.1)
    (omega arith) c.file-item.is c.in_ok-index.ensures.tops

pub loop-file-preserved : goal.loop-file-preserved
loop-file-preserved c = λ contents kept. (
    goes_on contents c.args.files.now c.loop-file.file-index c.loop-file.starts c.behind-starts.result c.loop-file.indexes.items c.push.new.self.items c.file-item.result
    c.in_ok-index.index (c.loop-file.invariant contents kept) (omega arith) c.file-item.is
    c.in_ok-index.ensures.names c.in_ok-index.ensures.tops c.in_ok-index.ensures.few c.behind-starts.ensures c.in_ok-push.ensures.items)

pub returns : goal.returns
returns c = λ contents kept. (
    ends contents c.args.files.now c.loop-file.file-index c.loop-file.starts c.loop-file.indexes.items (c.loop-file.invariant contents kept) (omega arith))
