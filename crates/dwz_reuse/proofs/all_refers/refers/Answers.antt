use Rattle.std.proofs.Common.{◌≡◌, ◌<◌, All, List, length, ap, subst, sym, ◌∙◌, arith}
use Rattle.dwz_def_reading.proofs.CaseFacts.{if_ok}
use Rattle.dwz_def_tops.specs.Spots.{units_of}
use Rattle.dwz_graph.specs.Files.{docs_of}
use Rattle.dwz_groups.specs.declared.groups.Edge.{Edge}
use Rattle.dwz_groups.specs.Groups.{grouped}
use Rattle.dwz_match.specs.MatchRows.{ShowRefers}
use Rattle.dwz_takes.specs.Takes.{AreBelow}
use Rattle.dwz_reuse.proofs.FileSteps.{file_next, file_put, files_begin, files_end, index_below, keys_low, known, placed, room, said, targets_low, targets_many}
use Rattle.dwz_reuse.proofs.all_refers.refers.Goals as goal

pub loop-number-init : goal.loop-number-init
loop-number-init c = files_begin (docs_of c.args.graph.now.given) c.indexes-indexes.result.now c.new-edges.result.items c.new-edges.ensures.items

pub bounds-indexes-number : goal.bounds-indexes-number
bounds-indexes-number c = index_below c.args.graph.now.given c.files-file-items.result.now c.indexes-indexes.result.now c.loop-number.number c.files-file-items.ensures c.indexes-indexes.ensures c.loop-number-test.true

pub put_refers-requires : goal.put_refers-requires
put_refers-requires c =
    let contents = c.args.graph.now.given in
    let files = c.files-file-items.result.now in
    let indexes = c.indexes-indexes.result.now in
    let k = c.loop-number.number in
    let f = c.file-item.result in
    let x = c.index-indexes-number.result in
    let kept = c.files-file-items.ensures in
    let is = c.indexes-indexes.ensures in
    let lt = c.loop-number-test.true in
    let fe = c.file-item.is in
    let xe = c.index-indexes-number.is in
    let fits = room contents files indexes k f x kept is lt fe xe in
    let begins = ap (λ s. s.top) c.starts.ensures in (
      (known contents files indexes k f x kept is lt fe xe).is.kept.read.doc.units,
      said contents files indexes k f x kept is lt fe xe,
      placed contents files indexes k f x kept is lt fe xe,
      omega (arith, fits, begins),
    )

pub loop-number-preserved : goal.loop-number-preserved
loop-number-preserved c =
    let contents = c.args.graph.now.given in
    let files = c.files-file-items.result.now in
    let indexes = c.indexes-indexes.result.now in
    let k = c.loop-number.number in
    let f = c.file-item.result in
    let x = c.index-indexes-number.result in
    let kept = c.files-file-items.ensures in
    let is = c.indexes-indexes.ensures in
    let lt = c.loop-number-test.true in
    let fe = c.file-item.is in
    let xe = c.index-indexes-number.is in
    let doc = (known contents files indexes k f x kept is lt fe xe).is.kept.read.doc in
    let old = c.loop-number.edges.items in
    let new = c.put_refers.new.edges.items in
    let put = c.in_ok-put_refers.ensures k x.starts.unit doc.units (said contents files indexes k f x kept is lt fe xe) (placed contents files indexes k f x kept is lt fe xe) in
    file_next contents files indexes k f x kept is lt fe xe old new c.loop-number.invariant (file_put contents files indexes k f x kept is lt fe xe c.starts.result c.starts.ensures old new put)

pub group-requires : goal.group-requires
group-requires c =
    let count = c.args.count in
    subst (λ (w : List Edge). All (λ e. e.key < count) w) (sym c.as_slice.ensures.value)
    (keys_low c.args.graph.now.given c.files-file-items.result.now c.indexes-indexes.result.now c.loop-number.number count c.files-file-items.ensures c.indexes-indexes.ensures
    (omega arith) (omega arith) c.requires c.loop-number.edges.items c.loop-number.invariant)

pub returns-clause-shows : goal.returns-clause-shows
returns-clause-shows c =
    let count = c.args.count in
    let edges = c.loop-number.edges.items in
    if_ok c.group.result (λ g. g ≡ grouped count c.as_slice.result.now) (ShowRefers (units_of (docs_of c.args.graph.now.given))) (λ g e.
    files_end c.args.graph.now.given c.files-file-items.result.now c.indexes-indexes.result.now c.loop-number.number count c.files-file-items.ensures c.indexes-indexes.ensures
    (omega arith) (omega arith) c.requires edges c.loop-number.invariant g (e ∙ ap (grouped count) c.as_slice.ensures.value)) c.group.ensures

pub returns-clause-len : goal.returns-clause-len
returns-clause-len c =
    let count = c.args.count in
    let edges = c.loop-number.edges.items in
    if_ok c.group.result (λ g. g ≡ grouped count c.as_slice.result.now) (λ g. length g ≡ count) (λ g e.
    targets_many c.args.graph.now.given c.files-file-items.result.now c.indexes-indexes.result.now c.loop-number.number count c.files-file-items.ensures c.indexes-indexes.ensures
    (omega arith) (omega arith) c.requires edges c.loop-number.invariant g (e ∙ ap (grouped count) c.as_slice.ensures.value)) c.group.ensures

pub returns-clause-below : goal.returns-clause-below
returns-clause-below c =
    let count = c.args.count in
    let edges = c.loop-number.edges.items in
    if_ok c.group.result (λ g. g ≡ grouped count c.as_slice.result.now) (AreBelow count) (λ g e.
    targets_low c.args.graph.now.given c.files-file-items.result.now c.indexes-indexes.result.now c.loop-number.number count c.files-file-items.ensures c.indexes-indexes.ensures
    (omega arith) (omega arith) c.requires edges c.loop-number.invariant g (e ∙ ap (grouped count) c.as_slice.ensures.value)) c.group.ensures
