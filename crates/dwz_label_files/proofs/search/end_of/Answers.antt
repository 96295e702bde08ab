use Rattle.std.proofs.Common.{◌≡◌, List, ap, arith, length, ◌∙◌}
use Rattle.dwz_def_reading.proofs.ListFacts.{got_below, same_got}
use Rattle.dwz_graph.specs.declared.index.Starts.{Starts}
use Rattle.dwz_graph.specs.declared.index.TopEntry.{TopEntry}
use Rattle.dwz_graph.specs.Index.{Index}
use Rattle.dwz_label_files.proofs.search.end_of.Goals as goal

pub index_at-index-requires : goal.index_at-index-requires
index_at-index-requires c = let h = c.requires.there in got_below c.args.run.now.indexes.now c.args.file h.x h.index

pub returns-clause-behind : goal.returns-clause-behind
returns-clause-behind c =
    let h = c.requires.there in
    let x = c.index_at-index.result.now in
    let same : x ≡ h.x = same_got c.args.run.now.indexes.now c.args.file x h.x c.index_at-index.ensures h.index in
    let starts = ap (λ (w : Starts). w.top) c.starts.ensures ∙ ap (λ (w : Index). w.starts.top) same in
    let tops = ap (λ (w : List TopEntry). length w) c.tops.ensures ∙ ap (λ (w : Index). length w.tops) same in
    let from = h.from in
    let to = h.to in
    omega arith

pub returns-clause-all : goal.returns-clause-all
returns-clause-all c = λ m least less. (
    let h = c.requires.there in
    let x = c.index_at-index.result.now in
    let same : x ≡ h.x = same_got c.args.run.now.indexes.now c.args.file x h.x c.index_at-index.ensures h.index in
    let starts = ap (λ (w : Starts). w.top) c.starts.ensures ∙ ap (λ (w : Index). w.starts.top) same in
    let tops = ap (λ (w : List TopEntry). length w) c.tops.ensures ∙ ap (λ (w : Index). length w.tops) same in
    let from = h.from in
    record { f = h.f; x = h.x; got = h.got; index = h.index; from = omega arith; to = omega arith })
