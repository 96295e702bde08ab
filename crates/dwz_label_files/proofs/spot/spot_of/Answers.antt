use Rattle.std.proofs.Common.{ap, sym}
use Rattle.dwz_graph.specs.declared.index.Starts.{Starts}
use Rattle.dwz_label_files.proofs.TopLemmas.{found, language_found, own_unit, with_row}
use Rattle.dwz_label_files.proofs.spot.spot_of.Goals as goal

pub overflow_sub-entry : goal.overflow_sub-entry
overflow_sub-entry c =
    let r = c.args.run.now in
    let file = c.file_of-file.result in
    let e = c.entry_of-entry.result in
    let h = found r file c.args.top e c.requires.run c.file_of-file.ensures c.entry_of-entry.ensures in
    (own_unit r file c.args.top e h c.file_at.result.now c.index_at.result.now c.starts-first.result.unit c.file_at.ensures c.index_at.ensures (ap (λ (w : Starts). w.unit) c.starts-first.ensures)).0

pub unit_row-row-requires : goal.unit_row-row-requires
unit_row-row-requires c =
    let r = c.args.run.now in
    let file = c.file_of-file.result in
    let e = c.entry_of-entry.result in
    let h = found r file c.args.top e c.requires.run c.file_of-file.ensures c.entry_of-entry.ensures in
    (own_unit r file c.args.top e h c.file_at.result.now c.index_at.result.now c.starts-first.result.unit c.file_at.ensures c.index_at.ensures (ap (λ (w : Starts). w.unit) c.starts-first.ensures)).1

pub returns-clause-spot : goal.returns-clause-spot
returns-clause-spot c =
    let r = c.args.run.now in
    let file = c.file_of-file.result in
    let e = c.entry_of-entry.result in
    let h = found r file c.args.top e c.requires.run c.file_of-file.ensures c.entry_of-entry.ensures in
    let u = own_unit r file c.args.top e h c.file_at.result.now c.index_at.result.now c.starts-first.result.unit c.file_at.ensures c.index_at.ensures
    (ap (λ (w : Starts). w.unit) c.starts-first.ensures) in
    record {
      in_file = c.file_of-file.ensures;
      entry = c.entry_of-entry.ensures;
      there = with_row r file c.args.top e c.unit_row-row.result h (u.2 c.unit_row-row.result c.unit_row-row.ensures);
    }

pub returns-clause-language : goal.returns-clause-language
returns-clause-language c = λ t got. (
    let r = c.args.run.now in
    let file = c.file_of-file.result in
    let e = c.entry_of-entry.result in
    let h = found r file c.args.top e c.requires.run c.file_of-file.ensures c.entry_of-entry.ensures in
    let u = own_unit r file c.args.top e h c.file_at.result.now c.index_at.result.now c.starts-first.result.unit c.file_at.ensures c.index_at.ensures
    (ap (λ (w : Starts). w.unit) c.starts-first.ensures) in
    sym (language_found r file c.args.top e c.unit_row-row.result c.requires.run h (u.2 c.unit_row-row.result c.unit_row-row.ensures) t got))
