use Rattle.std.proofs.Common.{arith}
use Rattle.dwz_check_labels.specs.Files.{raw_of}
use Rattle.dwz_check_labels.proofs.EntryLemmas.{shown_row}
use Rattle.dwz_check_labels.proofs.LoneLemmas.{lone_told, unit_at}
use Rattle.dwz_check_labels.proofs.entries.put_lone.Goals as goal

pub here_at-here-requires : goal.here_at-here-requires
here_at-here-requires c =
    let low = (shown_row (raw_of c.args.source.now) c.args.i c.entry-entry.result c.entry-entry.ensures.entry).0 in
    let many = c.requires.ready.own.heres.many in
    omega arith

pub line_at-line-requires : goal.line_at-line-requires
line_at-line-requires c =
    let low = (shown_row (raw_of c.args.source.now) c.args.i c.entry-entry.result c.entry-entry.ensures.entry).0 in
    let many = c.requires.ready.lines in
    omega arith

pub put_values-requires-clause-here : goal.put_values-requires-clause-here
put_values-requires-clause-here c = (c.requires.ready.own.heres.each c.entry-entry.result.unit c.here_at-here.result.now c.here_at-here.ensures).within

pub returns : goal.returns
returns c = λ said name d k found. (
    let x = c.args.source.now in
    let e = c.entry-entry.result in
    let r = unit_at x said name k c.args.i d e found c.entry-entry.ensures.entry in
    let here = c.requires.ready.own.heres.each e.unit c.here_at-here.result.now c.here_at-here.ensures in
    lone_told name d.0 e.tag c.args.out.now.items c.put_number.new.out.items c.put_values.new.out.items c.args.tops.now.items c.put_values.new.tops.items r.tag c.in_ok-put_number.ensures
    (c.in_ok-put_values.ensures said name e.unit r.row d.0 k here c.line_at-line.ensures r.is))
