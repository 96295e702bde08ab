use Rattle.std.proofs.Common.{arith}
use Rattle.dwz_check_labels.proofs.SourceLemmas.{common_entry, common_low, own_entry}
use Rattle.dwz_check_labels.proofs.refs.put_entry_name.Goals as goal

pub put_name-requires-in-Some-clause-there : goal.put_name-requires-in-Some-clause-there
put_name-requires-in-Some-clause-there c =
    let x = c.args.source.now in
    common_low x x.common c.in-Some.common c.args.entry c.entries-own.result c.in-Some.is c.entries-own.ensures c.if-entry-own.false c.requires.there

pub returns-then-entry-own : goal.returns-then-entry-own
returns-then-entry-own c = λ said name k.
    own_entry c.args.source.now said name k c.requires.ready c.args.entry c.args.out.now.items c.put_name.new.out.items c.args.tops.now.items c.put_name.new.tops.items
    (omega (arith, c.if-entry-own.true, c.entries-own.ensures)) c.in_ok-put_name.ensures

pub returns : goal.returns
returns c = λ said name k.
    common_entry c.args.source.now said name k c.requires.ready c.args.entry c.args.out.now.items c.put_name-in-Some.new.out.items c.args.tops.now.items c.put_name-in-Some.new.tops.items
    c.in-Some.common c.entries-own.result c.in-Some.is c.entries-own.ensures c.if-entry-own.false c.requires.there c.in_ok-put_name-in-Some.ensures
