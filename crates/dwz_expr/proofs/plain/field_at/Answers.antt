use Rattle.std.proofs.Common.{ap}
use Rattle.dwz_def_reading.specs.Exprs.{fields_of}
use Rattle.dwz_expr.proofs.FewLemmas.{address_plain, number_plain, run_plain, unsigned_plain}
use Rattle.dwz_expr.proofs.plain.field_at.Goals as goal

pub returns-in-Sleb : goal.returns-in-Sleb
returns-in-Sleb c =
    let found = c.number_at.ensures in
    number_plain c.args.bytes.now c.args.at c.args.shape c.number_at.result c.requires.there c.requires.shape c.in-Sleb.is found.number found.address

pub returns-in-Address : goal.returns-in-Address
returns-in-Address c =
    let found = c.address_at.ensures in
    address_plain c.args.bytes.now c.args.at c.args.shape c.address_at.result c.requires.there c.requires.shape c.in-Address.is found.end found.within found.address

pub returns-in-Uleb : goal.returns-in-Uleb
returns-in-Uleb c =
    let found = c.number_at-in-Uleb.ensures in
    unsigned_plain c.args.bytes.now c.args.at c.args.shape c.number_at-in-Uleb.result c.requires.there c.requires.shape c.in-Uleb.is found.number found.address

pub returns-in-Fixed1 : goal.returns-in-Fixed1
returns-in-Fixed1 c =
    let found = c.run_at.ensures in
    run_plain c.args.bytes.now c.args.at 1 c.args.shape c.run_at.result c.requires.there c.requires.shape (ap fields_of c.in-Fixed1.is) found.end found.within found.address

pub returns-in-Fixed2 : goal.returns-in-Fixed2
returns-in-Fixed2 c =
    let found = c.run_at-in-Fixed2.ensures in
    run_plain c.args.bytes.now c.args.at 2 c.args.shape c.run_at-in-Fixed2.result c.requires.there c.requires.shape (ap fields_of c.in-Fixed2.is) found.end found.within found.address

pub returns-in-Fixed4 : goal.returns-in-Fixed4
returns-in-Fixed4 c =
    let found = c.run_at-in-Fixed4.ensures in
    run_plain c.args.bytes.now c.args.at 4 c.args.shape c.run_at-in-Fixed4.result c.requires.there c.requires.shape (ap fields_of c.in-Fixed4.is) found.end found.within found.address

pub returns-in-Fixed8 : goal.returns-in-Fixed8
returns-in-Fixed8 c =
    let found = c.run_at-in-Fixed8.ensures in
    run_plain c.args.bytes.now c.args.at 8 c.args.shape c.run_at-in-Fixed8.result c.requires.there c.requires.shape (ap fields_of c.in-Fixed8.is) found.end found.within found.address
