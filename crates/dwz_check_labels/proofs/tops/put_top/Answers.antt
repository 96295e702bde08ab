use Rattle.std.proofs.Common.{◌+◌, ◌∷◌, ◌≡◌, ℕ, arith, length}
use Rattle.dwz_check_index.specs.Index.{ListedEntry, listed, names_in}
use Rattle.dwz_check_labels.specs.Files.{around_at, raw_of}
use Rattle.dwz_check_labels.proofs.EntryLemmas.{entry_stands, listed_many, shown_row}
use Rattle.dwz_check_labels.proofs.LoneLemmas.{top_told, unit_at}
use Rattle.dwz_check_labels.proofs.tops.put_top.Goals as goal

pub put_spaces_to-requires-clause-ready : goal.put_spaces_to-requires-clause-ready
put_spaces_to-requires-clause-ready c = c.requires.ready.own

pub put_entries-requires-clause-there : goal.put_entries-requires-clause-there
put_entries-requires-clause-there c = (shown_row (raw_of c.args.source.now) c.args.top.now.entry c.entry-end.result c.entry-end.ensures.entry).1

pub returns : goal.returns
returns c = λ said name n t k h. (
    let x = c.args.source.now in
    let d : ListedEntry ℕ = (t.node, t.below) in
    let stands = entry_stands said c.args.top.now.entry d h.found in
    let end = (unit_at x said name k c.args.top.now.entry d c.entry-end.result h.found c.entry-end.ensures.entry).end in
    let long : c.args.top.now.entry + length (d ∷ listed t.below) ≡ c.entry-end.result.end = omega (arith, end, listed_many t.below) in
    top_told name t (names_in h.outer) c.args.out.now.items c.put_spaces_to.new.out.items c.put_entries.new.out.items c.args.tops.now.items c.put_entries.new.tops.items h.names_are
    (c.in_ok-put_spaces_to.ensures (around_at x) said _ (h.outer_is.0, h.outer) k.own.says k.own.index.names h.outer_is.1)
    (c.in_ok-put_entries.ensures said name (d ∷ listed t.below) stands.0 k stands.1 long))
