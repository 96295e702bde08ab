use Rattle.dwz_check_index.specs.Index.{listed_units}
use Rattle.dwz_check_labels.proofs.LoneLemmas.{next_entry, no_entry}
use Rattle.dwz_check_labels.proofs.ToldLemmas.{left_all}
use Rattle.dwz_check_labels.proofs.entries.put_entries.Goals as goal

pub loop-i-init : goal.loop-i-init
loop-i-init c = λ said name ds after k found many. record { ds = ds; after = after; found = found; many = many; left = left_all _ _ c.args.out.now.items c.args.tops.now.items }

pub loop-i-preserved : goal.loop-i-preserved
loop-i-preserved c = λ said name ds after k found many. (
    let n = next_entry (listed_units said) name c.loop-i.i c.args.end c.loop-i.out.items c.args.out.now.items _ c.loop-i.tops.items c.args.tops.now.items _ c.loop-i-test.true
    (c.loop-i.invariant said name ds after k found many) in
    n.2 c.put_entry.new.out.items c.put_entry.new.tops.items (c.in_ok-put_entry.ensures said name n.0 k n.1))

pub returns : goal.returns
returns c = λ said name ds after k found many.
    no_entry (listed_units said) name c.loop-i.i c.args.end c.loop-i.out.items c.args.out.now.items _ c.loop-i.tops.items c.args.tops.now.items _ c.loop-i-test.false
    (c.loop-i.invariant said name ds after k found many)
