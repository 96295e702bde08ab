use Rattle.dwz_label_entries.proofs.ExprLemmas.{counted_parts}
use Rattle.dwz_label_entries.proofs.expressions.put_parts.Goals as goal

pub returns : goal.returns
returns c = counted_parts c.args.operands.now c.args.at c.args.bytes.now c.args.out.now.items c.put_number.new.out.items c.put_pieces.new.out.items c.in_ok-put_number.ensures
    c.in_ok-put_pieces.ensures
