use Rattle.dwz_label_entries.proofs.ExprLemmas.{whole_parts}
use Rattle.dwz_label_entries.proofs.expressions.put_whole.Goals as goal

pub returns : goal.returns
returns c = whole_parts c.args.operands.now c.args.at c.args.bytes.now c.args.out.now.items c.put_expression.new.out.items c.put_pieces.new.out.items c.in_ok-put_expression.ensures
    c.in_ok-put_pieces.ensures
