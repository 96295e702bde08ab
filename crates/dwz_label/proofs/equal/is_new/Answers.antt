use Rattle.dwz_label.proofs.Together.{new_tells}
use Rattle.dwz_label.proofs.equal.is_new.Goals as goal

pub returns-else-at-eq0 : goal.returns-else-at-eq0
returns-else-at-eq0 g c =
    let last = c.index-rows-at.result in
    let row = c.index-rows-at-else-at-eq0.result in
    new_tells g.K.Ord.cmp c.args.rows.now c.args.at c.cmp.result c.is_ne.result last row c.requires c.if-at-eq0.false c.cmp.ensures c.is_ne.ensures
