use Rattle.std.proofs.Common.{sym, subst, ◌∙◌}
use Rattle.dwz_layout_order.proofs.PairLemmas.{Low, pairs_low}
use Rattle.dwz_layout_order.proofs.parts.parts_of_files.Goals as goal

pub group-requires : goal.group-requires
group-requires c = subst (Low c.args.files) (sym (c.as_slice.ensures.value ∙ c.in_ok-pairs.ensures)) (pairs_low c.args.files 0 c.args.partials.now c.requires.files)
