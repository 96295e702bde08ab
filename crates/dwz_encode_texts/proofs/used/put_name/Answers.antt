use Rattle.std.proofs.Common.{refl, sym}
use Rattle.dwz_layout.specs.Ways.{holder_view}
use Rattle.dwz_encode_texts.proofs.PairUses.{space_uses}
use Rattle.dwz_encode_texts.proofs.used.put_name.Goals as goal

pub loop-pair-init : goal.loop-pair-init
loop-pair-init c = record {
  same = refl;
  left = sym (space_uses c.args.known.now (holder_view c.args.holder) c.args.space c.in-Some.field-0.pairs.now c.in-Some.field-0.cursor c.in-Some.ensures.values);
}
