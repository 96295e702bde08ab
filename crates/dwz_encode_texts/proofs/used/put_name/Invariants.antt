use Rattle.std.proofs.Common.{◌≡◌, drop}
use Rattle.std.specs.List.{flat_map}
use Rattle.dwz_layout.specs.Attributes.{space_attrs}
use Rattle.dwz_layout.specs.Known.{text_held}
use Rattle.dwz_layout.specs.Ways.{holder_view}
use Rattle.dwz_encode_texts.specs.Used.{out_uses}
use Rattle.dwz_encode_texts.proofs.PairUses.{names_uses}
use Rattle.dwz_encode_texts.proofs.used.put_name.Given as goal

abbrev pub invariant-loop-pair : goal.invariant-loop-pair
invariant-loop-pair l = record {
  same : l.uses.items ≡ l.fn.uses.items;
  left : names_uses (holder_view l.holder) (text_held (holder_view l.holder) l.space) (drop l.pair-index l.pairs) ≡ flat_map out_uses (space_attrs l.known (holder_view l.holder) l.space);
}
