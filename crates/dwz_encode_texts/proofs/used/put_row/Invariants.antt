use Rattle.std.proofs.Common.{◌≡◌, ◌++◌, drop}
use Rattle.dwz_layout.specs.declared.walk.Origin.TheVariants.{Read}
use Rattle.dwz_layout.specs.Attributes.{here_view}
use Rattle.dwz_layout.specs.Ways.{holder_view}
use Rattle.dwz_encode_texts.specs.Used.{origin_uses}
use Rattle.dwz_encode_texts.proofs.PairUses.{pairs_uses}
use Rattle.dwz_encode_texts.proofs.used.put_row.Given as goal

abbrev pub invariant-loop-pair : goal.invariant-loop-pair
invariant-loop-pair l =
    l.uses.items ++ pairs_uses l.known l.row.file (holder_view l.here.holder) l.next (drop l.pair-index l.pairs)
    ≡ l.fn.uses.items ++ origin_uses l.known (here_view l.here) (Read l.row)
