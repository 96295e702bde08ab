use Rattle.std.proofs.Common.{◌≡◌, ◌∷◌, All, fold, take}
use Rattle.std.specs.List.{flat_map}
use Rattle.dwz_layout.specs.Keys.{HasBits, mixed, pair_words}
use Rattle.dwz_layout.proofs.codes.put_key.Given as goal

abbrev pub invariant-loop-pair : goal.invariant-loop-pair
invariant-loop-pair l = record {
  words : l.key.items ≡ 0 ∷ l.first ∷ l.second ∷ flat_map pair_words (take l.pair-index l.pairs);
  hash : l.hash ≡ fold mixed 0 (l.first ∷ l.second ∷ flat_map pair_words (take l.pair-index l.pairs));
  bits : All HasBits (take l.pair-index l.pairs);
}
