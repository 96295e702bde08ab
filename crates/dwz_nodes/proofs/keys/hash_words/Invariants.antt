use Rattle.std.proofs.Common.{◌≡◌, take}
use Rattle.dwz_nodes.specs.Keys.{words_hash}
use Rattle.dwz_nodes.proofs.keys.hash_words.Given as goal

abbrev pub invariant-loop-word : goal.invariant-loop-word
invariant-loop-word l = l.hash ≡ words_hash (take l.word-index l.words)
