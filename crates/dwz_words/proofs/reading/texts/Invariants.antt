use Rattle.std.proofs.Common.{◌≡◌, All, map, take}
use Rattle.std.specs.Str.{IsUtf8}
use Rattle.dwz_words.specs.Lawful.{word_bytes}
use Rattle.dwz_words.proofs.reading.texts.Given as goal

abbrev pub invariant-loop-word : goal.invariant-loop-word
invariant-loop-word l = record {
  same : map (λ t. t.now) l.texts.items ≡ take l.word-index (word_bytes l.words);
  utf8 : All IsUtf8 (take l.word-index (word_bytes l.words));
}
