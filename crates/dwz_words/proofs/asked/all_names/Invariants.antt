use Rattle.std.proofs.Common.{◌≡◌, map, take}
use Rattle.dwz_words.proofs.asked.all_names.Given as goal

abbrev pub invariant-loop-file : goal.invariant-loop-file
invariant-loop-file l = map (λ n. n.now) l.names.items ≡ take l.file-index l.files
