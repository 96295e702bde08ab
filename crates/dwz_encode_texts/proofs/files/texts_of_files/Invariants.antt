use Rattle.std.proofs.Common.{◌≡◌, map, take}
use Rattle.dwz_encode_texts.specs.Files.{texts_in_file}
use Rattle.dwz_encode_texts.proofs.files.texts_of_files.Given as goal

abbrev pub invariant-loop-file : goal.invariant-loop-file
invariant-loop-file l = map (λ texts. texts.items) l.all.items ≡ map texts_in_file (take l.file-index l.files)
