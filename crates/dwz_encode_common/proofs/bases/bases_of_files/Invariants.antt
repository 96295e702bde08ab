use Rattle.std.proofs.Common.{◌≡◌, map, take}
use Rattle.dwz_encode_common.specs.Stored.{file_bases}
use Rattle.dwz_encode_common.proofs.bases.bases_of_files.Given as goal

abbrev pub invariant-loop-file : goal.invariant-loop-file
invariant-loop-file l = map (λ bases. bases.items) l.all.items ≡ map file_bases (take l.file-index l.files)
