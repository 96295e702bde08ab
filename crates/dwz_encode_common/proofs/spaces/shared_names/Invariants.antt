use Rattle.std.proofs.Common.{◌≡◌, map, take}
use Rattle.dwz_encode_common.specs.Placed.{space_placed}
use Rattle.dwz_encode_common.specs.TextsIn.{texts_in}
use Rattle.dwz_encode_common.proofs.spaces.shared_names.Given as goal

abbrev pub invariant-loop-space : goal.invariant-loop-space
invariant-loop-space l = l.spaces.items ≡ map (space_placed l.files (texts_in l.texts) l.sharing) (take l.space-index l.space-items)
