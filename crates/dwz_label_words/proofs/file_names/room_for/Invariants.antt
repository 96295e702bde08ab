use Rattle.std.proofs.Common.{◌<◌}
use Rattle.dwz_label_words.proofs.file_names.room_for.Given as goal

abbrev pub invariant-halving : goal.invariant-halving
invariant-halving l = 0 < l.room

abbrev pub decreases-halving : goal.decreases-halving
decreases-halving l = l.room
