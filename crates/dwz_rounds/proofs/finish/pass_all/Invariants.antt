use Rattle.std.proofs.Common.{◌≡◌, ◌+◌, ◌-◌, ◌*◌, length, min}
use Rattle.dwz_rounds.specs.Members.{AreMembers}
use Rattle.dwz_rounds.specs.Pending.{IsPending}
use Rattle.dwz_rounds.specs.Room.{IsRoom}
use Rattle.dwz_rounds.proofs.finish.pass_all.Given as goal

abbrev pub invariant-passes : goal.invariant-passes
invariant-passes l = record {
  len : length l.numbers ≡ length l.initial.numbers;
  pending : IsPending l.nodes l.numbers l.pending.items;
  members : AreMembers l.numbers l.ranges.items l.members.items;
  room : IsRoom (length l.nodes) l.room;
}

abbrev pub decreases-passes : goal.decreases-passes
decreases-passes l = 2 * (length l.nodes - length l.ranges.items) + min 1 (length l.pending.items)
