-- Room for passes, with what is marked in it.
use Rattle.std.specs.Prelude.{◌≡◌, ℕ, [], length}
use Rattle.dwz_rounds.specs.Marked.{AreMarked}
use Rattle.dwz_rounds.specs.declared.pass.Scratch.{Scratch}

-- rows for so many nodes, and lists of what is marked
pub record HasMarks (count : ℕ) (room : Scratch) : Type 0 where
  pub marks_len : length room.marks.items ≡ count
  pub whole_len : length room.whole.items ≡ count
  pub hits_len : length room.hits.items ≡ count
  pub parts_len : length room.parts.items ≡ count
  pub marked : AreMarked room.marks.items room.visit.items
  pub marked_wholes : AreMarked room.whole.items room.wholes.items

-- nothing is marked
pub record IsRoom (count : ℕ) (room : Scratch) : Type 0 where
  pub marks : HasMarks count room
  pub none : room.visit.items ≡ []
  pub no_wholes : room.wholes.items ≡ []
