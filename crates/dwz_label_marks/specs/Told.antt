-- Marks as bytes: where names are numbers, each mark is a number too.
use Rattle.std.specs.Prelude.{◌≡◌, ◌↔◌, ℕ, ◌+◌, ◌*◌, List, ◌++◌, map, Option, Some}
use Rattle.std.specs.List.{flat_map}
use Rattle.std.specs.Option.{option_map}
use Rattle.dwz_def_reading.specs.TextRows.{text_number}
use Rattle.dwz_def_tops.specs.Spots.{Top}
use Rattle.dwz_label.specs.Labels.{number}
use Rattle.dwz_label.specs.Nodes.{SameBare}
use Rattle.dwz_label_marks.specs.Marks.{Mark, Named, Plainly, marks_of}

-- a number is told by an even one; bytes are told by an odd one, if they are among the names
abbrev pub word_of : List (List ℕ) → Mark → Option ℕ
word_of names (Plainly n) = Some (2 * n)
word_of names (Named bytes) = option_map (λ n. 2 * n + 1) (text_number names bytes)

-- the bytes tell the marks
pub record Tells (names : List (List ℕ)) (marks : List Mark) (bytes : List ℕ) : Type 0 where
  pub words : List ℕ
  pub are : map (word_of names) marks ≡ map Some words
  pub spelled : bytes ≡ flat_map number words

-- the numbers of names stay
abbrev pub Keeps : List (List ℕ) → List (List ℕ) → Type 0
Keeps old new = (bytes : List ℕ) (n : ℕ) → text_number old bytes ≡ Some n → text_number new bytes ≡ Some n

-- bytes that tell the marks were appended
pub record Adds (names : List (List ℕ)) (marks : List Mark) (old new : List ℕ) : Type 0 where
  pub more : List ℕ
  pub told : Tells names marks more
  pub is : new ≡ old ++ more

-- where tops are told by the same names, they are told alike exactly if languages, name lists and bare trees are the same
abbrev pub WordLaw : Type 0
WordLaw =
    (names : List (List ℕ)) (a b : Top) (v w : List ℕ) → Tells names (marks_of a) v → Tells names (marks_of b) w
    → (v ≡ w) ↔ SameBare a b
