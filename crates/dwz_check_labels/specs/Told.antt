-- What is written of a thing: the bytes of its label, and the numbers of the tops that it leads into.
use Rattle.std.specs.Prelude.{◌≡◌, ℕ, List, ◌++◌}

-- these bytes were appended, and these numbers
pub record Tells (label into old new before after : List ℕ) : Type 0 where
  pub bytes : new ≡ old ++ label
  pub tops : after ≡ before ++ into
