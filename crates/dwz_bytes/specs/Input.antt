-- What a cursor has before it.
use Rattle.std.specs.Prelude.{ℕ, ◌+◌, List, drop}

-- a place, and the bytes from there on
pub record Input : Type 0 where
  pub at : ℕ
  pub rest : List ℕ

-- the place in these bytes
abbrev pub input : List ℕ → ℕ → Input
input bytes at = record { at = at; rest = drop at bytes }

-- behind the first n bytes
abbrev pub past : ℕ → Input → Input
past n i = record { at = i.at + n; rest = drop n i.rest }
