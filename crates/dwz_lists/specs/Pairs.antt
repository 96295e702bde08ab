-- An entry that has two numbers before its expression.
use Rattle.std.specs.Prelude.{◌≡◌, ℕ, ◌+◌, ◌-◌, ◌≤◌, List, ◌∷◌, length, drop, slice_range, Some, Ok}
use Rattle.dwz_bytes.specs.Input.{Input, input}
use Rattle.dwz_bytes.specs.Reading.{uleb_at}
use Rattle.dwz_codes.specs.ListKinds.{list_kind_rows}
use Rattle.dwz_codes.specs.Rows.{shape_of}
use Rattle.dwz_def_reading.specs.Exprs.{fields_of}
use Rattle.dwz_lists.specs.Gathering.{kind_front}
use Rattle.dwz_lists.specs.declared.pair.Span.{Span}

-- a length stands at a place, and so many bytes behind it
pub record IsCounted (section : List ℕ) (at : ℕ) (s : Span) : Type 0 where
  pub order : s.from ≤ s.end
  pub within : s.end ≤ length section
  pub count : uleb_at (input section at) ≡ Ok (s.end - s.from, input section s.from)

-- the bytes of an expression
abbrev pub span_input : List ℕ → Span → Input
span_input section s = record { at = s.from; rest = slice_range section s.from s.end }

-- a pair of offsets stands at a place, with this expression
pub record IsPair (section : List ℕ) (place : ℕ) (s : Span) : Type 0 where
  pub order : s.from ≤ s.end
  pub within : s.end ≤ length section
  pub kind : drop place section ≡ 4 ∷ drop (place + 1) section
  pub front : kind_front place (fields_of (shape_of list_kind_rows 4)) (input section (place + 1))
      ≡ Ok (Some (span_input section s), input section s.end)
