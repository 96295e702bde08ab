-- How many entries the values of an entry name, as far as forms tell.
use Rattle.std.specs.Prelude.{ℕ, ◌&&◌, ◌==◌, not, Bool, true, false, List, Option, Some, None, count_by, if◌then◌else◌}
use Rattle.std.specs.List.{list_any}
use Rattle.dwz_def_reading.specs.Classes.{Class, OfCommonEntry, OfExpression, OfInfoEntry, OfUnitEntry, class_of}
use Rattle.dwz_model.specs.declared.place.Pair.{Pair}

-- a value of the class is an entry
abbrev pub is_entry : Class → Bool
is_entry OfUnitEntry = true
is_entry OfInfoEntry = true
is_entry OfCommonEntry = true
is_entry _ = false

-- a value of the class is an expression
abbrev pub is_expression : Class → Bool
is_expression OfExpression = true
is_expression _ = false

-- a value of that name and form names an entry; DW_AT_sibling (1) doesn't count
abbrev pub names_entry : Pair → Bool
names_entry pair = not (pair.name == 0x01) && is_entry (class_of pair.form)

-- how many entries values of these names and forms name; none is known where one is an expression, which may name any number
abbrev pub named_count : List Pair → Option ℕ
named_count pairs = if list_any (λ p. is_expression (class_of p.form)) pairs then None else Some (count_by names_entry pairs)
