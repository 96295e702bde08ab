-- Small location lists that are shared or not, and sets of address ranges, by the definitions.
use Rattle.std.proofs.Common.{◌≡◌, ℕ, ◌+◌, Bool, true, List, [], ◌∷◌, ◌++◌, Option, Some, None, Ok, Err, refl}
use Rattle.std.specs.Prelude.{◌==◌}
use Rattle.dwz_model.specs.declared.place.Base.TheVariants.{Unit as FromUnit}
use Rattle.dwz_def_reading.specs.Input.{input}
use Rattle.dwz_def_reading.specs.declared.exprs.Operand.{Operand}
use Rattle.dwz_def_reading.specs.Ranges.{bad_ranges, set_at, sets_at}
use Rattle.dwz_def_reading.specs.Sequences.{all_at, all_from}
use Rattle.dwz_def_reading.specs.Shared.{NamedList, byte_places, least_place, none_shared, operands_in_lists, operands_of, shared_list}

-- ---- lists

-- an operand that is a ULEB128 number, counted from its unit
abbrev operand : ℕ → ℕ → Operand
operand at width = record { at = at; width = width; uleb = true; base = FromUnit; number = 0x0d }

-- a list that an attribute of the unit at a place names, from one place to another, with an expression that has these operands
abbrev named : ℕ → Option ℕ → ℕ → ℕ → List Operand → NamedList
named unit slot from end operands =
    record { unit = unit; from = from; slot = slot; list = record { end = end; exprs = record { at = from + 2; bytes = []; operands = operands; address = Bool.false } ∷ [] } }

-- one list, which attributes of one unit name
one_unit : none_shared (named 0 None 0 5 (operand 3 1 ∷ []) ∷ named 0 None 0 5 (operand 3 1 ∷ []) ∷ []) ≡ Ok tt
unfolding none_shared least_place operands_in_lists operands_of byte_places
one_unit = refl

-- the same, where one unit names its end, behind its first entry
end_of_list : none_shared (named 0 None 0 8 (operand 6 1 ∷ []) ∷ named 0 None 3 8 (operand 6 1 ∷ []) ∷ []) ≡ Ok tt
unfolding none_shared least_place operands_in_lists operands_of byte_places
end_of_list = refl

-- one list, which two units name: a number counted from either can't lead to one entry of both
two_units : none_shared (named 0 None 0 5 (operand 3 1 ∷ []) ∷ named 0x1a None 0 5 (operand 3 1 ∷ []) ∷ []) ≡ Err (shared_list 3)
unfolding none_shared least_place operands_in_lists operands_of byte_places
two_units = refl

-- a list without operands, which two units name
no_operand : none_shared (named 0 None 0 4 [] ∷ named 0x1a None 0 4 [] ∷ []) ≡ Ok tt
unfolding none_shared least_place operands_in_lists operands_of byte_places
no_operand = refl

-- a list that begins at the second byte of an operand of another
inside_operand : none_shared (named 0 None 0 6 (operand 3 2 ∷ []) ∷ named 0 None 4 5 [] ∷ []) ≡ Err (shared_list 3)
unfolding none_shared least_place operands_in_lists operands_of byte_places
inside_operand = refl

-- a slot whose first byte is an operand, and one that begins behind it
in_slot : none_shared (named 0 (Some 3) 0 5 (operand 3 1 ∷ []) ∷ []) ≡ Err (shared_list 3)
unfolding none_shared least_place operands_in_lists operands_of byte_places
in_slot = refl

behind_operand : none_shared (named 0 (Some 4) 0 5 (operand 3 1 ∷ []) ∷ []) ≡ Ok tt
unfolding none_shared least_place operands_in_lists operands_of byte_places
behind_operand = refl

-- the least place is answered, whichever list is named first
least_first :
    none_shared (named 0 None 5 10 (operand 8 1 ∷ []) ∷ named 0 None 0 5 (operand 3 1 ∷ []) ∷ named 0x1a None 5 10 (operand 8 1 ∷ []) ∷ named 0x1a None 0 5 (operand 3 1 ∷ []) ∷ [])
    ≡ Err (shared_list 3)
unfolding none_shared least_place operands_in_lists operands_of byte_places
least_first = refl

-- ---- sets of address ranges

-- a set without ranges, of the unit at that place
abbrev a_set : ℕ → List ℕ
a_set unit = 8 ∷ 0 ∷ 0 ∷ 0 ∷ 2 ∷ 0 ∷ unit ∷ 0 ∷ 0 ∷ 0 ∷ 8 ∷ 0 ∷ []

-- where the only unit begins at 0
abbrev at_zero : ℕ → Bool
at_zero place = place == 0

of_unit : sets_at at_zero (input (a_set 0) 0) ≡ Ok (record { at = 0; unit = 0 } ∷ [])
unfolding set_at all_at all_from
of_unit = refl

of_none : sets_at at_zero (input (a_set 0 ++ a_set 1) 0) ≡ Err (bad_ranges 12)
unfolding set_at all_at all_from
of_none = refl

cut_off : sets_at at_zero (input (a_set 0 ++ 8 ∷ []) 0) ≡ Err (bad_ranges 12)
unfolding set_at all_at all_from
cut_off = refl
