-- Operands of location lists with other numbers (DWARF 5, 2.6.2 and 7.7.3).
use Rattle.std.specs.Prelude.{◌≡◌, ℕ, ◌+◌, ◌≤◌, List, length, map}
use Rattle.dwz_graph_resolve.specs.declared.operands.ListOperand.{ListOperand}
use Rattle.dwz_graph_resolve.specs.ListRows.{operand_view}
use Rattle.dwz_def_reading.specs.Lists.{Each}
use Rattle.dwz_def_reading.specs.Units.{RawUnit}
use Rattle.dwz_def_reading.specs.declared.exprs.Operand.{Operand}
use Rattle.dwz_def_reading.specs.Meanings.{Around}
use Rattle.dwz_def_reading.specs.NamedLists.{lists_of_units}
use Rattle.dwz_def_reading.specs.PatchedLists.{IsPatched, number_for_place, with_operands}
use Rattle.dwz_def_reading.specs.Patching.{renumbered}
use Rattle.dwz_def_reading.specs.Shared.{AreRows, NoneShared}

-- where an operand stands, in which width and spelling; its number is left open, as 0
abbrev pub spot_of : ListOperand → Operand
spot_of o = record { at = o.at; width = o.width; uleb = o.uleb; base = o.base; number = 0 }

abbrev pub spots : List ListOperand → List Operand
spots operands = map spot_of operands

-- `.debug_loclists` with the i-th number in the i-th operand
abbrev pub with_numbers : List ListOperand → List ℕ → List ℕ → List ℕ
with_numbers operands numbers section = with_operands (renumbered (spots operands) numbers) section

-- each ends in so many bytes
abbrev pub EndIn : ℕ → List ListOperand → Type 0
EndIn end operands = Each (λ o. o.at + o.width ≤ end) operands

-- where they are all of a file, the operands end within its section
abbrev pub EndLaw : Type 0
EndLaw =
    (around : Around ℕ) (raw : List RawUnit) (operands : List ListOperand)
    → AreRows (lists_of_units around raw) (map (operand_view raw) operands)
    → EndIn (length around.sources.lists) operands

-- and where its lists share nothing, the section has at each operand of each list the number of the place, and else the old bytes
abbrev pub PatchedLaw : Type 0
PatchedLaw =
    (around : Around ℕ) (raw : List RawUnit) (operands : List ListOperand) (numbers : List ℕ)
    → AreRows (lists_of_units around raw) (map (operand_view raw) operands)
    → NoneShared (lists_of_units around raw)
    → length numbers ≡ length operands
    → let section = around.sources.lists in
    IsPatched (lists_of_units around raw) (number_for_place (spots operands) numbers) section (with_numbers operands numbers section)
