-- Location lists of a section in which their operands have other numbers (DWARF 5, 2.6.2 and 7.7.3).
use Rattle.std.specs.Prelude.{◌≡◌, ℕ, ◌+◌, ◌≤◌, List, [], ◌∷◌, length, map, take, drop, slice_index, ◌==◌, if◌then◌else◌}
use Rattle.dwz_def_reading.specs.Entries.{RawAttr}
use Rattle.dwz_model.specs.Lists.{In}
use Rattle.dwz_def_reading.specs.declared.exprs.Operand.{Operand}
use Rattle.dwz_def_reading.specs.Documents.{Loc, Value}
use Rattle.dwz_def_reading.specs.Exprs.{AreNamed, ExprContext, Expression, parts_of}
use Rattle.dwz_def_reading.specs.LocLists.{LocList}
use Rattle.dwz_def_reading.specs.Meanings.{MeaningContext, any_with_address, loclists_base, offset_of, targets}
use Rattle.dwz_def_reading.specs.Patching.{AllFit, filled, number_in_width, written_at}
use Rattle.dwz_def_reading.specs.Shared.{HasByte, ListOperand, NamedList, operands_in_lists, own_operands}

-- ---- numbers by the places of operands

-- the operand with the number for its place
abbrev pub with_number : (ℕ → ℕ) → Operand → Operand
with_number number o = record { at = o.at; width = o.width; uleb = o.uleb; base = o.base; number = number o.at }

-- an expression, and a list, with these numbers in their operands
abbrev pub expr_with : (ℕ → ℕ) → Expression → Expression
expr_with number e =
    record {
      at = e.at;
      bytes = filled (parts_of e) (map (λ o. number o.at) e.operands);
      operands = map (with_number number) e.operands;
      address = e.address;
    }

abbrev pub list_with : (ℕ → ℕ) → LocList → LocList
list_with number l = record { exprs = map (expr_with number) l.exprs; end = l.end }

-- the same of a list that an attribute names, where another unit stands for each
abbrev pub named_with : (ℕ → ℕ) → (ℕ → ℕ) → NamedList → NamedList
named_with unit number l = record { unit = unit l.unit; from = l.from; slot = l.slot; list = list_with number l.list }

-- ---- the section with these numbers

-- at each operand of the lists stands the number for its place, in the operand's width; bytes that are in no operand are the old ones
pub record IsPatched (lists : List NamedList) (number : ℕ → ℕ) (section new : List ℕ) : Type 0 where
  pub len : length new ≡ length section
  pub written : (o : ListOperand) → In o (operands_in_lists lists) → take o.operand.width (drop o.operand.at new)
      ≡ number_in_width o.operand.uleb o.operand.width (number o.operand.at)
  pub others : (b : ℕ) → ((o : ListOperand) → In o (operands_in_lists lists) → HasByte o.operand b → ⊥)
      → slice_index new b ≡ slice_index section b

-- the numbers fit the operands of the list and name entries
pub record CanHave (c : ExprContext) (number : ℕ → ℕ) (l : NamedList) : Type 0 where
  pub fit : AllFit (map (with_number number) (own_operands l))
  pub named : AreNamed c.names (map (with_number number) (own_operands l))

-- the bytes with the number of each operand written at its place
unfoldable pub with_operands : List Operand → List ℕ → List ℕ
with_operands [] bytes = bytes
with_operands (o ∷ operands) bytes = with_operands operands (written_at o.at (number_in_width o.uleb o.width o.number) bytes)

-- the number for the place of an operand, where they have these numbers in order
unfoldable pub number_for_place : List Operand → List ℕ → ℕ → ℕ
number_for_place [] numbers place = 0
number_for_place (o ∷ operands) [] place = 0
number_for_place (o ∷ operands) (n ∷ numbers) place = if o.at == place then n else number_for_place operands numbers place

-- each ends in so many bytes
abbrev pub EndWithin : ℕ → List ListOperand → Type 0
EndWithin end [] = Unit {0}
EndWithin end (o ∷ operands) = (o.operand.at + o.operand.width ≤ end) × EndWithin end operands

-- ---- units that name them

-- an attribute of another unit that names the list of the same place or index
pub record NamesAlike {P Q : Type 0} (s : MeaningContext P) (d : MeaningContext Q) (a b : RawAttr) : Type 0 where
  pub form : b.pair.form ≡ a.pair.form
  pub name : b.pair.name ≡ a.pair.name
  pub offset : offset_of b ≡ offset_of a
  pub base : loclists_base d ≡ loclists_base s

-- what such an attribute says: the same parts, the entries that the numbers name, and an address where there was one
abbrev pub list_value : {P : Type 0} → MeaningContext P → (ℕ → ℕ) → NamedList → Value P
list_value d number l =
    record {
      plain = Loc (map parts_of l.list.exprs);
      refs = targets d (map (with_number number) (own_operands l));
      address = any_with_address l.list.exprs;
    }
