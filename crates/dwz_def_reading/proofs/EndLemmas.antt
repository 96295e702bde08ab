-- Operands of the lists that units name end within the section.
use Rattle.std.proofs.Common.{◌≡◌, ℕ, ◌+◌, ◌≤◌, List, [], ◌∷◌, length, map, refl, sym, ap, subst, ◌∙◌, inl, inr, arith}
use Rattle.dwz_def_reading.specs.Entries.{RawAttr, RawEntry}
use Rattle.dwz_model.specs.Lists.{In}
use Rattle.dwz_def_reading.specs.Trees.{End, Entry, Forest}
use Rattle.dwz_def_reading.specs.Units.{RawUnit}
use Rattle.dwz_model.proofs.ListFacts.{in_cases}
use Rattle.dwz_def_reading.specs.declared.exprs.Operand.{Operand}
use Rattle.dwz_def_reading.specs.Exprs.{ExprContext, joined_items, operands_in}
use Rattle.dwz_def_reading.specs.LocLists.{SpellsList}
use Rattle.dwz_def_reading.specs.Meanings.{Around, MeaningContext, expr_context, scope_of, without_siblings}
use Rattle.dwz_def_reading.specs.Classes.{OfListIndex, OfOffset}
use Rattle.dwz_def_reading.specs.Classes.{Class, class_of}
use Rattle.dwz_def_reading.specs.NamedLists.{AnyEntryNames, AnyNames, AnyUnitNames, NamesAs, lists_of_units}
use Rattle.dwz_def_reading.specs.PatchedLists.{EndWithin}
use Rattle.dwz_def_reading.specs.Sequences.{StandsFrom}
use Rattle.dwz_def_reading.specs.Shared.{AreRows, ListOperand, NamedList, of_unit, operands_in_lists, operands_of, own_operands}
use Rattle.dwz_def_reading.proofs.CutLemmas.{Lie, lie_le}
use Rattle.dwz_def_reading.proofs.ListKindLemmas.{row_only, same_operands}
use Rattle.dwz_def_reading.proofs.NamedAgain.{in_map}
use Rattle.dwz_def_reading.proofs.NamedLemmas.{units_name}
use Rattle.dwz_def_reading.proofs.PatchedListLemmas.{stood_within}
use Rattle.dwz_def_reading.proofs.StandLemmas.{row_stands}

-- an operand of a list ends where the list does, or before
ends_before : (at end : ℕ) (os : List Operand) → Lie at end os → (o : Operand) → In o os → o.at + o.width ≤ end
ends_before at end [] h o there = absurd there
ends_before at end (p ∷ os) h o (inl same) = subst (λ (q : Operand). q.at + q.width ≤ end) same (lie_le (p.at + p.width) end os h.2)
ends_before at end (p ∷ os) h o (inr later) = ends_before (p.at + p.width) end os h.2 o later

abbrev EndIn : ℕ → List Operand → Type 0
EndIn end os = (o : Operand) → In o os → o.at + o.width ≤ end

stands_end : (c : ExprContext) (section : List ℕ) (place : ℕ) (l : NamedList) → StandsFrom (SpellsList c) section place l.list → EndIn (length section) (own_operands l)
stands_end c section place l s o there =
    let entries = s.spelled.entries in
    let operands : operands_in (joined_items entries) ≡ own_operands l = same_operands c (joined_items entries) (row_only c entries place s.front s.spelled.spelled)
    ∙ ap operands_of (sym s.spelled.exprs) in
    let lie = (row_stands c entries place s.front s.spelled.spelled).lie in
    let ends = ends_before place (place + length s.front) (operands_in (joined_items entries)) lie o (subst (In o) (sym operands) there) in
    omega (arith, ends, stood_within section s.before s.front s.after place s.length_before s.parts)

-- ---- the lists that are named

module _ {P : Type 0} (s : MeaningContext P) where
  abbrev EndHere : NamedList → Type 0
  EndHere l = EndIn (length s.around.sources.lists) (own_operands l)

  as_end : (c : Class) (a : RawAttr) (l : NamedList) → NamesAs c s a l → EndHere l
  as_end OfOffset a l n = stands_end (expr_context s 7) s.around.sources.lists _ l n.1.stands
  as_end OfListIndex a l n = stands_end (expr_context s 7) s.around.sources.lists _ l n.named.stands
  as_end _ a l n = absurd n

  attrs_end : (attrs : List RawAttr) (l : NamedList) → AnyNames s attrs l → EndHere l
  attrs_end [] l n = absurd n
  attrs_end (a ∷ attrs) l (inl is) = as_end (class_of a.pair.form) a l is
  attrs_end (a ∷ attrs) l (inr later) = attrs_end attrs l later

  entries_end : (f : Forest RawEntry) (l : NamedList) → AnyEntryNames s f l → EndHere l
  entries_end End l n = absurd n
  entries_end (Entry e children next) l (inl is) = attrs_end (without_siblings e.attrs) l is
  entries_end (Entry e children next) l (inr (inl below)) = entries_end children l below
  entries_end (Entry e children next) l (inr (inr later)) = entries_end next l later

units_end : {P : Type 0} (around : Around P) (units : List RawUnit) (l : NamedList) → AnyUnitNames around units l → EndIn (length around.sources.lists) (own_operands l)
units_end around [] l n = absurd n
units_end around (u ∷ units) l (inl (inl is)) = attrs_end (scope_of around u) (without_siblings u.root.attrs) l is
units_end around (u ∷ units) l (inl (inr below)) = entries_end (scope_of around u) u.below l below
units_end around (u ∷ units) l (inr later) = units_end around units l later

of_all : (end : ℕ) (lists : List NamedList) → ((l : NamedList) → In l lists → EndIn end (own_operands l)) → (o : ListOperand) → In o (operands_in_lists lists) → o.operand.at + o.operand.width ≤ end
unfolding operands_in_lists
of_all end [] each o there = absurd there
of_all end (l ∷ lists) each o there = elim (in_cases o (map (of_unit l.unit) (own_operands l)) (operands_in_lists lists) there) [
  | inl own ↦
      let r = in_map (of_unit l.unit) o (own_operands l) own in
      subst (λ (w : ListOperand). w.operand.at + w.operand.width ≤ end) r.2 (each l (inl refl) r.0 r.1)
  | inr others ↦ of_all end lists (λ m is. each m (inr is)) o others
]

each_ends : (end : ℕ) (rows : List ListOperand) → ((o : ListOperand) → In o rows → o.operand.at + o.operand.width ≤ end) → EndWithin end rows
each_ends end [] each = tt
each_ends end (o ∷ rows) each = (each o (inl refl), each_ends end rows (λ p there. each p (inr there)))

pub rows_end : {P : Type 0} (around : Around P) (units : List RawUnit) (rows : List ListOperand) → AreRows (lists_of_units around units) rows → EndWithin (length around.sources.lists) rows
rows_end around units rows are =
    each_ends (length around.sources.lists) rows (λ o there. of_all (length around.sources.lists) (lists_of_units around units) (λ l is. units_end around units l ((units_name around units l).0 is)) o
    (are.from o there))
