-- Each operand that is read has a byte.
use Rattle.std.proofs.Common.{ℕ, zero, suc, ◌+◌, ◌<◌, Bool, true, false, cond, eqb, List, [], ◌∷◌, ◌++◌, length, map, Option, None, refl, sym, subst, inl, inr, arith}
use Rattle.dwz_model.specs.declared.place.Base.{Base}
use Rattle.dwz_model.specs.declared.place.Base.TheVariants.{Unit as FromUnit}
use Rattle.dwz_def_reading.specs.declared.exprs.Operand.{Operand}
use Rattle.dwz_def_reading.specs.Entries.{RawAttr, RawEntry}
use Rattle.dwz_def_reading.specs.Exprs.{AnAddress, Counted, Entry4, EntryOrGeneric, EntryUleb, ExprContext, Expression, Field, FieldItem, Holds, Inside, Located, LocatedBy, Names, Run, Signed, Sized}
use Rattle.dwz_def_reading.specs.Exprs.{SpellsExpr, SpellsField, SpellsFields, SpellsOp, SpellsWithin, Unsigned, an_operand, an_operand_or_generic, expressions_in, joined_items, most_inside}
use Rattle.dwz_def_reading.specs.Exprs.{operands_in}
use Rattle.dwz_model.specs.Lists.{In}
use Rattle.dwz_def_reading.specs.LocLists.{EndsList, LocList, SpellsList, SpellsListEntry}
use Rattle.dwz_def_reading.specs.Meanings.{Around, MeaningContext, expr_context, scope_of, without_siblings}
use Rattle.dwz_def_reading.specs.Classes.{OfListIndex, OfOffset}
use Rattle.dwz_def_reading.specs.Classes.{Class, class_of}
use Rattle.dwz_def_reading.specs.NamedLists.{AnyEntryNames, AnyNames, AnyUnitNames, IsNamedAt, NamesAs, lists_of_units}
use Rattle.dwz_def_reading.specs.Sequences.{Spelling, SpellsAll, SpellsRow}
use Rattle.dwz_def_reading.specs.Shared.{ListOperand, NamedList, of_unit, operands_in_lists, operands_of, own_operands}
use Rattle.dwz_def_reading.specs.Trees.{End, Entry, Forest}
use Rattle.dwz_def_reading.specs.Units.{RawUnit}
use Rattle.dwz_def_reading.proofs.AbbrevLemmas.{some_uleb}
use Rattle.dwz_model.proofs.ListFacts.{in_cases}
use Rattle.dwz_def_reading.proofs.NamedLemmas.{units_name}

abbrev HaveBytes : List Operand → Type 0
HaveBytes [] = Unit {0}
HaveBytes (o ∷ operands) = (0 < o.width) × HaveBytes operands

both_have : (a b : List Operand) → HaveBytes a → HaveBytes b → HaveBytes (a ++ b)
both_have [] b h k = k
both_have (o ∷ a) b h k = (h.0, both_have a b h.1 k)

with_front : (front a b : List Operand) → (HaveBytes a → HaveBytes b) → HaveBytes (front ++ a) → HaveBytes (front ++ b)
with_front [] a b to g = to g
with_front (o ∷ front) a b to g = (g.0, with_front front a b to g.1)

one_has : (a : List Operand) → HaveBytes a → (o : Operand) → In o a → 0 < o.width
one_has [] h o there = absurd there
one_has (p ∷ a) h o (inl same) = subst (λ (q : Operand). 0 < q.width) same h.0
one_has (p ∷ a) h o (inr later) = one_has a h.1 o later

-- ---- fields

abbrev FoundHave : List FieldItem → Type 0
FoundHave founds = HaveBytes (operands_in founds)

found_both : (a b : List FieldItem) → FoundHave a → FoundHave b → FoundHave (a ++ b)
unfolding operands_in
found_both [] b h k = k
found_both (Names o ∷ a) b h k = (h.0, found_both a b h.1 k)
found_both (AnAddress ∷ a) b h k = found_both a b h k
found_both (Holds e ∷ a) b h k = with_front e.operands (operands_in a) (operands_in (a ++ b)) (λ g. found_both a b g k) h

no_found : FoundHave []
unfolding operands_in
no_found = tt

an_address_has : FoundHave (AnAddress ∷ [])
unfolding operands_in
an_address_has = tt

operand_has : (uleb : Bool) (base : Base) (start width number : ℕ) → 0 < width → FoundHave (an_operand uleb base start width number)
unfolding operands_in
operand_has uleb base start width number some = (some, tt)

holds_has : (e : Expression) → HaveBytes e.operands → FoundHave (Holds e ∷ [])
unfolding operands_in
holds_has e h = both_have e.operands [] h tt

module _ (IsExpr : Spelling Expression) (inside : (e : Expression) (start : ℕ) (bytes : List ℕ) → IsExpr e start bytes → HaveBytes e.operands) where
  generic_has : (start width number : ℕ) → 0 < width → FoundHave (an_operand_or_generic start width number)
  generic_has start width number some = by (eqb number 0) where
    by : (b : Bool) → FoundHave (cond b [] (an_operand true FromUnit start width number))
    by true = no_found
    by false = operand_has true FromUnit start width number some

  field_has : (field : Field) (founds : List FieldItem) (start : ℕ) (bytes : List ℕ) → SpellsField IsExpr field founds start bytes → FoundHave founds
  field_has (Run n) founds start bytes s = subst FoundHave (sym s.found) no_found
  field_has Unsigned founds start bytes s = subst FoundHave (sym s.found) no_found
  field_has Signed founds start bytes s = subst FoundHave (sym s.found) no_found
  field_has Sized founds start bytes s = subst FoundHave (sym s.found) no_found
  field_has Counted founds start bytes s = subst FoundHave (sym s.found) no_found
  field_has Located founds start bytes s = subst FoundHave (sym s.found) an_address_has
  field_has LocatedBy founds start bytes s = subst FoundHave (sym s.found) an_address_has
  field_has (Entry4 base) founds start bytes s = let len = s.spelled.len in subst FoundHave (sym s.found) (operand_has false base start (length bytes) s.value (omega (arith, len)))
  field_has EntryUleb founds start bytes s = subst FoundHave (sym s.found) (operand_has true FromUnit start (length bytes) s.value (some_uleb bytes s.value s.spelled))
  field_has EntryOrGeneric founds start bytes s = subst FoundHave (sym s.found) (generic_has start (length bytes) s.value (some_uleb bytes s.value s.spelled))
  field_has Inside founds start bytes s = subst FoundHave (sym s.found) (holds_has s.expression (inside s.expression (start + length s.front) s.content s.is))

  fields_have : (fields : List Field) (founds : List FieldItem) (start : ℕ) (bytes : List ℕ) → SpellsFields IsExpr fields founds start bytes → FoundHave founds
  fields_have [] founds start bytes s = subst FoundHave (sym s.0) no_found
  fields_have (field ∷ fields) founds start bytes s =
      let p = s.both in
      subst FoundHave (sym s.made) (found_both s.x s.y (field_has field s.x start p.first_bytes p.first) (fields_have fields s.y (start + length p.first_bytes) p.second_bytes p.second))

-- ---- expressions and lists

ops_have : (c : ExprContext) (IsExpr : Spelling Expression) → ((e : Expression) (start : ℕ) (bytes : List ℕ) → IsExpr e start bytes → HaveBytes e.operands)
    → (ops : List (List FieldItem)) (start : ℕ) (bytes : List ℕ) → SpellsAll (SpellsOp c IsExpr) ops start bytes → FoundHave (joined_items ops)
unfolding joined_items
ops_have c IsExpr inside [] start bytes s = no_found
ops_have c IsExpr inside (op ∷ ops) start bytes s =
    let first = s.first in
    found_both op (joined_items ops) (fields_have IsExpr inside first.fields op (start + 1) first.rest first.spelled) (ops_have c IsExpr inside ops (start + length s.first_bytes) s.second_bytes
    s.second)

within_has : (c : ExprContext) (k : ℕ) (e : Expression) (start : ℕ) (bytes : List ℕ) → SpellsWithin c k e start bytes → HaveBytes e.operands
within_has c zero e start bytes s = absurd s
within_has c (suc k) e start bytes s = subst (λ (w : Expression). HaveBytes w.operands) (sym s.made) (ops_have c (SpellsWithin c k) (within_has c k) s.ops start bytes s.spelled)

-- the operands of the expressions that are found
exprs_have : (founds : List FieldItem) → FoundHave founds → HaveBytes (operands_of (expressions_in founds))
unfolding operands_in expressions_in operands_of
exprs_have [] h = tt
exprs_have (Names o ∷ founds) h = exprs_have founds h.1
exprs_have (AnAddress ∷ founds) h = exprs_have founds h
exprs_have (Holds e ∷ founds) h = with_front e.operands (operands_in founds) (operands_of (expressions_in founds)) (λ g. exprs_have founds g) h

row_has : (c : ExprContext) (entries : List (List FieldItem)) (start : ℕ) (bytes : List ℕ) → SpellsRow (SpellsListEntry c) EndsList entries start bytes → FoundHave (joined_items entries)
unfolding joined_items
row_has c [] start bytes s = no_found
row_has c (e ∷ entries) start bytes s =
    let first = s.first in
    found_both e (joined_items entries) (fields_have (SpellsExpr c) (within_has c (suc most_inside)) first.fields e (start + 1) first.rest first.spelled)
    (row_has c entries (start + length s.first_bytes) s.second_bytes s.second)

pub list_has : (c : ExprContext) (l : LocList) (start : ℕ) (bytes : List ℕ) → SpellsList c l start bytes → HaveBytes (operands_of l.exprs)
list_has c l start bytes s = subst (λ (w : List Expression). HaveBytes (operands_of w)) (sym s.exprs) (exprs_have (joined_items s.entries) (row_has c s.entries start bytes s.spelled))

-- ---- the lists that are named

module _ {P : Type 0} (s : MeaningContext P) where
  at_has : (slot : Option ℕ) (place : ℕ) (l : NamedList) → IsNamedAt s slot place l → HaveBytes (own_operands l)
  at_has slot place l n = list_has (expr_context s 7) l.list place n.stands.front n.stands.spelled

  as_has : (c : Class) (a : RawAttr) (l : NamedList) → NamesAs c s a l → HaveBytes (own_operands l)
  as_has OfOffset a l n = at_has None _ l n.1
  as_has OfListIndex a l n = at_has _ _ l n.named
  as_has _ a l n = absurd n

  attrs_have : (attrs : List RawAttr) (l : NamedList) → AnyNames s attrs l → HaveBytes (own_operands l)
  attrs_have [] l n = absurd n
  attrs_have (a ∷ attrs) l (inl is) = as_has (class_of a.pair.form) a l is
  attrs_have (a ∷ attrs) l (inr later) = attrs_have attrs l later

  entries_have : (f : Forest RawEntry) (l : NamedList) → AnyEntryNames s f l → HaveBytes (own_operands l)
  entries_have End l n = absurd n
  entries_have (Entry e children next) l (inl is) = attrs_have (without_siblings e.attrs) l is
  entries_have (Entry e children next) l (inr (inl below)) = entries_have children l below
  entries_have (Entry e children next) l (inr (inr later)) = entries_have next l later

units_have : {P : Type 0} (around : Around P) (units : List RawUnit) (l : NamedList) → AnyUnitNames around units l → HaveBytes (own_operands l)
units_have around [] l n = absurd n
units_have around (u ∷ units) l (inl (inl is)) = attrs_have (scope_of around u) (without_siblings u.root.attrs) l is
units_have around (u ∷ units) l (inl (inr below)) = entries_have (scope_of around u) u.below l below
units_have around (u ∷ units) l (inr later) = units_have around units l later

of_one : (unit : ℕ) (operands : List Operand) → HaveBytes operands → (o : ListOperand) → In o (map (of_unit unit) operands) → 0 < o.operand.width
of_one unit [] h o there = absurd there
of_one unit (p ∷ operands) h o (inl same) = subst (λ (q : ListOperand). 0 < q.operand.width) same h.0
of_one unit (p ∷ operands) h o (inr later) = of_one unit operands h.1 o later

of_all : (lists : List NamedList) → ((l : NamedList) → In l lists → HaveBytes (own_operands l)) → (o : ListOperand) → In o (operands_in_lists lists) → 0 < o.operand.width
unfolding operands_in_lists
of_all [] each o there = absurd there
of_all (l ∷ lists) each o there = elim (in_cases o (map (of_unit l.unit) (own_operands l)) (operands_in_lists lists) there) [
  | inl own ↦ of_one l.unit (own_operands l) (each l (inl refl)) o own
  | inr others ↦ of_all lists (λ m is. each m (inr is)) o others
]

pub units_wide : {P : Type 0} (around : Around P) (units : List RawUnit) (o : ListOperand) → In o (operands_in_lists (lists_of_units around units)) → 0 < o.operand.width
units_wide around units = of_all (lists_of_units around units) (λ l there. units_have around units l ((units_name around units l).0 there))
