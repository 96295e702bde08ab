-- Entries of location lists name entries only in their expressions, and these are spelled in their own places.
use Rattle.std.proofs.Common.{◌≡◌, ℕ, ◌+◌, Bool, true, false, List, [], ◌∷◌, ◌++◌, length, Option, Some, None, refl, sym, ap, subst, ◌∙◌}
use Rattle.std.specs.List.{list_all}
use Rattle.dwz_codes.specs.ListKinds.{list_kind_rows}
use Rattle.dwz_codes.specs.Rows.{RowView, row_of}
use Rattle.dwz_def_reading.specs.Values.{shape_in, shape_of}
use Rattle.dwz_def_reading.proofs.AbbrevLemmas.{and_true}
use Rattle.dwz_def_reading.specs.declared.exprs.Operand.{Operand}
use Rattle.dwz_def_reading.specs.Exprs.{AnAddress, Counted, Entry4, EntryOrGeneric, EntryUleb, ExprContext, Expression, Field, FieldItem, Holds, Inside, Located, LocatedBy, Names, Run, Signed, Sized}
use Rattle.dwz_def_reading.specs.Exprs.{SpellsExpr, SpellsField, SpellsFields, Unsigned, expressions_in, fields_of, joined_items, operands_in}
use Rattle.dwz_def_reading.specs.LocLists.{EndsList, SpellsListEntry}
use Rattle.dwz_def_reading.specs.Sequences.{SpellsRow}
use Rattle.dwz_def_reading.specs.Shared.{operands_of}
use Rattle.dwz_def_reading.proofs.ClassLemmas.{row_checked}
use Rattle.dwz_def_reading.proofs.PatchedLemmas.{own_spelled}

-- what is found names no entry but in expressions, each of which is spelled in its own place
abbrev pub OnlyExprs : ExprContext → List FieldItem → Type 0
OnlyExprs c [] = Unit {0}
OnlyExprs c (Names o ∷ founds) = ⊥
OnlyExprs c (AnAddress ∷ founds) = OnlyExprs c founds
OnlyExprs c (Holds e ∷ founds) = SpellsExpr c e e.at e.bytes × OnlyExprs c founds

only_both : (c : ExprContext) (a b : List FieldItem) → OnlyExprs c a → OnlyExprs c b → OnlyExprs c (a ++ b)
only_both c [] b h k = k
only_both c (Names o ∷ a) b h k = absurd h
only_both c (AnAddress ∷ a) b h k = only_both c a b h k
only_both c (Holds e ∷ a) b h k = (h.0, only_both c a b h.1 k)

pub same_operands : (c : ExprContext) (founds : List FieldItem) → OnlyExprs c founds → operands_in founds ≡ operands_of (expressions_in founds)
unfolding operands_in expressions_in operands_of
same_operands c [] h = refl
same_operands c (Names o ∷ founds) h = absurd h
same_operands c (AnAddress ∷ founds) h = same_operands c founds h
same_operands c (Holds e ∷ founds) h = ap (λ (w : List Operand). e.operands ++ w) (same_operands c founds h.1)

abbrev pub EachSpelled : ExprContext → List Expression → Type 0
EachSpelled c [] = Unit {0}
EachSpelled c (e ∷ exprs) = SpellsExpr c e e.at e.bytes × EachSpelled c exprs

pub each_spelled : (c : ExprContext) (founds : List FieldItem) → OnlyExprs c founds → EachSpelled c (expressions_in founds)
unfolding expressions_in
each_spelled c [] h = tt
each_spelled c (Names o ∷ founds) h = absurd h
each_spelled c (AnAddress ∷ founds) h = each_spelled c founds h
each_spelled c (Holds e ∷ founds) h = (h.0, each_spelled c founds h.1)

-- ---- fields

abbrev names_none : Field → Bool
names_none (Entry4 base) = false
names_none EntryUleb = false
names_none EntryOrGeneric = false
names_none _ = true

field_only : (c : ExprContext) (field : Field) (founds : List FieldItem) (start : ℕ) (bytes : List ℕ) → names_none field ≡ true → SpellsField (SpellsExpr c) field founds start bytes
    → OnlyExprs c founds
field_only c (Run n) founds start bytes is s = subst (OnlyExprs c) (sym s.found) tt
field_only c Unsigned founds start bytes is s = subst (OnlyExprs c) (sym s.found) tt
field_only c Signed founds start bytes is s = subst (OnlyExprs c) (sym s.found) tt
field_only c Sized founds start bytes is s = subst (OnlyExprs c) (sym s.found) tt
field_only c Counted founds start bytes is s = subst (OnlyExprs c) (sym s.found) tt
field_only c Located founds start bytes is s = subst (OnlyExprs c) (sym s.found) tt
field_only c LocatedBy founds start bytes is s = subst (OnlyExprs c) (sym s.found) tt
field_only c (Entry4 base) founds start bytes is s = absurd cc
field_only c EntryUleb founds start bytes is s = absurd cc
field_only c EntryOrGeneric founds start bytes is s = absurd cc
field_only c Inside founds start bytes is s = subst (OnlyExprs c) (sym s.found) (own_spelled c s.expression (start + length s.front) s.content s.is, tt)

fields_only : (c : ExprContext) (fields : List Field) (founds : List FieldItem) (start : ℕ) (bytes : List ℕ) → list_all names_none fields ≡ true → SpellsFields (SpellsExpr c) fields founds start bytes
    → OnlyExprs c founds
fields_only c [] founds start bytes all s = subst (OnlyExprs c) (sym s.0) tt
fields_only c (field ∷ fields) founds start bytes all s =
    let both = and_true (names_none field) (list_all names_none fields) all in
    let p = s.both in
    subst (OnlyExprs c) (sym s.made) (only_both c s.x s.y (field_only c field s.x start p.first_bytes both.0 p.first)
    (fields_only c fields s.y (start + length p.first_bytes) p.second_bytes both.1 p.second))

-- ---- kinds

abbrev none_named : Option (List Field) → Bool
none_named None = true
none_named (Some fields) = list_all names_none fields

abbrev row_names_none : RowView → Bool
row_names_none r = none_named (fields_of r.shape)

kinds_name_none : list_all row_names_none list_kind_rows ≡ true
unfolding list_kind_rows
kinds_name_none = refl

kind_names_none : (kind : ℕ) (fields : List Field) → fields_of (shape_of list_kind_rows kind) ≡ Some fields → list_all names_none fields ≡ true
kind_names_none kind fields laid = by (row_of list_kind_rows kind) refl where
  by : (o : Option RowView) → row_of list_kind_rows kind ≡ o → list_all names_none fields ≡ true
  by (Some r) is =
      let row = row_checked row_names_none list_kind_rows kind r kinds_name_none is in
      let same : fields_of r.shape ≡ Some fields = ap (λ (o : Option RowView). fields_of (shape_in o)) (sym is) ∙ laid in
      ap none_named (sym same) ∙ row.0
  by None is = absurd (let no : None ≡ Some fields = ap (λ (o : Option RowView). fields_of (shape_in o)) (sym is) ∙ laid in cc)

pub entry_only : (c : ExprContext) (founds : List FieldItem) (start : ℕ) (bytes : List ℕ) → SpellsListEntry c founds start bytes → OnlyExprs c founds
entry_only c founds start bytes s = fields_only c s.fields founds (start + 1) s.rest (kind_names_none s.kind s.fields s.laid) s.spelled

pub row_only : (c : ExprContext) (entries : List (List FieldItem)) (start : ℕ) (bytes : List ℕ) → SpellsRow (SpellsListEntry c) EndsList entries start bytes → OnlyExprs c (joined_items entries)
unfolding joined_items
row_only c [] start bytes s = tt
row_only c (e ∷ entries) start bytes s = only_both c e (joined_items entries) (entry_only c e start s.first_bytes s.first) (row_only c entries (start + length s.first_bytes) s.second_bytes s.second)
