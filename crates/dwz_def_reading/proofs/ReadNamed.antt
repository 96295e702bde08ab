-- The operands of expressions and of location lists that are read name entries.
use Rattle.std.proofs.Common.{ℕ, Bool, true, false, List, [], ◌∷◌, ◌++◌, sym, subst, cond, eqb}
use Rattle.dwz_def_reading.specs.declared.exprs.Operand.{Operand}
use Rattle.dwz_def_reading.specs.Exprs.{AnAddress, AreNamed, Counted, EntryOrGeneric, EntryUleb, Entry4, ExprContext, Field, FieldItem, Holds, Inside, Located, LocatedBy, Names, Run, Signed, Sized}
use Rattle.dwz_def_reading.specs.Exprs.{SpellsExpr, SpellsField, SpellsFields, Unsigned, expressions_in, joined_items}
use Rattle.dwz_def_reading.specs.LocLists.{EndsList, LocList, SpellsList, SpellsListEntry}
use Rattle.dwz_def_reading.specs.Sequences.{SpellsRow}
use Rattle.dwz_def_reading.specs.Shared.{operands_of}
use Rattle.dwz_def_reading.specs.Exprs.{Expression, SpellsOp, SpellsWithin, most_inside, operands_in}
use Rattle.dwz_def_reading.specs.Sequences.{Spelling, SpellsAll}
use Rattle.dwz_def_reading.proofs.StandLemmas.{operands_both}

-- ---- expressions

-- each operand of an expression names an entry
named_both : (names : Operand → Bool) (a b : List Operand) → AreNamed names a → AreNamed names b → AreNamed names (a ++ b)
named_both names [] b h k = k
named_both names (o ∷ a) b h k = (h.0, named_both names a b h.1 k)

ops_named : (c : ExprContext) (IsExpr : Spelling Expression) (ops : List (List FieldItem)) (start : ℕ) (bytes : List ℕ) → SpellsAll (SpellsOp c IsExpr) ops start bytes
    → AreNamed c.names (operands_in (joined_items ops))
unfolding joined_items operands_in
ops_named c IsExpr [] start bytes is = tt
ops_named c IsExpr (x ∷ ops) start bytes is =
    subst (AreNamed c.names) (sym (operands_both x (joined_items ops))) (named_both c.names (operands_in x) (operands_in (joined_items ops)) is.first.named (ops_named c IsExpr ops _ is.second_bytes
    is.second))

pub expr_named : (c : ExprContext) (e : Expression) (start : ℕ) (bytes : List ℕ) → SpellsExpr c e start bytes → AreNamed c.names e.operands
expr_named c e start bytes is = subst (λ (x : Expression). AreNamed c.names x.operands) (sym is.made) (ops_named c (SpellsWithin c most_inside) is.ops start bytes is.spelled)

-- ---- location lists

module _ (c : ExprContext) where
  -- so do those of the expressions that are held
  abbrev HoldNamed : List FieldItem → Type 0
  HoldNamed [] = Unit {0}
  HoldNamed (Names o ∷ founds) = HoldNamed founds
  HoldNamed (AnAddress ∷ founds) = HoldNamed founds
  HoldNamed (Holds e ∷ founds) = AreNamed c.names e.operands × HoldNamed founds

  both_held : (a b : List FieldItem) → HoldNamed a → HoldNamed b → HoldNamed (a ++ b)
  both_held [] b h k = k
  both_held (Names o ∷ a) b h k = both_held a b h k
  both_held (AnAddress ∷ a) b h k = both_held a b h k
  both_held (Holds e ∷ a) b h k = (h.0, both_held a b h.1 k)

  exprs_named : (founds : List FieldItem) → HoldNamed founds → AreNamed c.names (operands_of (expressions_in founds))
  unfolding expressions_in operands_of
  exprs_named [] h = tt
  exprs_named (Names o ∷ founds) h = exprs_named founds h
  exprs_named (AnAddress ∷ founds) h = exprs_named founds h
  exprs_named (Holds e ∷ founds) h = named_both c.names e.operands (operands_of (expressions_in founds)) h.0 (exprs_named founds h.1)

  generic_held : (b : Bool) (o : Operand) → HoldNamed (cond b [] (Names o ∷ []))
  generic_held true o = tt
  generic_held false o = tt

  field_held : (field : Field) (founds : List FieldItem) (start : ℕ) (bytes : List ℕ) → SpellsField (SpellsExpr c) field founds start bytes → HoldNamed founds
  field_held (Run n) founds start bytes h = subst HoldNamed (sym h.found) tt
  field_held Unsigned founds start bytes h = subst HoldNamed (sym h.found) tt
  field_held Signed founds start bytes h = subst HoldNamed (sym h.found) tt
  field_held Sized founds start bytes h = subst HoldNamed (sym h.found) tt
  field_held Counted founds start bytes h = subst HoldNamed (sym h.found) tt
  field_held Located founds start bytes h = subst HoldNamed (sym h.found) tt
  field_held LocatedBy founds start bytes h = subst HoldNamed (sym h.found) tt
  field_held (Entry4 base) founds start bytes h = subst HoldNamed (sym h.found) tt
  field_held EntryUleb founds start bytes h = subst HoldNamed (sym h.found) tt
  field_held EntryOrGeneric founds start bytes h = subst HoldNamed (sym h.found) (generic_held (eqb h.value 0) _)
  field_held Inside founds start bytes h = subst HoldNamed (sym h.found) (expr_named c h.expression _ _ h.is, tt)

  fields_held : (fields : List Field) (founds : List FieldItem) (start : ℕ) (bytes : List ℕ) → SpellsFields (SpellsExpr c) fields founds start bytes → HoldNamed founds
  fields_held [] founds start bytes h = subst HoldNamed (sym h.0) tt
  fields_held (field ∷ fields) founds start bytes h = subst HoldNamed (sym h.made)
      (both_held h.x h.y (field_held field h.x start h.both.first_bytes h.both.first) (fields_held fields h.y _ h.both.second_bytes h.both.second))

  entries_held : (entries : List (List FieldItem)) (start : ℕ) (bytes : List ℕ) → SpellsRow (SpellsListEntry c) EndsList entries start bytes → HoldNamed (joined_items entries)
  unfolding joined_items
  entries_held [] start bytes h = tt
  entries_held (founds ∷ entries) start bytes h = both_held founds (joined_items entries) (fields_held h.first.fields founds _ _ h.first.spelled) (entries_held entries _ h.second_bytes h.second)

  pub list_named : (l : LocList) (start : ℕ) (bytes : List ℕ) → SpellsList c l start bytes → AreNamed c.names (operands_of l.exprs)
  list_named l start bytes h = subst (λ (w : List _). AreNamed c.names (operands_of w)) (sym h.exprs) (exprs_named (joined_items h.entries) (entries_held h.entries start bytes h.spelled))
