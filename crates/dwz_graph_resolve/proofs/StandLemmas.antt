-- The operands of a location list stand one behind the other, behind its first byte.
use Rattle.std.proofs.Common.{◌≡◌, ℕ, zero, suc, ◌+◌, ◌<◌, ◌≤◌, Bool, true, false, cond, eqb, List, [], ◌∷◌, ◌++◌, length, sym, ap, subst, arith}
use Rattle.std.proofs.lemmas.List.{append-nil, length-append}
use Rattle.dwz_model.specs.declared.place.Base.{Base}
use Rattle.dwz_model.specs.declared.place.Base.TheVariants.{Unit as FromUnit}
use Rattle.dwz_def_reading.proofs.AbbrevLemmas.{some_uleb}
use Rattle.dwz_def_reading.specs.declared.exprs.Operand.{Operand}
use Rattle.dwz_def_reading.specs.Exprs.{AnAddress, Counted, Entry4, EntryOrGeneric, EntryUleb, ExprContext, Expression, Field, FieldItem, Holds, Inside, Located, LocatedBy, Names, Run, Signed, Sized}
use Rattle.dwz_def_reading.specs.Exprs.{SpellsExpr, SpellsField, SpellsFields, SpellsOp, SpellsWithin, Unsigned, an_operand, an_operand_or_generic, expressions_in, joined_items, most_inside}
use Rattle.dwz_def_reading.specs.Exprs.{operands_in}
use Rattle.dwz_def_reading.specs.LocLists.{EndsList, LocList, SpellsList, SpellsListEntry}
use Rattle.dwz_def_reading.specs.Sequences.{Spelling, SpellsAll, SpellsRow}
use Rattle.dwz_def_reading.specs.Shared.{operands_of}
use Rattle.dwz_def_reading.proofs.StandLemmas.{operands_both}

-- from one place to another, each begins where the one before it ends, or behind, and has a byte
abbrev pub Stand : ℕ → List Operand → ℕ → Type 0
Stand from [] to = from ≤ to
Stand from (o ∷ operands) to = (from ≤ o.at) × (0 < o.width) × Stand (o.at + o.width) operands to

stand_lower : (a : List Operand) (from low to : ℕ) → low ≤ from → Stand from a to → Stand low a to
stand_lower [] from low to le h = omega (arith, le, h)
stand_lower (o ∷ a) from low to le h = (omega (arith, le, h.0), h.1, h.2)

stand_higher : (a : List Operand) (from to high : ℕ) → to ≤ high → Stand from a to → Stand from a high
stand_higher [] from to high le h = omega (arith, le, h)
stand_higher (o ∷ a) from to high le h = (h.0, h.1, stand_higher a (o.at + o.width) to high le h.2)

stand_both : (a b : List Operand) (from mid to : ℕ) → Stand from a mid → Stand mid b to → Stand from (a ++ b) to
stand_both [] b from mid to h k = stand_lower b mid from to h k
stand_both (o ∷ a) b from mid to h k = (h.0, h.1, stand_both a b (o.at + o.width) mid to h.2 k)

stand_front : (front a b : List Operand) (from to : ℕ) → ((low : ℕ) → Stand low a to → Stand low b to) → Stand from (front ++ a) to → Stand from (front ++ b) to
stand_front [] a b from to next h = next from h
stand_front (o ∷ front) a b from to next h = (h.0, h.1, stand_front front a b (o.at + o.width) to next h.2)

-- ---- fields

abbrev FoundStand : ℕ → List FieldItem → ℕ → Type 0
FoundStand from founds to = Stand from (operands_in founds) to

found_both : (a b : List FieldItem) (from mid to : ℕ) → FoundStand from a mid → FoundStand mid b to → FoundStand from (a ++ b) to
found_both a b from mid to h k = subst (λ (w : List Operand). Stand from w to) (sym (operands_both a b)) (stand_both (operands_in a) (operands_in b) from mid to h k)

no_found : (from to : ℕ) → from ≤ to → FoundStand from [] to
unfolding operands_in
no_found from to le = le

an_address_stands : (from to : ℕ) → from ≤ to → FoundStand from (AnAddress ∷ []) to
unfolding operands_in
an_address_stands from to le = le

operand_stands : (uleb : Bool) (base : Base) (start width number : ℕ) → 0 < width → FoundStand start (an_operand uleb base start width number) (start + width)
unfolding operands_in
operand_stands uleb base start width number some = (omega arith, some, omega arith)

holds_stands : (e : Expression) (from to : ℕ) → Stand from e.operands to → FoundStand from (Holds e ∷ []) to
unfolding operands_in
holds_stands e from to h = subst (λ (w : List Operand). Stand from w to) (sym (append-nil e.operands)) h

module _ (IsExpr : Spelling Expression) (inside : (e : Expression) (start : ℕ) (bytes : List ℕ) → IsExpr e start bytes → Stand start e.operands (start + length bytes)) where
  generic_stands : (start width number : ℕ) → 0 < width → FoundStand start (an_operand_or_generic start width number) (start + width)
  generic_stands start width number some = by (eqb number 0) where
    by : (b : Bool) → FoundStand start (cond b [] (an_operand true FromUnit start width number)) (start + width)
    by true = no_found start (start + width) (omega arith)
    by false = operand_stands true FromUnit start width number some

  field_stands : (field : Field) (founds : List FieldItem) (start : ℕ) (bytes : List ℕ) → SpellsField IsExpr field founds start bytes → FoundStand start founds (start + length bytes)
  field_stands (Run n) founds start bytes s = subst (λ (w : List FieldItem). FoundStand start w (start + length bytes)) (sym s.found) (no_found start (start + length bytes) (omega arith))
  field_stands Unsigned founds start bytes s = subst (λ (w : List FieldItem). FoundStand start w (start + length bytes)) (sym s.found) (no_found start (start + length bytes) (omega arith))
  field_stands Signed founds start bytes s = subst (λ (w : List FieldItem). FoundStand start w (start + length bytes)) (sym s.found) (no_found start (start + length bytes) (omega arith))
  field_stands Sized founds start bytes s = subst (λ (w : List FieldItem). FoundStand start w (start + length bytes)) (sym s.found) (no_found start (start + length bytes) (omega arith))
  field_stands Counted founds start bytes s = subst (λ (w : List FieldItem). FoundStand start w (start + length bytes)) (sym s.found) (no_found start (start + length bytes) (omega arith))
  field_stands Located founds start bytes s = subst (λ (w : List FieldItem). FoundStand start w (start + length bytes)) (sym s.found) (an_address_stands start (start + length bytes) (omega arith))
  field_stands LocatedBy founds start bytes s = subst (λ (w : List FieldItem). FoundStand start w (start + length bytes)) (sym s.found) (an_address_stands start (start + length bytes) (omega arith))
  field_stands (Entry4 base) founds start bytes s =
      let len = s.spelled.len in
      subst (λ (w : List FieldItem). FoundStand start w (start + length bytes)) (sym s.found) (operand_stands false base start (length bytes) s.value (omega (arith, len)))
  field_stands EntryUleb founds start bytes s = subst (λ (w : List FieldItem). FoundStand start w (start + length bytes)) (sym s.found)
      (operand_stands true FromUnit start (length bytes) s.value (some_uleb bytes s.value s.spelled))
  field_stands EntryOrGeneric founds start bytes s = subst (λ (w : List FieldItem). FoundStand start w (start + length bytes)) (sym s.found)
      (generic_stands start (length bytes) s.value (some_uleb bytes s.value s.spelled))
  field_stands Inside founds start bytes s =
      let len : start + length s.front + length s.content ≡ start + length bytes = omega (arith, ap length s.parts, length-append s.front s.content) in
      let deep = inside s.expression (start + length s.front) s.content s.is in
      subst (λ (w : List FieldItem). FoundStand start w (start + length bytes)) (sym s.found)
      (holds_stands s.expression start (start + length bytes) (stand_lower s.expression.operands (start + length s.front) start (start + length bytes) (omega arith)
      (subst (λ (n : ℕ). Stand (start + length s.front) s.expression.operands n) len deep)))

  fields_stand : (fields : List Field) (founds : List FieldItem) (start : ℕ) (bytes : List ℕ) → SpellsFields IsExpr fields founds start bytes → FoundStand start founds (start + length bytes)
  fields_stand [] founds start bytes s = subst (λ (w : List FieldItem). FoundStand start w (start + length bytes)) (sym s.0) (no_found start (start + length bytes) (omega arith))
  fields_stand (field ∷ fields) founds start bytes s =
      let p = s.both in
      let len : start + length p.first_bytes + length p.second_bytes ≡ start + length bytes = omega (arith, ap length p.parts, length-append p.first_bytes p.second_bytes) in
      let rest = fields_stand fields s.y (start + length p.first_bytes) p.second_bytes p.second in
      subst (λ (w : List FieldItem). FoundStand start w (start + length bytes)) (sym s.made)
      (found_both s.x s.y start (start + length p.first_bytes) (start + length bytes) (field_stands field s.x start p.first_bytes p.first)
      (subst (λ (n : ℕ). FoundStand (start + length p.first_bytes) s.y n) len rest))

-- ---- expressions and lists

-- what stands behind a code or a kind
behind_one : (founds : List FieldItem) (start code : ℕ) (bytes rest : List ℕ) → bytes ≡ code ∷ rest → FoundStand (start + 1) founds (start + 1 + length rest)
    → FoundStand start founds (start + length bytes)
behind_one founds start code bytes rest parts h =
    let len : start + 1 + length rest ≡ start + length bytes = omega (arith, ap length parts) in
    stand_lower (operands_in founds) (start + 1) start (start + length bytes) (omega arith) (subst (λ (n : ℕ). FoundStand (start + 1) founds n) len h)

ops_stand : (c : ExprContext) (IsExpr : Spelling Expression) → ((e : Expression) (start : ℕ) (bytes : List ℕ) → IsExpr e start bytes → Stand start e.operands (start + length bytes))
    → (ops : List (List FieldItem)) (start : ℕ) (bytes : List ℕ) → SpellsAll (SpellsOp c IsExpr) ops start bytes → FoundStand start (joined_items ops) (start + length bytes)
unfolding joined_items
ops_stand c IsExpr inside [] start bytes s = no_found start (start + length bytes) (omega arith)
ops_stand c IsExpr inside (op ∷ ops) start bytes s =
    let first = s.first in
    let len : start + length s.first_bytes + length s.second_bytes ≡ start + length bytes = omega (arith, ap length s.parts, length-append s.first_bytes s.second_bytes) in
    let rest = ops_stand c IsExpr inside ops (start + length s.first_bytes) s.second_bytes s.second in
    found_both op (joined_items ops) start (start + length s.first_bytes) (start + length bytes)
    (behind_one op start first.code s.first_bytes first.rest first.parts (fields_stand IsExpr inside first.fields op (start + 1) first.rest first.spelled))
    (subst (λ (n : ℕ). FoundStand (start + length s.first_bytes) (joined_items ops) n) len rest)

within_stands : (c : ExprContext) (k : ℕ) (e : Expression) (start : ℕ) (bytes : List ℕ) → SpellsWithin c k e start bytes → Stand start e.operands (start + length bytes)
within_stands c zero e start bytes s = absurd s
within_stands c (suc k) e start bytes s = subst (λ (w : Expression). Stand start w.operands (start + length bytes)) (sym s.made)
    (ops_stand c (SpellsWithin c k) (within_stands c k) s.ops start bytes s.spelled)

-- the operands of the expressions that are found
exprs_stand : (founds : List FieldItem) (from to : ℕ) → FoundStand from founds to → Stand from (operands_of (expressions_in founds)) to
unfolding operands_in expressions_in operands_of
exprs_stand [] from to h = h
exprs_stand (Names o ∷ founds) from to h = let at = h.0 in stand_lower (operands_of (expressions_in founds)) (o.at + o.width) from to (omega arith) (exprs_stand founds (o.at + o.width) to h.2)
exprs_stand (AnAddress ∷ founds) from to h = exprs_stand founds from to h
exprs_stand (Holds e ∷ founds) from to h = stand_front e.operands (operands_in founds) (operands_of (expressions_in founds)) from to (λ low g. exprs_stand founds low to g) h

row_stands : (c : ExprContext) (entries : List (List FieldItem)) (start : ℕ) (bytes : List ℕ) → SpellsRow (SpellsListEntry c) EndsList entries start bytes
    → FoundStand (start + 1) (joined_items entries) (start + length bytes)
unfolding joined_items
row_stands c [] start bytes s = no_found (start + 1) (start + length bytes) (let len = ap length s in omega arith)
row_stands c (e ∷ entries) start bytes s =
    let first = s.first in
    let len : start + length s.first_bytes + length s.second_bytes ≡ start + length bytes = omega (arith, ap length s.parts, length-append s.first_bytes s.second_bytes) in
    let one : start + 1 + length first.rest ≡ start + length s.first_bytes = omega (arith, ap length first.parts) in
    let here = fields_stand (SpellsExpr c) (within_stands c (suc most_inside)) first.fields e (start + 1) first.rest first.spelled in
    let rest = row_stands c entries (start + length s.first_bytes) s.second_bytes s.second in
    found_both e (joined_items entries) (start + 1) (start + length s.first_bytes) (start + length bytes)
    (subst (λ (n : ℕ). FoundStand (start + 1) e n) one here)
    (stand_lower (operands_in (joined_items entries)) (start + length s.first_bytes + 1) (start + length s.first_bytes) (start + length bytes) (omega arith)
    (subst (λ (n : ℕ). FoundStand (start + length s.first_bytes + 1) (joined_items entries) n) len rest))

pub list_stands : (c : ExprContext) (l : LocList) (start : ℕ) (bytes : List ℕ) → SpellsList c l start bytes → Stand (start + 1) (operands_of l.exprs) l.end
list_stands c l start bytes s =
    let end = s.end in
    subst (λ (n : ℕ). Stand (start + 1) (operands_of l.exprs) n) (sym end)
    (subst (λ (w : List Expression). Stand (start + 1) (operands_of w) (start + length bytes)) (sym s.exprs)
    (exprs_stand (joined_items s.entries) (start + 1) (start + length bytes) (row_stands c s.entries start bytes s.spelled)))
