-- The number of an operand of a location list is the one that stands at its place, so operands at one place have one number.
use Rattle.std.proofs.Common.{◌≡◌, ℕ, zero, suc, ◌+◌, ◌-◌, ◌<◌, ◌≤◌, Bool, true, false, cond, eqb, List, [], ◌∷◌, ◌++◌, length, take, drop, sym, ap, subst, ◌∙◌, inl, inr, arith, append-nil}
use Rattle.std.proofs.lemmas.List.{drop-append-le, length-append, length-drop, take-append-le, take_all}
use Rattle.std.proofs.Math.Seq.{drop-append-add}
use Rattle.dwz_def_reading.specs.Spelling.{SpellsUleb, groups_value, le_value}
use Rattle.dwz_model.specs.declared.place.Base.{Base}
use Rattle.dwz_model.specs.declared.place.Base.TheVariants.{Unit as FromUnit}
use Rattle.dwz_def_reading.specs.Lists.{In}
use Rattle.dwz_def_reading.specs.declared.exprs.Operand.{Operand}
use Rattle.dwz_def_reading.specs.Exprs.{AnAddress, Counted, Entry4, EntryOrGeneric, EntryUleb, ExprContext, Expression, Field, FieldItem, Holds, Inside, Located, LocatedBy, Run, Signed, Sized}
use Rattle.dwz_def_reading.specs.Exprs.{SpellsExpr}
use Rattle.dwz_def_reading.specs.Exprs.{SpellsField, SpellsFields, SpellsOp, SpellsWithin, Unsigned, an_operand, an_operand_or_generic, joined_items, most_inside, operands_in}
use Rattle.dwz_def_reading.specs.LocLists.{EndsList, LocList, SpellsList, SpellsListEntry}
use Rattle.dwz_def_reading.specs.Sequences.{Spelling, SpellsAll, SpellsRow, StandsFrom}
use Rattle.dwz_def_reading.specs.Shared.{operands_of}
use Rattle.dwz_def_reading.proofs.CutLemmas.{Lie, lie_le}
use Rattle.dwz_def_reading.proofs.ListKindLemmas.{row_only, same_operands}
use Rattle.dwz_def_reading.proofs.StandLemmas.{FoundStand, Stand, field_stands, fields_stand, op_stands, operands_both, ops_stand, row_stands, entry_stands, within_stands}

abbrev pub value_of : Bool → List ℕ → ℕ
value_of true bytes = groups_value bytes
value_of false bytes = le_value bytes

-- the number stands at the operand's place
abbrev pub IsRead : ℕ → List ℕ → Operand → Type 0
IsRead start bytes o = o.number ≡ value_of o.uleb (take o.width (drop (o.at - start) bytes))

abbrev pub AreRead : ℕ → List ℕ → List Operand → Type 0
AreRead start bytes [] = Unit {0}
AreRead start bytes (o ∷ os) = IsRead start bytes o × AreRead start bytes os

-- more bytes behind
read_left : (start end : ℕ) (a b : List ℕ) (os : List Operand) → start ≤ end → Lie end (start + length a) os → AreRead start a os → AreRead start (a ++ b) os
read_left start end a b [] le h r = tt
read_left start end a b (o ∷ os) le h r =
    let last = lie_le (o.at + o.width) (start + length a) os h.2 in
    let within : o.at - start ≤ length a = omega (arith, last, h.0, le) in
    let dropped : drop (o.at - start) (a ++ b) ≡ drop (o.at - start) a ++ b = drop-append-le (o.at - start) a b within in
    let taken : take o.width (drop (o.at - start) a ++ b) ≡ take o.width (drop (o.at - start) a) = take-append-le o.width (drop (o.at - start) a) b (omega (
      arith,
      length-drop
          (o.at - start) a,
      last,
      h.0,
      le,
    )) in
    (r.0 ∙ ap (value_of o.uleb) (sym (ap (take o.width) dropped ∙ taken)), read_left start (o.at + o.width) a b os (omega (arith, h.0, le)) h.2 r.1)

-- more bytes before
read_right : (start at : ℕ) (a b : List ℕ) (os : List Operand) → (end : ℕ) → start + length a ≤ at → Lie at end os → AreRead (start + length a) b os → AreRead start (a ++ b) os
read_right start at a b [] end le h r = tt
read_right start at a b (o ∷ os) end le h r =
    let place : o.at - start ≡ length a + (o.at - (start + length a)) = omega (arith, h.0, le) in
    let dropped : drop (o.at - start) (a ++ b) ≡ drop (o.at - (start + length a)) b = ap (λ (n : ℕ). drop n (a ++ b)) place ∙ drop-append-add a b (o.at - (start + length a)) in
    (r.0 ∙ ap (λ (w : List ℕ). value_of o.uleb (take o.width w)) (sym dropped), read_right start (o.at + o.width) a b os end (omega (arith, h.0, le)) h.2 r.1)

join_read : (start : ℕ) (bytes : List ℕ) (os ps : List Operand) → AreRead start bytes os → AreRead start bytes ps → AreRead start bytes (os ++ ps)
join_read start bytes [] ps r q = q
join_read start bytes (o ∷ os) ps r q = (r.0, join_read start bytes os ps r.1 q)

read_both : (start : ℕ) (bytes a b : List ℕ) (os ps : List Operand) → bytes ≡ a ++ b → Stand start a os → AreRead start a os → Stand (start + length a) b ps → AreRead (start + length a) b ps
    → AreRead start bytes (os ++ ps)
read_both start bytes a b os ps parts h r k q =
    subst (λ (w : List ℕ). AreRead start w (os ++ ps)) (sym parts)
    (join_read start (a ++ b) os ps (read_left start start a b os (omega arith) h.lie r) (read_right start (start + length a) a b ps (start + length a + length b) (omega arith) k.lie q))

abbrev pub FoundRead : ℕ → List ℕ → List FieldItem → Type 0
FoundRead start bytes founds = AreRead start bytes (operands_in founds)

found_both : (start : ℕ) (bytes a b : List ℕ) (x y : List FieldItem) → bytes ≡ a ++ b → FoundStand start a x → FoundRead start a x → FoundStand (start + length a) b y
    → FoundRead (start + length a) b y
    → FoundRead start bytes (x ++ y)
found_both start bytes a b x y parts h r k q = subst (λ (w : List Operand). AreRead start bytes w) (sym (operands_both x y)) (read_both start bytes a b (operands_in x) (operands_in y) parts h r k q)

no_found : (start : ℕ) (bytes : List ℕ) → FoundRead start bytes []
unfolding operands_in
no_found start bytes = tt

address_found : (start : ℕ) (bytes : List ℕ) → FoundRead start bytes (AnAddress ∷ [])
unfolding operands_in
address_found start bytes = tt

-- all bytes
whole : (start : ℕ) (bytes : List ℕ) → take (length bytes) (drop (start - start) bytes) ≡ bytes
whole start bytes = let none : start - start ≡ 0 = omega arith in ap (λ (n : ℕ). take (length bytes) (drop n bytes)) none ∙ take_all (length bytes) bytes (omega arith)

operand_found : (uleb : Bool) (base : Base) (start n : ℕ) (bytes : List ℕ) → n ≡ value_of uleb bytes → FoundRead start bytes (an_operand uleb base start (length bytes) n)
unfolding operands_in
operand_found uleb base start n bytes e = (e ∙ ap (value_of uleb) (sym (whole start bytes)), tt)

generic_found : (start n : ℕ) (bytes : List ℕ) → SpellsUleb bytes n → FoundRead start bytes (an_operand_or_generic start (length bytes) n)
generic_found start n bytes s = by (eqb n 0) where
  by : (b : Bool) → FoundRead start bytes (cond b [] (an_operand true FromUnit start (length bytes) n))
  by true = no_found start bytes
  by false = operand_found true FromUnit start n bytes s.value

lie_from_here : (start : ℕ) (bytes front content : List ℕ) (e : Expression) → bytes ≡ front ++ content → Stand (start + length front) content e.operands
    → AreRead (start + length front) content e.operands → FoundRead start bytes (Holds e ∷ [])
unfolding operands_in
lie_from_here start bytes front content e parts h r =
    subst (λ (w : List Operand). AreRead start bytes w) (sym (append-nil e.operands))
    (subst (λ (w : List ℕ). AreRead start w e.operands) (sym parts) (read_right start (start + length front) front content e.operands (start + length front + length content) (omega arith) h.lie r))

module _ (IsExpr : Spelling Expression) (inside : (e : Expression) (start : ℕ) (bytes : List ℕ) → IsExpr e start bytes → Stand start bytes e.operands)
    (reads : (e : Expression) (start : ℕ) (bytes : List ℕ) → IsExpr e start bytes → AreRead start bytes e.operands) where
  field_reads : (field : Field) (founds : List FieldItem) (start : ℕ) (bytes : List ℕ) → SpellsField IsExpr field founds start bytes → FoundRead start bytes founds
  field_reads (Run n) founds start bytes s = subst (FoundRead start bytes) (sym s.found) (no_found start bytes)
  field_reads Unsigned founds start bytes s = subst (FoundRead start bytes) (sym s.found) (no_found start bytes)
  field_reads Signed founds start bytes s = subst (FoundRead start bytes) (sym s.found) (no_found start bytes)
  field_reads Sized founds start bytes s = subst (FoundRead start bytes) (sym s.found) (no_found start bytes)
  field_reads Counted founds start bytes s = subst (FoundRead start bytes) (sym s.found) (no_found start bytes)
  field_reads Located founds start bytes s = subst (FoundRead start bytes) (sym s.found) (address_found start bytes)
  field_reads LocatedBy founds start bytes s = subst (FoundRead start bytes) (sym s.found) (address_found start bytes)
  field_reads (Entry4 base) founds start bytes s = subst (FoundRead start bytes) (sym s.found) (operand_found false base start s.value bytes s.spelled.value)
  field_reads EntryUleb founds start bytes s = subst (FoundRead start bytes) (sym s.found) (operand_found true FromUnit start s.value bytes s.spelled.value)
  field_reads EntryOrGeneric founds start bytes s = subst (FoundRead start bytes) (sym s.found) (generic_found start s.value bytes s.spelled)
  field_reads Inside founds start bytes s =
      subst (FoundRead start bytes) (sym s.found)
      (lie_from_here start bytes s.front s.content s.expression s.parts (inside s.expression (start + length s.front) s.content s.is) (reads s.expression (start + length s.front) s.content s.is))

  fields_read : (fields : List Field) (founds : List FieldItem) (start : ℕ) (bytes : List ℕ) → SpellsFields IsExpr fields founds start bytes → FoundRead start bytes founds
  fields_read [] founds start bytes s = subst (FoundRead start bytes) (sym s.0) (no_found start bytes)
  fields_read (field ∷ fields) founds start bytes s =
      let p = s.both in
      let more = start + length p.first_bytes in
      subst (FoundRead start bytes) (sym s.made)
      (found_both start bytes p.first_bytes p.second_bytes s.x s.y p.parts
      (field_stands IsExpr inside field s.x start p.first_bytes p.first) (field_reads field s.x start p.first_bytes p.first)
      (fields_stand IsExpr inside fields s.y more p.second_bytes p.second) (fields_read fields s.y more p.second_bytes p.second))

-- behind a code
behind_code : (start code : ℕ) (bytes rest : List ℕ) (founds : List FieldItem) → bytes ≡ code ∷ rest → FoundStand (start + 1) rest founds → FoundRead (start + 1) rest founds
    → FoundRead start bytes founds
behind_code start code bytes rest founds parts h r =
    subst (λ (w : List ℕ). AreRead start w (operands_in founds)) (sym parts)
    (read_right start (start + 1) (code ∷ []) rest (operands_in founds) (start + 1 + length rest) (omega arith) h.lie r)

module _ (c : ExprContext) (IsExpr : Spelling Expression) (inside : (e : Expression) (start : ℕ) (bytes : List ℕ) → IsExpr e start bytes → Stand start bytes e.operands)
    (reads : (e : Expression) (start : ℕ) (bytes : List ℕ) → IsExpr e start bytes → AreRead start bytes e.operands) where
  ops_read : (ops : List (List FieldItem)) (start : ℕ) (bytes : List ℕ) → SpellsAll (SpellsOp c IsExpr) ops start bytes → FoundRead start bytes (joined_items ops)
  unfolding joined_items
  ops_read [] start bytes s = no_found start bytes
  ops_read (op ∷ ops) start bytes s =
      let o = s.first in
      let more = start + length s.first_bytes in
      found_both start bytes s.first_bytes s.second_bytes op (joined_items ops) s.parts
      (op_stands c IsExpr inside op start s.first_bytes s.first)
      (behind_code start o.code s.first_bytes o.rest op o.parts (fields_stand IsExpr inside o.fields op (start + 1) o.rest o.spelled) (fields_read IsExpr inside reads o.fields op
      (start + 1) o.rest o.spelled))
      (ops_stand c IsExpr inside ops more s.second_bytes s.second) (ops_read ops more s.second_bytes s.second)

pub within_reads : (c : ExprContext) (k : ℕ) (e : Expression) (start : ℕ) (bytes : List ℕ) → SpellsWithin c k e start bytes → AreRead start bytes e.operands
within_reads c zero e start bytes s = absurd s
within_reads c (suc k) e start bytes s = subst (λ (w : Expression). AreRead start bytes w.operands) (sym s.made) (ops_read c (SpellsWithin c k) (within_stands c k)
    (within_reads c k) s.ops start bytes s.spelled)

entry_reads : (c : ExprContext) (founds : List FieldItem) (start : ℕ) (bytes : List ℕ) → SpellsListEntry c founds start bytes → FoundRead start bytes founds
entry_reads c founds start bytes s =
    let inside = within_stands c (suc most_inside) in
    behind_code start s.kind bytes s.rest founds s.parts (fields_stand (SpellsExpr c) inside s.fields founds (start + 1) s.rest s.spelled)
    (fields_read (SpellsExpr c) inside (within_reads c (suc most_inside)) s.fields founds (start + 1) s.rest s.spelled)

row_reads : (c : ExprContext) (entries : List (List FieldItem)) (start : ℕ) (bytes : List ℕ) → SpellsRow (SpellsListEntry c) EndsList entries start bytes → FoundRead start bytes (joined_items entries)
unfolding joined_items
row_reads c [] start bytes s = no_found start bytes
row_reads c (e ∷ entries) start bytes s =
    let more = start + length s.first_bytes in
    found_both start bytes s.first_bytes s.second_bytes e (joined_items entries) s.parts
    (entry_stands c e start s.first_bytes s.first) (entry_reads c e start s.first_bytes s.first)
    (row_stands c entries more s.second_bytes s.second) (row_reads c entries more s.second_bytes s.second)

-- ---- a list that stands in a section

each_read : (start : ℕ) (bytes : List ℕ) (os : List Operand) → AreRead start bytes os → (o : Operand) → In o os → IsRead start bytes o
each_read start bytes [] r o there = absurd there
each_read start bytes (p ∷ os) r o (inl same) = subst (IsRead start bytes) same r.0
each_read start bytes (p ∷ os) r o (inr later) = each_read start bytes os r.1 o later

-- where an operand is that lies in order
pub record IsWithin (start end : ℕ) (o : Operand) : Type 0 where
  pub from : start ≤ o.at
  pub some : 0 < o.width
  pub to : o.at + o.width ≤ end

pub lies_within : (at end : ℕ) (os : List Operand) → Lie at end os → (o : Operand) → In o os → IsWithin at end o
lies_within at end [] h o there = absurd there
lies_within at end (p ∷ os) h o (inl same) =
    let last = lie_le (p.at + p.width) end os h.2 in
    subst (IsWithin at end) same (record { from = h.0; some = h.1; to = last })
lies_within at end (p ∷ os) h o (inr later) =
    let w = lies_within (p.at + p.width) end os h.2 o later in
    let first = h.0 in
    let from = w.from in
    record { from = omega (arith, first, from); some = w.some; to = w.to }

module _ (c : ExprContext) (section : List ℕ) (place : ℕ) (l : LocList) (s : StandsFrom (SpellsList c) section place l) where
  same : operands_in (joined_items s.spelled.entries) ≡ operands_of l.exprs
  same = same_operands c (joined_items s.spelled.entries) (row_only c s.spelled.entries place s.front s.spelled.spelled) ∙ ap operands_of (sym s.spelled.exprs)

  lie : Lie place (place + length s.front) (operands_of l.exprs)
  lie = subst (Lie place (place + length s.front)) same (row_stands c s.spelled.entries place s.front s.spelled.spelled).lie

  read : AreRead place s.front (operands_of l.exprs)
  read = subst (AreRead place s.front) same (row_reads c s.spelled.entries place s.front s.spelled.spelled)

  front_ends : place + length s.front ≤ length section
  front_ends = omega (arith, s.length_before, ap length s.parts, length-append s.before (s.front ++ s.after), length-append s.front s.after)

  -- each of its operands ends in the section
  pub operand_within : (o : Operand) → In o (operands_of l.exprs) → IsWithin place (length section) o
  operand_within o there =
      let w = lies_within place (place + length s.front) (operands_of l.exprs) lie o there in
      let to = w.to in
      record { from = w.from; some = w.some; to = omega (arith, to, front_ends) }

  -- and its number is the one that stands there
  pub number_stands : (o : Operand) → In o (operands_of l.exprs) → o.number ≡ value_of o.uleb (take o.width (drop o.at section))
  number_stands o there =
      let w = lies_within place (place + length s.front) (operands_of l.exprs) lie o there in
      let from = w.from in
      let to = w.to in
      let r = each_read place s.front (operands_of l.exprs) read o there in
      let at : o.at ≡ length s.before + (o.at - place) = omega (arith, from, s.length_before) in
      let behind : drop o.at section ≡ drop (o.at - place) (s.front ++ s.after) =
      ap (drop o.at) s.parts ∙ ap (λ (n : ℕ). drop n (s.before ++ (s.front ++ s.after))) at ∙ drop-append-add s.before (s.front ++ s.after) (o.at - place) in
      let inner : drop (o.at - place) (s.front ++ s.after) ≡ drop (o.at - place) s.front ++ s.after = drop-append-le (o.at - place) s.front s.after (omega (arith, from, to)) in
      let taken : take o.width (drop (o.at - place) s.front ++ s.after) ≡ take o.width (drop (o.at - place) s.front) =
      take-append-le o.width (drop (o.at - place) s.front) s.after (omega (arith, length-drop (o.at - place) s.front, from, to)) in
      r ∙ ap (value_of o.uleb) (sym (ap (take o.width) (behind ∙ inner) ∙ taken))
