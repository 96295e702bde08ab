-- Operands stand in order in the bytes of what they are operands of, and the bytes of each are its number in its width.
use Rattle.std.proofs.Common.{◌≡◌, ℕ, zero, suc, ◌+◌, ◌-◌, ◌*◌, ◌/◌, ◌%◌, ◌<◌, Bool, true, false, cond, eqb, List, [], ◌∷◌, ◌++◌, length, take, drop, refl, sym, ap, subst, ◌∙◌, arith, append_assoc}
use Rattle.std.proofs.Common.{append-nil}
use Rattle.std.proofs.lemmas.List.{drop_all, length-append}
use Rattle.dwz_bytes.specs.Spelling.{IsGroups, SpellsFixed, SpellsUleb, groups_value, le_bytes, le_value, padded}
use Rattle.dwz_bytes.proofs.PaddedLemmas.{some_groups}
use Rattle.dwz_model.specs.declared.place.Base.{Base}
use Rattle.dwz_model.specs.declared.place.Base.TheVariants.{Unit as FromUnit}
use Rattle.dwz_def_reading.specs.Values.{AreBytes}
use Rattle.dwz_def_reading.proofs.WrittenLemmas.{front_bytes}
use Rattle.dwz_def_reading.specs.declared.exprs.Operand.{Operand}
use Rattle.dwz_def_reading.specs.Exprs.{AnAddress, Counted, Entry4, EntryOrGeneric, EntryUleb, ExprContext, Expression, Field, FieldItem, Holds, Inside, Located, LocatedBy, Names, Run, Signed, Sized}
use Rattle.dwz_def_reading.specs.Exprs.{SpellsExpr, SpellsField, SpellsFields, SpellsOp, SpellsWithin, Unsigned, an_operand, an_operand_or_generic, joined_items, most_inside, operands_in}
use Rattle.dwz_def_reading.specs.LocLists.{EndsList, SpellsListEntry}
use Rattle.dwz_def_reading.specs.Patching.{number_in_width}
use Rattle.dwz_def_reading.specs.Sequences.{Spelling, SpellsAll, SpellsRow}
use Rattle.dwz_def_reading.proofs.CutLemmas.{Lie, lie_both, patch, patch_append}

-- ---- a number has one spelling in a width

le_again : (bytes : List ℕ) → AreBytes bytes → le_bytes (length bytes) (le_value bytes) ≡ bytes
unfolding le_bytes
le_again [] h = refl
le_again (b ∷ bytes) h =
    let low : (b + 256 * le_value bytes) % 256 ≡ b = omega (arith, h.0) in
    let rest : (b + 256 * le_value bytes) / 256 ≡ le_value bytes = omega (arith, h.0) in
    ap (λ (n : ℕ). n ∷ le_bytes (length bytes) ((b + 256 * le_value bytes) / 256)) low ∙ ap (λ (n : ℕ). b ∷ le_bytes (length bytes) n) rest ∙ ap (λ (w : List ℕ). b ∷ w) (le_again bytes h.1)

padded_again : (bytes : List ℕ) → IsGroups bytes → AreBytes bytes → padded (length bytes) (groups_value bytes) ≡ bytes
unfolding padded
padded_again [] is h = refl
padded_again (b ∷ []) is h = let low : (b % 128 + 128 * 0) % 128 ≡ b = omega (arith, is) in ap (λ (n : ℕ). n ∷ []) low
padded_again (b ∷ c ∷ bytes) is h =
    let others = groups_value (c ∷ bytes) in
    let low : (b % 128 + 128 * others) % 128 + 128 ≡ b = omega (arith, is.0, h.0) in
    let rest : (b % 128 + 128 * others) / 128 ≡ others = omega arith in
    ap (λ (n : ℕ). n ∷ padded (length (c ∷ bytes)) ((b % 128 + 128 * others) / 128)) low ∙ ap (λ (n : ℕ). b ∷ padded (length (c ∷ bytes)) n) rest
    ∙ ap (λ (w : List ℕ). b ∷ w) (padded_again (c ∷ bytes) is.1 h.1)

pub bytes_right : (a b : List ℕ) → AreBytes (a ++ b) → AreBytes b
bytes_right [] b h = h
bytes_right (n ∷ a) b h = bytes_right a b h.1

-- ---- operands in bytes

pub record Stand (start : ℕ) (bytes : List ℕ) (os : List Operand) : Type 0 where
  pub lie : Lie start (start + length bytes) os
  pub same : AreBytes bytes → patch start bytes os ≡ bytes

stand_none : (start : ℕ) (bytes : List ℕ) → Stand start bytes []
stand_none start bytes = record { lie = omega arith; same = λ h. refl }

pub stand_both : (start : ℕ) (bytes a b : List ℕ) (os ps : List Operand) → bytes ≡ a ++ b → Stand start a os → Stand (start + length a) b ps → Stand start bytes (os ++ ps)
stand_both start bytes a b os ps parts h k =
    let whole : Stand start (a ++ b) (os ++ ps) = record {
      lie = lie_both start (start + length a) (start + length (a ++ b)) os ps h.lie
          (let end : start + length a + length b ≡ start + length (a ++ b) = omega (arith, length-append a b) in subst (λ (n : ℕ). Lie (start + length a) n ps) end k.lie);
      same = λ are. patch_append start (start + length a + length b) a b os ps h.lie k.lie ∙ ap (λ (w : List ℕ). w ++ patch (start + length a) b ps) (h.same (front_bytes a b are))
          ∙ ap (λ (w : List ℕ). a ++ w) (k.same (bytes_right a b are));
    } in
    subst (λ (w : List ℕ). Stand start w (os ++ ps)) (sym parts) whole

-- an operand that has all bytes
stand_one : (uleb : Bool) (base : Base) (start n : ℕ) (bytes : List ℕ) → 0 < length bytes → (AreBytes bytes → number_in_width uleb (length bytes) n ≡ bytes)
    → Stand start bytes (record { at = start; width = length bytes; uleb = uleb; base = base; number = n } ∷ [])
stand_one uleb base start n bytes some again = record {
  lie = (omega arith, some, omega arith);
  same = λ are.
      let none : start - start ≡ 0 = omega arith in
      let all : drop (start + length bytes - start) bytes ≡ [] = drop_all (start + length bytes - start) bytes (omega arith) in
      ap (λ (k : ℕ). take k bytes ++ (number_in_width uleb (length bytes) n ++ drop (start + length bytes - start) bytes)) none
      ∙ ap (λ (w : List ℕ). number_in_width uleb (length bytes) n ++ w) all
      ∙ append-nil (number_in_width uleb (length bytes) n)
      ∙ again are;
}

-- ---- fields

pub operands_both : (a b : List FieldItem) → operands_in (a ++ b) ≡ operands_in a ++ operands_in b
unfolding operands_in
operands_both [] b = refl
operands_both (Names o ∷ a) b = ap (λ (w : List Operand). o ∷ w) (operands_both a b)
operands_both (AnAddress ∷ a) b = operands_both a b
operands_both (Holds e ∷ a) b = ap (λ (w : List Operand). e.operands ++ w) (operands_both a b) ∙ sym (append_assoc e.operands (operands_in a) (operands_in b))

abbrev pub FoundStand : ℕ → List ℕ → List FieldItem → Type 0
FoundStand start bytes founds = Stand start bytes (operands_in founds)

found_both : (start : ℕ) (bytes a b : List ℕ) (x y : List FieldItem) → bytes ≡ a ++ b → FoundStand start a x → FoundStand (start + length a) b y → FoundStand start bytes (x ++ y)
found_both start bytes a b x y parts h k = subst (λ (w : List Operand). Stand start bytes w) (sym (operands_both x y)) (stand_both start bytes a b (operands_in x) (operands_in y) parts h k)

no_found : (start : ℕ) (bytes : List ℕ) → FoundStand start bytes []
unfolding operands_in
no_found start bytes = stand_none start bytes

address_found : (start : ℕ) (bytes : List ℕ) → FoundStand start bytes (AnAddress ∷ [])
unfolding operands_in
address_found start bytes = stand_none start bytes

operand_found : (uleb : Bool) (base : Base) (start n : ℕ) (bytes : List ℕ) → 0 < length bytes → (AreBytes bytes → number_in_width uleb (length bytes) n ≡ bytes)
    → FoundStand start bytes (an_operand uleb base start (length bytes) n)
unfolding operands_in
operand_found uleb base start n bytes some again = stand_one uleb base start n bytes some again

fixed_found : (base : Base) (start n : ℕ) (bytes : List ℕ) → SpellsFixed 4 bytes n → FoundStand start bytes (an_operand false base start (length bytes) n)
fixed_found base start n bytes s =
    let len = s.len in
    operand_found false base start n bytes (omega (arith, len)) (λ are. ap (le_bytes (length bytes)) s.value ∙ le_again bytes are)

uleb_found : (start n : ℕ) (bytes : List ℕ) → SpellsUleb bytes n → FoundStand start bytes (an_operand true FromUnit start (length bytes) n)
uleb_found start n bytes s = operand_found true FromUnit start n bytes (some_groups bytes s.groups) (λ are. ap (padded (length bytes)) s.value ∙ padded_again bytes s.groups are)

generic_found : (start n : ℕ) (bytes : List ℕ) → SpellsUleb bytes n → FoundStand start bytes (an_operand_or_generic start (length bytes) n)
generic_found start n bytes s = by (eqb n 0) where
  by : (b : Bool) → FoundStand start bytes (cond b [] (an_operand true FromUnit start (length bytes) n))
  by true = no_found start bytes
  by false = uleb_found start n bytes s

holds_found : (start : ℕ) (bytes front content : List ℕ) (e : Expression) → bytes ≡ front ++ content → Stand (start + length front) content e.operands → FoundStand start bytes (Holds e ∷ [])
unfolding operands_in
holds_found start bytes front content e parts h = subst (λ (w : List Operand). Stand start bytes w) (sym (append-nil e.operands))
    (stand_both start bytes front content [] e.operands parts (stand_none start front) h)

module _ (IsExpr : Spelling Expression) (inside : (e : Expression) (start : ℕ) (bytes : List ℕ) → IsExpr e start bytes → Stand start bytes e.operands) where
  pub field_stands : (field : Field) (founds : List FieldItem) (start : ℕ) (bytes : List ℕ) → SpellsField IsExpr field founds start bytes → FoundStand start bytes founds
  field_stands (Run n) founds start bytes s = subst (FoundStand start bytes) (sym s.found) (no_found start bytes)
  field_stands Unsigned founds start bytes s = subst (FoundStand start bytes) (sym s.found) (no_found start bytes)
  field_stands Signed founds start bytes s = subst (FoundStand start bytes) (sym s.found) (no_found start bytes)
  field_stands Sized founds start bytes s = subst (FoundStand start bytes) (sym s.found) (no_found start bytes)
  field_stands Counted founds start bytes s = subst (FoundStand start bytes) (sym s.found) (no_found start bytes)
  field_stands Located founds start bytes s = subst (FoundStand start bytes) (sym s.found) (address_found start bytes)
  field_stands LocatedBy founds start bytes s = subst (FoundStand start bytes) (sym s.found) (address_found start bytes)
  field_stands (Entry4 base) founds start bytes s = subst (FoundStand start bytes) (sym s.found) (fixed_found base start s.value bytes s.spelled)
  field_stands EntryUleb founds start bytes s = subst (FoundStand start bytes) (sym s.found) (uleb_found start s.value bytes s.spelled)
  field_stands EntryOrGeneric founds start bytes s = subst (FoundStand start bytes) (sym s.found) (generic_found start s.value bytes s.spelled)
  field_stands Inside founds start bytes s = subst (FoundStand start bytes) (sym s.found)
      (holds_found start bytes s.front s.content s.expression s.parts (inside s.expression (start + length s.front) s.content s.is))

  pub fields_stand : (fields : List Field) (founds : List FieldItem) (start : ℕ) (bytes : List ℕ) → SpellsFields IsExpr fields founds start bytes → FoundStand start bytes founds
  fields_stand [] founds start bytes s = subst (FoundStand start bytes) (sym s.0) (no_found start bytes)
  fields_stand (field ∷ fields) founds start bytes s =
      let p = s.both in
      subst (FoundStand start bytes) (sym s.made) (found_both start bytes p.first_bytes p.second_bytes s.x s.y p.parts (field_stands field s.x start p.first_bytes p.first)
      (fields_stand fields s.y (start + length p.first_bytes) p.second_bytes p.second))

-- behind a code
behind_code : (start code : ℕ) (bytes rest : List ℕ) (founds : List FieldItem) → bytes ≡ code ∷ rest → FoundStand (start + 1) rest founds → FoundStand start bytes founds
behind_code start code bytes rest founds parts h = stand_both start bytes (code ∷ []) rest [] (operands_in founds) parts (stand_none start (code ∷ [])) h

-- ---- expressions and lists

pub op_stands : (c : ExprContext) (IsExpr : Spelling Expression) → ((e : Expression) (start : ℕ) (bytes : List ℕ) → IsExpr e start bytes → Stand start bytes e.operands)
    → (founds : List FieldItem) (start : ℕ) (bytes : List ℕ) → SpellsOp c IsExpr founds start bytes → FoundStand start bytes founds
op_stands c IsExpr inside founds start bytes s = behind_code start s.code bytes s.rest founds s.parts (fields_stand IsExpr inside s.fields founds (start + 1) s.rest s.spelled)

pub ops_stand : (c : ExprContext) (IsExpr : Spelling Expression) → ((e : Expression) (start : ℕ) (bytes : List ℕ) → IsExpr e start bytes → Stand start bytes e.operands)
    → (ops : List (List FieldItem)) (start : ℕ) (bytes : List ℕ) → SpellsAll (SpellsOp c IsExpr) ops start bytes → FoundStand start bytes (joined_items ops)
unfolding joined_items
ops_stand c IsExpr inside [] start bytes s = no_found start bytes
ops_stand c IsExpr inside (op ∷ ops) start bytes s =
    found_both start bytes s.first_bytes s.second_bytes op (joined_items ops) s.parts (op_stands c IsExpr inside op start s.first_bytes s.first)
    (ops_stand c IsExpr inside ops (start + length s.first_bytes) s.second_bytes s.second)

pub within_stands : (c : ExprContext) (k : ℕ) (e : Expression) (start : ℕ) (bytes : List ℕ) → SpellsWithin c k e start bytes → Stand start bytes e.operands
within_stands c zero e start bytes s = absurd s
within_stands c (suc k) e start bytes s = subst (λ (w : Expression). Stand start bytes w.operands) (sym s.made) (ops_stand c (SpellsWithin c k) (within_stands c k) s.ops start bytes s.spelled)

pub entry_stands : (c : ExprContext) (founds : List FieldItem) (start : ℕ) (bytes : List ℕ) → SpellsListEntry c founds start bytes → FoundStand start bytes founds
entry_stands c founds start bytes s = behind_code start s.kind bytes s.rest founds s.parts
    (fields_stand (SpellsExpr c) (within_stands c (suc most_inside)) s.fields founds (start + 1) s.rest s.spelled)

pub row_stands : (c : ExprContext) (entries : List (List FieldItem)) (start : ℕ) (bytes : List ℕ) → SpellsRow (SpellsListEntry c) EndsList entries start bytes
    → FoundStand start bytes (joined_items entries)
unfolding joined_items
row_stands c [] start bytes s = no_found start bytes
row_stands c (e ∷ entries) start bytes s =
    found_both start bytes s.first_bytes s.second_bytes e (joined_items entries) s.parts (entry_stands c e start s.first_bytes s.first)
    (row_stands c entries (start + length s.first_bytes) s.second_bytes s.second)
