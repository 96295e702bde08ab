-- Operands of a location list that is read name entries, and the bytes of each are its number: so two at one place have one number.
use Rattle.std.proofs.Common.{◌≡◌, ℕ, zero, suc, ◌+◌, Bool, true, false, cond, eqb, List, [], ◌∷◌, ◌++◌, length, take, drop, sym, ap, subst, ◌∙◌, inl, inr}
use Rattle.std.proofs.lemmas.List.{append_assoc, drop_at, length-append}
use Rattle.std.proofs.Math.Seq.{take-append_seam}
use Rattle.dwz_def_reading.specs.Spelling.{groups_value, le_value}
use Rattle.dwz_model.specs.declared.place.Base.{Base}
use Rattle.dwz_model.specs.declared.place.Base.TheVariants.{Unit as FromUnit}
use Rattle.dwz_def_reading.specs.Lists.{In}
use Rattle.dwz_def_reading.specs.declared.exprs.Operand.{Operand}
use Rattle.dwz_def_reading.specs.Exprs.{AnAddress, AreNamed, Counted, Entry4, EntryOrGeneric, EntryUleb, ExprContext, Expression, Field, FieldItem, Holds, Inside, Located, LocatedBy, Names, Run}
use Rattle.dwz_def_reading.specs.Exprs.{Signed}
use Rattle.dwz_def_reading.specs.Exprs.{Sized, SpellsExpr, SpellsField, SpellsFields, SpellsOp, SpellsWithin, Unsigned, an_operand, an_operand_or_generic, expressions_in, joined_items, most_inside}
use Rattle.dwz_def_reading.specs.Exprs.{operands_in}
use Rattle.dwz_def_reading.specs.LocLists.{EndsList, LocList, SpellsList, SpellsListEntry}
use Rattle.dwz_def_reading.specs.Sequences.{Spelling, SpellsAll, SpellsRow, StandsFrom}
use Rattle.dwz_def_reading.specs.Shared.{operands_of}
use Rattle.dwz_def_reading.proofs.StandLemmas.{operands_both}

-- ---- in a section

-- these bytes stand there
record Lies (section : List ℕ) (start : ℕ) (bytes : List ℕ) : Type 0 where
  before : List ℕ
  after : List ℕ
  is : section ≡ before ++ (bytes ++ after)
  many : length before ≡ start

pub value_of : Bool → List ℕ → ℕ
value_of true bytes = groups_value bytes
value_of false bytes = le_value bytes

module _ (section : List ℕ) where
  lies_first : (start : ℕ) (bytes a b : List ℕ) → bytes ≡ a ++ b → Lies section start bytes → Lies section start a
  lies_first start bytes a b parts h = record {
    before = h.before;
    after = b ++ h.after;
    is = h.is ∙ ap (λ (w : List ℕ). h.before ++ (w ++ h.after)) parts ∙ ap (λ (w : List ℕ). h.before ++ w) (append_assoc a b h.after);
    many = h.many;
  }

  lies_second : (start : ℕ) (bytes a b : List ℕ) → bytes ≡ a ++ b → Lies section start bytes → Lies section (start + length a) b
  lies_second start bytes a b parts h = record {
    before = h.before ++ a;
    after = h.after;
    is = h.is ∙ ap (λ (w : List ℕ). h.before ++ (w ++ h.after)) parts ∙ ap (λ (w : List ℕ). h.before ++ w) (append_assoc a b h.after) ∙ sym (append_assoc h.before a (b ++ h.after));
    many = length-append h.before a ∙ ap (λ (n : ℕ). n + length a) h.many;
  }

  lies_bytes : (start : ℕ) (bytes : List ℕ) → Lies section start bytes → take (length bytes) (drop start section) ≡ bytes
  lies_bytes start bytes h =
      ap (λ (w : List ℕ). take (length bytes) w) (ap (drop start) h.is ∙ drop_at h.before (bytes ++ h.after) start h.many) ∙ take-append_seam bytes h.after

  -- its bytes are its number
  abbrev pub HasNumber : Operand → Type 0
  HasNumber o = o.number ≡ value_of o.uleb (take o.width (drop o.at section))

  abbrev Numbered : List Operand → Type 0
  Numbered [] = Unit {0}
  Numbered (o ∷ os) = HasNumber o × Numbered os

  both_numbered : (a b : List Operand) → Numbered a → Numbered b → Numbered (a ++ b)
  both_numbered [] b h k = k
  both_numbered (o ∷ a) b h k = (h.0, both_numbered a b h.1 k)

  -- ---- fields

  abbrev FoundNumbered : List FieldItem → Type 0
  FoundNumbered founds = Numbered (operands_in founds)

  found_both : (a b : List FieldItem) → FoundNumbered a → FoundNumbered b → FoundNumbered (a ++ b)
  found_both a b h k = subst Numbered (sym (operands_both a b)) (both_numbered (operands_in a) (operands_in b) h k)

  no_found : FoundNumbered []
  unfolding operands_in
  no_found = tt

  an_address_numbered : FoundNumbered (AnAddress ∷ [])
  unfolding operands_in
  an_address_numbered = tt

  operand_numbered : (uleb : Bool) (base : Base) (start number : ℕ) (bytes : List ℕ) → Lies section start bytes → number ≡ value_of uleb bytes
      → FoundNumbered (an_operand uleb base start (length bytes) number)
  unfolding operands_in
  operand_numbered uleb base start number bytes lies e = (e ∙ ap (value_of uleb) (sym (lies_bytes start bytes lies)), tt)

  holds_numbered : (e : Expression) → Numbered e.operands → FoundNumbered (Holds e ∷ [])
  unfolding operands_in
  holds_numbered e h = both_numbered e.operands [] h tt

  module _ (IsExpr : Spelling Expression) (inside : (e : Expression) (start : ℕ) (bytes : List ℕ) → Lies section start bytes → IsExpr e start bytes → Numbered e.operands) where
    generic_numbered : (start number : ℕ) (bytes : List ℕ) → Lies section start bytes → number ≡ groups_value bytes → FoundNumbered (an_operand_or_generic start (length bytes) number)
    unfolding value_of
    generic_numbered start number bytes lies e = by (eqb number 0) where
      by : (b : Bool) → FoundNumbered (cond b [] (an_operand true FromUnit start (length bytes) number))
      by true = no_found
      by false = operand_numbered true FromUnit start number bytes lies e

    field_numbered : (field : Field) (founds : List FieldItem) (start : ℕ) (bytes : List ℕ) → Lies section start bytes → SpellsField IsExpr field founds start bytes → FoundNumbered founds
    unfolding value_of
    field_numbered (Run n) founds start bytes lies s = subst FoundNumbered (sym s.found) no_found
    field_numbered Unsigned founds start bytes lies s = subst FoundNumbered (sym s.found) no_found
    field_numbered Signed founds start bytes lies s = subst FoundNumbered (sym s.found) no_found
    field_numbered Sized founds start bytes lies s = subst FoundNumbered (sym s.found) no_found
    field_numbered Counted founds start bytes lies s = subst FoundNumbered (sym s.found) no_found
    field_numbered Located founds start bytes lies s = subst FoundNumbered (sym s.found) an_address_numbered
    field_numbered LocatedBy founds start bytes lies s = subst FoundNumbered (sym s.found) an_address_numbered
    field_numbered (Entry4 base) founds start bytes lies s = subst FoundNumbered (sym s.found) (operand_numbered false base start s.value bytes lies s.spelled.value)
    field_numbered EntryUleb founds start bytes lies s = subst FoundNumbered (sym s.found) (operand_numbered true FromUnit start s.value bytes lies s.spelled.value)
    field_numbered EntryOrGeneric founds start bytes lies s = subst FoundNumbered (sym s.found) (generic_numbered start s.value bytes lies s.spelled.value)
    field_numbered Inside founds start bytes lies s = subst FoundNumbered (sym s.found)
        (holds_numbered s.expression (inside s.expression (start + length s.front) s.content (lies_second start bytes s.front s.content s.parts lies) s.is))

    fields_numbered : (fields : List Field) (founds : List FieldItem) (start : ℕ) (bytes : List ℕ) → Lies section start bytes → SpellsFields IsExpr fields founds start bytes → FoundNumbered founds
    fields_numbered [] founds start bytes lies s = subst FoundNumbered (sym s.0) no_found
    fields_numbered (field ∷ fields) founds start bytes lies s =
        let p = s.both in
        subst FoundNumbered (sym s.made) (found_both s.x s.y
        (field_numbered field s.x start p.first_bytes (lies_first start bytes p.first_bytes p.second_bytes p.parts lies) p.first)
        (fields_numbered fields s.y (start + length p.first_bytes) p.second_bytes (lies_second start bytes p.first_bytes p.second_bytes p.parts lies) p.second))

  -- ---- expressions

  behind_code : (start code : ℕ) (bytes rest : List ℕ) → bytes ≡ code ∷ rest → Lies section start bytes → Lies section (start + 1) rest
  behind_code start code bytes rest parts lies = lies_second start bytes (code ∷ []) rest parts lies

  ops_numbered : (c : ExprContext) (IsExpr : Spelling Expression) → ((e : Expression) (start : ℕ) (bytes : List ℕ) → Lies section start bytes → IsExpr e start bytes → Numbered e.operands)
      → (ops : List (List FieldItem)) (start : ℕ) (bytes : List ℕ) → Lies section start bytes → SpellsAll (SpellsOp c IsExpr) ops start bytes → FoundNumbered (joined_items ops)
  unfolding joined_items
  ops_numbered c IsExpr inside [] start bytes lies s = no_found
  ops_numbered c IsExpr inside (op ∷ ops) start bytes lies s =
      let first = s.first in
      found_both op (joined_items ops)
      (fields_numbered IsExpr inside first.fields op (start + 1) first.rest
      (behind_code start first.code s.first_bytes first.rest first.parts (lies_first start bytes s.first_bytes s.second_bytes s.parts lies)) first.spelled)
      (ops_numbered c IsExpr inside ops (start + length s.first_bytes) s.second_bytes (lies_second start bytes s.first_bytes s.second_bytes s.parts lies) s.second)

  within_numbered : (c : ExprContext) (k : ℕ) (e : Expression) (start : ℕ) (bytes : List ℕ) → Lies section start bytes → SpellsWithin c k e start bytes → Numbered e.operands
  within_numbered c zero e start bytes lies s = absurd s
  within_numbered c (suc k) e start bytes lies s = subst (λ (w : Expression). Numbered w.operands) (sym s.made)
      (ops_numbered c (SpellsWithin c k) (within_numbered c k) s.ops start bytes lies s.spelled)

  -- each operand of an expression names an entry
  named_both : (names : Operand → Bool) (a b : List Operand) → AreNamed names a → AreNamed names b → AreNamed names (a ++ b)
  named_both names [] b h k = k
  named_both names (o ∷ a) b h k = (h.0, named_both names a b h.1 k)

  ops_named : (c : ExprContext) (IsExpr : Spelling Expression) (ops : List (List FieldItem)) (start : ℕ) (bytes : List ℕ) → SpellsAll (SpellsOp c IsExpr) ops start bytes
      → AreNamed c.names (operands_in (joined_items ops))
  unfolding joined_items operands_in
  ops_named c IsExpr [] start bytes is = tt
  ops_named c IsExpr (x ∷ ops) start bytes is =
      subst (AreNamed c.names) (sym (operands_both x (joined_items ops))) (named_both c.names (operands_in x) (operands_in (joined_items ops)) is.first.named
      (ops_named c IsExpr ops (start + length is.first_bytes) is.second_bytes is.second))

  -- ---- location lists

  module _ (c : ExprContext) where
    abbrev Good : List Operand → Type 0
    Good os = AreNamed c.names os × Numbered os

    good_both : (a b : List Operand) → Good a → Good b → Good (a ++ b)
    good_both a b h k = (named_both c.names a b h.0 k.0, both_numbered a b h.1 k.1)

    expr_good : (e : Expression) (start : ℕ) (bytes : List ℕ) → Lies section start bytes → SpellsExpr c e start bytes → Good e.operands
    expr_good e start bytes lies is = (
      subst (λ (x : Expression). AreNamed c.names x.operands) (sym is.made) (ops_named c (SpellsWithin c most_inside) is.ops start bytes is.spelled),
      within_numbered c (suc most_inside) e start bytes lies is,
    )

    -- so do those of the expressions that are held
    abbrev HoldGood : List FieldItem → Type 0
    HoldGood [] = Unit {0}
    HoldGood (Names o ∷ founds) = HoldGood founds
    HoldGood (AnAddress ∷ founds) = HoldGood founds
    HoldGood (Holds e ∷ founds) = Good e.operands × HoldGood founds

    both_held : (a b : List FieldItem) → HoldGood a → HoldGood b → HoldGood (a ++ b)
    both_held [] b h k = k
    both_held (Names o ∷ a) b h k = both_held a b h k
    both_held (AnAddress ∷ a) b h k = both_held a b h k
    both_held (Holds e ∷ a) b h k = (h.0, both_held a b h.1 k)

    exprs_good : (founds : List FieldItem) → HoldGood founds → Good (operands_of (expressions_in founds))
    unfolding expressions_in operands_of
    exprs_good [] h = (tt, tt)
    exprs_good (Names o ∷ founds) h = exprs_good founds h
    exprs_good (AnAddress ∷ founds) h = exprs_good founds h
    exprs_good (Holds e ∷ founds) h = good_both e.operands (operands_of (expressions_in founds)) h.0 (exprs_good founds h.1)

    generic_held : (b : Bool) (o : Operand) → HoldGood (cond b [] (Names o ∷ []))
    generic_held true o = tt
    generic_held false o = tt

    field_held : (field : Field) (founds : List FieldItem) (start : ℕ) (bytes : List ℕ) → Lies section start bytes → SpellsField (SpellsExpr c) field founds start bytes → HoldGood founds
    field_held (Run n) founds start bytes lies h = subst HoldGood (sym h.found) tt
    field_held Unsigned founds start bytes lies h = subst HoldGood (sym h.found) tt
    field_held Signed founds start bytes lies h = subst HoldGood (sym h.found) tt
    field_held Sized founds start bytes lies h = subst HoldGood (sym h.found) tt
    field_held Counted founds start bytes lies h = subst HoldGood (sym h.found) tt
    field_held Located founds start bytes lies h = subst HoldGood (sym h.found) tt
    field_held LocatedBy founds start bytes lies h = subst HoldGood (sym h.found) tt
    field_held (Entry4 base) founds start bytes lies h = subst HoldGood (sym h.found) tt
    field_held EntryUleb founds start bytes lies h = subst HoldGood (sym h.found) tt
    field_held EntryOrGeneric founds start bytes lies h = subst HoldGood (sym h.found) (generic_held (eqb h.value 0) _)
    field_held Inside founds start bytes lies h = subst HoldGood (sym h.found) (
      expr_good h.expression (start + length h.front) h.content (lies_second start bytes h.front h.content h.parts lies) h.is,
      tt,
    )

    fields_held : (fields : List Field) (founds : List FieldItem) (start : ℕ) (bytes : List ℕ) → Lies section start bytes → SpellsFields (SpellsExpr c) fields founds start bytes → HoldGood founds
    fields_held [] founds start bytes lies h = subst HoldGood (sym h.0) tt
    fields_held (field ∷ fields) founds start bytes lies h =
        let p = h.both in
        subst HoldGood (sym h.made) (both_held h.x h.y
        (field_held field h.x start p.first_bytes (lies_first start bytes p.first_bytes p.second_bytes p.parts lies) p.first)
        (fields_held fields h.y (start + length p.first_bytes) p.second_bytes (lies_second start bytes p.first_bytes p.second_bytes p.parts lies) p.second))

    entries_held : (entries : List (List FieldItem)) (start : ℕ) (bytes : List ℕ) → Lies section start bytes → SpellsRow (SpellsListEntry c) EndsList entries start bytes
        → HoldGood (joined_items entries)
    unfolding joined_items
    entries_held [] start bytes lies h = tt
    entries_held (founds ∷ entries) start bytes lies h =
        let first = h.first in
        both_held founds (joined_items entries)
        (fields_held first.fields founds (start + 1) first.rest (behind_code start first.kind h.first_bytes first.rest first.parts (lies_first start bytes h.first_bytes h.second_bytes h.parts lies))
        first.spelled)
        (entries_held entries (start + length h.first_bytes) h.second_bytes (lies_second start bytes h.first_bytes h.second_bytes h.parts lies) h.second)

    list_good : (l : LocList) (start : ℕ) (bytes : List ℕ) → Lies section start bytes → SpellsList c l start bytes → Good (operands_of l.exprs)
    list_good l start bytes lies h = subst (λ (w : List Expression). Good (operands_of w)) (sym h.exprs) (exprs_good (joined_items h.entries) (entries_held h.entries start bytes lies h.spelled))

    -- of a list at a place
    pub list_stands : (l : LocList) (place : ℕ) → StandsFrom (SpellsList c) section place l → Good (operands_of l.exprs)
    list_stands l place h = list_good l place h.front (record { before = h.before; after = h.after; is = h.parts; many = h.length_before }) h.spelled

  -- ---- what is known of one of them

  pub one_named : (names : Operand → Bool) (os : List Operand) → AreNamed names os → (o : Operand) → In o os → names o ≡ true
  one_named names [] h o there = absurd there
  one_named names (p ∷ os) h o (inl e) = ap names (sym e) ∙ h.0
  one_named names (p ∷ os) h o (inr later) = one_named names os h.1 o later

  pub one_numbered : (os : List Operand) → Numbered os → (o : Operand) → In o os → HasNumber o
  one_numbered [] h o there = absurd there
  one_numbered (p ∷ os) h o (inl e) = subst (λ (q : Operand). HasNumber q) e h.0
  one_numbered (p ∷ os) h o (inr later) = one_numbered os h.1 o later

  pub same_number : (o p : Operand) → HasNumber o → HasNumber p → o.at ≡ p.at → o.width ≡ p.width → o.uleb ≡ p.uleb → o.number ≡ p.number
  same_number o p h k at width uleb = h ∙ (λ i. value_of (uleb i) (take (width i) (drop (at i) section))) ∙ sym k
