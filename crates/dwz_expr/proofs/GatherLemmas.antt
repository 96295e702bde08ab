-- What is gathered step by step is what the expression holds.
use Rattle.std.proofs.Common.{◌≡◌, ℕ, ◌-◌, Bool, true, false, cond, List, [], ◌∷◌, ◌++◌, Result, Ok, Err, refl, sym, ap, ◌∙◌, eqb, append_assoc}
use Rattle.std.specs.Prelude.{◌||◌}
use Rattle.std.proofs.lemmas.List.{append-nil}
use Rattle.dwz_model.specs.declared.fault.Fault.{Fault}
use Rattle.dwz_model.specs.declared.place.Base.{Base}
use Rattle.dwz_model.specs.declared.place.Base.TheVariants.{Unit as FromUnit}
use Rattle.dwz_bytes.specs.declared.error.ByteErr.{ByteErr}
use Rattle.dwz_bytes.specs.Input.{Input}
use Rattle.dwz_bytes.specs.Reading.{◌>>=◌, fixed_at, sleb_at, take_at, uleb_at}
use Rattle.dwz_def_reading.specs.declared.exprs.Operand.{Operand}
use Rattle.dwz_def_reading.specs.Exprs.{AnAddress, Counted, Entry4, EntryOrGeneric, EntryUleb, Field, FieldItem, Inside, InsideReader, Located, LocatedBy, Names, Run, Signed, Sized, Unsigned}
use Rattle.dwz_def_reading.specs.Exprs.{an_address}
use Rattle.dwz_def_reading.specs.Exprs.{an_operand, an_operand_or_generic, any_address, field_at, fields_at, nothing, operands_in, or_fault, seen_piece}
use Rattle.dwz_def_reading.specs.Sequences.{then_make, then_read}
use Rattle.dwz_def_reading.proofs.FoundLemmas.{address_append}
use Rattle.dwz_def_reading.proofs.StandLemmas.{operands_both}
use Rattle.dwz_def_reading.specs.Values.{block_at}
use Rattle.dwz_def_reading.proofs.CaseFacts.{or_assoc}
use Rattle.dwz_expr.specs.Gathering.{Gathered, field_into, fields_into, gather, located, run_of, unchanged, with_operand, with_some, as_operand, operand_of}

-- ---- what is gathered in turn

pub or_false : (a : Bool) → (a || false) ≡ a
or_false true = refl
or_false false = refl

pub gather_append : (g : Gathered) (a b : List FieldItem) → gather g (a ++ b) ≡ gather (gather g a) b
gather_append g a b =
    let operands : g.operands ++ operands_in (a ++ b) ≡ (g.operands ++ operands_in a) ++ operands_in b = ap (λ (w : List Operand). g.operands ++ w) (operands_both a b)
    ∙ sym (append_assoc g.operands (operands_in a) (operands_in b)) in
    let address : (g.address || any_address (a ++ b)) ≡ ((g.address || any_address a) || any_address b) = ap (λ (t : Bool). g.address || t) (address_append a b)
    ∙ or_assoc g.address (any_address a) (any_address b) in
    λ n. record { operands = operands n; address = address n }

pub gather_none : (g : Gathered) → gather g [] ≡ g
unfolding operands_in any_address
gather_none g = let operands = append-nil g.operands in let address = or_false g.address in λ n. record { operands = operands n; address = address n }

-- ---- fields in which no expression stands

abbrev pub IsFlat : Field → Type 0
IsFlat Inside = ⊥
IsFlat _ = Unit {0}

abbrev pub AreFlat : List Field → Type 0
AreFlat [] = Unit {0}
AreFlat (field ∷ fields) = IsFlat field × AreFlat fields

abbrev pub into : Gathered → List FieldItem × Input → Result (Gathered × Input) Fault
into g x = Ok (gather g x.0, x.1)

-- a result that goes on
bind_same : {X Y : Type 0} (r : Result X Fault) (f h : X → Result Y Fault) → ((x : X) → f x ≡ h x) → (r >>= f) ≡ (r >>= h)
bind_same (Ok x) f h same = same x
bind_same (Err e) f h same = refl

pub bind_assoc : {X Y Z : Type 0} (r : Result X Fault) (f : X → Result Y Fault) (h : Y → Result Z Fault) → ((r >>= f) >>= h) ≡ (r >>= λ x. f x >>= h)
bind_assoc (Ok x) f h = refl
bind_assoc (Err e) f h = refl

-- what reads bytes, and what it holds
piece_into : {X : Type 0} (r : Result (X × Input) Fault) (seen : ℕ → ℕ → X → List FieldItem) (at : ℕ) (g : Gathered) (h : X × Input → Result (Gathered × Input) Fault)
    → ((x : X × Input) → into g (seen at (x.1.at - at) x.0, x.1) ≡ h x) → ((r >>= seen_piece seen at) >>= into g) ≡ (r >>= h)
piece_into (Ok x) seen at g h same = same x
piece_into (Err f) seen at g h same = refl

none_held : (g : Gathered) (j : Input) → into g ([], j) ≡ Ok (g, j)
none_held g j = ap (λ (w : Gathered). Ok (w, j)) (gather_none g)

pub or_true : (a : Bool) → (a || true) ≡ true
or_true true = refl
or_true false = refl

address_held : (g : Gathered) (j : Input) → into g (AnAddress ∷ [], j) ≡ Ok (record { operands = g.operands; address = true }, j)
unfolding operands_in any_address
address_held g j = let operands = append-nil g.operands in let address = or_true g.address in λ n. Ok (record { operands = operands n; address = address n }, j)

operand_held : (g : Gathered) (o : Operand) (j : Input) → into g (Names o ∷ [], j) ≡ Ok (record { operands = g.operands ++ o ∷ []; address = g.address }, j)
unfolding operands_in any_address
operand_held g o j = let address = or_false g.address in λ n. Ok (record { operands = g.operands ++ o ∷ []; address = address n }, j)

operand_into : (uleb : Bool) (base : Base) (r : Result (ℕ × Input) Fault) (at : ℕ) (g : Gathered) → ((r >>= seen_piece (an_operand uleb base) at) >>= into g)
    ≡ ((r >>= as_operand uleb base at) >>= with_operand g)
operand_into uleb base (Ok x) at g = operand_held g _ x.1
operand_into uleb base (Err f) at g = refl

some_held : (g : Gathered) (at : ℕ) (x : ℕ × Input) → into g (an_operand_or_generic at (x.1.at - at) x.0, x.1) ≡ with_some g at x
some_held g at x = by (eqb x.0 0) where
  by : (b : Bool) → into g (cond b [] (an_operand true FromUnit at (x.1.at - at) x.0), x.1) ≡ cond b (Ok (g, x.1)) (with_operand g (operand_of true FromUnit at x, x.1))
  by true = none_held g x.1
  by false = operand_held g _ x.1

or_block : (bad : Fault) (read : Input → Result (ℕ × Input) ByteErr) (i : Input) → or_fault bad (block_at read i) ≡ (or_fault bad (read i) >>= run_of bad)
or_block bad read i = by (read i) where
  by : (r : Result (ℕ × Input) ByteErr) → or_fault bad (r >>= λ count. take_at count.0 count.1) ≡ (or_fault bad r >>= run_of bad)
  by (Ok x) = refl
  by (Err e) = refl

block_into : (bad : Fault) (read : Input → Result (ℕ × Input) ByteErr) (i : Input) (g : Gathered) → ((or_fault bad (block_at read i) >>= seen_piece nothing i.at) >>= into g)
    ≡ ((or_fault bad (read i) >>= run_of bad) >>= unchanged g)
block_into bad read i g =
    piece_into (or_fault bad (block_at read i)) nothing i.at g (unchanged g) (λ x. none_held g x.1)
    ∙ ap (λ (r : Result (List ℕ × Input) Fault). r >>= unchanged g) (or_block bad read i)

pub field_is : (inner : InsideReader) (bad : Fault) (field : Field) (g : Gathered) (i : Input) → IsFlat field → (field_at inner bad field i >>= into g) ≡ field_into bad field g i
field_is inner bad (Run n) g i flat = piece_into (or_fault bad (take_at n i)) nothing i.at g (unchanged g) (λ x. none_held g x.1)
field_is inner bad Unsigned g i flat = piece_into (or_fault bad (uleb_at i)) nothing i.at g (unchanged g) (λ x. none_held g x.1)
field_is inner bad Signed g i flat = piece_into (or_fault bad (sleb_at i)) nothing i.at g (unchanged g) (λ x. none_held g x.1)
field_is inner bad Sized g i flat = block_into bad (fixed_at 1) i g
field_is inner bad Counted g i flat = block_into bad uleb_at i g
field_is inner bad Located g i flat = piece_into (or_fault bad (fixed_at 8 i)) an_address i.at g (located g) (λ x. address_held g x.1)
field_is inner bad LocatedBy g i flat = piece_into (or_fault bad (uleb_at i)) an_address i.at g (located g) (λ x. address_held g x.1)
field_is inner bad (Entry4 base) g i flat = operand_into false base (or_fault bad (fixed_at 4 i)) i.at g
field_is inner bad EntryUleb g i flat = operand_into true FromUnit (or_fault bad (uleb_at i)) i.at g
field_is inner bad EntryOrGeneric g i flat = piece_into (or_fault bad (uleb_at i)) an_operand_or_generic i.at g (with_some g i.at) (λ x. some_held g i.at x)
field_is inner bad Inside g i flat = absurd flat

pub fields_are : (inner : InsideReader) (bad : Fault) (fields : List Field) (g : Gathered) (i : Input) → AreFlat fields → (fields_at inner bad fields i >>= into g) ≡ fields_into bad fields g i
unfolding fields_at fields_into
fields_are inner bad [] g i flat = none_held g i
fields_are inner bad (field ∷ fields) g i flat = go (λ h j. fields_are inner bad fields h j flat.1) (field_at inner bad field i) (field_is inner bad field g i flat.0) where
  behind : (x : List FieldItem × Input) (r : Result (List FieldItem × Input) Fault) → ((r >>= then_make (λ a b. a ++ b) x.0) >>= into g) ≡ (r >>= into (gather g x.0))
  behind x (Ok y) = ap (λ (w : Gathered). Ok (w, y.1)) (gather_append g x.0 y.0)
  behind x (Err f) = refl

  go : ((h : Gathered) (j : Input) → (fields_at inner bad fields j >>= into h) ≡ fields_into bad fields h j) → (r : Result (List FieldItem × Input) Fault) → (r >>= into g) ≡ field_into bad field g i
      → ((r >>= then_read (λ _. fields_at inner bad fields) (λ a b. a ++ b)) >>= into g) ≡ (field_into bad field g i >>= λ x. fields_into bad fields x.0 x.1)
  go others (Ok x) is = behind x (fields_at inner bad fields x.1) ∙ others (gather g x.0) x.1 ∙ ap (λ (r : Result (Gathered × Input) Fault). r >>= λ p. fields_into bad fields p.0 p.1) is
  go others (Err f) is = ap (λ (r : Result (Gathered × Input) Fault). r >>= λ p. fields_into bad fields p.0 p.1) is
