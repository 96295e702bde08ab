-- Values of each shape: what is read is spelled, what is spelled is read, and where a fault is.
use Rattle.std.proofs.Common.{◌≡◌, ◌↔◌, ℕ, ◌+◌, ◌⊎◌, List, [], ◌++◌, length, Result, Ok, Err, refl, sym, ap, ◌∙◌, arith, inl, inr}
use Rattle.dwz_model.specs.declared.fault.Fault.{Fault}
use Rattle.dwz_model.specs.declared.fault.Reason.TheVariants.{UnsupportedForm, Truncated, BadNumber}
use Rattle.dwz_model.specs.declared.place.Pair.{Pair}
use Rattle.dwz_bytes.specs.declared.error.ByteErr.{ByteErr}
use Rattle.dwz_bytes.specs.declared.error.ByteErr.TheVariants.{Short, Wide}
use Rattle.dwz_bytes.specs.Input.{Input}
use Rattle.dwz_bytes.specs.Laws.{IsCutShort}
use Rattle.dwz_bytes.specs.Reading.{fixed_at, sleb_at, take_at, uleb_at}
use Rattle.dwz_bytes.specs.Spelling.{SpellsFixed, SpellsSleb, SpellsUleb, fits_i64, fits_u64, groups_value, signed_value}
use Rattle.dwz_codes.specs.declared.shape.Shape.{Shape}
use Rattle.dwz_codes.specs.declared.shape.Shape.TheVariants.{Nothing, Fixed1, Fixed2, Fixed3, Fixed4, Fixed8, Fixed16, Uleb, Sleb, ZeroEnded, Block1, Block2, Block4, BlockUleb, Address}
use Rattle.dwz_def_reading.specs.Faults.{info_fault}
use Rattle.dwz_def_reading.specs.Parts.{IsRead}
use Rattle.dwz_def_reading.specs.Texts.{NoZero, SpellsText, zero_ended_at}
use Rattle.dwz_def_reading.specs.Values.{AreFewer, Bytes, IsBlockCut, IsShapeFault, IsTooBig, Number, Raw, SpellsAs, SpellsBlock, SpellsNothing, SpellsRun, SpellsShape, block_at, constant_of, read_as}
use Rattle.dwz_def_reading.specs.Values.{shaped_at, unsigned, valued}
use Rattle.dwz_def_reading.proofs.PartLemmas.{same_input, same_value}
use Rattle.dwz_def_reading.proofs.ReadLemmas.{Never, Reads, as_reads, block_reads, fixed_reads, run_reads, sleb_reads, text_reads, uleb_reads}

-- the laws of values that are read so
pub record ValueLaws (Spells : List ℕ → Raw → Type 0) (read : Input → Result (Raw × Input) Fault) (IsFault : Input → Fault → Type 0) : Type 0 where
  pub found : (i j : Input) (x : Raw) → read i ≡ Ok (x, j) → IsRead Spells i j x
  pub again : (at : ℕ) (x : Raw) (front rest : List ℕ) → Spells front x → read (record { at = at; rest = front ++ rest }) ≡ Ok (x, record { at = at + length front; rest = rest })
  pub one : (a b more others : List ℕ) (x y : Raw) → Spells a x → Spells b y → a ++ more ≡ b ++ others → (a ≡ b) × (x ≡ y)
  pub fault : (i : Input) (f : Fault) → (read i ≡ Err f) ↔ IsFault i f

abbrev Bytewise : Type 0
Bytewise = Result (Raw × Input) ByteErr

valued_ok : (at : ℕ) (r : Bytewise) (x : Raw × Input) → valued at r ≡ Ok x → r ≡ Ok x
valued_ok at (Ok y) x e = let same : y ≡ x = cc in ap (λ (w : Raw × Input). Ok w) same
valued_ok at (Err (Short a)) x e = absurd cc
valued_ok at (Err (Wide a)) x e = absurd cc

valued_err : (at : ℕ) (r : Bytewise) (f : Fault) → valued at r ≡ Err f
    → ((f ≡ info_fault at Truncated) × ((a : ℕ) × (r ≡ Err (Short a)))) ⊎ ((f ≡ info_fault at BadNumber) × ((a : ℕ) × (r ≡ Err (Wide a))))
valued_err at (Ok y) f e = absurd cc
valued_err at (Err (Short a)) f e = inl (cc, (a, refl))
valued_err at (Err (Wide a)) f e = inr (cc, (a, refl))

-- the faults of a way of reading, at its place
abbrev FaultIn : (List ℕ → Type 0) → (List ℕ → Type 0) → Pair → Input → Fault → Type 0
FaultIn IsCut IsBig pair i f =
    ((f ≡ info_fault i.at (UnsupportedForm pair.form)) × ⊥)
    ⊎ (((f ≡ info_fault i.at Truncated) × IsCut i.rest)
    ⊎ ((f ≡ info_fault i.at BadNumber) × IsBig i.rest))

valued_laws : (Spells : List ℕ → Raw → Type 0) (IsCut IsBig : List ℕ → Type 0) (read : Input → Bytewise) (pair : Pair)
    → Reads Spells IsCut IsBig read → ValueLaws Spells (λ i. valued i.at (read i)) (FaultIn IsCut IsBig pair)
valued_laws Spells IsCut IsBig read pair r = record {
  found = λ i j x e. r.found i j x (valued_ok i.at (read i) (x, j) e);
  again = λ at x front rest is. ap (valued at) (r.again at x front rest is);
  one = r.one;
  fault = λ i f. (
    λ e. elim (valued_err i.at (read i) f e) [
      | inl p ↦ inr (inl (p.0, r.short_cut i p.1.0 p.1.1))
      | inr p ↦ inr (inr (p.0, r.wide_big i p.1.0 p.1.1))
    ],
    λ is. elim is [
      | inl p ↦ absurd p.1
      | inr q ↦ elim q [
        | inl p ↦ let s = r.cut_short i p.1 in ap (valued i.at) s.1 ∙ ap (λ (w : Fault). Err w) (sym p.0)
        | inr p ↦ let s = r.big_wide i p.1 in ap (valued i.at) s.1 ∙ ap (λ (w : Fault). Err w) (sym p.0)
      ]
    ],
  );
}

-- ---- shape by shape

number_laws : (Spells : List ℕ → ℕ → Type 0) (IsCut IsBig : List ℕ → Type 0) (read : Input → Result (ℕ × Input) ByteErr) (pair : Pair)
    → Reads Spells IsCut IsBig read → ValueLaws (SpellsAs unsigned Spells) (λ i. valued i.at (read_as unsigned read i)) (FaultIn IsCut IsBig pair)
number_laws Spells IsCut IsBig read pair r = valued_laws (SpellsAs unsigned Spells) IsCut IsBig (read_as unsigned read) pair (as_reads unsigned Spells IsCut IsBig read r)

fixed_laws : (k : ℕ) (pair : Pair) → ValueLaws (SpellsAs unsigned (SpellsFixed k)) (λ i. valued i.at (read_as unsigned (fixed_at k) i)) (FaultIn (AreFewer k) Never pair)
fixed_laws k pair = number_laws (SpellsFixed k) (AreFewer k) Never (fixed_at k) pair (fixed_reads k)

bytes_laws : (Spells : List ℕ → List ℕ → Type 0) (IsCut IsBig : List ℕ → Type 0) (read : Input → Result (List ℕ × Input) ByteErr) (pair : Pair)
    → Reads Spells IsCut IsBig read → ValueLaws (SpellsAs Bytes Spells) (λ i. valued i.at (read_as Bytes read i)) (FaultIn IsCut IsBig pair)
bytes_laws Spells IsCut IsBig read pair r = valued_laws (SpellsAs Bytes Spells) IsCut IsBig (read_as Bytes read) pair (as_reads Bytes Spells IsCut IsBig read r)

block_laws : (Spells : List ℕ → ℕ → Type 0) (IsCut IsBig : List ℕ → Type 0) (read : Input → Result (ℕ × Input) ByteErr) (pair : Pair)
    → Reads Spells IsCut IsBig read → ValueLaws (SpellsAs Bytes (SpellsBlock Spells)) (λ i. valued i.at (read_as Bytes (block_at read) i)) (FaultIn (IsBlockCut Spells IsCut) IsBig pair)
block_laws Spells IsCut IsBig read pair r = bytes_laws (SpellsBlock Spells) (IsBlockCut Spells IsCut) IsBig (block_at read) pair (block_reads Spells IsCut IsBig read r)

fixed_block_laws : (k : ℕ) (pair : Pair) → ValueLaws (SpellsAs Bytes (SpellsBlock (SpellsFixed k))) (λ i. valued i.at (read_as Bytes (block_at (fixed_at k)) i))
    (FaultIn (IsBlockCut (SpellsFixed k) (AreFewer k)) Never pair)
fixed_block_laws k pair = block_laws (SpellsFixed k) (AreFewer k) Never (fixed_at k) pair (fixed_reads k)

nothing_laws : (pair : Pair) → ValueLaws (SpellsNothing (constant_of pair)) (λ i. Ok (Number (constant_of pair), i)) (FaultIn Never Never pair)
nothing_laws pair = record {
  found = λ i j x e.
      let value = same_value (Number (constant_of pair)) x i j (Ok (Number (constant_of pair), i)) refl e in
      let to = same_input (Number (constant_of pair)) x i j (Ok (Number (constant_of pair), i)) refl e in
      record {
        front = [];
        spelled = record { empty = refl; value = sym value };
        parts = ap (λ (q : Input). q.rest) to;
        place = let at = ap (λ (q : Input). q.at) to in omega arith;
      };
  again = λ at x front rest is.
      let place : at ≡ at + length front = omega (arith, ap length is.empty) in
      ap (λ (y : Raw). Ok (y, record { at = at; rest = front ++ rest })) (sym is.value) ∙ ap (λ (w : List ℕ). Ok (x, record { at = at; rest = w ++ rest })) is.empty
      ∙ ap (λ (n : ℕ). Ok (x, record { at = n; rest = rest })) place;
  one = λ a b more others x y p q e. (p.empty ∙ sym q.empty, p.value ∙ sym q.value);
  fault = λ i f. (
    λ e. absurd cc,
    λ is. elim is [
      | inl p ↦ absurd p.1
      | inr q ↦ elim q [ inl p ↦ absurd p.1 | inr p ↦ absurd p.1 ]
    ],
  );
}

-- values that aren't read
abbrev Unread : Pair → Input → Fault → Type 0
Unread pair i f =
    ((f ≡ info_fault i.at (UnsupportedForm pair.form)) × Unit {0})
    ⊎ (((f ≡ info_fault i.at Truncated) × ⊥)
    ⊎ ((f ≡ info_fault i.at BadNumber) × ⊥))

unread_laws : (pair : Pair) → ValueLaws (λ bytes raw. ⊥) (λ i. Err (info_fault i.at (UnsupportedForm pair.form))) (Unread pair)
unread_laws pair = record {
  found = λ i j x e. absurd cc;
  again = λ at x front rest is. absurd is;
  one = λ a b more others x y p q e. absurd p;
  fault = λ i f. (
    λ e. inl (cc, tt),
    λ is. elim is [
      | inl p ↦ ap (λ (w : Fault). Err w) (sym p.0)
      | inr q ↦ elim q [ inl p ↦ absurd p.1 | inr p ↦ absurd p.1 ]
    ],
  );
}

pub shape_laws : (shape : Shape) (pair : Pair) → ValueLaws (SpellsShape shape (constant_of pair)) (shaped_at shape pair) (IsShapeFault shape pair)
unfolding shaped_at
shape_laws Nothing pair = nothing_laws pair
shape_laws Fixed1 pair = fixed_laws 1 pair
shape_laws Fixed2 pair = fixed_laws 2 pair
shape_laws Fixed3 pair = fixed_laws 3 pair
shape_laws Fixed4 pair = fixed_laws 4 pair
shape_laws Fixed8 pair = fixed_laws 8 pair
shape_laws Fixed16 pair = bytes_laws (SpellsRun 16) (AreFewer 16) Never (take_at 16) pair (run_reads 16)
shape_laws Uleb pair = number_laws SpellsUleb IsCutShort (IsTooBig groups_value fits_u64) uleb_at pair uleb_reads
shape_laws Sleb pair = valued_laws (SpellsAs Number SpellsSleb) IsCutShort (IsTooBig signed_value fits_i64) (read_as Number sleb_at) pair
    (as_reads Number SpellsSleb IsCutShort (IsTooBig signed_value fits_i64) sleb_at sleb_reads)
shape_laws ZeroEnded pair = bytes_laws SpellsText NoZero Never zero_ended_at pair text_reads
shape_laws Block1 pair = fixed_block_laws 1 pair
shape_laws Block2 pair = fixed_block_laws 2 pair
shape_laws Block4 pair = fixed_block_laws 4 pair
shape_laws BlockUleb pair = block_laws SpellsUleb IsCutShort (IsTooBig groups_value fits_u64) uleb_at pair uleb_reads
shape_laws Address pair = fixed_laws 8 pair
shape_laws _ pair = unread_laws pair
