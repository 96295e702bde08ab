-- Numbers of few bytes are read, and plain operators are skipped.
use Rattle.std.proofs.Common.{◌≡◌, ℕ, suc, Bool, true, false, ◌+◌, ◌-◌, ◌^◌, ◌<◌, ◌≤◌, List, [], ◌∷◌, length, get_or, drop, Option, Some, None, Result, Ok, Err, refl, sym, ap, subst, ◌∙◌, inl, inr, arith}
use Rattle.std.specs.Prelude.{◌||◌, IfSome, slice_range}
use Rattle.std.proofs.lemmas.Bool.{cases_lt, le-ltb, lt-ltb}
use Rattle.std.proofs.lemmas.List.{drop-drop, drop_more, length-drop, take_all}
use Rattle.std.proofs.Math.ListN.{drop_of_length-le}
use Rattle.std.proofs.Math.Nat.{pow-le-pow_right}
use Rattle.dwz_model.specs.declared.fault.Fault.{Fault}
use Rattle.dwz_model.specs.declared.fault.ReadErr.{ReadErr}
use Rattle.dwz_model.specs.declared.fault.ReadErr.TheVariants.{NoMemory, Refused}
use Rattle.dwz_bytes.specs.Input.{Input, input}
use Rattle.dwz_bytes.specs.Reading.{◌>>=◌, sleb_at, uleb_at}
use Rattle.dwz_bytes.specs.Spelling.{fits_i64, fits_u64, groups_value, last_of, signed_value}
use Rattle.dwz_bytes.proofs.GroupLemmas.{groups_below, more}
use Rattle.dwz_bytes.proofs.LebLemmas.{leb_again}
use Rattle.dwz_bytes.proofs.SignedLemmas.{below_zero, high_value, low_value}
use Rattle.dwz_codes.specs.Operators.{operator_rows}
use Rattle.dwz_codes.specs.declared.shape.Shape.{Shape}
use Rattle.dwz_codes.specs.declared.shape.Shape.TheVariants.{Address, Nothing, Sleb, Uleb}
use Rattle.dwz_def_reading.specs.declared.exprs.Operand.{Operand}
use Rattle.dwz_def_reading.specs.Exprs.{ExprContext, Field, Located, Run, Signed, Unsigned, bad_expr, fields_of}
use Rattle.dwz_def_reading.specs.Values.{shape_of}
use Rattle.dwz_def_reading.proofs.CaseFacts.{or_assoc}
use Rattle.dwz_def_reading.proofs.SequenceLemmas.{input_of}
use Rattle.dwz_expr.specs.Few.{AreFew, ArePlain, IsPlain}
use Rattle.dwz_expr.specs.FirstFault.{ReadsInto, asked}
use Rattle.dwz_expr.specs.Gathering.{Gathered, InEach, Stopped, added, fields_into, gathered, ops_into}
use Rattle.dwz_expr.specs.declared.plain.Plain.{Plain}
use Rattle.dwz_expr.proofs.AskedLemmas.{asked_none}
use Rattle.dwz_expr.proofs.GatherLemmas.{AreFlat, or_true}
use Rattle.dwz_expr.proofs.LoopLemmas.{none_added}
use Rattle.dwz_expr.proofs.OperatorLemmas.{flat_op, ops_none, ops_step}
use Rattle.dwz_expr.proofs.StopLemmas.{into_fails, into_gives}

-- ---- numbers

pub one_few : (most : ℕ) (bytes : List ℕ) (at end : ℕ) → 1 ≤ most → at < length bytes → get_or bytes at 0 < 128 → end ≡ at + 1 → AreFew most bytes at end
one_few most bytes at end some within low place = record {
  front = get_or bytes at 0 ∷ [];
  groups = low;
  few = omega arith;
  parts = drop_more bytes at 0 within ∙ ap (λ (n : ℕ). get_or bytes at 0 ∷ drop n bytes) (sym place);
  place = omega arith;
  within = omega arith;
}

pub more_few : (most : ℕ) (bytes : List ℕ) (at next end : ℕ) → next ≡ at + 1 → at < length bytes → 128 ≤ get_or bytes at 0 → AreFew most bytes next end → AreFew (suc most) bytes at end
more_few most bytes at next end is within high f = record {
  front = get_or bytes at 0 ∷ f.front;
  groups = more (get_or bytes at 0) f.front high f.groups;
  few = omega (arith, f.few);
  parts = drop_more bytes at 0 within ∙ ap (λ (n : ℕ). get_or bytes at 0 ∷ drop n bytes) (sym is) ∙ ap (λ (w : List ℕ). get_or bytes at 0 ∷ w) f.parts;
  place = omega (arith, is, f.place);
  within = f.within;
}

few_weight : (k : ℕ) → k ≤ 3 → 128 ^ k ≤ 128 ^ 3
few_weight k le =
    let some : 0 < 128 = omega arith in
    pow-le-pow_right some le

few_unsigned : (front : List ℕ) → length front ≤ 3 → fits_u64 (groups_value front) ≡ true
few_unsigned front le = lt-ltb _ _ (omega (arith, groups_below front, few_weight (length front) le))

few_signed : (front : List ℕ) → length front ≤ 3 → fits_i64 (signed_value front) ≡ true
few_signed front le =
    let less = groups_below front in
    let weight = few_weight (length front) le in
    elim (cases_lt (last_of front) 64) [
      | inl low ↦ rw (low_value front low) (lt-ltb (groups_value front) (2 ^ 63) (omega (arith, less, weight)))
      | inr high ↦
          let n = 128 ^ length front - (groups_value front + 1) in
          let back : groups_value front + (n + 1) ≡ 128 ^ length front = omega (arith, less) in
          rw (high_value front high, below_zero (groups_value front) (128 ^ length front) n back) (lt-ltb n (2 ^ 63) (omega (arith, less, weight)))
    ]

module _ (bytes : List ℕ) (at end : ℕ) (f : AreFew 3 bytes at end) (p : ℕ) where
  pub few_uleb : uleb_at (input_of p (drop at bytes)) ≡ Ok (groups_value f.front, input_of (p + length f.front) (drop end bytes))
  unfolding uleb_at
  few_uleb =
      rw f.parts (leb_again groups_value fits_u64 p (groups_value f.front) f.front (drop end bytes)
      (record { groups = f.groups; len = omega (arith, f.few); value = refl; in_range = few_unsigned f.front f.few }))

  pub few_sleb : sleb_at (input_of p (drop at bytes)) ≡ Ok (signed_value f.front, input_of (p + length f.front) (drop end bytes))
  unfolding sleb_at
  few_sleb =
      rw f.parts (leb_again signed_value fits_i64 p (signed_value f.front) f.front (drop end bytes)
      (record { groups = f.groups; len = omega (arith, f.few); value = refl; in_range = few_signed f.front f.few }))

pub few_read : (bytes : List ℕ) (at end : ℕ) → (f : AreFew 3 bytes at end) → uleb_at (input bytes at) ≡ Ok (groups_value f.front, input bytes end)
few_read bytes at end f = few_uleb bytes at end f at ∙ (λ n. Ok (groups_value f.front, input_of (sym f.place n) (drop end bytes)))

-- ---- operators

plain_op : (c : ExprContext) (k at code : ℕ) (rest : List ℕ) (a b : Bool) (j : Input) (fields : List Field) → fields_of (shape_of operator_rows code) ≡ Some fields → AreFlat fields
    → fields_into (bad_expr c at) fields (gathered [] a) (input_of (at + 1) rest) ≡ Ok (gathered [] b, j)
    → ops_into c k (gathered [] a) (input_of at (code ∷ rest)) ≡ ops_into c k (gathered [] b) j
plain_op c k at code rest a b j fields laid flat is =
    ops_step c k (gathered [] a) at code rest
    ∙ ap (λ (r : Result (Gathered × Input) Fault). r >>= λ p. ops_into c k p.0 p.1) (flat_op c k a at code rest fields laid flat (gathered [] b) j is ∙ asked_none c (Ok (gathered [] b, j)))

-- an operator at a place, whose fields end at another one
plain_by : (bytes : List ℕ) (at : ℕ) (p : Plain) → at < length bytes → at < p.end → p.end ≤ length bytes → (fields : List Field) → fields_of (shape_of operator_rows (get_or bytes at 0)) ≡ Some fields
    → AreFlat fields
    → ((bad : Fault) (start : ℕ) (a : Bool) → fields_into bad fields (gathered [] a) (input_of (start + at + 1) (drop (at + 1) bytes)) ≡ Ok (gathered [] (a || p.address), input_of (start + p.end) (drop p.end bytes)))
    → IsPlain 0 bytes at p
plain_by bytes at p there rises within fields laid flat read = record {
  rises = rises;
  plain = record {
    within = within;
    skips = λ c k start a few.
        ap (λ (w : List ℕ). ops_into c k (gathered [] a) (input_of (start + at) w)) (drop_more bytes at 0 there)
        ∙ plain_op c k (start + at) (get_or bytes at 0) (drop (at + 1) bytes) a (a || p.address) (input_of (start + p.end) (drop p.end bytes)) fields laid flat (read (bad_expr c (start + at)) start a);
  };
}

or_none : (a : Bool) → a ≡ (a || false)
or_none true = refl
or_none false = refl

laid_as : (code : ℕ) (shape : Shape) (fields : List Field) → shape ≡ shape_of operator_rows code → fields_of shape ≡ Some fields → fields_of (shape_of operator_rows code) ≡ Some fields
laid_as code shape fields same laid = ap fields_of (sym same) ∙ laid

-- one without operands
pub plain_code : (bytes : List ℕ) (at : ℕ) (shape : Shape) (p : Plain) → at < length bytes → shape ≡ shape_of operator_rows (get_or bytes at 0) → shape ≡ Nothing → p.end ≡ at + 1 → p.address ≡ false
    → IsPlain 0 bytes at p
unfolding fields_into
plain_code bytes at shape p there same is end none =
    plain_by bytes at p there (omega (arith, end)) (omega (arith, end)) [] (laid_as (get_or bytes at 0) shape [] same (ap fields_of is)) tt
    (λ bad start a. (
    let address : a ≡ (a || p.address) = or_none a ∙ ap (λ (b : Bool). a || b) (sym none) in
    let place : start + at + 1 ≡ start + p.end = omega (arith, end) in
    λ n. Ok (gathered [] (address n), input_of (place n) (drop (sym end n) bytes))))

-- one with a number
pub plain_number : (bytes : List ℕ) (at : ℕ) (shape : Shape) (p : Plain) → at < length bytes → shape ≡ shape_of operator_rows (get_or bytes at 0) → shape ≡ Sleb → AreFew 3 bytes (at + 1) p.end → p.address ≡ false
    → IsPlain 0 bytes at p
unfolding fields_into
plain_number bytes at shape p there same is few none =
    plain_by bytes at p there (omega (arith, few.place)) few.within (Signed ∷ []) (laid_as (get_or bytes at 0) shape (Signed ∷ []) same (ap fields_of is)) (tt, tt)
    (λ bad start a. (
    let address : a ≡ (a || p.address) = or_none a ∙ ap (λ (b : Bool). a || b) (sym none) in
    let place : start + at + 1 + length few.front ≡ start + p.end = omega (arith, few.place) in
    rw (few_sleb bytes (at + 1) p.end few (start + at + 1)) (λ n. Ok (gathered [] (address n), input_of (place n) (drop p.end bytes)))))

pub plain_unsigned : (bytes : List ℕ) (at : ℕ) (shape : Shape) (p : Plain) → at < length bytes → shape ≡ shape_of operator_rows (get_or bytes at 0) → shape ≡ Uleb → AreFew 3 bytes (at + 1) p.end → p.address ≡ false
    → IsPlain 0 bytes at p
unfolding fields_into
plain_unsigned bytes at shape p there same is few none =
    plain_by bytes at p there (omega (arith, few.place)) few.within (Unsigned ∷ []) (laid_as (get_or bytes at 0) shape (Unsigned ∷ []) same (ap fields_of is)) (tt, tt)
    (λ bad start a. (
    let address : a ≡ (a || p.address) = or_none a ∙ ap (λ (b : Bool). a || b) (sym none) in
    let place : start + at + 1 + length few.front ≡ start + p.end = omega (arith, few.place) in
    rw (few_uleb bytes (at + 1) p.end few (start + at + 1)) (λ n. Ok (gathered [] (address n), input_of (place n) (drop p.end bytes)))))

-- one with so many bytes
pub plain_run : (bytes : List ℕ) (at count : ℕ) (shape : Shape) (p : Plain) → at < length bytes → shape ≡ shape_of operator_rows (get_or bytes at 0) → fields_of shape ≡ Some (Run count ∷ [])
    → p.end ≡ at + 1 + count → p.end ≤ length bytes → p.address ≡ false → IsPlain 0 bytes at p
unfolding fields_into
plain_run bytes at count shape p there same laid end within none =
    plain_by bytes at p there (omega (arith, end)) within (Run count ∷ []) (laid_as (get_or bytes at 0) shape (Run count ∷ []) same laid) (tt, tt)
    (λ bad start a. (
    let address : a ≡ (a || p.address) = or_none a ∙ ap (λ (b : Bool). a || b) (sym none) in
    let place : start + at + 1 + count ≡ start + p.end = omega (arith, end) in
    let behind : drop count (drop (at + 1) bytes) ≡ drop p.end bytes = drop-drop count (at + 1) bytes ∙ ap (λ (n : ℕ). drop n bytes) (sym end) in
    rw (le-ltb (length (drop (at + 1) bytes)) count (omega (arith, end, within, length-drop (at + 1) bytes))) (λ n. Ok (gathered [] (address n), input_of (place n) (behind n)))))

-- one with an address
pub plain_address : (bytes : List ℕ) (at : ℕ) (shape : Shape) (p : Plain) → at < length bytes → shape ≡ shape_of operator_rows (get_or bytes at 0) → shape ≡ Address → p.end ≡ at + 9
    → p.end ≤ length bytes → p.address ≡ true → IsPlain 0 bytes at p
unfolding fields_into
plain_address bytes at shape p there same is end within some =
    plain_by bytes at p there (omega (arith, end)) within (Located ∷ []) (laid_as (get_or bytes at 0) shape (Located ∷ []) same (ap fields_of is)) (tt, tt)
    (λ bad start a. (
    let address : true ≡ (a || p.address) = sym (or_true a) ∙ ap (λ (b : Bool). a || b) (sym some) in
    let place : start + at + 1 + 8 ≡ start + p.end = omega (arith, end) in
    let behind : drop 8 (drop (at + 1) bytes) ≡ drop p.end bytes = drop-drop 8 (at + 1) bytes ∙ ap (λ (n : ℕ). drop n bytes) (let same : at + 1 + 8 ≡ p.end = omega (arith, end) in same) in
    rw (le-ltb (length (drop (at + 1) bytes)) 8 (omega (arith, end, within, length-drop (at + 1) bytes))) (λ n. Ok (gathered [] (address n), input_of (place n) (behind n)))))

-- what was found there, if it was
pub number_plain : (bytes : List ℕ) (at : ℕ) (shape : Shape) (o : Option Plain) → at < length bytes → shape ≡ shape_of operator_rows (get_or bytes at 0) → shape ≡ Sleb
    → IfSome o (λ p. AreFew 3 bytes (at + 1) p.end) → IfSome o (λ p. p.address ≡ false) → IfSome o (λ p. IsPlain 0 bytes at p)
number_plain bytes at shape None there same is few none = tt
number_plain bytes at shape (Some p) there same is few none = plain_number bytes at shape p there same is few none

pub unsigned_plain : (bytes : List ℕ) (at : ℕ) (shape : Shape) (o : Option Plain) → at < length bytes → shape ≡ shape_of operator_rows (get_or bytes at 0) → shape ≡ Uleb
    → IfSome o (λ p. AreFew 3 bytes (at + 1) p.end) → IfSome o (λ p. p.address ≡ false) → IfSome o (λ p. IsPlain 0 bytes at p)
unsigned_plain bytes at shape None there same is few none = tt
unsigned_plain bytes at shape (Some p) there same is few none = plain_unsigned bytes at shape p there same is few none

pub run_plain : (bytes : List ℕ) (at count : ℕ) (shape : Shape) (o : Option Plain) → at < length bytes → shape ≡ shape_of operator_rows (get_or bytes at 0) → fields_of shape ≡ Some (Run count ∷ [])
    → IfSome o (λ p. p.end ≡ at + 1 + count) → IfSome o (λ p. p.end ≤ length bytes) → IfSome o (λ p. p.address ≡ false) → IfSome o (λ p. IsPlain 0 bytes at p)
run_plain bytes at count shape None there same laid end within none = tt
run_plain bytes at count shape (Some p) there same laid end within none = plain_run bytes at count shape p there same laid end within none

pub address_plain : (bytes : List ℕ) (at : ℕ) (shape : Shape) (o : Option Plain) → at < length bytes → shape ≡ shape_of operator_rows (get_or bytes at 0) → shape ≡ Address
    → IfSome o (λ p. p.end ≡ at + 1 + 8) → IfSome o (λ p. p.end ≤ length bytes) → IfSome o (λ p. p.address ≡ true) → IfSome o (λ p. IsPlain 0 bytes at p)
address_plain bytes at shape None there same is end within some = tt
address_plain bytes at shape (Some p) there same is end within some = plain_address bytes at shape p there same is (omega (arith, end)) within some

-- ---- in turn

pub none_plain : (inside : ℕ) (bytes : List ℕ) → ArePlain inside bytes 0 (record { end = 0; address = false })
none_plain inside bytes = record {
  within = omega arith;
  skips = λ c k start a few. (let address = or_none a in λ n. ops_into c k (gathered [] (address n)) (input_of (start + 0) (drop 0 bytes)));
}

pub more_plain : (inside : ℕ) (bytes : List ℕ) (p q r : Plain) → ArePlain inside bytes 0 p → IsPlain inside bytes p.end q → r.end ≡ q.end → r.address ≡ (p.address || q.address)
    → ArePlain inside bytes 0 r
more_plain inside bytes p q r before one end both = record {
  within = omega (arith, one.plain.within, end);
  skips = λ c k start a few.
      before.skips c k start a few ∙ one.plain.skips c k start (a || p.address) few
      ∙ ap (λ (d : Bool). ops_into c k (gathered [] d) (input_of (start + q.end) (drop q.end bytes))) (sym (or_assoc a p.address q.address) ∙ ap (λ (d : Bool). a || d) (sym both))
      ∙ ap (λ (n : ℕ). ops_into c k (gathered [] (a || r.address)) (input_of (start + n) (drop n bytes))) (sym end);
}

-- ---- the whole expression

module _ (bytes : List ℕ) (p : Plain) (plain : ArePlain 1 bytes 0 p) (start : ℕ) where
  first : input_of (start + 0) (drop 0 bytes) ≡ input_of start bytes
  first = let none : start + 0 ≡ start = omega arith in λ n. input_of (none n) bytes

  skipped : (c : ExprContext) → ops_into c 8 (gathered [] false) (input_of start bytes) ≡ ops_into c 8 (gathered [] p.address) (input_of (start + p.end) (drop p.end bytes))
  skipped c = ap (ops_into c 8 (gathered [] false)) (sym first) ∙ plain.skips c 8 start false (omega arith)

  pub plain_whole : (section : ℕ) (pre : List Operand) → p.end ≡ length bytes → ReadsInto section (input_of start bytes) (added pre pre) (Ok p.address)
  plain_whole section pre all =
      let none : drop p.end bytes ≡ [] = drop_of_length-le bytes (omega (arith, all)) in
      let nothing = none_added pre in
      into_gives section (input_of start bytes) (added pre pre) p.address (λ c e.
      skipped c ∙ ap (λ (w : List ℕ). ops_into c 8 (gathered [] p.address) (input_of (start + p.end) w)) none ∙ ops_none c 8 (gathered [] p.address) (start + p.end)
      ∙ sym (ap (λ (w : List Operand). asked c w (Ok (gathered w p.address))) nothing ∙ asked_none c (Ok (gathered [] p.address))))

  pub plain_alone : (section : ℕ) → p.end ≡ length bytes → ReadsInto section (input_of start bytes) [] (Ok p.address)
  plain_alone section all = subst (λ (w : List Operand). ReadsInto section (input_of start bytes) w (Ok p.address)) (none_added []) (plain_whole section [] all)

  -- the others
  left : slice_range bytes p.end (length bytes) ≡ drop p.end bytes
  left = take_all (length bytes - p.end) (drop p.end bytes) (omega (arith, length-drop p.end bytes))

  followed : (section : ℕ) (operands : List Operand) (answer : Result Gathered Fault)
      → InEach section (λ c. ops_into c 8 (gathered [] p.address) (input_of (start + p.end) (slice_range bytes p.end (length bytes)))) operands answer
      → InEach section (λ c. ops_into c 8 (gathered [] false) (input_of start bytes)) operands answer
  followed section operands answer is = λ c e. skipped c ∙ ap (λ (w : List ℕ). ops_into c 8 (gathered [] p.address) (input_of (start + p.end) w)) (sym left) ∙ is c e

  pub plain_gives : (section : ℕ) (operands : List Operand) (address : Bool)
      → InEach section (λ c. ops_into c 8 (gathered [] p.address) (input_of (start + p.end) (slice_range bytes p.end (length bytes)))) operands (Ok (gathered operands address))
      → ReadsInto section (input_of start bytes) operands (Ok address)
  plain_gives section operands address is = into_gives section (input_of start bytes) operands address (followed section operands (Ok (gathered operands address)) is)

  pub plain_fails : (section : ℕ) (operands : List Operand) (e : ReadErr)
      → Stopped section (λ c. ops_into c 8 (gathered [] p.address) (input_of (start + p.end) (slice_range bytes p.end (length bytes)))) operands e
      → ReadsInto section (input_of start bytes) operands (Err e)
  plain_fails section operands NoMemory is = tt
  plain_fails section operands (Refused f) is = into_fails section (input_of start bytes) operands (Refused f) (followed section operands (Err f) is)
