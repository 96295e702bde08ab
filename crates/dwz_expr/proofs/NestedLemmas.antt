-- Operators that have an expression of plain ones in them are skipped.
use Rattle.std.proofs.Common.{◌≡◌, ℕ, zero, suc, ◌+◌, ◌-◌, ◌%◌, ◌*◌, ◌<◌, ◌≤◌, Bool, false, List, [], ◌∷◌, length, get_or, drop, take, Option, Some, None, Result, Ok, refl, sym, ap, subst, ◌∙◌, arith}
use Rattle.std.specs.Prelude.{◌||◌, IfSome, slice_range}
use Rattle.std.proofs.lemmas.Bool.{le-ltb}
use Rattle.std.proofs.lemmas.List.{drop-drop, drop_more, length-drop, length-take-le}
use Rattle.std.proofs.Math.ListN.{drop_of_length-le}
use Rattle.dwz_model.specs.declared.fault.Fault.{Fault}
use Rattle.dwz_bytes.specs.Input.{Input}
use Rattle.dwz_bytes.specs.Reading.{◌>>=◌, uleb_at}
use Rattle.dwz_bytes.specs.Spelling.{groups_value}
use Rattle.dwz_codes.specs.Operators.{operator_rows}
use Rattle.dwz_codes.specs.declared.shape.Shape.TheVariants.{NestedExpr}
use Rattle.dwz_def_reading.specs.Exprs.{ExprContext, Inside, bad_expr, fields_of}
use Rattle.dwz_def_reading.specs.Values.{shape_of}
use Rattle.dwz_def_reading.proofs.SequenceLemmas.{input_of}
use Rattle.dwz_expr.specs.Few.{AreFew, ArePlain, IsPlain}
use Rattle.dwz_expr.specs.Gathering.{Gathered, gathered, nested_into, ops_into}
use Rattle.dwz_expr.specs.declared.plain.Plain.{Plain}
use Rattle.dwz_expr.proofs.FewLemmas.{few_uleb}
use Rattle.dwz_expr.proofs.OperatorLemmas.{nested_op, ops_none, ops_step}

-- more may be one inside another
pub plainer : (bytes : List ℕ) (at : ℕ) (o : Option Plain) → IfSome o (λ p. IsPlain 0 bytes at p) → IfSome o (λ p. IsPlain 1 bytes at p)
plainer bytes at None is = tt
plainer bytes at (Some p) is = record {
  rises = is.rises;
  plain = record { within = is.plain.within; skips = λ c k start a few. is.plain.skips c k start a (omega arith) };
}

-- ---- an expression behind its length, of one byte

module _ (bytes : List ℕ) (at count : ℕ) (p : Plain) (there : at + 1 < length bytes) (is : get_or bytes (at + 1) 0 ≡ count) (low : count < 128)
    (end : p.end ≡ at + 1 + 1 + count) (within : p.end ≤ length bytes)
    (inside : ArePlain 0 (take count (drop (at + 1 + 1) bytes)) 0 (record { end = count; address = p.address })) where
  abbrev content : List ℕ
  content = take count (drop (at + 1 + 1) bytes)

  whole : length content ≡ count
  whole = length-take-le count (drop (at + 1 + 1) bytes) (omega (arith, end, within, length-drop (at + 1 + 1) bytes))

  -- what stands inside
  content_read : (c : ExprContext) (k place : ℕ) (a : Bool) → ops_into c k (gathered [] a) (input_of place content) ≡ Ok (gathered [] (a || p.address))
  content_read c k place a =
      let none : place + 0 ≡ place = omega arith in
      let all : drop count content ≡ [] = drop_of_length-le content (omega (arith, whole)) in
      (λ n. ops_into c k (gathered [] a) (input_of (sym none n) content))
      ∙ inside.skips c k place a (omega arith)
      ∙ ap (λ (w : List ℕ). ops_into c k (gathered [] (a || p.address)) (input_of (place + count) w)) all
      ∙ ops_none c k (gathered [] (a || p.address)) (place + count)

  abbrev few : AreFew 3 bytes (at + 1) (at + 1 + 1)
  few = record {
    front = get_or bytes (at + 1) 0 ∷ [];
    groups = omega (arith, is, low);
    few = omega arith;
    parts = drop_more bytes (at + 1) 0 there;
    place = omega arith;
    within = omega (arith, there);
  }

  value : groups_value few.front ≡ count
  value = let one : get_or bytes (at + 1) 0 % 128 + 128 * 0 ≡ count = omega (arith, is, low) in one

  nested_read : (c : ExprContext) (k : ℕ) (bad : Fault) (place : ℕ) (a : Bool)
      → nested_into c (suc k) bad (gathered [] a) (input_of (place + at + 1) (drop (at + 1) bytes)) ≡ Ok (gathered [] (a || p.address), input_of (place + p.end) (drop p.end bytes))
  nested_read c k bad place a =
      let left : place + at + 1 + 1 + count ≡ place + p.end = omega (arith, end) in
      let behind : drop count (drop (at + 1 + 1) bytes) ≡ drop p.end bytes = drop-drop count (at + 1 + 1) bytes ∙ ap (λ (n : ℕ). drop n bytes) (sym end) in
      rw (few_uleb bytes (at + 1) (at + 1 + 1) few (place + at + 1), value, le-ltb (length (drop (at + 1 + 1) bytes)) count (omega (arith, end, within, length-drop (at + 1 + 1) bytes)), content_read c k (place + at + 1 + 1) a)
      (λ n. Ok (gathered [] (a || p.address), input_of (left n) (behind n)))

  pub nested_plain : NestedExpr ≡ shape_of operator_rows (get_or bytes at 0) → IsPlain 1 bytes at p
  nested_plain shape = record {
    rises = omega (arith, end);
    plain = record {
      within = within;
      skips = λ c k start a few. skips c k start a few;
    };
  } where
    laid : fields_of (shape_of operator_rows (get_or bytes at 0)) ≡ Some (Inside ∷ [])
    laid = ap fields_of (sym shape)

    skips : (c : ExprContext) (k start : ℕ) (a : Bool) → 1 ≤ k → ops_into c k (gathered [] a) (input_of (start + at) (drop at bytes))
        ≡ ops_into c k (gathered [] (a || p.address)) (input_of (start + p.end) (drop p.end bytes))
    skips c zero start a some = absurd (omega (arith, some))
    skips c (suc k) start a some =
        ap (λ (w : List ℕ). ops_into c (suc k) (gathered [] a) (input_of (start + at) w)) (drop_more bytes at 0 (omega (arith, there)))
        ∙ ops_step c (suc k) (gathered [] a) (start + at) (get_or bytes at 0) (drop (at + 1) bytes)
        ∙ ap (λ (r : Result (Gathered × Input) Fault). r >>= λ q. ops_into c (suc k) q.0 q.1)
        (nested_op c (suc k) (gathered [] a) (start + at) (get_or bytes at 0) (drop (at + 1) bytes) laid ∙ nested_read c k (bad_expr c (start + at)) start a)

-- where such a one was found
pub found_nested : (bytes : List ℕ) (at : ℕ) (o : Option Plain) → at + 1 < length bytes → get_or bytes (at + 1) 0 < 128
    → NestedExpr ≡ shape_of operator_rows (get_or bytes at 0) → IfSome o (λ p. p.end ≡ at + 1 + 1 + get_or bytes (at + 1) 0) → IfSome o (λ p. p.end ≤ length bytes)
    → IfSome o (λ p. ArePlain 0 (slice_range bytes (at + 1 + 1) (at + 1 + 1 + get_or bytes (at + 1) 0)) 0 (record { end = get_or bytes (at + 1) 0; address = p.address }))
    → IfSome o (λ p. IsPlain 1 bytes at p)
found_nested bytes at None there low shape end within inside = tt
found_nested bytes at (Some p) there low shape end within inside =
    let count = get_or bytes (at + 1) 0 in
    let all : at + 1 + 1 + count - (at + 1 + 1) ≡ count = omega arith in
    nested_plain bytes at count p there refl low end within
    (subst (λ (n : ℕ). ArePlain 0 (take n (drop (at + 1 + 1) bytes)) 0 (record { end = count; address = p.address })) all inside) shape
