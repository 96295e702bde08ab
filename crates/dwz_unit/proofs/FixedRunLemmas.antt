-- Values that are passed over at once.
use Rattle.std.proofs.Common.{◌≡◌, ℕ, ◌+◌, ◌<◌, ◌≤◌, Bool, true, false, cond, ltb, List, [], ◌∷◌, ◌++◌, drop, get_or, length, take, Option, Some, None, Result, Ok, Err, refl, sym, ap, subst, ◌∙◌, arith, inl, inr}
use Rattle.std.specs.Prelude.{slice_get}
use Rattle.std.specs.Option.{option_and_then, option_map, option_map_or}
use Rattle.std.proofs.lemmas.Bool.{ltb-false}
use Rattle.std.proofs.lemmas.List.{length-append, length-drop, length_push, take_more, take-append-drop}
use Rattle.std.proofs.lemmas.Option.{same_Some, slice_get-get_or, slice_get_within}
use Rattle.dwz_bytes.specs.declared.error.ByteErr.{ByteErr}
use Rattle.dwz_bytes.specs.declared.error.ByteErr.TheVariants.{Short}
use Rattle.dwz_bytes.specs.Input.{Input, past}
use Rattle.dwz_bytes.specs.Reading.{◌>>=◌, take_at}
use Rattle.dwz_codes.specs.Forms.{form_rows}
use Rattle.dwz_codes.specs.Rows.{shape_of}
use Rattle.dwz_def_reading.specs.Entries.{attrs_at, in_entry}
use Rattle.dwz_def_reading.specs.Values.{Raw, value_at}
use Rattle.dwz_forms.specs.FixedSizes.{size_among}
use Rattle.dwz_forms.proofs.FixedReads.{among_reads}
use Rattle.dwz_model.specs.declared.fault.Fault.{Fault}
use Rattle.dwz_model.specs.declared.place.Pair.{Pair}
use Rattle.dwz_unit.specs.FixedRuns.{IsRun, TellRuns, fixed_bytes}
use Rattle.dwz_unit.specs.Fronts.{attrs_passed, place_behind}
use Rattle.dwz_unit.specs.Tables.{Grows, Stored}
use Rattle.dwz_unit.specs.declared.fixed_run.FixedRun.{FixedRun}
use Rattle.dwz_def_reading.proofs.ListFacts.{get_first}
use Rattle.dwz_def_reading.proofs.PartLemmas.{same_input}
use Rattle.dwz_unit.proofs.FrontLemmas.{one_more}
use Rattle.dwz_unit.proofs.LinkLemmas.{pushed_one}
use Rattle.dwz_unit.proofs.StopLemmas.{past_both, past_none}
use Rattle.dwz_unit.proofs.StopRowLemmas.{shape_small}

-- ---- a run, found one value after the other

-- a length, and that of what is behind
record Parts (sized others : Option ℕ) (bytes : ℕ) : Type 0 where
  pub size : ℕ
  pub is_size : sized ≡ Some size
  pub behind : ℕ
  pub is_behind : others ≡ Some behind
  pub sum : size + behind ≡ bytes

abbrev with_others : Option ℕ → Option ℕ → Option ℕ
with_others others sized = option_and_then (λ n. option_map (λ m. n + m) others) sized

parts : (sized others : Option ℕ) (bytes : ℕ) → with_others others sized ≡ Some bytes → Parts sized others bytes
parts None others bytes e = absurd cc
parts (Some n) None bytes e = absurd cc
parts (Some n) (Some m) bytes e = record { size = n; is_size = refl; behind = m; is_behind = refl; sum = same_Some (n + m) bytes e }

bytes_push : (pairs : List Pair) (pair : Pair) (bytes size : ℕ) → fixed_bytes pairs ≡ Some bytes → size_among form_rows pair.form ≡ Some size → fixed_bytes (pairs ++ pair ∷ []) ≡ Some (bytes + size)
bytes_push [] pair bytes size none sized =
    let zero : 0 ≡ bytes = same_Some 0 bytes none in
    let sum : size + 0 ≡ bytes + size = omega (arith, zero) in
    ap (with_others (Some 0)) sized ∙ ap (λ (k : ℕ). Some k) sum
bytes_push (first ∷ pairs) pair bytes size have sized =
    let p = parts (size_among form_rows first.form) (fixed_bytes pairs) bytes have in
    let later = bytes_push pairs pair p.behind size p.is_behind sized in
    let sum : p.size + (p.behind + size) ≡ bytes + size = omega (arith, p.sum) in
    ap (with_others (fixed_bytes (pairs ++ pair ∷ []))) p.is_size ∙ ap (λ (o : Option ℕ). option_map (λ m. p.size + m) o) later ∙ ap (λ (k : ℕ). Some k) sum

pub run_more : (pairs : List Pair) (n bytes size : ℕ) (d : Pair) → n < length pairs → fixed_bytes (take n pairs) ≡ Some bytes → size_among form_rows (get_or pairs n d).form ≡ Some size
    → fixed_bytes (take (n + 1) pairs) ≡ Some (bytes + size)
run_more pairs n bytes size d lt have sized = ap fixed_bytes (take_more pairs n d lt) ∙ bytes_push (take n pairs) (get_or pairs n d) bytes size have sized

-- a value whose form tells its length has few bytes
pub small_among : (form size : ℕ) → size_among form_rows form ≡ Some size → size ≤ 16
small_among form size sized = let same = ap (λ o. option_map_or (λ n. n) o 0) sized in omega (arith, shape_small (shape_of form_rows form), same)

-- ---- a run that is passed over

value_at_once : (entry : ℕ) (pair : Pair) (i : Input) (n : ℕ) → size_among form_rows pair.form ≡ Some n → n ≤ length i.rest → (in_entry entry (value_at form_rows pair i) >>= place_behind) ≡ Ok (tt, past n i)
value_at_once entry pair i n sized le =
    let read = among_reads form_rows pair i n sized le in
    ap (λ (r : Result (Raw × Input) Fault). in_entry entry r >>= place_behind) read.1

values_at_once : (entry : ℕ) (first others : List Pair) (bytes : ℕ) (i : Input) → fixed_bytes first ≡ Some bytes → bytes ≤ length i.rest
    → attrs_passed form_rows entry (first ++ others) i ≡ attrs_passed form_rows entry others (past bytes i)
unfolding attrs_at
values_at_once entry [] others bytes i none le =
    ap (attrs_passed form_rows entry others) (sym (past_none i)) ∙ ap (λ (n : ℕ). attrs_passed form_rows entry others (past n i)) (same_Some 0 bytes none)
values_at_once entry (pair ∷ first) others bytes i have le =
    let p = parts (size_among form_rows pair.form) (fixed_bytes first) bytes have in
    let left : p.behind ≤ length (past p.size i).rest = omega (arith, le, p.sum, length-drop p.size i.rest) in
    one_more form_rows (in_entry entry (value_at form_rows pair i)) entry pair (first ++ others) i.at (past p.size i) (value_at_once entry pair i p.size p.is_size (omega (arith, le, p.sum)))
    ∙ values_at_once entry first others p.behind (past p.size i) p.is_behind left
    ∙ ap (attrs_passed form_rows entry others) (past_both p.size p.behind i)
    ∙ ap (λ (n : ℕ). attrs_passed form_rows entry others (past n i)) p.sum

pub run_passed : (entry : ℕ) (pairs : List Pair) (run : FixedRun) (i : Input) → IsRun pairs run → run.bytes ≤ length i.rest
    → attrs_passed form_rows entry (drop run.count pairs) (past run.bytes i) ≡ attrs_passed form_rows entry pairs i
run_passed entry pairs run i is le =
    sym (values_at_once entry (take run.count pairs) (drop run.count pairs) run.bytes i is.1 le)
    ∙ ap (λ (w : List Pair). attrs_passed form_rows entry w i) (take-append-drop run.count pairs)

-- bytes that were taken were there
pub taken : (n : ℕ) (i j : Input) (bytes : List ℕ) → take_at n i ≡ Ok (bytes, j) → (n ≤ length i.rest) × (past n i ≡ j)
taken n i j bytes e = by (ltb (length i.rest) n) refl e where
  by : (b : Bool) → ltb (length i.rest) n ≡ b → cond {A = Result (List ℕ × Input) ByteErr} b (Err (Short i.at)) (Ok (take n i.rest, past n i)) ≡ Ok (bytes, j) → (n ≤ length i.rest) × (past n i ≡ j)
  by true is e = absurd cc
  by false is e = (ltb-false (length i.rest) n is, same_input (take n i.rest) bytes (past n i) j (Ok (take n i.rest, past n i)) refl e)

-- ---- runs of declarations

-- the run of the next declaration
pub run_told : (decls : List (List Pair)) (runs : List FixedRun) (pairs : List Pair) (run : FixedRun) → TellRuns decls runs → slice_get decls (length runs) ≡ Some pairs → IsRun pairs run
    → TellRuns decls (runs ++ run ∷ [])
run_told decls runs pairs run tell at is = (
  omega (arith, length_push runs run, slice_get_within decls (length runs) pairs at),
  λ n p r at_n is_n. elim (pushed_one runs run n r is_n) [
    | inl q ↦ tell.1 n p r at_n q
    | inr q ↦ (
        let same : pairs ≡ p = same_Some pairs p (sym at ∙ ap (slice_get decls) (sym q.0) ∙ at_n) in
        subst (IsRun p) q.1 (subst (λ (w : List Pair). IsRun w run) same is)
        )
  ],
)

runs_kept : (decls more : List (List Pair)) (runs : List FixedRun) → TellRuns decls runs → TellRuns (decls ++ more) runs
runs_kept decls more runs tell = (
  omega (arith, tell.0, length-append decls more),
  λ n p r at is. (
      let lt : n < length decls = omega (arith, tell.0, slice_get_within runs n r is) in
      let here = slice_get-get_or decls n [] lt in
      let same : get_or decls n [] ≡ p = same_Some (get_or decls n []) p (sym (get_first decls more n (get_or decls n []) here) ∙ at) in
      subst (λ (w : List Pair). IsRun w r) same (tell.1 n (get_or decls n []) r here is)
      ),
)

pub runs_grown : (old new : Stored) (runs : List FixedRun) → Grows old new → TellRuns old.decls runs → TellRuns new.decls runs
runs_grown old new runs grows tell = subst (λ (w : List (List Pair)). TellRuns w runs) (sym grows.decls) (runs_kept old.decls grows.more runs tell)
