-- A location list is its first entry, and the list that begins behind that.
use Rattle.std.proofs.Common.{◌≡◌, ◌≢◌, ℕ, zero, suc, ◌+◌, ◌<◌, ◌≤◌, List, [], ◌∷◌, ◌++◌, drop, length, Option, Some, None, Result, Ok, Err, refl, sym, ap, subst, ◌∙◌, inl, inr, arith}
use Rattle.std.proofs.lemmas.List.{append-nil, drop-drop, length-drop}
use Rattle.std.proofs.Math.Seq.{drop-append_seam}
use Rattle.dwz_model.specs.declared.fault.Fault.{Fault}
use Rattle.dwz_model.specs.declared.fault.ReadErr.{ReadErr}
use Rattle.dwz_model.specs.declared.fault.ReadErr.TheVariants.{NoMemory, Refused}
use Rattle.dwz_bytes.specs.Input.{Input, input}
use Rattle.dwz_bytes.specs.Reading.{◌>>=◌, fixed_at}
use Rattle.dwz_codes.specs.ListKinds.{list_kind_rows}
use Rattle.dwz_def_reading.specs.Faults.{Fails}
use Rattle.dwz_def_reading.specs.Values.{shape_of}
use Rattle.dwz_def_reading.specs.declared.exprs.Operand.{Operand}
use Rattle.dwz_def_reading.specs.Exprs.{ExprContext, Expression, FieldItem, expr_at, fields_of, most_inside, or_fault}
use Rattle.dwz_def_reading.specs.Lists.{In}
use Rattle.dwz_def_reading.specs.LocLists.{LocList, bad_list, list_at, list_entry_at}
use Rattle.dwz_def_reading.specs.Sequences.{read_from, row_at, value_only}
use Rattle.dwz_def_reading.specs.Shared.{operands_of}
use Rattle.dwz_def_reading.proofs.CutLemmas.{Lie}
use Rattle.dwz_def_reading.proofs.ExprLemmas.{expr_agrees}
use Rattle.dwz_def_reading.proofs.SequenceLemmas.{input_of}
use Rattle.dwz_def_reading.proofs.StandLemmas.{within_stands}
use Rattle.dwz_expr.specs.FirstFault.{asked}
use Rattle.dwz_expr.proofs.AskedLemmas.{asked_bind, asked_none}
use Rattle.dwz_lists.specs.Entries.{IsEntry, ReadsEntry, with_before}
use Rattle.dwz_lists.specs.Gathering.{Adds, Gathered, behind, exprs_with, gather_row, in_lists, kind_front, row_into, with_expr}
use Rattle.dwz_lists.proofs.GatherLemmas.{IsKind, list_is, none_step}
use Rattle.dwz_lists.proofs.WalkLemmas.{Leaves, front_stops, held, kind_leaves, list_ends, list_fails, list_given, no_kind}

-- ---- the list behind an entry

abbrev before_all : Gathered → LocList × Input → Result (LocList × Input) Fault
before_all xs z = Ok (record { exprs = xs ++ z.0.exprs; end = z.0.end }, z.1)

gathers_before : (c : ExprContext) (stop : Fault) (xs : Gathered) (i : Input) → row_into c stop xs i ≡ (row_into c stop [] i >>= before_all xs)
unfolding row_into
gathers_before c stop xs i = by (row_at (list_entry_at c) stop i) where
  by : (r : Result (List (List FieldItem) × Input) Fault) → (r >>= gather_row xs) ≡ ((r >>= gather_row []) >>= before_all xs)
  by (Ok x) = refl
  by (Err f) = refl

-- the fault for a list without an end is never answered
module _ (c : ExprContext) (s t : Fault) where
  same_kind : (k : ℕ) → ((xs : Gathered) (i : Input) → length i.rest < k → row_into c s xs i ≡ row_into c t xs i) → (xs : Gathered) (i : Input) → length i.rest < suc k
      → (kind : ℕ) (rest : List ℕ) → i.rest ≡ kind ∷ rest → kind ≢ 0 → row_into c s xs i ≡ row_into c t xs i
  same_kind k others xs i lt kind rest same some = front_of (kind_front i.at (fields_of (shape_of list_kind_rows kind)) (input_of (i.at + 1) rest)) refl where
    is_kind : IsKind i kind (input_of (i.at + 1) rest)
    is_kind = record { rest = same; at = refl }

    expr_of : (m : Input) → length m.rest < k → (r : Result Gathered Fault) → ((r >>= behind m) >>= λ p. row_into c s p.0 p.1) ≡ ((r >>= behind m) >>= λ p. row_into c t p.0 p.1)
    expr_of m less (Ok ys) = others ys m less
    expr_of m less (Err f) = refl

    front_of : (r : Result (Option Input × Input) Fault) → kind_front i.at (fields_of (shape_of list_kind_rows kind)) (input_of (i.at + 1) rest) ≡ r → row_into c s xs i ≡ row_into c t xs i
    front_of (Err f) e = front_stops c s i (input_of (i.at + 1) rest) kind is_kind xs i.at refl some f e ∙ sym (front_stops c t i (input_of (i.at + 1) rest) kind is_kind xs i.at refl some f e)
    front_of (Ok y) e =
        let less : length y.1.rest < k = omega (arith, (kind_leaves i.at kind (input_of (i.at + 1) rest) y.0 y.1 e).fewer, ap length same, lt) in
        held c s i (input_of (i.at + 1) rest) kind is_kind xs i.at refl some y.0 y.1 e
        ∙ expr_of y.1 less (exprs_with c xs y.0)
        ∙ sym (held c t i (input_of (i.at + 1) rest) kind is_kind xs i.at refl some y.0 y.1 e)

  same_next : (k : ℕ) → ((xs : Gathered) (i : Input) → length i.rest < k → row_into c s xs i ≡ row_into c t xs i) → (xs : Gathered) (i : Input) → length i.rest < suc k
      → (bytes : List ℕ) → i.rest ≡ bytes → row_into c s xs i ≡ row_into c t xs i
  same_next k others xs i lt [] none =
      let is : i ≡ input_of i.at [] = λ n. record { at = i.at; rest = none n } in
      ap (row_into c s xs) is ∙ none_step c s xs i.at ∙ sym (none_step c t xs i.at) ∙ sym (ap (row_into c t xs) is)
  same_next k others xs i lt (zero ∷ rest) same =
      let is_kind : IsKind i 0 (input_of (i.at + 1) rest) = record { rest = same; at = refl } in
      list_ends c s i (input_of (i.at + 1) rest) 0 is_kind xs refl ∙ sym (list_ends c t i (input_of (i.at + 1) rest) 0 is_kind xs refl)
  same_next k others xs i lt (suc n ∷ rest) same = same_kind k others xs i lt (suc n) rest same (λ e. absurd (omega arith))

  same_stops : (k : ℕ) (xs : Gathered) (i : Input) → length i.rest < k → row_into c s xs i ≡ row_into c t xs i
  same_stops zero xs i lt = absurd (omega arith)
  same_stops (suc k) xs i lt = same_next k (same_stops k) xs i lt i.rest refl

list_behind : (section : List ℕ) (c : ExprContext) (stop : Fault) (xs : Gathered) (m : Input) → m ≡ input section m.at
    → (row_into c stop xs m >>= value_only) ≡ (read_from (list_at c) section m.at >>= with_before xs)
list_behind section c stop xs m is =
    ap (λ (r : Result (LocList × Input) Fault). r >>= value_only) (gathers_before c stop xs m ∙ ap (λ (r : Result (LocList × Input) Fault). r >>= before_all xs)
    (same_stops c stop (bad_list m.at) (suc (length m.rest)) [] m (omega arith)))
    ∙ by (row_into c (bad_list m.at) [] m)
    ∙ ap (λ (r : Result LocList Fault). r >>= with_before xs) (ap (λ (w : Input). row_into c (bad_list m.at) [] w >>= value_only) is ∙ sym (list_is c section m.at)) where
      by : (r : Result (LocList × Input) Fault) → ((r >>= before_all xs) >>= value_only) ≡ ((r >>= value_only) >>= with_before xs)
      by (Ok z) = refl
      by (Err f) = refl

-- ---- one entry

no_operands : operands_of [] ≡ []
unfolding operands_of
no_operands = refl

one_has : (e : Expression) → operands_of (e ∷ []) ≡ e.operands
unfolding operands_of
one_has e = append-nil e.operands

expr_asked : (c : ExprContext) (y : Input) (own : List Operand) (answer : Result Expression Fault) → expr_at c y ≡ asked c own answer → exprs_with c [] (Some y) ≡ asked c own (answer >>= with_expr [])
expr_asked c y own answer is = ap (λ (r : Result Expression Fault). r >>= with_expr []) is ∙ asked_bind c own answer (with_expr [])

-- an operand ends where the bytes of its expression do, or before
lie_ends : (os : List Operand) (from to : ℕ) → Lie from to os → (from ≤ to) × ((o : Operand) → In o os → o.at + o.width ≤ to)
lie_ends [] from to h = (h, λ o is. absurd is)
lie_ends (p ∷ os) from to h =
    let low = h.0 in
    let more = lie_ends os (p.at + p.width) to h.2 in
    let order = more.0 in (
      omega arith,
      λ o is. elim is [
        | inl same ↦ subst (λ (x : Operand). x.at + x.width ≤ to) same order
        | inr later ↦ more.1 o later
      ],
    )

ends_within : (y : Input) (found : Expression) → expr_at in_lists y ≡ Ok found → (end : ℕ) → y.at + length y.rest ≤ end → (o : Operand) → In o found.operands → o.at + o.width ≤ end
ends_within y found read end le o is =
    let lies = (within_stands in_lists (suc most_inside) found y.at y.rest (((expr_agrees in_lists y).ok found).0 read)).lie in
    let last = (lie_ends found.operands y.at (y.at + length y.rest) lies).1 o is in
    omega arith

pub entry_stops : (section : List ℕ) (place : ℕ) (own : List Operand) (e : ReadErr)
    → ((f : Fault) → e ≡ Refused f → (c : ExprContext) → c.section ≡ 7 → read_from (list_at c) section place ≡ asked c own (Err f)) → ReadsEntry section place own (Err e)
entry_stops section place own NoMemory each = tt
entry_stops section place own (Refused f) each = each f refl

-- a fault before any operand
plain_stops : (section : List ℕ) (place : ℕ) (own : List Operand) (e : ReadErr) → own ≡ []
    → ((f : Fault) → e ≡ Refused f → (c : ExprContext) → row_into c (bad_list place) [] (input section place) ≡ Err f) → ReadsEntry section place own (Err e)
plain_stops section place own e none each =
    entry_stops section place own e (λ f is c same. list_fails c section place f (each f is c) ∙ sym (ap (λ (w : List Operand). asked c w (Err f)) none ∙ asked_none c (Err f)))

fails_as : {X : Type 0} (e : ReadErr) (f : Fault) (r : Result X Fault) → e ≡ Refused f → Fails e r → r ≡ Err f
fails_as NoMemory f r is fails = absurd cc
fails_as (Refused g) f r is fails = let same : g ≡ f = cc in fails ∙ ap (λ (x : Fault). Err x) same

pub kind_bad : (section : List ℕ) (place : ℕ) (own : List Operand) (e : ReadErr) (i : Input) (bad : Fault) → own ≡ [] → i ≡ input section place → bad ≡ bad_list place
    → Fails e (or_fault bad (fixed_at 1 i)) → ReadsEntry section place own (Err e)
kind_bad section place own e i bad none here is_bad fails =
    plain_stops section place own e none (λ f is c. no_kind c (bad_list place) [] (input section place) place refl bad is_bad f
    (ap (λ (w : Input). or_fault bad (fixed_at 1 w)) (sym here) ∙ fails_as e f (or_fault bad (fixed_at 1 i)) is fails))

module _ (section : List ℕ) (place : ℕ) (j : Input) (kind : ℕ) (is_kind : IsKind (input section place) kind j) where
  within_kind : place < length section
  within_kind = omega (arith, ap length is_kind.rest, length-drop place section)

  pub entry_ends : (own : List Operand) → own ≡ [] → kind ≡ 0 → ReadsEntry section place own (Ok None)
  entry_ends own none is = (none, (within_kind, λ c. list_given c section place [] j (place + 1) (sym is_kind.at) (list_ends c (bad_list place) (input section place) j kind is_kind [] is)))

  module _ (some : kind ≢ 0) where
    pub front_bad : (own : List Operand) (e : ReadErr) → own ≡ [] → Fails e (kind_front place (fields_of (shape_of list_kind_rows kind)) j) → ReadsEntry section place own (Err e)
    front_bad own e none fails =
        plain_stops section place own e none (λ f is c. front_stops c (bad_list place) (input section place) j kind is_kind [] place refl some f
        (fails_as e f (kind_front place (fields_of (shape_of list_kind_rows kind)) j) is fails))

    module _ (x : Option Input) (m : Input) (ok : kind_front place (fields_of (shape_of list_kind_rows kind)) j ≡ Ok (x, m)) where
      left : Leaves j m x
      left = kind_leaves place kind j x m ok

      there : m ≡ input section m.at
      there =
          let front = left.goes.front in
          let at : m.at ≡ place + suc (length front) = omega (arith, left.goes.place, is_kind.at) in
          let rest : drop m.at section ≡ m.rest =
          ap (λ (n : ℕ). drop n section) at ∙ sym (drop-drop (suc (length front)) place section) ∙ ap (drop (suc (length front))) is_kind.rest ∙ ap (drop (length front)) left.goes.parts
          ∙ drop-append_seam front m.rest in
          λ n. record { at = m.at; rest = sym rest n }

      followed : (own : List Operand) (answer : Result Gathered Fault) (c : ExprContext) → exprs_with c [] x ≡ asked c own answer
          → read_from (list_at c) section place ≡ asked c own (((answer >>= behind m) >>= λ p. row_into c (bad_list place) p.0 p.1) >>= value_only)
      followed own answer c is =
          list_is c section place
          ∙ ap (λ (r : Result (LocList × Input) Fault). r >>= value_only)
          (held c (bad_list place) (input section place) j kind is_kind [] place refl some x m ok
          ∙ ap (λ (r : Result Gathered Fault). (r >>= behind m) >>= λ p. row_into c (bad_list place) p.0 p.1) is
          ∙ ap (λ (r : Result (Gathered × Input) Fault). r >>= λ p. row_into c (bad_list place) p.0 p.1) (asked_bind c own answer (behind m))
          ∙ asked_bind c own (answer >>= behind m) (λ p. row_into c (bad_list place) p.0 p.1))
          ∙ asked_bind c own ((answer >>= behind m) >>= λ p. row_into c (bad_list place) p.0 p.1) value_only

      entry_of : (own : List Operand) (ys : Gathered) → operands_of ys ≡ own → ((o : Operand) → In o own → o.at + o.width ≤ m.at)
          → ((c : ExprContext) → c.section ≡ 7 → exprs_with c [] x ≡ asked c own (Ok ys)) → IsEntry section place own m.at
      entry_of own ys has inside each = record {
        exprs = ys;
        has = has;
        rises = omega (arith, left.goes.place, is_kind.at);
        within = omega (arith, left.end, is_kind.at, ap length is_kind.rest, length-drop place section);
        inside = inside;
        leads = λ c e. followed own (Ok ys) c (each c e) ∙ ap (asked c own) (list_behind section c (bad_list place) ys m there);
      }

    module _ (m : Input) where
      pub entry_read : (x : Option Input) (own : List Operand) → kind_front place (fields_of (shape_of list_kind_rows kind)) j ≡ Ok (x, m) → Adds x own (Ok tt) → IsEntry section place own m.at
      entry_read None own ok none = entry_of None m ok own [] (no_operands ∙ sym none) (λ o is. absurd (subst (λ (w : List Operand). In o w) none is)) (λ c e. sym (ap (λ (w : List Operand). asked c w (Ok [])) none ∙ asked_none c (Ok [])))
      entry_read (Some y) own ok (address, read) =
          let found : Expression = record { at = y.at; bytes = y.rest; operands = own; address = address } in
          entry_of (Some y) m ok own (found ∷ []) (one_has found) (ends_within y found read.0 m.at (kind_leaves place kind j (Some y) m ok).content) (λ c e. expr_asked c y own (Ok found) (read.1 c e ∙ ap (asked c own) read.0))

      pub expr_bad : (x : Option Input) (own : List Operand) (e : ReadErr) → kind_front place (fields_of (shape_of list_kind_rows kind)) j ≡ Ok (x, m) → Adds x own (Err e)
          → ReadsEntry section place own (Err e)
      expr_bad None own e ok never = absurd never
      expr_bad (Some y) own NoMemory ok read = tt
      expr_bad (Some y) own (Refused f) ok read = λ c e. followed (Some y) m ok own (Err f) c (expr_asked c y own (Err f) (read.1 c e ∙ ap (asked c own) read.0))
