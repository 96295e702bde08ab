-- One turn of the loop over entries.
use Rattle.std.proofs.Common.{append_assoc, ◌≡◌, ◌≢◌, ◌⊎◌, ℕ, ◌+◌, ◌<◌, ◌≤◌, List, [], ◌∷◌, ◌++◌, length, Option, Some, None, Result, Ok, Err, refl, sym, ap, subst, ◌∙◌, arith, inl, inr, ◌^◌}
use Rattle.std.proofs.lemmas.List.{length-append}
use Rattle.dwz_model.specs.declared.fault.Fault.{Fault}
use Rattle.dwz_bytes.specs.Input.{Input, input}
use Rattle.dwz_bytes.specs.Reading.{◌>>=◌, fixed_at, take_at, uleb_at}
use Rattle.dwz_codes.specs.ListKinds.{list_kind_rows}
use Rattle.dwz_def_reading.specs.Exprs.{ExprContext, Field, Inside, Located, Unsigned, fields_of, or_fault}
use Rattle.dwz_def_reading.specs.LocLists.{LocList, bad_list, list_at}
use Rattle.dwz_def_reading.specs.Sequences.{read_from, value_only}
use Rattle.dwz_def_reading.specs.Values.{shape_of}
use Rattle.dwz_def_reading.proofs.FieldLemmas.{bytes_agree}
use Rattle.dwz_def_reading.proofs.PartLemmas.{bind_ok, same_input, same_value}
use Rattle.dwz_def_reading.proofs.ReadLemmas.{fixed_reads, run_reads, uleb_reads}
use Rattle.dwz_def_reading.proofs.SequenceLemmas.{input_of}
use Rattle.dwz_lists.specs.Gathering.{Gathered, IsShort, behind, content_at, counted, exprs_with, front_at, held_by, kind_front, kind_into, row_into, with_content}
use Rattle.dwz_lists.proofs.GatherLemmas.{AreListed, IsKind, end_step, kind_listed, kind_step, list_is, none_step}

-- ---- what the front of an entry leaves

-- what reads bytes from the front leaves the others
pub record Goes (i j : Input) : Type 0 where
  pub front : List ℕ
  pub parts : i.rest ≡ front ++ j.rest
  pub place : j.at ≡ i.at + length front

same_end : (i j : Input) → Goes i j → j.at + length j.rest ≡ i.at + length i.rest
same_end i j g = omega (arith, g.place, ap length g.parts, length-append g.front j.rest)

fewer_left : (i j : Input) → Goes i j → length j.rest ≤ length i.rest
fewer_left i j g = omega (arith, ap length g.parts, length-append g.front j.rest)

goes_twice : (i j m : Input) → Goes i j → Goes j m → Goes i m
goes_twice i j m g h = record {
  front = g.front ++ h.front;
  parts = g.parts ∙ ap (λ (w : List ℕ). g.front ++ w) h.parts ∙ sym (append_assoc g.front h.front m.rest);
  place = omega (arith, g.place, h.place, length-append g.front h.front);
}

-- an expression's bytes are read before
abbrev pub EndsBefore : ℕ → Option Input → Type 0
EndsBefore end None = Unit {0}
EndsBefore end (Some y) = y.at + length y.rest ≤ end

pub record Leaves (i m : Input) (x : Option Input) : Type 0 where
  pub goes : Goes i m
  pub end : m.at + length m.rest ≡ i.at + length i.rest
  pub fewer : length m.rest ≤ length i.rest
  pub short : i.at + length i.rest < 2 ^ 64 → IsShort x
  pub content : EndsBefore m.at x

abbrev front : Option Input → Input → Result (Option Input × Input) Fault
front x j = Ok (x, j)

same_front : (x y : Option Input) (i j : Input) → front x i ≡ front y j → (x ≡ y) × (i ≡ j)
same_front x y i j e = (same_value x y i j (front x i) refl e, same_input x y i j (front x i) refl e)

uleb_goes : (bad : Fault) (i : Input) (n : ℕ) (j : Input) → or_fault bad (uleb_at i) ≡ Ok (n, j) → Goes i j
uleb_goes bad i n j is =
    let t = ((bytes_agree uleb_reads bad i).ok (n, j)).0 is in
    record { front = t.front; parts = t.parts; place = t.place }

address_goes : (bad : Fault) (i : Input) (n : ℕ) (j : Input) → or_fault bad (fixed_at 8 i) ≡ Ok (n, j) → Goes i j
address_goes bad i n j is =
    let t = ((bytes_agree (fixed_reads 8) bad i).ok (n, j)).0 is in
    record { front = t.front; parts = t.parts; place = t.place }

-- and so do those behind it
then_leaves : (i j m : Input) (x : Option Input) → Goes i j → Leaves j m x → Leaves i m x
then_leaves i j m x g l = record {
  goes = goes_twice i j m g l.goes;
  end = omega (arith, same_end i j g, l.end);
  fewer = omega (arith, fewer_left i j g, l.fewer);
  short =
      λ lt. l.short (omega (arith, same_end i j g, lt));
  content = l.content;
}

content_leaves : (bad : Fault) (i : Input) (x : Option Input) (m : Input) → content_at bad i ≡ front x m → Leaves i m x
content_leaves bad i x m is =
    let b = bind_ok (or_fault bad (uleb_at i)) (counted bad) (x, m) is in
    let n = b.0 in
    let g = uleb_goes bad i n.0 n.1 b.1 in
    let d = bind_ok (or_fault bad (take_at n.0 n.1)) (with_content n.1.at) (x, m) b.2 in
    let y = d.0 in
    let t = ((bytes_agree (run_reads n.0) bad n.1).ok y).0 d.1 in
    let same = same_front (Some (record { at = n.1.at; rest = y.0 })) x y.1 m d.2 in
    let at = t.place in
    let len = ap length t.parts in
    let size = ap length t.spelled.same in
    let there : Leaves i y.1 (Some (record { at = n.1.at; rest = y.0 })) = record {
      goes = goes_twice i n.1 y.1 g (record { front = t.front; parts = t.parts; place = t.place });
      end = omega (arith, at, len, same_end i n.1 g, length-append t.front y.1.rest);
      fewer = omega (arith, len, fewer_left i n.1 g, length-append t.front y.1.rest);
      short = λ lt. omega (arith, at, len, size, same_end i n.1 g, lt, length-append t.front y.1.rest);
      content = omega (arith, at, size);
    } in
    subst (λ (w : Option Input). Leaves i m w) same.0 (subst (λ (w : Input). Leaves i w (Some (record { at = n.1.at; rest = y.0 }))) same.1 there)

front_leaves : (bad : Fault) (fields : List Field) (i : Input) (x : Option Input) (m : Input) → AreListed fields → front_at bad fields i ≡ front x m → Leaves i m x
unfolding front_at
front_leaves bad [] i x m listed is =
    let same = same_front None x i m is in
    let here : Leaves i i None = record { goes = record { front = []; parts = refl; place = omega arith }; end = refl; fewer = omega arith; short = λ lt. tt; content = tt } in
    subst (λ (w : Option Input). Leaves i m w) same.0 (subst (λ (w : Input). Leaves i w None) same.1 here)
front_leaves bad (Unsigned ∷ fields) i x m listed is =
    let b = bind_ok (or_fault bad (uleb_at i)) (λ y. front_at bad fields y.1) (x, m) is in
    then_leaves i b.0.1 m x (uleb_goes bad i b.0.0 b.0.1 b.1) (front_leaves bad fields b.0.1 x m listed b.2)
front_leaves bad (Located ∷ fields) i x m listed is =
    let b = bind_ok (or_fault bad (fixed_at 8 i)) (λ y. front_at bad fields y.1) (x, m) is in
    then_leaves i b.0.1 m x (address_goes bad i b.0.0 b.0.1 b.1) (front_leaves bad fields b.0.1 x m listed b.2)
front_leaves bad (Inside ∷ []) i x m listed is = content_leaves bad i x m is
front_leaves bad (_ ∷ fields) i x m listed is = absurd listed

pub kind_leaves : (at kind : ℕ) (i : Input) (x : Option Input) (m : Input) → kind_front at (fields_of (shape_of list_kind_rows kind)) i ≡ Ok (x, m) → Leaves i m x
kind_leaves at kind i x m is = by (fields_of (shape_of list_kind_rows kind)) refl is where
  by : (laid : Option (List Field)) → fields_of (shape_of list_kind_rows kind) ≡ laid → kind_front at laid i ≡ front x m → Leaves i m x
  by None none e = absurd cc
  by (Some fields) laid e = front_leaves (bad_list at) fields i x m (kind_listed kind fields laid) e

-- ---- one turn

abbrev pub Held : Type 0
Held = Gathered × Input

module _ (c : ExprContext) (stop : Fault) (i j : Input) (kind : ℕ) (is_kind : IsKind i kind j) (xs : Gathered) where
  whole : i ≡ input_of i.at (kind ∷ j.rest)
  whole = let rest = is_kind.rest in λ n. record { at = i.at; rest = rest n }

  behind_is : input_of (i.at + 1) j.rest ≡ j
  behind_is = let at = sym is_kind.at in λ n. record { at = at n; rest = j.rest }

  pub list_ends : kind ≡ 0 → row_into c stop xs i ≡ Ok (record { exprs = xs; end = j.at }, j)
  list_ends zero =
      ap (row_into c stop xs) (whole ∙ ap (λ (n : ℕ). input_of i.at (n ∷ j.rest)) zero) ∙ end_step c stop xs i.at j.rest
      ∙ ap (λ (w : Input). Ok (record { exprs = xs; end = w.at }, w)) behind_is

  module _ (at : ℕ) (here : at ≡ i.at) (some : kind ≢ 0) where
    stepped : row_into c stop xs i ≡ (kind_into c at (fields_of (shape_of list_kind_rows kind)) xs j >>= λ p. row_into c stop p.0 p.1)
    stepped =
        ap (row_into c stop xs) whole ∙ kind_step c stop xs i.at kind j.rest some
        ∙ ap (λ (w : Input). kind_into c i.at (fields_of (shape_of list_kind_rows kind)) xs w >>= λ p. row_into c stop p.0 p.1) behind_is
        ∙ ap (λ (n : ℕ). kind_into c n (fields_of (shape_of list_kind_rows kind)) xs j >>= λ p. row_into c stop p.0 p.1) (sym here)

    pub front_stops : (f : Fault) → kind_front at (fields_of (shape_of list_kind_rows kind)) j ≡ Err f → row_into c stop xs i ≡ Err f
    front_stops f err = stepped ∙ ap (λ (r : Result (Option Input × Input) Fault). (r >>= held_by c xs) >>= λ p. row_into c stop p.0 p.1) err

    module _ (x : Option Input) (m : Input) (ok : kind_front at (fields_of (shape_of list_kind_rows kind)) j ≡ Ok (x, m)) where
      pub held : row_into c stop xs i ≡ ((exprs_with c xs x >>= behind m) >>= λ p. row_into c stop p.0 p.1)
      held = stepped ∙ ap (λ (r : Result (Option Input × Input) Fault). (r >>= held_by c xs) >>= λ p. row_into c stop p.0 p.1) ok

      pub goes_on : (ys : Gathered) → exprs_with c xs x ≡ Ok ys → row_into c stop xs i ≡ row_into c stop ys m
      goes_on ys is = held ∙ ap (λ (r : Result Gathered Fault). (r >>= behind m) >>= λ p. row_into c stop p.0 p.1) is

      pub expr_stops : (f : Fault) → exprs_with c xs x ≡ Err f → row_into c stop xs i ≡ Err f
      expr_stops f err = held ∙ ap (λ (r : Result Gathered Fault). (r >>= behind m) >>= λ p. row_into c stop p.0 p.1) err

-- no kind is left
pub no_kind : (c : ExprContext) (stop : Fault) (xs : Gathered) (i : Input) (at : ℕ) → at ≡ i.at → (bad : Fault) → bad ≡ bad_list at → (f : Fault) → or_fault bad (fixed_at 1 i) ≡ Err f
    → row_into c stop xs i ≡ Err f
no_kind c stop xs i at here bad is_bad f is = by i.rest refl where
  h : (f ≡ bad_list i.at) × ((length i.rest < 1) ⊎ ⊥)
  h = ((bytes_agree (fixed_reads 1) (bad_list i.at) i).err f).0 (ap (λ (b : Fault). or_fault b (fixed_at 1 i)) (sym (is_bad ∙ ap bad_list here)) ∙ is)

  by : (bytes : List ℕ) → i.rest ≡ bytes → row_into c stop xs i ≡ Err f
  by [] same = ap (row_into c stop xs) (let is : i ≡ input_of i.at [] = λ n. record { at = i.at; rest = same n } in is) ∙ none_step c stop xs i.at ∙ ap (λ (g : Fault). Err g) (sym h.0)
  by (b ∷ bytes) same = absurd (elim h.1 [ inl few ↦ (let len = ap length same in omega (arith, few, len)) | inr never ↦ never ])

-- the list is what was gathered from its place on
pub list_fails : (c : ExprContext) (section : List ℕ) (at : ℕ) (f : Fault) → row_into c (bad_list at) [] (input section at) ≡ Err f → read_from (list_at c) section at ≡ Err f
list_fails c section at f is = list_is c section at ∙ ap (λ (r : Result (LocList × Input) Fault). r >>= value_only) is

pub list_given : (c : ExprContext) (section : List ℕ) (at : ℕ) (xs : Gathered) (j : Input) (end : ℕ) → end ≡ j.at
    → row_into c (bad_list at) [] (input section at) ≡ Ok (record { exprs = xs; end = j.at }, j) → read_from (list_at c) section at ≡ Ok (record { exprs = xs; end = end })
list_given c section at xs j end same is = list_is c section at ∙ ap (λ (r : Result (LocList × Input) Fault). r >>= value_only) is ∙ ap (λ (n : ℕ). Ok (record { exprs = xs; end = n })) (sym same)
