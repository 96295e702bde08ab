-- What is gathered step by step is what the list holds, in any context.
use Rattle.std.proofs.Common.{◌≡◌, ◌≢◌, ℕ, suc, ◌+◌, Bool, true, false, cond, List, [], ◌∷◌, ◌++◌, length, Option, Some, None, Result, Ok, Err, refl, sym, ap, ◌∙◌, append_assoc}
use Rattle.std.proofs.lemmas.Bool.{ne_eqb}
use Rattle.std.proofs.lemmas.List.{append-nil}
use Rattle.dwz_model.specs.declared.fault.Fault.{Fault}
use Rattle.dwz_bytes.specs.Input.{Input, input}
use Rattle.dwz_bytes.specs.Reading.{◌>>=◌, fixed_at, take_at, uleb_at}
use Rattle.std.specs.List.{list_all}
use Rattle.dwz_codes.specs.ListKinds.{list_kind_rows}
use Rattle.dwz_codes.specs.Rows.{RowView, row_of}
use Rattle.dwz_def_reading.specs.Exprs.{AnAddress, ExprContext, Expression, Field, FieldItem, Holds, Inside, Located, Names, Unsigned, an_address, expr_at, expr_within, expressions_in, fields_at}
use Rattle.dwz_def_reading.specs.Exprs.{fields_of}
use Rattle.dwz_def_reading.specs.Exprs.{held, inside_at, inside_of, joined_items, most_inside, nothing, or_fault, seen_piece}
use Rattle.dwz_def_reading.specs.LocLists.{as_entry, bad_list, behind_kind, entry_by, list_at, list_entry_at, with_entries}
use Rattle.dwz_def_reading.specs.Sequences.{after_row_item, read_from, row_at, then_make, then_read, value_only, with_item_before}
use Rattle.dwz_def_reading.specs.Values.{shape_in, shape_of}
use Rattle.dwz_def_reading.proofs.FieldLemmas.{bytes_agree}
use Rattle.dwz_def_reading.proofs.LocListLemmas.{row_goes_on}
use Rattle.dwz_def_reading.proofs.ReadLemmas.{fixed_reads}
use Rattle.dwz_def_reading.proofs.AbbrevLemmas.{byte_of}
use Rattle.dwz_def_reading.proofs.SequenceLemmas.{input_of}
use Rattle.dwz_expr.proofs.LoopLemmas.{row_holds}
use Rattle.dwz_lists.specs.Gathering.{Gathered, behind, content_at, counted, front_at, gather_row, held_by, kind_into, row_into, with_content, with_expr}

-- ---- in turn

pub exprs_append : (a b : List FieldItem) → expressions_in (a ++ b) ≡ expressions_in a ++ expressions_in b
unfolding expressions_in
exprs_append [] b = refl
exprs_append (Names o ∷ a) b = exprs_append a b
exprs_append (AnAddress ∷ a) b = exprs_append a b
exprs_append (Holds e ∷ a) b = ap (λ (w : List Expression). e ∷ w) (exprs_append a b)

abbrev pub into : (xs : Gathered) (x : List FieldItem × Input) → Result (Gathered × Input) Fault
into xs x = Ok (xs ++ expressions_in x.0, x.1)

gather_append : (xs : Gathered) (a b : List FieldItem) → xs ++ expressions_in (a ++ b) ≡ (xs ++ expressions_in a) ++ expressions_in b
gather_append xs a b = ap (λ (w : List Expression). xs ++ w) (exprs_append a b) ∙ sym (append_assoc xs (expressions_in a) (expressions_in b))

-- ---- fields

-- the fields that stand in lists: an expression comes last
abbrev pub AreListed : List Field → Type 0
AreListed [] = Unit {0}
AreListed (Unsigned ∷ fields) = AreListed fields
AreListed (Located ∷ fields) = AreListed fields
AreListed (Inside ∷ []) = Unit {0}
AreListed _ = ⊥

module _ (c : ExprContext) where
  -- the fault for an expression that may not stand there is never answered here
  within_is : (bad : Fault) (i : Input) → expr_within c (suc most_inside) bad i ≡ expr_at c i
  unfolding expr_within
  within_is bad i = refl

  -- behind a field that holds no expression
  past_piece : (bad : Fault) (fields : List Field) (xs : Gathered) (founds : List FieldItem) (r : Result (List FieldItem × Input) Fault) → expressions_in founds ≡ []
      → ((r >>= then_make (λ a b. a ++ b) founds) >>= into xs) ≡ (r >>= into xs)
  past_piece bad fields xs founds (Ok y) none = ap (λ (w : Gathered). Ok (xs ++ w, y.1)) (exprs_append founds y.0 ∙ ap (λ (w : Gathered). w ++ expressions_in y.0) none)
  past_piece bad fields xs founds (Err f) none = refl

  no_expr : expressions_in [] ≡ []
  unfolding expressions_in
  no_expr = refl

  no_expr_there : expressions_in (AnAddress ∷ []) ≡ []
  unfolding expressions_in
  no_expr_there = refl

  last_into : (bad : Fault) (xs : Gathered) (i : Input) → (fields_at (expr_within c (suc most_inside)) bad (Inside ∷ []) i >>= into xs) ≡ (content_at bad i >>= held_by c xs)
  unfolding fields_at expressions_in
  last_into bad xs i = length_of (or_fault bad (uleb_at i)) where
    expr_of : (j : Input) (r : Result Expression Fault) → (((r >>= held j) >>= then_read (λ _. fields_at (expr_within c (suc most_inside)) bad []) (λ a b. a ++ b)) >>= into xs)
        ≡ ((r >>= with_expr xs) >>= behind j)
    expr_of j (Ok e) = refl
    expr_of j (Err f) = refl

    content_of_it : (at : ℕ) (r : Result (List ℕ × Input) Fault) → (((r >>= inside_of (expr_within c (suc most_inside)) bad at) >>= then_read (λ _. fields_at (expr_within c (suc most_inside)) bad [])
        (λ a b. a ++ b)) >>= into xs) ≡ ((r >>= with_content at) >>= held_by c xs)
    content_of_it at (Ok x) =
        ap (λ (r : Result Expression Fault). ((r >>= held x.1) >>= then_read (λ _. fields_at (expr_within c (suc most_inside)) bad []) (λ a b. a ++ b)) >>= into xs) (within_is bad (input_of at x.0))
        ∙ expr_of x.1 (expr_at c (input_of at x.0))
    content_of_it at (Err f) = refl

    length_of : (r : Result (ℕ × Input) Fault) → (((r >>= inside_at (expr_within c (suc most_inside)) bad) >>= then_read (λ _. fields_at (expr_within c (suc most_inside)) bad []) (λ a b. a ++ b)) >>=
        into xs) ≡ ((r >>= counted bad) >>= held_by c xs)
    length_of (Ok n) = content_of_it n.1.at (or_fault bad (take_at n.0 n.1))
    length_of (Err f) = refl

  pub fields_are : (bad : Fault) (fields : List Field) (xs : Gathered) (i : Input) → AreListed fields → (fields_at (expr_within c (suc most_inside)) bad fields i >>= into xs)
      ≡ (front_at bad fields i >>= held_by c xs)
  unfolding fields_at front_at
  fields_are bad [] xs i listed = ap (λ (w : Gathered). Ok (w, i)) (ap (λ (w : Gathered). xs ++ w) no_expr ∙ append-nil xs)
  fields_are bad (Unsigned ∷ fields) xs i listed = by (or_fault bad (uleb_at i)) (λ j. fields_are bad fields xs j listed) where
    by : (r : Result (ℕ × Input) Fault) → ((j : Input) → (fields_at (expr_within c (suc most_inside)) bad fields j >>= into xs) ≡ (front_at bad fields j >>= held_by c xs))
        → (((r >>= seen_piece nothing i.at) >>= then_read (λ _. fields_at (expr_within c (suc most_inside)) bad fields) (λ a b. a ++ b)) >>= into xs)
        ≡ ((r >>= λ x. front_at bad fields x.1) >>= held_by c xs)
    by (Ok x) others = past_piece bad fields xs [] (fields_at (expr_within c (suc most_inside)) bad fields x.1) no_expr ∙ others x.1
    by (Err f) others = refl
  fields_are bad (Located ∷ fields) xs i listed = by (or_fault bad (fixed_at 8 i)) (λ j. fields_are bad fields xs j listed) where
    by : (r : Result (ℕ × Input) Fault) → ((j : Input) → (fields_at (expr_within c (suc most_inside)) bad fields j >>= into xs) ≡ (front_at bad fields j >>= held_by c xs))
        → (((r >>= seen_piece an_address i.at) >>= then_read (λ _. fields_at (expr_within c (suc most_inside)) bad fields) (λ a b. a ++ b)) >>= into xs)
        ≡ ((r >>= λ x. front_at bad fields x.1) >>= held_by c xs)
    by (Ok x) others = past_piece bad fields xs (AnAddress ∷ []) (fields_at (expr_within c (suc most_inside)) bad fields x.1) no_expr_there ∙ others x.1
    by (Err f) others = refl
  fields_are bad (Inside ∷ []) xs i listed = last_into bad xs i
  fields_are bad (_ ∷ fields) xs i listed = absurd listed

-- ---- which fields stand in lists

abbrev is_listed : List Field → Bool
is_listed [] = true
is_listed (Unsigned ∷ fields) = is_listed fields
is_listed (Located ∷ fields) = is_listed fields
is_listed (Inside ∷ []) = true
is_listed _ = false

are_listed : (fields : List Field) → is_listed fields ≡ true → AreListed fields
are_listed [] e = tt
are_listed (Unsigned ∷ fields) e = are_listed fields e
are_listed (Located ∷ fields) e = are_listed fields e
are_listed (Inside ∷ []) e = tt
are_listed (Inside ∷ field ∷ fields) e = absurd cc
are_listed (_ ∷ fields) e = absurd cc

abbrev is_listed_row : Option (List Field) → Bool
is_listed_row None = true
is_listed_row (Some fields) = is_listed fields

abbrev row_listed : RowView → Bool
row_listed r = is_listed_row (fields_of r.shape)

kinds_listed : list_all row_listed list_kind_rows ≡ true
unfolding list_kind_rows
kinds_listed = refl

pub kind_listed : (kind : ℕ) (fields : List Field) → fields_of (shape_of list_kind_rows kind) ≡ Some fields → AreListed fields
kind_listed kind fields laid = by (row_of list_kind_rows kind) refl where
  by : (o : Option RowView) → row_of list_kind_rows kind ≡ o → AreListed fields
  by None none = absurd (let no : None ≡ Some fields = sym (ap (λ (o : Option RowView). fields_of (shape_in o)) none) ∙ laid in cc)
  by (Some r) some =
      let is : fields_of r.shape ≡ Some fields = sym (ap (λ (o : Option RowView). fields_of (shape_in o)) some) ∙ laid in
      are_listed fields (sym (ap is_listed_row is) ∙ row_holds row_listed list_kind_rows kind r kinds_listed some)

-- ---- one step

module _ (c : ExprContext) (stop : Fault) where
  -- what is behind an entry
  behind_entry : (xs : Gathered) (x : List FieldItem × Input) (r : Result (List (List FieldItem) × Input) Fault)
      → ((r >>= with_item_before x.0) >>= gather_row xs) ≡ (r >>= gather_row (xs ++ expressions_in x.0))
  unfolding joined_items
  behind_entry xs x (Ok y) = ap (λ (w : Gathered). Ok (record { exprs = w; end = y.1.at }, y.1)) (gather_append xs x.0 (joined_items y.0))
  behind_entry xs x (Err f) = refl

  entry_step : (xs : Gathered) (at : ℕ) (laid : Option (List Field)) (i : Input) → ((fields : List Field) → laid ≡ Some fields → AreListed fields)
      → ((entry_by c at laid i >>= after_row_item (row_at (list_entry_at c) stop)) >>= gather_row xs) ≡ (kind_into c at laid xs i >>= λ p. row_into c stop p.0 p.1)
  unfolding row_into
  entry_step xs at None i listed = refl
  entry_step xs at (Some fields) i listed = go (fields_at (expr_within c (suc most_inside)) (bad_list at) fields i) (fields_are c (bad_list at) fields xs i (listed fields refl)) where
    go : (r : Result (List FieldItem × Input) Fault) → (r >>= into xs) ≡ (front_at (bad_list at) fields i >>= held_by c xs)
        → (((r >>= as_entry) >>= after_row_item (row_at (list_entry_at c) stop)) >>= gather_row xs)
        ≡ ((front_at (bad_list at) fields i >>= held_by c xs) >>= λ p. (row_at (list_entry_at c) stop p.1 >>= gather_row p.0))
    go (Ok x) same = behind_entry xs x (row_at (list_entry_at c) stop x.1) ∙ ap (λ (r : Result (Gathered × Input) Fault). r >>= λ p. (row_at (list_entry_at c) stop p.1 >>= gather_row p.0)) same
    go (Err f) same = ap (λ (r : Result (Gathered × Input) Fault). r >>= λ p. (row_at (list_entry_at c) stop p.1 >>= gather_row p.0)) same

  -- an entry, and what is behind it
  pub kind_step : (xs : Gathered) (at kind : ℕ) (rest : List ℕ) → kind ≢ 0
      → row_into c stop xs (input_of at (kind ∷ rest)) ≡ (kind_into c at (fields_of (shape_of list_kind_rows kind)) xs (input_of (at + 1) rest) >>= λ p. row_into c stop p.0 p.1)
  unfolding row_into list_entry_at
  kind_step xs at kind rest some =
      ap (λ (r : Result (List (List FieldItem) × Input) Fault). r >>= gather_row xs) (row_goes_on c stop (input_of at (kind ∷ rest)))
      ∙ ap (λ (b : Bool). (cond b (Ok (None, behind_kind at rest)) (entry_by c at (fields_of (shape_of list_kind_rows kind)) (behind_kind at rest)) >>= after_row_item (row_at (list_entry_at c) stop))
      >>=
      gather_row xs) (ne_eqb kind 0 some)
      ∙ entry_step xs at (fields_of (shape_of list_kind_rows kind)) (input_of (at + 1) rest) (kind_listed kind)

  -- the end
  pub end_step : (xs : Gathered) (at : ℕ) (rest : List ℕ) → row_into c stop xs (input_of at (0 ∷ rest)) ≡ Ok (record { exprs = xs; end = at + 1 }, input_of (at + 1) rest)
  unfolding row_into list_entry_at joined_items expressions_in
  end_step xs at rest =
      ap (λ (r : Result (List (List FieldItem) × Input) Fault). r >>= gather_row xs) (row_goes_on c stop (input_of at (0 ∷ rest)))
      ∙ ap (λ (w : Gathered). Ok (record { exprs = w; end = at + 1 }, input_of (at + 1) rest)) (append-nil xs)

  -- nothing is left
  pub none_step : (xs : Gathered) (at : ℕ) → row_into c stop xs (input_of at []) ≡ Err (bad_list at)
  unfolding row_into list_entry_at
  none_step xs at = ap (λ (r : Result (List (List FieldItem) × Input) Fault). r >>= gather_row xs) (row_goes_on c stop (input_of at []))

-- ---- the whole list

pub list_is : (c : ExprContext) (section : List ℕ) (at : ℕ) → read_from (list_at c) section at ≡ (row_into c (bad_list at) [] (input section at) >>= value_only)
unfolding list_at row_into
list_is c section at = go (row_at (list_entry_at c) (bad_list at) (input section at)) where
  go : (r : Result (List (List FieldItem) × Input) Fault) → ((r >>= with_entries) >>= value_only) ≡ ((r >>= gather_row []) >>= value_only)
  go (Ok x) = refl
  go (Err f) = refl

-- ---- one step of the loop

pub record IsKind (i : Input) (kind : ℕ) (j : Input) : Type 0 where
  pub rest : i.rest ≡ kind ∷ j.rest
  pub at : j.at ≡ i.at + 1

pub kind_read : (bad : Fault) (i : Input) (kind : ℕ) (j : Input) → or_fault bad (fixed_at 1 i) ≡ Ok (kind, j) → IsKind i kind j
kind_read bad i kind j is =
    let t = ((bytes_agree (fixed_reads 1) bad i).ok (kind, j)).0 is in
    let byte = byte_of t.front kind t.spelled in
    record { rest = t.parts ∙ ap (λ (w : List ℕ). w ++ j.rest) byte; at = t.place ∙ ap (λ (w : List ℕ). i.at + length w) byte }
