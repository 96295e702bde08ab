-- Which row of `clap`'s matches an argument of plain words leaves, and which rows it keeps.
use Rattle.std.proofs.Common.{◌≡◌, ◌⊎◌, ◌∙◌, ◌≤◌, ◌∷◌, [], ◌++◌, refl, sym, ap, subst, inl, inr, Bool, true, false, List, Option, Some, None, codes, arith, length, not, map, option_map, append-nil}
use Rattle.std.proofs.Common.{append_assoc}
use Rattle.std.specs.Prelude.{find, filter, if◌then◌else◌, is_some, unwrap_or}
use Rattle.std.specs.Str.{bytes_eq}
use Rattle.std.specs.List.{list_any}
use Rattle.std.specs.Option.{option_map_or}
use Rattle.std.proofs.lemmas.Bool.{not-true, or_parts}
use Rattle.std.proofs.lemmas.List.{map-append}
use Rattle.std.proofs.lemmas.List.Elements.{filter-append}
use Rattle.clap.specs.Words.{Row, Text}
use Rattle.clap.specs.Walk.{has_row, more_values, reading_by, with_values, without}
use Rattle.clap.specs.declared.builder.value_parser.Reading.{Reading}
use Rattle.clap.specs.declared.parser.matches.ValueSource.TheVariants.{CommandLine}
use Rattle.clap.proofs.WalkLemmas.{both}
use Rattle.dwz_words.specs.Plain.{Argument, are_once, batch, check, common, demo, dwarf, expand, explain, file, is_file, is_option, name, option_name, out, quiet, reuse, same_option, sup, value_of, words_of, workers}
use Rattle.dwz_words.proofs.PlainWalk.{all_after, row_after, rule_for}
use Rattle.dwz_words.proofs.RowLemmas.{has_row-is_some, new_row, other_way, row_at, row_at-set, row_at-with_values, row_at-without, text_of_same}

-- ---- an argument is an option or a FILE

abbrev id_of : Argument → Text
id_of p = (rule_for p).id

-- what an option does: its value takes the place of the row that it had
pub record IsOption (p : Argument) : Type 0 where
  pub named : option_name p ≡ Some (id_of p)
  pub sets : (rows : List Row) → row_after p rows
      ≡ with_values (id_of p) (reading_by (rule_for p)) CommandLine (value_of p ∷ []) (without (id_of p) rows)
  pub no_file : bytes_eq (id_of p) (codes "FILE") ≡ false
  pub some_words : 1 ≤ length (words_of p)

pub option_or_file : (p : Argument) → IsOption p ⊎ ((text : Text) × (p ≡ file text))
option_or_file quiet = inl (record { named = refl; sets = λ rows. refl; no_file = refl; some_words = omega arith })
option_or_file dwarf = inl (record { named = refl; sets = λ rows. refl; no_file = refl; some_words = omega arith })
option_or_file (common text) = inl (record { named = refl; sets = λ rows. refl; no_file = refl; some_words = omega arith })
option_or_file (name text) = inl (record { named = refl; sets = λ rows. refl; no_file = refl; some_words = omega arith })
option_or_file (out text) = inl (record { named = refl; sets = λ rows. refl; no_file = refl; some_words = omega arith })
option_or_file (workers text) = inl (record { named = refl; sets = λ rows. refl; no_file = refl; some_words = omega arith })
option_or_file (demo text) = inl (record { named = refl; sets = λ rows. refl; no_file = refl; some_words = omega arith })
option_or_file explain = inl (record { named = refl; sets = λ rows. refl; no_file = refl; some_words = omega arith })
option_or_file check = inl (record { named = refl; sets = λ rows. refl; no_file = refl; some_words = omega arith })
option_or_file expand = inl (record { named = refl; sets = λ rows. refl; no_file = refl; some_words = omega arith })
option_or_file (reuse text) = inl (record { named = refl; sets = λ rows. refl; no_file = refl; some_words = omega arith })
option_or_file (batch text) = inl (record { named = refl; sets = λ rows. refl; no_file = refl; some_words = omega arith })
option_or_file (sup text) = inl (record { named = refl; sets = λ rows. refl; no_file = refl; some_words = omega arith })
option_or_file (file text) = inr (text, refl)

-- ---- names of options

-- an option has the name that is asked for, or not
is_option-name : (k : Text) (p : Argument) → IsOption p → is_option k p ≡ bytes_eq k (id_of p)
is_option-name k p o = ap (λ (n : Option Text). option_map_or (λ other. bytes_eq k other) n false) o.named

-- an argument that isn't the option k has another id
id_differs : (p : Argument) (k : Text) → is_option k p ≡ false → bytes_eq (codes "FILE") k ≡ false → bytes_eq (id_of p) k ≡ false
id_differs p k h no_file = elim (option_or_file p) [
  | inl o ↦ other_way k (id_of p) (sym (is_option-name k p o) ∙ h)
  | inr f ↦ subst (λ (q : Argument). bytes_eq (id_of q) k ≡ false) (sym f.1) no_file
]

same_option-name : (p : Argument) → IsOption p → (q : Argument) → same_option p q ≡ is_option (id_of p) q
same_option-name p o q = ap (λ (n : Option Text). option_map_or (λ id. is_option id q) n false) o.named

-- an argument that isn't the same option as p keeps another id than p's
pub name_differs : (p q : Argument) (k : Text) → option_name q ≡ Some k → same_option p q ≡ false → bytes_eq (id_of p) k ≡ false
name_differs p q k named h = elim (option_or_file p) [
  | inl o ↦
      let other : is_option (id_of p) q ≡ false = sym (same_option-name p o q) ∙ h in
      sym (ap (λ (n : Option Text). option_map_or (λ id. bytes_eq (id_of p) id) n false) named) ∙ other
  | inr f ↦ elim (option_or_file q) [
    | inl o ↦
        let same : id_of q ≡ k = cc (o.named, named) in
        subst (λ (a : Argument). bytes_eq (id_of a) k ≡ false) (sym f.1)
        (subst (λ (id : Text). bytes_eq (codes "FILE") id ≡ false) same (other_way (id_of q) (codes "FILE") o.no_file))
    | inr g ↦
        let none : option_name q ≡ None = ap option_name g.1 in
        cc
  ]
]

-- what no later argument is, is none that has the name k either
later_differ : (p : Argument) (ps : List Argument) (k : Text) → is_option k p ≡ true → list_any (same_option p) ps ≡ false
    → list_any (is_option k) ps ≡ false
later_differ p ps k h none = elim (option_or_file p) [
  | inl o ↦
      let same : k ≡ id_of p = text_of_same k (id_of p) (sym (is_option-name k p o) ∙ h) in
      let by_name : list_any (is_option (id_of p)) ps ≡ false =
      subst (λ (n : Option Text). list_any (λ q. option_map_or (λ id. is_option id q) n false) ps ≡ false) o.named none in
      subst (λ (id : Text). list_any (is_option id) ps ≡ false) (sym same) by_name
  | inr f ↦
      let no : is_option k p ≡ false = ap (is_option k) f.1 in
      let bad : true ≡ false = sym h ∙ no in
      cc
]

-- ---- rows after one argument

pub kept_row : (p : Argument) (k : Text) (rows : List Row) → bytes_eq (id_of p) k ≡ false → row_at k (row_after p rows) ≡ row_at k rows
kept_row p k rows other = elim (option_or_file p) [
  | inl o ↦ ap (row_at k) (o.sets rows)
      ∙ (row_at-with_values (id_of p) k other _ CommandLine _ (without (id_of p) rows) ∙ row_at-without (id_of p) k other rows)
  | inr f ↦ subst (λ (q : Argument). bytes_eq (id_of q) k ≡ false → row_at k (row_after q rows) ≡ row_at k rows) (sym f.1)
      (λ e. row_at-with_values (codes "FILE") k e _ CommandLine _ rows) other
]

pub kept_has_row : (p : Argument) (k : Text) (rows : List Row) → bytes_eq (id_of p) k ≡ false
    → has_row k (row_after p rows) ≡ has_row k rows
kept_has_row p k rows other = has_row-is_some k (row_after p rows)
    ∙ (ap (λ (o : Option Row). is_some o) (kept_row p k rows other) ∙ sym (has_row-is_some k rows))

-- the row of an argument
abbrev pub row_of : Argument → Row
row_of p = new_row (id_of p) (reading_by (rule_for p)) CommandLine (value_of p ∷ [])

made_row : (p : Argument) (k : Text) (rows : List Row) → is_option k p ≡ true → row_at k rows ≡ None
    → row_at k (row_after p rows) ≡ Some (row_of p)
made_row p k rows h none = elim (option_or_file p) [
  | inl o ↦
      let same : k ≡ id_of p = text_of_same k (id_of p) (sym (is_option-name k p o) ∙ h) in
      let absent : row_at (id_of p) rows ≡ None = subst (λ (id : Text). row_at id rows ≡ None) same none in
      subst (λ (id : Text). row_at id (row_after p rows) ≡ Some (row_of p)) (sym same)
      (ap (row_at (id_of p)) (o.sets rows) ∙ row_at-set (id_of p) _ _ rows absent)
  | inr f ↦
      let no : is_option k p ≡ false = ap (is_option k) f.1 in
      let bad : true ≡ false = sym h ∙ no in
      cc
]

-- ---- rows after all arguments

module _ (k : Text) (no_file : bytes_eq (codes "FILE") k ≡ false) where
  untouched : (ps : List Argument) (rows : List Row) → list_any (is_option k) ps ≡ false → row_at k (all_after ps rows) ≡ row_at k rows
  untouched [] rows h = refl
  untouched (p ∷ ps) rows h =
      let parts = or_parts (is_option k p) (list_any (is_option k) ps) h in
      untouched ps (row_after p rows) parts.1 ∙ kept_row p k rows (id_differs p k parts.0 no_file)

  -- the row of an option that stands once is that of the argument
  pub row_at-all_after : (ps : List Argument) (rows : List Row) → row_at k rows ≡ None → are_once ps ≡ true
      → row_at k (all_after ps rows) ≡ option_map row_of (find (is_option k) ps)
  row_at-all_after [] rows none once = none
  row_at-all_after (p ∷ ps) rows none once =
      let onces = both (not (list_any (same_option p) ps)) (are_once ps) once in
      go (is_option k p) refl (not-true _ onces.0) (λ h. row_at-all_after ps (row_after p rows) h onces.1)
    where
      go : (b : Bool) → is_option k p ≡ b → list_any (same_option p) ps ≡ false
          → (row_at k (row_after p rows) ≡ None → row_at k (all_after ps (row_after p rows)) ≡ option_map row_of (find (is_option k) ps))
          → row_at k (all_after ps (row_after p rows)) ≡ option_map row_of (if b then Some p else find (is_option k) ps)
      go true e others rest = untouched ps (row_after p rows) (later_differ p ps k e others) ∙ made_row p k rows e none
      go false e others rest = rest (kept_row p k rows (id_differs p k e no_file) ∙ none)

-- ---- FILEs

abbrev pub values_in : Option Row → List Text
values_in o = unwrap_or (option_map (λ r. r.values) o) []

abbrev pub files_at : List Row → List Text
files_at rows = values_in (row_at (codes "FILE") rows)

files_at-one_more : (how : Reading) (v : Text) (rows : List Row)
    → files_at (with_values (codes "FILE") how CommandLine (v ∷ []) rows) ≡ files_at rows ++ v ∷ []
files_at-one_more how v [] = refl
files_at-one_more how v (r ∷ rs) = go (bytes_eq r.id (codes "FILE")) refl (files_at-one_more how v rs)
  where
    go : (b : Bool) → bytes_eq r.id (codes "FILE") ≡ b
        → files_at (with_values (codes "FILE") how CommandLine (v ∷ []) rs) ≡ files_at rs ++ v ∷ []
        → files_at (if b then more_values CommandLine (v ∷ []) r ++ rs else (r ∷ with_values (codes "FILE") how CommandLine (v ∷ []) rs))
        ≡ unwrap_or (option_map (λ r. r.values) (if b then Some r else row_at (codes "FILE") rs)) [] ++ v ∷ []
    go true e rest = rw e refl
    go false e rest = rw e rest

-- an argument adds its FILE, if it is one
files_at-row_after : (p : Argument) (rows : List Row)
    → files_at (row_after p rows) ≡ files_at rows ++ map value_of (filter is_file (p ∷ []))
files_at-row_after p rows = elim (option_or_file p) [
  | inl o ↦
      let none : filter is_file (p ∷ []) ≡ [] = ap (λ (n : Option Text). if not (is_some n) then p ∷ [] else []) o.named in
      ap values_in (kept_row p (codes "FILE") rows o.no_file)
      ∙ (sym (append-nil (files_at rows)) ∙ ap (λ (l : List Argument). files_at rows ++ map value_of l) (sym none))
  | inr f ↦ subst (λ (q : Argument). files_at (row_after q rows) ≡ files_at rows ++ map value_of (filter is_file (q ∷ []))) (sym f.1)
      (files_at-one_more _ f.0 rows)
]

pub files_at-all_after : (ps : List Argument) (rows : List Row)
    → files_at (all_after ps rows) ≡ files_at rows ++ map value_of (filter is_file ps)
files_at-all_after [] rows = sym (append-nil (files_at rows))
files_at-all_after (p ∷ ps) rows =
    let one = files_at-row_after p rows in
    files_at-all_after ps (row_after p rows)
    ∙ (ap (λ (l : List Text). l ++ map value_of (filter is_file ps)) one
    ∙ (append_assoc (files_at rows) (map value_of (filter is_file (p ∷ []))) (map value_of (filter is_file ps))
    ∙ ap (λ (l : List Text). files_at rows ++ l)
    (sym (map-append value_of (filter is_file (p ∷ [])) (filter is_file ps)) ∙ ap (map value_of) (sym (filter-append is_file (p ∷ []) ps)))))
