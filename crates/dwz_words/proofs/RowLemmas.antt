-- The rows of `clap`'s matches: which row an id has after values were set or a default was filled in.
use Rattle.std.proofs.Common.{◌≡◌, ◌∙◌, ◌∷◌, [], ◌++◌, refl, sym, ap, Bool, true, false, List, Option, Some, None, arith, length}
use Rattle.std.specs.Prelude.{find, fold, if◌then◌else◌, is_some, not, unwrap_or, ◌==◌, ◌||◌}
use Rattle.std.specs.List.{list_all}
use Rattle.std.proofs.lemmas.Bool.{ne_eqb, not-true}
use Rattle.std.specs.Str.{bytes_eq}
use Rattle.std.proofs.lemmas.Slice.Eq.{bytes_eq-Decides}
use Rattle.clap.specs.Words.{Row, Rule, Text}
use Rattle.clap.specs.Walk.{default_rows, has_row, is_empty, more_values, reading_by, with_default, with_values, without}
use Rattle.clap.proofs.WalkLemmas.{both}
use Rattle.clap.specs.declared.builder.value_parser.Reading.{Reading}
use Rattle.clap.specs.declared.parser.matches.ValueSource.{ValueSource}
use Rattle.clap.specs.declared.parser.matches.ValueSource.TheVariants.{CommandLine, DefaultValue}

-- the row of the id
abbrev pub row_at : Text → List Row → Option Row
row_at k rows = find (λ r. bytes_eq r.id k) rows

pub same_text : (a : Text) → bytes_eq a a ≡ true
same_text a = (bytes_eq-Decides a a).1 refl

pub text_of_same : (a b : Text) → bytes_eq a b ≡ true → a ≡ b
text_of_same a b e = (bytes_eq-Decides a b).0 e

pub other_way : (a b : Text) → bytes_eq a b ≡ false → bytes_eq b a ≡ false
other_way a b e = go (bytes_eq b a) refl
  where
    go : (c : Bool) → bytes_eq b a ≡ c → c ≡ false
    go true f =
        let yes : bytes_eq a b ≡ true = (bytes_eq-Decides a b).1 (sym (text_of_same b a f)) in
        let bad : true ≡ false = sym yes ∙ e in
        cc
    go false f = refl

pub has_row-is_some : (k : Text) (rows : List Row) → has_row k rows ≡ is_some (row_at k rows)
has_row-is_some k [] = refl
has_row-is_some k (r ∷ rs) = go (bytes_eq r.id k) (has_row-is_some k rs)
  where
    go : (b : Bool) → has_row k rs ≡ is_some (row_at k rs) → (b || has_row k rs) ≡ is_some (if b then Some r else row_at k rs)
    go true rest = refl
    go false rest = rest

-- ---- values of another id leave the row of k

module _ (id k : Text) (other : bytes_eq id k ≡ false) where
  another_id : (id' : Text) → bytes_eq id' id ≡ true → bytes_eq id' k ≡ false
  another_id id' e = rw (text_of_same id' id e) other

  pub row_at-with_values : (how : Reading) (source : ValueSource) (values : List Text) (rows : List Row)
      → row_at k (with_values id how source values rows) ≡ row_at k rows
  row_at-with_values how source values [] = rw other refl
  row_at-with_values how source values (r ∷ rs) = go (bytes_eq r.id id) refl (row_at-with_values how source values rs)
    where
      go : (b : Bool) → bytes_eq r.id id ≡ b → row_at k (with_values id how source values rs) ≡ row_at k rs
          → row_at k (if b then more_values source values r ++ rs else (r ∷ with_values id how source values rs))
          ≡ row_at k (r ∷ rs)
      go true e rest = rw (another_id r.id e) refl
      go false e rest = ap (λ (o : Option Row). if bytes_eq r.id k then Some r else o) rest

  pub row_at-without : (rows : List Row) → row_at k (without id rows) ≡ row_at k rows
  row_at-without [] = refl
  row_at-without (r ∷ rs) = go (bytes_eq r.id id) refl (row_at-without rs)
    where
      go : (b : Bool) → bytes_eq r.id id ≡ b → row_at k (without id rs) ≡ row_at k rs
          → row_at k (if b then rs else (r ∷ without id rs)) ≡ row_at k (r ∷ rs)
      go true e rest = rw (another_id r.id e) refl
      go false e rest = ap (λ (o : Option Row). if bytes_eq r.id k then Some r else o) rest

-- ---- values of k make its row

abbrev pub new_row : Text → Reading → ValueSource → List Text → Row
new_row id how source values = record { id = id; values = values; count = None; source = Some source; reading = how }

pub row_at-new : (k : Text) (how : Reading) (source : ValueSource) (values : List Text) (rows : List Row) → row_at k rows ≡ None
    → row_at k (with_values k how source values rows) ≡ Some (new_row k how source values)
row_at-new k how source values [] none = rw (same_text k) refl
row_at-new k how source values (r ∷ rs) none = go (bytes_eq r.id k) refl none (λ h. row_at-new k how source values rs h)
  where
    go : (b : Bool) → bytes_eq r.id k ≡ b → (if b then Some r else row_at k rs) ≡ None
        → (row_at k rs ≡ None → row_at k (with_values k how source values rs) ≡ Some (new_row k how source values))
        → row_at k (if b then more_values source values r ++ rs else (r ∷ with_values k how source values rs))
        ≡ Some (new_row k how source values)
    go true e none rest = cc
    go false e none rest = rw e (rest none)

without-absent : (k : Text) (rows : List Row) → row_at k rows ≡ None → without k rows ≡ rows
without-absent k [] none = refl
without-absent k (r ∷ rs) none = go (bytes_eq r.id k) none (λ h. without-absent k rs h)
  where
    go : (b : Bool) → (if b then Some r else row_at k rs) ≡ None → (row_at k rs ≡ None → without k rs ≡ rs)
        → (if b then rs else (r ∷ without k rs)) ≡ r ∷ rs
    go true none rest = cc
    go false none rest = ap (λ (l : List Row). r ∷ l) (rest none)

pub row_at-set : (k : Text) (how : Reading) (values : List Text) (rows : List Row) → row_at k rows ≡ None
    → row_at k (with_values k how CommandLine values (without k rows)) ≡ Some (new_row k how CommandLine values)
row_at-set k how values rows none = rw (without-absent k rows none) (row_at-new k how CommandLine values rows none)

-- ---- defaults

-- the default of an id, where it has no row
abbrev pub defaulted : Text → Reading → Text → List Row → List Row
defaulted id how v rows = if has_row id rows then rows else with_values id how DefaultValue (v ∷ []) rows

pub row_at-defaulted : (id : Text) (how : Reading) (v : Text) (rows : List Row)
    → row_at id (defaulted id how v rows) ≡ Some (unwrap_or (row_at id rows) (new_row id how DefaultValue (v ∷ [])))
row_at-defaulted id how v rows = go (row_at id rows) refl
  where
    go : (o : Option Row) → row_at id rows ≡ o
        → row_at id (defaulted id how v rows) ≡ Some (unwrap_or o (new_row id how DefaultValue (v ∷ [])))
    go None e =
        let absent : has_row id rows ≡ false = has_row-is_some id rows ∙ ap (λ (o : Option Row). is_some o) e in
        rw absent (row_at-new id how DefaultValue (v ∷ []) rows e)
    go (Some r) e =
        let there : has_row id rows ≡ true = has_row-is_some id rows ∙ ap (λ (o : Option Row). is_some o) e in
        rw there e

-- the rule has no default, or another id
abbrev pub leaves : Text → Rule → Bool
leaves k a = is_empty a.defaults || not (bytes_eq a.id k)

row_at-with_default : (k : Text) (a : Rule) (rows : List Row) → leaves k a ≡ true → row_at k (with_default rows a) ≡ row_at k rows
row_at-with_default k a rows h = go (has_row a.id rows)
  where
    values : (vs : List Text) → (is_empty vs || not (bytes_eq a.id k)) ≡ true
        → row_at k (default_rows a.id (reading_by a) vs rows) ≡ row_at k rows
    values [] e = refl
    values (v ∷ vs) e =
        let some : (length (v ∷ vs) == 0) ≡ false = ne_eqb _ _ (λ none. omega arith) in
        let other : not (bytes_eq a.id k) ≡ true = rw some at e in
        row_at-with_values a.id k (not-true _ other) (reading_by a) DefaultValue (v ∷ vs) rows

    go : (b : Bool) → row_at k (if b then rows else default_rows a.id (reading_by a) a.defaults rows) ≡ row_at k rows
    go true = refl
    go false = values a.defaults h

-- the defaults of rules that leave k
pub row_at-defaults : (k : Text) (rs : List Rule) (rows : List Row) → list_all (leaves k) rs ≡ true
    → row_at k (fold with_default rows rs) ≡ row_at k rows
row_at-defaults k [] rows h = refl
row_at-defaults k (a ∷ rs) rows h =
    let parts = both (leaves k a) (list_all (leaves k) rs) h in
    row_at-defaults k rs (with_default rows a) parts.1 ∙ row_at-with_default k a rows parts.0
