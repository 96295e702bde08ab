-- Which line tables are known, value by value, entry by entry and unit by unit.
use Rattle.std.proofs.Common.{◌≡◌, ℕ, ◌+◌, ◌≤◌, ◌||◌, ◌⊎◌, zero, suc, Bool, true, false, cond, List, [], ◌∷◌, ◌++◌, length, take, Option, Some, None, Result, Ok, Err, slice_get, nat_eq, refl, sym, ap}
use Rattle.std.proofs.Common.{subst, ◌∙◌, inl, inr, arith}
use Rattle.std.specs.List.{list_any}
use Rattle.std.proofs.Math.Bool.{or-false}
use Rattle.std.proofs.lemmas.Bool.{cases_Bool, cond-false, cond-true, eq-eqb, eqb-true, false≢true}
use Rattle.std.proofs.lemmas.List.{length-append, take_all}
use Rattle.std.proofs.lemmas.List.Folds.{list_any-append}
use Rattle.dwz_model.specs.declared.fault.ReadErr.{ReadErr}
use Rattle.dwz_def_reading.specs.Entries.{RawEntry}
use Rattle.dwz_def_reading.specs.Units.{RawUnit}
use Rattle.dwz_def_reading.proofs.ListFacts.{any_in}
use Rattle.dwz_def_reading.specs.Meanings.{Around, scope_of, stmt_list}
use Rattle.dwz_graph_resolve.specs.declared.files.Files.{Files}
use Rattle.dwz_graph_resolve.specs.TablePlaces.{number_in}
use Rattle.dwz_graph_resolve.specs.FileRows.{IfLearns, KnowTables, Learns, number_at}
use Rattle.dwz_graph_resolve.specs.Named.{entries_of}
use Rattle.dwz_graph_resolve.specs.Parts.{HasLine, HaveLines, KnowLines, KnowsLine, numbers_file}
use Rattle.dwz_unit.proofs.RowsFound.{take_here}

-- ---- what is learned

pub learns_none : (line : Option ℕ) (files : Files) → Learns false line files files
learns_none line files = record { still = λ place number e. e; known = λ numbers none. absurd (false≢true numbers) }

still_none : (line : Option ℕ) (old new : Files) → ((place number : ℕ) → number_in old.places place ≡ Some number → number_in new.places place ≡ Some number) → number_at new line ≡ None
    → number_at old line ≡ None
still_none None old new still none = refl
still_none (Some place) old new still none = by (number_in old.places place) refl where
  by : (o : Option ℕ) → number_in old.places place ≡ o → number_in old.places place ≡ None
  by None e = e
  by (Some number) e = absurd (let both : None ≡ Some number = sym none ∙ still place number e in cc)

pub learns_both : (a b : Bool) (line : Option ℕ) (old mid new : Files) → Learns a line old mid → Learns b line mid new → Learns (a || b) line old new
learns_both true b line old mid new h k =
    record { still = λ place number e. k.still place number (h.still place number e); known = λ numbers none. h.known refl (still_none line mid new k.still none) }
learns_both false b line old mid new h k = record { still = λ place number e. k.still place number (h.still place number e); known = k.known }

pub learns_if : {Y : Type 0} (b : Bool) (line : Option ℕ) (old new : Files) (result : Result Y ReadErr) → Learns b line old new → IfLearns b line old new result
learns_if b line old new (Ok y) h = h
learns_if b line old new (Err e) h = tt

-- nothing changes where no file is numbered
pub learns_same : {Y : Type 0} (b : Bool) (line : Option ℕ) (old new : Files) (result : Result Y ReadErr) → b ≡ false → new ≡ old → IfLearns b line old new result
learns_same b line old new result none same =
    subst (λ (c : Bool). IfLearns c line old new result) (sym none) (learns_if false line old new result (subst (λ (f : Files). Learns false line old f) (sym same) (learns_none line old)))

-- the number of one table more is kept
pub learns_more : (old new : Files) (place number : ℕ) → number_in old.places place ≡ None → ((q : ℕ) → number_in new.places q ≡ cond (nat_eq place q) (Some number) (number_in old.places q))
    → Learns true (Some place) old new
learns_more old new place number none updates = record {
  still = λ q n e. elim (cases_Bool (nat_eq place q)) [
    | inl same ↦
        let at : place ≡ q = eqb-true place q same in
        absurd (let both : None ≡ Some n = sym none ∙ ap (number_in old.places) at ∙ e in cc)
    | inr other ↦ updates q ∙ cond-false (nat_eq place q) (Some number) (number_in old.places q) other ∙ e
  ];
  known = λ numbers gone. absurd (let both : None ≡ Some number = sym gone ∙ updates place ∙ cond-true (nat_eq place place) (Some number) (number_in old.places place) (eq-eqb place place refl) in cc);
}

-- ---- of some things in a row

pub any_more : {X : Type 0} (p : X → Bool) (xs : List X) (k : ℕ) (x : X) → slice_get xs k ≡ Some x → list_any p (take (k + 1) xs) ≡ (list_any p (take k xs) || p x)
any_more p xs k x is = ap (list_any p) (take_here xs k x is) ∙ list_any-append p (take k xs) (x ∷ []) ∙ ap (λ (b : Bool). list_any p (take k xs) || b) (or-false (p x))

-- the next of them, and the last
pub learns_next : {X : Type 0} (p : X → Bool) (xs : List X) (k : ℕ) (x : X) (line : Option ℕ) (old mid new : Files) → slice_get xs k ≡ Some x → Learns (list_any p (take k xs)) line old mid
    → Learns (p x) line mid new → Learns (list_any p (take (k + 1) xs)) line old new
learns_next p xs k x line old mid new is h next = subst (λ (b : Bool). Learns b line old new) (sym (any_more p xs k x is)) (learns_both (list_any p (take k xs)) (p x) line old mid new h next)

pub learns_all : {X : Type 0} (p : X → Bool) (xs : List X) (k : ℕ) (line : Option ℕ) (old new : Files) → length xs ≤ k → Learns (list_any p (take k xs)) line old new
    → Learns (list_any p xs) line old new
learns_all p xs k line old new le h = subst (λ (ys : List _). Learns (list_any p ys) line old new) (take_all k xs le) h

abbrev pub entry_numbers : RawEntry → Bool
entry_numbers e = list_any numbers_file e.attrs

-- ---- of a unit

module _ (around : Around ℕ) (u : RawUnit) where
  pub knows_line : (old new : Files) → Learns (list_any entry_numbers (entries_of u)) (stmt_list (scope_of around u)) old new → KnowsLine around new u (number_at new (stmt_list (scope_of around u)))
  knows_line old new h = by (number_at new (stmt_list (scope_of around u))) refl where
    by : (o : Option ℕ) → number_at new (stmt_list (scope_of around u)) ≡ o → KnowsLine around new u o
    by (Some number) is = is
    by None is = λ e a in_unit in_entry numbers. h.known (any_in entry_numbers (entries_of u) e in_unit (any_in numbers_file e.attrs a in_entry numbers)) is

  still_knows : (old new : Files) (number : Option ℕ) → ((place n : ℕ) → number_in old.places place ≡ Some n → number_in new.places place ≡ Some n) → KnowsLine around old u number
      → KnowsLine around new u number
  still_knows old new None still h = h
  still_knows old new (Some number) still h = by (stmt_list (scope_of around u)) refl where
    by : (o : Option ℕ) → stmt_list (scope_of around u) ≡ o → number_at new (stmt_list (scope_of around u)) ≡ Some number
    by None is = absurd (let both : None ≡ Some number = sym (ap (number_at old) is) ∙ h in cc)
    by (Some place) is = ap (number_at new) is ∙ still place number (sym (ap (number_at old) is) ∙ h)

  has_line : (files : Files) (number : Option ℕ) → KnowTables around.sources files → KnowsLine around files u number → HasLine around u files.tables.items number
  has_line files None know h = h
  has_line files (Some number) know h = by (stmt_list (scope_of around u)) refl where
    by : (o : Option ℕ) → stmt_list (scope_of around u) ≡ o → HasLine around u files.tables.items (Some number)
    by None is = absurd (let both : None ≡ Some number = sym (ap (number_at files) is) ∙ h in cc)
    by (Some place) is = (place, is, know.known place number (sym (ap (number_at files) is) ∙ h))

-- ---- of all units

module _ (around : Around ℕ) (raw : List RawUnit) where
  pub no_lines : (files : Files) → KnowLines around raw 0 files []
  no_lines files = record { many = refl; line = λ n u number is at. absurd cc }

  got_one : {X : Type 0} (xs : List X) (x y : X) (i : ℕ) → slice_get (xs ++ x ∷ []) i ≡ Some y → (slice_get xs i ≡ Some y) ⊎ ((i ≡ length xs) × (x ≡ y))
  got_one [] x y zero e = inr (refl, (let same : x ≡ y = cc in same))
  got_one [] x y (suc i) e = absurd cc
  got_one (z ∷ xs) x y zero e = inl e
  got_one (z ∷ xs) x y (suc i) e = elim (got_one xs x y i e) [
    | inl there ↦ inl there
    | inr last ↦ inr (ap (λ (k : ℕ). suc k) last.0, last.1)
  ]

  pub one_line_more : (n : ℕ) (u : RawUnit) (old new : Files) (lines : List (Option ℕ)) → slice_get raw n ≡ Some u
      → Learns (list_any entry_numbers (entries_of u)) (stmt_list (scope_of around u)) old new → KnowLines around raw n old lines
      → KnowLines around raw (n + 1) new (lines ++ number_at new (stmt_list (scope_of around u)) ∷ [])
  one_line_more n u old new lines is h k = record {
    many = omega (arith, length-append lines (number_at new (stmt_list (scope_of around u)) ∷ []), k.many);
    line = λ m v number unit at. elim (got_one lines (number_at new (stmt_list (scope_of around u))) number m at) [
      | inl there ↦ still_knows around v old new number h.still (k.line m v number unit there)
      | inr last ↦
          let same : Some u ≡ Some v = sym is ∙ ap (slice_get raw) (sym (last.0 ∙ k.many)) ∙ unit in
          let one : u ≡ v = cc in
          subst (λ (w : RawUnit). KnowsLine around new w number) one (subst (λ (o : Option ℕ). KnowsLine around new u o) last.1 (knows_line around u old new h))
    ];
  }

  pub have_lines : (n : ℕ) (files : Files) (lines : List (Option ℕ)) → KnowTables around.sources files → KnowLines around raw n files lines → HaveLines around raw n files.tables.items lines
  have_lines n files lines know k = record { many = k.many; line = λ m u number is at. has_line around u files number know (k.line m u number is at) }
