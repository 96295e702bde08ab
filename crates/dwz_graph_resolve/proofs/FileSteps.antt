-- Line tables that are read once each, and rows in them.
use Rattle.std.proofs.Common.{◌≡◌, ℕ, zero, suc, ◌<◌, ◌≤◌, ◌^◌, Bool, true, cond, List, [], ◌∷◌, ◌++◌, length, Option, Some, None, Result, Ok, Err, pos, negsuc, slice_get, nat_eq, refl, sym}
use Rattle.std.proofs.Common.{ap, subst, ◌∙◌, inl, inr, arith}
use Rattle.std.specs.Prelude.{ℤ}
use Rattle.std.specs.Option.{is_some}
use lib.Signed.{lt_z}
use Rattle.dwz_graph_resolve.specs.declared.files.Files.{Files}
use Rattle.std.proofs.lemmas.Bool.{cases_Bool, cond-false, cond-true, eqb-true, false≢true, ltb-true}
use Rattle.dwz_model.specs.declared.fault.Fault.{Fault}
use Rattle.dwz_model.specs.declared.fault.ReadErr.{ReadErr}
use Rattle.dwz_model.specs.declared.fault.ReadErr.TheVariants.{NoMemory, Refused}
use Rattle.dwz_def_reading.specs.Reading.{◌>>=◌}
use Rattle.dwz_def_reading.specs.Faults.{Answers, Fails}
use Rattle.dwz_def_reading.proofs.ListFacts.{get_first, get_last}
use Rattle.dwz_def_reading.specs.LineTables.{FileTable, nth_path}
use Rattle.dwz_def_reading.specs.Meanings.{Sources, path_by}
use Rattle.dwz_graph_resolve.specs.TablePlaces.{number_in}
use Rattle.dwz_graph_resolve.specs.FileRows.{HasTable, IsLine, KnowTables, SaysFile, file_there, row_there, table_at, unless_none}

pub has_more : (sources : Sources) (tables new : List FileTable) (t : FileTable) (place number : ℕ) → new ≡ tables ++ t ∷ [] → HasTable sources tables place number → HasTable sources new place number
has_more sources tables new t place number e h = record { table = h.table; there = ap (λ (w : List FileTable). slice_get w number) e ∙ get_first tables (t ∷ []) number h.table h.there; read = h.read }

pub has_last : (sources : Sources) (tables new : List FileTable) (t : FileTable) (place number : ℕ) → new ≡ tables ++ t ∷ [] → number ≡ length tables → table_at sources place ≡ Ok t
    → HasTable sources new place number
has_last sources tables new t place number e len read = record { table = t; there = (λ i. slice_get (e i) (len i)) ∙ get_last tables t; read = read }

pub none_behind : (paths : List (List ℕ)) (n : ℕ) → length paths ≤ n → nth_path paths n ≡ None
unfolding nth_path
none_behind [] n le = refl
none_behind (p ∷ paths) zero le = absurd (omega arith)
none_behind (p ∷ paths) (suc n) le = none_behind paths n (omega arith)

-- no table has as many files
pub past_all : (t : FileTable) (z : ℤ) (there : Bool) → lt_z (pos 18446744073709551615) z ≡ true → length t.paths < 2 ^ 63
    → there ≡ is_some (nth_path t.paths 18446744073709551615) → there ≡ is_some (path_by t z)
past_all t (pos n) there above few is =
    let lt = ltb-true 18446744073709551615 n above in
    is ∙ ap (λ (o : Option (List ℕ)). is_some o) (none_behind t.paths 18446744073709551615 (omega arith) ∙ sym (none_behind t.paths n (omega arith)))
past_all t (negsuc n) there above few is = absurd (false≢true above)

pub plain_number : (z y : ℤ) → y ≡ z → lt_z (pos 18446744073709551615) y ≡ true → lt_z (pos 18446744073709551615) z ≡ true
plain_number z y e h = ap (λ (x : ℤ). lt_z (pos 18446744073709551615) x) (sym e) ∙ h

-- ---- the tables that are known

module _ (sources : Sources) where
  pub know_none : (files : Files) → IsLine sources files.line → ((place : ℕ) → number_in files.places place ≡ None) → KnowTables sources files
  know_none files line none = record { line = line; known = λ place number e. absurd (let both : None ≡ Some number = sym (none place) ∙ e in cc) }

  pub know_more : (old new : Files) (t : FileTable) (place number : ℕ) → KnowTables sources old → IsLine sources new.line → new.tables.items ≡ old.tables.items ++ t ∷ [] → number ≡ length old.tables.items
      → table_at sources place ≡ Ok t
      → ((q : ℕ) → number_in new.places q ≡ cond (nat_eq place q) (Some number) (number_in old.places q)) → KnowTables sources new × HasTable sources new.tables.items place number
  know_more old new t place number h line tables len read updates =
      let last : HasTable sources new.tables.items place number = has_last sources old.tables.items new.tables.items t place number tables len read in (
        record {
          line = line;
          known = λ q n e. elim (cases_Bool (nat_eq place q)) [
            | inl same ↦
                let at : place ≡ q = eqb-true place q same in
                let both : Some number ≡ Some n = sym (updates q ∙ cond-true (nat_eq place q) (Some number) (number_in old.places q) same) ∙ e in
                let one : number ≡ n = cc in
                subst (λ (p : ℕ). HasTable sources new.tables.items p n) at (subst (λ (k : ℕ). HasTable sources new.tables.items place k) one last)
            | inr other ↦ has_more sources old.tables.items new.tables.items t q n tables (h.known q n (sym (updates q ∙ cond-false (nat_eq place q) (Some number) (number_in old.places q) other) ∙ e))
          ];
        },
        last,
      )

-- ---- what a value says

row_whole : (sources : Sources) (files : Files) (line : Option ℕ) (place table at : ℕ) (z : ℤ) (there : Bool) → line ≡ Some place → HasTable sources files.tables.items place table
    → ((t : FileTable) → slice_get files.tables.items table ≡ Some t → there ≡ is_some (path_by t z)) → file_there sources line at z ≡ unless_none at there
row_whole sources files line place table at z there is has row =
    ap (λ (o : Option ℕ). file_there sources o at z) is ∙ ap (λ (r : Result FileTable Fault). r >>= row_there at z) has.read ∙ ap (unless_none at) (sym (row has.table has.there))

pub says_row : (sources : Sources) (files : Files) (line : Option ℕ) (place table at : ℕ) (z : ℤ) (there : Bool) (result : Result (Unit {0}) ReadErr) → line ≡ Some place → KnowTables sources files
    → HasTable sources files.tables.items place table
    → ((t : FileTable) → slice_get files.tables.items table ≡ Some t → there ≡ is_some (path_by t z)) → Answers {X = Unit {0}} (λ u. tt) result (unless_none at there)
    → SaysFile sources line at z files result
says_row sources files line place table at z there (Ok y) is know has row h = (know, row_whole sources files line place table at z there is has row ∙ h)
says_row sources files line place table at z there (Err NoMemory) is know has row h = tt
says_row sources files line place table at z there (Err (Refused f)) is know has row h = row_whole sources files line place table at z there is has row ∙ h

pub table_fails : (sources : Sources) (line : Option ℕ) (place at : ℕ) (z : ℤ) (e : ReadErr) → line ≡ Some place → Fails e (table_at sources place) → Fails e (file_there sources line at z)
table_fails sources line place at z NoMemory is h = tt
table_fails sources line place at z (Refused f) is h = ap (λ (o : Option ℕ). file_there sources o at z) is ∙ ap (λ (r : Result FileTable Fault). r >>= row_there at z) h

pub row_fails : (sources : Sources) (line : Option ℕ) (at : ℕ) (z : ℤ) (e : ReadErr) → e ≡ NoMemory → Fails e (file_there sources line at z)
row_fails sources line at z NoMemory h = tt
row_fails sources line at z (Refused f) h = absurd cc
