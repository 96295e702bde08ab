-- The path of a file by its number, and a value that is no file.
use Rattle.std.proofs.Common.{◌≡◌, ℕ, ℤ, pos, negsuc, zero, suc, ◌<◌, ◌≤◌, ◌^◌, Bool, true, false, List, [], ◌∷◌, length, Option, Some, None, Ok, Err, refl, sym, ap, ◌∙◌, inl, inr, arith}
use Rattle.std.specs.Prelude.{if◌then◌else◌}
use Rattle.std.proofs.lemmas.Bool.{cases_lt}
use Rattle.std.proofs.lemmas.List.{drop_all}
use Rattle.dwz_def_reading.specs.Documents.{File, Value, only}
use Rattle.dwz_def_reading.specs.Entries.{RawAttr}
use Rattle.dwz_def_reading.specs.Faults.{info_fault}
use Rattle.dwz_def_reading.specs.LineTables.{FileTable, nth_path}
use Rattle.dwz_def_reading.specs.Meanings.{MeaningContext, number_of, path_by}
use Rattle.dwz_def_reading.specs.Meant.{file_by, is_zero}
use Rattle.dwz_def_reading.specs.Texts.{text_at, text_in}
use Rattle.dwz_model.specs.declared.fault.Fault.{Fault}
use Rattle.dwz_model.specs.declared.fault.Reason.TheVariants.{BadFile}

path_below : (paths : List (List ℕ)) (n : ℕ) (path : List ℕ) → nth_path paths n ≡ Some path → n < length paths
unfolding nth_path
path_below [] n path e = absurd cc
path_below (p ∷ paths) zero path e = omega arith
path_below (p ∷ paths) (suc n) path e = let less = path_below paths n path e in omega arith

pub path_row : (t : FileTable) (number : ℤ) (path : List ℕ) (row : ℕ) → path_by t number ≡ Some path → (4096 ≤ row → length t.paths < 2 ^ 63)
    → ((n : ℕ) → number ≡ pos n → n < 2 ^ 63 → row ≡ n) → ((n : ℕ) → number ≡ pos n → 2 ^ 63 ≤ n → 2 ^ 63 ≤ row) → nth_path t.paths row ≡ Some path
path_row t (pos n) path row e few low high = elim (cases_lt n (2 ^ 63)) [
  | inl less ↦ ap (nth_path t.paths) (low n refl less) ∙ e
  | inr more ↦
      let up = high n refl more in
      let many = few (omega arith) in
      let below = path_below t.paths n path e in
      absurd (omega arith)
]
path_row t (negsuc n) path row e few low high = absurd cc

zero_file : (f : Fault) (b : Bool) (v : Value ℕ) → (if b then Ok (only (File None)) else Err f) ≡ Ok v → v.plain ≡ File None
zero_file f true v e = let is : only (File None) ≡ v = cc in sym (ap (λ (x : Value ℕ). x.plain) is)
zero_file f false v e = absurd cc

pub no_file : (s : MeaningContext ℕ) (a : RawAttr) (line : Option ℕ) (v : Value ℕ) → line ≡ None → file_by line s a ≡ Ok v → v.plain ≡ File None
no_file s a None v none e = zero_file (info_fault a.at BadFile) (is_zero (number_of a.raw)) v e
no_file s a (Some place) v none e = absurd cc

-- no text stands behind a section
pub none_behind : (section : List ℕ) (offset : ℕ) (text : List ℕ) → length section ≤ offset → text_at section offset ≡ Some text → ⊥
unfolding text_in
none_behind section offset text l e =
    let none : text_at section offset ≡ None = ap text_in (drop_all offset section l) in
    cc
