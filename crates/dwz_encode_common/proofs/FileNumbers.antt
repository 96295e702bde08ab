-- The number of a path that is there is that of the definition of forms.
use Rattle.std.proofs.Common.{◌≡◌, ℕ, suc, ◌+◌, Bool, List, [], ◌∷◌, None, Some, cond, refl, sym, ap, ◌∙◌, arith}
use Rattle.dwz_def_reading.specs.Documents.{File, Plain}
use Rattle.dwz_def_encoding.specs.Placing.{file_number, path_index}
use Rattle.dwz_encode_common.specs.Gathered.{path_by}
use Rattle.dwz_encode_common.specs.Numbers.{NumberLaw}

one_path :
    (paths : List (List ℕ)) (plain : Plain) (path : List ℕ) → path ∷ [] ≡ path_by plain
    → file_number paths plain ≡ suc (path_index paths path)
one_path paths (File (Some other)) path e =
    let same : path ≡ other = cc in
    ap (λ (p : List ℕ). suc (path_index paths p)) (sym same)
one_path paths _ path e = absurd cc

no_path : (paths : List (List ℕ)) (plain : Plain) → [] ≡ path_by plain → file_number paths plain ≡ 0
no_path paths (File (Some other)) e = absurd cc
no_path paths _ e = refl

pub number_law : NumberLaw
number_law paths None plain is there = sym (no_path paths plain is)
number_law paths (Some path) plain is there =
    let next : path_index paths path + 1 ≡ suc (path_index paths path) = omega arith in
    ap (λ (b : Bool). cond b (path_index paths path + 1) 0) (there path refl) ∙ next ∙ sym (one_path paths plain path is)
