-- Lawful words that ask to write files over a finished common file have what their puts need.
use Rattle.std.proofs.Common.{◌≡◌, true, false, List, ℕ, Option, Some, None, length, refl, sym, ap, ◌∙◌}
use Rattle.std.specs.Prelude.{is_none, not, ◌==◌, ◌&&◌, ◌||◌}
use Rattle.std.specs.Str.{bytes_eq}
use Rattle.std.proofs.lemmas.Bool.{and_parts}
use Rattle.std.proofs.lemmas.Slice.Eq.{bytes_eq-Decides}
use Rattle.dwz_words.specs.Conditions.{FitTogether, are_other, may_have_out}
use Rattle.dwz_words.specs.declared.options.Options.{Options}
use Rattle.dwz_words.proofs.Fits.{files_differ, with_reuse}
use Rattle.dwz_def_run.specs.Comes.{reusing}
use Rattle.dwz_def_run.specs.ReusesStops.{FitOver}

module _ (o : Options) (fit : FitTogether o) (common : List ℕ) (is : o.reuse ≡ Some common) where
  no_file_more : is_none o.out || length o.files == 1 ≡ true
  no_file_more = by o.out fit.out_only_for_one where
    by : (out : Option (List ℕ)) → (is_none out || (length o.files == 1 && may_have_out o)) ≡ true → (is_none out || length o.files == 1) ≡ true
    by None e = refl
    by (Some name) e = (and_parts (length o.files == 1) (may_have_out o) e).0

  not_same : (one two : Option (List ℕ)) (out : List ℕ) → one ≡ Some out → two ≡ Some out → are_other one two ≡ true → ⊥
  not_same None two out e f apart = absurd cc
  not_same (Some one) None out e f apart = absurd cc
  not_same (Some one) (Some two) out e f apart =
      let same : one ≡ two = cc in
      let equal : bytes_eq one two ≡ true = (bytes_eq-Decides one two).1 same in
      absurd (let z : false ≡ true = sym (ap not equal) ∙ apart in cc)

  pub fit_over : FitOver (reusing o)
  fit_over = record {
    distinct = files_differ o fit (with_reuse o fit common is).1;
    apart = fit.reuse_apart;
    one = no_file_more;
    elsewhere = λ out e f. not_same o.reuse o.out out f e fit.reuse_apart_from_out;
  }
