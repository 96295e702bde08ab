-- A declaration under the next code, which is above the others, can be spelled behind them.
use Rattle.std.proofs.Common.{◌≡◌, ◌≢◌, ℕ, ◌+◌, ◌<◌, List, [], ◌∷◌, ◌++◌, length, arith}
use Rattle.std.specs.Prelude.{All}
use Rattle.std.proofs.lemmas.List.Elements.{All-push}
use Rattle.std.proofs.lemmas.List.Quantifiers.{all_pairs_push}
use Rattle.dwz_model.specs.declared.place.Pair.{Pair}
use Rattle.dwz_def_reading.specs.Abbrevs.{Declaration, FitsDeclaration, FitsPair, FitsTable, IsCounted, IsPlainPair}
use Rattle.dwz_abbrev.specs.Ranges.{IsInRange}

-- the next code is above the others
pub next_above : (table : List Declaration) (n : ℕ) → IsCounted table → n ≡ length table → All (λ e. e.code < n + 1) table
next_above table n counted is = λ k d lt. omega (arith, counted k d lt, is)

-- pairs that may be declared, with the numbers of their types, can be spelled
pub pairs_fit : (pairs : List Pair) → All IsPlainPair pairs → All IsInRange pairs → All FitsPair pairs
pairs_fit pairs plain ranges = λ k d lt.
    let range = ranges k d lt in
    record { plain = plain k d lt; name_fits = range.name; form_fits = range.form; constant_fits = range.constant }

-- the table with one declaration more can be spelled
pub pushed_fits : (table : List Declaration) (d : Declaration) → FitsTable table → FitsDeclaration d → All (λ e. e.code < d.code) table → FitsTable (table ++ d ∷ [])
pushed_fits table d fits here below = record {
  each = All-push FitsDeclaration table d fits.each here;
  different = all_pairs_push (λ e f. e.code ≢ f.code) table d fits.different (λ k e lt same. omega (arith, below k e lt, same));
}
