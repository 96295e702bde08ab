-- What a file says by a rule, with places and where numbers stand for these.
use Rattle.std.proofs.Common.{◌≡◌, ℕ, List, Option, Some, None, Ok, refl}
use Rattle.std.proofs.Common.{Bor}
use Rattle.std.specs.Option.{option_map}
use Rattle.dwz_def_reading.specs.Documents.{Doc}
use Rattle.dwz_def_reading.specs.Files.{Limits, file_meaning_by}
use Rattle.dwz_def_reading.specs.Finished.{GivenCommon, rule_of_back, rule_of_common}
use Rattle.dwz_def_reading.specs.Rules.{ReadingRule}
use Rattle.dwz_def_reading.specs.Units.{RawUnit}
use Rattle.dwz_graph.specs.ByRule.{doc_placed, numbered_rule}
use Rattle.dwz_graph.specs.declared.file.File.{File}

-- what files say by a rule is told by the rule
pub one_meaning : (rule : ReadingRule ℕ) (l : Limits) (bytes : List ℕ) (raw other : List RawUnit) (doc said : Doc ℕ) → file_meaning_by rule l bytes ≡ Ok (raw, doc)
    → file_meaning_by rule l bytes ≡ Ok (other, said) → (raw ≡ other) × (doc ≡ said)
one_meaning rule l bytes raw other doc said e h =
    let p : List RawUnit × Doc ℕ = (raw, doc) in
    let q : List RawUnit × Doc ℕ = (other, said) in
    let both : p ≡ q = cc in
    ((λ i. (both i).0), λ i. (both i).1)

-- what is said with places is what is said where numbers stand for these
pub record ArePlaced : Type 0 where
  pub common : (number : ℕ) (l : Limits) (bytes : List ℕ) (raw : List RawUnit) (doc : Doc ℕ) → file_meaning_by (numbered_rule (rule_of_common number)) l bytes ≡ Ok (raw, doc)
      → file_meaning_by (rule_of_common number) l bytes ≡ Ok (raw, doc_placed (rule_of_common number) bytes raw doc)
  pub back : (given : Option GivenCommon) (number : ℕ) (l : Limits) (bytes : List ℕ) (raw : List RawUnit) (doc : Doc ℕ)
      → file_meaning_by (numbered_rule (rule_of_back given number)) l bytes ≡ Ok (raw, doc) → file_meaning_by (rule_of_back given number) l bytes ≡ Ok (raw, doc_placed (rule_of_back given number) bytes raw doc)

-- the common file by its units
pub units_beside : (o : Option (Bor File)) → option_map (λ f. f.units) (option_map (λ f. f.now) o) ≡ option_map (λ f. f.now.units) o
units_beside None = refl
units_beside (Some f) = refl
