-- A declaration has no more pairs than its section has bytes.
use Rattle.std.proofs.Common.{◌≡◌, ℕ, ◌^◌, ◌<◌, ◌++◌, List, [], length, Some, ap, arith}
use Rattle.std.proofs.lemmas.List.{length-append}
use Rattle.dwz_def_reading.specs.Abbrevs.{Declaration, SpellsTable, find_decl}
use Rattle.dwz_def_reading.specs.Parts.{StandsAt}
use Rattle.dwz_unit.proofs.ShortLemmas.{decls_few}

-- 32 bits count the pairs of each declaration
abbrev pub HasFewPairs : List Declaration → Type 0
HasFewPairs table = (code : ℕ) (d : Declaration) → find_decl table code ≡ Some d → length d.pairs < 2 ^ 32

pub table_few : (section : List ℕ) (at : ℕ) (table : List Declaration) → StandsAt SpellsTable section at table → length section < 2 ^ 32 → HasFewPairs table
table_few section at table t short code d found =
    let few = decls_few table [] t.front code d t.spelled found in
    omega (arith, few, short, ap length t.parts, length-append t.before (t.front ++ t.after), length-append t.front t.after)
