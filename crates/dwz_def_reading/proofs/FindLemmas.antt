-- What is found among declarations is found with others behind them; what none of them has is sought behind them.
use Rattle.std.proofs.Common.{◌≡◌, ℕ, List, [], ◌∷◌, ◌++◌, Some, None, refl, Bool, true, false, eqb, cond}
use Rattle.std.proofs.lemmas.Bool.{eq-eqb}
use Rattle.dwz_def_reading.specs.Abbrevs.{Declaration, find_decl}

pub last_found : (table : List Declaration) (d : Declaration) → find_decl table d.code ≡ None → find_decl (table ++ d ∷ []) d.code ≡ Some d
last_found [] d none = let same : eqb d.code d.code ≡ true = eq-eqb d.code d.code refl in rw same refl
last_found (e ∷ table) d none = go (last_found table d) (eqb e.code d.code) none where
  go : (find_decl table d.code ≡ None → find_decl (table ++ d ∷ []) d.code ≡ Some d) → (test : Bool) → cond test (Some e) (find_decl table d.code) ≡ None
      → cond test (Some e) (find_decl (table ++ d ∷ []) d.code) ≡ Some d
  go below true is = absurd cc
  go below false is = below is

pub still_found : (table more : List Declaration) (code : ℕ) (d : Declaration) → find_decl table code ≡ Some d → find_decl (table ++ more) code ≡ Some d
still_found [] more code d is = absurd cc
still_found (e ∷ table) more code d is = go (still_found table more code d) (eqb e.code code) is where
  go : (find_decl table code ≡ Some d → find_decl (table ++ more) code ≡ Some d) → (test : Bool) → cond test (Some e) (find_decl table code) ≡ Some d
      → cond test (Some e) (find_decl (table ++ more) code) ≡ Some d
  go below true here = here
  go below false there = below there

pub found_behind : (table more : List Declaration) (code : ℕ) → find_decl table code ≡ None → find_decl (table ++ more) code ≡ find_decl more code
found_behind [] more code none = refl
found_behind (d ∷ table) more code none = go (found_behind table more code) (eqb d.code code) none where
  go : (find_decl table code ≡ None → find_decl (table ++ more) code ≡ find_decl more code) → (test : Bool) → cond test (Some d) (find_decl table code) ≡ None
      → cond test (Some d) (find_decl (table ++ more) code) ≡ find_decl more code
  go below true is = absurd cc
  go below false is = below is
