-- What is said of two tops that may move: that they are alike, or why not.
use Rattle.std.specs.Prelude.{List}
use Rattle.dwz_def_tops.specs.Alike.{Alike}
use Rattle.dwz_def_tops.specs.Spots.{EntryName, FileUnit, Top, tops_of}
use Rattle.dwz_def_explain.specs.Chain.{BothLead, IsLeastChain}
use Rattle.dwz_def_explain.specs.What.{IsWhat}
use Rattle.dwz_def_explain.specs.declared.verdict.Verdict.{Verdict}
use Rattle.dwz_def_explain.specs.declared.verdict.Verdict.TheVariants.{Alike as are_alike, Differ}

-- they are alike; or that is the least chain for them, and what differs between the tops at its end
abbrev pub IsExplained : List (FileUnit EntryName) → Top → Top → Verdict → Type 0
IsExplained units a b are_alike = Alike units a.number b.number
IsExplained units a b (Differ chain what) =
    IsLeastChain (tops_of units) a b chain × BothLead (λ c d. IsWhat c d what) (tops_of units) chain a b
