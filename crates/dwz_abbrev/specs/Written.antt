-- What is written so far.
use Rattle.std.specs.Prelude.{◌≡◌, ◌≢◌, List, length, take}
use Rattle.dwz_def_reading.specs.Abbrevs.{Declaration}

-- the first items are those that were there
abbrev pub Begins : {X : Type 0} → List X → List X → Type 0
Begins old new = take (length old) new ≡ old

abbrev pub Differ : Declaration → Declaration → Type 0
Differ d e = d.code ≢ e.code
