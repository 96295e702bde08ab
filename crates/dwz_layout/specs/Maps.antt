-- What is found in a map whose keys are rows of numbers.
use Rattle.std.specs.Prelude.{◌≡◌, ℕ, List, None, Option}
use Rattle.std.specs.BTreeMap.{BTreeMap, get_by}
use Rattle.std.specs.Cmp.Lexicographic.{slice_cmp}
use Rattle.std.specs.Global.{Vec}
use Rattle.std.specs.Map.{update}
use Rattle.std.specs.Ordering.{nat_cmp}
use Rattle.std.specs.Str.{bytes_eq}

-- what is under a row
abbrev pub look : BTreeMap (Vec ℕ) ℕ → List ℕ → Option ℕ
look m row = get_by (λ k. slice_cmp nat_cmp row k.items) m

-- nothing is found
abbrev pub FindsNone : BTreeMap (Vec ℕ) ℕ → Type 0
FindsNone m = (row : List ℕ) → look m row ≡ None

-- the same is found everywhere
abbrev pub FindsSame : BTreeMap (Vec ℕ) ℕ → BTreeMap (Vec ℕ) ℕ → Type 0
FindsSame old new = (row : List ℕ) → look new row ≡ look old row

-- this is found under a key, and the same everywhere else
abbrev pub Puts : BTreeMap (Vec ℕ) ℕ → BTreeMap (Vec ℕ) ℕ → List ℕ → Option ℕ → Type 0
Puts old new key value = (row : List ℕ) → look new row ≡ update bytes_eq (look old) key value row
