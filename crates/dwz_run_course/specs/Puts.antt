-- What puts leave.
use Rattle.std.specs.Prelude.{◌≡◌, ◌⊎◌, ℕ, ◌<◌, false, List, [], ◌∷◌, ◌++◌, Some, IfSome, take, length}
use Rattle.std.specs.Str.{bytes_eq}
use Rattle.dwz_outside.specs.declared.puts.Put.{Put}
use Rattle.dwz_outside.specs.Store.{Store, done}
use Rattle.dwz_outside.specs.Told.{FailedWrite, FilesSeen, StoredWith}

-- what is held is what was, with these puts done in order
abbrev pub HeldWith : FilesSeen → FilesSeen → List Put → Type 0
HeldWith old new puts = IfSome old.held (λ store. new.held ≡ Some (done puts store))

-- all puts are done, each once and no other, and none failed last
pub record PutsDone (old new : FilesSeen) (puts : List Put) : Type 0 where
  pub held : HeldWith old new puts
  pub stored : StoredWith old new puts
  pub last : new.last_write ≡ old.last_write

-- The puts before one are done, each once. That one failed, and was the last that did. None of those after it is done.
pub record PutsStopped (old new : FilesSeen) (puts : List Put) (name : List ℕ) : Type 0 where
  pub before : List Put
  pub failed : Put
  pub after : List Put
  pub puts_are : puts ≡ before ++ failed ∷ after
  pub held : HeldWith old new before
  pub stored : StoredWith old new before
  pub name_is : name ≡ failed.name
  pub fault : FailedWrite old new name

-- what is held is of this kind before the puts, and each time that one more of them is done
abbrev pub Prefixes : List Put → Store → (Store → Type 0) → Type 0
Prefixes puts store Is = (k : ℕ) → Is (done (take k puts) store)

-- the puts are of other names
abbrev pub AreOthers : List ℕ → List Put → Type 0
AreOthers name [] = Unit {0}
AreOthers name (p ∷ puts) = (bytes_eq name p.name ≡ false) × AreOthers name puts

-- no two puts are of one name
abbrev pub AreApart : List Put → Type 0
AreApart [] = Unit {0}
AreApart (p ∷ puts) = AreOthers p.name puts × AreApart puts

-- each name has what it had, or what all puts give it
abbrev pub IsOldOrNew : List Put → Store → Store → Type 0
IsOldOrNew puts store now = (name : List ℕ) → (now name ≡ store name) ⊎ (now name ≡ done puts store name)

-- what is held after a put has failed is what is held after one of the prefixes
abbrev pub StopsAmong : FilesSeen → FilesSeen → List Put → List ℕ → Type 0
StopsAmong old new puts name =
    PutsStopped old new puts name → (store : Store) → old.held ≡ Some store
    → (k : ℕ) × (k < length puts) × (new.held ≡ Some (done (take k puts) store))
