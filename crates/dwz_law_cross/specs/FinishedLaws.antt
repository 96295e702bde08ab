-- A file before a run and after it are read one behind the other, beside the common file that the run made or without it, and mean the
-- same.
use Rattle.std.specs.Prelude.{◌≡◌, false, Bool, ℕ, List, [], ◌∷◌, None, Some}
use Rattle.dwz_def_reading.specs.Lists.{Each, Nth}
use Rattle.dwz_def_reading.specs.Documents.{Doc}
use Rattle.dwz_def_reading.specs.Finished.{FinishedDocs, ReadFinished, has_sup}
use Rattle.dwz_def_reading.specs.Places.{Place}
use Rattle.dwz_def_reading.specs.Texts.{NoZero}
use Rattle.dwz_def_reading.specs.Values.{AreBytes}
use Rattle.dwz_def_tops.specs.Alike.{TopScope}
use Rattle.dwz_def_readback.specs.Files.{imports_common}
use Rattle.dwz_def_output.specs.FilesAfter.{bytes_after, common_bytes}
use Rattle.dwz_def_output.specs.Written.{CanBeWritten, common_under, run_under}
use Rattle.dwz_def_cross.specs.CrossSame.{CrossSame}
use Rattle.dwz_def_limits.specs.Within.{AreWithinLimits}
use Rattle.dwz_law_cross.specs.PairLaws.{with_common}

-- what two files say, beside what the common file says, means the same
pub record SaidSame (said : FinishedDocs) : Type 0 where
  pub common : Doc Place
  pub old : Doc Place
  pub new : Doc Place
  pub are : said ≡ record { common = Some common; docs = old ∷ new ∷ [] }
  pub same : CrossSame (with_common old.units common.units) (with_common new.units common.units)

-- and what they say by themselves
pub record SaidSameAlone (said : FinishedDocs) : Type 0 where
  pub old : Doc Place
  pub new : Doc Place
  pub are : said ≡ record { common = None; docs = old ∷ new ∷ [] }
  pub same : CrossSame (with_common old.units []) (with_common new.units [])

-- Where nothing refuses the files and there is a common file, so it is with each file, whether something of it moves or not, where limits
-- leave room for the three.
abbrev pub FinishedLaw : Type 0
FinishedLaw =
    (scope : TopScope) (name : List ℕ) (contents : List (List ℕ)) (docs : List (Doc ℕ)) (prunes : List Bool) → Each AreBytes contents
    → CanBeWritten scope name contents docs prunes → NoZero name
    → let r = run_under scope contents docs prunes in
    common_under scope r ≡ Some (common_bytes r) → (file : ℕ) (doc : Doc ℕ) → Nth 0 docs file doc
    → AreWithinLimits (common_bytes r ∷ r.input.bytes file ∷ bytes_after name r file ∷ [])
    → (said : FinishedDocs) × ReadFinished (Some (common_bytes r)) (r.input.bytes file ∷ bytes_after name r file ∷ []) said × SaidSame said

-- And so it is without a common file with each that imports nothing from one.
abbrev pub AloneLaw : Type 0
AloneLaw =
    (scope : TopScope) (name : List ℕ) (contents : List (List ℕ)) (docs : List (Doc ℕ)) (prunes : List Bool) → Each AreBytes contents
    → CanBeWritten scope name contents docs prunes
    → let r = run_under scope contents docs prunes in
    (file : ℕ) (doc : Doc ℕ) → Nth 0 docs file doc → imports_common r.move r.units file ≡ false
    → AreWithinLimits (r.input.bytes file ∷ bytes_after name r file ∷ [])
    → (said : FinishedDocs) × ReadFinished None (r.input.bytes file ∷ bytes_after name r file ∷ []) said × SaidSameAlone said

-- No file that is read has `.debug_sup`; after, just those have it that import from the common file.
abbrev pub NamesLaw : Type 0
NamesLaw =
    (scope : TopScope) (name : List ℕ) (contents : List (List ℕ)) (docs : List (Doc ℕ)) (prunes : List Bool) → Each AreBytes contents
    → CanBeWritten scope name contents docs prunes
    → let r = run_under scope contents docs prunes in
    (file : ℕ) (doc : Doc ℕ) → Nth 0 docs file doc
    → (has_sup (r.input.bytes file) ≡ false) × (has_sup (bytes_after name r file) ≡ imports_common r.move r.units file)
