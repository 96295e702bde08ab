-- Which texts the files that are written use, and what stays of them.
use Rattle.std.specs.Prelude.{◌≡◌, ℕ, suc, Bool, false, true, All, IsSome, List, Option, Some, None, get_or, slice_get}
use Rattle.dwz_def_reading.specs.Texts.{text_at}
use Rattle.dwz_def_reading.specs.Files.{sources_of}
use Rattle.dwz_layout.specs.declared.known.EntryTable.{EntryTable}
use Rattle.dwz_layout.specs.declared.order.UnitItems.{UnitItems}
use Rattle.dwz_law_layout.specs.Beside.{Beside}
use Rattle.dwz_law_layout.specs.Facts.{AreFacts, RunFacts}
use Rattle.dwz_law_layout.specs.Either.{first_unit_by}
use Rattle.dwz_run_files.specs.Prepared.{AreRanks, firsts_from}
use Rattle.dwz_encode_texts.specs.declared.pruning.PrunedFile.{PrunedFile}
use Rattle.dwz_encode_texts.specs.PrunedFiles.{IsPrunedFile}
use Rattle.dwz_encode_texts.specs.Used.{order_uses}
use Rattle.dwz_run_files.specs.declared.pruned.Written.{Written}

-- The file with that number has these bytes, and it is written: these are its units, the first of which has that number among all that
-- are written.
pub record IsFileOf (contents : List (List ℕ)) (w : Written) (n : ℕ) (bytes : List ℕ) (first : ℕ) (order : List UnitItems) : Type 0 where
  pub rank : ℕ
  pub bytes_are : slice_get contents n ≡ Some bytes
  pub rank_is : slice_get w.ranks.now n ≡ Some (Some rank)
  pub order_is : slice_get w.orders.now (suc rank) ≡ Some order
  pub first_is : slice_get w.firsts.now (suc rank) ≡ Some first

-- each use of what is written of a file names a text of its `.debug_str`
abbrev pub UsesNameTexts : List (List ℕ) → EntryTable → Written → Type 0
UsesNameTexts contents k w =
    (n : ℕ) (bytes : List ℕ) (first : ℕ) (order : List UnitItems) → IsFileOf contents w n bytes first order
    → All (λ used. IsSome (text_at (sources_of bytes).strs used)) (order_uses k first order)

-- of these files with these ranks, units and numbers, those are prunable whose flags are set
pub record AreFilesWritten {beside : Beside} (f : RunFacts beside) (contents : List (List ℕ)) (w : Written) (prunes : List Bool) : Type 0 where
  pub facts : AreFacts f
  pub contents_are : f.contents ≡ contents
  pub ranks : AreRanks f w.ranks.now
  pub firsts : w.firsts.now ≡ firsts_from (first_unit_by beside) w.orders.now
  pub prunes_are : (n : ℕ) → f.input.prunes n ≡ get_or prunes n false

-- ---- step by step: no public clause cites what follows

-- a file with these bytes keeps just the texts that these uses and its slots name, if it is prunable, and any other all
abbrev pub KeepsUsed : Bool → (bytes uses : List ℕ) → Option PrunedFile → Type 0
KeepsUsed prunes bytes uses None = prunes ≡ false
KeepsUsed prunes bytes uses (Some p) = (prunes ≡ true) × IsPrunedFile (sources_of bytes).strs (sources_of bytes).offsets uses p

-- so does the file with that number, if it is written
abbrev pub FileKeeps : List (List ℕ) → EntryTable → Written → Bool → ℕ → Option PrunedFile → Type 0
FileKeeps contents k w prunes n p =
    (bytes : List ℕ) (first : ℕ) (order : List UnitItems) → IsFileOf contents w n bytes first order
    → KeepsUsed prunes bytes (order_uses k first order) p
