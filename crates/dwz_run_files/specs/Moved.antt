-- Texts that have moved, since just those stay that are used.
use Rattle.std.specs.Prelude.{◌≡◌, ℕ, suc, true, false, List, [], ◌∷◌, map, get_or, Option, Some, None}
use Rattle.dwz_def_readback.specs.Files.{sources}
use Rattle.dwz_layout.specs.declared.known.FileRows.{FileRows}
use Rattle.dwz_layout.specs.declared.known.EntryTable.{EntryTable}
use Rattle.dwz_layout.specs.declared.known.SpaceRow.{SpaceRow}
use Rattle.dwz_layout.specs.declared.known.TextAt.{TextAt}
use Rattle.dwz_layout.specs.declared.order.UnitItems.{UnitItems}
use Rattle.dwz_law_layout.specs.Beside.{Beside}
use Rattle.dwz_law_layout.specs.Facts.{RunFacts, run}
use Rattle.dwz_encode_texts.specs.declared.pruning.PrunedFile.{PrunedFile}
use Rattle.dwz_encode_texts.specs.MovedTexts.{moved_text}
use Rattle.dwz_encode_texts.specs.PrunedFiles.{IsPrunedFile}
use Rattle.dwz_encode_texts.specs.Used.{order_uses}
use Rattle.dwz_run_files.specs.Prepared.{IsOrdered}

-- ---- what is taken out

-- a file that is prunable keeps just the texts that these uses and its slots name, and any other all
abbrev pub IsPrunedIf : {beside : Beside} → RunFacts beside → ℕ → (uses : List ℕ) → Option PrunedFile → Type 0
IsPrunedIf f n uses None = f.input.prunes n ≡ false
IsPrunedIf f n uses (Some p) = (f.input.prunes n ≡ true) × IsPrunedFile (sources (run f) n).strs (sources (run f) n).offsets uses p

-- that of the file with a number
abbrev pub pruned_at : List (Option PrunedFile) → ℕ → Option PrunedFile
pruned_at pruned n = get_or pruned n None

-- so it is of each file that is written, by the uses of what is written of it
abbrev pub ArePruned : {beside : Beside} → RunFacts beside → EntryTable → List (List UnitItems) → List (Option PrunedFile) → Type 0
ArePruned f k orders pruned =
    (n rank first : ℕ) (order : List UnitItems) → IsOrdered f orders n rank first order
    → IsPrunedIf f n (order_uses k first order) (pruned_at pruned n)

-- ---- where texts stand then

abbrev pub moved_if : Option PrunedFile → TextAt → TextAt
moved_if None t = t
moved_if (Some p) t = moved_text p.strs t

-- a file whose texts have moved, and nothing else
pub record RowMoved (pruned : Option PrunedFile) (old new : FileRows) : Type 0 where
  pub texts : new.texts.items ≡ map (moved_if pruned) old.texts.items
  pub units : new.units ≡ old.units
  pub start : new.start ≡ old.start
  pub firsts : new.firsts ≡ old.firsts
  pub references : new.references ≡ old.references
  pub files : new.files ≡ old.files

-- files, the first of which has that number
abbrev pub RowsMoved : List (Option PrunedFile) → ℕ → List FileRows → List FileRows → Type 0
RowsMoved pruned n [] [] = Unit {0}
RowsMoved pruned n (r ∷ rows) (m ∷ moved) = RowMoved (pruned_at pruned n) r m × RowsMoved pruned (suc n) rows moved
RowsMoved pruned n _ _ = ⊥

-- a space, whose name in a partial unit of its file stands in that file or is shared; in the common file it stays
abbrev pub moved_space : List (Option PrunedFile) → SpaceRow → SpaceRow
moved_space pruned s = record { row = s.row; text = moved_if (pruned_at pruned s.row.file) s.text; common = s.common }

-- the lists with the places of texts that have moved
pub record AreMoved (pruned : List (Option PrunedFile)) (k moved : EntryTable) : Type 0 where
  pub files : RowsMoved pruned 0 k.files.items moved.files.items
  pub spaces : moved.spaces.items ≡ map (moved_space pruned) k.spaces.items
  pub owners : moved.owners ≡ k.owners
  pub tops : moved.tops ≡ k.tops
  pub parts : moved.parts ≡ k.parts
  pub commons : moved.commons ≡ k.commons
