-- The lists of a run once the common file has its texts.
use Rattle.std.specs.Prelude.{◌≡◌, ℕ, Bool, true, false, List, [], ◌∷◌, map, Option, Some, None}
use Rattle.dwz_def_tops.specs.Spots.{file_numbers}
use Rattle.dwz_def_encoding.specs.Placing.{lines_bytes, texts_bytes}
use Rattle.dwz_def_readback.specs.Files.{Run, imports_common, paths, texts as texts_of_run}
use Rattle.dwz_def_output.specs.FilesAfter.{has_common}
use Rattle.dwz_graph.specs.declared.file.File.{File}
use Rattle.dwz_layout_order.specs.declared.orders.Settled.{Settled}
use Rattle.dwz_layout.specs.declared.known.EntryTable.{EntryTable}
use Rattle.dwz_layout.specs.declared.order.UnitItems.{UnitItems}
use Rattle.dwz_law_layout.specs.Beside.{Alone, Beside}
use Rattle.dwz_law_layout.specs.Facts.{RunFacts, docs, move, run, units}
use Rattle.dwz_law_layout.specs.Laid.{AreFew}
use Rattle.dwz_law_layout.specs.Listed.{TextsAt}
use Rattle.dwz_encode_texts.specs.TextLaws.{StandAsRead}
use Rattle.dwz_run_files.specs.declared.common.CommonTexts.{CommonTexts}
use Rattle.dwz_run_files.specs.declared.common.WholeLists.{WholeLists}
use Rattle.dwz_run_files.specs.Prepared.{ArePrepared}
use Rattle.dwz_run_files.specs.Whole.{StandWhole}

-- The facts are of these files, which are prepared, with these lists, in which texts stand as they were read; and there is a flag for each
-- file that says whether it imports from the common file.
pub record StandBefore (contents : List (List ℕ)) (files : List File) (importing : List Bool) (k : EntryTable) (orders : List (List
    UnitItems))
    (f : RunFacts Alone) (s : Settled) (t : TextsAt) : Type 0 where
  pub contents_are : f.contents ≡ contents
  pub files_are : f.files ≡ files
  pub importing_are : importing ≡ map (imports_common (move f) (units f)) (file_numbers 0 (docs f))
  pub prepared : ArePrepared f s t k orders
  pub as_read : StandAsRead f t

-- these are `.debug_str` and `.debug_line` of the common file of the run, if there is one
abbrev pub HasTexts : Run → Option CommonTexts → Type 0
HasTexts r None = has_common r ≡ false
HasTexts r (Some c) = (has_common r ≡ true) × (c.strs.items ≡ texts_bytes (texts_of_run r)) × (c.lines.items ≡ lines_bytes (paths r))

-- bytes, where there are some
abbrev pub bytes_if_some : List ℕ → Option (List ℕ)
bytes_if_some [] = None
bytes_if_some (b ∷ bytes) = Some (b ∷ bytes)

-- The lists are of files that are prepared; all texts stand where the definitions say while none is taken out, and those of the common file
-- aren't too long.
pub record AreKnown {beside : Beside} (f : RunFacts beside) (s : Settled) (orders : List (List UnitItems)) (k : EntryTable) : Type 0 where
  pub texts : TextsAt
  pub prepared : ArePrepared f s texts k orders
  pub stand : StandWhole f k orders
  pub few : AreFew f

-- so they are, and a common file that is made has these texts
pub record AreWhole (f : RunFacts Alone) (s : Settled) (orders : List (List UnitItems)) (w : WholeLists) : Type 0 where
  pub known : AreKnown f s orders w.known
  pub common : HasTexts (run f) w.common
