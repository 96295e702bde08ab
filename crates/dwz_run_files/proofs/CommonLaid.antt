-- The common file is laid first, and what is laid of it, with its texts, are its sections in the run.
use Rattle.std.proofs.Common.{◌≡◌, ℕ, ◌+◌, ◌<◌, List, [], ◌∷◌, length, take, None, Some, slice_get, refl, sym, ap, subst, ◌∙◌, arith}
use Rattle.dwz_def_reading.specs.Spelling.{le_bytes}
use Rattle.dwz_model.specs.declared.sections.Sections.{Sections}
use Rattle.dwz_def_encoding.specs.Placing.{lines_bytes, texts_bytes}
use Rattle.dwz_def_readback.specs.Files.{common_out, common_sections, paths, places, texts as texts_of_run}
use Rattle.dwz_def_output.specs.Contents.{common_after, if_some}
use Rattle.dwz_layout.specs.declared.order.UnitItems.{UnitItems}
use Rattle.dwz_layout.specs.Laid.{AllMade, FileMade}
use Rattle.dwz_encode.specs.Laws.{FileIs}
use Rattle.dwz_encode.specs.Shown.{unit_count}
use Rattle.dwz_law_layout.specs.Beside.{Alone}
use Rattle.dwz_law_layout.specs.Facts.{RunFacts, run}
use Rattle.dwz_law_layout.specs.Either.{put_by}
use Rattle.dwz_run_files.specs.declared.common.CommonTexts.{CommonTexts}
use Rattle.dwz_run_files.specs.declared.work.LaidRun.{LaidRun}
use Rattle.dwz_run_files.specs.Common.{HasTexts, bytes_if_some}
use Rattle.dwz_run_files.specs.Works.{IsWork}
use Rattle.dwz_run_files.proofs.FileMoved.{all, file_here, laid, layout_many, many, orders_in}

none_before : (orders : List (List UnitItems)) → unit_count (take 0 orders) ≡ 0
unfolding unit_count
none_before orders = refl

module _ (f : RunFacts Alone) (w : LaidRun) (is : IsWork f w) where
  pub in_orders : 0 < length (orders_in f w is)
  in_orders = (let count = many f w is in omega (arith, count))

  pub in_layout : 0 < length w.layout.now.files
  in_layout = (let count = layout_many f w is in omega (arith, count, in_orders))

  abbrev Is : AllMade → List UnitItems → FileMade → Type 0
  Is a order m = FileIs (places (run f)) w.prepared.now.known a.places a.roots 0 order m (common_out (run f))

  -- what is laid of the units that are written first
  pub common_is : (order : List UnitItems) (m : FileMade) → slice_get w.prepared.now.ordered.orders.items 0 ≡ Some order
      → slice_get w.layout.now.files 0 ≡ Some m → Is w.layout.now order m
  common_is order m units made =
      let a = all f w is in
      let there : slice_get a.files 0 ≡ Some m = ap (λ (x : AllMade). slice_get x.files 0) (sym is.layout_is) ∙ made in
      let here = file_here (places (run f)) w.prepared.now.known a.places a.roots 0 (orders_in f w is) a.files (put_by f) (laid f w is)
      0 order m (common_out (run f)) units there refl in
      let count = none_before (orders_in f w is) in
      let first : 0 + unit_count (take 0 (orders_in f w is)) ≡ 0 = omega (arith, count) in
      subst (λ (x : AllMade). Is x order m) (sym is.layout_is)
      (subst (λ (n : ℕ). FileIs (places (run f)) w.prepared.now.known a.places a.roots n order m (common_out (run f))) first here)

-- ---- its texts

strs_some : (texts : List (List ℕ)) → bytes_if_some (texts_bytes texts) ≡ if_some texts (texts_bytes texts)
unfolding texts_bytes
strs_some [] = refl
strs_some ([] ∷ texts) = refl
strs_some ((c ∷ text) ∷ texts) = refl

lines_some : (paths : List (List ℕ)) → bytes_if_some (lines_bytes paths) ≡ if_some paths (lines_bytes paths)
unfolding le_bytes
lines_some [] = refl
lines_some (path ∷ paths) = refl

-- ---- all its sections

pub common_made : (f : RunFacts Alone) (texts : CommonTexts) → HasTexts (run f) (Some texts) → (s : Sections)
    → s.info ≡ (common_sections (run f)).info → s.abbrev ≡ (common_sections (run f)).abbrevs
    → s.strs ≡ bytes_if_some texts.strs.items → s.offsets ≡ None → s.line ≡ bytes_if_some texts.lines.items
    → s.loclists ≡ None → s.aranges ≡ None → s ≡ common_after (run f)
unfolding common_after
common_made f texts has s info abbrevs strs offsets line lists ranges =
    let r = run f in
    let strs_are : s.strs ≡ if_some (texts_of_run r) (texts_bytes (texts_of_run r)) =
    strs ∙ ap bytes_if_some has.1 ∙ strs_some (texts_of_run r) in
    let lines_are : s.line ≡ if_some (paths r) (lines_bytes (paths r)) = line ∙ ap bytes_if_some has.2 ∙ lines_some (paths r) in
    (λ i. record {
      info = info i;
      «abbrev» = abbrevs i;
      strs = strs_are i;
      offsets = offsets i;
      line = lines_are i;
      loclists = lists i;
      aranges = ranges i;
    })
