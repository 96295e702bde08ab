use Rattle.std.proofs.Common.{◌≡◌, ◌<◌, ◌^◌, ℕ, List, length, refl, Some, slice_get, sym, ap, subst, ◌∙◌, arith}
use Rattle.dwz_def_reading.specs.ElfLayout.{too_large}
use Rattle.dwz_def_reading.proofs.ListFacts.{item_got}
use Rattle.dwz_def_readback.specs.Files.{paths, texts}
use Rattle.dwz_graph.specs.declared.file.File.{File}
use Rattle.dwz_graph.specs.EntryCounts.{starts_from}
use Rattle.dwz_layout.specs.declared.order.UnitItems.{UnitItems}
use Rattle.dwz_def_readback.specs.Sound.{FewTexts}
use Rattle.dwz_def_encoding.specs.Placing.{lines_bytes, texts_bytes}
use Rattle.dwz_law_layout.specs.Beside.{Alone}
use Rattle.dwz_law_layout.specs.Facts.{run}
use Rattle.dwz_encode_common.specs.SharedLaws.{HasCommon}
use Rattle.dwz_encode_common.specs.WithCommon.{IsWithCommon}
use Rattle.dwz_encode_common.proofs.SharedEntries.{rows_long}
use Rattle.dwz_run_files.proofs.TextsGiven.{common_order, first_is, texts_given}
use Rattle.dwz_run_files.proofs.common.with_texts.Goals as goal

pub with_common-requires : goal.with_common-requires
with_common-requires c =
    let f = c.requires.0 in
    let b = c.requires.3 in
    rows_long f f.files f.indexes (starts_from 0 f.indexes) c.requires.2.files c.args.known.files.items b.prepared.listed.rows
    ∙ ap (λ (files : List File). length files) b.files_are

pub returns : goal.returns
returns c = λ f s t b more. (
    let before = c.args.known in
    let orders = c.args.orders.now in
    let order = c.as_slice-order.result.now in
    let p = b.prepared in
    let many = ap (λ (w : List (List UnitItems)). length w) p.ordered.orders_are in
    let first : slice_get orders 0 ≡ Some order =
    item_got orders 0 c.index-orders-0.result (omega (arith, many)) c.index-orders-0.is
    ∙ ap (λ (us : List UnitItems). Some us) (sym c.as_slice-order.ensures) in
    let is = common_order f s t before orders p b.as_read order p.ordered.others (first_is f s t before orders p b.as_read order first) in
    let words = c.in_ok-texts.ensures.common f b.contents_are is in
    let roads = c.in_ok-paths.ensures.common f b.files_are is in
    let k = c.in_ok-known.known in
    let has : HasCommon f c.args.importing.now before k =
    subst (λ (files : List File). IsWithCommon files (texts (run f)) (paths (run f)) c.args.importing.now before k) (sym b.files_are)
    (subst (λ (w : List (List ℕ)). IsWithCommon c.args.files.now w (paths (run f)) c.args.importing.now before k) words
    (subst (λ (w : List (List ℕ)). IsWithCommon c.args.files.now c.in_ok-texts.texts w c.args.importing.now before k) roads
    c.in_ok-known.ensures.made)) in
    let strs = c.in_ok-common.ensures.strs ∙ ap texts_bytes words in
    let lines = c.in_ok-common.ensures.lines ∙ ap lines_bytes roads in
    let few : FewTexts (run f) = record {
      strs = subst (λ (bytes : List ℕ). length bytes < 2 ^ 32) strs c.in_ok-common.ensures.few_strs;
      lines = subst (λ (bytes : List ℕ). length bytes < too_large) lines c.in_ok-common.ensures.few_lines;
    } in
    let counted = p.listed.commons in
    let some : 0 < f.commons = omega (arith, counted, more) in
    texts_given f s t before orders p b.as_read c.args.importing.now b.importing_are k has (c.in_ok-known.ensures.listed Alone f t p.listed) some
    c.in_ok-common.common strs lines few _ refl refl)
