-- Once the common file has its texts, all texts stand where the definitions say: its own, those that files share, and all others.
use Rattle.std.proofs.Common.{◌≡◌, suc, ◌<◌, Bool, List, [], ◌∷◌, map, None, Some, slice_get, sym, ap, subst, ◌∙◌}
use Rattle.dwz_def_reading.specs.Lists.{Each}
use Rattle.dwz_def_tops.specs.Spots.{file_numbers}
use Rattle.dwz_def_readback.specs.Files.{imports_common, paths, texts}
use Rattle.dwz_def_readback.specs.Sound.{FewTexts}
use Rattle.dwz_def_encoding.specs.Placing.{lines_bytes, texts_bytes}
use Rattle.dwz_layout_order.specs.declared.orders.Settled.{Settled}
use Rattle.dwz_layout_order.specs.Ordered.{AreOrders}
use Rattle.dwz_layout.specs.declared.known.EntryTable.{EntryTable}
use Rattle.dwz_layout.specs.declared.order.UnitItems.{UnitItems}
use Rattle.dwz_law_layout.specs.Beside.{Alone}
use Rattle.dwz_law_layout.specs.Facts.{RunFacts, docs, files_written, move, run, units}
use Rattle.dwz_law_layout.specs.Laid.{TextsKnown}
use Rattle.dwz_law_layout.specs.Listed.{AreListed, TextsAt}
use Rattle.dwz_encode_texts.specs.TextLaws.{StandAsRead}
use Rattle.dwz_encode_common.specs.CommonLaws.{IsCommonOrder}
use Rattle.dwz_encode_common.specs.Pooled.{PoolsUnit as Pools}
use Rattle.dwz_encode_common.specs.SharedLaws.{HasCommon}
use Rattle.dwz_encode_common.specs.WithCommon.{texts_held}
use Rattle.dwz_encode_common.proofs.CommonUnits.{know_common}
use Rattle.dwz_encode_common.proofs.PooledTexts.{pooled_law}
use Rattle.dwz_run_files.specs.declared.common.CommonTexts.{CommonTexts}
use Rattle.dwz_run_files.specs.declared.common.WholeLists.{WholeLists}
use Rattle.dwz_run_files.specs.Common.{AreKnown, AreWhole, HasTexts}
use Rattle.dwz_run_files.specs.Prepared.{ArePrepared}
use Rattle.dwz_run_files.specs.Stood.{FilesUnshared}
use Rattle.dwz_run_files.specs.Whole.{PoolsUnit, StandWhole}
use Rattle.dwz_run_files.proofs.CommonThere.{some_there}
use Rattle.dwz_run_files.proofs.FilesTexts.{stood}
use Rattle.dwz_run_files.proofs.OwnedTexts.{names_owned, order_owned}
use Rattle.dwz_run_files.proofs.SharedFiles.{files_shared}

-- the texts of the entries of each unit
entries_pooled : (f : RunFacts Alone) (k : EntryTable) (order : List UnitItems) → Each (Pools f k) order → Each (PoolsUnit f k) order
entries_pooled f k [] all = tt
entries_pooled f k (o ∷ order) all = (λ n bytes x index h i r d read writes. all.0.entries n bytes x index h i r d read writes, entries_pooled f k order all.1)

module _ (f : RunFacts Alone) (s : Settled) (t : TextsAt) (before : EntryTable) (orders : List (List UnitItems)) (p : ArePrepared f s t before orders)
    (as_read : StandAsRead f t) where
  -- the first order is that of the common file
  pub common_order : (common : List UnitItems) (others : List (List UnitItems)) → orders ≡ common ∷ others → IsCommonOrder f before common
  common_order common others are = record {
    facts = p.facts;
    t = t;
    listed = p.listed;
    s = s;
    settled = p.settled;
    others = others;
    ordered = subst (λ (w : List (List UnitItems)). AreOrders f.contents f.indexes s w) are p.ordered;
  }

  pub first_is : (order : List UnitItems) → slice_get orders 0 ≡ Some order → orders ≡ order ∷ p.ordered.others
  first_is order is =
      let are = p.ordered.orders_are in
      let both : Some p.ordered.common ≡ Some order = ap (λ (w : List (List UnitItems)). slice_get w 0) (sym are) ∙ is in
      let same : p.ordered.common ≡ order = cc in
      are ∙ ap (λ (o : List UnitItems). o ∷ p.ordered.others) same

  module _ (sharing : List Bool) (flags : sharing ≡ map (imports_common (move f) (units f)) (file_numbers 0 (docs f))) (k : EntryTable)
      (has : HasCommon f sharing before k) where
    old : (common : List UnitItems) (others : List (List UnitItems)) → orders ≡ common ∷ others
        → FilesUnshared f before (files_written f) others
    old common others are = stood Alone f s t before orders p as_read common others are

    given : StandWhole f k orders
    given =
        let common = p.ordered.common in
        let others = p.ordered.others in
        let are = p.ordered.orders_are in
        record {
          known = subst (TextsKnown f k (λ n. None)) (sym are) (
            know_common f sharing before k common (common_order common others are) has,
            files_shared f t sharing before k p.facts p.listed has.with_texts flags (files_written f) others (old common others are),
          );
          pooled = λ common others are. entries_pooled f k common (pooled_law f sharing before k common (common_order common others are) has);
          owned = λ n rank first order is.
              order_owned f t sharing before k p.facts p.listed as_read has.with_texts (files_written f) others (old common others are) rank n order
              is.file (ap (λ (w : List (List UnitItems)). slice_get w (suc rank)) (sym are) ∙ is.order_is);
          names = λ n. names_owned f t sharing before k p.facts p.listed as_read has.with_texts n;
        }

    -- so the lists are those with the texts of the common file, where these are its sections, and not too long
    pub texts_given : AreListed f (texts_held k) k → 0 < f.commons → (c : CommonTexts) → c.strs.items ≡ texts_bytes (texts (run f))
        → c.lines.items ≡ lines_bytes (paths (run f)) → FewTexts (run f) → (w : WholeLists) → w.known ≡ k → w.common ≡ Some c
        → AreWhole f s orders w
    texts_given listed some c strs lines few w known common = record {
      known = subst (AreKnown f s orders) (sym known) (record {
        texts = texts_held k;
        prepared = record {
          facts = p.facts;
          beside_are = tt;
          read = p.read;
          settled = p.settled;
          ordered = p.ordered;
          listed = listed;
        };
        stand = given;
        few = few;
      });
      common = subst (HasTexts (run f)) (sym common) (some_there f p.facts some, strs, lines);
    }
