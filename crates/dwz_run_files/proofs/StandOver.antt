-- Over a common file that stands all texts stand where the definitions say, once the lists have its texts: those that files share there, and
-- all others where they were read.
use Rattle.std.proofs.Common.{◌≡◌, suc, Bool, List, [], ◌∷◌, map, None, slice_get, refl, sym, ap, subst, ◌∙◌}
use Rattle.dwz_def_reading.specs.Lists.{Each}
use Rattle.dwz_def_tops.specs.Spots.{file_numbers}
use Rattle.dwz_def_readback.specs.Files.{imports_common}
use Rattle.dwz_layout_order.specs.declared.orders.Settled.{Settled}
use Rattle.dwz_layout.specs.declared.known.EntryTable.{EntryTable}
use Rattle.dwz_layout.specs.declared.order.UnitItems.{UnitItems}
use Rattle.dwz_law_layout.specs.Beside.{Over, Standing}
use Rattle.dwz_law_layout.specs.Facts.{RunFacts, docs, files_written, move, units}
use Rattle.dwz_law_layout.specs.Laid.{AreFew}
use Rattle.dwz_law_layout.specs.Listed.{AreListed, TextsAt}
use Rattle.dwz_encode_texts.specs.TextLaws.{StandAsRead}
use Rattle.dwz_encode_common.specs.SharedLaws.{HasTexts}
use Rattle.dwz_encode_common.specs.WithCommon.{texts_held}
use Rattle.dwz_run_files.specs.Common.{AreKnown}
use Rattle.dwz_run_files.specs.Prepared.{ArePrepared}
use Rattle.dwz_run_files.specs.Stood.{FilesUnshared}
use Rattle.dwz_run_files.specs.Whole.{PoolsUnit, StandWhole, TextsKnownBy}
use Rattle.dwz_run_files.proofs.FilesTexts.{stood}
use Rattle.dwz_run_files.proofs.OwnedTexts.{names_owned, order_owned}
use Rattle.dwz_run_files.proofs.SharedFiles.{files_shared}

module _ (c : Standing) (f : RunFacts (Over c)) (s : Settled) (t : TextsAt) (before : EntryTable) (orders : List (List UnitItems))
    (p : ArePrepared f s t before orders) (as_read : StandAsRead f t)
    (sharing : List Bool) (flags : sharing ≡ map (imports_common (move f) (units f)) (file_numbers 0 (docs f))) (k : EntryTable)
    (has : HasTexts f sharing before k) where
  abbrev others : List (List UnitItems)
  others = p.ordered.others

  old : FilesUnshared f before (files_written f) others
  old = stood (Over c) f s t before orders p as_read [] others p.ordered.orders_are

  none_pooled : (common : List UnitItems) (others : List (List UnitItems)) → orders ≡ common ∷ others → Each (PoolsUnit f k) common
  none_pooled common others are =
      let both : [] ∷ p.ordered.others ≡ common ∷ others = sym p.ordered.orders_are ∙ are in
      let none : [] ≡ common = cc in
      subst (Each (PoolsUnit f k)) none tt

  stand : StandWhole f k orders
  stand = record {
    known = subst (TextsKnownBy (Over c) f k (λ n. None)) (sym p.ordered.orders_are)
        (refl, files_shared f t sharing before k p.facts p.listed has flags (files_written f) others old);
    pooled = none_pooled;
    owned = λ n rank first order is.
        order_owned f t sharing before k p.facts p.listed as_read has (files_written f) others old rank n order is.file
        (ap (λ (w : List (List UnitItems)). slice_get w (suc rank)) (sym p.ordered.orders_are) ∙ is.order_is);
    names = λ n. names_owned f t sharing before k p.facts p.listed as_read has n;
  }

  -- so the lists are known, where the texts of the common file aren't too long
  pub known_over : AreListed f (texts_held k) k → AreFew f → AreKnown f s orders k
  known_over listed few = record {
    texts = texts_held k;
    prepared = record {
      facts = p.facts;
      beside_are = p.beside_are;
      read = p.read;
      settled = p.settled;
      ordered = p.ordered;
      listed = listed;
    };
    stand = stand;
    few = few;
  }
