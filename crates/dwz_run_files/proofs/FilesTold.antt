-- Files whose texts are known, with their ranks and their first units: what stays of their texts is told by that, and once texts are taken
-- out they are ready to be laid.
use Rattle.std.proofs.Common.{◌≡◌, ◌+◌, ◌<◌, ◌^◌, ℕ, suc, false, true, Bool, List, [], length, get_or, map, take, Option, Some, None, slice_get}
use Rattle.std.proofs.Common.{sym, ap, subst, ◌∙◌}
use Rattle.std.specs.Prelude.{All, IsSome}
use Rattle.std.proofs.lemmas.Option.{get_or_from_slice_get}
use Rattle.dwz_def_reading.specs.Texts.{text_at}
use Rattle.dwz_def_reading.specs.Files.{sources_of}
use Rattle.dwz_def_tops.specs.Spots.{file_numbers, tops_of, units_of}
use Rattle.dwz_def_images.specs.Units.{changes}
use Rattle.dwz_def_encoding.specs.Pruned.{units_uses}
use Rattle.dwz_def_readback.specs.Files.{formed_by, imports_common, sources}
use Rattle.dwz_layout.specs.declared.known.EntryTable.{EntryTable}
use Rattle.dwz_layout.specs.declared.order.UnitItems.{UnitItems}
use Rattle.dwz_encode.specs.Shown.{unit_count}
use Rattle.dwz_layout_order.specs.declared.orders.Settled.{Settled}
use Rattle.dwz_law_layout.specs.Beside.{Beside}
use Rattle.dwz_law_layout.specs.Facts.{RunFacts, common, docs, every, move, run, units}
use Rattle.dwz_law_layout.specs.Listed.{TextsAt}
use Rattle.dwz_law_layout.specs.Either.{first_unit_by}
use Rattle.dwz_law_layout.proofs.Either.{many_by}
use Rattle.dwz_encode_texts.specs.declared.pruning.PrunedFile.{PrunedFile}
use Rattle.dwz_encode_texts.specs.PrunedFiles.{IsPrunedFile}
use Rattle.dwz_encode_texts.specs.Used.{order_uses}
use Rattle.dwz_encode_texts.proofs.NamedUses.{after_uses}
use Rattle.dwz_run_files.specs.Moved.{AreMoved, ArePruned, IsPrunedIf, pruned_at}
use Rattle.dwz_run_files.specs.Prepared.{AreRanks, CanLay, IsOrdered, firsts_from}
use Rattle.dwz_run_files.specs.declared.ordered.OrderedFiles.{OrderedFiles}
use Rattle.dwz_run_files.specs.declared.prepared.PreparedFiles.{PreparedFiles}
use Rattle.dwz_run_files.specs.declared.pruned.Written.{Written}
use Rattle.dwz_run_files.specs.Common.{AreKnown}
use Rattle.dwz_run_files.specs.Pruned.{AreFilesWritten, UsesNameTexts}
use Rattle.dwz_run_files.specs.Ready.{IsPruned, IsReady}
use Rattle.dwz_run_files.proofs.FilesUse.{order_uses_are}
use Rattle.dwz_run_files.proofs.RanksRead.{first_counted, order_there, rank_there}
use Rattle.dwz_run_files.proofs.RunMoves.{run_order}

-- the facts are of files with these contents and these flags of prunable ones, whose texts are known, with those ranks and first units
pub record AreTold {beside : Beside} (f : RunFacts beside) (contents : List (List ℕ)) (prunes : List Bool) (s : Settled) (o : OrderedFiles)
    (k : EntryTable) : Type 0 where
  pub contents_are : f.contents ≡ contents
  pub prunes_are : (n : ℕ) → f.input.prunes n ≡ get_or prunes n false
  pub bytes_are : (n : ℕ) → f.input.bytes n ≡ get_or contents n []
  pub known : AreKnown f s o.orders.items k
  pub ranks : AreRanks f o.ranks.items
  pub firsts : o.firsts.items ≡ firsts_from (first_unit_by beside) o.orders.items
  pub long : length (docs f) ≡ length contents

module _ {beside : Beside} (f : RunFacts beside) (contents : List (List ℕ)) (prunes : List Bool) (s : Settled) (o : OrderedFiles) (k : EntryTable)
    (a : AreTold f contents prunes s o k) where
  -- what is counted of a file are the uses of its units, and they name texts
  uses : (n rank first : ℕ) (order : List UnitItems) → IsOrdered f o.orders.items n rank first order
      → (order_uses k first order ≡ units_uses (formed_by (common f) (run f) n))
      × All (λ used. IsSome (text_at (sources (run f) n).strs used)) (order_uses k first order)
  uses = order_uses_are beside f s a.known.texts k o.orders.items a.known.prepared a.known.stand a.known.few

  -- so it is by the ranks and the first units that are lent
  module _ (lends : Written) (ranks_are : lends.ranks.now ≡ o.ranks.items) (orders_are : lends.orders.now ≡ o.orders.items)
      (firsts_are : lends.firsts.now ≡ o.firsts.items) where
    pub texts_named : UsesNameTexts contents k lends
    texts_named n bs first order is =
        let rank_is : slice_get o.ranks.items n ≡ Some (Some is.rank) =
        ap (λ (xs : List (Option ℕ)). slice_get xs n) (sym ranks_are) ∙ is.rank_is in
        let order_is : slice_get o.orders.items (suc is.rank) ≡ Some order =
        ap (λ (xs : List (List UnitItems)). slice_get xs (suc is.rank)) (sym orders_are) ∙ is.order_is in
        let first_is : slice_get (firsts_from (first_unit_by beside) o.orders.items) (suc is.rank) ≡ Some first =
        ap (λ (xs : List ℕ). slice_get xs (suc is.rank)) (sym a.firsts ∙ sym firsts_are) ∙ is.first_is in
        let rank = a.ranks.each n (Some is.rank) rank_is in
        let of : IsOrdered f o.orders.items n is.rank first order = record {
          file = rank.1;
          order_is = order_is;
          first_is = first_counted (first_unit_by beside) o.orders.items (suc is.rank) first first_is;
        } in
        let same : f.input.bytes n ≡ bs = a.bytes_are n ∙ get_or_from_slice_get contents n bs [] is.bytes_are in
        subst (λ (b : List ℕ). All (λ used. IsSome (text_at (sources_of b).strs used)) (order_uses k first order)) same
        (uses n is.rank first order of).1

    pub ranks_long : length lends.ranks.now ≡ length contents
    ranks_long = ap (λ (xs : List (Option ℕ)). length xs) ranks_are ∙ a.ranks.many ∙ a.long

    pub files_written_are : AreFilesWritten f contents lends prunes
    files_written_are = record {
      facts = a.known.prepared.facts;
      contents_are = a.contents_are;
      ranks = subst (AreRanks f) (sym ranks_are) a.ranks;
      firsts = firsts_are ∙ a.firsts ∙ ap (firsts_from (first_unit_by beside)) (sym orders_are);
      prunes_are = a.prunes_are;
    }

  -- what is taken out by these uses is taken out by those of the units of the file after
  by_units : (n : ℕ) (counted : List ℕ) (p : Option PrunedFile) → counted ≡ units_uses (formed_by (common f) (run f) n)
      → IsPrunedIf f n counted p → IsPruned (common f) (run f) n p
  by_units n counted None same is = is
  by_units n counted (Some p) same is = (
    is.0,
    after_uses (common f) (run f) n p (subst (λ (us : List ℕ). IsPrunedFile (sources (run f) n).strs (sources (run f) n).offsets us p) same is.1),
  )

  module _ (pruned : List (Option PrunedFile)) (m : EntryTable) (are : ArePruned f k o.orders.items pruned) (moved : AreMoved pruned k m) where
    -- once texts are taken out, what is written can be laid
    can : (after : TextsAt) × CanLay f after m o.orders.items
    can =
        run_order beside f s a.known.texts k o.orders.items a.known.prepared a.known.stand a.known.few pruned are m moved

    all_pruned : (n : ℕ) → changes (move f) (units f) n ≡ true → IsPruned (common f) (run f) n (pruned_at pruned n)
    all_pruned n moves =
        let r = rank_there f o.ranks.items a.known.prepared.facts a.ranks n moves in
        let many = many_by beside f m o.orders.items can.1.order in
        let order = order_there f o.orders.items r.rank n many r.is in
        let first = first_unit_by beside + unit_count (take (suc r.rank) o.orders.items) in
        let used = uses n r.rank first order.0 order.1 in
        by_units n (order_uses k first order.0) (pruned_at pruned n) used.0 (are n r.rank first order.0 order.1)

    pub is_ready : (p : PreparedFiles) → p.ordered ≡ o → p.known ≡ m → p.pruned.items ≡ pruned
        → length p.run.settled.planned.plan.stand_ins ≡ length (tops_of (units_of (every f)))
        → length p.run.settled.planned.plan.partials < 2 ^ 32
        → p.run.settled.importing.items ≡ map (imports_common (move f) (units f)) (file_numbers 0 (docs f)) → IsReady f p
    is_ready p of_ordered of_known of_pruned stand_ins few_parts importing = record {
      texts = can.0;
      can = subst (λ (x : EntryTable). CanLay f can.0 x p.ordered.orders.items) (sym of_known)
          (subst (λ (x : OrderedFiles). CanLay f can.0 m x.orders.items) (sym of_ordered) can.1);
      stand_ins = stand_ins;
      few_parts = few_parts;
      ranks = subst (λ (x : OrderedFiles). AreRanks f x.ranks.items) (sym of_ordered) a.ranks;
      firsts = subst (λ (x : OrderedFiles). x.firsts.items ≡ firsts_from (first_unit_by beside) x.orders.items) (sym of_ordered) a.firsts;
      pruned = λ n moves. subst (λ (x : List (Option PrunedFile)). IsPruned (common f) (run f) n (pruned_at x n)) (sym of_pruned)
          (all_pruned n moves);
      importing = importing;
    }
