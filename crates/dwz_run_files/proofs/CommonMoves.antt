-- The texts of the common file stay where they are once texts are taken out of files: no place of one of them moves.
use Rattle.std.proofs.Common.{◌≡◌, ℕ, ◌+◌, List, [], ◌∷◌, Option, None, sym, subst}
use Rattle.dwz_def_reading.specs.Documents.{DwUnit, node_map}
use Rattle.dwz_def_reading.specs.Lists.{Each}
use Rattle.dwz_def_tops.specs.Spots.{EntryName, name_of}
use Rattle.dwz_def_encoding.specs.Placing.{UnitForms, file_number}
use Rattle.dwz_layout.specs.declared.known.ValueCounts.{ValueCounts}
use Rattle.dwz_layout.specs.declared.known.EntryTable.{EntryTable}
use Rattle.dwz_layout.specs.declared.known.TextAt.{TextAt}
use Rattle.dwz_layout.specs.declared.order.UnitItems.{UnitItems}
use Rattle.dwz_layout.specs.Entries.{row}
use Rattle.dwz_layout.specs.Known.{file_at, text_at}
use Rattle.dwz_law_layout.specs.Knows.{EachFrom, IsText, files_in, firsts_at, name_attr, texts_in}
use Rattle.dwz_law_layout.specs.Beside.{Alone}
use Rattle.dwz_law_layout.specs.Facts.{RunFacts, file_read}
use Rattle.dwz_law_layout.specs.Unfitted.{KnowCommon, KnowsCommonUnit, KnowsTextsOf, common_unit_forms}
use Rattle.dwz_encode_texts.specs.declared.pruning.PrunedFile.{PrunedFile}
use Rattle.dwz_encode_texts.specs.MovedTexts.{IsPooled}
use Rattle.dwz_run_files.specs.Moved.{AreMoved}
use Rattle.dwz_run_files.specs.Whole.{PoolsUnit}
use Rattle.dwz_run_files.proofs.SameLists.{common_same, file_same, firsts_same, pooled_same, writes_same}

-- what holds of each, and what holds by two such facts
pub each_from_more : {X : Type 0} (P Q : ℕ → X → Type 0) (n : ℕ) (xs : List X) → ((j : ℕ) (x : X) → P j x → Q j x) → EachFrom P n xs
    → EachFrom Q n xs
each_from_more P Q n [] go all = tt
each_from_more P Q n (x ∷ xs) go all = (go n x all.0, each_from_more P Q (n + 1) xs go all.1)

each_both : {X : Type 0} (P Q R : ℕ → X → Type 0) (n : ℕ) (xs : List X) → ((j : ℕ) (x : X) → P j x → Q j x → R j x) → EachFrom P n xs
    → EachFrom Q n xs → EachFrom R n xs
each_both P Q R n [] go all too = tt
each_both P Q R n (x ∷ xs) go all too = (go n x all.0 too.0, each_both P Q R (n + 1) xs go all.1 too.1)

module _ (f : RunFacts Alone) (k : EntryTable) (pruned : List (Option PrunedFile)) (m : EntryTable) (h : AreMoved pruned k m) where
  module _ (o : UnitItems) (u : DwUnit EntryName) where
    abbrev ft : UnitForms EntryName
    ft = common_unit_forms f u

    texts_stay : (n : ℕ) → PoolsUnit f k o → KnowsTextsOf f k ft None n o → KnowsTextsOf f m ft None n o
    texts_stay n pooled old = record {
      entries = λ bytes x index has. record {
        are = λ i r d read writes. (
            let file = file_read f n bytes x in
            let before = writes_same pruned k m h o file i writes in
            subst (λ (w : ValueCounts). EachFrom (λ j a. IsText ft None a (text_at m n j)) w.text (texts_in (node_map file.after d).attrs))
            (sym (firsts_same pruned k m h (row n i)))
            (each_both (λ j a. IsText ft None a (text_at k n j)) (λ j a. IsPooled (text_at k n j))
            (λ j a. IsText ft None a (text_at m n j)) (firsts_at k file i).text (texts_in (node_map file.after d).attrs)
            (λ j a told is. subst (λ (w : TextAt). IsText ft None a w) (sym (pooled_same pruned k m h n j is)) told)
            ((old.entries bytes x index has).are i r d read before)
            (pooled n bytes x index has i r d read before)));
      };
      spaces = λ bytes x index has space i r d text chained at read is.
          subst (λ (w : TextAt). IsText ft None (name_attr (name_of text d)) w) (sym (common_same pruned k m h space))
          (old.spaces bytes x index has space i r d text chained at read is);
    }

    unit_stays : PoolsUnit f k o → KnowsCommonUnit f k o u → KnowsCommonUnit f m o u
    unit_stays pooled old = record {
      texts = λ n. texts_stay n pooled (old.texts n);
      files = λ n bytes x index has. record {
        are = λ i r d read writes held. (
            let file = file_read f n bytes x in
            subst (λ (w : ValueCounts). EachFrom (λ j a. file_at m n j ≡ file_number ft.paths a.value.plain) w.file
            (files_in (node_map file.after d).attrs))
            (sym (firsts_same pruned k m h (row n i)))
            (each_from_more (λ j a. file_at k n j ≡ file_number ft.paths a.value.plain)
            (λ j a. file_at m n j ≡ file_number ft.paths a.value.plain) (firsts_at k file i).file (files_in (node_map file.after d).attrs)
            (λ j a told. subst (λ (w : ℕ). w ≡ file_number ft.paths a.value.plain) (sym (file_same pruned k m h n j)) told)
            ((old.files n bytes x index has).are i r d read (writes_same pruned k m h o file i writes) held)));
      };
    }

  pub common_moves : (order : List UnitItems) (us : List (DwUnit EntryName)) → Each (PoolsUnit f k) order → KnowCommon f k order us
      → KnowCommon f m order us
  common_moves [] [] pooled old = tt
  common_moves [] (u ∷ us) pooled old = absurd old
  common_moves (o ∷ order) [] pooled old = absurd old
  common_moves (o ∷ order) (u ∷ us) pooled old = (unit_stays o u pooled.0 old.0, common_moves order us pooled.1 old.1)
