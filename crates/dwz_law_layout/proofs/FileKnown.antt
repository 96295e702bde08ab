-- What is written of one file is known: its partial units, and then its old ones.
use Rattle.std.proofs.Common.{◌≡◌, ℕ, suc, ◌+◌, true, false, List, [], ◌∷◌, ◌++◌, length, Some, slice_get, refl, sym, ap, subst, arith}
use Rattle.std.specs.Prelude.{slice_index_or}
use Rattle.dwz_def_reading.proofs.ListFacts.{get_first}
use Rattle.dwz_def_reading.specs.Documents.{DwUnit}
use Rattle.dwz_def_tops.specs.Spots.{EntryName}
use Rattle.dwz_def_images.specs.Units.{out_units}
use Rattle.dwz_def_encoding.specs.Placing.{KeyedForms}
use Rattle.dwz_unit.specs.Rows.{units_of as raw_units}
use Rattle.dwz_graph.specs.declared.file.File.{File}
use Rattle.dwz_graph.specs.Index.{Index}
use Rattle.dwz_graph.proofs.TopLemmas.{get_later}
use Rattle.dwz_graph.specs.EntryCounts.{starts_from}
use Rattle.dwz_layout_order.specs.declared.orders.Settled.{Settled}
use Rattle.dwz_layout_order.specs.Ordered.{FilePut, from_index, next_index}
use Rattle.dwz_layout.specs.declared.known.EntryTable.{EntryTable}
use Rattle.dwz_layout.specs.declared.order.UnitItems.{UnitItems}
use Rattle.dwz_encode.specs.Shown.{Keys}
use Rattle.dwz_law_layout.specs.Fitted.{KnowUnits}
use Rattle.dwz_law_layout.specs.Knows.{NewNumbers}
use Rattle.dwz_law_layout.specs.Beside.{Beside}
use Rattle.dwz_law_layout.specs.Facts.{AreFacts, HasFile, RunFacts, move, units, units_written, written}
use Rattle.dwz_law_layout.specs.Listed.{AreListed, TextsAt}
use Rattle.dwz_law_layout.specs.Named.{keys}
use Rattle.dwz_law_layout.specs.Settled.{IsSettled}
use Rattle.dwz_law_layout.specs.Unfitted.{KnowTexts, file_keyed_forms}
use Rattle.dwz_law_layout.specs.ShownKept.{AreWrittenFrom, olds_after}
use Rattle.dwz_law_layout.proofs.UnitsKnown.{kept_known}
use Rattle.dwz_law_layout.specs.ShownParts.{parts_after}
use Rattle.dwz_law_layout.proofs.PartHomes.{file_changed}
use Rattle.dwz_law_layout.proofs.PartsKnown.{local_long, parts_known}

-- ---- some units and those behind them

know_append : (names : Keys EntryName) (k : EntryTable) (ff : KeyedForms EntryName) (rn : NewNumbers) (here : ℕ) (xs ys : List UnitItems) (us vs : List (DwUnit EntryName))
    → KnowUnits names k ff rn here xs us
    → KnowUnits names k ff rn (here + length xs) ys vs → KnowUnits names k ff rn here (xs ++ ys) (us ++ vs)
know_append names k ff rn here [] ys [] vs first later = (let none : here + 0 ≡ here = omega arith in subst (λ (n : ℕ). KnowUnits names k ff rn n ys vs) none later)
know_append names k ff rn here [] ys (u ∷ us) vs first later = absurd first
know_append names k ff rn here (x ∷ xs) ys [] vs first later = absurd first
know_append names k ff rn here (x ∷ xs) ys (u ∷ us) vs first later = (
  first.0,
  know_append names k ff rn (suc here) xs ys us vs first.1
      (let next : here + suc (length xs) ≡ suc here + length xs = omega arith in subst (λ (n : ℕ). KnowUnits names k ff rn n ys vs) next later),
)

pub know_count : (names : Keys EntryName) (k : EntryTable) (ff : KeyedForms EntryName) (rn : NewNumbers) (here : ℕ) (xs : List UnitItems) (us : List (DwUnit EntryName))
    → KnowUnits names k ff rn here xs us
    → length xs ≡ length us
know_count names k ff rn here [] [] known = refl
know_count names k ff rn here [] (u ∷ us) known = absurd known
know_count names k ff rn here (x ∷ xs) [] known = absurd known
know_count names k ff rn here (x ∷ xs) (u ∷ us) known = ap suc (know_count names k ff rn (suc here) xs us known.1)

texts_split : {beside : Beside} (f : RunFacts beside) (k : EntryTable) (rn : NewNumbers) (n : ℕ) (xs ys : List UnitItems) (us vs : List (DwUnit EntryName)) → length xs ≡ length us → KnowTexts f k rn n (xs ++ ys) (us ++ vs)
    → KnowTexts f k rn n xs us × KnowTexts f k rn n ys vs
texts_split f k rn n [] ys [] vs long texts = (tt, texts)
texts_split f k rn n [] ys (u ∷ us) vs long texts = absurd (omega (arith, long))
texts_split f k rn n (x ∷ xs) ys [] vs long texts = absurd (omega (arith, long))
texts_split f k rn n (x ∷ xs) ys (u ∷ us) vs long texts = (let o = texts_split f k rn n xs ys us vs (omega (arith, long)) texts.1 in ((texts.0, o.0), o.1))

module _ {beside : Beside} (f : RunFacts beside) (t : TextsAt) (k : EntryTable) (facts : AreFacts f) (listed : AreListed f t k) (s : Settled) (settled : IsSettled f s) where
  pub file_known : (n : ℕ) (bytes : List ℕ) (x : File) (index : Index) → HasFile f n bytes x index → slice_index_or (written f) n false ≡ true
      → (start : ℕ) → slice_get (starts_from 0 f.indexes) n ≡ Some start → (rn : NewNumbers) (here : ℕ) (order : List UnitItems)
      → FilePut s (raw_units x.units) (from_index n start index) (next_index index) order → AreWrittenFrom f here (out_units (move f) (units f) n)
      → KnowTexts f k rn n order (out_units (move f) (units f) n) → KnowUnits (keys f) k (file_keyed_forms f n) rn here order (out_units (move f) (units f) n)
  unfolding out_units
  file_known n bytes x index h w start at rn here order put there texts =
      let ps = parts_after f n in
      let os = olds_after f n in
      let long : length put.parts ≡ length ps = local_long f t k s facts listed settled n (file_changed f n w).1 put.parts put.parts_put in
      let split = texts_split f k rn n put.parts put.olds ps os long (subst (λ (v : List UnitItems). KnowTexts f k rn n v (ps ++ os)) put.order_is texts) in
      let first = parts_known _ f t k s facts listed settled n w rn here put.parts put.parts_put (λ j u e. there j u (get_first ps os j u e)) split.0 in
      let later = kept_known _ f t k s facts listed settled n bytes x index h w start at rn (here + length put.parts) put.olds put.olds_kept
      (λ j u e. (let far : here + (length ps + j) ≡ (here + length put.parts) + j = omega (arith, long) in
      subst (λ (q : ℕ). slice_get (units_written f) q ≡ Some u) far (there (length ps + j) u (get_later ps os j u e)))) split.1 in
      subst (λ (v : List UnitItems). KnowUnits (keys f) k (file_keyed_forms f n) rn here v (ps ++ os)) (sym put.order_is) (know_append (keys f) k (file_keyed_forms f n) rn here put.parts put.olds ps os first later)
