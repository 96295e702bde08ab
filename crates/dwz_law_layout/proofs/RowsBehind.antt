-- An entry whose name is one of the files' is written, also where other units have the numbers before those of the files: nothing that was
-- read is in these, so they are taken for partial units without entries.
use Rattle.std.proofs.Common.{◌≡◌, ℕ, zero, suc, ◌+◌, ◌<◌, List, [], ◌∷◌, length, None, refl, sym, ap, subst, ◌∙◌, inl, inr, arith}
use Rattle.dwz_def_reading.specs.Documents.{DwUnit, Partial}
use Rattle.dwz_def_reading.specs.Lists.{In}
use Rattle.dwz_def_reading.specs.Trees.{End}
use Rattle.dwz_def_reading.proofs.ListFacts.{in_right}
use Rattle.dwz_def_tops.specs.Shown.{units_keys}
use Rattle.dwz_def_encoding.specs.Placing.{FileOut, files_keys}
use Rattle.dwz_layout_items.specs.declared.order.ItemKind.TheVariants.{Root}
use Rattle.dwz_layout_items.specs.Lines.{lines}
use Rattle.dwz_layout.specs.declared.known.EntryTable.{EntryTable}
use Rattle.dwz_layout.specs.declared.order.Sort.TheVariants.{Partial as PartialSort}
use Rattle.dwz_layout.specs.declared.order.UnitItems.{UnitItems}
use Rattle.dwz_layout.specs.Entries.{items_slots}
use Rattle.dwz_encode.specs.Shown.{InUnits, IsWritten, Keys, ShowFiles, ShowUnits}
use Rattle.dwz_law_layout.specs.Refers.{IsEntryNumber, RowsApart}
use Rattle.dwz_law_layout.proofs.RowsWritten.{row_written}

-- ---- units without entries

abbrev bare : UnitItems
bare = record { sort = PartialSort None; items = record { what = Root; depth = 1 } ∷ [] }

bares : ℕ → List UnitItems
bares zero = []
bares (suc n) = bare ∷ bares n

bares_long : (n : ℕ) → length (bares n) ≡ n
unfolding bares
bares_long zero = refl
bares_long (suc n) = ap suc (bares_long n)

none_read : (k : EntryTable) (m n : ℕ) → InUnits k m (bares n) → ⊥
unfolding bares items_slots
none_read k m zero is = is
none_read k m (suc n) (inl (inl is)) = is
none_read k m (suc n) (inl (inr is)) = is
none_read k m (suc n) (inr later) = none_read k m n later

module _ {K : Type 0} (names : Keys K) (k : EntryTable) (nobody : K) where
  abbrev bare_unit : ℕ → DwUnit K
  bare_unit unit = record { at = nobody; kind = Partial; root = record { at = names.root unit; tag = 0x3c; attrs = [] }; below = End }

  bare_units : ℕ → ℕ → List (DwUnit K)
  bare_units unit zero = []
  bare_units unit (suc n) = bare_unit unit ∷ bare_units (suc unit) n

  bares_show : (unit n : ℕ) → ShowUnits names k unit (bares n) (bare_units unit n)
  unfolding bares bare_units items_slots lines
  bares_show unit zero = tt
  bares_show unit (suc n) = (record { sort = tt; root = refl; lines = refl }, bares_show (suc unit) n)

  -- one of them is such a unit
  bare_there : (unit n : ℕ) (u : DwUnit K) → In u (bare_units unit n) → (nobody ≡ u.at) × ((j : ℕ) × (j < unit + n) × (names.root j ≡ u.root.at))
  unfolding bare_units
  bare_there unit zero u is = absurd is
  bare_there unit (suc n) u (inl e) = (ap (λ (w : DwUnit K). w.at) e, (unit, omega arith, ap (λ (w : DwUnit K). w.root.at) e))
  bare_there unit (suc n) u (inr later) = (let o = bare_there (suc unit) n u later in let lt = o.1.1 in (o.0, (o.1.0, omega (arith, lt), o.1.2)))

-- ---- behind them

-- no entry that was read has the name of a unit, or of the root of one of the units before
pub row_behind : {K : Type 0} (names : Keys K) (k : EntryTable) (nobody : K) (here : ℕ) (orders : List (List UnitItems)) (files : List (FileOut K)) → RowsApart names k orders files
    → ((m : ℕ) → IsEntryNumber k m → names.row m ≡ nobody → ⊥) → ((m j : ℕ) → IsEntryNumber k m → j < here → names.row m ≡ names.root j → ⊥) → ShowFiles names k here orders files
    → (m : ℕ) → IsEntryNumber k m → In (names.row m) (files_keys files) → IsWritten k m orders
unfolding files_keys
row_behind {K} names k nobody here orders files apart no_unit no_root shows m counted there =
    elim (row_written names k (bares here ∷ orders) (before ∷ files) apart_too m counted (bares_show names k nobody 0 here, shows_too) (in_right (names.row m) (units_keys before.units) (files_keys files) there)) [
      | inl is ↦ absurd (none_read k m here is)
      | inr is ↦ is
    ]
  where
    before : FileOut K
    before = record { number = 0; units = bare_units names k nobody 0 here }

    shows_too : ShowFiles names k (0 + length (bares here)) orders files
    shows_too = (let long = bares_long here in let n : here ≡ 0 + length (bares here) = omega (arith, long) in subst (λ (w : ℕ). ShowFiles names k w orders files) n shows)

    apart_too : RowsApart names k (bares here ∷ orders) (before ∷ files)
    apart_too = record {
      rows = λ i j lt written e. (elim written [ inl is ↦ absurd (none_read k j here is) | inr is ↦ apart.rows i j lt is e ]);
      units = λ i x u lt x_in u_in e. (elim x_in [
        | inl same ↦ (let u_here = subst (λ (y : FileOut K). In u y.units) (sym same) u_in in let o = bare_there names k nobody 0 here u u_here in no_unit i lt (e ∙ sym o.0))
        | inr later ↦ apart.units i x u lt later u_in e
      ]);
      roots = λ i x u lt x_in u_in partial e. (elim x_in [
        | inl same ↦ (let u_here = subst (λ (y : FileOut K). In u y.units) (sym same) u_in in let o = bare_there names k nobody 0 here u u_here in let low = o.1.1 in no_root i o.1.0 lt (omega (arith, low)) (e ∙ sym o.1.2))
        | inr later ↦ apart.roots i x u lt later u_in partial e
      ]);
      chained = apart.chained;
      imports = apart.imports;
    }
