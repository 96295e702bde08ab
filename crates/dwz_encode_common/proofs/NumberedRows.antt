-- Numbers among all entries tell files apart, and what is written of an entry with all below it is of its file.
use Rattle.std.proofs.Common.{◌≡◌, ℕ, zero, suc, ◌+◌, ◌-◌, ◌<◌, ◌≤◌, Bool, true, false, List, [], ◌∷◌, drop, length, Option, None, Some, slice_get, refl, ap, inl, inr, arith}
use Rattle.std.specs.Option.{option_map_or}
use Rattle.std.specs.Prelude.{nat_lt, slice_range}
use Rattle.std.proofs.Math.Nat.{min-le_right}
use Rattle.std.proofs.lemmas.Bool.{ltb-false, ltb-true}
use Rattle.std.proofs.lemmas.List.{length-drop, length-take}
use Rattle.dwz_def_reading.specs.Lists.{Each, In}
use Rattle.dwz_unit.specs.Rows.{EntryRow}
use Rattle.dwz_graph.specs.Index.{Index}
use Rattle.dwz_graph.specs.EntryCounts.{starts_from}
use Rattle.dwz_layout_numbers.proofs.StartLemmas.{starts_low}
use Rattle.dwz_layout.specs.declared.known.EntryTable.{EntryTable}
use Rattle.dwz_layout.specs.declared.known.Row.{Row}
use Rattle.dwz_layout.specs.declared.walk.Origin.{Origin}
use Rattle.dwz_layout.specs.declared.walk.Origin.TheVariants.{Chained, Imported, OwnRoot, Read as OfRow}
use Rattle.dwz_layout.specs.declared.walk.Slot.{Slot}
use Rattle.dwz_layout.specs.Entries.{row_slots, slots_below, tree_slots}
use Rattle.dwz_layout.specs.Known.{row_at, rows_in}

-- ---- numbers of entries of files

behind_file : (c : ℕ) (indexes : List Index) (a b : ℕ) (x : Index) (s t : ℕ) → a < b → slice_get indexes a ≡ Some x
    → slice_get (starts_from c indexes) a ≡ Some s → slice_get (starts_from c indexes) b ≡ Some t → s + length x.steps ≤ t
unfolding starts_from
behind_file c [] a b x s t lt e f g = absurd cc
behind_file c (y ∷ indexes) a zero x s t lt e f g = absurd (omega arith)
behind_file c (y ∷ indexes) zero (suc b) x s t lt e f g =
    let same : y ≡ x = cc in
    let start : c ≡ s = cc in
    let le = starts_low (c + length y.steps) indexes b t g in
    let long = ap (λ (w : Index). length w.steps) same in
    omega arith
behind_file c (y ∷ indexes) (suc a) (suc b) x s t lt e f g = behind_file (c + length y.steps) indexes a b x s t (omega arith) e f g

-- one number is of one file
pub same_file : (indexes : List Index) (a b e i : ℕ) (x y : Index) (s t : ℕ) → slice_get indexes a ≡ Some x → slice_get indexes b ≡ Some y
    → slice_get (starts_from 0 indexes) a ≡ Some s → slice_get (starts_from 0 indexes) b ≡ Some t → e < length x.steps
    → i < length y.steps → s + e ≡ t + i → a ≡ b
same_file indexes a b e i x y s t p q f g le li same = go (nat_lt a b) refl (nat_lt b a) refl where
  go : (m : Bool) → nat_lt a b ≡ m → (n : Bool) → nat_lt b a ≡ n → a ≡ b
  go true m n k = absurd (let far = behind_file 0 indexes a b x s t (ltb-true a b m) p f g in omega arith)
  go false m true k = absurd (let far = behind_file 0 indexes b a y t s (ltb-true b a k) q g f in omega arith)
  go false m false k = (let c = ltb-false a b m in let d = ltb-false b a k in omega arith)

-- ---- entries of a tree are those of its file

abbrev pub InFile : (file count : ℕ) → Origin → Type 0
InFile file count (OfRow r) = (r.file ≡ file) × (r.entry < count)
InFile file count (OwnRoot place) = Unit {0}
InFile file count (Chained chain space) = Unit {0}
InFile file count (Imported part) = Unit {0}

row_slots_in : (file depth base j count : ℕ) (rows : List EntryRow) → j + length rows ≤ count
    → Each (λ (s : Slot). InFile file count s.origin) (row_slots file depth base j rows)
unfolding row_slots
row_slots_in file depth base j count [] le = tt
row_slots_in file depth base j count (x ∷ rows) le = ((refl, omega arith), row_slots_in file depth base (suc j) count rows (omega arith))

range_long : (rows : List EntryRow) (a b : ℕ) → a ≤ length rows → a + length (slice_range rows a b) ≤ length rows
range_long rows a b le =
    let one = length-take (b - a) (drop a rows) in
    let two = length-drop a rows in
    let low = min-le_right (b - a) (length (drop a rows)) in
    omega arith

pub tree_in : (k : EntryTable) (depth : ℕ) (r : Row) → r.entry < length (rows_in k r.file)
    → Each (λ (s : Slot). InFile r.file (length (rows_in k r.file)) s.origin) (tree_slots k depth r)
tree_in k depth r lt = ((refl, lt), go (row_at k r)) where
  go : (o : Option EntryRow)
      → Each (λ (s : Slot). InFile r.file (length (rows_in k r.file)) s.origin) (option_map_or (slots_below k depth r) o [])
  go None = tt
  go (Some top) = row_slots_in r.file depth top.depth (suc r.entry) (length (rows_in k r.file))
      (slice_range (rows_in k r.file) (suc r.entry) top.end) (range_long (rows_in k r.file) (suc r.entry) top.end (omega arith))

pub each_both : {X : Type 0} (P Q : X → Type 0) (xs : List X) → Each P xs → Each Q xs → Each (λ x. P x × Q x) xs
each_both P Q [] p q = tt
each_both P Q (x ∷ xs) p q = ((p.0, q.0), each_both P Q xs p.1 q.1)

pub in_got : {X : Type 0} (x : X) (xs : List X) → In x xs → (j : ℕ) × (slice_get xs j ≡ Some x)
in_got x [] h = absurd h
in_got x (y ∷ xs) (inl same) = (0, ap (λ (w : _). Some w) same)
in_got x (y ∷ xs) (inr h) = let g = in_got x xs h in (suc g.0, g.1)
