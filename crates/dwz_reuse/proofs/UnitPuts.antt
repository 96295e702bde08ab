-- The edges of units, one after the other.
use Rattle.std.proofs.Common.{◌≡◌, ◌↔◌, ◌⊎◌, ℕ, ◌+◌, ◌<◌, ◌≤◌, true, List, Ok, Some, slice_get, length, sym, ap, ◌∙◌, inl, inr, ⊎_elim, arith}
use Rattle.std.proofs.lemmas.Bool.{cases_lt}
use Rattle.dwz_model.proofs.ListFacts.{got_below, got_there, same_got}
use Rattle.dwz_def_reading.specs.Documents.{DwUnit, unit_map}
use Rattle.dwz_def_reading.specs.Lists.{In}
use Rattle.dwz_def_reading.specs.Meanings.{Around, MeanUnits}
use Rattle.dwz_def_reading.specs.Meant.{unit_meaning, units_meaning}
use Rattle.dwz_def_reading.specs.Units.{RawUnit}
use Rattle.dwz_def_reading.proofs.MeaningUnits.{units_agree}
use Rattle.dwz_def_reading.proofs.UnitMeans.{unit_meant}
use Rattle.dwz_graph.proofs.IndexRoom.{units_same}
use Rattle.dwz_def_taken.specs.Takes.{unit_goes_to}
use Rattle.dwz_def_tops.specs.Alike.{is_in}
use Rattle.dwz_def_tops.specs.Spots.{EntryName}
use Rattle.dwz_groups.specs.declared.groups.Edge.{Edge}
use Rattle.dwz_reuse.specs.Puts.{PutsIf, PutsUnits, Refers}

-- of the units before that number
abbrev pub PutsBefore : (ℕ → EntryName) → List (DwUnit ℕ) → ℕ → List Edge → List Edge → Type 0
PutsBefore name said n old new = (e : Edge) → In e new ↔ (In e old ⊎ ((e.key < n) × Refers name said e.key e.value))

pub units_none : (name : ℕ → EntryName) (said : List (DwUnit ℕ)) (old : List Edge) → PutsBefore name said 0 old old
units_none name said old e = (λ i. inl i, λ h. ⊎_elim (λ (a : In e old). a) (λ (p : (e.key < 0) × Refers name said e.key e.value). absurd (let l = p.0 in omega (arith, l))) h)

pub units_more : (name : ℕ → EntryName) (said : List (DwUnit ℕ)) (n : ℕ) (v : DwUnit ℕ) (old now new : List Edge) → slice_get said n ≡ Some v → PutsBefore name said n old now
    → PutsIf n (λ q. unit_goes_to (is_in q) (unit_map name v) ≡ true) now new → PutsBefore name said (n + 1) old new
units_more name said n v old now new got before puts e = (
  λ i. ⊎_elim
      (λ (a : In e now). ⊎_elim (λ (b : In e old). inl b) (λ (p : (e.key < n) × Refers name said e.key e.value). inr ((let l = p.0 in omega (arith, l)), p.1)) ((before e).0 a))
      (λ (p : (e.key ≡ n) × (unit_goes_to (is_in e.value) (unit_map name v) ≡ true)). inr ((let l = p.0 in omega (arith, l)), (v, ap (slice_get said) p.0 ∙ got, p.1)))
      ((puts e).0 i),
  λ h. ⊎_elim
      (λ (a : In e old). (puts e).1 (inl ((before e).1 (inl a))))
      (λ (p : (e.key < n + 1) × Refers name said e.key e.value). ⊎_elim
      (λ (l : e.key < n). (puts e).1 (inl ((before e).1 (inr (l, p.1)))))
      (λ (g : n ≤ e.key). (
      let low = p.0 in
      let same : e.key ≡ n = omega (arith, low, g) in
      let u : p.1.0 ≡ v = same_got said n p.1.0 v (sym (ap (slice_get said) same) ∙ p.1.1) got in
      (puts e).1 (inr (same, sym (ap (λ (w : DwUnit ℕ). unit_goes_to (is_in e.value) (unit_map name w)) u) ∙ p.1.2))))
      (cases_lt e.key n))
      h,
)

pub units_end : (name : ℕ → EntryName) (said : List (DwUnit ℕ)) (n : ℕ) (old now : List Edge) → length said ≤ n → PutsBefore name said n old now → PutsUnits name said old now
units_end name said n old now le h e = (
  λ i. ⊎_elim (λ (a : In e old). inl a) (λ (p : (e.key < n) × Refers name said e.key e.value). inr p.1) ((h e).0 i),
  λ x. (h e).1 (⊎_elim (λ (a : In e old). inl a) (λ (p : Refers name said e.key e.value). inr ((let l = got_below said e.key p.0 p.1 in omega (arith, l, le)), p)) x),
)

-- the units of a file, and what each means
module _ (around : Around ℕ) (raw : List RawUnit) (said : List (DwUnit ℕ)) (means : units_meaning around raw ≡ Ok said) (name : ℕ → EntryName) where
  are : MeanUnits around raw said
  are = ((units_agree around raw).ok said).0 means

  pub units_next : (n : ℕ) → n < length raw → (old now new : List Edge) → PutsBefore name said n old now
      → ((u : RawUnit) (v : DwUnit ℕ) → slice_get raw n ≡ Some u → unit_meaning around u ≡ Ok v → PutsIf n (λ q. unit_goes_to (is_in q) (unit_map name v) ≡ true) now new)
      → PutsBefore name said (n + 1) old new
  units_next n lt old now new h one =
      let u = got_there raw n lt in
      let v = unit_meant around raw said are n u.0 u.1 in
      units_more name said n v.0 old now new v.2 h (one u.0 v.0 u.1 v.1)

  pub units_last : (n : ℕ) → length raw ≤ n → (old now : List Edge) → PutsBefore name said n old now → PutsUnits name said old now
  units_last n le old now h = (let same = units_same around raw said are in units_end name said n old now (omega (arith, same, le)) h)
