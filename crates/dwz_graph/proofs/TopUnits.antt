-- Tops by their numbers: the units that they are of.
use Rattle.std.proofs.Common.{◌≡◌, ℕ, zero, suc, ◌+◌, Bool, true, false, List, [], ◌∷◌, ◌++◌, map, Some, slice_get, refl, sym, ap, ◌∙◌, inl, inr, arith}
use Rattle.dwz_def_reading.specs.Trees.{End, Entry, size}
use Rattle.dwz_def_reading.proofs.ListFacts.{got_below, got_in}
use Rattle.dwz_def_reading.specs.Documents.{Compile, DwUnit, Entries, Kind, OfType, Partial, unit_map}
use Rattle.dwz_def_reading.specs.Lists.{Each}
use Rattle.dwz_def_tops.proofs.Members.{each_append, each_in}
use Rattle.dwz_def_tops.specs.Spots.{EntryName, FileUnit, Top, in_file, row_below, row_tops, top_count, tops_from}
use Rattle.dwz_def_tops.proofs.NameLists.{count_map}
use Rattle.dwz_def_tops.proofs.RowLemmas.{below_unit}
use Rattle.dwz_def_tops.proofs.TopNumbers.{Numbered, below_length, from_numbered}
use Rattle.dwz_graph.specs.declared.index.Starts.{Starts}
use Rattle.dwz_graph.specs.declared.index.TopEntry.{TopEntry}
use Rattle.dwz_graph.specs.Steps.{all_tops, below_root, is_space, spaces_by, starts_behind, top_entry, tops_among}
use Rattle.dwz_graph.proofs.TopLemmas.{counts_same, entries_of, get_cases, many_below}

abbrev OfUnit : ℕ → TopEntry → Type 0
OfUnit unit x = x.unit ≡ unit

among_unit : {E : Type 0} (space : E → Bool) (unit inner k first : ℕ) (f : _) → Each (OfUnit unit) (tops_among {E = E} space unit inner k first f)
unfolding tops_among
among_unit space unit inner k first End = tt
among_unit space unit inner k first (Entry e c n) =
    go (among_unit space unit inner k (first + 1 + size c) n) (among_unit space unit (suc k) (suc k) (first + 1) c) (among_unit space unit inner (suc k + spaces_by space c) (first + 1 + size c) n)
    (space e)
  where
    a : List TopEntry
    a = tops_among space unit (suc k) (suc k) (first + 1) c

    b : List TopEntry
    b = tops_among space unit inner (suc k + spaces_by space c) (first + 1 + size c) n

    go : Each (OfUnit unit) (tops_among space unit inner k (first + 1 + size c) n) → Each (OfUnit unit) a → Each (OfUnit unit) b → (t : Bool)
        → Each (OfUnit unit) (elim t as (λ _. List TopEntry) [ false ↦ top_entry first unit inner ∷ tops_among space unit inner k (first + 1 + size c) n | true ↦ a ++ b ])
    go p q r false = (refl, p)
    go p q r true = each_append (OfUnit unit) a b q r

entries_unit : (unit k first : ℕ) (kind : Kind ℕ) (f : Entries ℕ) → Each (OfUnit unit) (entries_of unit k first kind f)
entries_unit unit k first Compile f = among_unit is_space unit 0 k (first + 1) f
entries_unit unit k first (OfType signature main) f = tt
entries_unit unit k first Partial f = tt

module _ (file : ℕ) (name : ℕ → EntryName) where
  abbrev filed : List (DwUnit ℕ) → List (FileUnit EntryName)
  filed units = map (in_file file) (map (unit_map name) units)

  same_units : (s : Starts) (first : ℕ) (said : List (DwUnit ℕ)) (k : ℕ) (x : TopEntry) (t : Top) → slice_get (all_tops is_space s first (map below_root said)) k ≡ Some x
      → slice_get (tops_from s.unit s.top (filed said)) k ≡ Some t → x.unit ≡ t.unit
  unfolding all_tops tops_from
  same_units s first [] k x t e f = absurd cc
  same_units s first (v ∷ said) k x t e f =
      let own = entries_of s.unit s.space first v.kind v.below in
      let next = starts_behind is_space s (below_root v) in
      let w = unit_map name v in
      let tops = row_tops (row_below file s.unit s.top w w.kind) in
      let one : s.unit + 1 ≡ suc s.unit = omega arith in
      let count = count_map name v.kind v.below in
      let many = many_below s.unit s.space first v.kind v.below in
      let long = below_length file s.unit s.top w w.kind in
      let top : s.top + top_count w.kind w.below ≡ next.top = ap (λ (n : ℕ). s.top + n) (count ∙ sym (counts_same v)) in
      elim (get_cases own (all_tops is_space next (first + 1 + size v.below) (map below_root said)) k x e) [
        | inl a ↦ (elim (get_cases tops (tops_from (suc s.unit) (s.top + top_count w.kind w.below) (filed said)) k t f) [
          | inl b ↦ each_in (OfUnit s.unit) x own (entries_unit s.unit s.space first v.kind v.below) (got_in own k x a) ∙ sym (below_unit (in_file file w) s.unit s.top w.kind t (got_in tops k t b)).1
          | inr b ↦ absurd (let lt = got_below own k x a in let far = b.1 in omega (arith, lt, far, many, long, count))
        ])
        | inr a ↦ (elim (get_cases tops (tops_from (suc s.unit) (s.top + top_count w.kind w.below) (filed said)) k t f) [
          | inl b ↦ absurd (let lt = got_below tops k t b in let far = a.1 in omega (arith, lt, far, many, long, count))
          | inr b ↦
              let i = a.1 in
              let j = b.1 in
              let at : b.0 ≡ a.0 = omega (arith, i, j, many, long, count) in
              let here : slice_get (tops_from next.unit next.top (filed said)) a.0 ≡ Some t = (λ m. slice_get (tops_from (one m) (sym top m) (filed said)) (sym at m)) ∙ b.2 in
              same_units next (first + 1 + size v.below) said a.0 x t a.2 here
        ])
      ]

pub numbered_at : (n : ℕ) (tops : List Top) → Numbered n tops → (k : ℕ) (t : Top) → slice_get tops k ≡ Some t → t.number ≡ n + k
numbered_at n [] h k t e = absurd cc
numbered_at n (u ∷ tops) h zero t e = let same : u ≡ t = cc in let none : n ≡ n + 0 = omega arith in ap (λ (w : Top). w.number) (sym same) ∙ h.0 ∙ none
numbered_at n (u ∷ tops) h (suc k) t e = let one : suc n + k ≡ n + suc k = omega arith in numbered_at (suc n) tops h.1 k t e ∙ one

pub shows : (s : Starts) (said : List (DwUnit ℕ)) (file : ℕ) (name : ℕ → EntryName) (k : ℕ) (x : TopEntry) (t : Top) → slice_get (all_tops is_space s 0 (map below_root said)) k ≡ Some x
    → slice_get (tops_from s.unit s.top (map (in_file file) (map (unit_map name) said))) k ≡ Some t
    → (x.unit ≡ t.unit) × (t.number ≡ s.top + k)
shows s said file name k x t e f = (
  same_units file name s 0 said k x t e f,
  numbered_at s.top (tops_from s.unit s.top (map (in_file file) (map (unit_map name) said)))
      (from_numbered s.unit s.top (map (in_file file) (map (unit_map name) said))) k t f,
)
