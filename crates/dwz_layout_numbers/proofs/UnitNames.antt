-- The unit that an entry of a file is of, by its row and by its name.
use Rattle.std.proofs.Common.{◌≡◌, ◌⊎◌, ℕ, suc, ◌+◌, ◌<◌, List, [], ◌∷◌, ◌++◌, length, Some, slice_get, refl, sym, ap, subst, ◌∙◌, inl, inr, arith}
use Rattle.dwz_def_reading.specs.Entries.{RawEntry, root_position}
use Rattle.dwz_def_reading.specs.Lists.{Each, In}
use Rattle.dwz_def_reading.specs.Trees.{End, Entry, Forest, Position, behind, first_below, size}
use Rattle.dwz_def_reading.specs.Units.{RawUnit, entry_count}
use Rattle.dwz_def_reading.proofs.ListFacts.{got_below, got_in, in_left, in_right}
use Rattle.dwz_def_reading.specs.Documents.{DwUnit, Entries, kind_map, unit_map}
use Rattle.dwz_def_reading.specs.Meanings.{Around, MeanUnits, scope_of}
use Rattle.dwz_def_tops.specs.Seen.{IsPartial}
use Rattle.dwz_def_tops.proofs.Members.{each_append, each_in}
use Rattle.dwz_unit.specs.Rows.{EntryRow, rows_below, rows_from, rows_in}
use Rattle.dwz_unit.proofs.ShownLemmas.{rows_in-length}
use Rattle.dwz_def_tops.specs.Spots.{EntryName, RootOf, Top, row_below, row_tops, top_count, tops_from}
use Rattle.dwz_def_tops.proofs.NameLists.{count_map}
use Rattle.dwz_graph.specs.Names.{names_from}
use Rattle.dwz_graph.proofs.ListMeans.{means_size}
use Rattle.dwz_graph.proofs.TopLemmas.{below_names, get_cases, names_many}
use Rattle.dwz_layout_numbers.proofs.FileRuns.{filed}

abbrev OfUnit : ℕ → EntryRow → Type 0
OfUnit unit row = row.unit ≡ unit

rows_unit : (f : Forest RawEntry) (unit : ℕ) (p : Position) → Each (OfUnit unit) (rows_below f unit p)
unfolding rows_below
rows_unit End unit p = tt
rows_unit (Entry e c n) unit p =
    (refl, each_append (OfUnit unit) (rows_below c unit (first_below p)) (rows_below n unit (behind p c)) (rows_unit c unit (first_below p)) (rows_unit n unit (behind p c)))

-- the name is of the unit with number m of these, the first of which has another: of its root, or of an entry below that
pub record IsOfUnit (file : ℕ) (name : ℕ → EntryName) (unit top : ℕ) (said : List (DwUnit ℕ)) (m : ℕ) (s : EntryName) : Type 0 where
  pub k : ℕ
  pub number : m ≡ unit + k
  pub v : DwUnit ℕ
  pub first : ℕ
  pub is : slice_get said k ≡ Some v
  pub own : (s ≡ RootOf m) ⊎ In s (below_names m first v.kind v.below)
  pub tops : (t : Top) → In t (row_tops (row_below file m first (unit_map name v) (kind_map name v.kind))) → In t (tops_from unit top (filed file name said))

-- units with the same entries below their roots
abbrev pub SameBelow : List (DwUnit ℕ) → List (DwUnit ℕ) → Type 0
SameBelow [] [] = Unit {0}
SameBelow (w ∷ read) (v ∷ said) = (w.below ≡ v.below) × SameBelow read said
SameBelow _ _ = ⊥

module _ (around : Around ℕ) (file : ℕ) (name : ℕ → EntryName) where
  here : (unit top : ℕ) (v : DwUnit ℕ) (said : List (DwUnit ℕ)) (s : EntryName) → (s ≡ RootOf unit) ⊎ In s (below_names unit top v.kind v.below) → IsOfUnit file name unit top (v ∷ said) unit s
  unfolding tops_from
  here unit top v said s own =
      let w = unit_map name v in
      record {
        k = 0;
        number = omega arith;
        v = v;
        first = top;
        is = refl;
        own = own;
        tops = λ t is. in_left t (row_tops (row_below file unit top w w.kind)) (tops_from (suc unit) (top + top_count w.kind w.below) (filed file name said)) is;
      }

  later : (unit top : ℕ) (v : DwUnit ℕ) (said : List (DwUnit ℕ)) (m : ℕ) (s : EntryName) → IsOfUnit file name (suc unit) (top + top_count v.kind v.below) said m s
      → IsOfUnit file name unit top (v ∷ said) m s
  unfolding tops_from
  later unit top v said m s h =
      let w = unit_map name v in
      let e = h.number in
      record {
        k = suc h.k;
        number = omega arith;
        v = h.v;
        first = h.first;
        is = h.is;
        own = h.own;
        tops = λ t is. in_right t (row_tops (row_below file unit top w w.kind)) (tops_from (suc unit) (top + top_count w.kind w.below) (filed file name said))
            (subst (λ (n : ℕ). In t (tops_from (suc unit) (top + n) (filed file name said))) (sym (count_map name v.kind v.below)) (h.tops t is));
      }

  pub of_unit_by : (raw : List RawUnit) (read said : List (DwUnit ℕ)) → MeanUnits around raw read → SameBelow read said → Each (λ v. IsPartial v.kind → ⊥) said → (unit top n before e : ℕ)
      (row : EntryRow) (s : EntryName) → slice_get (rows_from raw n before) e ≡ Some row → slice_get (names_from unit top said) e ≡ Some s
      → (m : ℕ) × (row.unit + unit ≡ m + n) × IsOfUnit file name unit top said m s
  unfolding rows_from names_from
  of_unit_by [] read [] h like whole unit top n before e row s a b = absurd cc
  of_unit_by [] [] (v ∷ said) h like whole unit top n before e row s a b = absurd like
  of_unit_by [] (w ∷ read) (v ∷ said) h like whole unit top n before e row s a b = absurd h
  of_unit_by (u ∷ raw) [] said h like whole unit top n before e row s a b = absurd h
  of_unit_by (u ∷ raw) (w ∷ read) [] h like whole unit top n before e row s a b = absurd like
  of_unit_by (u ∷ raw) (w ∷ read) (v ∷ said) h like whole unit top n before e row s a b =
      let own = below_names unit top v.kind v.below in
      let rest = names_from (suc unit) (top + top_count v.kind v.below) said in
      let mine = rows_in u n before in
      let others = rows_from raw (n + 1) (before + entry_count u) in
      let same : size u.below ≡ size v.below = means_size (scope_of around u) u.below w.below h.0.below ∙ ap (λ (x : Entries ℕ). size x) like.0 in
      let many = names_many unit top v.kind v.below whole.0 in
      let long = rows_in-length u n before in
      elim (get_cases mine others e row a) [
        | inl x ↦
            let low = got_below mine e row x in
            let is : row.unit ≡ n = each_in (OfUnit n) row mine (rows_unit (Entry u.root u.below End) n (root_position before)) (got_in mine e row x) in
            let which : (s ≡ RootOf unit) ⊎ In s own = first own rest s e (omega (arith, low, long, same, many)) b in
            (unit, omega (arith, is), here unit top v said s which)
        | inr y ↦ (elim (get_cases (RootOf unit ∷ own) rest e s b) [
          | inl z ↦ absurd (let low = got_below (RootOf unit ∷ own) e s z in let far = y.1 in omega (arith, low, far, long, same, many))
          | inr z ↦
              let far = y.1 in
              let at = z.1 in
              let one : z.0 ≡ y.0 = omega (arith, far, at, long, same, many) in
              let r = of_unit_by raw read said h.1 like.1 whole.1 (suc unit) (top + top_count v.kind v.below) (n + 1) (before + entry_count u) y.0 row s y.2 (ap (slice_get rest) (sym one) ∙ z.2) in
              let number = r.1 in
              (r.0, omega arith, later unit top v said r.0 s r.2)
        ])
      ]
    where
      first : (own rest : List EntryName) (s : EntryName) (e : ℕ) → e < suc (length own) → slice_get (RootOf unit ∷ (own ++ rest)) e ≡ Some s → (s ≡ RootOf unit) ⊎ In s own
      first own rest s e low b = elim (get_cases (RootOf unit ∷ own) rest e s b) [
        | inl x ↦ (elim (got_in (RootOf unit ∷ own) e s x) [ inl p ↦ inl (sym p) | inr q ↦ inr q ])
        | inr y ↦ absurd (let far = y.1 in omega (arith, far, low))
      ]

  like_self : (said : List (DwUnit ℕ)) → SameBelow said said
  like_self [] = tt
  like_self (v ∷ said) = (refl, like_self said)

  pub of_unit : (raw : List RawUnit) (said : List (DwUnit ℕ)) → MeanUnits around raw said → Each (λ v. IsPartial v.kind → ⊥) said → (unit top n before e : ℕ) (row : EntryRow) (s : EntryName)
      → slice_get (rows_from raw n before) e ≡ Some row → slice_get (names_from unit top said) e ≡ Some s
      → (m : ℕ) × (row.unit + unit ≡ m + n) × IsOfUnit file name unit top said m s
  of_unit raw said h = of_unit_by raw said said h (like_self said)
