-- What is put of the units of a file: paths, and what they import, list by list.
use Rattle.std.proofs.Common.{◌≡◌, ◌<◌, ◌≤◌, ℕ, suc, ◌+◌, List, [], ◌∷◌, ◌++◌, length, map, get_or, take, Some, slice_get, sym, ap, subst, ◌∙◌, arith}
use Rattle.std.proofs.lemmas.List.{append-nil, append_assoc, map_more, take_all, length-map, length-take-le}
use Rattle.dwz_model.proofs.ListFacts.{got_below}
use Rattle.dwz_def_reading.specs.Documents.{DwUnit}
use Rattle.dwz_def_cross.specs.CrossSame.{EachTwo}
use Rattle.dwz_groups.specs.declared.groups.Edge.{Edge}
use Rattle.dwz_unit.proofs.RowsFound.{take_here}
use Rattle.dwz_imports.specs.Stored.{edge, edges_of}
use Rattle.dwz_check_columns.specs.Drawn.{IsPathOf}
use Rattle.dwz_check_columns.specs.Paths.{PutsPath, PutsPaths}
use Rattle.dwz_check_columns.proofs.TwoLists.{two_append, two_long}

-- lists behind others go on with the numbers behind theirs
pub edges_append : (s : ℕ) (lists more : List (List ℕ)) → edges_of s (lists ++ more) ≡ edges_of s lists ++ edges_of (s + length lists) more
unfolding edges_of
edges_append s [] more = let none : s ≡ s + 0 = omega arith in ap (λ (k : ℕ). edges_of k more) none
edges_append s (list ∷ lists) more =
    let next : suc s + length lists ≡ s + suc (length lists) = omega arith in
    ap (λ (w : List Edge). map (edge s) list ++ w) (edges_append (suc s) lists more ∙ ap (λ (k : ℕ). edges_of (suc s) lists ++ edges_of k more) next)
    ∙ sym (append_assoc (map (edge s) list) (edges_of (suc s) lists) (edges_of (s + suc (length lists)) more))

edges_one : (s : ℕ) (list : List ℕ) → edges_of s (list ∷ []) ≡ map (edge s) list
unfolding edges_of
edges_one s list = append-nil (map (edge s) list)

-- one more list
pub edges_last : (s n : ℕ) (lists : List (List ℕ)) (list : List ℕ) (old now new : List Edge) → length lists ≡ n → now ≡ old ++ edges_of s lists → new ≡ now ++ map (edge (s + n)) list
    → new ≡ old ++ edges_of s (lists ++ list ∷ [])
edges_last s n lists list old now new many was put =
    put ∙ ap (λ (w : List Edge). w ++ map (edge (s + n)) list) was ∙ append_assoc old (edges_of s lists) (map (edge (s + n)) list)
    ∙ ap (λ (w : List Edge). old ++ w) (
    ap (λ (k : ℕ). edges_of s lists ++ map (edge (s + k)) list) (sym many)
    ∙ ap (λ (w : List Edge). edges_of s lists ++ w) (sym (edges_one (s + length lists) list))
    ∙ sym (edges_append s lists (list ∷ [])))

-- ---- paths

abbrev pub has_path : DwUnit ℕ → List ℕ → Type 0
has_path u path = IsPathOf u u.kind path

pub paths_none : (first : ℕ) (said : List (DwUnit ℕ)) (old : List Edge) → PutsPaths first (take 0 said) old old
unfolding edges_of
paths_none first said old = ([], sym (append-nil old), tt)

pub paths_more : (first n : ℕ) (said : List (DwUnit ℕ)) (u : DwUnit ℕ) (old now new : List Edge) → slice_get said n ≡ Some u → PutsPaths first (take n said) old now → PutsPath (first + n) u now new
    → PutsPaths first (take (n + 1) said) old new
paths_more first n said u old now new got p q =
    let low = got_below said n u got in
    let long = two_long has_path (take n said) p.0 p.2 in
    let many = length-take-le n said (omega (arith, low)) in
    let both = two_append has_path (take n said) (u ∷ []) p.0 (q.0 ∷ []) p.2 (q.2, tt) in (
      p.0 ++ q.0 ∷ [],
      edges_last first n p.0 q.0 old now new (sym long ∙ many) p.1 q.1,
      subst (λ (w : List (DwUnit ℕ)). EachTwo has_path w (p.0 ++ q.0 ∷ [])) (sym (take_here said n u got)) both,
    )

pub paths_all : (first n : ℕ) (said : List (DwUnit ℕ)) (old now : List Edge) → length said ≤ n → PutsPaths first (take n said) old now → PutsPaths first said old now
paths_all first n said old now le p = subst (λ (w : List (DwUnit ℕ)). PutsPaths first w old now) (take_all n said le) p

-- ---- imports

pub imports_none : (f : List ℕ → List ℕ) (first : ℕ) (lists : List (List ℕ)) (old : List Edge) → old ≡ old ++ edges_of first (map f (take 0 lists))
unfolding edges_of
imports_none f first lists old = sym (append-nil old)

pub imports_more : (f : List ℕ → List ℕ) (first n : ℕ) (lists : List (List ℕ)) (list : List ℕ) (old now new : List Edge) → n < length lists → list ≡ get_or lists n []
    → now ≡ old ++ edges_of first (map f (take n lists)) → new ≡ now ++ map (edge (first + n)) (f list) → new ≡ old ++ edges_of first (map f (take (n + 1) lists))
imports_more f first n lists list old now new low is was put =
    let many : length (map f (take n lists)) ≡ n = length-map (take n lists) f ∙ length-take-le n lists (omega (arith, low)) in
    edges_last first n (map f (take n lists)) (f list) old now new many was put
    ∙ ap (λ (w : List (List ℕ)). old ++ edges_of first w) (ap (λ (l : List ℕ). map f (take n lists) ++ f l ∷ []) is ∙ sym (map_more f lists n [] low))

pub imports_all : (f : List ℕ → List ℕ) (first n : ℕ) (lists : List (List ℕ)) (old now : List Edge) → length lists ≤ n → now ≡ old ++ edges_of first (map f (take n lists))
    → now ≡ old ++ edges_of first (map f lists)
imports_all f first n lists old now le was = was ∙ ap (λ (w : List (List ℕ)). old ++ edges_of first (map f w)) (take_all n lists le)
