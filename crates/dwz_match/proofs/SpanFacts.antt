-- The tops of partial units by number: up to where those of the next begin, and as the definitions number them.
use Rattle.std.proofs.Common.{◌≡◌, ◌↔◌, ℕ, zero, suc, ◌+◌, ◌-◌, ◌<◌, ◌≤◌, All, List, [], ◌∷◌, ◌++◌, length, map, drop, get_or, slice_get, Some, refl, sym, ap, subst, ◌∙◌, inl, inr, ⊎_elim, arith}
use Rattle.std.specs.List.{range_with_len}
use Rattle.std.proofs.lemmas.List.{drop_all, length-append, length-map}
use Rattle.dwz_model.proofs.ListFacts.{drop_here, in_cases, in_left, in_right}
use Rattle.dwz_model.proofs.Members.{nth_below}
use Rattle.dwz_def_reading.specs.Documents.{Compile, Doc, DwUnit, Kind, OfType, Partial, unit_map}
use Rattle.dwz_def_reading.specs.Lists.{In}
use Rattle.dwz_def_tops.specs.Seen.{IsPartial}
use Rattle.dwz_def_tops.specs.Spaces.{tops_under}
use Rattle.dwz_def_tops.specs.Spots.{EntryName, FileUnit, Top, in_file, row_below, row_tops, top_count, tops_from, tops_of}
use Rattle.dwz_def_tops.proofs.RowLemmas.{top_of}
use Rattle.dwz_def_tops.proofs.SpaceLemmas.{under_count}
use Rattle.dwz_def_tops.proofs.TopNumbers.{below_length, from_numbered, number_below, number_from, top_at}
use Rattle.dwz_def_tops.proofs.TopOrder.{here_unit, later_unit}
use Rattle.dwz_def_check.specs.CrossLists.{numbered_units}
use Rattle.dwz_def_check.specs.CrossNames.{cross_tops, unit_tops}
use Rattle.dwz_def_check.specs.CrossNodes.{lone_of}
use Rattle.dwz_def_check.proofs.TopLists.{tops_count}
use Rattle.dwz_def_taken.specs.Beside.{Reused, as_compile, own_tops, reused_of, together}
use Rattle.dwz_def_taken.specs.Takes.{InPart}
use Rattle.dwz_groups.specs.declared.groups.Edge.{Edge}
use Rattle.dwz_groups.specs.Groups.{grouped}
use Rattle.dwz_groups.proofs.MarkLemmas.{each_pair, edge_grouped, grouped_edge, grouped_length, inside_at, pair}
use Rattle.dwz_takes.specs.Steps.{edges_from}
use Rattle.dwz_takes.proofs.EdgeFacts.{edge_in, from_edges}
use Rattle.dwz_match.proofs.CommonTops.{all_tops, commons_are, spot_of, whole_units}
use Rattle.dwz_match.specs.Partial.{ArePartial}
use Rattle.dwz_match.specs.Parts.{HavePartTops, edge_to, spans, start_in}

-- ---- numbers one behind the other

pub in_range : (n s k : ℕ) → In n (range_with_len s k) → (s ≤ n) × (n < s + k)
in_range n s zero is = absurd is
in_range n s (suc k) (inl e) = (omega (arith, e), omega (arith, e))
in_range n s (suc k) (inr r) = let more = in_range n (s + 1) k r in (let a = more.0 in omega (arith, a), let b = more.1 in omega (arith, b))

pub range_in : (n s k : ℕ) → s ≤ n → n < s + k → In n (range_with_len s k)
range_in n s zero a b = absurd (omega (arith, a, b))
range_in n s (suc k) a b = ⊎_elim (λ (e : s ≡ n). inl e) (λ (more : s + 1 ≤ n). inr (range_in n (s + 1) k more (omega (arith, b)))) (grind (arith, a))

-- ---- the lists of an index

pub span_at : (end : ℕ) (starts : List ℕ) (p : ℕ) → p < length starts
    → get_or (spans end starts) p [] ≡ range_with_len (start_in end (drop p starts)) (start_in end (drop (p + 1) starts) - start_in end (drop p starts))
span_at end [] p l = absurd (omega (arith, l))
span_at end (s ∷ starts) zero l = refl
span_at end (s ∷ starts) (suc p) l =
    let next : suc (p + 1) ≡ suc p + 1 = omega arith in
    span_at end starts p (omega (arith, l))
    ∙ ap (λ (k : ℕ). range_with_len (start_in end (drop p starts)) (start_in end (drop k (s ∷ starts)) - start_in end (drop p starts))) next

-- where the tops of a unit begin, or of none
pub start_here : (end : ℕ) (starts : List ℕ) (n : ℕ) (s : ℕ) → slice_get starts n ≡ Some s → s ≡ start_in end (drop n starts)
start_here end starts n s e = sym (ap (start_in end) (drop_here starts n s e))

pub start_behind : (end : ℕ) (starts : List ℕ) (n : ℕ) → length starts ≤ n → end ≡ start_in end (drop n starts)
start_behind end starts n l = sym (ap (start_in end) (drop_all n starts l))

pub spans_long : (end : ℕ) (starts : List ℕ) → length (spans end starts) ≡ length starts
spans_long end [] = refl
spans_long end (s ∷ starts) = ap suc (spans_long end starts)

pub span_keys : (end : ℕ) (starts : List ℕ) → All (λ (e : Edge). e.key < length starts) (edges_from edge_to 0 (spans end starts))
span_keys end starts = each_pair (λ (e : Edge). e.key < length starts) (edges_from edge_to 0 (spans end starts)) (λ e i.
    let r = from_edges edge_to 0 (spans end starts) e i in
    let l = inside_at (spans end starts) r.list r.number r.there in
    let long = spans_long end starts in
    let key : 0 + r.list ≡ e.key = ap (λ (w : Edge). w.key) r.is in
    omega (arith, l, long, key))

pub span_grouped : (end : ℕ) (starts : List ℕ) (p c : ℕ) → In c (get_or (grouped (length starts) (edges_from edge_to 0 (spans end starts))) p []) ↔ In c (get_or (spans end starts) p [])
span_grouped end starts p c = (
  λ i.
      let r = from_edges edge_to 0 (spans end starts) (pair p c) (grouped_edge (length starts) p c (edges_from edge_to 0 (spans end starts)) i) in
      let key : 0 + r.list ≡ p = ap (λ (w : Edge). w.key) r.is in
      let same : r.list ≡ p = omega (arith, key) in
      let number : r.number ≡ c = ap (λ (w : Edge). w.value) r.is in
      subst (λ (k : ℕ). In c (get_or (spans end starts) k [])) same (subst (λ (k : ℕ). In k (get_or (spans end starts) r.list [])) number r.there),
  λ i.
      let l = inside_at (spans end starts) p c i in
      let long = spans_long end starts in
      edge_grouped (length starts) p c (edges_from edge_to 0 (spans end starts)) (omega (arith, l, long)) (edge_in edge_to p c (spans end starts) i),
)

-- ---- as units are numbered

unfoldable pub by_unit : {P : Type 0} → ℕ → List (DwUnit P) → List (List ℕ)
by_unit n [] = []
by_unit n (u ∷ units) = range_with_len n (length (unit_tops u.kind u)) ∷ by_unit (n + length (unit_tops u.kind u)) units

first_start : (end n lone : ℕ) (units : List (DwUnit ℕ)) → end ≡ n + length (cross_tops units) → start_in end (map (λ x. x.top) (numbered_units n lone units)) ≡ n
unfolding numbered_units cross_tops
first_start end n lone [] e = omega (arith, e)
first_start end n lone (u ∷ units) e = refl

pub spans_by : (end n lone : ℕ) (units : List (DwUnit ℕ)) → end ≡ n + length (cross_tops units) → spans end (map (λ x. x.top) (numbered_units n lone units)) ≡ by_unit n units
unfolding numbered_units cross_tops by_unit
spans_by end n lone [] e = refl
spans_by end n lone (u ∷ units) e =
    let m = n + length (unit_tops u.kind u) in
    let behind = lone + length (lone_of u.kind u) in
    let rest = numbered_units m behind units in
    let e' : end ≡ m + length (cross_tops units) = omega (arith, e, length-append (unit_tops u.kind u) (cross_tops units)) in
    let first : start_in end (map (λ x. x.top) rest) - n ≡ length (unit_tops u.kind u) = (let f = first_start end m behind units e' in omega (arith, f)) in
    ap (λ (k : ℕ). range_with_len n k ∷ spans end (map (λ x. x.top) rest)) first ∙ ap (λ (w : List (List ℕ)). range_with_len n (length (unit_tops u.kind u)) ∷ w) (spans_by end m behind units e')

-- ---- as tops are numbered

module _ (file : ℕ) (name : ℕ → EntryName) where
  -- a unit of the common file, read as a compile unit
  abbrev pub whole_unit : DwUnit ℕ → FileUnit EntryName
  whole_unit u = in_file file (unit_map name (as_compile u))

  kind_count : (k : Kind ℕ) (u : DwUnit ℕ) → IsPartial k → length (unit_tops k u) ≡ tops_under u.below
  kind_count Partial u h = tops_count [] u.below
  kind_count Compile u h = absurd h
  kind_count (OfType signature main) u h = absurd h

  unit_count : (u : DwUnit ℕ) → IsPartial u.kind → top_count (whole_unit u).unit.kind (whole_unit u).unit.below ≡ length (unit_tops u.kind u)
  unit_count u h = under_count name u.below ∙ sym (kind_count u.kind u h)

  abbrev tops_at : ℕ → ℕ → List (DwUnit ℕ) → List Top
  tops_at s n units = tops_from s n (whole_units file name units)

  abbrev first_tops : ℕ → ℕ → DwUnit ℕ → List Top
  first_tops s n u = row_tops (row_below file s n (whole_unit u).unit (whole_unit u).unit.kind)

  -- those of the first unit, and those of the others
  split : (s n : ℕ) (u : DwUnit ℕ) (units : List (DwUnit ℕ)) → IsPartial u.kind → tops_at s n (u ∷ units) ≡ first_tops s n u ++ tops_at (suc s) (n + length (unit_tops u.kind u)) units
  unfolding tops_from
  split s n u units h = ap (λ (k : ℕ). first_tops s n u ++ tops_from (suc s) (n + k) (whole_units file name units)) (unit_count u h)

  first_long : (s n : ℕ) (u : DwUnit ℕ) → IsPartial u.kind → length (first_tops s n u) ≡ length (unit_tops u.kind u)
  first_long s n u h = below_length file s n (whole_unit u).unit (whole_unit u).unit.kind ∙ unit_count u h

  first_low : (s n : ℕ) (u : DwUnit ℕ) (t : Top) → IsPartial u.kind → In t (first_tops s n u) → (n ≤ t.number) × (t.number < n + length (unit_tops u.kind u))
  unfolding tops_from
  first_low s n u t h i =
      let all = first_tops s n u in
      let one : In t (tops_from s n (whole_unit u ∷ [])) = in_left t all [] i in
      let low = number_from n (tops_from s n (whole_unit u ∷ [])) t (from_numbered s n (whole_unit u ∷ [])) one in
      let high = number_below n (tops_from s n (whole_unit u ∷ [])) t (from_numbered s n (whole_unit u ∷ [])) one in
      let long = length-append all [] in
      let many = first_long s n u h in
      (low, omega (arith, high, long, many))

  pub record StandsAt (s n p c : ℕ) (units : List (DwUnit ℕ)) : Type 0 where
    pub top : Top
    pub there : In top (tops_at s n units)
    pub unit : top.unit ≡ s + p
    pub number : top.number ≡ c

  pub numbered_stands : (s n p c : ℕ) (units : List (DwUnit ℕ)) → ArePartial units → In c (get_or (by_unit n units) p []) → StandsAt s n p c units
  unfolding by_unit
  numbered_stands s n p c [] h i = absurd i
  numbered_stands s n zero c (u ∷ units) h i =
      let part = h u (inl refl) in
      let m = length (unit_tops u.kind u) in
      let all = tops_at s n (u ∷ units) in
      let is = split s n u units part in
      let bounds = in_range c n m i in
      let low = bounds.0 in
      let high = bounds.1 in
      let many = ap (λ (w : List Top). length w) is ∙ length-append (first_tops s n u) (tops_at (suc s) (n + m) units) in
      let long = first_long s n u part in
      let t = top_at n all c (from_numbered s n (whole_units file name (u ∷ units))) low (omega (arith, high, many, long)) in
      let at = t.2 in
      ⊎_elim
      (λ (j : In t.0 (first_tops s n u)). record { top = t.0; there = t.1; unit = here_unit s n (whole_unit u) (whole_units file name units) t.0 j ∙ (let z : s ≡ s + 0 = omega arith in z); number = t.2 })
      (λ (j : In t.0 (tops_at (suc s) (n + m) units)).
      let later = number_from (n + m) (tops_at (suc s) (n + m) units) t.0 (from_numbered (suc s) (n + m) (whole_units file name units)) j in
      absurd (omega (arith, later, at, high)))
      (in_cases t.0 (first_tops s n u) (tops_at (suc s) (n + m) units) (subst (In t.0) is t.1))
  numbered_stands s n (suc p) c (u ∷ units) h i =
      let m = length (unit_tops u.kind u) in
      let r = numbered_stands (suc s) (n + m) p c units (λ v is. h v (inr is)) i in
      record {
        top = r.top;
        there = subst (In r.top) (sym (split s n u units (h u (inl refl)))) (in_right r.top (first_tops s n u) (tops_at (suc s) (n + m) units) r.there);
        unit = r.unit ∙ (let z : suc s + p ≡ s + suc p = omega arith in z);
        number = r.number;
      }

  pub stands_numbered : (s n p : ℕ) (t : Top) (units : List (DwUnit ℕ)) → ArePartial units → In t (tops_at s n units) → t.unit ≡ s + p → In t.number (get_or (by_unit n units) p [])
  unfolding by_unit tops_from
  stands_numbered s n p t [] h i e = absurd i
  stands_numbered s n zero t (u ∷ units) h i e =
      let part = h u (inl refl) in
      let m = length (unit_tops u.kind u) in
      ⊎_elim
      (λ (j : In t (first_tops s n u)). let b = first_low s n u t part j in range_in t.number n m b.0 b.1)
      (λ (j : In t (tops_at (suc s) (n + m) units)). let later = later_unit (suc s) (n + m) (whole_units file name units) t j in absurd (omega (arith, later, e)))
      (in_cases t (first_tops s n u) (tops_at (suc s) (n + m) units) (subst (In t) (split s n u units part) i))
  stands_numbered s n (suc p) t (u ∷ units) h i e =
      let part = h u (inl refl) in
      let m = length (unit_tops u.kind u) in
      ⊎_elim
      (λ (j : In t (first_tops s n u)). let here = here_unit s n (whole_unit u) (whole_units file name units) t j in absurd (omega (arith, here, e)))
      (λ (j : In t (tops_at (suc s) (n + m) units)). stands_numbered (suc s) (n + m) p t units (λ v is. h v (inr is)) j (omega (arith, e)))
      (in_cases t (first_tops s n u) (tops_at (suc s) (n + m) units) (subst (In t) (split s n u units part) i))

-- ---- of files and a common file

module _ (docs : List (Doc ℕ)) (common : Doc ℕ) (h : ArePartial common.units) where
  abbrev r : Reused
  r = reused_of docs common

  abbrev name : ℕ → EntryName
  name = spot_of docs common

  pub part_numbers : (p c : ℕ) → In c (get_or (by_unit (own_tops r) common.units) p []) ↔ ((top : Top) × InPart r p top × (top.number ≡ c))
  part_numbers p c = (
    λ i.
        let o = numbered_stands (length docs) name (length r.units) (own_tops r) p c common.units h i in
        let there : In o.top (tops_of (together r)) = subst (In o.top) (sym (all_tops docs common)) (in_right o.top (tops_of r.units) (tops_at (length docs) name (length r.units) (own_tops r) common.units) o.there) in
        (o.top, (there, o.unit), o.number),
    λ o.
        let t : Top = o.0 in
        let at : t.unit ≡ length r.units + p = o.1.1 in
        let i : In t.number (get_or (by_unit (own_tops r) common.units) p []) = ⊎_elim
        (λ (own : In t (tops_of r.units)).
        let of_unit = top_of 0 0 r.units t own in
        let low = nth_below 0 r.units t.unit of_unit.unit of_unit.nth in
        absurd (omega (arith, low, at)))
        (λ (part : In t (tops_at (length docs) name (length r.units) (own_tops r) common.units)).
        stands_numbered (length docs) name (length r.units) (own_tops r) p t common.units h part at)
        (in_cases t (tops_of r.units) (tops_at (length docs) name (length r.units) (own_tops r) common.units) (subst (In t) (all_tops docs common) o.1.0)) in
        subst (λ (k : ℕ). In k (get_or (by_unit (own_tops r) common.units) p [])) o.2 i,
  )

  by_unit_long : (n : ℕ) (units : List (DwUnit ℕ)) → length (by_unit n units) ≡ length units
  unfolding by_unit
  by_unit_long n [] = refl
  by_unit_long n (u ∷ units) = ap suc (by_unit_long (n + length (unit_tops u.kind u)) units)

  commons_long : length r.commons ≡ length common.units
  commons_long =
      ap (λ (w : List (FileUnit EntryName)). length w) (commons_are docs common) ∙ length-map (map (unit_map name) (map as_compile common.units)) (in_file (length docs))
      ∙ length-map (map as_compile common.units) (unit_map name) ∙ length-map common.units as_compile

  -- the tops of each unit, up to where those of the next begin
  pub spans_have : (starts : List ℕ) (end : ℕ) → starts ≡ map (λ x. x.top) (numbered_units (own_tops r) 0 common.units) → end ≡ own_tops r + length (cross_tops common.units)
      → HavePartTops r (grouped (length starts) (edges_from edge_to 0 (spans end starts)))
  spans_have starts end is ends =
      let lists = by_unit (own_tops r) common.units in
      let are : spans end starts ≡ lists = ap (spans end) is ∙ spans_by end (own_tops r) 0 common.units ends in
      record {
        len = grouped_length (length starts) (edges_from edge_to 0 (spans end starts)) ∙ sym (spans_long end starts) ∙ ap (λ (w : List (List ℕ)). length w) are
            ∙ by_unit_long (own_tops r) common.units ∙ sym commons_long;
        each = λ p c. (
            let g = span_grouped end starts p c in
            let t = part_numbers p c in
            let P : List (List ℕ) → Type 0 = λ w. In c (get_or w p []) in
            (λ i. t.0 (subst P are (g.0 i)), λ o. g.1 (subst P (sym are) (t.1 o))));
      }
