-- Among the imports of a unit is one of a partial unit of a finished common file exactly if it takes that.
use Rattle.std.proofs.Common.{◌≡◌, ℕ, suc, ◌+◌, ◌<◌, ◌≤◌, List, [], ◌∷◌, arith, length, map, refl, sym, ap, subst, inl, inr}
use Rattle.std.proofs.lemmas.Bool.{cases_lt}
use Rattle.dwz_def_reading.specs.Documents.{Entries, Node}
use Rattle.dwz_def_reading.specs.Lists.{In}
use Rattle.dwz_def_reading.proofs.ListFacts.{in_map}
use Rattle.dwz_def_tops.specs.Lists.{Nth}
use Rattle.dwz_def_tops.specs.Spots.{EntryName, Import, file_numbers}
use Rattle.dwz_def_tops.proofs.Members.{in_map_from}
use Rattle.dwz_def_images.specs.IsPlan.{row}
use Rattle.dwz_def_images.specs.Plan.{import_of, partials}
use Rattle.dwz_def_images.proofs.KeptLemmas.{are_imports}
use Rattle.dwz_def_images.specs.After.{IsBelow}
use Rattle.dwz_def_images.proofs.NodeLemmas.{below_row}
use Rattle.dwz_def_taken.specs.Over.{common_part, common_parts}
use Rattle.dwz_def_taken.specs.Takes.{free_rule}
use Rattle.dwz_def_taken.proofs.CommonParts.{nth_common, takers_law}
use Rattle.dwz_def_taken.proofs.PlaceLemmas.{nth_left}
use Rattle.dwz_def_over.specs.Laws.{ImportsLaw}
use Rattle.dwz_def_over.specs.Over.{move_of, reused}

at_place : {X : Type 0} (s : ℕ) (xs : List X) (n : ℕ) → s ≤ n → n < s + length xs → (x : X) × Nth s xs n x
at_place s [] n low high = absurd (omega (arith, low, high))
at_place s (x ∷ xs) n low high = elim (cases_lt s n) [
  | inl less ↦ (let o = at_place (suc s) xs n less (omega (arith, high)) in (o.0, inr o.1))
  | inr most ↦ (x, inl (omega (arith, low, most), refl))
]

row_below : (nodes : List (Node EntryName)) (e : Node EntryName) → In e nodes → IsBelow e (row nodes)
row_below [] e h = h
row_below (d ∷ nodes) e (inl x) = inl x
row_below (d ∷ nodes) e (inr r) = inr (inr (row_below nodes e r))

-- an import is of one partial unit
one_import : (u n p : ℕ) → import_of u n ≡ import_of u p → n ≡ p
one_import u n p e = (let at : Import u n ≡ Import u p = ap (λ (w : Node EntryName). w.at) e in cc)

pub imports_law : ImportsLaw
imports_law o is u p low =
    let r = reused o in
    let files = file_numbers 0 o.said.docs in
    let a = are_imports u (move_of o).parts in
    let at = at_place 0 r.commons p (omega arith) (omega (arith, low)) in
    let part = common_part r o.fixed p in
    let nth = nth_left 0 (common_parts r o.fixed 0 r.commons) (partials (free_rule r o.fixed) r.units files) p part (nth_common r o.fixed 0 r.commons p at.0 at.1) in (
      λ below.
          (let x = in_map_from (import_of u) (import_of u p) a.parts_imported
          (below_row (map (import_of u) a.parts_imported) (import_of u p) (subst (λ (w : Entries EntryName). IsBelow (import_of u p) w) a.entries_are below)) in
          let there : In p a.parts_imported = subst (λ (n : ℕ). In n a.parts_imported) (one_import u x.source p x.is) x.there in
          let h = (a.are p).0 there in
          (takers_law r o.fixed files is.taken.lists p low h.0 h.1 u).0 h.2),
      λ takes.
          (let there = (a.are p).1 (part, nth, (takers_law r o.fixed files is.taken.lists p low part nth u).1 takes) in
          subst (λ (w : Entries EntryName). IsBelow (import_of u p) w) (sym a.entries_are)
          (row_below (map (import_of u) a.parts_imported) (import_of u p) (in_map (import_of u) p a.parts_imported there))),
    )
