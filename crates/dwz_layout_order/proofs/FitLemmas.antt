-- The partial units of a plan: their tops rise, so there are no more of them than tops in all; and their homes are the common file or files.
use Rattle.std.proofs.Common.{◌≡◌, ◌⊎◌, ℕ, zero, suc, ◌+◌, ◌<◌, ◌≤◌, ◌^◌, List, [], ◌∷◌, length, map, get_or, Some, slice_get, refl, sym, ap, subst, ◌∙◌, inl, inr, arith}
use Rattle.std.specs.List.{range_with_len}
use Rattle.std.proofs.lemmas.Option.{slice_get-get_or}
use Rattle.dwz_def_reading.specs.Lists.{In}
use Rattle.dwz_def_reading.proofs.ListFacts.{got_in, in_cases}
use Rattle.dwz_def_tops.specs.Lists.{Rising}
use Rattle.dwz_def_tops.proofs.Members.{each_in, in_map_from}
use Rattle.dwz_def_tops.specs.Spots.{EntryName, FileUnit, Top, tops_of, units_of}
use Rattle.dwz_def_tops.proofs.TopNumbers.{number_below, tops_numbers}
use Rattle.dwz_graph.specs.declared.file.File.{File}
use Rattle.dwz_graph.specs.Files.{AreKept, docs_of}
use Rattle.dwz_graph.specs.Index.{Index}
use Rattle.dwz_graph.specs.Indexed.{AreIndexes}
use Rattle.dwz_def_images.specs.Homes.{Common, Home, Local, Rule}
use Rattle.dwz_def_images.specs.IsPlan.{IsPart}
use Rattle.dwz_def_images.specs.Plan.{PartialUnit, distinct, local_partials, partial_with, partials, partials_at, representatives, users_of}
use Rattle.dwz_def_images.proofs.PlanLemmas.{are_parts}
use Rattle.dwz_plan.specs.declared.plan.Partial.{Partial}
use Rattle.dwz_plan.specs.Planned.{Planned, file_of_home}
use Rattle.dwz_plan.specs.Shows.{ShowsPlan, shown_part}
use Rattle.dwz_graph.proofs.FilesFew.{all_small}
use Rattle.dwz_layout_order.specs.Ordered.{PartsFit}

-- ---- rising numbers

rising_few : (ns : List ℕ) (low high : ℕ) → Rising ns → low ≤ high → ((n : ℕ) → In n ns → (low ≤ n) × (n < high)) → low + length ns ≤ high
rising_few [] low high r le h = omega arith
rising_few (n ∷ ns) low high r le h =
    let first = h n (inl refl) in
    let a = first.0 in
    let b = first.1 in
    let more = rising_few ns (suc n) high r.1 (omega arith) (λ m there. (let above = each_in (λ (k : ℕ). n < k) m ns r.0 there in let o = h m (inr there) in let c =
    o.1 in (omega arith, omega arith))) in
    omega arith

-- ---- homes

-- the common file, or one of these
abbrev pub IsHomeOf : List ℕ → Home → Type 0
IsHomeOf files h = (h ≡ Common) ⊎ ((file : ℕ) × In file files × (h ≡ Local file))

at_home : (rule : Rule) (units : List (FileUnit EntryName)) (h : Home) (p : PartialUnit) → In p (partials_at rule units h) → p.home ≡ h
unfolding partials_at
at_home rule units h p there =
    let o = in_map_from (partial_with rule units h) p (distinct (map (users_of rule.alike units) (representatives rule units h))) there in
    sym (ap (λ (w : PartialUnit). w.home) o.is)

local_home : (rule : Rule) (units : List (FileUnit EntryName)) (files : List ℕ) (p : PartialUnit) → In p (local_partials rule units files) → (file : ℕ) × In file files × (p.home ≡ Local file)
unfolding local_partials
local_home rule units [] p there = absurd there
local_home rule units (file ∷ files) p there = elim (in_cases p (partials_at rule units (Local file)) (local_partials rule units files) there) [
  | inl a ↦ (file, inl refl, at_home rule units (Local file) p a)
  | inr b ↦ (let o = local_home rule units files p b in (o.0, inr o.1, o.2))
]

pub home_of : (rule : Rule) (units : List (FileUnit EntryName)) (files : List ℕ) (p : PartialUnit) → In p (partials rule units files) → IsHomeOf files p.home
unfolding partials
home_of rule units files p there = elim (in_cases p (partials_at rule units Common) (local_partials rule units files) there) [
  | inl a ↦ inl (at_home rule units Common p a)
  | inr b ↦ inr (local_home rule units files p b)
]

pub in_range : (s n k : ℕ) → In k (range_with_len s n) → k < s + n
in_range s zero k there = absurd there
in_range s (suc n) k (inl e) = omega arith
in_range s (suc n) k (inr there) = (let r = in_range (s + 1) n k there in omega arith)

file_low : (count : ℕ) (h : Home) → IsHomeOf (range_with_len 0 count) h → file_of_home count h ≤ count
file_low count h (inl e) = subst (λ (w : Home). file_of_home count w ≤ count) (sym e) (omega arith)
file_low count h (inr o) = (let low = in_range 0 count o.0 o.1 in subst (λ (w : Home). file_of_home count w ≤ count) (sym o.2) (omega arith))

-- ---- each of them

from_map : {X Y : Type 0} (f : X → Y) (xs : List X) (k : ℕ) (y : Y) → slice_get (map f xs) k ≡ Some y → (x : X) × In x xs × (f x ≡ y)
from_map f [] k y e = absurd cc
from_map f (x ∷ xs) zero y e = (x, inl refl, (let same : f x ≡ y = cc in same))
from_map f (x ∷ xs) (suc k) y e = (let o = from_map f xs k y e in (o.0, inr o.1, o.2))

-- what holds of what the partial units show holds of all
all_shown : (P : Partial → Type 0) (files : ℕ) (ps : List PartialUnit) (parts : List Partial) → map (shown_part files) ps ≡ parts → ((p : PartialUnit) → In p ps → P (shown_part files p))
    → (k : ℕ) (d : Partial) → k < length parts → P (get_or parts k d)
all_shown P files ps parts e h k d lt =
    let got = slice_get-get_or parts k d lt in
    let o = from_map (shown_part files) ps k (get_or parts k d) (ap (λ (w : List Partial). slice_get w k) e ∙ got) in
    subst P o.2 (h o.0 o.1)

abbrev Below : ℕ → List ℕ → Type 0
Below count ns = (k d : ℕ) → k < length ns → get_or ns k d < count

all_below : (count : ℕ) (ns : List ℕ) → ((n : ℕ) → In n ns → n < count) → Below count ns
all_below count ns h k d lt = h (get_or ns k d) (got_in ns k (get_or ns k d) (slice_get-get_or ns k d lt))

pub parts_fit : (contents : List (List ℕ)) (files : List File) (indexes : List Index) (rule : Rule) (plan : Planned) → AreKept contents files → AreIndexes (docs_of contents) indexes
    → ShowsPlan rule (units_of (docs_of contents)) (length (docs_of contents)) plan → PartsFit (docs_of contents) plan.partials
parts_fit contents files indexes rule plan kept is shows =
    let docs = docs_of contents in
    let units = units_of docs in
    let count = length docs in
    let ps = partials rule units (range_with_len 0 count) in
    let part = λ (p : PartialUnit) (there : In p ps). each_in (IsPart rule units) p ps (are_parts rule units (range_with_len 0 count)) there in
    let low = λ (p : PartialUnit) (there : In p ps) (n : ℕ) (has : In n (map (λ (t : Top). t.number) p.tops)). (
    let o = in_map_from (λ (t : Top). t.number) n p.tops has in
    let b = ((part p there).tops o.source).0 o.there in
    let below = number_below 0 (tops_of units) o.source (tops_numbers units) b.there in
    let same = o.is in
    let r : n < length (tops_of units) = omega arith in r) in
    let small = (all_small contents files indexes kept is).tops in
    record {
      few_tops = all_shown (λ part. length part.tops < 2 ^ 32) count ps plan.partials shows.partials
          (λ p there. (let few = rising_few (map (λ (t : Top). t.number) p.tops) 0 (length (tops_of units)) (part p there).rising (omega arith)
          (λ n has. ((let z : 0 ≤ n = omega arith in z), low p there n has)) in omega arith));
      inside = all_shown (λ part. Below (length (tops_of units)) part.tops) count ps plan.partials shows.partials
          (λ p there. all_below (length (tops_of units)) (map (λ (t : Top). t.number) p.tops) (low p there));
      files = all_shown (λ part. part.file ≤ count) count ps plan.partials shows.partials (λ p there. file_low count p.home (home_of rule units (range_with_len 0 count) p there));
    }
