-- The places of entries are below 2^32, and are called the same where other things stand for them.
use Rattle.std.proofs.Common.{◌≡◌, ℕ, ◌<◌, ◌^◌, List, [], ◌∷◌, ◌++◌, map, Ok, inl, inr, sym, ap, subst, ◌∙◌, arith}
use Rattle.dwz_model.specs.Lists.{Each}
use Rattle.dwz_model.proofs.Members.{in_map_from}
use Rattle.dwz_def_reading.specs.Documents.{Doc, DwUnit, unit_map}
use Rattle.dwz_def_reading.specs.Files.{Limits, debug_abbrev, debug_info, file_meaning_by, longest_file}
use Rattle.dwz_def_reading.specs.Lists.{In}
use Rattle.dwz_def_reading.specs.OtherPlaces.{LiesBelow}
use Rattle.dwz_def_reading.specs.Rules.{ReadingRule}
use Rattle.dwz_def_reading.specs.Units.{RawUnit}
use Rattle.dwz_def_reading.proofs.FileLemmas.{file_agrees_by}
use Rattle.dwz_def_reading.proofs.ListFacts.{in_cases, in_left, in_map, in_right}
use Rattle.dwz_def_reading.proofs.PlacesRise.{all_raw_keys, raw_keys, units_below}
use Rattle.dwz_def_tops.specs.Shown.{keys, unit_keys, units_keys}
use Rattle.dwz_def_check.specs.CrossNames.{CrossName, cross_names_from}
use Rattle.dwz_def_check.proofs.NameLists.{place_unit}
use Rattle.dwz_def_check.proofs.ReadRefs.{means_keys}
use Rattle.dwz_graph.proofs.IndexRoom.{info_within}
use Rattle.dwz_check_index.specs.Mapped.{placed_name}
use Rattle.dwz_check_index.proofs.MapLemmas.{mapped}

-- ---- below 2^32

keys_in : {P : Type 0} (units : List (DwUnit P)) (u : DwUnit P) (p : P) → In u units → In p (u.root.at ∷ keys u.below) → In p (units_keys units)
unfolding units_keys unit_keys
keys_in [] u p there is = absurd there
keys_in {P} (v ∷ units) u p (inl same) is =
    in_left p (unit_keys v) (units_keys units) (inr (subst (λ (w : DwUnit P). In p (w.root.at ∷ keys w.below)) (sym same) is))
keys_in (v ∷ units) u p (inr there) is = in_right p (unit_keys v) (units_keys units) (keys_in units u p there is)

keys_below : (bound : ℕ) (units : List RawUnit) → Each (LiesBelow bound) units → (n : ℕ) → In n (all_raw_keys units) → n < bound
unfolding all_raw_keys
keys_below bound [] h n there = absurd there
keys_below bound (u ∷ units) h n there = elim (in_cases n (raw_keys u) (all_raw_keys units) there) [
  | inl own ↦ h.0 n own
  | inr others ↦ keys_below bound units h.1 n others
]

-- each place that has a name, where places stand for themselves
pub named_below : (rule : ReadingRule ℕ) (l : Limits) (bytes : List ℕ) (raw : List RawUnit) (doc : Doc ℕ) → file_meaning_by rule l bytes ≡ Ok (raw, doc)
    → (rule.around bytes raw).place ≡ (λ (n : ℕ). n)
    → (top p : ℕ) (x : CrossName) → In (p, x) (cross_names_from 0 top doc.units) → p < 2 ^ 32
unfolding longest_file
named_below rule l bytes raw doc means same top p x is =
    let reads = ((file_agrees_by rule l bytes).ok (raw, doc)).0 means in
    let o = place_unit 0 top 0 0 doc.units [] p x (in_left (p, x) (cross_names_from 0 top doc.units) (cross_names_from 0 0 []) is) in
    let there : In p (units_keys doc.units) = keys_in doc.units o.unit p (whole doc.units o.unit o.there) o.is in
    let are : units_keys doc.units ≡ map (λ (n : ℕ). n) (all_raw_keys raw) = means_keys (rule.around bytes raw) raw doc.units reads.means ∙ ap (λ (g : ℕ → ℕ). map g (all_raw_keys raw)) same in
    let from = in_map_from (λ (n : ℕ). n) p (all_raw_keys raw) (subst (λ (w : List ℕ). In p w) are there) in
    let within = info_within bytes in
    let short = reads.size.file in
    let lie = units_below (debug_abbrev bytes) (rule.mode l.entries) 0 raw 0 (debug_info bytes) (2 ^ 32) reads.spelled (omega (arith, within, short)) in
    keys_below (2 ^ 32) raw lie p (subst (λ (n : ℕ). In n (all_raw_keys raw)) from.is from.there) where
      whole : (units : List (DwUnit ℕ)) (u : DwUnit ℕ) → In u (units ++ []) → In u units
      whole units u at = elim (in_cases u units [] at) [ inl f ↦ f | inr g ↦ absurd g ]

-- ---- with other places

-- what a place is called
pub placed_in : {P Q : Type 0} (f : P → Q) (top : ℕ) (units : List (DwUnit P)) (p : P) (x : CrossName) → In (p, x) (cross_names_from 0 top units)
    → In (f p, x) (cross_names_from 0 top (map (unit_map f) units))
placed_in {P} {Q} f top units p x is =
    subst (λ (w : List (Q × CrossName)). In (f p, x) w) (sym ((mapped f units).names 0 top)) (in_map (placed_name f) (p, x) (cross_names_from 0 top units) is)
