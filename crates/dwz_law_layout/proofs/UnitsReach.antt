-- Whether a name stands in a unit, and in its file, is told by the number of the unit in which it stands.
use Rattle.std.proofs.Common.{◌≡◌, ◌⊎◌, ℕ, zero, suc, ◌+◌, ◌==◌, Bool, true, false, List, [], ◌∷◌, ◌++◌, length, not, Some, slice_get, refl, sym, ap, subst, ◌∙◌, inl, inr, arith}
use Rattle.std.specs.Prelude.{nat_lt, slice_index}
use Rattle.std.proofs.lemmas.Bool.{le-ltb, lt-ltb}
use Rattle.std.proofs.lemmas.List.{append_assoc, length-map}
use Rattle.std.proofs.lemmas.Option.{get_or_from_slice_get}
use Rattle.dwz_def_reading.specs.Lists.{In}
use Rattle.dwz_def_reading.proofs.ListFacts.{got_below, got_in, in_left, in_right}
use Rattle.dwz_def_reading.specs.Documents.{DwUnit}
use Rattle.dwz_def_tops.specs.Lists.{NoneTwice, Nth}
use Rattle.dwz_def_tops.specs.Shown.{unit_keys, units_keys}
use Rattle.dwz_def_tops.proofs.OnceLemmas.{none_both}
use Rattle.dwz_def_tops.specs.Deciding.{same_bool}
use Rattle.dwz_def_tops.specs.Spots.{EntryName, FileUnit, PartialRoot, file_numbers, same_spot}
use Rattle.dwz_def_tops.proofs.FileNumbers.{numbers_long}
use Rattle.dwz_graph.proofs.TopLemmas.{get_cases}
use Rattle.dwz_def_images.specs.Homes.{Common, Local}
use Rattle.dwz_def_images.specs.Moves.{Move}
use Rattle.dwz_def_images.specs.Plan.{PartialUnit}
use Rattle.dwz_def_images.specs.Units.{changes, common_units, kept_units, out_units, partial_unit, partial_units}
use Rattle.dwz_def_tops.proofs.UnitKeys.{keys_joined}
use Rattle.dwz_def_encoding.specs.Placing.{has_key}
use Rattle.dwz_def_readback.proofs.WithinLemmas.{parts_to}
use Rattle.dwz_layout_numbers.specs.Owners.{IsFileWritten, StandsIn, files_written}
use Rattle.dwz_layout_numbers.proofs.ReachLemmas.{common_tells, file_tells, own_tells, written_once}
use Rattle.dwz_layout.specs.declared.known.EntryTable.{EntryTable}
use Rattle.dwz_layout.specs.Attributes.{is_common}
use Rattle.dwz_layout.specs.Known.{unit_of_part}
use Rattle.dwz_law_layout.specs.Beside.{Beside}
use Rattle.dwz_law_layout.specs.Facts.{AreFacts, RunFacts, docs, move, units, units_written, written}
use Rattle.dwz_law_layout.specs.Listed.{AreListed, TextsAt}
use Rattle.dwz_law_layout.specs.Named.{keys, root_name}
use Rattle.dwz_law_layout.specs.OwnedLaws.{ReachesPart}
use Rattle.dwz_law_layout.specs.Unfitted.{common_unit_forms, file_unit_forms}
use Rattle.dwz_law_layout.proofs.ImagesStand.{IsNear, in_units}

-- ---- the units that are written, file by file

pub record FilePart (m : Move) (us : List (FileUnit EntryName)) (file : ℕ) (written : List Bool) (number : ℕ) : Type 0 where
  pub before : List (DwUnit EntryName)
  pub after : List (DwUnit EntryName)
  pub are : files_written m us file written ≡ before ++ (out_units m us number ++ after)

file_part : (m : Move) (us : List (FileUnit EntryName)) (file : ℕ) (written : List Bool) (n number : ℕ) → number ≡ file + n → IsFileWritten written n → FilePart m us file written number
unfolding files_written
file_part m us file [] n number e is = absurd cc
file_part m us file (true ∷ written) zero number e is =
    let same : file ≡ number = omega (arith, e) in
    record { before = []; after = files_written m us (suc file) written; are = ap (λ (w : ℕ). out_units m us w ++ files_written m us (suc file) written) same }
file_part m us file (false ∷ written) zero number e is = absurd cc
file_part m us file (true ∷ written) (suc n) number e is =
    let o = file_part m us (suc file) written n number (omega (arith, e)) is in
    let own = out_units m us file in
    record {
      before = own ++ o.before;
      after = o.after;
      are = ap (λ (w : List (DwUnit EntryName)). own ++ w) o.are ∙ sym (append_assoc own o.before (out_units m us number ++ o.after));
    }
file_part m us file (false ∷ written) (suc n) number e is =
    let o = file_part m us (suc file) written n number (omega (arith, e)) is in
    record { before = o.before; after = o.after; are = o.are }

-- ---- in which of two lists of units a unit is

no_both : (xs ys : List (DwUnit EntryName)) (u : DwUnit EntryName) → NoneTwice (units_keys (xs ++ ys)) → In u xs → In u ys → ⊥
unfolding unit_keys
no_both xs ys u once a b =
    none_both (units_keys xs) (units_keys ys) (subst NoneTwice (keys_joined xs ys) once) u.at (in_units u xs u.at a (inl refl)) (in_units u ys u.at b (inl refl))

left_here : (xs ys : List (DwUnit EntryName)) (here : ℕ) (u : DwUnit EntryName) → NoneTwice (units_keys (xs ++ ys)) → slice_get (xs ++ ys) here ≡ Some u → In u xs → nat_lt here (length xs) ≡ true
left_here xs ys here u once e is = elim (get_cases xs ys here u e) [
  | inl a ↦ lt-ltb here (length xs) (got_below xs here u a)
  | inr b ↦ absurd (no_both xs ys u once is (got_in ys b.0 u b.2))
]

right_here : (xs ys : List (DwUnit EntryName)) (here : ℕ) (u : DwUnit EntryName) → NoneTwice (units_keys (xs ++ ys)) → slice_get (xs ++ ys) here ≡ Some u → In u ys → nat_lt here (length xs) ≡ false
right_here xs ys here u once e is = elim (get_cases xs ys here u e) [
  | inl a ↦ absurd (no_both xs ys u once (got_in xs here u a) is)
  | inr b ↦ le-ltb here (length xs) (let far = b.1 in omega (arith, far))
]

same_true : (b c : Bool) → c ≡ true → b ≡ same_bool b c
same_true true c e = sym e
same_true false true e = refl
same_true false false e = absurd cc

same_false : (b c : Bool) → c ≡ false → not b ≡ same_bool b c
same_false true c e = sym e
same_false false true e = absurd cc
same_false false false e = refl

-- ---- of what is known of a run

module _ {beside : Beside} (f : RunFacts beside) (t : TextsAt) (k : EntryTable) (facts : AreFacts f) (listed : AreListed f t k) where
  abbrev common : List (DwUnit EntryName)
  common = common_units (move f)

  once : NoneTwice (units_keys (units_written f))
  once = written_once (move f) (units f) (docs f) (written f) facts.whole.apart
      (let many = length-map (file_numbers 0 (docs f)) (changes (move f) (units f)) in let as_many = numbers_long 0 (docs f) in omega (arith, many, as_many))

  commons_are : k.commons ≡ length common
  commons_are = listed.commons ∙ facts.numbers.commons_are

  common_is : (number : ℕ) → is_common k number ≡ nat_lt number (length common)
  common_is number = ap (nat_lt number) commons_are

  pub own_told : (s : EntryName) (owner here : ℕ) (u : DwUnit EntryName) → StandsIn (units_written f) s owner → slice_get (units_written f) here ≡ Some u
      → has_key same_spot s (unit_keys u) ≡ (owner == here)
  own_told s owner here u stands e = own_tells (units_written f) once s owner stands here u e

  -- from a unit of the common file
  pub common_told : (s : EntryName) (owner here : ℕ) (u : DwUnit EntryName) → StandsIn (units_written f) s owner → slice_get (units_written f) here ≡ Some u → In u (common_units (move f))
      → has_key same_spot s (units_keys (common_units (move f))) ≡ same_bool (is_common k owner) (is_common k here)
  common_told s owner here u stands e is =
      let others = files_written (move f) (units f) 0 (written f) in
      let here_is : is_common k here ≡ true = common_is here ∙ left_here common others here u once e is in
      common_tells common others once s owner stands ∙ sym (common_is owner) ∙ same_true (is_common k owner) (is_common k here) here_is

  -- from a unit of a file that is written, where the name stands in that file, or in the common one
  pub file_told : (n : ℕ) → changes (move f) (units f) n ≡ true → (s : EntryName) (owner here : ℕ) (u : DwUnit EntryName) → StandsIn (units_written f) s owner
      → slice_get (units_written f) here ≡ Some u → In u (out_units (move f) (units f) n) → IsNear f facts n s
      → has_key same_spot s (units_keys (out_units (move f) (units f) n)) ≡ same_bool (is_common k owner) (is_common k here)
  file_told n changed s owner here u stands e is near =
      let own = out_units (move f) (units f) n in
      let none : n ≡ 0 + n = omega arith in
      let p = file_part (move f) (units f) 0 (written f) n n none (facts.numbers.changed n changed) in
      let others = p.before ++ (own ++ p.after) in
      let all : units_written f ≡ common ++ others = ap (λ (w : List (DwUnit EntryName)). common ++ w) p.are in
      let once_all = subst (λ (w : List (DwUnit EntryName)). NoneTwice (units_keys w)) all once in
      let inside : In u others = in_right u p.before (own ++ p.after) (in_left u own p.after is) in
      let here_is : is_common k here ≡ false = common_is here ∙ right_here common others here u once_all (ap (λ (w : List (DwUnit EntryName)). slice_get w here) (sym all) ∙ e) inside in
      file_tells common p.before own p.after once_all s owner (subst (λ (w : List (DwUnit EntryName)). StandsIn w s owner) all stands) near
      ∙ ap not (sym (common_is owner)) ∙ same_false (is_common k owner) (is_common k here) here_is

  -- ---- partial units

  pub part_number : (p : ℕ) (part : PartialUnit) → Nth 0 (move f).parts p part → slice_get (units_written f) (unit_of_part k p) ≡ Some (partial_unit (move f) p)
  part_number p part nth =
      let o = facts.numbers.parts_are p part nth in
      let at : unit_of_part k p ≡ o.0 = ap (λ (w : List ℕ). slice_index w p) listed.parts ∙ get_or_from_slice_get f.parts p o.0 0 o.1 in
      ap (slice_get (units_written f)) at ∙ o.2

  part_root : (p : ℕ) (part : PartialUnit) → Nth 0 (move f).parts p part → (keys f).root (unit_of_part k p) ≡ PartialRoot p
  part_root p part nth = ap root_name (part_number p part nth)

  part_stands : (p : ℕ) (part : PartialUnit) → Nth 0 (move f).parts p part → StandsIn (units_written f) (PartialRoot p) (unit_of_part k p)
  unfolding unit_keys
  part_stands p part nth = record { unit = partial_unit (move f) p; is = part_number p part nth; has = inr (inl refl) }

  pub common_part : (here : ℕ) (u : DwUnit EntryName) → slice_get (units_written f) here ≡ Some u → In u (common_units (move f)) → (p : ℕ) (part : PartialUnit) → Nth 0 (move f).parts p part
      → ReachesPart (keys f) k here (common_unit_forms f u) p
  common_part here u e is p part nth =
      let root = part_root p part nth in
      let stands = part_stands p part nth in
      let owner = unit_of_part k p in
      record {
        own = ap (λ (w : EntryName). has_key same_spot w (unit_keys u)) root ∙ own_told (PartialRoot p) owner here u stands e;
        file = ap (λ (w : EntryName). has_key same_spot w (units_keys (common_units (move f)))) root ∙ common_told (PartialRoot p) owner here u stands e is;
      }

  part_near : (n p : ℕ) (part : PartialUnit) → Nth 0 (move f).parts p part → (part.home ≡ Common) ⊎ (part.home ≡ Local n) → IsNear f facts n (PartialRoot p)
  unfolding unit_keys common_units out_units
  part_near n p part nth (inl h) = inl (in_units (partial_unit (move f) p) (common_units (move f)) (PartialRoot p) (parts_to (move f) Common 0 (move f).parts p part nth h) (inr (inl refl)))
  part_near n p part nth (inr h) =
      let m = move f in
      let v = partial_unit m p in
      let there = parts_to m (Local n) 0 m.parts p part nth h in
      inr (in_units v (out_units m (units f) n) (PartialRoot p) (in_left v (partial_units m (Local n) 0 m.parts) (kept_units m (units f) n 0 (units f)) there) (inr (inl refl)))

  pub own_part : (n : ℕ) → changes (move f) (units f) n ≡ true → (here : ℕ) (u : DwUnit EntryName) → slice_get (units_written f) here ≡ Some u → In u (out_units (move f) (units f) n)
      → (p : ℕ) (part : PartialUnit) → Nth 0 (move f).parts p part → (part.home ≡ Common) ⊎ (part.home ≡ Local n) → ReachesPart (keys f) k here (file_unit_forms f n u) p
  own_part n changed here u e is p part nth home =
      let root = part_root p part nth in
      let stands = part_stands p part nth in
      let owner = unit_of_part k p in
      record {
        own = ap (λ (w : EntryName). has_key same_spot w (unit_keys u)) root ∙ own_told (PartialRoot p) owner here u stands e;
        file = ap (λ (w : EntryName). has_key same_spot w (units_keys (out_units (move f) (units f) n))) root
            ∙ file_told n changed (PartialRoot p) owner here u stands e is (part_near n p part nth home);
      }
