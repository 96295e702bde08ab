-- All uses name texts, so slots that are among them have the numbers that are asked for.
use Rattle.std.proofs.Common.{◌≡◌, ℕ, true, false, cond, List, [], ◌∷◌, ◌++◌, map, Option, Some, None, All, Contains, IsSome, is_some, refl, sym, ap, subst, ◌∙◌, inl, inr}
use Rattle.std.specs.Prelude.{SomeIff}
use Rattle.std.specs.Option.{unwrap_or}
use Rattle.std.proofs.lemmas.List.{append-nil}
use Rattle.std.proofs.lemmas.List.Elements.{All-append, All-contains, filter_passes}
use Rattle.dwz_def_reading.specs.Spelling.{le_bytes}
use Rattle.dwz_def_reading.specs.Lists.{In}
use Rattle.dwz_def_reading.specs.OffsetTables.{slots_in}
use Rattle.dwz_def_reading.specs.Pruning.{new_number}
use Rattle.dwz_def_reading.specs.Texts.{text_at}
use Rattle.dwz_def_reading.proofs.ListFacts.{in_map, in_right}
use Rattle.dwz_def_reading.specs.Patching.{written_at}
use Rattle.dwz_def_tops.proofs.Members.{in_filter}
use Rattle.dwz_strs.specs.Pruned.{IsPruned, Pruning, moved_in}
use Rattle.dwz_def_encoding.specs.Pruned.{known_slots, number_in_slot, slot_after, slot_uses, slots_or_none}
use Rattle.dwz_def_encoding.proofs.PrunedUnits.{in_contains}
use Rattle.dwz_encode_sections.specs.Slots.{moved_or_same}
use Rattle.dwz_def_output.specs.Contents.{with_slots}
use Rattle.dwz_encode_texts.specs.declared.pruning.PrunedFile.{PrunedFile}
use Rattle.dwz_encode_texts.specs.PrunedFiles.{IsPrunedFile, file_uses}

abbrev Name : List ℕ → ℕ → Type 0
Name strs used = IsSome (text_at strs used)

slots_name : (strs offsets places : List ℕ) → All (Name strs) (slot_uses strs offsets places)
unfolding slot_uses
slots_name strs offsets places = filter_passes (λ n. is_some (text_at strs n)) (map (number_in_slot offsets) places)

places_are : (offsets places : List ℕ) → slots_in offsets ≡ Some places → places ≡ known_slots offsets
places_are offsets places e = sym (ap slots_or_none e)

pub uses_name : (strs offsets of_values places uses : List ℕ) → uses ≡ of_values ++ slot_uses strs offsets places → All (λ used. IsSome (text_at strs used)) of_values
    → All (λ used. IsSome (text_at strs used)) uses
uses_name strs offsets of_values places uses is texts =
    subst (λ (w : List ℕ). All (Name strs) w) (sym is) (All-append (Name strs) of_values (slot_uses strs offsets places) texts (slots_name strs offsets places))

-- ---- the new numbers of slots

module _ (strs offsets uses : List ℕ) (p : Pruning) (is : IsPruned strs uses p) (texts : All (λ used. IsSome (text_at strs used)) uses)
    (used : (n : ℕ) → In n (slot_uses strs offsets (known_slots offsets)) → Contains uses n) where
  number_is : (place : ℕ) → In place (known_slots offsets) → moved_or_same p (number_in_slot offsets place) ≡ slot_after strs uses (number_in_slot offsets place)
  unfolding slot_uses
  number_is place there = by (moved_in p n) refl (text_at strs n) refl where
    n : ℕ
    n = number_in_slot offsets place

    by : (o : Option ℕ) → moved_in p n ≡ o → (t : Option (List ℕ)) → text_at strs n ≡ t → unwrap_or o n ≡ cond (is_some t) (new_number strs uses n) n
    by (Some m) eo (Some t) et = (subst (λ (o : Option ℕ). SomeIff o (Contains uses n) (new_number strs uses n)) eo (is.moved n)).1
    by (Some m) eo None et =
        (let no : false ≡ true = subst (λ (t : Option (List ℕ)). IsSome t) et
        (All-contains (λ used. IsSome (text_at strs used)) uses n texts (subst (λ (o : Option ℕ). SomeIff o (Contains uses n) (new_number strs uses n)) eo (is.moved n)).0) in cc)
    by None eo (Some t) et =
        (let numbers = map (number_in_slot offsets) (known_slots offsets) in
        let one = used n (in_filter (λ m. is_some (text_at strs m)) n numbers (in_map (number_in_slot offsets) place (known_slots offsets) there) (ap is_some et)) in
        absurd (subst (λ (o : Option ℕ). SomeIff o (Contains uses n) (new_number strs uses n)) eo (is.moved n) one))
    by None eo None et = refl

  slots_same : (places bytes : List ℕ) → ((place : ℕ) → In place places → In place (known_slots offsets))
      → with_slots (λ place. moved_or_same p (number_in_slot offsets place)) places bytes ≡ with_slots (λ place. slot_after strs uses (number_in_slot offsets place)) places bytes
  unfolding with_slots
  slots_same [] bytes some = refl
  slots_same (place ∷ places) bytes some =
      ap (λ (m : ℕ). with_slots (λ q. moved_or_same p (number_in_slot offsets q)) places (written_at place (le_bytes 4 m) bytes)) (number_is place (some place (inl refl)))
      ∙ slots_same places (written_at place (le_bytes 4 (slot_after strs uses (number_in_slot offsets place))) bytes) (λ q there. some q (inr there))

  pub all_same : with_slots (λ place. moved_or_same p (number_in_slot offsets place)) (known_slots offsets) offsets
      ≡ with_slots (λ place. slot_after strs uses (number_in_slot offsets place)) (known_slots offsets) offsets
  all_same = slots_same (known_slots offsets) offsets (λ place there. there)

-- ---- a file

pub with_places : (strs offsets of_values places uses : List ℕ) (p : PrunedFile) → slots_in offsets ≡ Some places → All (λ used. IsSome (text_at strs used)) of_values
    → uses ≡ of_values ++ slot_uses strs offsets places
    → IsPruned strs uses p.strs → p.offsets.items ≡ with_slots (λ place. moved_or_same p.strs (number_in_slot offsets place)) places offsets → IsPrunedFile strs offsets of_values p
with_places strs offsets of_values places uses p found texts are is made =
    let known = places_are offsets places found in
    let all : uses ≡ file_uses strs offsets of_values = are ∙ ap (λ (w : List ℕ). of_values ++ slot_uses strs offsets w) known in
    let pruned = subst (λ (w : List ℕ). IsPruned strs w p.strs) all is in
    let name = uses_name strs offsets of_values (known_slots offsets) (file_uses strs offsets of_values) refl texts in
    record {
      texts = pruned;
      slots =
          made
          ∙ ap (λ (w : List ℕ). with_slots (λ place. moved_or_same p.strs (number_in_slot offsets place)) w offsets) known
          ∙ all_same strs offsets (file_uses strs offsets of_values) p.strs pruned name
          (λ n there. in_contains n (file_uses strs offsets of_values) (in_right n of_values (slot_uses strs offsets (known_slots offsets)) there));
    }

no_places : (strs offsets : List ℕ) → slots_in offsets ≡ None → slot_uses strs offsets (known_slots offsets) ≡ []
unfolding slot_uses
no_places strs offsets none = ap (λ (o : Option (List ℕ)). slot_uses strs offsets (slots_or_none o)) none

no_writes : (number : ℕ → ℕ) (offsets : List ℕ) → slots_in offsets ≡ None → with_slots number (known_slots offsets) offsets ≡ offsets
unfolding with_slots
no_writes number offsets none = ap (λ (o : Option (List ℕ)). with_slots number (slots_or_none o) offsets) none

pub without_places : (strs offsets of_values : List ℕ) (p : PrunedFile) → slots_in offsets ≡ None → IsPruned strs of_values p.strs → p.offsets.items ≡ offsets → IsPrunedFile strs offsets of_values p
without_places strs offsets of_values p none is same =
    let all : of_values ≡ file_uses strs offsets of_values = sym (ap (λ (w : List ℕ). of_values ++ w) (no_places strs offsets none) ∙ append-nil of_values) in
    record {
      texts = subst (λ (w : List ℕ). IsPruned strs w p.strs) all is;
      slots = same ∙ sym (no_writes (λ place. slot_after strs (file_uses strs offsets of_values) (number_in_slot offsets place)) offsets none);
    }
