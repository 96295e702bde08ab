-- Values that are passed over name nothing.
use Rattle.std.proofs.Common.{◌≡◌, ℕ, ◌+◌, ◌<◌, ◌≤◌, Bool, true, false, List, [], ◌∷◌, ◌++◌, drop, eqb, get_or, length, take, Ok, Some, refl, sym, ap, subst, ◌∙◌}
use Rattle.std.specs.Prelude.{IsOk, slice_get, ◌&&◌, ◌||◌, ◌==◌, not, if◌then◌else◌}
use Rattle.std.specs.List.{list_any}
use Rattle.std.specs.Option.{is_some}
use Rattle.std.proofs.Math.Bool.{or-false}
use Rattle.std.proofs.lemmas.Bool.{eqb-true}
use Rattle.std.proofs.lemmas.List.{drop_all, take-append-drop}
use Rattle.std.proofs.lemmas.List.Folds.{list_any-append}
use Rattle.dwz_model.specs.Lists.{Each}
use Rattle.dwz_model.specs.declared.place.Pair.{Pair}
use Rattle.dwz_def_reading.specs.Classes.{Class, OfAddress, OfConstant, OfFlag, OfIndex, OfSignature, class_of, names_file}
use Rattle.dwz_def_reading.specs.Entries.{RawAttr}
use Rattle.dwz_def_reading.specs.Meanings.{MeaningContext, constant_value, stmt_list}
use Rattle.dwz_def_reading.specs.Meant.{as_class, file_by, meaning}
use Rattle.dwz_def_reading.specs.NamedLists.{list_of_attr, lists_as}
use Rattle.dwz_def_reading.specs.Input.{Input, past}
use Rattle.dwz_def_reading.specs.Values.{Raw, value_at, written_rows}
use Rattle.dwz_def_reading.proofs.ListFacts.{drop_pairs}
use Rattle.dwz_forms.specs.FixedSizes.{fixed_size}
use Rattle.dwz_unit.specs.Stops.{is_plain, stops_from}
use Rattle.dwz_unit.specs.Values.{Reads}
use Rattle.dwz_unit.specs.declared.stops.Stop.{Stop}
use Rattle.dwz_unit.proofs.ReadsLemmas.{reads_next}
use Rattle.dwz_unit.proofs.StopLemmas.{IsPassed, NextStop, next_stop, no_stop}
use Rattle.dwz_graph_resolve.specs.Named.{attr_named, collect, found_in, joined, map_ok, nothing_found}
use Rattle.dwz_graph_resolve.specs.Parts.{numbers_as, numbers_file}
use Rattle.dwz_graph_resolve.proofs.NamedLemmas.{collect_append, joined_none}
use Rattle.dwz_graph_resolve.specs.Resolved.{value_between}
use Rattle.dwz_graph_resolve.proofs.ValueSteps.{no_pair}

-- ---- a value

second_true : (a b : Bool) → (a && b) ≡ true → b ≡ true
second_true true b e = e
second_true false b e = absurd cc

-- by its class, where it isn't that of DW_AT_sibling
plain_names : (s : MeaningContext ℕ) (a : RawAttr) (k : Class) → is_plain k a.pair.name ≡ true → map_ok (found_in (lists_as k s a)) (as_class k s a) ≡ Ok nothing_found
plain_names s a OfAddress e = refl
plain_names s a OfFlag e = refl
plain_names s a OfSignature e = refl
plain_names s a OfIndex e = refl
plain_names s a OfConstant e = by (names_file a.pair.name) e where
  by : (b : Bool) → not b ≡ true → map_ok (found_in []) (if b then file_by (stmt_list s) s a else Ok (constant_value a)) ≡ Ok nothing_found
  by true e = absurd cc
  by false e = refl
plain_names s a _ e = absurd cc

plain_numbers : (k : Class) (name : ℕ) → is_plain k name ≡ true → numbers_as k name ≡ false
plain_numbers OfConstant name e = by (names_file name) e where
  by : (b : Bool) → not b ≡ true → b ≡ false
  by true e = absurd cc
  by false e = refl
plain_numbers _ name e = refl

passed_named : (s : MeaningContext ℕ) (a : RawAttr) → IsPassed a.pair → attr_named s a ≡ Ok nothing_found
unfolding meaning list_of_attr
passed_named s a e = by (a.pair.name == 0x01) (second_true (is_some (fixed_size a.pair.form)) _ e) where
  by : (b : Bool) → (b || is_plain (class_of a.pair.form) a.pair.name) ≡ true
      → (if b then Ok nothing_found else map_ok (found_in (list_of_attr s a)) (meaning s a)) ≡ Ok nothing_found
  by true e = refl
  by false e = plain_names s a (class_of a.pair.form) e

sibling_numbers : (k : Class) → numbers_as k 0x01 ≡ false
sibling_numbers OfConstant = refl
sibling_numbers _ = refl

passed_numbers : (a : RawAttr) → IsPassed a.pair → numbers_file a ≡ false
passed_numbers a e = by (eqb a.pair.name 0x01) refl (second_true (is_some (fixed_size a.pair.form)) _ e) where
  by : (b : Bool) → eqb a.pair.name 0x01 ≡ b → (b || is_plain (class_of a.pair.form) a.pair.name) ≡ true → numbers_file a ≡ false
  by true is e = ap (numbers_as (class_of a.pair.form)) (eqb-true a.pair.name 0x01 is) ∙ sibling_numbers (class_of a.pair.form)
  by false is e = plain_numbers (class_of a.pair.form) a.pair.name e

-- ---- a run of values

abbrev ArePassed : List RawAttr → Type 0
ArePassed attrs = Each (λ (a : RawAttr). IsPassed a.pair) attrs

nothing_collected : (s : MeaningContext ℕ) (attrs : List RawAttr) → ArePassed attrs → collect (attr_named s) attrs ≡ Ok nothing_found
unfolding collect
nothing_collected s [] h = refl
nothing_collected s (a ∷ attrs) h = (λ i. joined (passed_named s a h.0 i) (nothing_collected s attrs h.1 i))

none_numbered : (attrs : List RawAttr) → ArePassed attrs → list_any numbers_file attrs ≡ false
none_numbered [] h = refl
none_numbered (a ∷ attrs) h = (λ i. passed_numbers a h.0 i || none_numbered attrs h.1 i)

-- as many are named with the run behind as without it
pub still_collected : (s : MeaningContext ℕ) (attrs front between : List RawAttr) → attrs ≡ front ++ between → ArePassed between → collect (attr_named s) front ≡ collect (attr_named s) attrs
still_collected s attrs front between is h =
    sym
    (ap (collect (attr_named s)) is ∙ collect_append (attr_named s) front between ∙ ap (joined (collect (attr_named s) front)) (nothing_collected s between h)
    ∙ joined_none (collect (attr_named s) front))

pub still_numbered : (attrs front between : List RawAttr) → attrs ≡ front ++ between → ArePassed between → list_any numbers_file front ≡ list_any numbers_file attrs
still_numbered attrs front between is h =
    sym
    (ap (list_any numbers_file) is ∙ list_any-append numbers_file front between ∙ ap (λ (b : Bool). list_any numbers_file front || b) (none_numbered between h)
    ∙ or-false (list_any numbers_file front))

-- ---- in a loop over stops

abbrev pub none : Stop
none = record { skip = 0; number = 0 }

-- The value of a pair stands at a place, behind the values that were looked at or passed over, and those before it that are passed over
-- add nothing.
pub record StopThere (entry : ℕ) (pairs : List Pair) (now number : ℕ) (at : Input) (attrs : List RawAttr) : Type 0 where
  pub raw : Raw
  pub place : Input
  pub value : value_at written_rows (get_or pairs number no_pair) at ≡ Ok (raw, place)
  pub is : slice_get attrs number ≡ Some (value_between at place (get_or pairs number no_pair) raw)
  pub rest : Reads entry (drop (number + 1) pairs) place (drop (number + 1) attrs)
  pub named : (s : MeaningContext ℕ) → collect (attr_named s) (take now attrs) ≡ collect (attr_named s) (take number attrs)
  pub numbered : list_any numbers_file (take now attrs) ≡ list_any numbers_file (take number attrs)

-- all values behind a place add nothing
pub record AreAll (now : ℕ) (attrs : List RawAttr) : Type 0 where
  pub named : (s : MeaningContext ℕ) → collect (attr_named s) (take now attrs) ≡ collect (attr_named s) attrs
  pub numbered : list_any numbers_file (take now attrs) ≡ list_any numbers_file attrs

module _ (entry : ℕ) (pairs : List Pair) (stops : List Stop) (k now : ℕ) (at : Input) (attrs : List RawAttr) (among : now ≤ length pairs)
    (left : stops_from (drop now pairs) now 0 ≡ drop k stops) (reads : Reads entry (drop now pairs) at (drop now attrs)) where
  pub at_stop : k < length stops → NextStop entry pairs now at attrs (get_or stops k none) (drop (k + 1) stops)
  at_stop lt = next_stop entry pairs now at attrs (get_or stops k none) (drop (k + 1) stops) among (left ∙ drop_pairs stops k none lt) reads

  reads_there : (begins : Input) → k < length stops → begins ≡ past (get_or stops k none).skip at
      → Reads entry (drop (get_or stops k none).number pairs) begins (drop (get_or stops k none).number attrs)
  reads_there begins lt is =
      let number = (get_or stops k none).number in
      subst (λ (i : Input). Reads entry (drop number pairs) i (drop number attrs)) (sym is) (at_stop lt).reads

  pub stop_there : (begins : Input) → k < length stops → begins ≡ past (get_or stops k none).skip at
      → StopThere entry pairs now (get_or stops k none).number begins attrs
  stop_there begins lt is =
      let n = at_stop lt in
      let number = (get_or stops k none).number in
      let x = reads_next entry pairs number no_pair begins attrs n.below (reads_there begins lt is) in
      record {
        raw = x.raw;
        place = x.place;
        value = x.value;
        is = x.is;
        rest = x.rest;
        named = λ s. still_collected s (take number attrs) (take now attrs) n.between n.taken n.passed;
        numbered = still_numbered (take number attrs) (take now attrs) n.between n.taken n.passed;
      }

  pub value_there : (begins : Input) → k < length stops → begins ≡ past (get_or stops k none).skip at
      → IsOk (value_at written_rows (get_or pairs (get_or stops k none).number no_pair) begins)
  value_there begins lt is = subst IsOk (sym (stop_there begins lt is).value) refl

  pub all_read : length stops ≤ k → AreAll now attrs
  all_read le =
      let passed = no_stop entry pairs now at attrs (left ∙ drop_all k stops le) reads in
      let whole = sym (take-append-drop now attrs) in
      record {
        named = λ s. still_collected s attrs (take now attrs) (drop now attrs) whole passed;
        numbered = still_numbered attrs (take now attrs) (drop now attrs) whole passed;
      }
