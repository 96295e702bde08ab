-- What numbers stand for: places of a file, and of a common one. They are told apart.
use Rattle.std.proofs.Common.{◌≡◌, ℕ, ◌+◌, ◌-◌, ◌^◌, ◌<◌, Bool, true, false, cond, ltb, List, map, Some, None, Ok, refl, sym, ap, ◌∙◌, arith}
use Rattle.std.proofs.lemmas.Bool.{ltb-true, ltb-false}
use Rattle.dwz_def_reading.specs.Lists.{Each, In}
use Rattle.dwz_def_reading.specs.Documents.{Doc, DwUnit, unit_map}
use Rattle.dwz_def_reading.specs.Faults.{map_ok}
use Rattle.dwz_def_reading.specs.Files.{Limits, debug_abbrev, debug_info, file_meaning_by, longest_file, sources_of}
use Rattle.dwz_def_reading.specs.Finished.{around_in}
use Rattle.dwz_def_reading.specs.Meanings.{Around, Common, all_places}
use Rattle.dwz_def_reading.specs.Meant.{units_meaning}
use Rattle.dwz_def_reading.specs.OtherPlaces.{AreMapped, LiesBelow, numbered, place_in, place_numbered}
use Rattle.dwz_def_reading.specs.Places.{Place, at_file}
use Rattle.dwz_def_reading.specs.Rules.{ReadingRule}
use Rattle.dwz_def_reading.specs.Units.{RawUnit}
use Rattle.dwz_def_reading.proofs.FileLemmas.{file_agrees_by}
use Rattle.dwz_def_reading.proofs.MeaningUnits.{units_agree}
use Rattle.dwz_def_reading.proofs.PlacesMapped.{units_mapped}
use Rattle.dwz_def_reading.proofs.PlacesRise.{entries_below, units_below}
use Rattle.dwz_graph.specs.Surroundings.{behind_own}
use Rattle.dwz_graph.proofs.IndexRoom.{info_within}
use Rattle.dwz_law_check.specs.MappedRows.{TellsApart}

-- ---- places by numbers

pub own_apart : (k : ℕ) → TellsApart (at_file k)
own_apart k p q e = ap (λ (w : Place). w.at) e

both_apart : (bound k m p q : ℕ) → (k ≡ m → ⊥) → (b c : Bool) → ltb p bound ≡ b → ltb q bound ≡ c
    → cond b (at_file k p) (at_file m (p - bound)) ≡ cond c (at_file k q) (at_file m (q - bound)) → p ≡ q
both_apart bound k m p q other true true x y e = ap (λ (w : Place). w.at) e
both_apart bound k m p q other true false x y e = absurd (other (ap (λ (w : Place). w.file) e))
both_apart bound k m p q other false true x y e = absurd (other (sym (ap (λ (w : Place). w.file) e)))
both_apart bound k m p q other false false x y e =
    let same : p - bound ≡ q - bound = ap (λ (w : Place). w.at) e in
    let first = ltb-false p bound x in
    let second = ltb-false q bound y in
    omega (arith, same, first, second)

-- places of one file, and those of another with numbers from the bound on
pub numbers_apart : (bound k m : ℕ) (a : Around Place) (c : Common Place) → (k ≡ m → ⊥) → a.place ≡ at_file k → a.common ≡ Some c → c.place ≡ at_file m
    → TellsApart (place_numbered bound a)
numbers_apart bound k m a c other own common place p q e =
    let of_common : place_in a.place a.common ≡ at_file m = ap (place_in a.place) common ∙ place in
    let at : (n : ℕ) → place_numbered bound a n ≡ cond (ltb n bound) (at_file k n) (at_file m (n - bound)) =
    λ n. λ i. cond (ltb n bound) (own i n) (of_common i (n - bound)) in
    both_apart bound k m p q other (ltb p bound) (ltb q bound) refl refl (sym (at p) ∙ e ∙ at q)

pub number_behind : (bound : ℕ) (a : Around Place) (n : ℕ) → place_numbered bound a (bound + n) ≡ place_in a.place a.common n
number_behind bound a n = by (ltb (bound + n) bound) refl where
  by : (b : Bool) → ltb (bound + n) bound ≡ b → cond b (a.place (bound + n)) (place_in a.place a.common (bound + n - bound)) ≡ place_in a.place a.common n
  by true e = absurd (let lt = ltb-true (bound + n) bound e in omega (arith, lt))
  by false e = let same : bound + n - bound ≡ n = omega arith in ap (place_in a.place a.common) same

-- ---- what was read

pub means_of : {P : Type 0} (rule : ReadingRule P) (l : Limits) (bytes : List ℕ) (raw : List RawUnit) (doc : Doc P) → file_meaning_by rule l bytes ≡ Ok (raw, doc)
    → units_meaning (rule.around bytes raw) raw ≡ Ok doc.units
means_of rule l bytes raw doc e = ((units_agree (rule.around bytes raw) raw).ok doc.units).1 (((file_agrees_by rule l bytes).ok (raw, doc)).0 e).means

pub lie_below : {P : Type 0} (rule : ReadingRule P) (l : Limits) (bytes : List ℕ) (raw : List RawUnit) (doc : Doc P) → file_meaning_by rule l bytes ≡ Ok (raw, doc)
    → Each (LiesBelow (2 ^ 32)) raw
unfolding longest_file
lie_below rule l bytes raw doc e =
    let r = ((file_agrees_by rule l bytes).ok (raw, doc)).0 e in
    let within = info_within bytes in
    let size = r.size.file in
    units_below (debug_abbrev bytes) (rule.mode l.entries) 0 raw 0 (debug_info bytes) (2 ^ 32) r.spelled (omega arith)

-- what a file says is the same where other things stand for its places, with these
placed_units : {P Q : Type 0} (f : P → Q) (a : Around P) (b : Around Q) → AreMapped f (2 ^ 32) a b → (raw : List RawUnit) → Each (LiesBelow (2 ^ 32)) raw → (units : List (DwUnit P)) (said : List (DwUnit Q))
    → units_meaning a raw ≡ Ok units → units_meaning b raw ≡ Ok said → map (unit_map f) units ≡ said
placed_units f a b mapped raw lie units said means placed =
    let all : Ok (map (unit_map f) units) ≡ Ok said = sym (ap (map_ok (map (unit_map f))) means) ∙ sym (units_mapped f (2 ^ 32) a b mapped raw lie) ∙ placed in
    cc

module _ (number : ℕ) (bytes : List ℕ) (raw : List RawUnit) (a : List (DwUnit ℕ)) (said : List (DwUnit Place)) (lie : Each (LiesBelow (2 ^ 32)) raw)
    (means : units_meaning (numbered (2 ^ 32) (around_in None number bytes raw)) raw ≡ Ok a) (placed : units_meaning (around_in None number bytes raw) raw ≡ Ok said) where
  below : (n : ℕ) → In n (all_places raw) → n < 2 ^ 32
  below = λ n there. entries_below (2 ^ 32) raw lie n there

  -- a file without a common one says with places what it says in numbers
  pub alone_units : map (unit_map (at_file number)) a ≡ said
  alone_units =
      placed_units (at_file number) (numbered (2 ^ 32) (around_in None number bytes raw)) (around_in None number bytes raw)
      (record { sources = refl; all = refl; below = below; place = λ n lt. refl; common = tt }) raw lie a said means placed

  -- and so does one whose places have the numbers behind those of another file
  pub behind_units : (f : ℕ → Place) → ((n : ℕ) → f (behind_own n) ≡ at_file number n) → map (unit_map f) (map (unit_map behind_own) a) ≡ said
  behind_units f same =
      let behind : Around ℕ = record { sources = sources_of bytes; all = all_places raw; place = behind_own; common = None } in
      let says : units_meaning behind raw ≡ Ok (map (unit_map behind_own) a) =
      units_mapped behind_own (2 ^ 32) (numbered (2 ^ 32) (around_in None number bytes raw)) behind
      (record { sources = refl; all = refl; below = below; place = λ n lt. refl; common = tt }) raw lie
      ∙ ap (map_ok (map (unit_map behind_own))) means in
      placed_units f behind (around_in None number bytes raw) (record { sources = refl; all = refl; below = below; place = λ n lt. sym (same n); common = tt }) raw lie (map (unit_map behind_own) a)
      said says placed
