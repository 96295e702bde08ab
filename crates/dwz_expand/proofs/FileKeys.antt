-- In which file the entries stand for whose places numbers stand.
use Rattle.std.proofs.Common.{◌≡◌, ℕ, List, [], ◌∷◌, ◌++◌, map, refl, sym, ap, subst, ◌∙◌}
use Rattle.std.proofs.lemmas.List.{map-append}
use Rattle.dwz_model.specs.Lists.{Each, In}
use Rattle.dwz_model.proofs.ListFacts.{in_map}
use Rattle.dwz_model.proofs.Members.{each_of, in_map_from}
use Rattle.dwz_def_reading.specs.Documents.{Doc, DwUnit, unit_map}
use Rattle.dwz_def_reading.specs.Files.{Limits, ReadsBy}
use Rattle.dwz_def_reading.specs.Places.{Place, at_file}
use Rattle.dwz_def_reading.specs.Rules.{ReadingRule}
use Rattle.dwz_def_reading.specs.Units.{RawUnit}
use Rattle.dwz_def_reading.proofs.PlacesRise.{all_raw_keys}
use Rattle.dwz_def_tops.specs.Shown.{unit_keys, units_keys}
use Rattle.dwz_def_tops.proofs.MainLemmas.{keys_map}
use Rattle.dwz_def_check.proofs.ReadRefs.{means_keys}

keys_mapped : {P Q : Type 0} (f : P → Q) (units : List (DwUnit P)) → units_keys (map (unit_map f) units) ≡ map f (units_keys units)
unfolding units_keys unit_keys
keys_mapped f [] = refl
keys_mapped {P} {Q} f (u ∷ units) =
    ap (λ (w : List Q). (f u.at ∷ f u.root.at ∷ w) ++ units_keys (map (unit_map f) units)) (keys_map f u.below)
    ∙ ap (λ (w : List Q). map f (unit_keys u) ++ w) (keys_mapped f units)
    ∙ sym (map-append f (unit_keys u) (units_keys units))

-- all of a file that was read in the file with that number
pub keys_in : (rule : ReadingRule Place) (number : ℕ) (l : Limits) (bytes : List ℕ) (raw : List RawUnit) (doc : Doc Place) → (rule.around bytes raw).place ≡ at_file number
    → ReadsBy rule l bytes raw doc → (f : ℕ → Place) (units : List (DwUnit ℕ)) → map (unit_map f) units ≡ doc.units → Each (λ p. (f p).file ≡ number) (units_keys units)
keys_in rule number l bytes raw doc place reads f units says =
    let are : map f (units_keys units) ≡ map (at_file number) (all_raw_keys raw) =
    sym (keys_mapped f units) ∙ ap units_keys says ∙ means_keys (rule.around bytes raw) raw doc.units reads.means ∙ ap (λ (g : ℕ → Place). map g (all_raw_keys raw)) place in
    each_of (λ p. (f p).file ≡ number) (units_keys units)
    (λ p is. (let o = in_map_from (at_file number) (f p) (all_raw_keys raw) (subst (λ (w : List Place). In (f p) w) are (in_map f p (units_keys units) is)) in
    sym (ap (λ (q : Place). q.file) o.is)))
