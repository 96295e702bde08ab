-- A file that reads beside its common file: no place stands twice, so without its partial units it is whole.
use Rattle.std.proofs.Common.{◌≡◌, ℕ, ◌+◌, List, [], ◌∷◌, ◌++◌, ◌==◌, length, map, Option, Some, None, refl, sym, ap, subst, ◌∙◌, arith}
use Rattle.std.proofs.lemmas.Bool.{and_parts, eq-eqb, eqb-true}
use Rattle.std.proofs.lemmas.List.{map-append}
use Rattle.dwz_def_reading.specs.Lists.{In, NoneTwice}
use Rattle.dwz_def_reading.specs.Refusal.{Refusal}
use Rattle.dwz_def_reading.proofs.Members.{in_map_from}
use Rattle.dwz_def_reading.proofs.OnceLemmas.{none_append, none_map}
use Rattle.dwz_def_reading.specs.Documents.{Doc, DwUnit}
use Rattle.dwz_def_reading.specs.Files.{Limits, ReadsBy, debug_abbrev, debug_info}
use Rattle.dwz_def_reading.specs.Meanings.{Around, MeanUnits, places_in, scope_of}
use Rattle.dwz_def_reading.specs.Places.{Place, at_file}
use Rattle.dwz_def_reading.specs.Rules.{ReadingRule}
use Rattle.dwz_def_reading.specs.Units.{RawUnit}
use Rattle.dwz_def_reading.proofs.PlacesRise.{all_raw_keys, rise_none, units_rise}
use Rattle.dwz_def_tops.specs.Shown.{keys, unit_keys, units_keys}
use Rattle.dwz_def_expand.specs.ExpandLaws.{IsTest, IsWhole}
use Rattle.dwz_def_expand.specs.OneFile.{CommonReads, FileRead, OneFile, ReadsOne, rule_for, said_by_file, same_place, units_read}
use Rattle.dwz_def_expand.specs.Output.{ExpandRefusal, forms}
use Rattle.dwz_def_expand.proofs.ChosenLemmas.{expanded_kinds}
use Rattle.dwz_def_expand.proofs.RefusalLemmas.{all_copied}
use Rattle.dwz_def_expand.proofs.WholeLemmas.{names_apart, names_closed}
use Rattle.dwz_def_tops.proofs.UnitKeys.{keys_joined}
use Rattle.dwz_def_encoding.proofs.ReadAgain.{keys_read}

-- ---- a test of places

pub same_both : (p q : Place) → p.file ≡ q.file → p.at ≡ q.at → p ≡ q
same_both p q a b = ap (λ (n : ℕ). record { file = n; at = p.at }) a ∙ ap (λ (n : ℕ). record { file = q.file; at = n }) b

pub test : IsTest same_place
test = record {
  yes = λ p q h. (let o = and_parts (p.file == q.file) (p.at == q.at) h in same_both p q (eqb-true p.file q.file o.0) (eqb-true p.at q.at o.1));
  no = λ p. rw (eq-eqb p.file p.file refl, eq-eqb p.at p.at refl) refl;
}

-- ---- the places of what is read

pub means_keys : {P : Type 0} (around : Around P) (raw : List RawUnit) (units : List (DwUnit P)) → MeanUnits around raw units → units_keys units ≡ map around.place (all_raw_keys raw)
unfolding unit_keys units_keys all_raw_keys
means_keys around [] [] h = refl
means_keys {P} around (u ∷ raw) (v ∷ units) h =
    let below = keys_read (scope_of around u) u.below v.below h.0.below in
    ap (λ (w : P). w ∷ v.root.at ∷ (keys v.below ++ units_keys units)) h.0.place
    ∙ ap (λ (w : P). around.place u.at ∷ w ∷ (keys v.below ++ units_keys units)) h.0.root.place
    ∙ ap (λ (w : List P). around.place u.at ∷ around.place u.root.at ∷ w)
    (ap (λ (w : List P). w ++ units_keys units) below ∙ ap (λ (w : List P). map around.place (places_in u.below) ++ w) (means_keys around raw units h.1)
    ∙ sym (map-append around.place (places_in u.below) (all_raw_keys raw)))
means_keys around [] (v ∷ units) h = absurd h
means_keys around (u ∷ raw) [] h = absurd h

-- in a file that reads, whose places stand for its number
pub record KeysOf (number : ℕ) (units : List (DwUnit Place)) : Type 0 where
  pub once : NoneTwice (units_keys units)
  pub file : (p : Place) → In p (units_keys units) → p.file ≡ number

pub read_keys : (rule : ReadingRule Place) (number : ℕ) (l : Limits) (bytes : List ℕ) (raw : List RawUnit) (doc : Doc Place) → (rule.around bytes raw).place ≡ at_file number → ReadsBy rule l bytes raw doc
    → KeysOf number doc.units
read_keys rule number l bytes raw doc place reads =
    let are : units_keys doc.units ≡ map (at_file number) (all_raw_keys raw) =
    means_keys (rule.around bytes raw) raw doc.units reads.means ∙ ap (λ (g : ℕ → Place). map g (all_raw_keys raw)) place in
    let rise = units_rise (debug_abbrev bytes) (rule.mode l.entries) 0 raw 0 (debug_info bytes) reads.spelled in
    record {
      once = subst NoneTwice (sym are)
          (none_map (at_file number) (λ a b e. ap (λ (p : Place). p.at) e) (all_raw_keys raw) (rise_none 0 (all_raw_keys raw) (0 + length (debug_info bytes)) rise));
      file = λ p is. (let o = in_map_from (at_file number) p (all_raw_keys raw) (subst (λ (w : List Place). In p w) are is) in sym (ap (λ (q : Place). q.file) o.is));
    }

pub own_place : (common : Option FileRead) (file : FileRead) → ((rule_for (record { file = file; common = common }) 0).around file.bytes file.raw).place ≡ at_file 0
own_place None file = refl
own_place (Some c) file = refl

pub common_keys : (common : Option FileRead) → CommonReads common → KeysOf 1 (units_read common)
unfolding units_keys
common_keys None h = record { once = tt; file = λ p is. absurd is }
common_keys (Some c) h = read_keys _ 1 _ c.bytes c.raw c.doc refl h

pub places_apart : (f : OneFile) → ReadsOne f → NoneTwice (units_keys (f.file.doc.units ++ units_read f.common))
places_apart f reads =
    let own = read_keys (rule_for f 0) 0 _ f.file.bytes f.file.raw f.file.doc (own_place f.common f.file) reads.file in
    let other = common_keys f.common reads.common in
    subst NoneTwice (sym (keys_joined f.file.doc.units (units_read f.common)))
    (none_append (units_keys f.file.doc.units) (units_keys (units_read f.common)) own.once other.once
    (λ p a b. (let zero = own.file p a in let one = other.file p b in omega arith)))

pub file_whole : (f : OneFile) → ReadsOne f → ((q : Refusal) → ¬ ExpandRefusal f q) → IsWhole same_place (said_by_file f)
file_whole f reads free = record {
  apart = names_apart same_place test (said_by_file f) (places_apart f reads);
  kinds = expanded_kinds same_place (said_by_file f);
  closed = names_closed same_place test (said_by_file f) (places_apart f reads) (forms f) (all_copied f free);
}
