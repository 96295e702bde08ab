-- Forms are chosen by the same where other things stand for places.
use Rattle.std.proofs.Common.{◌≡◌, ℕ, zero, suc, Bool, true, false, List, [], ◌∷◌, map, Option, Some, None, if◌then◌else◌, slice_get, refl, ap, ◌∙◌}
use Rattle.std.specs.Option.{option_map}
use Rattle.dwz_def_reading.specs.Documents.{Compile, DwUnit, Kind, OfType, Partial, kind_map, unit_map}
use Rattle.dwz_def_reading.specs.FirstOf.{◌or◌}
use Rattle.dwz_def_reading.specs.Meanings.{Sources}
use Rattle.dwz_def_tops.proofs.MainLemmas.{keys_map}
use Rattle.dwz_def_encoding.specs.Bases.{Bases}
use Rattle.dwz_def_encoding.specs.Meant.{entry_keys}
use Rattle.dwz_def_encoding.specs.Placing.{has_key, holder_of}
use Rattle.dwz_def_readback.proofs.OriginLemmas.{bases_mapped}
use Rattle.dwz_def_cross.specs.Tops.{WithCommon, whole_units}
use Rattle.dwz_def_expand.specs.Chosen.{choice, paths_at, paths_of_unit, role_in, slots_of_unit, unit_with_entry}
use Rattle.dwz_expand_passes.specs.Renamed.{SameChoice, renamed}
use Rattle.dwz_expand_passes.proofs.SourceMaps.{whole_mapped}

module _ {P Q : Type 0} (f : P → Q) (same : P → P → Bool) (other : Q → Q → Bool) (alike : (p q : P) → other (f p) (f q) ≡ same p q) where
  has_mapped : (p : P) (ks : List P) → has_key other (f p) (map f ks) ≡ has_key same p ks
  unfolding has_key
  has_mapped p [] = refl
  has_mapped p (k ∷ ks) = (λ i. elim (alike k p i) as (λ _. Bool) [ true ↦ true | false ↦ has_mapped p ks i ])

  key_mapped : (p : P) (u : DwUnit P) → has_key other (f p) (entry_keys (unit_map f u)) ≡ has_key same p (entry_keys u)
  key_mapped p u = (λ i. has_key other (f p) (f u.root.at ∷ keys_map f u.below i)) ∙ has_mapped p (entry_keys u)

  one_mapped : (b : Bool) (u : DwUnit P) (rest : Option (DwUnit P))
      → ((if b then Some (unit_map f u) else None) or option_map (unit_map f) rest) ≡ option_map (unit_map f) ((if b then Some u else None) or rest)
  one_mapped true u rest = refl
  one_mapped false u rest = refl

  unit_mapped : (units : List (DwUnit P)) (p : P) → unit_with_entry other (map (unit_map f) units) (f p) ≡ option_map (unit_map f) (unit_with_entry same units p)
  unit_mapped [] p = refl
  unit_mapped (u ∷ units) p =
      (λ i. (if key_mapped p u i then Some (unit_map f u) else None) or unit_mapped units p i) ∙ one_mapped (has_key same p (entry_keys u)) u (unit_with_entry same units p)

  holder_mapped : (k : Kind P) → holder_of false (kind_map f k) ≡ holder_of false k
  holder_mapped Compile = refl
  holder_mapped (OfType s t) = refl
  holder_mapped Partial = refl

  role_mapped : (o : Option (DwUnit P)) → role_in (option_map (unit_map f) o) ≡ role_in o
  role_mapped None = refl
  role_mapped (Some u) = holder_mapped u.kind

  slots_mapped : (o : Option (DwUnit P)) → slots_of_unit (option_map (unit_map f) o) ≡ slots_of_unit o
  slots_mapped None = refl
  slots_mapped (Some u) = ap (λ (b : Bases). b.slots) (bases_mapped f u)

  paths_mapped : (s : Sources) (o : Option (DwUnit P)) → paths_of_unit s (option_map (unit_map f) o) ≡ paths_of_unit s o
  paths_mapped s None = refl
  paths_mapped s (Some u) = ap (λ (b : Bases). paths_at s b.line) (bases_mapped f u)

  got_mapped : (units : List (DwUnit P)) (n : ℕ) → slice_get (map (unit_map f) units) n ≡ option_map (unit_map f) (slice_get units n)
  got_mapped [] n = refl
  got_mapped (u ∷ units) zero = refl
  got_mapped (u ∷ units) (suc n) = got_mapped units n

  pub choice_mapped : (w : WithCommon P) (s : Sources) → SameChoice f (choice same w s) (choice other (renamed f w) s)
  choice_mapped w s = record {
    role = λ p. ap role_in (unit_mapped w.own p) ∙ role_mapped (unit_with_entry same w.own p);
    slots = λ p. ap slots_of_unit (unit_mapped w.own p) ∙ slots_mapped (unit_with_entry same w.own p);
    offsets = refl;
    paths = λ n.
        ap (λ (us : List (DwUnit Q)). paths_of_unit s (slice_get us n)) (whole_mapped f same other alike w.own)
        ∙ ap (paths_of_unit s) (got_mapped (whole_units w.own) n) ∙ paths_mapped s (slice_get (whole_units w.own) n);
  }
