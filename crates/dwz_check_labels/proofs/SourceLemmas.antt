-- The entries of a file and of the common one beside it, by their numbers in both.
use Rattle.std.proofs.Common.{◌≡◌, ℕ, ◌-◌, ◌<◌, ◌≤◌, List, [], ◌∷◌, length, Option, Some, None, slice_get, refl, sym, ap, subst, arith}
use Rattle.dwz_def_reading.specs.Documents.{DwUnit}
use Rattle.dwz_def_reading.specs.Meanings.{Around, all_places}
use Rattle.dwz_def_reading.specs.Units.{entries_in}
use Rattle.dwz_def_check.specs.CrossLabels.{name_label, names_into}
use Rattle.dwz_def_check.specs.CrossNames.{CrossName}
use Rattle.dwz_graph.specs.Places.{place_at}
use Rattle.dwz_graph.specs.Surroundings.{behind_own, entries_among}
use Rattle.dwz_graph.proofs.PlaceLemmas.{places_are, places_many}
use Rattle.dwz_graph.proofs.SurroundingLemmas.{own_place}
use Rattle.dwz_check_index.specs.Index.{Called, ShowNames, listed_units}
use Rattle.dwz_check_labels.specs.declared.named_file.NamedFile.{NamedFile}
use Rattle.dwz_check_labels.specs.declared.source.Source.{Source}
use Rattle.dwz_check_labels.specs.Files.{IsCommonReady, IsFileReady, IsReady, KnowsCommon, KnowsSource, Says, around_at, around_beside, common_of, place_of, raw_in, raw_of}
use Rattle.dwz_check_labels.specs.Told.{Tells}
use Rattle.dwz_check_labels.proofs.NameLemmas.{name_there}
use Rattle.dwz_check_labels.proofs.RefLemmas.{common_place}

-- what is told of an entry by its name
abbrev pub TellsName : CrossName → List ℕ → List ℕ → List ℕ → List ℕ → Type 0
TellsName x old new before after = Tells (name_label x) (names_into (x ∷ [])) old new before after

-- what the call answers that tells an entry of a file
abbrev pub NamesIn : NamedFile → ℕ → List ℕ → List ℕ → List ℕ → List ℕ → Type 0
NamesIn f i old new before after = (around : Around ℕ) (said : List (DwUnit ℕ)) (names : List Called) (name : Called) → Says f around said
    → ShowNames names (listed_units said) f.index.now.steps → slice_get names i ≡ Some name → TellsName name.1 old new before after

module _ (x : Source) (said : List (DwUnit ℕ)) (name : ℕ → CrossName) (k : KnowsSource x said name) (ready : IsReady x) (i : ℕ) (old new before after : List ℕ) where
  pub own_told : i < entries_in (raw_of x) → NamesIn x.own i old new before after → TellsName (name (place_at (raw_of x) i)) old new before after
  own_told lt h =
      let many = ready.own.steps in
      let n = name_there x.own (common_of x.common) said (λ n. n) name k.own i (omega (arith, many, lt)) in
      subst (λ (w : CrossName). TellsName w old new before after) n.is (h (around_at x) said _ n.called k.own.says k.own.index.names n.found)

  pub own_entry : i < entries_in (raw_of x) → NamesIn x.own i old new before after → TellsName (name (place_of x i)) old new before after
  own_entry lt h = subst (λ (p : ℕ). TellsName (name p) old new before after) (sym (own_place (common_of x.common) (raw_of x) i lt)) (own_told lt h)

  in_common : (o : Option NamedFile) (c : NamedFile) (own : ℕ) → o ≡ Some c → own ≡ entries_in (raw_of x) → own ≤ i → i < entries_among (common_of o) (raw_of x) → IsCommonReady o → KnowsCommon o name
      → NamesIn c (i - own) old new before after → TellsName (name (place_of (record x { common = o }) i)) old new before after
  in_common None c own is at le lt good kn h = absurd cc
  in_common (Some d) c own is at le lt good kn h =
      let same : d ≡ c = cc in
      let many = good.steps in
      let all = ap (λ (w : List ℕ). length w) (places_are (raw_in d)) in
      let long = places_many (raw_in d) in
      let low : i - own < length d.index.now.steps = omega (arith, many, all, long, lt, at, le) in
      let n = name_there d None kn.0 behind_own name kn.1 (i - own) low in
      let told = subst (λ (w : NamedFile). NamesIn w (i - own) old new before after) (sym same) h in
      let one = subst (λ (w : CrossName). TellsName w old new before after) n.is (told (around_beside d None) kn.0 _ n.called kn.1.says kn.1.index.names n.found) in
      subst (λ (p : ℕ). TellsName (name p) old new before after)
      (sym (common_place (record { entries = all_places (raw_in d); place = behind_own; strs = d.sections.now.strs.bytes.now }) (raw_of x) (raw_in d) i own at le refl)) one

  pub common_entry : (c : NamedFile) (own : ℕ) → x.common ≡ Some c → own ≡ entries_in (raw_of x) → own ≤ i → i < entries_among (common_of x.common) (raw_of x)
      → NamesIn c (i - own) old new before after → TellsName (name (place_of x i)) old new before after
  common_entry c own is at le lt h = in_common x.common c own is at le lt ready.common k.common h

-- ---- before the call

pub common_ready : (o : Option NamedFile) (c : NamedFile) → o ≡ Some c → IsCommonReady o → IsFileReady c
common_ready None c is h = absurd cc
common_ready (Some d) c is h = let same : d ≡ c = cc in subst IsFileReady same h

pub common_low : (x : Source) (o : Option NamedFile) (c : NamedFile) (i own : ℕ) → o ≡ Some c → own ≡ entries_in (raw_of x) → own ≤ i → i < entries_among (common_of o) (raw_of x)
    → i - own < entries_in (raw_in c)
common_low x None c i own is at le lt = absurd cc
common_low x (Some d) c i own is at le lt =
    let same : d ≡ c = cc in
    let all = ap (λ (w : List ℕ). length w) (places_are (raw_in d)) in
    let long = places_many (raw_in d) in
    subst (λ (w : NamedFile). i - own < entries_in (raw_in w)) same (omega (arith, all, long, lt, at, le))

pub none_common : (x : Source) (o : Option NamedFile) (i own : ℕ) → o ≡ None → own ≡ entries_in (raw_of x) → own ≤ i → i < entries_among (common_of o) (raw_of x) → ⊥
none_common x None i own is at le lt = omega (arith, lt, at, le)
none_common x (Some d) i own is at le lt = absurd cc
