-- The one file of a graph, and its common file: with places, and where numbers stand for these.
use Rattle.std.proofs.Common.{◌≡◌, ℕ, ◌+◌, ◌-◌, ◌^◌, ◌<◌, ◌≤◌, nat_lt, false, true, List, [], ◌∷◌, ◌++◌, get_or, length, map, Option, Some, None, Ok, refl, sym, ap, subst, ◌∙◌, arith, inl}
use Rattle.std.proofs.lemmas.Bool.{cond-true, lt-ltb}
use Rattle.std.proofs.lemmas.List.{length-append, length-map}
use Rattle.dwz_model.specs.Lists.{Each, NoneTwice}
use Rattle.dwz_def_reading.specs.Documents.{Doc, DwUnit, entries_map, node_map, unit_map}
use Rattle.dwz_def_reading.specs.Files.{Limits, ReadsBy, file_meaning_by, limits_after, no_files_before, sources_of}
use Rattle.dwz_def_reading.specs.Finished.{GivenCommon, around_in, common_read, given_by, rule_of_back, rule_of_common}
use Rattle.dwz_def_reading.specs.Meanings.{Around, Sources, all_places}
use Rattle.dwz_def_reading.specs.OtherPlaces.{LiesBelow, place_in, place_numbered}
use Rattle.dwz_def_reading.specs.Places.{Place, at_file}
use Rattle.dwz_def_reading.specs.Rules.{ReadingRule}
use Rattle.dwz_def_reading.specs.Units.{RawUnit, entries_in}
use Rattle.dwz_def_reading.proofs.FileLemmas.{file_agrees_by}
use Rattle.dwz_def_tops.specs.Shown.{units_keys}
use Rattle.dwz_def_cross.specs.Tops.{WithCommon, units_with_common}
use Rattle.dwz_def_check.specs.CrossNames.{IsWellRead}
use Rattle.dwz_def_check.proofs.ReadSides.{well_read}
use Rattle.dwz_def_expand.specs.Chosen.{choice}
use Rattle.dwz_def_expand.specs.OneFile.{OneFile, ReadsOne, said_by_file, same_place}
use Rattle.dwz_def_expand.specs.Output.{forms}
use Rattle.dwz_def_expand.proofs.FileLemmas.{test}
use Rattle.dwz_unit.specs.declared.mode.FileKind.{FileKind}
use Rattle.dwz_unit.specs.declared.mode.FileKind.TheVariants.{Back, Common as Shared}
use Rattle.dwz_unit.specs.Rows.{units_of}
use Rattle.dwz_graph.specs.declared.file.File.{File}
use Rattle.dwz_graph.specs.ByRule.{AreReadAs, IsReadBy, doc_placed, numbered_rule}
use Rattle.dwz_graph.specs.Files.{AreBack, AreReadFromBy, HasCommon}
use Rattle.dwz_graph.specs.Surroundings.{behind_own, sources_view}
use Rattle.dwz_graph.proofs.PlaceLemmas.{places_are, places_many}
use Rattle.dwz_law_check.proofs.Placed.{ArePlaced, one_meaning}
use Rattle.dwz_law_check.proofs.Numbered.{alone_units, behind_units, lie_below, means_of, number_behind, numbers_apart, own_apart}
use Rattle.dwz_law_check.proofs.WellRead.{well_read_back}
use Rattle.dwz_expand_sources.specs.Index.{ListedEntry, listed_units}
use Rattle.dwz_check_labels.specs.FilesSaid.{around_given}
use Rattle.dwz_expand_sources.specs.Imports.{same}
use Rattle.dwz_expand_sources.proofs.ForLemmas.{tests}
use Rattle.dwz_expand_passes.specs.declared.files.SourceFile.{SourceFile}
use Rattle.dwz_expand_passes.specs.Files.{around_beside, common_of, raw_in}
use Rattle.dwz_expand_passes.proofs.PlacesSaid.{said_many, units_joined, units_mapped, units_mean}
use Rattle.dwz_expand.specs.Refused.{StandForPlaces}
use Rattle.dwz_expand_passes.specs.Renamed.{SameChoice, renamed}
use Rattle.dwz_expand_passes.proofs.RenamedLemmas.{tests_agree}
use Rattle.dwz_expand.specs.OneKnown.{IsCommonOf, IsOneKnown, IsSourceOf, OneKnownLaw, stands_of, strs_beside}
use Rattle.dwz_expand.proofs.ChoiceMapped.{choice_mapped}
use Rattle.dwz_expand.proofs.FileKept.{KeptSays, KeptStand, kept_in, kept_of, kept_says, source_knows, source_ready, source_says, source_stands}
use Rattle.dwz_expand.proofs.CopyBounds.{units_few}
use Rattle.dwz_expand_sources.specs.Sources.{all_entries}
use Rattle.dwz_expand.proofs.FileKeys.{keys_in}
use Rattle.dwz_expand.proofs.PlanLemmas.{has_units, mean_many, none_mean, none_place, some_place}
use Rattle.dwz_expand.proofs.ValuesStand.{values_stand}

reads : {P : Type 0} (rule : ReadingRule P) (l : Limits) (bytes : List ℕ) (raw : List RawUnit) (doc : Doc P) → file_meaning_by rule l bytes ≡ Ok (raw, doc) → ReadsBy rule l bytes raw doc
reads rule l bytes raw doc e = ((file_agrees_by rule l bytes).ok (raw, doc)).0 e

-- ---- numbers stand for places

module _ (f : OneFile) (w : WithCommon ℕ) (place : ℕ → Place) (said : said_by_file f ≡ renamed place w) (apart : (p q : ℕ) → place p ≡ place q → p ≡ q)
    (s : Sources) (s_is : s ≡ sources_of f.file.bytes) where
  alike : (p q : ℕ) → same_place (place p) (place q) ≡ same p q
  alike = tests_agree place same same_place tests test apart

  same_choice : SameChoice place (choice same w s) (forms f)
  same_choice =
      subst (λ (v : WithCommon Place). SameChoice place (choice same w s) (choice same_place v (sources_of f.file.bytes))) (sym said)
      (subst (λ (t : Sources). SameChoice place (choice same w s) (choice same_place (renamed place w) t)) s_is (choice_mapped place same same_place alike w s))

  numbers_stand : StandForPlaces f place same (choice same w s) (stands_of f place) w
  numbers_stand = record { said = said; alike = alike; choice = same_choice; stand = record { value = λ p index. refl; named = λ p index number. refl } }

  once : IsWellRead (said_by_file f) → NoneTwice (units_keys (units_with_common w))
  once well = (well_read_back place apart w (subst (λ (v : WithCommon Place). IsWellRead v) said well)).apart

-- ---- entries

listed_many : (own common : List (DwUnit ℕ)) (n m : ℕ) → length (listed_units own) ≡ n → length (listed_units common) ≡ m → length (listed_units (own ++ common)) ≡ n + m
listed_many own common n m first second =
    let all = ap (λ (ds : List (ListedEntry ℕ)). length ds) (units_joined own common) in
    omega (arith, all, first, second, length-append (listed_units own) (listed_units common))

behind_many : (units : List (DwUnit ℕ)) (n : ℕ) → length (listed_units units) ≡ n → length (listed_units (map (unit_map behind_own) units)) ≡ n
behind_many units n many =
    let one : ListedEntry ℕ → ListedEntry ℕ = λ (x : ListedEntry ℕ). (node_map behind_own x.0, entries_map behind_own x.1) in
    ap (λ (ds : List (ListedEntry ℕ)). length ds) (units_mapped behind_own units) ∙ length-map (listed_units units) one ∙ many

all_many : (raw : List RawUnit) → length (all_places raw) ≡ entries_in raw
all_many raw = sym (ap (λ (ps : List ℕ). length ps) (places_are raw)) ∙ places_many raw

no_keys : (P : ℕ → Type 0) → Each P (units_keys {K = ℕ} [])
unfolding units_keys
no_keys P = tt

none_few : entries_in [] ≤ 2 ^ 28
unfolding entries_in
none_few = omega arith

none_many : length (listed_units {P = ℕ} []) ≡ 0
unfolding listed_units
none_many = refl

-- ---- without a common file

module _ (placed : ArePlaced) (given : List (List ℕ)) (first : List ℕ) (own : File) (k : FileKind) (is : IsReadBy (numbered_rule (rule_of_back None 0)) k no_files_before 0 first own) (so : SourceFile)
    (src : IsSourceOf own [] so) where
  alone_known : IsOneKnown (record { common = None; given = given; back = first ∷ [] }) own None (record { own = so; common = None })
  alone_known =
      let rule = rule_of_back None 0 in
      let raw = units_of own.units in
      let a = is.doc in
      let x = doc_placed rule first raw a in
      let x_means = placed.back None 0 no_files_before first raw a is.means in
      let x_reads : ReadsBy rule no_files_before first raw x = reads rule no_files_before first raw x x_means in
      let f : OneFile = record { file = record { bytes = first; raw = raw; doc = x }; common = None } in
      let f_reads : ReadsOne f = record { common = tt; file = x_reads } in
      let w : WithCommon ℕ = record { own = a.units; common = [] } in
      let lie : Each (LiesBelow (2 ^ 32)) raw = lie_below rule no_files_before first raw x x_means in
      let says : map (unit_map (at_file 0)) a.units ≡ x.units =
      alone_units 0 first raw a.units x.units lie (means_of (numbered_rule rule) no_files_before first raw a is.means) (means_of rule no_files_before first raw x x_means) in
      let said : said_by_file f ≡ renamed (at_file 0) w = λ i. record { own = sym says i; common = [] } in
      let sources : sources_view so.sections.now ≡ sources_of first = ap (λ z. sources_view z) src.sections ∙ is.sections in
      let well : IsWellRead (said_by_file f) = well_read None (first ∷ []) (record { common = None; docs = x ∷ [] }) (refl, (raw, x_reads, tt)) x (inl refl) in
      let here : (numbered_rule rule).around first raw ≡ around_given own None = λ i. record { sources = sym is.sections i; all = all_places raw; place = λ n. n; common = None } in
      let kept : KeptSays (kept_of own None) a.units = kept_says (numbered_rule rule) k no_files_before 0 first own is None here in
      let mine : KeptSays (kept_in so None) a.units = source_says own [] so src None a.units kept in
      let stand : KeptStand (kept_of own None) (λ n. n) (stands_of f (at_file 0)) = values_stand f f_reads 0 (kept_of own None) refl is.sections refl lie (at_file 0) (λ n. n) (λ n lt. refl) in
      let few = mine.few in
      let units_many : length a.units ≡ length (raw_in so) = mean_many (around_beside so None) (raw_in so) a.units (units_mean (around_beside so None) (raw_in so) a.units mine.means) in
      let own_many = said_many (around_beside so None) (raw_in so) a.units mine.means in
      let all_entries_many : length (all_entries w) ≡ entries_in (raw_in so) + 0 = listed_many a.units [] (entries_in (raw_in so)) 0 own_many none_many in
      let one = once f w (at_file 0) said (own_apart 0) (sources_view so.sections.now) sources well in
      record {
        f = f;
        reads = f_reads;
        content = refl;
        common = refl;
        raw = refl;
        aranges = is.aranges;
        w = w;
        place = at_file 0;
        stand = numbers_stand f w (at_file 0) said (own_apart 0) (sources_view so.sections.now) sources;
        apart = own_apart 0;
        once = one;
        files = record { own = keys_in rule 0 no_files_before first raw x refl x_reads (at_file 0) a.units says; common = no_keys (λ p. (at_file 0 p).file ≡ 1) };
        ready = record {
          own = source_ready own [] so src None a.units mine;
          refs = subst (λ (n : ℕ). Each (λ j. j < n) so.refs.now) (let same : entries_in (raw_in so) ≡ entries_in (raw_in so) + 0 = omega arith in same) mine.among;
          common = tt;
          few = omega (arith, few);
        };
        planned = record {
          own_few = kept.few;
          common_few = none_few;
          says = record {
            around = around_given own None;
            place = refl;
            all = refl;
            common_place = none_place;
            means = kept.means;
            beside = around_given own None;
            beside_place = refl;
            said = [];
            common_means = none_mean (around_given own None);
            common_are = refl;
          };
        };
        many = units_many;
        plans = has_units (record { own = so; common = None }) w units_many one (omega (arith, all_entries_many, few)) (omega (arith, own_many, units_few a.units, few));
        knows = λ keys are. record {
          own_says = source_knows own [] so src None a.units refl mine;
          own_stands = source_stands own [] so src None (λ n. n) (stands_of f (at_file 0)) stand;
          common_says = refl;
          keys_are = are;
          apart = one;
          many = all_entries_many;
        };
      }

-- ---- beside a common file

own_numbered : (bound : ℕ) (a : Around Place) (n : ℕ) → n < bound → place_numbered bound a n ≡ a.place n
own_numbered bound a n lt = cond-true (nat_lt n bound) (a.place n) (place_in a.place a.common (n - bound)) (lt-ltb n bound lt)

module _ (placed : ArePlaced) (given : List (List ℕ)) (bytes first : List ℕ) (shared_file own : File) (n : ℕ) (common_kind k : FileKind)
    (of_common : IsReadBy (numbered_rule (rule_of_common 1)) common_kind no_files_before n bytes shared_file)
    (is : IsReadBy (numbered_rule (rule_of_back (Some (common_read (first ∷ []) bytes (units_of shared_file.units))) 0)) k
    (limits_after no_files_before bytes (units_of shared_file.units)) 0 first own)
    (so t : SourceFile) (src : IsSourceOf own shared_file.sections.strs.bytes.now so) (beside : IsSourceOf shared_file [] t) where
  beside_known : IsOneKnown (record { common = Some bytes; given = given; back = first ∷ [] }) own (Some shared_file) (record { own = so; common = Some t })
  beside_known =
      let shared = units_of shared_file.units in
      let raw = units_of own.units in
      let read : GivenCommon = common_read (first ∷ []) bytes shared in
      let rule = rule_of_back (Some read) 0 in
      let l = limits_after no_files_before bytes shared in
      let a = is.doc in
      let c = of_common.doc in
      let x = doc_placed rule first raw a in
      let z = doc_placed (rule_of_common 1) bytes shared c in
      let x_means = placed.back (Some read) 0 l first raw a is.means in
      let z_means = placed.common 1 no_files_before bytes shared c of_common.means in
      let x_reads : ReadsBy rule l first raw x = reads rule l first raw x x_means in
      let z_reads : ReadsBy (rule_of_common 1) no_files_before bytes shared z = reads (rule_of_common 1) no_files_before bytes shared z z_means in
      let f : OneFile = record { file = record { bytes = first; raw = raw; doc = x }; common = Some (record { bytes = bytes; raw = shared; doc = z }) } in
      let f_reads : ReadsOne f = record { common = z_reads; file = x_reads } in
      let w : WithCommon ℕ = record { own = a.units; common = map (unit_map behind_own) c.units } in
      let around = around_in (Some (given_by 1 bytes shared)) 0 first raw in
      let place : ℕ → Place = place_numbered (2 ^ 32) around in
      let apart : (p q : ℕ) → place p ≡ place q → p ≡ q = numbers_apart (2 ^ 32) 0 1 around (given_by 1 bytes shared) (λ e. absurd (omega (arith, e))) refl refl refl in
      let lie : Each (LiesBelow (2 ^ 32)) raw = lie_below rule l first raw x x_means in
      let lie_shared : Each (LiesBelow (2 ^ 32)) shared = lie_below (rule_of_common 1) no_files_before bytes shared z z_means in
      let says : map (unit_map place) (map (unit_map behind_own) c.units) ≡ z.units =
      behind_units 1 bytes shared c.units z.units lie_shared (means_of (numbered_rule (rule_of_common 1)) no_files_before bytes shared c of_common.means)
      (means_of (rule_of_common 1) no_files_before bytes shared z z_means) place (number_behind (2 ^ 32) around) in
      let said : said_by_file f ≡ renamed place w = λ i. record { own = x.units; common = sym says i } in
      let sources : sources_view so.sections.now ≡ sources_of first = ap (λ y. sources_view y) src.sections ∙ is.sections in
      let well : IsWellRead (said_by_file f) =
      well_read (Some bytes) (first ∷ []) (record { common = Some z; docs = x ∷ [] }) (shared, z, refl, z_reads, (raw, x_reads, tt)) x (inl refl) in
      let strs : (sources_of bytes).strs ≡ t.sections.now.strs.bytes.now = ap (λ (y : Sources). y.strs) (sym of_common.sections) ∙ sym (ap (λ y. y.strs.bytes.now) beside.sections) in
      let gives = common_of (Some t) in
      let here : (numbered_rule rule).around first raw ≡ around_given own gives = λ i. record {
        sources = sym is.sections i;
        all = all_places raw;
        place = λ m. m;
        common = Some (record { entries = all_places (units_of (sym beside.units i)); place = behind_own; strs = strs i });
      } in
      let there : (numbered_rule (rule_of_common 1)).around bytes shared ≡ around_given shared_file None =
      λ i. record { sources = sym of_common.sections i; all = all_places shared; place = λ m. m; common = None } in
      let kept : KeptSays (kept_of own gives) a.units = kept_says (numbered_rule rule) k l 0 first own is gives here in
      let mine : KeptSays (kept_in so gives) a.units = source_says own shared_file.sections.strs.bytes.now so src gives a.units kept in
      let kept_shared : KeptSays (kept_of shared_file None) c.units = kept_says (numbered_rule (rule_of_common 1)) common_kind no_files_before n bytes shared_file of_common None there in
      let other : KeptSays (kept_in t None) c.units = source_says shared_file [] t beside None c.units kept_shared in
      let units_many : length a.units ≡ length (raw_in so) = mean_many (around_beside so gives) (raw_in so) a.units (units_mean (around_beside so gives) (raw_in so) a.units mine.means) in
      let stand : KeptStand (kept_of own gives) (λ m. m) (stands_of f place) =
      values_stand f f_reads 0 (kept_of own gives) refl is.sections refl lie place (λ m. m) (own_numbered (2 ^ 32) around) in
      let stand_shared : KeptStand (kept_of shared_file None) behind_own (stands_of f place) =
      values_stand f f_reads 1 (kept_of shared_file None) refl of_common.sections refl lie_shared place behind_own (λ m lt. number_behind (2 ^ 32) around m) in
      let few = mine.few in
      let few_shared = other.few in
      let one = once f w place said apart (sources_view so.sections.now) sources well in
      let many = said_many (around_beside so gives) (raw_in so) a.units mine.means in
      let many_shared = behind_many c.units (entries_in (raw_in t)) (said_many (around_beside t None) (raw_in t) c.units other.means) in
      let all_entries_many : length (all_entries w) ≡ entries_in (raw_in so) + entries_in (raw_in t) =
      listed_many a.units (map (unit_map behind_own) c.units) (entries_in (raw_in so)) (entries_in (raw_in t)) many many_shared in
      record {
        f = f;
        reads = f_reads;
        content = refl;
        common = refl;
        raw = refl;
        aranges = is.aranges;
        w = w;
        place = place;
        stand = numbers_stand f w place said apart (sources_view so.sections.now) sources;
        apart = apart;
        once = one;
        files = record {
          own = keys_in rule 0 l first raw x refl x_reads place a.units refl;
          common = keys_in (rule_of_common 1) 1 no_files_before bytes shared z refl z_reads place (map (unit_map behind_own) c.units) says;
        };
        ready = record {
          own = source_ready own shared_file.sections.strs.bytes.now so src gives a.units mine;
          refs = subst (λ (m : ℕ). Each (λ j. j < entries_in (raw_in so) + m) so.refs.now) (all_many (raw_in t)) mine.among;
          common = (source_ready shared_file [] t beside None c.units other, other.among);
          few = omega (arith, few, few_shared);
        };
        planned = record {
          own_few = kept.few;
          common_few = kept_shared.few;
          says = record {
            around = around_given own gives;
            place = refl;
            all = refl;
            common_place = λ q e. some_place (record { entries = all_places (raw_in t); place = behind_own; strs = t.sections.now.strs.bytes.now }) q e refl;
            means = kept.means;
            beside = around_given shared_file None;
            beside_place = refl;
            said = c.units;
            common_means = kept_shared.means;
            common_are = refl;
          };
        };
        many = units_many;
        plans = has_units (record { own = so; common = Some t }) w units_many one (omega (arith, all_entries_many, few, few_shared)) (omega (arith, many, units_few a.units, few));
        knows = λ keys are. record {
          own_says = source_knows own shared_file.sections.strs.bytes.now so src gives a.units (ap (λ y. y.strs.bytes.now) beside.sections) mine;
          own_stands = source_stands own shared_file.sections.strs.bytes.now so src gives (λ m. m) (stands_of f place) stand;
          common_says = (
            c.units,
            source_knows shared_file [] t beside None c.units refl other,
            refl,
            source_stands shared_file [] t beside None behind_own (stands_of f place) stand_shared,
          );
          keys_are = are;
          apart = one;
          many = all_entries_many;
        };
      }

-- ---- of a graph

one_of : {X : Type 0} (xs : List X) → length xs ≡ 1 → (x : X) × (xs ≡ x ∷ [])
one_of [] e = absurd (omega (arith, e))
one_of (x ∷ []) e = (x, refl)
one_of (x ∷ y ∷ xs) e = absurd (omega (arith, e))

one_read : (Is : Limits → ℕ → List ℕ → File → Type 0) (l : Limits) (x : List ℕ) (files : List File) (end : Limits) → AreReadAs Is l 0 (x ∷ []) files end
    → (f : File) × (files ≡ f ∷ []) × Is l 0 x f
one_read Is l x [] end h = absurd h
one_read Is l x (f ∷ []) end h = (f, refl, h.0)
one_read Is l x (f ∷ g ∷ files) end h = absurd h.1

the_one : (files : List File) (f own : File) → files ≡ f ∷ [] → own ≡ get_or files 0 own → f ≡ own
the_one files f own are is = sym (is ∙ ap (λ (w : List File). get_or w 0 own) are)

known_by : ArePlaced → (given : List (List ℕ)) (o : Option (List ℕ)) (first : List ℕ) (n : ℕ) (common : Option File) (files : List File) (own : File) (so : SourceFile) (t : Option SourceFile)
    → HasCommon n o common
    → AreBack o (first ∷ []) files → own ≡ get_or files 0 own → IsSourceOf own (strs_beside common) so → IsCommonOf common t
    → IsOneKnown (record { common = o; given = given; back = first ∷ [] }) own common (record { own = so; common = t })
known_by placed given None first n None files own so None c h is src beside =
    let p = one_read (IsReadBy (numbered_rule (rule_of_back None 0)) (Back false)) no_files_before first files h.end h.are in
    let read = subst (λ (g : File). IsReadBy (numbered_rule (rule_of_back None 0)) (Back false) no_files_before 0 first g) (the_one files p.0 own p.1 is) p.2 in
    alone_known placed given first own (Back false) read so src
known_by placed given None first n None files own so (Some t) c h is src beside = absurd beside
known_by placed given None first n (Some f) files own so t c h is src beside = absurd c
known_by placed given (Some bytes) first n None files own so t c h is src beside = absurd c
known_by placed given (Some bytes) first n (Some f) files own so None c h is src beside = absurd beside
known_by placed given (Some bytes) first n (Some f) files own so (Some t) c h is src beside =
    let same : h.0 ≡ units_of f.units = (one_meaning (numbered_rule (rule_of_common 1)) no_files_before bytes h.0 (units_of f.units) h.1 c.doc h.2 c.means).0 in
    let from : AreReadFromBy (numbered_rule (rule_of_back (Some (common_read (first ∷ []) bytes (units_of f.units))) 0)) (Back true) (limits_after no_files_before bytes (units_of f.units))
    (first ∷ []) files =
    subst (λ (raw : List RawUnit). AreReadFromBy (numbered_rule (rule_of_back (Some (common_read (first ∷ []) bytes raw)) 0)) (Back true) (limits_after no_files_before bytes raw)
    (first ∷ []) files) same h.3 in
    let by = IsReadBy (numbered_rule (rule_of_back (Some (common_read (first ∷ []) bytes (units_of f.units))) 0)) (Back true) in
    let p = one_read by (limits_after no_files_before bytes (units_of f.units)) first files from.end from.are in
    let read = subst (λ (g : File). by (limits_after no_files_before bytes (units_of f.units)) 0 first g) (the_one files p.0 own p.1 is) p.2 in
    beside_known placed given bytes first f own n Shared (Back true) c read so t src beside

pub one_known : ArePlaced → OneKnownLaw
one_known placed r files own common s long c h is are =
    let p = one_of r.back long in
    let back : AreBack r.common (p.0 ∷ []) files = subst (λ (xs : List (List ℕ)). AreBack r.common xs files) p.1 h in
    subst (λ (xs : List (List ℕ)). IsOneKnown (record { common = r.common; given = r.given; back = xs }) own common s) (sym p.1)
    (known_by placed r.given r.common p.0 (length r.given + length r.back) common files own s.own s.common c back is are.own_is are.common_is)
