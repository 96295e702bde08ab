-- The places of two files differ, and so one function names all.
use Rattle.std.proofs.Common.{◌≡◌, ◌⊎◌, ℕ, Bool, true, false, ◌&&◌, ◌==◌, if◌then◌else◌, List, [], ◌∷◌, ◌++◌, length, map, Option, Some, None, inl, inr, refl, sym, ap, subst, ◌∙◌, arith, eq-eqb, eqb-true}
use Rattle.dwz_model.proofs.Members.{in_map_from}
use Rattle.dwz_def_reading.specs.Documents.{Doc, DwUnit}
use Rattle.dwz_def_reading.specs.Files.{Limits, ReadsBy, limits_after, no_files_before}
use Rattle.dwz_def_reading.specs.Finished.{FinishedDocs, ReadAllBy, ReadFinished, common_read, rule_of_back}
use Rattle.dwz_def_reading.specs.Lists.{In}
use Rattle.dwz_def_reading.specs.Places.{Place, at_file}
use Rattle.dwz_def_reading.specs.Rules.{ReadingRule}
use Rattle.dwz_def_reading.specs.Units.{RawUnit}
use Rattle.dwz_def_reading.proofs.ListFacts.{in_cases, in_left, in_right}
use Rattle.dwz_def_reading.proofs.PlacesRise.{all_raw_keys}
use Rattle.dwz_def_tops.specs.Shown.{keys, unit_keys, units_keys}
use Rattle.dwz_def_check.specs.Answer.{beside_common, units_of_common}
use Rattle.dwz_def_check.specs.CrossNames.{CrossName, cross_names_from, cross_tops}
use Rattle.dwz_def_check.specs.CrossNodes.{tops_before}
use Rattle.dwz_def_check.proofs.NameLists.{one_from, place_unit}
use Rattle.dwz_def_check.proofs.ReadRefs.{means_keys}
use Rattle.dwz_def_check.proofs.ReadSides.{well_read}
use Rattle.dwz_check_index.specs.TwoNames.{TwoNamesLaw, is_place, name_among, names_together}

abbrev Named : Type 0
Named = Place × CrossName

-- ---- a name among those of which each place has one

OneEach : List Named → Type 0
OneEach names = (p : Place) (x y : CrossName) → In (p, x) names → In (p, y) names → x ≡ y

both_true : (a b : Bool) → (a && b) ≡ true → (a ≡ true) × (b ≡ true)
both_true true true h = (refl, refl)
both_true true false h = absurd cc
both_true false b h = absurd cc

place_same : (p q : Place) → is_place p q ≡ true → p ≡ q
place_same p q h =
    let both = both_true (p.file == q.file) (p.at == q.at) h in
    let file = eqb-true p.file q.file both.0 in
    let at = eqb-true p.at q.at both.1 in
    (λ j. record { file = file j; at = at j })

place_itself : (p : Place) → is_place p p ≡ true
place_itself p = (λ j. eq-eqb p.file p.file refl j && eq-eqb p.at p.at refl j)

found : (names : List Named) → OneEach names → (p : Place) (x : CrossName) → In (p, x) names → name_among names p ≡ x
unfolding name_among OneEach
found [] one p x h = absurd h
found (z ∷ names) one p x h = by (is_place z.0 p) refl h (λ k. found names (λ q y w a b. one q y w (inr a) (inr b)) p x k) where
  by : (b : Bool) → is_place z.0 p ≡ b → (z ≡ (p, x)) ⊎ In (p, x) names → (In (p, x) names → name_among names p ≡ x) → (if b then z.1 else name_among names p) ≡ x
  by true e (inl same) rest = ap (λ (w : Named). w.1) same
  by true e (inr k) rest =
      let there : In (p, z.1) (z ∷ names) = inl (λ j. (place_same z.0 p e j, z.1)) in
      one p z.1 x there (inr k)
  by false e (inl same) rest =
      let itself : is_place z.0 p ≡ true = ap (λ (w : Named). is_place w.0 p) same ∙ place_itself p in
      absurd (let no : true ≡ false = sym itself ∙ e in cc)
  by false e (inr k) rest = rest k

-- ---- the places of a file

keys_in : (units : List (DwUnit Place)) (u : DwUnit Place) (p : Place) → In u units → In p (u.root.at ∷ keys u.below) → In p (units_keys units)
unfolding units_keys unit_keys
keys_in [] u p there is = absurd there
keys_in (v ∷ units) u p (inl same) is =
    in_left p (unit_keys v) (units_keys units) (inr (subst (λ (w : DwUnit Place). In p (w.root.at ∷ keys w.below)) (sym same) is))
keys_in (v ∷ units) u p (inr there) is = in_right p (unit_keys v) (units_keys units) (keys_in units u p there is)

file_of : (rule : ReadingRule Place) (number : ℕ) (l : Limits) (bytes : List ℕ) (raw : List RawUnit) (doc : Doc Place) → (rule.around bytes raw).place ≡ at_file number → ReadsBy rule l bytes raw doc
    → (p : Place) → In p (units_keys doc.units) → p.file ≡ number
file_of rule number l bytes raw doc place reads p is =
    let are : units_keys doc.units ≡ map (at_file number) (all_raw_keys raw) = means_keys (rule.around bytes raw) raw doc.units reads.means ∙ ap (λ (g : ℕ → Place). map g (all_raw_keys raw)) place in
    let o = in_map_from (at_file number) p (all_raw_keys raw) (subst (λ (w : List Place). In p w) are is) in
    sym (ap (λ (q : Place). q.file) o.is)

-- the places of two files
record AreTold (a b : Doc Place) : Type 0 where
  first : (p : Place) → In p (units_keys a.units) → p.file ≡ 0
  second : (p : Place) → In p (units_keys b.units) → p.file ≡ 1

told : (rule : ℕ → ReadingRule Place) (l : Limits) (files : List (List ℕ)) (a b : Doc Place) → ((n : ℕ) (bytes : List ℕ) (raw : List RawUnit) → ((rule n).around bytes raw).place ≡ at_file n)
    → ReadAllBy rule l 0 files (a ∷ b ∷ []) → AreTold a b
told rule l [] a b places h = absurd h
told rule l (bytes ∷ []) a b places h = absurd h.2
told rule l (bytes ∷ more ∷ files) a b places h = record {
  first = file_of (rule 0) 0 l bytes h.0 a (places 0 bytes h.0) h.1;
  second = file_of (rule 1) 1 (limits_after l bytes h.0) more h.2.0 b (places 1 more h.2.0) h.2.1;
}

two_told : (common : Option (List ℕ)) (files : List (List ℕ)) (said : FinishedDocs) (a b : Doc Place) → ReadFinished common files said → said.docs ≡ a ∷ b ∷ [] → AreTold a b
two_told None files said a b h two =
    told (rule_of_back None) no_files_before files a b (λ n bytes raw. refl) (subst (λ (w : List (Doc Place)). ReadAllBy (rule_of_back None) no_files_before 0 files w) two h.1)
two_told (Some bytes) files said a b h two =
    let rule = rule_of_back (Some (common_read files bytes h.0)) in
    let l = limits_after no_files_before bytes h.0 in
    told rule l files a b (λ n bytes raw. refl) (subst (λ (w : List (Doc Place)). ReadAllBy rule l 0 files w) two h.4)

-- ---- the names of both

module _ (a b c : List (DwUnit Place)) (k m n : ℕ) (v_is : (p : Place) (x y : CrossName) → In (p, x) (cross_names_from 0 k a ++ cross_names_from 0 n c)
    → In (p, y) (cross_names_from 0 k a ++ cross_names_from 0 n c) → x ≡ y)
    (w_is : (p : Place) (x y : CrossName) → In (p, x) (cross_names_from 0 m b ++ cross_names_from 0 n c) → In (p, y) (cross_names_from 0 m b ++ cross_names_from 0 n c) → x ≡ y)
    (apart : (p : Place) (x y : CrossName) → In (p, x) (cross_names_from 0 k a) → In (p, y) (cross_names_from 0 m b) → x ≡ y) where
  abbrev first : List Named
  first = cross_names_from 0 k a

  abbrev second : List Named
  second = cross_names_from 0 m b

  abbrev third : List Named
  third = cross_names_from 0 n c

  one_each : OneEach (first ++ (second ++ third))
  unfolding OneEach
  one_each p x y h i = elim (in_cases (p, x) first (second ++ third) h) [
    | inl f ↦ elim (in_cases (p, y) first (second ++ third) i) [
      | inl g ↦ v_is p x y (in_left (p, x) first third f) (in_left (p, y) first third g)
      | inr g ↦ elim (in_cases (p, y) second third g) [
        | inl g' ↦ apart p x y f g'
        | inr g' ↦ v_is p x y (in_left (p, x) first third f) (in_right (p, y) first third g')
      ]
    ]
    | inr f ↦ elim (in_cases (p, y) first (second ++ third) i) [
      | inl g ↦ elim (in_cases (p, x) second third f) [
        | inl f' ↦ sym (apart p y x g f')
        | inr f' ↦ v_is p x y (in_right (p, x) first third f') (in_left (p, y) first third g)
      ]
      | inr g ↦ w_is p x y f g
    ]
  ]

  old_in : (z : Named) → In z (first ++ third) → In z (first ++ (second ++ third))
  old_in z h = elim (in_cases z first third h) [
    | inl f ↦ in_left z first (second ++ third) f
    | inr g ↦ in_right z first (second ++ third) (in_right z second third g)
  ]

  new_in : (z : Named) → In z (second ++ third) → In z (first ++ (second ++ third))
  new_in z h = in_right z first (second ++ third) h

pub two_names : TwoNamesLaw
two_names common files said h a b two =
    let v = beside_common said a in
    let w = beside_common said b in
    let c = units_of_common said.common in
    let k = length (cross_tops a.units) in
    let n = tops_before v w in
    let v_read = well_read common files said h a (subst (λ (docs : List (Doc Place)). In a docs) (sym two) (inl refl)) in
    let w_read = well_read common files said h b (subst (λ (docs : List (Doc Place)). In b docs) (sym two) (inr (inl refl))) in
    let places = two_told common files said a b h two in
    let v_is = one_from 0 0 0 n a.units c v_read.apart in
    let w_is = one_from 0 k 0 n b.units c w_read.apart in
    let apart : (p : Place) (x y : CrossName) → In (p, x) (cross_names_from 0 0 a.units) → In (p, y) (cross_names_from 0 k b.units) → x ≡ y = λ p x y f g. (
    let o = place_unit 0 0 0 0 a.units [] p x (in_left (p, x) (cross_names_from 0 0 a.units) (cross_names_from 0 0 []) f) in
    let q = place_unit 0 k 0 0 b.units [] p y (in_left (p, y) (cross_names_from 0 k b.units) (cross_names_from 0 0 []) g) in
    let zero_is = places.first p (keys_in a.units o.unit p (whole a.units o.unit o.there) o.is) in
    let one_is = places.second p (keys_in b.units q.unit p (whole b.units q.unit q.there) q.is) in
    absurd (omega (arith, zero_is, one_is))) in
    let one = one_each a.units b.units c 0 k n v_is w_is apart in (
      λ p x is. found (names_together v w) one p x (old_in a.units b.units c 0 k n v_is w_is apart (p, x) is),
      λ p x is. found (names_together v w) one p x (new_in a.units b.units c 0 k n v_is w_is apart (p, x) is),
    )
  where
    whole : (units : List (DwUnit Place)) (u : DwUnit Place) → In u (units ++ []) → In u units
    whole units u is = elim (in_cases u units [] is) [ inl f ↦ f | inr g ↦ absurd g ]
