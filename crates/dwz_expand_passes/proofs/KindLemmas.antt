-- The kinds of new units, and the copies that describe types.
use Rattle.std.proofs.Common.{◌≡◌, ℕ, ◌+◌, ◌<◌, true, false, List, [], ◌∷◌, length, map, get_or, Option, Some, None, Ok, slice_get, refl, sym, ap, subst, ◌∙◌, arith}
use Rattle.std.specs.Prelude.{slice_index_or, unwrap_or}
use Rattle.dwz_check_labels.specs.Files.{AreHeres, IsHereOf}
use Rattle.dwz_codes.specs.Rows.{has}
use Rattle.dwz_def_cross.specs.Tops.{WithCommon, units_with_common, whole_units}
use Rattle.dwz_def_encoding.proofs.ReadAgain.{keys_read}
use Rattle.dwz_def_encoding.specs.Meant.{entry_keys}
use Rattle.dwz_def_expand.proofs.WholeLemmas.{in_all, is_there}
use Rattle.dwz_def_expand.specs.Source.{copy, is_partial, source_places, source_unit, sources_below, unit_for}
use Rattle.dwz_def_reading.proofs.HasLemmas.{in_has}
use Rattle.dwz_def_reading.specs.Documents.{Compile, DwUnit, Entries, Kind, OfType, Partial, kind_map}
use Rattle.dwz_def_reading.specs.Meanings.{Around, MeaningContext, MeansKind, MeansUnit, entries_for, places_of, scope_of, target_of}
use Rattle.dwz_def_reading.specs.Meant.{units_meaning}
use Rattle.dwz_def_reading.specs.Units.{CompileUnit, PartialUnit, RawKind, RawUnit, TypeUnit, entries_in}
use Rattle.dwz_def_reading.specs.declared.exprs.Operand.{Operand}
use Rattle.dwz_expand_sources.specs.Imports.{same}
use Rattle.dwz_model.proofs.ListFacts.{got_in, got_index_or, got_map, got_there, in_map, same_got}
use Rattle.dwz_model.specs.Lists.{In, NoneTwice}
use Rattle.dwz_graph.specs.Here.{Here}
use Rattle.dwz_graph.specs.Operands.{LooksUp}
use Rattle.dwz_graph.specs.Places.{place_at}
use Rattle.dwz_expand_sources.specs.Copies.{IsCopyFor}
use Rattle.dwz_expand_sources.specs.declared.copies.CopyAt.{CopyAt}
use Rattle.dwz_expand_passes.proofs.FitLemmas.{stands_first}
use Rattle.dwz_expand_passes.proofs.PlacesSaid.{entry_said, unit_said, units_mean}
use Rattle.dwz_expand_passes.specs.Known.{StandsAt}
use Rattle.dwz_expand_passes.specs.Kinds.{IsMain}
use Rattle.dwz_expand_passes.proofs.NumberLemmas.{numbers_law}
use Rattle.dwz_expand_passes.proofs.StandLemmas.{same_test}
use Rattle.dwz_expand_passes.specs.CopiesOf.{named_copy}
use Rattle.dwz_expand_passes.specs.Numbered.{key_in}
use Rattle.dwz_unit.specs.Rows.{kind_number, signature_of, type_offset_of, unit_shown}
use Rattle.dwz_unit.specs.declared.rows.RawUnit.{RawUnit as UnitOfCode}
use Rattle.dwz_expand_layout.specs.Shown.{KindShows}
use Rattle.dwz_expand_layout.specs.declared.entries.NewKind.TheVariants.{Compile as NewCompile, OfType as NewType}
use Rattle.dwz_def_tops.specs.Shown.{keys, units_keys}
use Rattle.std.proofs.lemmas.Option.{get_or_from_slice_get}

pub here_there : (raw : List RawUnit) (heres : List Here) (n : ℕ) (d : Here) → AreHeres raw heres → n < length raw → IsHereOf raw n (slice_index_or heres n d)
here_there raw heres n d are lt =
    let many = are.many in
    let h = got_there heres n (omega (arith, lt, many)) in
    subst (λ (x : Here). IsHereOf raw n x) (sym (got_index_or heres n h.0 d h.1)) (are.each n h.0 h.1)

pub main_told : (raw : List RawUnit) (s : MeaningContext ℕ) (u : RawUnit) (o : Operand) (r : Option ℕ) → target_of s o ≡ u.at + type_offset_of u.kind → entries_for s o.base ≡ places_of u
    → LooksUp raw s o r → IsMain raw u r
main_told raw s u o (Some i) target own looks = looks.1 ∙ target
main_told raw s u o None target own looks = λ there. (
    let no : has (u.at + type_offset_of u.kind) (places_of u) ≡ false = (λ i. has (sym target i) (sym own i)) ∙ looks in
    let both : true ≡ false = sym there ∙ no in
    absurd cc)

-- ---- a type unit

abbrev pub SaysType : RawUnit → Kind ℕ → ℕ → Type 0
SaysType r kind k = In k (places_of r) × (k ≡ r.at + type_offset_of r.kind)

type_said : (around : Around ℕ) → around.place ≡ (λ n. n) → (r : RawUnit) (kind : Kind ℕ) (signature k : ℕ) → MeansKind (scope_of around r) r.kind kind → kind ≡ OfType signature k → SaysType r kind k
type_said around own r kind signature k means is = by r.kind refl means where
  by : (x : RawKind) → r.kind ≡ x → MeansKind (scope_of around r) x kind → SaysType r kind k
  by CompileUnit e m = (let never : Compile ≡ OfType signature k = sym m ∙ is in absurd cc)
  by PartialUnit e m = (let never : Partial ≡ OfType signature k = sym m ∙ is in absurd cc)
  by (TypeUnit sign offset) e m =
      let same_kind : OfType sign (around.place (r.at + offset)) ≡ OfType signature k = sym m.1 ∙ is in
      let main : around.place (r.at + offset) ≡ k = cc in
      let at : r.at + offset ≡ k = ap (λ (f : ℕ → ℕ). f (r.at + offset)) (sym own) ∙ main in
      (subst (λ (p : ℕ). In p (places_of r)) at m.0, sym at ∙ ap (λ (x : RawKind). r.at + type_offset_of x) (sym e))

own_unit : (units : List (List ℕ)) (n p : ℕ) → In p (get_or units n []) → unit_for same units n p ≡ Some n
unfolding unit_for
own_unit units n p there = rw (is_there same same_test p (get_or units n []) there) refl

-- the copy of an entry in a unit that has it
abbrev pub number_in : Option CopyAt → ℕ
number_in None = 0
number_in (Some c) = c.number

pub copy_named : (w : WithCommon ℕ) (n p : ℕ) (r : Option CopyAt) → In p (get_or (source_places same w) n []) → IsCopyFor w n p r → key_in w (number_in r) ≡ named_copy w n p
copy_named w n p None there is = (let never : None ≡ Some n = is.unit ∙ own_unit (source_places same w) n p there in absurd cc)
copy_named w n p (Some c) there is =
    let unit : Some c.unit ≡ Some n = is.unit ∙ own_unit (source_places same w) n p there in
    let one : c.unit ≡ n = cc in
    let number = is.number in
    ap (key_in w) number.counts
    ∙ numbers_law w c.unit p number.before number.stands
    ∙ ap (λ (u : ℕ). copy u p) one
    ∙ sym (ap (λ (o : Option ℕ). copy (unwrap_or o n) p) (own_unit (source_places same w) n p there))

module _ (w : WithCommon ℕ) (raw : List RawUnit) (around : Around ℕ) (means : units_meaning around raw ≡ Ok w.own) (own : around.place ≡ (λ n. n)) where
  pub raw_unit : (n : ℕ) (u : DwUnit ℕ) → n < length raw → slice_get w.own n ≡ Some u → (r : RawUnit) × (slice_get raw n ≡ Some r) × MeansUnit around r u
  raw_unit n u lt found =
      let r = got_there raw n lt in
      let v = unit_said around raw w.own (units_mean around raw w.own means) n r.0 r.1 in
      (r.0, r.1, subst (λ (x : DwUnit ℕ). MeansUnit around r.0 x) (same_got w.own n v.0 u v.1 found) v.2)

  -- the entry that describes the type
  pub main_stands : (r : RawUnit) (u : DwUnit ℕ) (signature k : ℕ) (i : ℕ) → MeansUnit around r u → u.kind ≡ OfType signature k → i < entries_in raw → IsMain raw r (Some i) → StandsAt w i k
  main_stands r u signature k i unit kind lt main =
      let said = type_said around own r u.kind signature k unit.kind kind in
      let e = entry_said around raw w.own means i lt in
      let at : e.0.0.at ≡ k = e.2 ∙ ap (λ (f : ℕ → ℕ). f (place_at raw i)) own ∙ main ∙ sym said.1 in
      stands_first w.own w.common raw around means i k e.0 e.1 at

  pub main_there : (r : RawUnit) (u : DwUnit ℕ) (signature k : ℕ) → MeansUnit around r u → u.kind ≡ OfType signature k → IsMain raw r None → ⊥
  main_there r u signature k unit kind none =
      let said = type_said around own r u.kind signature k unit.kind kind in
      none (subst (λ (p : ℕ). has p (places_of r) ≡ true) said.1 (in_has k (places_of r) said.0))

-- ---- what is shown of a unit

pub compile_shows : (w : WithCommon ℕ) (around : Around ℕ) (r : RawUnit) (u : DwUnit ℕ) (n : ℕ) (x : UnitOfCode) → unit_shown x.first r ≡ x → x.kind ≡ 1 → MeansUnit around r u
    → KindShows (key_in w) NewCompile (kind_map (named_copy w n) u.kind)
compile_shows w around r u n x shown one unit = by r.kind refl unit.kind where
  number : kind_number r.kind ≡ 1
  number = ap (λ (y : UnitOfCode). y.kind) shown ∙ one

  by : (k : RawKind) → r.kind ≡ k → MeansKind (scope_of around r) k u.kind → KindShows (key_in w) NewCompile (kind_map (named_copy w n) u.kind)
  by CompileUnit e m = subst (λ (k : Kind ℕ). KindShows (key_in w) NewCompile (kind_map (named_copy w n) k)) (sym m) tt
  by (TypeUnit signature offset) e m = (let two : 2 ≡ 1 = ap kind_number (sym e) ∙ number in absurd (omega (arith, two)))
  by PartialUnit e m = (let three : 3 ≡ 1 = ap kind_number (sym e) ∙ number in absurd (omega (arith, three)))

-- a unit that isn't partial has its own entries after
whole_keys : (w : WithCommon ℕ) (n : ℕ) (u : DwUnit ℕ) → slice_get (whole_units w.own) n ≡ Some u → get_or (source_places same w) n [] ≡ entry_keys (source_unit same (units_with_common w) u)
whole_keys w n u found =
    let source = source_unit same (units_with_common w) in
    let unit = got_map source (whole_units w.own) n u found in
    get_or_from_slice_get (source_places same w) n (entry_keys (source u)) [] (got_map entry_keys (map source (whole_units w.own)) n (source u) unit)

type_key : (w : WithCommon ℕ) (around : Around ℕ) → around.place ≡ (λ n. n) → (r : RawUnit) (u : DwUnit ℕ) (n signature k : ℕ) → MeansUnit around r u → slice_get (whole_units w.own) n ≡ Some u
    → u.kind ≡ OfType signature k → In k (places_of r) → In k (get_or (source_places same w) n [])
type_key w around own r u n signature k unit whole kind there =
    let source = source_unit same (units_with_common w) u in
    let below : source.below ≡ u.below = ap (λ (x : Kind ℕ). sources_below same (units_with_common w) x u.below) kind in
    let s = scope_of around r in
    let keys_are : entry_keys u ≡ map around.place (places_of r) = (λ i. unit.root.place i ∷ keys_read s r.below u.below unit.below i) in
    let said : In (around.place k) (entry_keys u) = subst (λ (ks : List ℕ). In (around.place k) ks) (sym keys_are) (in_map around.place k (places_of r) there) in
    let is : In k (entry_keys u) = subst (λ (f : ℕ → ℕ). In (f k) (entry_keys u)) own said in
    subst (λ (ks : List ℕ). In k ks) (sym (whole_keys w n u whole)) (subst (λ (b : Entries ℕ). In k (u.root.at ∷ keys b)) (sym below) is)

pub type_shows : (w : WithCommon ℕ) → NoneTwice (units_keys (units_with_common w)) → (around : Around ℕ) → around.place ≡ (λ n. n) → (r : RawUnit) (u : DwUnit ℕ) (n : ℕ) (x : UnitOfCode) (main : ℕ)
    → unit_shown x.first r ≡ x → (x.kind ≡ 1 → ⊥) → MeansUnit around r u → slice_get (whole_units w.own) n ≡ Some u
    → ((signature k : ℕ) → u.kind ≡ OfType signature k → In k (get_or (source_places same w) n []) → key_in w main ≡ named_copy w n k)
    → KindShows (key_in w) (NewType x.signature main) (kind_map (named_copy w n) u.kind)
type_shows w apart around own r u n x main shown other unit whole names = by r.kind refl unit.kind where
  by : (k : RawKind) → r.kind ≡ k → MeansKind (scope_of around r) k u.kind → KindShows (key_in w) (NewType x.signature main) (kind_map (named_copy w n) u.kind)
  by CompileUnit e m = absurd (other (sym (ap (λ (y : UnitOfCode). y.kind) shown) ∙ ap kind_number e))
  by PartialUnit e m =
      let not : is_partial u.kind ≡ false = (in_all same same_test w apart u (got_in (whole_units w.own) n u whole)).1 in
      let yes : is_partial u.kind ≡ true = ap (λ (k : Kind ℕ). is_partial k) m in
      let never : true ≡ false = sym yes ∙ not in
      absurd cc
  by (TypeUnit signature offset) e m =
      let k = around.place (r.at + offset) in
      let at : k ≡ r.at + offset = ap (λ (f : ℕ → ℕ). f (r.at + offset)) own in
      let there : In k (places_of r) = subst (λ (p : ℕ). In p (places_of r)) (sym at) m.0 in
      let sign : x.signature ≡ signature = sym (ap (λ (y : UnitOfCode). y.signature) shown) ∙ ap signature_of e in
      subst (λ (z : Kind ℕ). KindShows (key_in w) (NewType x.signature main) (kind_map (named_copy w n) z)) (sym m.1)
      (sign, names signature k m.1 (type_key w around own r u n signature k unit whole m.1 there))
