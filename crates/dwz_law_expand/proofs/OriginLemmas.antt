-- Where each source of a new unit was read, and what is known of it there.
use Rattle.std.proofs.Common.{◌≡◌, ◌⊎◌, ℕ, suc, ◌≤◌, Bool, true, false, List, [], ◌∷◌, ◌++◌, ◌==◌, if◌then◌else◌, length, drop, Option, Some, None, refl, sym, ap, subst, ◌∙◌, arith, inl, inr}
use Rattle.std.proofs.lemmas.Bool.{eq-eqb, eqb-true}
use Rattle.std.proofs.lemmas.List.{length-drop, length-take}
use Rattle.dwz_def_reading.specs.Lists.{In, NoneTwice, Nth}
use Rattle.dwz_def_reading.proofs.ListFacts.{in_cases, in_left, in_right}
use Rattle.dwz_def_reading.proofs.Members.{nth_in}
use Rattle.dwz_def_reading.proofs.OnceLemmas.{none_append, none_both, none_left, none_right}
use Rattle.dwz_def_reading.specs.Documents.{Compile, DwUnit, Kind, Node, OfType, Partial}
use Rattle.dwz_def_reading.specs.ElfNames.{sections_in}
use Rattle.dwz_def_reading.specs.ElfReading.{bytes_in, section_range}
use Rattle.dwz_def_reading.specs.Files.{longest_file, section_of, sources_of}
use Rattle.dwz_def_reading.specs.Meanings.{MeaningContext, MeansKind, Sources, scope_of}
use Rattle.dwz_def_reading.specs.Places.{Place, at_file}
use Rattle.dwz_def_reading.specs.Units.{CompileUnit, PartialUnit, RawKind, RawUnit, TypeUnit, root_tag}
use Rattle.dwz_def_reading.specs.Values.{AreBytes}
use Rattle.dwz_def_tops.specs.Shown.{unit_keys, units_keys}
use Rattle.dwz_def_tops.proofs.ShownLemmas.{unit_key}
use Rattle.dwz_def_encoding.specs.Bases.{Bases, bases_in, bases_of}
use Rattle.dwz_def_encoding.specs.Meant.{entry_keys, own_of}
use Rattle.dwz_def_encoding.specs.Placing.{CommonUnit, NewUnit, OldUnit, UnitRole, holder_of}
use Rattle.dwz_def_encoding.proofs.ReadAgain.{bases_read, section_bytes}
use Rattle.dwz_def_tops.proofs.UnitKeys.{keys_joined}
use Rattle.dwz_def_cross.specs.Tops.{WithCommon, unless_partial, units_with_common, whole_units}
use Rattle.dwz_def_expand.specs.Chosen.{Choice, role_in, slots_of_unit}
use Rattle.dwz_def_expand.specs.OneFile.{FileRead, OneFile, ReadsOne, around, part, rule_for, said_by_file, same_place, units_read}
use Rattle.dwz_def_expand.specs.Output.{forms, number_of_unit, unit_number}
use Rattle.dwz_def_expand.specs.Refusals.{IsLost, nodes}
use Rattle.dwz_def_expand.specs.Source.{Copy, is_partial, source_places, source_unit, source_units}
use Rattle.dwz_def_expand.proofs.FileLemmas.{own_place, places_apart, read_keys, same_both, test}
use Rattle.dwz_def_expand.proofs.SourceLemmas.{in_whole}
use Rattle.dwz_law_expand.specs.Told.{CommonIsBytes, IsOfBytes, told}
use Rattle.dwz_law_expand.proofs.CopyLemmas.{copied_to, new_bases, new_unit, nth_map}
use Rattle.dwz_law_expand.proofs.FoundLemmas.{NodeSaid, Said, SaidIn, common_said, node_said, own_said, root_said}
use Rattle.dwz_law_expand.proofs.GoodLemmas.{RoleFacts, ToldOf}
use Rattle.dwz_law_expand.proofs.HeldLemmas.{IsFree}
use Rattle.dwz_law_expand.proofs.SiteLemmas.{IsPart, node_from, node_key, own_here, owner_is, owner_none, part_here}

-- ---- numbers of units

-- no two of these units begin at one place of the file
number_is : (s : ℕ) (units : List (DwUnit Place)) → NoneTwice (units_keys units) → ((u : DwUnit Place) → In u units → u.at.file ≡ 0) → (n : ℕ) (u : DwUnit Place) → Nth s units n u
    → unit_number s units u.at.at ≡ n
unfolding unit_number units_keys unit_keys
number_is s [] once file n u h = absurd h
number_is s (x ∷ units) once file n u (inl e) = rw (eq-eqb x.at.at u.at.at (ap (λ (w : DwUnit Place). w.at.at) e.1)) e.0
number_is s (x ∷ units) once file n u (inr r) =
    by (x.at.at == u.at.at) refl (number_is (suc s) units (none_right (unit_keys x) (units_keys units) once) (λ v is. file v (inr is)) n u r)
  where
    there : In u units
    there = nth_in (suc s) units n u r

    by : (b : Bool) → (x.at.at == u.at.at) ≡ b → unit_number (suc s) units u.at.at ≡ n → (if b then s else unit_number (suc s) units u.at.at) ≡ n
    by true e rest =
        let same : x.at ≡ u.at = same_both x.at u.at (file x (inl refl) ∙ sym (file u (inr there))) (eqb-true x.at.at u.at.at e) in
        absurd (none_both (unit_keys x) (units_keys units) once u.at (inl same) (unit_key units u u.at there (inl refl)))
    by false e rest = rest

-- ---- kinds

holder_whole : {P : Type 0} (k : Kind P) → is_partial k ≡ false → holder_of false k ≡ OldUnit
holder_whole Compile e = refl
holder_whole (OfType s m) e = refl
holder_whole Partial e = absurd (let z : true ≡ false = e in cc)

holder_part : {P : Type 0} (k : Kind P) → is_partial k ≡ true → holder_of false k ≡ NewUnit
holder_part Compile e = absurd (let z : false ≡ true = e in cc)
holder_part (OfType s m) e = absurd (let z : false ≡ true = e in cc)
holder_part Partial e = refl

raw_partial : {P : Type 0} (s : MeaningContext P) (k : RawKind) (m : Kind P) → MeansKind s k m → is_partial m ≡ true → root_tag k ≡ 0x3c
raw_partial s CompileUnit m h e = absurd (let z : is_partial m ≡ false = ap is_partial h in cc)
raw_partial s PartialUnit m h e = refl
raw_partial s (TypeUnit signature offset) m h e = absurd (let z : is_partial m ≡ false = ap is_partial h.1 in cc)

-- ---- sections

section_short : (bytes : List ℕ) (code : ℕ) → length (section_of bytes code) ≤ length bytes
unfolding section_of
section_short bytes code = by (section_range (sections_in bytes) code) where
  by : (o : Option (ℕ × ℕ)) → length (bytes_in bytes o) ≤ length bytes
  by None = omega arith
  by (Some range) = omega (arith, length-take range.1 (drop range.0 bytes), length-drop range.0 bytes)

-- the keys of the units that aren't partial are among those of all
fewer_keys : {P : Type 0} (some : List (DwUnit P)) (k : P) → In k (units_keys (whole_units some)) → In k (units_keys some)
unfolding whole_units units_keys
fewer_keys [] k is = is
fewer_keys {P} (y ∷ some) k is = go y.kind is (fewer_keys some k) where
  kept : (In k (units_keys (whole_units some)) → In k (units_keys some)) → In k (unit_keys y ++ units_keys (whole_units some)) → In k (unit_keys y ++ units_keys some)
  kept more is = elim (in_cases k (unit_keys y) (units_keys (whole_units some)) is) [ inl a ↦ in_left k (unit_keys y) (units_keys some) a | inr b ↦ in_right k (unit_keys y) (units_keys some) (more b) ]

  go : (kind : Kind P) → In k (units_keys (unless_partial kind y (whole_units some))) → (In k (units_keys (whole_units some)) → In k (units_keys some)) → In k (unit_keys y ++ units_keys some)
  go Compile is more = kept more is
  go (OfType s m) is more = kept more is
  go Partial is more = in_right k (unit_keys y) (units_keys some) (more is)

whole_once : {P : Type 0} (units : List (DwUnit P)) → NoneTwice (units_keys units) → NoneTwice (units_keys (whole_units units))
unfolding whole_units units_keys
whole_once [] h = h
whole_once {P} (x ∷ units) h = by x.kind (whole_once units (none_right (unit_keys x) (units_keys units) h)) where
  stays : NoneTwice (units_keys (whole_units units)) → NoneTwice (unit_keys x ++ units_keys (whole_units units))
  stays rest =
      none_append (unit_keys x) (units_keys (whole_units units)) (none_left (unit_keys x) (units_keys units) h) rest
      (λ k a b. none_both (unit_keys x) (units_keys units) h k a (fewer_keys units k b))

  by : (kind : Kind P) → NoneTwice (units_keys (whole_units units)) → NoneTwice (units_keys (unless_partial kind x (whole_units units)))
  by Compile rest = stays rest
  by (OfType s m) rest = stays rest
  by Partial rest = rest

-- ---- in a file that reads

pub is_of_bytes : (common : Option FileRead) (file : FileRead) → CommonIsBytes common → ReadsOne (record { file = file; common = common }) → (v : DwUnit Place) → In v (units_read common)
    → AreBytes (part (record { file = file; common = common }) 1).bytes
is_of_bytes None file are reads v there = absurd there
is_of_bytes (Some c) file are reads v there = are

module _ (f : OneFile) (reads : ReadsOne f) (bytes : IsOfBytes f) where
  abbrev pub w : WithCommon Place
  w = said_by_file f

  abbrev pub all : List (DwUnit Place)
  all = units_with_common w

  abbrev pub c : Choice Place
  c = forms f

  abbrev pub places : List (List Place)
  places = source_places same_place w

  pub apart : NoneTwice (units_keys (units_with_common w))
  apart = places_apart f reads

  own_once : NoneTwice (units_keys w.own)
  own_once = none_left (units_keys w.own) (units_keys w.common) (subst NoneTwice (keys_joined w.own w.common) apart)

  own_file : (p : Place) → In p (units_keys w.own) → p.file ≡ 0
  own_file = (read_keys (rule_for f 0) 0 _ f.file.bytes f.file.raw f.file.doc (own_place f.common f.file) reads.file).file

  unit_file : (u : DwUnit Place) → In u w.own → u.at.file ≡ 0
  unfolding unit_keys
  unit_file u is = own_file u.at (unit_key w.own u u.at is (inl refl))

  abbrev pub new : ℕ → DwUnit Place → DwUnit (Copy Place)
  new n u = new_unit same_place test w apart c n u

  abbrev pub Lost : ℕ → Place → Type 0
  Lost n p = IsLost same_place places n p

  -- the n-th new unit is of the n-th unit that isn't partial
  pub record SourceAt (n : ℕ) (su : DwUnit Place) : Type 0 where
    pub unit : DwUnit Place
    pub whole_nth : Nth 0 (whole_units w.own) n unit
    pub is : source_unit same_place all unit ≡ su
    pub own : In unit w.own
    pub there : In unit all
    pub whole : is_partial unit.kind ≡ false

  pub source_at : (n : ℕ) (su : DwUnit Place) → Nth 0 (source_units same_place w) n su → SourceAt n su
  source_at n su nth =
      let o = nth_map (source_unit same_place all) 0 (whole_units w.own) n su nth in
      let i = in_whole w.own o.0 (nth_in 0 (whole_units w.own) n o.0 o.1) in
      record { unit = o.0; whole_nth = o.1; is = o.2; own = i.0; there = in_left o.0 w.own w.common i.0; whole = i.1 }

  pub unit_numbered : (n : ℕ) (u : DwUnit Place) → Nth 0 (whole_units w.own) n u → number_of_unit f u.at.at ≡ n
  unit_numbered n u nth = number_is 0 (whole_units w.own) (whole_once w.own own_once) (λ v is. unit_file v (in_whole w.own v is).0) n u nth

  -- where a source was read: in its unit, with all that is asked of it
  pub record Origin (n : ℕ) (su : DwUnit Place) (d : Node Place) : Type 0 where
    pub number : ℕ
    pub known : (number ≡ 0) ⊎ (number ≡ 1)
    pub raw : RawUnit
    pub unit : DwUnit Place
    pub said : SaidIn f number raw unit
    pub root : Bool
    pub node : NodeSaid (scope_of (around f number) raw) (IsFree (root_tag raw.kind) root) raw d
    pub facts : RoleFacts (c.role d.at) c (told f) (own_of (new n su)) d.at (around f number).sources (bases_of (scope_of (around f number) raw))
    pub here : (p : Place) → In p (entry_keys unit) → ¬ Lost n p → In p (entry_keys su)
    pub lists : ((number ≡ 0) × (number_of_unit f raw.at ≡ n) × (su.at ≡ at_file 0 raw.at) × ((own_of (new n su)).bases ≡ bases_of (scope_of (around f number) raw))) ⊎ ((root_tag raw.kind ≡ 0x3c) × (root ≡ false))

  pub told_of : ToldOf (told f) (sources_of f.file.bytes)
  unfolding longest_file
  told_of = record {
    strs = refl;
    line_strs = refl;
    offsets = refl;
    line = refl;
    small = (let short = section_short f.file.bytes 3 in let size = reads.file.size.file in omega (arith, short, size));
  }

  bases_said : (number : ℕ) (raw : RawUnit) (v : DwUnit Place) → SaidIn f number raw v → bases_of (scope_of (around f number) raw) ≡ bases_in v
  bases_said number raw v said = bases_read (scope_of (around f number) raw) v.root.attrs said.means.root.attrs

  module _ (n : ℕ) (su : DwUnit Place) (nth : Nth 0 (source_units same_place w) n su) where
    abbrev at : SourceAt n su
    at = source_at n su nth

    found_source : (p : Place) → ¬ Lost n p → (u : DwUnit Place) × In u all × (is_partial u.kind ≡ false) × In p (entry_keys (source_unit same_place all u))
    found_source p kept =
        let o = copied_to same_place test w apart c n p kept in
        let s = source_at o.number o.unit o.nth in
        (s.unit, s.there, s.whole, subst (λ (x : DwUnit Place). In p (entry_keys x)) (sym s.is) o.key)

    here_own : (p : Place) → In p (entry_keys at.unit) → ¬ Lost n p → In p (entry_keys su)
    here_own p key kept =
        let o = found_source p kept in
        subst (λ (x : DwUnit Place). In p (entry_keys x)) at.is (own_here same_place test all apart at.unit at.there at.whole p key o.0 o.1 o.3)

    here_part : (v : DwUnit Place) → IsPart same_place test all apart at.unit v → (p : Place) → In p (entry_keys v) → ¬ Lost n p → In p (entry_keys su)
    here_part v is p key kept =
        let o = found_source p kept in
        subst (λ (x : DwUnit Place). In p (entry_keys x)) at.is (part_here same_place test all apart at.unit v is p key o.0 o.1 o.2 o.3)

    pub own_bases : (own_of (new n su)).bases ≡ bases_in at.unit
    own_bases = new_bases same_place test w apart c n su ∙ ap (λ (x : DwUnit Place). bases_in x) (sym at.is)

    role_of : (v : DwUnit Place) → In v w.own → (p : Place) → In p (entry_keys v) → c.role p ≡ holder_of false v.kind
    role_of v there p key = ap (λ (o : Option (DwUnit Place)). role_in o) (owner_is same_place test w.own own_once v there p key)

    slots_of : (v : DwUnit Place) → In v w.own → (p : Place) → In p (entry_keys v) → c.slots p ≡ (bases_in v).slots
    slots_of v there p key = ap (λ (o : Option (DwUnit Place)). slots_of_unit o) (owner_is same_place test w.own own_once v there p key)

    FactsFor : UnitRole → Place → Sources → Bases → Type 0
    FactsFor role p src origin = RoleFacts role c (told f) (own_of (new n su)) p src origin

    -- an entry of the unit itself
    from_own : Said f 0 at.unit → (root : Bool) → (d : Node Place) → In d.at (entry_keys at.unit)
        → ((raw : RawUnit) → (said : SaidIn f 0 raw at.unit) → NodeSaid (scope_of (around f 0) raw) (IsFree (root_tag raw.kind) root) raw d) → Origin n su d
    unfolding FactsFor
    from_own said root d key node =
        let raw = said.0 in
        let s = scope_of (around f 0) raw in
        let origin : bases_of s ≡ bases_in at.unit = bases_said 0 raw at.unit said.1 in
        let bases : (own_of (new n su)).bases ≡ bases_of s = own_bases ∙ sym origin in
        let role : c.role d.at ≡ OldUnit = role_of at.unit at.own d.at key ∙ holder_whole at.unit.kind at.whole in
        let begins : at.unit.at ≡ at_file 0 raw.at = said.1.means.place ∙ ap (λ (g : ℕ → Place). g raw.at) said.1.place in
        let place : at.unit.at.at ≡ raw.at = ap (λ (p : Place). p.at) begins in
        record {
          number = 0;
          known = inl refl;
          raw = raw;
          unit = at.unit;
          said = said.1;
          root = root;
          node = node raw said.1;
          facts = subst (λ (r : UnitRole). FactsFor r d.at (around f 0).sources (bases_of s)) (sym role) (subst (λ (src : Sources). FactsFor OldUnit d.at src (bases_of s)) (sym said.1.sources) (told_of, bases));
          here = here_own;
          lists = inl (refl, ap (number_of_unit f) (sym place) ∙ unit_numbered n at.unit at.whole_nth, ap (λ (x : DwUnit Place). x.at) (sym at.is) ∙ begins, bases);
        }

    -- one of a partial unit of the file
    from_part : (v : DwUnit Place) → IsPart same_place test all apart at.unit v → In v w.own → Said f 0 v → (d : Node Place) → In d (nodes v.below) → Origin n su d
    unfolding FactsFor
    from_part v is there said d key =
        let raw = said.0 in
        let s = scope_of (around f 0) raw in
        let in_keys : In d.at (entry_keys v) = inr (node_key v.below d key) in
        let role : c.role d.at ≡ NewUnit = role_of v there d.at in_keys ∙ holder_part v.kind is.partial in
        let slots : c.slots d.at ≡ (bases_of s).slots = slots_of v there d.at in_keys ∙ sym (ap (λ (b : Bases). b.slots) (bases_said 0 raw v said.1)) in
        record {
          number = 0;
          known = inl refl;
          raw = raw;
          unit = v;
          said = said.1;
          root = false;
          node = node_said f 0 raw v said.1 d key;
          facts = subst (λ (r : UnitRole). FactsFor r d.at (around f 0).sources (bases_of s)) (sym role) (subst (λ (src : Sources). FactsFor NewUnit d.at src (bases_of s)) (sym said.1.sources) (told_of, slots, refl));
          here = here_part v is;
          lists = inr (raw_partial s raw.kind v.kind said.1.means.kind is.partial, refl);
        }

    -- one of the common file
    from_common : (v : DwUnit Place) → IsPart same_place test all apart at.unit v → In v w.common → Said f 1 v → AreBytes (part f 1).bytes → (d : Node Place) → In d (nodes v.below) → Origin n su d
    unfolding FactsFor unit_keys
    from_common v is there said are d key =
        let raw = said.0 in
        let s = scope_of (around f 1) raw in
        let n' = node_said f 1 raw v said.1 d key in
        let at_one : d.at ≡ at_file 1 n'.raw.at = n'.means.place ∙ ap (λ (g : ℕ → Place). g n'.raw.at) said.1.place in
        let none : (x : DwUnit Place) → In x w.own → In d.at (entry_keys x) → ⊥ = λ x x_is x_key.
        (let zero_file : d.at.file ≡ 0 = own_file d.at (unit_key w.own x d.at x_is (inr x_key)) in
        let one_file : d.at.file ≡ 1 = ap (λ (p : Place). p.file) at_one in omega (arith, zero_file, one_file)) in
        let role : c.role d.at ≡ CommonUnit = ap (λ (o : Option (DwUnit Place)). role_in o) (owner_none same_place test w.own d.at none) in
        record {
          number = 1;
          known = inr refl;
          raw = raw;
          unit = v;
          said = said.1;
          root = false;
          node = n';
          facts = subst (λ (r : UnitRole). FactsFor r d.at (around f 1).sources (bases_of s)) (sym role)
              (subst (λ (src : Sources). FactsFor CommonUnit d.at src (bases_of s)) (sym said.1.sources) (section_bytes (part f 1).bytes 3 are, section_bytes (part f 1).bytes 4 are));
          here = here_part v is;
          lists = inr (raw_partial s raw.kind v.kind said.1.means.kind is.partial, refl);
        }

    own_unit : (v : DwUnit Place) → In v w.own → Said f 0 v
    own_unit v there = own_said f.common f.file reads bytes.0 v there

    pub root_origin : Origin n su su.root
    root_origin =
        subst (λ (x : DwUnit Place). Origin n su x.root) at.is
        (from_own (own_unit at.unit at.own) true at.unit.root (inl refl) (λ raw said. root_said f 0 raw at.unit said))

    pub node_origin : (d : Node Place) → In d (nodes su.below) → Origin n su d
    node_origin d there = elim (node_from same_place test all apart at.unit d (subst (λ (x : DwUnit Place). In d (nodes x.below)) (sym at.is) there)) [
      | inl own ↦ from_own (own_unit at.unit at.own) false d (inr (node_key at.unit.below d own)) (λ raw said. node_said f 0 raw at.unit said d own)
      | inr x ↦ elim (in_cases x.0 w.own w.common x.1.there) [
        | inl o ↦ from_part x.0 x.1 o (own_unit x.0 o) d x.2
        | inr k ↦ from_common x.0 x.1 k (common_said f.common f.file reads.common bytes.1 x.0 k) (is_of_bytes f.common f.file bytes.1 reads x.0 k) d x.2
      ]
    ]
