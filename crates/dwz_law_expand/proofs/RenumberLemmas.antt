-- Location lists and address ranges have the numbers of where things stand after.
use Rattle.std.proofs.Common.{◌≡◌, ◌⊎◌, ℕ, suc, ◌-◌, Bool, true, false, List, [], ◌∷◌, ◌++◌, ◌==◌, if◌then◌else◌, map, Option, Some, None, refl, sym, ap, subst, ◌∙◌, inl, inr}
use Rattle.std.proofs.lemmas.List.{map-append}
use Rattle.std.proofs.lemmas.Bool.{eqb-true}
use Rattle.dwz_def_reading.specs.Base.{Base}
use Rattle.dwz_def_reading.specs.Lists.{Each, In, Nth}
use Rattle.dwz_def_reading.proofs.ListFacts.{got_in, in_cases}
use Rattle.dwz_def_reading.proofs.Members.{each_append}
use Rattle.dwz_def_reading.specs.Documents.{Attr, DwUnit, Node}
use Rattle.dwz_def_reading.specs.Classes.{Class, OfListIndex, OfOffset, class_of, names_list}
use Rattle.dwz_def_reading.specs.Entries.{RawAttr, RawEntry}
use Rattle.dwz_def_reading.specs.Exprs.{ExprContext}
use Rattle.dwz_def_reading.specs.LocLists.{SpellsList}
use Rattle.dwz_def_reading.specs.Sequences.{StandsFrom}
use Rattle.dwz_def_reading.specs.Files.{sources_of}
use Rattle.dwz_def_reading.specs.Meanings.{Around, MeaningContext, Sources, scope_of, without_siblings}
use Rattle.dwz_def_reading.specs.NamedLists.{AnyEntryNames, AnyNames, AnyUnitNames, NamesAs, NamesList, list_of_attr, lists_of_units}
use Rattle.dwz_def_reading.specs.PatchedLists.{IsPatched, with_number, with_operands}
use Rattle.dwz_def_reading.specs.Places.{Place, at_file}
use Rattle.dwz_def_reading.specs.Shared.{ListOperand, NamedList, NoneShared, of_unit, operands_in_lists, own_operands}
use Rattle.dwz_def_reading.specs.Trees.{End, Entry, Forest}
use Rattle.dwz_def_reading.specs.Units.{RawUnit, root_tag}
use Rattle.dwz_def_reading.specs.declared.exprs.Operand.{Operand}
use Rattle.dwz_def_reading.proofs.NamedLemmas.{attr_is, units_name}
use Rattle.dwz_def_reading.proofs.PassLemmas.{own_in}
use Rattle.dwz_def_encoding.specs.Meant.{AreRenumbered, led_to, number_after, place_counted}
use Rattle.dwz_def_encoding.specs.Writing.{base_place}
use Rattle.dwz_def_encoding.proofs.ListsAgain.{none_fewer}
use Rattle.dwz_def_output.proofs.ListsStand.{all_stand}
use Rattle.dwz_def_output.proofs.ListsWritten.{AllStand, GivesOne, number_for, number_own, owner, patched, renewed}
use Rattle.dwz_def_expand.specs.OneFile.{IsStoredAmong, IsStoredIn, OneFile, ReadsOne, StoredAttr, around, part, said_by_file, same_place, stored_attr}
use Rattle.dwz_def_expand.specs.Output.{Spoken, forms, in_list, in_lists, in_value, in_values, new_lists, new_places, new_start, number_of_operand, number_of_unit, sites_of_file, sources_by_file}
use Rattle.dwz_def_expand.specs.Refusals.{AllCopied, Site, nodes, sites_from, sites_in, sites_of}
use Rattle.dwz_def_expand.specs.Source.{copy_for, source_units}
use Rattle.dwz_law_expand.specs.Told.{IsOfBytes, lists_of_sites, lists_of_value, told}
use Rattle.dwz_law_expand.proofs.FitLemmas.{NoneNarrow, start_is}
use Rattle.dwz_law_expand.proofs.FoundLemmas.{found_attr}
use Rattle.dwz_law_expand.proofs.HeldLemmas.{IsFree}
use Rattle.dwz_law_expand.proofs.OriginLemmas.{Origin, node_origin, root_origin}
use Rattle.dwz_law_expand.proofs.SaysLemmas.{IsOwnList, no_list, x}
use Rattle.dwz_law_expand.proofs.SiteLemmas.{site}

-- ---- each site is of a value of a source

each_of_attrs : {P : Type 0} (Q : Site P → Type 0) (n : ℕ) (source : P) (s : ℕ) (attrs : List (Attr P)) → ((i : ℕ) (a : Attr P) → Nth s attrs i a → Q (site n source i a)) → Each Q (sites_of n source s attrs)
each_of_attrs Q n source s [] all = tt
each_of_attrs Q n source s (a ∷ attrs) all = (all s a (inl (refl, refl)), each_of_attrs Q n source (suc s) attrs (λ i b h. all i b (inr h)))

each_in_nodes : {P : Type 0} (Q : Site P → Type 0) (n : ℕ) (ds : List (Node P)) → ((d : Node P) → In d ds → (i : ℕ) (a : Attr P) → Nth 0 d.attrs i a → Q (site n d.at i a)) → Each Q (sites_in n ds)
unfolding sites_in
each_in_nodes Q n [] all = tt
each_in_nodes Q n (d ∷ ds) all =
    each_append Q (sites_of n d.at 0 d.attrs) (sites_in n ds) (each_of_attrs Q n d.at 0 d.attrs (all d (inl refl))) (each_in_nodes Q n ds (λ e is. all e (inr is)))

pub each_site : {P : Type 0} (Q : Site P → Type 0) (s : ℕ) (units : List (DwUnit P))
    → ((n : ℕ) (u : DwUnit P) → Nth s units n u → (d : Node P) → In d (u.root ∷ nodes u.below) → (i : ℕ) (a : Attr P) → Nth 0 d.attrs i a → Q (site n d.at i a)) → Each Q (sites_from s units)
unfolding sites_from
each_site Q s [] all = tt
each_site Q s (u ∷ units) all =
    each_append Q (sites_in s (u.root ∷ nodes u.below)) (sites_from (suc s) units) (each_in_nodes Q s (u.root ∷ nodes u.below) (all s u (inl (refl, refl)))) (each_site Q (suc s) units (λ n v h. all n v (inr h)))

-- ---- a list that an entry of a unit names

module _ (s : MeaningContext Place) (l : NamedList) where
  any_of : (attrs : List RawAttr) (a : RawAttr) → In a attrs → NamesList s a l → AnyNames s attrs l
  any_of [] a is h = absurd is
  any_of (b ∷ attrs) a (inl e) h = inl (subst (λ (w : RawAttr). NamesList s w l) (sym e) h)
  any_of (b ∷ attrs) a (inr r) h = inr (any_of attrs a r h)

  any_among : (f : Forest RawEntry) (e : RawEntry) → IsStoredAmong e f → AnyNames s (without_siblings e.attrs) l → AnyEntryNames s f l
  any_among End e is h = absurd is
  any_among (Entry d c n) e (inl q) h = inl (subst (λ (w : RawEntry). AnyNames s (without_siblings w.attrs) l) (sym q) h)
  any_among (Entry d c n) e (inr (inl q)) h = inr (inl (any_among c e q h))
  any_among (Entry d c n) e (inr (inr q)) h = inr (inr (any_among n e q h))

any_unit : (a : Around Place) (raw : List RawUnit) (u : RawUnit) → In u raw → (e : RawEntry) → IsStoredIn e u → (old : RawAttr) → In old (without_siblings e.attrs) → (l : NamedList) → NamesList (scope_of a u) old l
    → AnyUnitNames a raw l
any_unit a [] u there e is old member l h = absurd there
any_unit a (v ∷ raw) u (inl q) e is old member l h = subst (λ (w : RawUnit). AnyUnitNames a (w ∷ raw) l) (sym q) (inl (by is)) where
  by : IsStoredIn e u → AnyNames (scope_of a u) (without_siblings u.root.attrs) l ⊎ AnyEntryNames (scope_of a u) u.below l
  by (inl root) = inl (subst (λ (w : RawEntry). AnyNames (scope_of a u) (without_siblings w.attrs) l) (sym root) (any_of (scope_of a u) l (without_siblings e.attrs) old member h))
  by (inr below) = inr (any_among (scope_of a u) l u.below e below (any_of (scope_of a u) l (without_siblings e.attrs) old member h))
any_unit a (v ∷ raw) u (inr r) e is old member l h = inr (any_unit a raw u r e is old member l h)

names_unit : (s : MeaningContext Place) (a : RawAttr) (l : NamedList) → NamesList s a l → (l.unit ≡ s.unit) × (((class_of a.pair.form ≡ OfOffset) × (names_list a.pair.name ≡ true)) ⊎ (class_of a.pair.form ≡ OfListIndex))
names_unit s a l h = by (class_of a.pair.form) refl h where
  by : (c : Class) → class_of a.pair.form ≡ c → NamesAs c s a l → (l.unit ≡ s.unit) × (((class_of a.pair.form ≡ OfOffset) × (names_list a.pair.name ≡ true)) ⊎ (class_of a.pair.form ≡ OfListIndex))
  by OfOffset e h = (h.1.unit, inl (e, h.0))
  by OfListIndex e h = (h.named.unit, inr e)
  by _ e h = absurd h

some_same : {X : Type 0} (y z : X) → Some y ≡ Some z → y ≡ z
some_same y z e = cc

module _ (f : OneFile) (reads : ReadsOne f) (bytes : IsOfBytes f) (copied : AllCopied same_place (forms f) (said_by_file f)) (none : NoneNarrow f) where
  -- a list of a site is one that the file names, in the unit of the site
  pub record IsSiteList (s : Site Place) (unit : ℕ) (l : NamedList) : Type 0 where
    pub of : l.unit ≡ unit
    pub number : number_of_unit f l.unit ≡ s.unit
    pub start : (new_places f).place (copy_for same_place (sources_by_file f) s.unit (at_file 0 l.unit)) ≡ new_start f s.unit
    pub there : In l (lists_of_units (around f 0) f.file.raw)

  abbrev pub SiteLists : Site Place → Type 0
  SiteLists s = (v : StoredAttr) → stored_attr f s.source s.index ≡ Some v → (l : NamedList) → In l (list_of_attr v.scope v.attr) → IsSiteList s v.scope.unit l

  module _ (n : ℕ) (su : DwUnit Place) (nth : Nth 0 (source_units same_place (said_by_file f)) n su) (d : Node Place) (is_source : In d (su.root ∷ nodes su.below)) (i : ℕ) (a : Attr Place) (attr_nth : Nth 0 d.attrs i a)
    where
      of_list : (origin : Origin f reads bytes n su d) → ((class_of a.form ≡ OfOffset) × (names_list a.name ≡ true)) ⊎ (class_of a.form ≡ OfListIndex)
          → IsOwnList f reads bytes copied n su nth d is_source origin i a attr_nth
      of_list origin listed = elim origin.lists [ inl is ↦ is | inr is ↦ absurd (no_list f reads bytes copied n su nth d is_source origin i a attr_nth is listed) ]

      with_origin : (origin : Origin f reads bytes n su d) → SiteLists (site n d.at i a)
      with_origin origin v found l there =
          let s = scope_of (around f origin.number) origin.raw in
          let y = x f reads bytes copied n su nth d is_source origin i a attr_nth in
          let stored = found_attr f reads origin.number origin.raw origin.unit origin.said (IsFree (root_tag origin.raw.kind) origin.root) d origin.node i a y in
          let same : v ≡ record { scope = s; attr = y.old } = some_same v (record { scope = s; attr = y.old }) (sym found ∙ stored) in
          let names : NamesList s y.old l = (attr_is s y.old l).0 (subst (λ (w : StoredAttr). In l (list_of_attr w.scope w.attr)) same there) in
          let o = names_unit s y.old l names in
          let form : y.old.pair.form ≡ a.form = sym y.means.form in
          let name : y.old.pair.name ≡ a.name = sym y.means.name in
          let listed : ((class_of a.form ≡ OfOffset) × (names_list a.name ≡ true)) ⊎ (class_of a.form ≡ OfListIndex) =
          subst (λ (k : ℕ). ((class_of k ≡ OfOffset) × (names_list a.name ≡ true)) ⊎ (class_of k ≡ OfListIndex)) form
          (subst (λ (k : ℕ). ((class_of y.old.pair.form ≡ OfOffset) × (names_list k ≡ true)) ⊎ (class_of y.old.pair.form ≡ OfListIndex)) name o.1) in
          let is = of_list origin listed in
          let any = any_unit (around f origin.number) (part f origin.number).raw origin.raw origin.said.there origin.node.raw origin.node.stored y.old (got_in (without_siblings origin.node.raw.attrs) i y.old y.got) l names in
          record {
            of = o.0 ∙ sym (ap (λ (w : StoredAttr). w.scope.unit) same);
            number = ap (number_of_unit f) o.0 ∙ is.1;
            start = ap (λ (u : ℕ). (new_places f).place (copy_for same_place (sources_by_file f) n (at_file 0 u))) o.0
                ∙ ap (λ (p : Place). (new_places f).place (copy_for same_place (sources_by_file f) n p)) (sym is.2)
                ∙ sym (start_is f reads bytes copied none n su nth);
            there = subst (λ (k : ℕ). In l (lists_of_units (around f k) (part f k).raw)) is.0 ((units_name (around f origin.number) (part f origin.number).raw l).1 any);
          }

      pub site_lists : SiteLists (site n d.at i a)
      site_lists = elim is_source [
        | inl e ↦ with_origin (subst (λ (q : Node Place). Origin f reads bytes n su q) e (root_origin f reads bytes n su nth))
        | inr r ↦ with_origin (node_origin f reads bytes n su nth d r)
      ]

  all_sites : Each SiteLists (sites_of_file f)
  all_sites = each_site SiteLists 0 (source_units same_place (said_by_file f)) site_lists

  -- ---- the lists that are told

  into_from : (some : List (Site Place)) → Each SiteLists some → (l : NamedList) → In l (lists_of_sites f some) → In l (lists_of_units (around f 0) f.file.raw)
  unfolding lists_of_sites
  into_from [] all l there = absurd there
  into_from (s ∷ some) all l there =
      elim (in_cases l (if s.source.file == 0 then lists_of_value (stored_attr f s.source s.index) else []) (lists_of_sites f some) there) [
        | inl h ↦ here (s.source.file == 0) (stored_attr f s.source s.index) refl h
        | inr r ↦ into_from some all.1 l r
      ]
    where
      here : (b : Bool) (o : Option StoredAttr) → stored_attr f s.source s.index ≡ o → In l (if b then lists_of_value o else []) → In l (lists_of_units (around f 0) f.file.raw)
      here false o e h = absurd h
      here true None e h = absurd h
      here true (Some v) e h = (all.0 v e l h).there

  pub named_in_file : (l : NamedList) → In l (told f).named → In l (lists_of_units (around f 0) f.file.raw)
  named_in_file l there = into_from (sites_of_file f) all_sites l there

  pub none_shared : NoneShared (lists_of_units (around f 0) f.file.raw) → NoneShared (told f).named
  none_shared h = none_fewer (told f).named (lists_of_units (around f 0) f.file.raw) named_in_file h

  -- ---- their numbers

  abbrev new_number : ListOperand → ℕ
  new_number o = number_after (new_places f) ((told f).name o.unit) o.unit o.operand

  abbrev with_new : Spoken → Operand
  with_new o = with_number (λ at. number_of_operand f o) o.operand

  abbrev spoken_of : Site Place → StoredAttr → Operand → Spoken
  spoken_of s v o = record { unit = s.unit; operand = o; target = at_file s.source.file (led_to v.scope.unit o) }

  gives_one : GivesOne new_number
  gives_one o p unit base number =
      let by : ℕ → Base → ℕ → ℕ = λ u b k. (new_places f).place ((told f).name u (place_counted b u k)) - base_place ((new_places f).place ((told f).name u u)) b in
      ap (λ (u : ℕ). by u o.operand.base o.operand.number) unit ∙ ap (λ (b : Base). by p.unit b o.operand.number) base ∙ ap (by p.unit p.operand.base) number

  one_number : (s : Site Place) → s.source.file ≡ 0 → (v : StoredAttr) (l : NamedList) → IsSiteList s v.scope.unit l → (o : ListOperand) → o.unit ≡ l.unit → new_number o ≡ number_of_operand f (spoken_of s v o.operand)
  one_number s file v l is o unit =
      let stands : ℕ → Place → ℕ = λ k p. (new_places f).place (copy_for same_place (sources_by_file f) k p) in
      ap (λ (u : ℕ). stands (number_of_unit f u) (at_file 0 (led_to u o.operand)) - base_place (stands (number_of_unit f u) (at_file 0 u)) o.operand.base) unit
      ∙ ap (λ (k : ℕ). stands k (at_file 0 (led_to l.unit o.operand)) - base_place (stands k (at_file 0 l.unit)) o.operand.base) is.number
      ∙ ap (λ (u : ℕ). stands s.unit (at_file 0 (led_to l.unit o.operand)) - base_place u o.operand.base) is.start
      ∙ ap (λ (u : ℕ). stands s.unit (at_file 0 (led_to u o.operand)) - base_place (new_start f s.unit) o.operand.base) is.of
      ∙ ap (λ (k : ℕ). stands s.unit (at_file k (led_to v.scope.unit o.operand)) - base_place (new_start f s.unit) o.operand.base) (sym file)

  renumbered : (s : Site Place) (v : StoredAttr) (os : List ListOperand) → ((o : ListOperand) → In o os → new_number o ≡ number_of_operand f (spoken_of s v o.operand))
      → map (renewed new_number) os ≡ map with_new (map (spoken_of s v) (map (λ o. o.operand) os))
  renumbered s v [] all = refl
  renumbered s v (o ∷ os) all =
      ap (λ (k : ℕ). with_number (λ at. k) o.operand ∷ map (renewed new_number) os) (all o (inl refl)) ∙ ap (λ (w : List Operand). with_new (spoken_of s v o.operand) ∷ w) (renumbered s v os (λ p is. all p (inr is)))

  joined : (xs ys : List NamedList) → operands_in_lists (xs ++ ys) ≡ operands_in_lists xs ++ operands_in_lists ys
  unfolding operands_in_lists
  joined [] ys = refl
  joined (l ∷ xs) ys = ap (λ (w : List ListOperand). map (of_unit l.unit) (own_operands l) ++ w) (joined xs ys) ∙ assoc (map (of_unit l.unit) (own_operands l)) (operands_in_lists xs) (operands_in_lists ys) where
    assoc : (a b c : List ListOperand) → a ++ (b ++ c) ≡ (a ++ b) ++ c
    assoc [] b c = refl
    assoc (p ∷ a) b c = ap (λ (w : List ListOperand). p ∷ w) (assoc a b c)

  -- of one site
  site_numbers : (s : Site Place) → SiteLists s → (b : Bool) → (s.source.file == 0) ≡ b → (o : Option StoredAttr) → stored_attr f s.source s.index ≡ o
      → map (renewed new_number) (operands_in_lists (if b then lists_of_value o else [])) ≡ map with_new (if b then in_value in_list s o else [])
  unfolding operands_in_lists
  site_numbers s all false e o found = refl
  site_numbers s all true e None found = refl
  site_numbers s all true e (Some v) found =
      renumbered s v (operands_in_lists (list_of_attr v.scope v.attr))
      (λ o there. (let w = owner (list_of_attr v.scope v.attr) o there in one_number s (eqb-true s.source.file 0 e) v w.list (all v found w.list w.there) o w.unit))

  numbers_from : (some : List (Site Place)) → Each SiteLists some → map (renewed new_number) (operands_in_lists (lists_of_sites f some)) ≡ map with_new (in_values f in_list 0 some)
  unfolding lists_of_sites in_values operands_in_lists
  numbers_from [] all = refl
  numbers_from (s ∷ some) all =
      let first = if s.source.file == 0 then lists_of_value (stored_attr f s.source s.index) else [] in
      let second = if s.source.file == 0 then in_value in_list s (stored_attr f s.source s.index) else [] in
      ap (map (renewed new_number)) (joined first (lists_of_sites f some)) ∙ map-append (renewed new_number) (operands_in_lists first) (operands_in_lists (lists_of_sites f some))
      ∙ ap (λ (w : List Operand). w ++ map (renewed new_number) (operands_in_lists (lists_of_sites f some))) (site_numbers s all.0 (s.source.file == 0) refl (stored_attr f s.source s.index) refl)
      ∙ ap (λ (w : List Operand). map with_new second ++ w) (numbers_from some all.1)
      ∙ sym (map-append with_new second (in_values f in_list 0 some))

  stand : (around f 0).sources ≡ sources_of f.file.bytes → AllStand (told f).named (told f).lists
  stand same l there = subst (λ (w : Sources). (c : ExprContext) × StandsFrom (SpellsList c) w.lists l.from l.list) same (all_stand (around f 0) f.file.raw l (named_in_file l there))

  pub lists_renumbered : (around f 0).sources ≡ sources_of f.file.bytes → NoneShared (lists_of_units (around f 0) f.file.raw) → AreRenumbered (new_places f) (told f) (new_lists f)
  unfolding new_lists
  lists_renumbered same free =
      let named = (told f).named in
      let section = (told f).lists in
      let all = operands_in_lists named in
      let shares = none_shared free in
      let stands = stand same in
      let is : with_operands (map (renewed new_number) all) section ≡ with_operands (map with_new (in_lists f)) section = ap (λ (os : List Operand). with_operands os section) (numbers_from (sites_of_file f) all_sites) in
      record {
        number = number_for new_number all;
        are = λ l there o own.
            number_own named section shares stands new_number gives_one all (λ p p_in. p_in) (of_unit l.unit o) (own_in l o named there own);
        patched = subst (λ (w : List ℕ). IsPatched named (number_for new_number all) section w) is (patched named section shares stands new_number gives_one);
      }
