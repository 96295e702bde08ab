-- The entries below a root, or in a space, with their tops: what is built of them shows their names.
use Rattle.std.proofs.Common.{◌≡◌, ℕ, suc, ◌+◌, ◌<◌, true, false, List, [], ◌∷◌, ◌++◌, length, Option, Some, None, slice_get, inl, inr, refl, sym, ap, subst, ◌∙◌, arith}
use Rattle.std.specs.Option.{is_some}
use Rattle.std.proofs.lemmas.List.{append-nil, append_assoc, length-append}
use Rattle.dwz_def_reading.specs.Documents.{DwUnit, Entries, Node}
use Rattle.dwz_def_reading.specs.Lists.{In}
use Rattle.dwz_def_reading.specs.Trees.{End, Entry, size}
use Rattle.dwz_def_reading.proofs.ListFacts.{in_left, in_right}
use Rattle.dwz_def_tops.specs.Spaces.{space_text, tops_under}
use Rattle.dwz_def_cross.specs.Tops.{CrossTop}
use Rattle.dwz_def_check.specs.CrossNames.{AtPath, CrossName, PartSpace, WholeSpace, cross_names_below, cross_names_under, cross_tops_in, unit_tops}
use Rattle.dwz_def_check.specs.CrossNodes.{spaces_in}
use Rattle.dwz_graph.specs.Steps.{is_space}
use Rattle.dwz_check_index.specs.declared.index.CrossStarts.{CrossStarts}
use Rattle.dwz_check_index.specs.declared.index.Stands.{Stands}
use Rattle.dwz_check_index.specs.declared.index.Stands.TheVariants.{InTop, PartialSpace, UnitSpace}
use Rattle.dwz_check_index.specs.declared.index.Step.{Step}
use Rattle.dwz_check_index.specs.Building.{lone_at, step, top_entry, with_list, with_outer, with_steps, with_top}
use Rattle.dwz_check_index.specs.Index.{Called, CrossIndex, IsInner, Leads, ListedEntry, listed, names_in, part_above, stands_of, whole_above}
use Rattle.dwz_check_index.proofs.ListBuilding.{list_space, list_top}
use Rattle.dwz_check_index.proofs.Shown.{Built, Lone, Steps, Tops, below_shown, entry_here, name_here, push_lone, push_step, push_top, steps_as}

-- ---- lists with a top, or a space, first

module _ (e : Node ℕ) (c n : Entries ℕ) where
  under_top : (space : List (List ℕ) → CrossName) (texts : List (List ℕ)) (top : ℕ) → space_text e ≡ None
      → cross_names_under space texts top (Entry e c n) ≡ (e.at, AtPath top []) ∷ (cross_names_below top [] 0 c ++ cross_names_under space texts (suc top) n)
  unfolding cross_names_under
  under_top space texts top h = rw (h, cross_names_under) refl

  under_space : (space : List (List ℕ) → CrossName) (texts : List (List ℕ)) (top : ℕ) (text : List ℕ) → space_text e ≡ Some text
      → cross_names_under space texts top (Entry e c n)
      ≡ (e.at, space (texts ++ text ∷ [])) ∷ (cross_names_under space (texts ++ text ∷ []) top c ++ cross_names_under space texts (top + tops_under c) n)
  unfolding cross_names_under
  under_space space texts top text h = rw (h, cross_names_under) refl

  tops_top : (texts : List (List ℕ)) → space_text e ≡ None → cross_tops_in texts (Entry e c n) ≡ record { names = texts; node = e; below = c } ∷ cross_tops_in texts n
  unfolding cross_tops_in
  tops_top texts h = rw (h, cross_tops_in) refl

  tops_space : (texts : List (List ℕ)) (text : List ℕ) → space_text e ≡ Some text → cross_tops_in texts (Entry e c n) ≡ cross_tops_in (texts ++ text ∷ []) c ++ cross_tops_in texts n
  unfolding cross_tops_in
  tops_space texts text h = rw (h, cross_tops_in) refl

  pub spaces_top : space_text e ≡ None → spaces_in (Entry e c n) ≡ spaces_in n
  unfolding spaces_in
  spaces_top h = rw (h, spaces_in) refl

  pub spaces_space : (text : List ℕ) → space_text e ≡ Some text → spaces_in (Entry e c n) ≡ e ∷ (spaces_in c ++ spaces_in n)
  unfolding spaces_in
  spaces_space text h = rw (h, spaces_in) refl

  under_none : space_text e ≡ None → tops_under (Entry e c n) ≡ suc (tops_under n)
  unfolding tops_under
  under_none h = rw (h, tops_under) refl

  under_some : (text : List ℕ) → space_text e ≡ Some text → tops_under (Entry e c n) ≡ tops_under c + tops_under n
  unfolding tops_under
  under_some text h = rw (h, tops_under) refl

-- ---- what a root and its spaces are called

pub whole_inner : (n : ℕ) (texts : List (List ℕ)) (text : List ℕ) → whole_above n (texts ++ text ∷ []) ≡ WholeSpace n (texts ++ text ∷ [])
whole_inner n [] text = refl
whole_inner n (t ∷ texts) text = refl

pub whole_names : (n : ℕ) (texts : List (List ℕ)) → names_in (whole_above n texts) ≡ texts
whole_names n [] = refl
whole_names n (t ∷ texts) = refl

pub part_inner : (texts : List (List ℕ)) (text : List ℕ) → part_above (texts ++ text ∷ []) ≡ PartSpace (texts ++ text ∷ [])
part_inner [] text = refl
part_inner (t ∷ texts) text = refl

pub part_names : (texts : List (List ℕ)) → names_in (part_above texts) ≡ texts
part_names [] = refl
part_names (t ∷ texts) = refl

pub no_spaces : spaces_in {P = ℕ} End ≡ []
unfolding spaces_in
no_spaces = refl

-- ---- how many tops are added

pub tops_long : (unit : ℕ) (stands : Stands) (up i first : ℕ) (f : Entries ℕ) (x : CrossIndex) → length (with_list is_space unit stands up i first f x).tops ≡ length x.tops + tops_under f
unfolding with_list tops_under
tops_long unit stands up i first End x = omega arith
tops_long unit stands up i first (Entry e c n) x =
    by (tops_long unit stands up (suc i) (first + 1 + size c) n (with_top unit up first c x)) (tops_long unit stands up (suc i) (first + 1 + size c) n inside)
    (tops_long unit stands first 0 (first + 1) c (with_outer stands up i first x)) (space_text e)
  where
    inside : CrossIndex
    inside = with_list is_space unit stands first 0 (first + 1) c (with_outer stands up i first x)

    a : CrossIndex
    a = with_list is_space unit stands up (suc i) (first + 1 + size c) n (with_top unit up first c x)

    b : CrossIndex
    b = with_list is_space unit stands up (suc i) (first + 1 + size c) n inside

    by : length a.tops ≡ length (with_top unit up first c x).tops + tops_under n → length b.tops ≡ length inside.tops + tops_under n → length inside.tops ≡ length x.tops + tops_under c
        → (o : Option (List ℕ)) → length (elim (is_some o) as (λ _. CrossIndex) [ false ↦ a | true ↦ b ]).tops
        ≡ length x.tops + (elim o as (λ _. ℕ) [ None ↦ suc (tops_under n) | Some text ↦ tops_under c + tops_under n ])
    by p q r None = omega (arith, p, length-append x.tops (top_entry first unit up ∷ []))
    by p q r (Some text) = omega (arith, q, r)

module _ (starts : CrossStarts) (said : List (DwUnit ℕ)) (names : List Called) (entries : List (ListedEntry ℕ)) (tops : List (CrossTop ℕ)) (lone : List (Node ℕ)) where
  abbrev BuiltSo : CrossIndex → ℕ → List Called → List (ListedEntry ℕ) → List (CrossTop ℕ) → List (Node ℕ) → Type 0
  BuiltSo x first ns es ts ls = Built starts said names entries tops lone x first ns es ts ls

  pub built_as : (x : CrossIndex) (first : ℕ) (ns others : List Called) (es more : List (ListedEntry ℕ)) (ts us : List (CrossTop ℕ)) (ls ms : List (Node ℕ))
      → ns ≡ others → es ≡ more → ts ≡ us → ls ≡ ms → BuiltSo x first ns es ts ls → BuiltSo x first others more us ms
  built_as x first ns others es more ts us ls ms a b d e h = record {
    steps = steps_as starts said names entries tops lone x.steps first ns others es more a b h.steps;
    tops_so = subst (Tops starts said names entries tops lone x.tops) d h.tops_so;
    lone_so = subst (Lone starts said names entries tops lone x.lone) e h.lone_so;
    starts_are = h.starts_are;
  }

  pub built_to : (x : CrossIndex) (m n : ℕ) (ns : List Called) (es : List (ListedEntry ℕ)) (ts : List (CrossTop ℕ)) (ls : List (Node ℕ)) → m ≡ n → BuiltSo x m ns es ts ls → BuiltSo x n ns es ts ls
  built_to x m n ns es ts ls e h = subst (λ (k : ℕ). BuiltSo x k ns es ts ls) e h

  -- what is so called, and what of these has numbers of its own
  pub record Family (space above : List (List ℕ) → CrossName) (stands : Stands) : Type 0 where
    pub stands_are : (texts : List (List ℕ)) → stands ≡ stands_of (space texts)
    pub inner : (texts : List (List ℕ)) (text : List ℕ) → above (texts ++ text ∷ []) ≡ space (texts ++ text ∷ [])
    pub leads : (i : ℕ) (x : Step) (d : Node ℕ) (texts : List (List ℕ)) → IsInner names i x d above texts → Leads names i x d (space texts)
    pub names_are : (texts : List (List ℕ)) → names_in (above texts) ≡ texts
    pub here : Node ℕ → List (Node ℕ)
    pub all : Entries ℕ → List (Node ℕ)
    pub none : all End ≡ []
    pub at_top : (e : Node ℕ) (c n : Entries ℕ) → space_text e ≡ None → all (Entry e c n) ≡ all n
    pub at_space : (e : Node ℕ) (c n : Entries ℕ) (text : List ℕ) → space_text e ≡ Some text → all (Entry e c n) ≡ here e ++ (all c ++ all n)
    pub many : (e : Node ℕ) (first : ℕ) → length (lone_at stands first) ≡ length (here e)
    pub put : (xs : List ℕ) (first : ℕ) (e : Node ℕ) (c : Entries ℕ) (ls : List (Node ℕ)) → Lone starts said names entries tops lone xs (here e ++ ls) → slice_get entries first ≡ Some (e, c)
        → Lone starts said names entries tops lone (xs ++ lone_at stands first) ls

  abbrev pub in_whole : (n : ℕ) → Family (WholeSpace n) (whole_above n) (UnitSpace n)
  in_whole n = record {
    stands_are = λ texts. refl;
    inner = whole_inner n;
    leads = λ i x d texts h. h;
    names_are = whole_names n;
    here = λ e. e ∷ [];
    all = λ f. spaces_in f;
    none = no_spaces;
    at_top = λ e c n h. spaces_top e c n h;
    at_space = λ e c n text h. spaces_space e c n text h;
    many = λ e first. refl;
    put = λ xs first e c ls h is. push_lone starts said names entries tops lone xs first e ls h (c, is);
  }

  abbrev pub in_part : Family PartSpace part_above PartialSpace
  in_part = record {
    stands_are = λ texts. refl;
    inner = part_inner;
    leads = λ i x d texts h. h;
    names_are = part_names;
    here = λ e. [];
    all = λ f. [];
    none = refl;
    at_top = λ e c n h. refl;
    at_space = λ e c n text h. refl;
    many = λ e first. refl;
    put = λ xs first e c ls h is. subst (λ (w : List ℕ). Lone starts said names entries tops lone w ls) (sym (append-nil xs)) h;
  }

  -- ---- a top, and a root or a space

  pub top_shown : (unit up first at top : ℕ) (outer : CrossName) (t : CrossTop ℕ) (u : DwUnit ℕ) (x : CrossIndex) (ns : List Called) (es : List (ListedEntry ℕ)) (ts : List (CrossTop ℕ)) (ls : List (Node ℕ))
      → slice_get said unit ≡ Some u → In t (unit_tops u.kind u) → (slice_get names first ≡ Some (t.node.at, AtPath top []) → slice_get names up ≡ Some (at, outer)) → names_in outer ≡ t.names
      → top ≡ starts.top + length x.tops
      → BuiltSo x first ((t.node.at, AtPath top []) ∷ (cross_names_below top [] 0 t.below ++ ns)) ((t.node, t.below) ∷ (listed t.below ++ es)) (t ∷ ts) ls
      → BuiltSo (with_top unit up first t.below x) (first + 1 + size t.below) ns es ts ls
  top_shown unit up first at top outer t u x ns es ts ls of_unit there outer_is texts_are top_is h =
      let name : Called = (t.node.at, AtPath top []) in
      let e : ListedEntry ℕ = (t.node, t.below) in
      let more = cross_names_below top [] 0 t.below ++ ns in
      let behind = listed t.below ++ es in
      let here = name_here starts said names entries tops lone x.steps first name e more behind h.steps in
      let entry = entry_here starts said names entries tops lone x.steps first name e more behind h.steps in
      let number : x.starts.top + length x.tops ≡ top = ap (λ (w : CrossStarts). w.top + length x.tops) h.starts_are ∙ sym top_is in
      let put = push_step starts said names entries tops lone x.steps first (step first 0 (InTop top)) name e more behind h.steps refl refl refl in
      let below = below_shown starts said names entries tops lone top [] 0 first (first + 1) t.node.at t.below (x.steps ++ step first 0 (InTop top) ∷ []) ns es here (omega arith) put in
      record {
        steps = subst (λ (k : ℕ). Steps starts said names entries tops lone (with_steps (InTop k) first 0 (first + 1) t.below (x.steps ++ step first 0 (InTop k) ∷ [])) (first + 1 + size t.below) ns es)
            (sym number) below;
        tops_so = push_top starts said names entries tops lone x.tops (top_entry first unit up) t ts h.tops_so (record {
          found = entry;
          name = (t.node.at, here ∙ ap (λ (k : ℕ). Some (t.node.at, AtPath k [])) top_is);
          outer = outer;
          outer_is = (at, outer_is here);
          names_are = texts_are;
          unit = u;
          unit_is = of_unit;
          of_unit = there;
        });
        lone_so = h.lone_so;
        starts_are = h.starts_are;
      }

  -- ---- a list

  module _ (space above : List (List ℕ) → CrossName) (stands : Stands) (fam : Family space above stands) (unit : ℕ) (u : DwUnit ℕ) (of_unit : slice_get said unit ≡ Some u) where
    abbrev Before : (texts : List (List ℕ)) (top first : ℕ) → Entries ℕ → CrossIndex → List Called → List (ListedEntry ℕ) → List (CrossTop ℕ) → List (Node ℕ) → Type 0
    Before texts top first f x ns es ts ls = BuiltSo x first (cross_names_under space texts top f ++ ns) (listed f ++ es) (cross_tops_in texts f ++ ts) (fam.all f ++ ls)

    abbrev After : (i up first : ℕ) → Entries ℕ → CrossIndex → List Called → List (ListedEntry ℕ) → List (CrossTop ℕ) → List (Node ℕ) → Type 0
    After i up first f x ns es ts ls = BuiltSo (with_list is_space unit stands up i first f x) (first + size f) ns es ts ls

    abbrev AreWithin : List (List ℕ) → Entries ℕ → Type 0
    AreWithin texts f = (t : CrossTop ℕ) → In t (cross_tops_in texts f) → In t (unit_tops u.kind u)

    abbrev IsAt : ℕ → ℕ → CrossName → Type 0
    IsAt i at name = slice_get names i ≡ Some (at, name)

    module _ (texts : List (List ℕ)) (top i up first at : ℕ) (e : Node ℕ) (c n : Entries ℕ) (x : CrossIndex) (ns : List Called) (es : List (ListedEntry ℕ)) (ts : List (CrossTop ℕ)) (ls : List (Node ℕ))
        (is : IsAt up at (above texts)) (lt : up < first) (number : top ≡ starts.top + length x.tops) (within : AreWithin texts (Entry e c n)) (before : Before texts top first (Entry e c n) x ns es ts ls) where
      abbrev Next : ℕ → Type 0
      Next more =
          (y : CrossIndex) → more ≡ starts.top + length y.tops → AreWithin texts n → Before texts more (first + 1 + size c) n y ns es ts ls
          → After (suc i) up (first + 1 + size c) n y ns es ts ls

      abbrev Inside : List ℕ → Type 0
      Inside text =
          (y : CrossIndex) (ns' : List Called) (es' : List (ListedEntry ℕ)) (ts' : List (CrossTop ℕ)) (ls' : List (Node ℕ)) → IsAt first e.at (above (texts ++ text ∷ []))
          → top ≡ starts.top + length y.tops → AreWithin (texts ++ text ∷ []) c → Before (texts ++ text ∷ []) top (first + 1) c y ns' es' ts' ls'
          → After 0 first (first + 1) c y ns' es' ts' ls'

      joined : (a b : List Called) (name : Called) → (name ∷ (a ++ b)) ++ ns ≡ name ∷ (a ++ (b ++ ns))
      joined a b name = ap (λ (w : List Called). name ∷ w) (append_assoc a b ns)

      entries_joined : listed (Entry e c n) ++ es ≡ (e, c) ∷ (listed c ++ (listed n ++ es))
      unfolding listed
      entries_joined = ap (λ (w : List (ListedEntry ℕ)). (e, c) ∷ w) (append_assoc (listed c) (listed n) es)

      behind : (y : CrossIndex) → After (suc i) up (first + 1 + size c) n y ns es ts ls
          → BuiltSo (with_list is_space unit stands up (suc i) (first + 1 + size c) n y) (first + size (Entry e c n)) ns es ts ls
      behind y h = built_to (with_list is_space unit stands up (suc i) (first + 1 + size c) n y) (first + 1 + size c + size n) (first + (size c + size n + 1)) ns es ts ls (omega arith) h

      step_top : space_text e ≡ None → Next (suc top) → After i up first (Entry e c n) x ns es ts ls
      step_top h next =
          let t : CrossTop ℕ = record { names = texts; node = e; below = c } in
          let below = cross_names_below top [] 0 c in
          let others = cross_names_under space texts (suc top) n in
          let put = top_shown unit up first at top (above texts) t u x (others ++ ns) (listed n ++ es) (cross_tops_in texts n ++ ts) (fam.all n ++ ls) of_unit
          (within t (subst (λ (w : List (CrossTop ℕ)). In t w) (sym (tops_top e c n texts h)) (inl refl))) (λ here. is) (fam.names_are texts) number
          (built_as x first (cross_names_under space texts top (Entry e c n) ++ ns) ((e.at, AtPath top []) ∷ (below ++ (others ++ ns))) (listed (Entry e c n) ++ es) ((e, c) ∷ (listed c ++ (listed n ++ es)))
          (cross_tops_in texts (Entry e c n) ++ ts) (t ∷ (cross_tops_in texts n ++ ts)) (fam.all (Entry e c n) ++ ls) (fam.all n ++ ls)
          (ap (λ (w : List Called). w ++ ns) (under_top e c n space texts top h) ∙ joined below others (e.at, AtPath top []))
          entries_joined
          (ap (λ (w : List (CrossTop ℕ)). w ++ ts) (tops_top e c n texts h))
          (ap (λ (w : List (Node ℕ)). w ++ ls) (fam.at_top e c n h)) before) in
          let many = length-append x.tops (top_entry first unit up ∷ []) in
          let y = with_top unit up first c x in
          let more : suc top ≡ starts.top + length y.tops = omega (arith, many, number) in
          subst (λ (w : CrossIndex). BuiltSo w (first + size (Entry e c n)) ns es ts ls) (sym (list_top is_space unit stands up i first e c n x (ap is_some h)))
          (behind y (next y more
          (λ t' k. within t' (subst (λ (w : List (CrossTop ℕ)). In t' w) (sym (tops_top e c n texts h)) (inr k))) put))

      step_space : (text : List ℕ) → space_text e ≡ Some text → Inside text → Next (top + tops_under c) → After i up first (Entry e c n) x ns es ts ls
      step_space text h inside next =
          let inner = texts ++ text ∷ [] in
          let name : Called = (e.at, space inner) in
          let a = cross_names_under space inner top c in
          let b = cross_names_under space texts (top + tops_under c) n in
          let s = step up i stands in
          let start = built_as x first (cross_names_under space texts top (Entry e c n) ++ ns) (name ∷ (a ++ (b ++ ns))) (listed (Entry e c n) ++ es) ((e, c) ∷ (listed c ++ (listed n ++ es)))
          (cross_tops_in texts (Entry e c n) ++ ts) (cross_tops_in inner c ++ (cross_tops_in texts n ++ ts)) (fam.all (Entry e c n) ++ ls) (fam.here e ++ (fam.all c ++ (fam.all n ++ ls)))
          (ap (λ (w : List Called). w ++ ns) (under_space e c n space texts top text h) ∙ joined a b name)
          entries_joined
          (ap (λ (w : List (CrossTop ℕ)). w ++ ts) (tops_space e c n texts text h) ∙ append_assoc (cross_tops_in inner c) (cross_tops_in texts n) ts)
          (ap (λ (w : List (Node ℕ)). w ++ ls) (fam.at_space e c n text h) ∙ append_assoc (fam.here e) (fam.all c ++ fam.all n) ls
          ∙ ap (λ (w : List (Node ℕ)). fam.here e ++ w) (append_assoc (fam.all c) (fam.all n) ls))
          before in
          let here = name_here starts said names entries tops lone x.steps first name (e, c) (a ++ (b ++ ns)) (listed c ++ (listed n ++ es)) start.steps in
          let entry = entry_here starts said names entries tops lone x.steps first name (e, c) (a ++ (b ++ ns)) (listed c ++ (listed n ++ es)) start.steps in
          let y = with_outer stands up i first x in
          let opened : BuiltSo y (first + 1) (a ++ (b ++ ns)) (listed c ++ (listed n ++ es)) (cross_tops_in inner c ++ (cross_tops_in texts n ++ ts)) (fam.all c ++ (fam.all n ++ ls)) = record {
            steps = push_step starts said names entries tops lone x.steps first s name (e, c) (a ++ (b ++ ns)) (listed c ++ (listed n ++ es)) start.steps refl (fam.stands_are inner)
                (fam.leads first s e inner (record { outer = texts; text = text; own = h; texts_are = refl; way = record { at = at; name = is; earlier = lt } }));
            tops_so = start.tops_so;
            lone_so = fam.put x.lone first e c (fam.all c ++ (fam.all n ++ ls)) start.lone_so entry;
            starts_are = start.starts_are;
          } in
          let put = inside y (b ++ ns) (listed n ++ es) (cross_tops_in texts n ++ ts) (fam.all n ++ ls) (here ∙ ap (λ (w : CrossName). Some (e.at, w)) (sym (fam.inner texts text))) number
          (λ t k. within t (subst (λ (w : List (CrossTop ℕ)). In t w) (sym (tops_space e c n texts text h)) (in_left t (cross_tops_in inner c) (cross_tops_in texts n) k))) opened in
          let z = with_list is_space unit stands first 0 (first + 1) c y in
          let more : top + tops_under c ≡ starts.top + length z.tops = omega (arith, number, tops_long unit stands first 0 (first + 1) c y) in
          subst (λ (w : CrossIndex). BuiltSo w (first + size (Entry e c n)) ns es ts ls) (sym (list_space is_space unit stands up i first e c n x (ap is_some h)))
          (behind z (next z more
          (λ t k. within t (subst (λ (w : List (CrossTop ℕ)). In t w) (sym (tops_space e c n texts text h)) (in_right t (cross_tops_in inner c) (cross_tops_in texts n) k))) put))

      step_any : Next (suc top) → ((text : List ℕ) → Inside text) → Next (top + tops_under c) → (o : Option (List ℕ)) → space_text e ≡ o → After i up first (Entry e c n) x ns es ts ls
      step_any a b d None h = step_top h a
      step_any a b d (Some text) h = step_space text h (b text) d

    pub list_shown : (texts : List (List ℕ)) (top i up first at : ℕ) (f : Entries ℕ) (x : CrossIndex) (ns : List Called) (es : List (ListedEntry ℕ)) (ts : List (CrossTop ℕ)) (ls : List (Node ℕ))
        → IsAt up at (above texts) → up < first → top ≡ starts.top + length x.tops → AreWithin texts f → Before texts top first f x ns es ts ls → After i up first f x ns es ts ls
    unfolding cross_names_under listed cross_tops_in with_list
    list_shown texts top i up first at End x ns es ts ls is lt number within before =
        built_to x first (first + 0) ns es ts ls (omega arith)
        (built_as x first ns ns es es ts ts (fam.all End ++ ls) ls refl refl refl (ap (λ (w : List (Node ℕ)). w ++ ls) fam.none) before)
    list_shown texts top i up first at (Entry e c n) x ns es ts ls is lt number within before =
        step_any texts top i up first at e c n x ns es ts ls is lt number within before
        (λ y more inner left. list_shown texts (suc top) (suc i) up (first + 1 + size c) at n y ns es ts ls is (omega arith) more inner left)
        (λ text y ns' es' ts' ls' here more inner left. list_shown (texts ++ text ∷ []) top 0 first (first + 1) e.at c y ns' es' ts' ls' here (omega arith) more inner left)
        (λ y more inner left. list_shown texts (top + tops_under c) (suc i) up (first + 1 + size c) at n y ns es ts ls is (omega arith) more inner left)
        (space_text e) refl

    -- ---- how many roots and spaces are added

    module _ (i up first : ℕ) (e : Node ℕ) (c n : Entries ℕ) (x : CrossIndex) where
      abbrev Adds : ℕ → ℕ → ℕ → Entries ℕ → CrossIndex → Type 0
      Adds j above_it from f y = length (with_list is_space unit stands above_it j from f y).lone ≡ length y.lone + length (fam.all f)

      lone_any : ((y : CrossIndex) → Adds (suc i) up (first + 1 + size c) n y) → ((y : CrossIndex) → Adds 0 first (first + 1) c y) → (o : Option (List ℕ)) → space_text e ≡ o
          → Adds i up first (Entry e c n) x
      lone_any next inside None h =
          ap (λ (w : CrossIndex). length w.lone) (list_top is_space unit stands up i first e c n x (ap is_some h)) ∙ next (with_top unit up first c x)
          ∙ ap (λ (w : List (Node ℕ)). length x.lone + length w) (sym (fam.at_top e c n h))
      lone_any next inside (Some text) h =
          let y = with_outer stands up i first x in
          let z = with_list is_space unit stands first 0 (first + 1) c y in
          let all = ap (λ (w : List (Node ℕ)). length w) (fam.at_space e c n text h) in
          let same = ap (λ (w : CrossIndex). length w.lone) (list_space is_space unit stands up i first e c n x (ap is_some h)) in
          omega (
            arith,
            same,
            next z,
            inside y,
            length-append x.lone (lone_at stands first),
            fam.many e first,
            all,
            length-append (fam.here e) (fam.all c ++ fam.all n),
            length-append (fam.all c) (fam.all n),
          )

    pub lone_long : (i up first : ℕ) (f : Entries ℕ) (x : CrossIndex) → length (with_list is_space unit stands up i first f x).lone ≡ length x.lone + length (fam.all f)
    unfolding with_list
    lone_long i up first End x = let none = ap (λ (w : List (Node ℕ)). length w) fam.none in omega (arith, none)
    lone_long i up first (Entry e c n) x =
        lone_any i up first e c n x (λ y. lone_long (suc i) up (first + 1 + size c) n y) (λ y. lone_long 0 first (first + 1) c y) (space_text e) refl
