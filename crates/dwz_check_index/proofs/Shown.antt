-- What is built so far shows the names, tops, roots and spaces so far; and what of these is left.
use Rattle.std.proofs.Common.{◌≡◌, ◌⊎◌, ℕ, zero, suc, ◌+◌, ◌<◌, ◌≤◌, List, [], ◌∷◌, ◌++◌, length, drop, Some, slice_get, inl, inr, refl, sym, ap, subst, ◌∙◌, arith}
use Rattle.std.proofs.lemmas.List.{append_assoc, length-append}
use Rattle.std.proofs.lemmas.Option.{slice_get_within}
use Rattle.dwz_def_reading.specs.Documents.{DwUnit, Entries, Node}
use Rattle.dwz_def_reading.specs.Trees.{End, Entry, size}
use Rattle.dwz_def_reading.proofs.ListFacts.{drop_first}
use Rattle.dwz_def_cross.specs.Tops.{CrossTop}
use Rattle.dwz_def_check.specs.CrossNames.{AtPath, cross_names_below}
use Rattle.dwz_check_index.specs.declared.index.CrossStarts.{CrossStarts}
use Rattle.dwz_check_index.specs.declared.index.Stands.TheVariants.{InTop}
use Rattle.dwz_check_index.specs.declared.index.Step.{Step}
use Rattle.dwz_check_index.specs.declared.index.TopEntry.{TopEntry}
use Rattle.dwz_check_index.specs.Building.{step, with_steps}
use Rattle.dwz_check_index.specs.Index.{Called, CrossIndex, IsLoneEntry, IsShown, IsTopEntry, Leads, ListedEntry, listed, stands_of}

-- ---- the last of a list

pub pushed : {X : Type 0} (xs : List X) (x : X) (i : ℕ) (y : X) → slice_get (xs ++ x ∷ []) i ≡ Some y → (slice_get xs i ≡ Some y) ⊎ ((i ≡ length xs) × (x ≡ y))
pushed [] x zero y e = inr (refl, (let same : x ≡ y = cc in same))
pushed [] x (suc i) y e = absurd cc
pushed (z ∷ xs) x zero y e = inl e
pushed (z ∷ xs) x (suc i) y e = elim (pushed xs x i y e) [
  | inl a ↦ inl a
  | inr b ↦ inr (ap suc b.0, b.1)
]

-- the list of the file's names, of its entries, of its tops, and of its roots and spaces
module _ (starts : CrossStarts) (said : List (DwUnit ℕ)) (names : List Called) (entries : List (ListedEntry ℕ)) (tops : List (CrossTop ℕ)) (lone : List (Node ℕ)) where
  -- the steps of the entries before that number; these names and entries are left
  pub record Steps (steps : List Step) (first : ℕ) (ns : List Called) (es : List (ListedEntry ℕ)) : Type 0 where
    pub len : length steps ≡ first
    pub shown : (i : ℕ) (x : Step) (name : Called) → slice_get steps i ≡ Some x → slice_get names i ≡ Some name → IsShown names entries i x name
    pub names_left : drop first names ≡ ns
    pub entries_left : drop first entries ≡ es
    pub few : first ≤ length names

  pub record Tops (xs : List TopEntry) (ts : List (CrossTop ℕ)) : Type 0 where
    pub are : (k : ℕ) (x : TopEntry) (t : CrossTop ℕ) → slice_get xs k ≡ Some x → slice_get tops k ≡ Some t → IsTopEntry said names entries (starts.top + k) x t
    pub left : drop (length xs) tops ≡ ts
    pub few : length xs ≤ length tops

  pub record Lone (xs : List ℕ) (ls : List (Node ℕ)) : Type 0 where
    pub are : (k i : ℕ) (d : Node ℕ) → slice_get xs k ≡ Some i → slice_get lone k ≡ Some d → IsLoneEntry entries i d
    pub left : drop (length xs) lone ≡ ls
    pub few : length xs ≤ length lone

  pub record Built (x : CrossIndex) (first : ℕ) (ns : List Called) (es : List (ListedEntry ℕ)) (ts : List (CrossTop ℕ)) (ls : List (Node ℕ)) : Type 0 where
    pub steps : Steps x.steps first ns es
    pub tops_so : Tops x.tops ts
    pub lone_so : Lone x.lone ls
    pub starts_are : x.starts ≡ starts

  -- ---- one more step

  pub name_here : (steps : List Step) (first : ℕ) (name : Called) (e : ListedEntry ℕ) (ns : List Called) (es : List (ListedEntry ℕ)) → Steps steps first (name ∷ ns) (e ∷ es)
      → slice_get names first ≡ Some name
  name_here steps first name e ns es h = (drop_first names first name ns h.names_left).0

  pub entry_here : (steps : List Step) (first : ℕ) (name : Called) (e : ListedEntry ℕ) (ns : List Called) (es : List (ListedEntry ℕ)) → Steps steps first (name ∷ ns) (e ∷ es)
      → slice_get entries first ≡ Some e
  entry_here steps first name e ns es h = (drop_first entries first e es h.entries_left).0

  pub push_step : (steps : List Step) (first : ℕ) (s : Step) (name : Called) (e : ListedEntry ℕ) (ns : List Called) (es : List (ListedEntry ℕ)) → Steps steps first (name ∷ ns) (e ∷ es)
      → e.0.at ≡ name.0 → s.stands ≡ stands_of name.1 → Leads names first s e.0 name.1 → Steps (steps ++ s ∷ []) (first + 1) ns es
  push_step steps first s name e ns es h place stands leads =
      let long = length-append steps (s ∷ []) in
      let many = h.len in
      let here = name_here steps first name e ns es h in
      let there = entry_here steps first name e ns es h in
      record {
        len = omega arith;
        shown = λ i x called found is. elim (pushed steps s i x found) [
          | inl a ↦ h.shown i x called a is
          | inr b ↦
              let at : i ≡ first = b.0 ∙ h.len in
              let one : slice_get names i ≡ Some name = ap (slice_get names) at ∙ here in
              let same : name ≡ called = cc in
              let mine : IsShown names entries first s name = record { entry = e; found = there; place = place; stands = stands; leads = leads } in
              subst (λ (w : Called). IsShown names entries i x w) same
              (subst (λ (w : Step). IsShown names entries i w name) b.1
              (subst (λ (k : ℕ). IsShown names entries k s name) (sym at) mine))
        ];
        names_left = (drop_first names first name ns h.names_left).1;
        entries_left = (drop_first entries first e es h.entries_left).1;
        few = (let less = slice_get_within names first name here in omega arith);
      }

  pub push_top : (xs : List TopEntry) (x : TopEntry) (t : CrossTop ℕ) (ts : List (CrossTop ℕ)) → Tops xs (t ∷ ts) → IsTopEntry said names entries (starts.top + length xs) x t → Tops (xs ++ x ∷ []) ts
  push_top xs x t ts h is =
      let here = drop_first tops (length xs) t ts h.left in
      let long : length (xs ++ x ∷ []) ≡ length xs + 1 = length-append xs (x ∷ []) in
      record {
        are = λ k y a found there. elim (pushed xs x k y found) [
          | inl b ↦ h.are k y a b there
          | inr b ↦
              let one : slice_get tops k ≡ Some t = ap (slice_get tops) b.0 ∙ here.0 in
              let same : t ≡ a = cc in
              subst (λ (w : CrossTop ℕ). IsTopEntry said names entries (starts.top + k) y w) same
              (subst (λ (w : TopEntry). IsTopEntry said names entries (starts.top + k) w t) b.1
              (subst (λ (n : ℕ). IsTopEntry said names entries (starts.top + n) x t) (sym b.0) is))
        ];
        left = ap (λ (n : ℕ). drop n tops) long ∙ here.1;
        few = (let less = slice_get_within tops (length xs) t here.0 in omega arith);
      }

  pub push_lone : (xs : List ℕ) (i : ℕ) (d : Node ℕ) (ls : List (Node ℕ)) → Lone xs (d ∷ ls) → IsLoneEntry entries i d → Lone (xs ++ i ∷ []) ls
  push_lone xs i d ls h is =
      let here = drop_first lone (length xs) d ls h.left in
      let long : length (xs ++ i ∷ []) ≡ length xs + 1 = length-append xs (i ∷ []) in
      record {
        are = λ k j a found there. elim (pushed xs i k j found) [
          | inl b ↦ h.are k j a b there
          | inr b ↦
              let one : slice_get lone k ≡ Some d = ap (slice_get lone) b.0 ∙ here.0 in
              let same : d ≡ a = cc in
              subst (λ (w : Node ℕ). IsLoneEntry entries j w) same (subst (λ (n : ℕ). IsLoneEntry entries n d) b.1 is)
        ];
        left = ap (λ (n : ℕ). drop n lone) long ∙ here.1;
        few = (let less = slice_get_within lone (length xs) d here.0 in omega arith);
      }

  -- ---- the entries below one of a top

  pub steps_to : (steps : List Step) (m n : ℕ) (ns : List Called) (es : List (ListedEntry ℕ)) → m ≡ n → Steps steps m ns es → Steps steps n ns es
  steps_to steps m n ns es e h = subst (λ (k : ℕ). Steps steps k ns es) e h

  pub steps_as : (steps : List Step) (first : ℕ) (ns others : List Called) (es more : List (ListedEntry ℕ)) → ns ≡ others → es ≡ more → Steps steps first ns es → Steps steps first others more
  steps_as steps first ns others es more a b h = subst (λ (w : List (ListedEntry ℕ)). Steps steps first others w) b (subst (λ (w : List Called). Steps steps first w es) a h)

  pub below_shown : (top : ℕ) (path : List ℕ) (i up first at : ℕ) (f : Entries ℕ) (steps : List Step) (ns : List Called) (es : List (ListedEntry ℕ))
      → slice_get names up ≡ Some (at, AtPath top path) → up < first → Steps steps first (cross_names_below top path i f ++ ns) (listed f ++ es)
      → Steps (with_steps (InTop top) up i first f steps) (first + size f) ns es
  unfolding cross_names_below listed with_steps
  below_shown top path i up first at End steps ns es is lt h = steps_to steps first (first + 0) ns es (omega arith) h
  below_shown top path i up first at (Entry e c n) steps ns es is lt h =
      let a = cross_names_below top (i ∷ path) 0 c in
      let b = cross_names_below top path (suc i) n in
      let name : Called = (e.at, AtPath top (i ∷ path)) in
      let s = step up i (InTop top) in
      let k : Steps steps first (name ∷ (a ++ (b ++ ns))) ((e, c) ∷ (listed c ++ (listed n ++ es))) =
      steps_as steps first (name ∷ ((a ++ b) ++ ns)) (name ∷ (a ++ (b ++ ns))) ((e, c) ∷ ((listed c ++ listed n) ++ es)) ((e, c) ∷ (listed c ++ (listed n ++ es)))
      (ap (λ (w : List Called). name ∷ w) (append_assoc a b ns)) (ap (λ (w : List (ListedEntry ℕ)). (e, c) ∷ w) (append_assoc (listed c) (listed n) es)) h in
      let here = name_here steps first name (e, c) (a ++ (b ++ ns)) (listed c ++ (listed n ++ es)) k in
      let put = push_step steps first s name (e, c) (a ++ (b ++ ns)) (listed c ++ (listed n ++ es)) k refl refl (refl, record { at = at; name = is; earlier = lt }) in
      let inside = below_shown top (i ∷ path) 0 first (first + 1) e.at c (steps ++ s ∷ []) (b ++ ns) (listed n ++ es) here (omega arith) put in
      steps_to (with_steps (InTop top) up (suc i) (first + 1 + size c) n (with_steps (InTop top) first 0 (first + 1) c (steps ++ s ∷ []))) (first + 1 + size c + size n) (first + (size c + size n + 1)) ns es
      (omega arith)
      (below_shown top path (suc i) up (first + 1 + size c) at n (with_steps (InTop top) first 0 (first + 1) c (steps ++ s ∷ [])) ns es is (omega arith) inside)
