-- The way up from an entry: to its top, or from space to space.
use Rattle.std.proofs.Common.{◌≡◌, ℕ, ◌<◌, true, false, List, [], ◌∷◌, ◌++◌, get_or, length, Some, slice_get, refl, sym, ap, subst, ◌∙◌, arith}
use Rattle.std.specs.Prelude.{reverse}
use Rattle.std.proofs.lemmas.Bool.{lt-ltb, ltb-true}
use Rattle.std.proofs.lemmas.List.{append-nil, append_assoc, reverse-append}
use Rattle.std.proofs.lemmas.Option.{slice_get_read}
use Rattle.dwz_def_check.specs.CrossNames.{AtPath, CrossName, PartRoot, PartSpace, WholeRoot, WholeSpace}
use Rattle.dwz_check_index.specs.declared.index.Stands.{Stands}
use Rattle.dwz_check_index.specs.declared.index.Stands.TheVariants.{InTop, PartialRoot, PartialSpace, UnitRoot, UnitSpace}
use Rattle.dwz_check_index.specs.declared.index.Step.{Step}
use Rattle.dwz_check_index.specs.Index.{AddsSpaces, AreSpacesOf, Called, CrossIndex, IsInner, IsShown, ListedEntry, ShowNames, below_top, in_space, is_below_top, is_in_space, names_in}
use Rattle.dwz_check_index.specs.Index.{part_above, path_in, whole_above}
use Rattle.dwz_check_index.proofs.ListShown.{part_names, whole_names}

pub step_there : (index : CrossIndex) (steps : List Step) (i : ℕ) (x : Step) → steps ≡ index.steps → i < length index.steps → x ≡ get_or steps i x → slice_get index.steps i ≡ Some x
step_there index steps i x e lt is = subst (λ (w : List Step). slice_get w i ≡ Some x) e (slice_get_read steps (length index.steps) i x (ap (λ (w : List Step). length w) (sym e)) lt is)

-- ---- whether the way goes on

goes_below : (x : Step) (at top : ℕ) → x.stands ≡ InTop top → x.up < at → is_below_top x at ≡ true
goes_below x at top e lt = ap (λ (w : Stands). below_top w x.up at) e ∙ lt-ltb x.up at lt

stays : (x : Step) (at : ℕ) (w : Stands) → x.stands ≡ w → below_top w x.up at ≡ false → is_below_top x at ≡ true → ⊥
stays x at w e none h = let f : is_below_top x at ≡ false = ap (λ (v : Stands). below_top v x.up at) e ∙ none in cc

outside : (x : Step) (at : ℕ) (w : Stands) → x.stands ≡ w → in_space w x.up at ≡ false → is_in_space x at ≡ true → ⊥
outside x at w e none h = let f : is_in_space x at ≡ false = ap (λ (v : Stands). in_space v x.up at) e ∙ none in cc

pub below_less : (x : Step) (at : ℕ) → is_below_top x at ≡ true → x.up < at
below_less x at h = by x.stands h where
  by : (w : Stands) → below_top w x.up at ≡ true → x.up < at
  by (InTop n) e = ltb-true x.up at e
  by (UnitRoot n) e = absurd cc
  by (UnitSpace n) e = absurd cc
  by PartialRoot e = absurd cc
  by PartialSpace e = absurd cc

pub space_less : (x : Step) (at : ℕ) → is_in_space x at ≡ true → x.up < at
space_less x at h = by x.stands h where
  by : (w : Stands) → in_space w x.up at ≡ true → x.up < at
  by (InTop n) e = absurd cc
  by (UnitRoot n) e = absurd cc
  by (UnitSpace n) e = ltb-true x.up at e
  by PartialRoot e = absurd cc
  by PartialSpace e = ltb-true x.up at e

-- ---- as far as the way went

pub record GoesUp (steps : List Step) (entry at : ℕ) (Way : List Called → List (ListedEntry ℕ) → Called → Type 0) : Type 0 where
  pub within : at < length steps
  pub way : (names : List Called) (entries : List (ListedEntry ℕ)) (name : Called) → ShowNames names entries steps → slice_get names entry ≡ Some name → Way names entries name

-- a path was put
pub record OnWay (names : List Called) (at : ℕ) (out old : List ℕ) (name : Called) : Type 0 where
  pub here : Called
  pub found : slice_get names at ≡ Some here
  pub path : out ++ path_in here.1 ≡ old ++ path_in name.1

-- one step up in a top
record Up (names : List Called) (x : Step) (name : CrossName) : Type 0 where
  above_it : Called
  found : slice_get names x.up ≡ Some above_it
  path : path_in name ≡ x.index ∷ path_in above_it.1

module _ (names : List Called) (entries : List (ListedEntry ℕ)) where
  way_ends : (at : ℕ) (x : Step) (p : ℕ) (name : CrossName) → IsShown names entries at x (p, name) → is_below_top x at ≡ false → path_in name ≡ []
  way_ends at x p (AtPath top []) h none = refl
  way_ends at x p (AtPath top (k ∷ path)) h none = let f = goes_below x at top h.stands h.leads.1.earlier in absurd cc
  way_ends at x p (WholeRoot n) h none = refl
  way_ends at x p (WholeSpace n texts) h none = refl
  way_ends at x p PartRoot h none = refl
  way_ends at x p (PartSpace texts) h none = refl

  up_one : (at : ℕ) (x : Step) (p : ℕ) (name : CrossName) → IsShown names entries at x (p, name) → is_below_top x at ≡ true → Up names x name
  up_one at x p (AtPath top []) h on = absurd (let e : x.up ≡ at = h.leads in omega (arith, e, below_less x at on))
  up_one at x p (AtPath top (k ∷ path)) h on = record {
    above_it = (h.leads.1.at, AtPath top path);
    found = h.leads.1.name;
    path = ap (λ (n : ℕ). n ∷ path) (sym h.leads.0);
  }
  up_one at x p (WholeRoot n) h on = absurd (stays x at (UnitRoot n) h.stands refl on)
  up_one at x p (WholeSpace n texts) h on = absurd (stays x at (UnitSpace n) h.stands refl on)
  up_one at x p PartRoot h on = absurd (stays x at PartialRoot h.stands refl on)
  up_one at x p (PartSpace texts) h on = absurd (stays x at PartialSpace h.stands refl on)

  pub way_on : (steps : List Step) (at : ℕ) (x : Step) (out new old : List ℕ) (name : Called) → ShowNames names entries steps → slice_get steps at ≡ Some x → is_below_top x at ≡ true
      → new ≡ out ++ x.index ∷ [] → OnWay names at out old name → OnWay names x.up new old name
  way_on steps at x out new old name shows there on put h =
      let u = up_one at x h.here.0 h.here.1 (shows.each at x h.here there h.found) on in
      record {
        here = u.above_it;
        found = u.found;
        path = ap (λ (w : List ℕ). w ++ path_in u.above_it.1) put ∙ append_assoc out (x.index ∷ []) (path_in u.above_it.1) ∙ ap (λ (w : List ℕ). out ++ w) (sym u.path) ∙ h.path;
      }

  pub way_done : (steps : List Step) (at : ℕ) (x : Step) (out old : List ℕ) (name : Called) → ShowNames names entries steps → slice_get steps at ≡ Some x → is_below_top x at ≡ false
      → OnWay names at out old name → out ≡ old ++ path_in name.1
  way_done steps at x out old name shows there none h =
      sym (append-nil out) ∙ ap (λ (w : List ℕ). out ++ w) (sym (way_ends at x h.here.0 h.here.1 (shows.each at x h.here there h.found) none)) ∙ h.path

  -- ---- from space to space

  -- the numbers of spaces were put; with those of the space that is reached they are all
  pub record OnSpaces (at : ℕ) (out old : List ℕ) (name : Called) : Type 0 where
    pub here : Called
    pub found : slice_get names at ≡ Some here
    pub put : List ℕ
    pub out_is : out ≡ old ++ put
    pub rest : (more : List ℕ) → AreSpacesOf entries more (reverse (names_in here.1)) → AreSpacesOf entries (put ++ more) (reverse (names_in name.1))

  -- a space, and what it stands in
  record Out (at : ℕ) (x : Step) (name : CrossName) : Type 0 where
    above_it : Called
    found : slice_get names x.up ≡ Some above_it
    with_it : (more : List ℕ) → AreSpacesOf entries more (reverse (names_in above_it.1)) → AreSpacesOf entries (at ∷ more) (reverse (names_in name))

  out_of : (at : ℕ) (x : Step) (p : ℕ) (name : CrossName) (above : List (List ℕ) → CrossName) (texts : List (List ℕ)) (h : IsShown names entries at x (p, name)) → names_in name ≡ texts
      → ((outer : List (List ℕ)) → names_in (above outer) ≡ outer) → IsInner names at x h.entry.0 above texts → Out at x name
  out_of at x p name above texts h texts_are outer_are i =
      let turned : reverse (names_in name) ≡ i.text ∷ reverse i.outer = ap (λ (w : List (List ℕ)). reverse w) (texts_are ∙ i.texts_are) ∙ reverse-append i.outer (i.text ∷ []) in
      record {
        above_it = (i.way.at, above i.outer);
        found = i.way.name;
        with_it = λ more are. subst (λ (w : List (List ℕ)). AreSpacesOf entries (at ∷ more) w) (sym turned)
            ((h.entry, h.found, i.own), subst (λ (w : List (List ℕ)). AreSpacesOf entries more (reverse w)) (outer_are i.outer) are);
      }

  out_one : (at : ℕ) (x : Step) (p : ℕ) (name : CrossName) → IsShown names entries at x (p, name) → is_in_space x at ≡ true → Out at x name
  out_one at x p (AtPath top path) h on = absurd (outside x at (InTop top) h.stands refl on)
  out_one at x p (WholeRoot n) h on = absurd (outside x at (UnitRoot n) h.stands refl on)
  out_one at x p (WholeSpace n texts) h on = out_of at x p (WholeSpace n texts) (whole_above n) texts h refl (whole_names n) h.leads
  out_one at x p PartRoot h on = absurd (outside x at PartialRoot h.stands refl on)
  out_one at x p (PartSpace texts) h on = out_of at x p (PartSpace texts) part_above texts h refl part_names h.leads

  out_ends : (at : ℕ) (x : Step) (p : ℕ) (name : CrossName) → IsShown names entries at x (p, name) → is_in_space x at ≡ false → names_in name ≡ []
  out_ends at x p (AtPath top path) h none = refl
  out_ends at x p (WholeRoot n) h none = refl
  out_ends at x p (WholeSpace n texts) h none =
      let f : is_in_space x at ≡ true = ap (λ (w : Stands). in_space w x.up at) h.stands ∙ lt-ltb x.up at h.leads.way.earlier in absurd cc
  out_ends at x p PartRoot h none = refl
  out_ends at x p (PartSpace texts) h none =
      let f : is_in_space x at ≡ true = ap (λ (w : Stands). in_space w x.up at) h.stands ∙ lt-ltb x.up at h.leads.way.earlier in absurd cc

  pub spaces_begin : (at : ℕ) (old : List ℕ) (name : Called) → slice_get names at ≡ Some name → OnSpaces at old old name
  spaces_begin at old name found = record { here = name; found = found; put = []; out_is = sym (append-nil old); rest = λ more are. are }

  pub spaces_on : (steps : List Step) (at : ℕ) (x : Step) (out new old : List ℕ) (name : Called) → ShowNames names entries steps → slice_get steps at ≡ Some x → is_in_space x at ≡ true
      → new ≡ out ++ at ∷ [] → OnSpaces at out old name → OnSpaces x.up new old name
  spaces_on steps at x out new old name shows there on put h =
      let u = out_one at x h.here.0 h.here.1 (shows.each at x h.here there h.found) on in
      record {
        here = u.above_it;
        found = u.found;
        put = h.put ++ at ∷ [];
        out_is = put ∙ ap (λ (w : List ℕ). w ++ at ∷ []) h.out_is ∙ append_assoc old h.put (at ∷ []);
        rest = λ more are. subst (λ (w : List ℕ). AreSpacesOf entries w (reverse (names_in name.1))) (sym (append_assoc h.put (at ∷ []) more)) (h.rest (at ∷ more) (u.with_it more are));
      }

  pub spaces_done : (steps : List Step) (at : ℕ) (x : Step) (out old : List ℕ) (name : Called) → ShowNames names entries steps → slice_get steps at ≡ Some x → is_in_space x at ≡ false
      → OnSpaces at out old name → AddsSpaces entries old out (names_in name.1)
  spaces_done steps at x out old name shows there none h =
      let ends = out_ends at x h.here.0 h.here.1 (shows.each at x h.here there h.found) none in
      record {
        put = h.put;
        new_are = h.out_is;
        are = subst (λ (w : List ℕ). AreSpacesOf entries w (reverse (names_in name.1))) (append-nil h.put)
            (h.rest [] (subst (λ (w : List (List ℕ)). AreSpacesOf entries [] (reverse w)) (sym ends) tt));
      }
