-- The way up from an entry.
use Rattle.std.proofs.Common.{◌≡◌, ◌≢◌, ℕ, zero, suc, ◌-◌, ◌<◌, ◌≤◌, List, [], ◌∷◌, ◌++◌, Option, Some, None, get_or, length, slice_get, refl, sym, ap, subst, ◌∙◌, arith}
use Rattle.std.proofs.lemmas.List.{append-nil, append_assoc}
use Rattle.std.proofs.lemmas.Option.{slice_get_read}
use Rattle.dwz_def_tops.specs.Spots.{EntryName, Import, InChain, InType, PartialOf, PartialRoot, RootOf, SpaceAt, UnitOf, Within}
use Rattle.dwz_graph.specs.declared.index.Step.{Step}
use Rattle.dwz_graph.specs.Index.{Index, IsIndex, Shows, above}
use Rattle.dwz_graph.specs.Names.{path_in, top_in}

-- the number that is kept of the top says which one it is
abbrev pub top_kept : ℕ → Option ℕ
top_kept zero = None
top_kept (suc top) = Some top

pub top_shown : (names : List EntryName) (i : ℕ) (x : Step) (s : EntryName) → Shows names i x s → top_kept x.top ≡ top_in s
top_shown names i x (Within top []) h = ap top_kept h.0
top_shown names i x (Within top (k ∷ path)) h = ap top_kept h.0
top_shown names i x (UnitOf n) h = ap top_kept h.0
top_shown names i x (RootOf n) h = ap top_kept h.0
top_shown names i x (SpaceAt n []) h = ap top_kept h.0
top_shown names i x (SpaceAt n (k ∷ path)) h = ap top_kept h.0
top_shown names i x (InType n []) h = ap top_kept h.0
top_shown names i x (InType n (k ∷ path)) h = ap top_kept h.0
top_shown names i x (PartialOf n) h = ap top_kept h.0
top_shown names i x (PartialRoot n) h = ap top_kept h.0
top_shown names i x (InChain n j d) h = ap top_kept h.0
top_shown names i x (Import n j) h = ap top_kept h.0

pub none_kept : (n : ℕ) → n ≡ 0 → None ≡ top_kept n
none_kept n e = ap top_kept (sym e)

pub some_kept : (n : ℕ) → n ≢ 0 → Some (n - 1) ≡ top_kept n
some_kept zero h = absurd (h refl)
some_kept (suc n) h = let e : suc n - 1 ≡ n = omega arith in ap Some e

-- ---- step by step

-- as far as a path was put
pub record OnWay (names : List EntryName) (at : ℕ) (out old : List ℕ) (s : EntryName) : Type 0 where
  pub here : EntryName
  pub found : slice_get names at ≡ Some here
  pub path : out ++ path_in here ≡ old ++ path_in s

way_above : (name : ℕ → List ℕ → EntryName) (unit : ℕ) (path : List ℕ) → path_in (RootOf unit) ≡ [] → ((q : List ℕ) → path_in (name unit q) ≡ q) → path_in (above name unit path) ≡ path
way_above name unit [] root named = root
way_above name unit (k ∷ path) root named = named (k ∷ path)

-- the entry is a top, or a root
pub way_ends : (names : List EntryName) (at : ℕ) (x : Step) (s : EntryName) → Shows names at x s → at ≤ x.up → path_in s ≡ []
way_ends names at x (Within top []) h le = refl
way_ends names at x (Within top (k ∷ path)) h le = absurd (let e = h.1.earlier in omega arith)
way_ends names at x (UnitOf n) h le = refl
way_ends names at x (RootOf n) h le = refl
way_ends names at x (SpaceAt n []) h le = refl
way_ends names at x (SpaceAt n (k ∷ path)) h le = absurd (let e = h.1.earlier in omega arith)
way_ends names at x (InType n []) h le = refl
way_ends names at x (InType n (k ∷ path)) h le = absurd (let e = h.1.earlier in omega arith)
way_ends names at x (PartialOf n) h le = refl
way_ends names at x (PartialRoot n) h le = refl
way_ends names at x (InChain n j d) h le = refl
way_ends names at x (Import n j) h le = refl

-- a top, or a root, leads to itself
pub way_stays : (names : List EntryName) (at : ℕ) (x : Step) (s : EntryName) → Shows names at x s → path_in s ≡ [] → x.up ≡ at
way_stays names at x (Within top []) h e = h.1
way_stays names at x (Within top (k ∷ path)) h e = absurd cc
way_stays names at x (UnitOf n) h e = h.1
way_stays names at x (RootOf n) h e = h.1
way_stays names at x (SpaceAt n []) h e = h.1
way_stays names at x (SpaceAt n (k ∷ path)) h e = absurd cc
way_stays names at x (InType n []) h e = h.1
way_stays names at x (InType n (k ∷ path)) h e = absurd cc
way_stays names at x (PartialOf n) h e = h.1
way_stays names at x (PartialRoot n) h e = h.1
way_stays names at x (InChain n j d) h e = h.1
way_stays names at x (Import n j) h e = h.1

-- one step up
pub record Up (names : List EntryName) (x : Step) (s : EntryName) : Type 0 where
  pub above_it : EntryName
  pub found : slice_get names x.up ≡ Some above_it
  pub path : path_in s ≡ x.index ∷ path_in above_it

up_one : (names : List EntryName) (at : ℕ) (x : Step) (s : EntryName) → Shows names at x s → x.up < at → Up names x s
up_one names at x (Within top []) h lt = absurd (let e = h.1 in omega arith)
up_one names at x (Within top (k ∷ path)) h lt = record { above_it = Within top path; found = h.1.name; path = ap (λ (n : ℕ). n ∷ path) (sym h.1.index) }
up_one names at x (UnitOf n) h lt = absurd (let e = h.1 in omega arith)
up_one names at x (RootOf n) h lt = absurd (let e = h.1 in omega arith)
up_one names at x (SpaceAt n []) h lt = absurd (let e = h.1 in omega arith)
up_one names at x (SpaceAt n (k ∷ path)) h lt = record {
  above_it = above SpaceAt n path;
  found = h.1.name;
  path = (λ j. sym h.1.index j ∷ sym (way_above SpaceAt n path refl (λ q. refl)) j);
}
up_one names at x (InType n []) h lt = absurd (let e = h.1 in omega arith)
up_one names at x (InType n (k ∷ path)) h lt = record {
  above_it = above InType n path;
  found = h.1.name;
  path = (λ j. sym h.1.index j ∷ sym (way_above InType n path refl (λ q. refl)) j);
}
up_one names at x (PartialOf n) h lt = absurd (let e = h.1 in omega arith)
up_one names at x (PartialRoot n) h lt = absurd (let e = h.1 in omega arith)
up_one names at x (InChain n j d) h lt = absurd (let e = h.1 in omega arith)
up_one names at x (Import n j) h lt = absurd (let e = h.1 in omega arith)

pub way_begins : (names : List EntryName) (at : ℕ) (old : List ℕ) (s : EntryName) → slice_get names at ≡ Some s → OnWay names at old old s
way_begins names at old s found = record { here = s; found = found; path = refl }

pub way_on : (names : List EntryName) (index : Index) (at : ℕ) (x : Step) (out new old : List ℕ) (s : EntryName) → IsIndex names index → slice_get index.steps at ≡ Some x → x.up < at → new ≡ out
    ++ x.index ∷ []
    → OnWay names at out old s → OnWay names x.up new old s
way_on names index at x out new old s is there lt put h =
    let u = up_one names at x h.here (is.each at x h.here there h.found) lt in
    record {
      here = u.above_it;
      found = u.found;
      path = ap (λ (w : List ℕ). w ++ path_in u.above_it) put ∙ append_assoc out (x.index ∷ []) (path_in u.above_it) ∙ ap (λ (w : List ℕ). out ++ w) (sym u.path) ∙ h.path;
    }

pub way_done : (names : List EntryName) (index : Index) (at : ℕ) (x : Step) (out old : List ℕ) (s : EntryName) → IsIndex names index → slice_get index.steps at ≡ Some x → at ≤ x.up
    → OnWay names at out old s
    → out ≡ old ++ path_in s
way_done names index at x out old s is there le h =
    sym (append-nil out) ∙ ap (λ (w : List ℕ). out ++ w) (sym (way_ends names at x h.here (is.each at x h.here there h.found) le)) ∙ h.path

-- ---- what is kept

pub step_there : (index : Index) (steps : List Step) (i : ℕ) (x : Step) → steps ≡ index.steps → i < length index.steps → x ≡ get_or steps i x → slice_get index.steps i ≡ Some x
step_there index steps i x e lt is = subst (λ (w : List Step). slice_get w i ≡ Some x) e (slice_get_read steps (length index.steps) i x (ap (λ (w : List Step). length w) (sym e)) lt is)
