-- Numbers of entries that are added, and lists that are named.
use Rattle.std.proofs.Common.{◌≡◌, ℕ, ◌+◌, ◌<◌, ◌≤◌, Bool, true, false, List, [], ◌∷◌, ◌++◌, length, map, take, drop, Option, Some, Result, Ok, Err, slice_get, refl, sym, ap, subst, ◌∙◌, arith}
use Rattle.std.specs.Prelude.{if◌then◌else◌, slice_index}
use Rattle.std.proofs.lemmas.List.{append-nil, append_assoc, map-append, take-append-drop, take_all}
use Rattle.dwz_model.specs.declared.fault.Fault.{Fault}
use Rattle.dwz_model.specs.declared.fault.ReadErr.{ReadErr}
use Rattle.dwz_model.specs.declared.fault.ReadErr.TheVariants.{NoMemory, Refused}
use Rattle.dwz_def_reading.specs.Documents.{Value, ref}
use Rattle.dwz_def_reading.specs.Entries.{RawAttr}
use Rattle.dwz_def_reading.specs.Faults.{Fails}
use Rattle.dwz_def_reading.specs.Meanings.{Common, has, offset_of}
use Rattle.dwz_def_reading.specs.Meant.{common_entry, entry_among}
use Rattle.dwz_def_reading.specs.Shared.{NamedList}
use Rattle.dwz_def_reading.specs.Units.{RawUnit, entries_in}
use Rattle.dwz_def_reading.proofs.ListFacts.{drop_here}
use Rattle.dwz_graph_resolve.specs.declared.state.State.{State}
use Rattle.dwz_graph_resolve.specs.Named.{Found, collect, found, found_in, joined, map_ok, nothing_found}
use Rattle.dwz_graph_resolve.specs.Resolved.{Adds, Goes, NamesEntry, place_at}
use Rattle.dwz_graph_resolve.specs.Surroundings.{entries_among, place_among}
use Rattle.dwz_def_reading.specs.Lists.{Each}
use Rattle.dwz_graph_resolve.proofs.NamedLemmas.{collect_append, joined_none, none_joined}
use Rattle.dwz_unit.proofs.RowsFound.{take_here}
use Rattle.dwz_graph_resolve.proofs.SurroundingLemmas.{common_place, own_place, own_within}
use Rattle.dwz_model.proofs.Members.{each_append}

among_is : (place : ℕ → ℕ) (own : List ℕ) (at p : ℕ) (b : Bool) → has p own ≡ b
    → entry_among place own at p ≡ (if b then Ok (ref (place p)) else entry_among place [] at p)
unfolding has
among_is place own at p true e = ap (λ (b : Bool). if b then Ok (ref (place p)) else entry_among place [] at p) e
among_is place own at p false e = ap (λ (b : Bool). if b then Ok (ref (place p)) else entry_among place [] at p) e

pub entry_added : (common : Option (Common ℕ)) (raw : List RawUnit) (old new own : List ℕ) (at p i : ℕ) → new ≡ old ++ i ∷ [] → has p own ≡ true → place_at raw i ≡ p → i < entries_in raw
    → NamesEntry {Y = Unit {0}} common raw old new (Ok tt) (entry_among (λ n. n) own at p)
entry_added common raw old new own at p i e there is low =
    (i, e, own_within common raw i low, among_is (λ n. n) own at p true there ∙ ap (λ (q : ℕ). Ok (ref q)) (sym (own_place common raw i low ∙ is)))

pub entry_missed : (place : ℕ → ℕ) (own : List ℕ) (at p : ℕ) (e : ReadErr) → has p own ≡ false → Fails e (entry_among place [] at p) → Fails e (entry_among place own at p)
entry_missed place own at p e none f = subst (λ (r : Result (Value ℕ) Fault). Fails e r) (sym (among_is place own at p false none)) f

-- an entry of the common file, whose number stands behind those of the file's own entries
pub common_added : (c : Common ℕ) (raw : List RawUnit) (a : RawAttr) (old new : List ℕ) (j p : ℕ) → offset_of a ≡ p → new ≡ old ++ (entries_in raw + j) ∷ [] → has p c.entries ≡ true
    → slice_index c.entries j ≡ p → j < length c.entries
    → NamesEntry {Y = Unit {0}} (Some c) raw old new (Ok tt) (common_entry a (Some c))
common_added c raw a old new j p of e there is low = (
  entries_in raw + j,
  e,
  omega (arith, low),
  ap (entry_among c.place c.entries a.at) of ∙ among_is c.place c.entries a.at p true there ∙ ap (λ (q : ℕ). Ok (ref q)) (sym (common_place c raw j p is)),
)

-- ---- what is known of the state

abbrev Known : Type 1
Known = List NamedList → State → Type 0

module _ (common : Option (Common ℕ)) (raw : List RawUnit) where
  abbrev pub Added : Known → List NamedList → State → State → Result Found Fault → Type 0
  Added K before old new named = Adds common raw old.refs.items new.refs.items before (λ lists. K lists new) named

  -- nothing is added
  pub added_none : (K : Known) (before : List NamedList) (old new : State) → new.refs.items ≡ old.refs.items → K before new → Added K before old new (Ok nothing_found)
  added_none K before old new same k = record {
    more = [];
    lists = [];
    refs = same ∙ sym (append-nil old.refs.items);
    is = refl;
    within = tt;
    keeps = subst (λ (w : List NamedList). K w new) (sym (append-nil before)) k;
  }

  -- the entry of a reference
  pub added_entry : (K : Known) (before : List NamedList) (old new : State) (r : Result (Value ℕ) Fault) → NamesEntry {Y = Unit {0}} common raw old.refs.items new.refs.items (Ok tt) r → K before new
      → Added K before old new (map_ok (found_in []) r)
  added_entry K before old new r h k = record {
    more = h.0 ∷ [];
    lists = [];
    refs = h.1;
    is = ap (λ (w : Result (Value ℕ) Fault). map_ok (found_in []) w) h.3;
    within = (h.2, tt);
    keeps = subst (λ (w : List NamedList). K w new) (sym (append-nil before)) k;
  }

  -- what is named by one, and then by another
  pub added_both : (K L : Known) (before : List NamedList) (old mid new : State) (r q : Result Found Fault) → Added K before old mid r
      → ((lists : List NamedList) → K lists mid → Added L lists mid new q) → Added L before old new (joined r q)
  added_both K L before old mid new r q h next =
      let j = next (before ++ h.lists) h.keeps in record {
        more = h.more ++ j.more;
        lists = h.lists ++ j.lists;
        refs = j.refs ∙ ap (λ (w : List ℕ). w ++ j.more) h.refs ∙ append_assoc old.refs.items h.more j.more;
        is = (λ i. joined (h.is i) (j.is i)) ∙ ap (λ (w : List ℕ). Ok (found w (h.lists ++ j.lists))) (sym (map-append (place_among common raw) h.more j.more));
        within = each_append (λ i. i < entries_among common raw) h.more j.more h.within j.within;
        keeps = subst (λ (w : List NamedList). L w new) (append_assoc before h.lists j.lists) j.keeps;
      }

  -- what is known behind it
  pub added_known : (K L : Known) (before : List NamedList) (old new : State) (r : Result Found Fault) → Added K before old new r → ((lists : List NamedList) → K lists new → L lists new)
      → Added L before old new r
  added_known K L before old new r h next = record { more = h.more; lists = h.lists; refs = h.refs; is = h.is; within = h.within; keeps = next (before ++ h.lists) h.keeps }

  -- ---- one item after the other

  pub adds_none : {X : Type 0} (K : Known) (f : X → Result Found Fault) (xs : List X) (before : List NamedList) (old new : State) → new.refs.items ≡ old.refs.items → K before new
      → Added K before old new (collect f (take 0 xs))
  unfolding collect
  adds_none K f xs before old new same k = added_none K before old new same k

  collect_one : {X : Type 0} (f : X → Result Found Fault) (x : X) → collect f (x ∷ []) ≡ f x
  unfolding collect
  collect_one f x = joined_none (f x)

  pub collect_more : {X : Type 0} (f : X → Result Found Fault) (xs : List X) (k : ℕ) (x : X) → slice_get xs k ≡ Some x → collect f (take (k + 1) xs) ≡ joined (collect f (take k xs)) (f x)
  collect_more f xs k x e = ap (collect f) (take_here xs k x e) ∙ collect_append f (take k xs) (x ∷ []) ∙ ap (joined (collect f (take k xs))) (collect_one f x)

  pub adds_more : {X : Type 0} (K L : Known) (f : X → Result Found Fault) (xs : List X) (k : ℕ) (x : X) (before : List NamedList) (old mid new : State) → slice_get xs k ≡ Some x
      → Added K before old mid (collect f (take k xs)) → ((lists : List NamedList) → K lists mid → Added L lists mid new (f x)) → Added L before old new (collect f (take (k + 1) xs))
  adds_more K L f xs k x before old mid new e h next =
      subst (λ (r : Result Found Fault). Added L before old new r) (sym (collect_more f xs k x e)) (added_both K L before old mid new (collect f (take k xs)) (f x) h next)

  failed_on : (e : ReadErr) (a : Found) (r q : Result Found Fault) → r ≡ Ok a → Fails e q → (rest : Result Found Fault) → Fails e (joined r (joined q rest))
  failed_on NoMemory a r q is h rest = tt
  failed_on (Refused f) a r q is h rest = λ i. joined (is i) (joined (h i) rest)

  pub fails_at : {X : Type 0} (K : Known) (f : X → Result Found Fault) (xs : List X) (k : ℕ) (x : X) (before : List NamedList) (old mid : State) (e : ReadErr) → slice_get xs k ≡ Some x
      → Added K before old mid (collect f (take k xs)) → ((lists : List NamedList) → K lists mid → Fails e (f x)) → Fails e (collect f xs)
  unfolding collect
  fails_at K f xs k x before old mid e is h bad =
      let whole : collect f xs ≡ joined (collect f (take k xs)) (joined (f x) (collect f (drop (k + 1) xs))) =
      ap (collect f) (sym (take-append-drop k xs)) ∙ collect_append f (take k xs) (drop k xs) ∙ ap (λ (ys : List _). joined (collect f (take k xs)) (collect f ys)) (drop_here xs k x is) in
      subst (λ (r : Result Found Fault). Fails e r) (sym whole)
      (failed_on e (found (map (place_among common raw) h.more) h.lists) (collect f (take k xs)) (f x) h.is (bad (before ++ h.lists) h.keeps) (collect f (drop (k + 1) xs)))

  pub adds_all : {X : Type 0} (K : Known) (f : X → Result Found Fault) (xs : List X) (k : ℕ) (before : List NamedList) (old new : State) → length xs ≤ k
      → Added K before old new (collect f (take k xs)) → Added K before old new (collect f xs)
  adds_all K f xs k before old new l h = subst (λ (ys : List _). Added K before old new (collect f ys)) (take_all k xs l) h

  -- ---- behind what names nothing

  pub behind_none : (K : Known) (before : List NamedList) (old new : State) (r q : Result Found Fault) → r ≡ Ok nothing_found → Added K before old new q → Added K before old new (joined r q)
  behind_none K before old new r q e h = subst (λ (w : Result Found Fault). Added K before old new w) (sym (ap (λ (w : Result Found Fault). joined w q) e ∙ none_joined q)) h

pub fails_behind : (e : ReadErr) (r q : Result Found Fault) → r ≡ Ok nothing_found → Fails e q → Fails e (joined r q)
fails_behind e r q is h = subst (λ (w : Result Found Fault). Fails e w) (sym (ap (λ (w : Result Found Fault). joined w q) is ∙ none_joined q)) h

pub fails_first : (e : ReadErr) (r q : Result Found Fault) → Fails e r → Fails e (joined r q)
fails_first NoMemory r q h = tt
fails_first (Refused f) r q h = ap (λ (w : Result Found Fault). joined w q) h

pub entry_goes : {Y : Type 0} (common : Option (Common ℕ)) (raw : List RawUnit) (K : List NamedList → State → Type 0) (before : List NamedList) (old new : State) (result : Result Y ReadErr) (r : Result (Value ℕ) Fault)
    → NamesEntry common raw old.refs.items new.refs.items result r → K before new → Goes common raw K before old new result (map_ok (found_in []) r)
entry_goes common raw K before old new (Ok y) r h k = added_entry common raw K before old new r h k
entry_goes common raw K before old new (Err NoMemory) r h k = tt
entry_goes common raw K before old new (Err (Refused f)) r h k = ap (λ (w : Result (Value ℕ) Fault). map_ok (found_in []) w) h
