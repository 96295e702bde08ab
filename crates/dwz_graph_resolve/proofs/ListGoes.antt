-- Lists that values name.
use Rattle.std.proofs.Common.{◌≡◌, ℕ, ◌+◌, ◌<◌, ◌≤◌, Bool, true, false, List, [], ◌∷◌, length, Option, Some, None, Result, Ok, Err, nat_lt, refl, sym, ap, subst, ◌∙◌, inl, inr, arith}
use Rattle.std.specs.Prelude.{if◌then◌else◌}
use Rattle.std.proofs.lemmas.Bool.{cases_lt, cond-false, cond-true, lt-ltb, le-ltb}
use Rattle.std.proofs.lemmas.List.{append-nil}
use Rattle.dwz_model.specs.declared.fault.Fault.{Fault}
use Rattle.dwz_model.specs.declared.fault.ReadErr.{ReadErr}
use Rattle.dwz_model.specs.declared.fault.ReadErr.TheVariants.{NoMemory, Refused}
use Rattle.dwz_model.specs.declared.fault.Reason.TheVariants.{BadList}
use Rattle.dwz_def_reading.specs.Reading.{◌>>=◌}
use Rattle.dwz_def_reading.specs.Entries.{RawAttr}
use Rattle.dwz_def_reading.specs.Faults.{Fails, info_fault}
use Rattle.dwz_def_reading.specs.Texts.{slot, slot_place}
use Rattle.dwz_def_reading.specs.Units.{RawUnit}
use Rattle.dwz_def_reading.proofs.TextLemmas.{short_section}
use Rattle.dwz_def_reading.specs.Documents.{Sec, only}
use Rattle.dwz_def_reading.specs.LocLists.{LocList}
use Rattle.dwz_def_reading.specs.Meanings.{Common, MeaningContext, loclists_base, offset_of}
use Rattle.dwz_def_reading.specs.Classes.{names_list}
use Rattle.dwz_def_reading.specs.Meant.{list_by, list_from, list_meaning, list_read, loc_said}
use Rattle.dwz_def_reading.specs.NamedLists.{by_base, by_offset, named_at, named_by}
use Rattle.dwz_def_reading.specs.Shared.{NamedList}
use Rattle.dwz_graph_resolve.specs.declared.state.State.{State}
use Rattle.dwz_graph_resolve.specs.ListSteps.{AddsAt, AddsIf, AddsIndexed, AddsList, AddsOffset, BySlot, Walks, list_there, named_list}
use Rattle.dwz_graph_resolve.specs.Named.{Found, found_in, map_ok}
use Rattle.dwz_graph_resolve.specs.Resolved.{Goes}
use Rattle.dwz_graph_resolve.specs.State.{IsState}
use Rattle.dwz_graph_resolve.proofs.NamedSteps.{added_none}

abbrev no_list : ℕ → Result LocList Fault
no_list at = Err (info_fault at BadList)

there_at : (s : MeaningContext ℕ) (at place : ℕ) → place < length s.around.sources.lists → list_there s at place ≡ list_read s place
there_at s at place lt = cond-true (nat_lt place (length s.around.sources.lists)) (list_read s place) (no_list at) (lt-ltb place (length s.around.sources.lists) lt)

pub beyond_fails : (s : MeaningContext ℕ) (at place : ℕ) (e : ReadErr) → length s.around.sources.lists ≤ place → e ≡ Refused (info_fault at BadList) → Fails e (list_there s at place)
beyond_fails s at place NoMemory le is = tt
beyond_fails s at place (Refused f) le is =
    let same : f ≡ info_fault at BadList = cc in
    cond-false (nat_lt place (length s.around.sources.lists)) (list_read s place) (no_list at) (le-ltb place (length s.around.sources.lists) le) ∙ ap (λ (x : Fault). Err x) (sym same)

pub adds_at : {Y : Type 0} (raw : List RawUnit) (s : MeaningContext ℕ) (n at place : ℕ) (before : List NamedList) (old new : State) (result : Result Y ReadErr) → place < length s.around.sources.lists
    → Walks raw s n place before old new result → AddsList raw s n at place before old new result
adds_at raw s n at place before old new (Ok y) lt h = (lt, h)
adds_at raw s n at place before old new (Err NoMemory) lt h = tt
adds_at raw s n at place before old new (Err (Refused f)) lt h = there_at s at place lt ∙ h

pub adds_if : {Y : Type 0} (raw : List RawUnit) (s : MeaningContext ℕ) (n at offset : ℕ) (b c : Bool) (before : List NamedList) (old new : State) (result : Result Y ReadErr) → b ≡ c
    → AddsIf b raw s n at offset before old new result → AddsIf c raw s n at offset before old new result
adds_if raw s n at offset b c before old new result is h = subst (λ (x : Bool). AddsIf x raw s n at offset before old new result) is h

-- the slot is whole
pub slot_whole : (section : List ℕ) (base index o : ℕ) → slot section base index ≡ Some o → slot_place base index + 4 ≤ length section
slot_whole section base index o is = elim (cases_lt (length section) (slot_place base index + 4)) [
  | inl lt ↦ absurd (let none : None ≡ Some o = sym (short_section section base index lt) ∙ is in cc)
  | inr ge ↦ omega arith
]

-- ---- what values name

abbrev list_found : MeaningContext ℕ → Option ℕ → ℕ → RawAttr → Result Found Fault
list_found s slot place a = map_ok (found_in (named_at s slot place)) (list_meaning s a place)

meant : (s : MeaningContext ℕ) (a : RawAttr) (place : ℕ) → list_meaning s a place ≡ (list_there s a.at place >>= loc_said s)
meant s a place = by (nat_lt place (length s.around.sources.lists)) where
  by : (b : Bool) → (if b then list_read s place >>= loc_said s else Err (info_fault a.at BadList)) ≡ ((if b then list_read s place else no_list a.at) >>= loc_said s)
  by true = refl
  by false = refl

found_there : (s : MeaningContext ℕ) (slot : Option ℕ) (place : ℕ) (a : RawAttr) (list : LocList) → place < length s.around.sources.lists → list_read s place ≡ Ok list
    → list_found s slot place a ≡ Ok (record { refs = []; lists = named_list s slot place list ∷ [] })
found_there s slot place a list lt read =
    ap (map_ok (found_in (named_at s slot place))) (meant s a place ∙ ap (λ (r : Result LocList Fault). r >>= loc_said s) (there_at s a.at place lt))
    ∙ ap (λ (r : Result LocList Fault). map_ok (found_in (named_by s slot place r)) (r >>= loc_said s)) read

pub adds_goes : {Y : Type 0} (common : Option (Common ℕ)) (raw : List RawUnit) (s : MeaningContext ℕ) (n : ℕ) (slot : Option ℕ) (place : ℕ) (a : RawAttr) (before : List NamedList) (old new : State) (result : Result Y ReadErr)
    → AddsAt raw s n slot a.at place before old new result → Goes common raw (IsState raw s n) before old new result (list_found s slot place a)
adds_goes common raw s n slot place a before old new (Ok y) h =
    let g = h.1 in
    record {
      more = [];
      lists = named_list s slot place g.list ∷ [];
      refs = g.refs ∙ sym (append-nil old.refs.items);
      is = found_there s slot place a g.list h.0 g.read;
      within = tt;
      keeps = g.keeps;
    }
adds_goes common raw s n slot place a before old new (Err NoMemory) h = tt
adds_goes common raw s n slot place a before old new (Err (Refused f)) h = ap (map_ok (found_in (named_at s slot place))) (meant s a place ∙ ap (λ (r : Result LocList Fault). r >>= loc_said s) h)

abbrev offset_found : Bool → MeaningContext ℕ → RawAttr → Result Found Fault
offset_found b s a = map_ok (found_in (if b then named_at s None (offset_of a) else [])) (if b then list_meaning s a (offset_of a) else Ok (only (Sec (offset_of a))))

pub offset_goes : {Y : Type 0} (common : Option (Common ℕ)) (raw : List RawUnit) (s : MeaningContext ℕ) (n offset : ℕ) (a : RawAttr) (before : List NamedList) (old new : State) (result : Result Y ReadErr) → offset ≡ offset_of a
    → IsState raw s n before old → AddsOffset raw s n a.pair.name a.at offset before old new result
    → Goes common raw (IsState raw s n) before old new result (offset_found (names_list a.pair.name) s a)
offset_goes {Y} common raw s n offset a before old new result is k h = by (names_list a.pair.name) result (subst (λ (o : ℕ). AddsOffset raw s n a.pair.name a.at o before old new result) is h) where
  by : (b : Bool) (r : Result Y ReadErr) → AddsIf b raw s n a.at (offset_of a) before old new r → Goes common raw (IsState raw s n) before old new r (offset_found b s a)
  by true r g = adds_goes common raw s n None (offset_of a) a before old new r g
  by false (Ok y) g = added_none common raw (IsState raw s n) before old new (ap (λ (x : State). x.refs.items) g) (subst (λ (x : State). IsState raw s n before x) (sym g) k)
  by false (Err e) g = absurd g

pub indexed_goes : {Y : Type 0} (common : Option (Common ℕ)) (raw : List RawUnit) (s : MeaningContext ℕ) (n index : ℕ) (base : Option ℕ) (a : RawAttr) (before : List NamedList) (old new : State) (result : Result Y ReadErr)
    → index ≡ offset_of a → base ≡ loclists_base s → AddsIndexed raw s n base a.at index before old new result
    → Goes common raw (IsState raw s n) before old new result (map_ok (found_in (by_base s (offset_of a) (loclists_base s))) (list_from s a (loclists_base s)))
indexed_goes {Y} common raw s n index base a before old new result is based h =
    by (loclists_base s) result (subst (λ (b : Option ℕ). AddsIndexed raw s n b a.at (offset_of a) before old new result) based
    (subst (λ (o : ℕ). AddsIndexed raw s n base a.at o before old new result) is h)) where
      in_slot : (b : ℕ) (o : Option ℕ) (r : Result Y ReadErr) → BySlot raw s n b a.at (offset_of a) o before old new r
          → Goes common raw (IsState raw s n) before old new r (map_ok (found_in (by_offset s b (offset_of a) o)) (list_by s a b o))
      in_slot b None (Ok y) g = absurd g
      in_slot b None (Err NoMemory) g = tt
      in_slot b None (Err (Refused f)) g = let same : info_fault a.at BadList ≡ f = cc in ap (λ (x : Fault). Err x) same
      in_slot b (Some offset) r g = adds_goes common raw s n (Some (slot_place b (offset_of a))) (b + offset) a before old new r g

      by : (o : Option ℕ) (r : Result Y ReadErr) → AddsIndexed raw s n o a.at (offset_of a) before old new r
          → Goes common raw (IsState raw s n) before old new r (map_ok (found_in (by_base s (offset_of a) o)) (list_from s a o))
      by None (Ok y) g = absurd g
      by None (Err NoMemory) g = tt
      by None (Err (Refused f)) g = let same : info_fault a.at BadList ≡ f = cc in ap (λ (x : Fault). Err x) same
      by (Some b) r g = in_slot b (slot s.around.sources.lists b (offset_of a)) r g

pub no_base_fails : (raw : List RawUnit) (s : MeaningContext ℕ) (n at index : ℕ) (base : Option ℕ) (before : List NamedList) (old new : State) (e : ReadErr) → base ≡ None
    → e ≡ Refused (info_fault at BadList)
    → AddsIndexed {Y = Unit {0}} raw s n base at index before old new (Err e)
no_base_fails raw s n at index None before old new NoMemory is same = tt
no_base_fails raw s n at index None before old new (Refused f) is same = let one : info_fault at BadList ≡ f = cc in ap (λ (x : Fault). Err x) one
no_base_fails raw s n at index (Some b) before old new e is same = absurd cc

pub no_slot_fails : (raw : List RawUnit) (s : MeaningContext ℕ) (n at index b : ℕ) (base : Option ℕ) (before : List NamedList) (old new : State) (e : ReadErr) → base ≡ Some b
    → slot s.around.sources.lists b index ≡ None → e ≡ Refused (info_fault at BadList) → AddsIndexed {Y = Unit {0}} raw s n base at index before old new (Err e)
no_slot_fails raw s n at index b base before old new e is none same =
    subst (λ (o : Option ℕ). AddsIndexed {Y = Unit {0}} raw s n o at index before old new (Err e)) (sym is)
    (subst (λ (o : Option ℕ). BySlot {Y = Unit {0}} raw s n b at index o before old new (Err e)) (sym none) (by e same)) where
      by : (x : ReadErr) → x ≡ Refused (info_fault at BadList) → Fails {Y = LocList} x (no_list at)
      by NoMemory eq = tt
      by (Refused f) eq = let one : info_fault at BadList ≡ f = cc in ap (λ (y : Fault). Err y) one

pub by_slot : {Y : Type 0} (raw : List RawUnit) (s : MeaningContext ℕ) (n at index b offset place p : ℕ) (base : Option ℕ) (before : List NamedList) (old new : State) (result : Result Y ReadErr)
    → base ≡ Some b → slot s.around.sources.lists b index ≡ Some offset → place ≡ b + offset → p ≡ slot_place b index
    → AddsAt raw s n (Some p) at place before old new result → AddsIndexed raw s n base at index before old new result
by_slot raw s n at index b offset place p base before old new result is held there slotted h =
    subst (λ (o : Option ℕ). AddsIndexed raw s n o at index before old new result) (sym is)
    (subst (λ (o : Option ℕ). BySlot raw s n b at index o before old new result) (sym held)
    (subst (λ (q : ℕ). AddsAt raw s n (Some (slot_place b index)) at q before old new result) there (subst (λ (q : ℕ). AddsAt raw s n (Some q) at place before old new result) slotted h)))

-- a fault says nothing of the slot
pub slot_fails : (raw : List RawUnit) (s : MeaningContext ℕ) (n at place p : ℕ) (before : List NamedList) (old mid new : State) (e : ReadErr)
    → AddsList {Y = Unit {0}} raw s n at place before old mid (Err e)
    → AddsAt {Y = Unit {0}} raw s n (Some p) at place before old new (Err e)
slot_fails raw s n at place p before old mid new e h = h
