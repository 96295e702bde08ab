-- Values that are told at once.
use Rattle.std.proofs.Common.{◌≡◌, ℕ, ◌<◌, true, false, List, Option, Some, None, Result, Ok, Err, length, refl, sym, ap, subst, ◌∙◌}
use Rattle.std.specs.Prelude.{ℤ, IfOk, ◌==◌}
use Rattle.std.proofs.lemmas.Bool.{cond-false, cond-true, eq-eqb, ne_eqb}
use Rattle.dwz_bytes.specs.Input.{Input}
use Rattle.dwz_model.specs.declared.fault.Fault.{Fault}
use Rattle.dwz_model.specs.declared.place.Pair.{Pair}
use Rattle.dwz_def_reading.specs.Reading.{◌>>=◌}
use Rattle.dwz_def_reading.specs.Classes.{Class, class_of, names_file, names_list}
use Rattle.dwz_def_reading.specs.Entries.{RawAttr}
use Rattle.dwz_def_reading.specs.LineTables.{FileTable}
use Rattle.dwz_def_reading.specs.Meanings.{Common, MeaningContext, Sources}
use Rattle.dwz_def_reading.specs.Meant.{as_class, meaning}
use Rattle.dwz_def_reading.specs.NamedLists.{list_of_attr, lists_as}
use Rattle.dwz_def_reading.specs.Shared.{NamedList}
use Rattle.dwz_def_reading.specs.Units.{RawUnit}
use Rattle.dwz_def_reading.specs.Values.{value_at, written_rows}
use Rattle.dwz_graph_resolve.specs.declared.files.Files.{Files}
use Rattle.dwz_graph_resolve.specs.declared.here.Here.{Here}
use Rattle.dwz_graph_resolve.specs.declared.state.State.{State}
use Rattle.dwz_graph_resolve.specs.declared.surroundings.Surroundings.{Surroundings}
use Rattle.dwz_graph_resolve.specs.FileRows.{KnowTables, Learns, SaysConstant, file_there, row_there, unless_none}
use Rattle.dwz_graph_resolve.specs.ListSteps.{AddsOffset, HasList}
use Rattle.dwz_graph_resolve.specs.Named.{Found, attr_named, found_in, map_ok, nothing_found}
use Rattle.dwz_graph_resolve.specs.Parts.{numbers_file}
use Rattle.dwz_graph_resolve.specs.Quick.{AddsNamed, HasFileAt, IsUntouched}
use Rattle.dwz_graph_resolve.specs.Resolved.{Adds, IsHere, StateIn, value_between}
use Rattle.dwz_graph_resolve.specs.State.{IsState}
use Rattle.dwz_graph_resolve.specs.Surroundings.{common_view, scope_within}
use Rattle.dwz_graph_resolve.proofs.ListGoes.{adds_if}
use Rattle.dwz_graph_resolve.proofs.StateLemmas.{with_found}

-- ---- what a value says

-- it numbers a file of a table that is kept
pub file_at_once : (sources : Sources) (files : Files) (line : Option ℕ) (name at : ℕ) (z : ℤ) → names_file name ≡ true → KnowTables sources files → HasFileAt files line z
    → SaysConstant {Y = Unit {0}} sources line name at z files (Ok tt)
file_at_once sources files None name at z is know h = absurd (let bad : None ≡ Some h.table = h.kept in cc)
file_at_once sources files (Some place) name at z is know h =
    let t = know.known place h.table h.kept in (
      know,
      cond-true (names_file name) (file_there sources (Some place) at z) (Ok tt) is ∙ ap (λ (r : Result FileTable Fault). r >>= row_there at z) t.read
          ∙ ap (unless_none at) (h.has t.table t.there),
    )

-- it numbers none
pub plain_constant : (sources : Sources) (files : Files) (line : Option ℕ) (name at : ℕ) (z : ℤ) → names_file name ≡ false → KnowTables sources files
    → SaysConstant {Y = Unit {0}} sources line name at z files (Ok tt)
plain_constant sources files line name at z is know = (know, cond-false (names_file name) (file_there sources line at z) (Ok tt) is)

-- it is the offset of a list that was read
pub list_at_once : (raw : List RawUnit) (s : MeaningContext ℕ) (n name at offset : ℕ) (before : List NamedList) (st : State) → names_list name ≡ true
    → offset < length s.around.sources.lists → HasList raw s n None offset before st st → AddsOffset {Y = Unit {0}} raw s n name at offset before st st (Ok tt)
list_at_once raw s n name at offset before st is lt h = adds_if {Y = Unit {0}} raw s n at offset true (names_list name) before st st (Ok tt) (sym is) (lt, h)

-- and of no list
pub plain_offset : (raw : List RawUnit) (s : MeaningContext ℕ) (n name at offset : ℕ) (before : List NamedList) (st : State) → names_list name ≡ false
    → AddsOffset {Y = Unit {0}} raw s n name at offset before st st (Ok tt)
plain_offset raw s n name at offset before st is = adds_if {Y = Unit {0}} raw s n at offset false (names_list name) before st st (Ok tt) (sym is) refl

-- ---- what an attribute names

pub sibling_named : (s : MeaningContext ℕ) (a : RawAttr) → a.pair.name ≡ 0x01 → attr_named s a ≡ Ok nothing_found
sibling_named s a is = cond-true (a.pair.name == 0x01) (Ok nothing_found) (map_ok (found_in (list_of_attr s a)) (meaning s a)) (eq-eqb a.pair.name 0x01 is)

pub class_named : (s : MeaningContext ℕ) (a : RawAttr) (k : Class) → (a.pair.name ≡ 0x01 → ⊥) → k ≡ class_of a.pair.form
    → attr_named s a ≡ map_ok (found_in (lists_as k s a)) (as_class k s a)
unfolding meaning list_of_attr
class_named s a k other is =
    cond-false (a.pair.name == 0x01) (Ok nothing_found) (map_ok (found_in (list_of_attr s a)) (meaning s a)) (ne_eqb a.pair.name 0x01 other)
    ∙ ap (λ (k : Class). map_ok (found_in (lists_as k s a)) (as_class k s a)) (sym is)

-- ---- nothing was added before

pub state_untouched : (raw : List RawUnit) (s : MeaningContext ℕ) (n : ℕ) (named : List NamedList) (old new : State) → IsUntouched old new → IsState raw s n named old
    → IsState raw s n named new
state_untouched raw s n named old new h k = subst (λ (w : State). IsState raw s n named w) (sym h.rest) (with_found raw s n named old new.refs old.hints k)

pub adds_untouched : (common : Option (Common ℕ)) (raw : List RawUnit) (K : List NamedList → State → Type 0) (before : List NamedList) (old mid new : State) (named : Result Found Fault)
    → IsUntouched old mid → AddsNamed common raw K before mid new named → AddsNamed common raw K before old new named
adds_untouched common raw K before old mid new named h g = subst (λ (w : List ℕ). Adds common raw w new.refs.items before (λ lists. K lists new) named) h.items g

pub learns_untouched : (numbers : _) (line : Option ℕ) (old mid new : State) → IsUntouched old mid → Learns numbers line mid.files new.files → Learns numbers line old.files new.files
learns_untouched numbers line old mid new h g = subst (λ (w : State). Learns numbers line w.files new.files) h.rest g

-- ---- behind a value that was read

-- what it names was added, and the place is behind it
pub record TakesValue (around : Surroundings) (raw : List RawUnit) (h : Here) (pair : Pair) (from to : Input) (old new : State) : Type 0 where
  pub file : new.file ≡ old.file
  pub read : IfOk (value_at written_rows pair from) (λ x. to ≡ x.1)
  pub learns : IfOk (value_at written_rows pair from) (λ x. Learns (numbers_file (value_between from x.1 pair x.0)) h.line old.files new.files)
  pub goes : IfOk (value_at written_rows pair from) (λ x. (u : RawUnit) (before : List NamedList) → IsHere raw u h → StateIn around raw u h before old
      → AddsNamed (common_view around.common) raw (StateIn around raw u h) before old new (attr_named (scope_within around raw u) (value_between from x.1 pair x.0)))

each_ok : {X E : Type 0} (P Q : X → Type 0) (r : Result X E) → ((x : X) → P x → Q x) → IfOk r P → IfOk r Q
each_ok P Q (Ok x) f h = f x h
each_ok P Q (Err e) f h = tt

-- the same, where nothing was added before
pub takes_behind : (around : Surroundings) (raw : List RawUnit) (h : Here) (pair : Pair) (from aside to : Input) (old mid new : State) → aside ≡ from → IsUntouched old mid
    → TakesValue around raw h pair aside to mid new → TakesValue around raw h pair from to old new
takes_behind around raw h pair from aside to old mid new is same told =
    let t = subst (λ (i : Input). TakesValue around raw h pair i to mid new) is told in record {
      file = t.file ∙ ap (λ (w : State). w.file) same.rest;
      read = t.read;
      learns = each_ok (λ x. Learns (numbers_file (value_between from x.1 pair x.0)) h.line mid.files new.files) (λ x. Learns (numbers_file (value_between from x.1 pair x.0)) h.line old.files new.files)
          (value_at written_rows pair from)
          (λ x g. learns_untouched (numbers_file (value_between from x.1 pair x.0)) h.line old mid new same g) t.learns;
      goes = each_ok
          (λ x. (u : RawUnit) (before : List NamedList) → IsHere raw u h → StateIn around raw u h before mid
          → AddsNamed (common_view around.common) raw (StateIn around raw u h) before mid new (attr_named (scope_within around raw u) (value_between from x.1 pair x.0)))
          (λ x. (u : RawUnit) (before : List NamedList) → IsHere raw u h → StateIn around raw u h before old
          → AddsNamed (common_view around.common) raw (StateIn around raw u h) before old new (attr_named (scope_within around raw u) (value_between from x.1 pair x.0)))
          (value_at written_rows pair from)
          (λ x g u before here k. adds_untouched (common_view around.common) raw (StateIn around raw u h) before old mid new (attr_named (scope_within around raw u) (value_between from x.1 pair x.0)) same
          (g u before here (state_untouched raw (scope_within around raw u) h.number before old mid same k)))
          t.goes;
    }
