-- A text is there, or the value has the fault.
use Rattle.std.proofs.Common.{◌≡◌, ℕ, Bool, true, false, List, [], Option, Some, None, Result, Ok, Err, refl, sym, ap, subst, ◌∙◌}
use Rattle.std.specs.Option.{is_some}
use Rattle.std.proofs.lemmas.Bool.{false≢true}
use Rattle.dwz_model.specs.declared.fault.Fault.{Fault}
use Rattle.dwz_model.specs.declared.fault.ReadErr.{ReadErr}
use Rattle.dwz_model.specs.declared.fault.ReadErr.TheVariants.{NoMemory, Refused}
use Rattle.dwz_model.specs.declared.fault.Reason.TheVariants.{BadString}
use Rattle.dwz_def_reading.specs.Entries.{RawAttr}
use Rattle.dwz_def_reading.specs.Faults.{info_fault}
use Rattle.dwz_def_reading.specs.Texts.{slot, text_at}
use Rattle.dwz_def_reading.specs.Units.{RawUnit}
use Rattle.dwz_def_reading.specs.Documents.{Value}
use Rattle.dwz_def_reading.specs.Meanings.{Common, MeaningContext, offset_of}
use Rattle.dwz_def_reading.specs.Meant.{common_text, text_by, text_from, text_or}
use Rattle.dwz_def_reading.specs.Shared.{NamedList}
use Rattle.dwz_graph_resolve.specs.declared.state.State.{State}
use Rattle.dwz_graph_resolve.specs.Named.{Found, found_in, map_ok, nothing_found}
use Rattle.dwz_graph_resolve.specs.Resolved.{Checks, Goes, has_slot_text, text_at_slot}
use Rattle.dwz_graph_resolve.specs.Surroundings.{has_common_text}
use Rattle.dwz_graph_resolve.proofs.NamedSteps.{added_none}

abbrev text_found : Result (Value ℕ) Fault → Result Found Fault
text_found r = map_ok (found_in []) r

-- nothing is named, or there is a fault
pub record IsTest (r : Result Found Fault) (b : Bool) (f : Fault) : Type 0 where
  pub good : b ≡ true → r ≡ Ok nothing_found
  pub bad : b ≡ false → r ≡ Err f

pub plain_goes : (common : Option (Common ℕ)) (raw : List RawUnit) (K : List NamedList → State → Type 0) (before : List NamedList) (st : State) (r : Result Found Fault) → K before st → r ≡ Ok nothing_found
    → Goes {Y = Unit {0}} common raw K before st st (Ok tt) r
plain_goes common raw K before st r k e = subst (λ (w : Result Found Fault). Goes {Y = Unit {0}} common raw K before st st (Ok tt) w) (sym e) (added_none common raw K before st st refl k)

pub test_goes : {Y : Type 0} (common : Option (Common ℕ)) (raw : List RawUnit) (K : List NamedList → State → Type 0) (before : List NamedList) (st : State) (result : Result Y ReadErr) (r : Result Found Fault) (b : Bool)
    (f : Fault) → K before st → Checks result b f → IsTest r b f → Goes common raw K before st st result r
test_goes common raw K before st (Ok y) r b f k c t = subst (λ (w : Result Found Fault). Goes {Y = Unit {0}} common raw K before st st (Ok tt) w) (sym (t.good c)) (added_none common raw K before st st refl k)
test_goes common raw K before st (Err NoMemory) r b f k c t = tt
test_goes common raw K before st (Err (Refused g)) r b f k c t = t.bad c.0 ∙ (let same : f ≡ g = (let e = c.1 in cc) in ap (λ (w : Fault). Err w) same)

text_test : (a : RawAttr) (o : Option (List ℕ)) → IsTest (text_found (text_or a o)) (is_some o) (info_fault a.at BadString)
text_test a None = record { good = λ e. absurd (false≢true e); bad = λ e. refl }
text_test a (Some text) = record { good = λ e. refl; bad = λ e. absurd (false≢true (sym e)) }

pub text_tells : (a : RawAttr) (section : List ℕ) (offset : ℕ) (b : Bool) → b ≡ is_some (text_at section offset) → offset ≡ offset_of a
    → IsTest (text_found (text_or a (text_at section (offset_of a)))) b (info_fault a.at BadString)
text_tells a section offset b e same =
    subst (λ (t : Bool). IsTest (text_found (text_or a (text_at section (offset_of a)))) t (info_fault a.at BadString)) (ap (λ (n : ℕ). is_some (text_at section n)) (sym same) ∙ sym e)
    (text_test a (text_at section (offset_of a)))

by_test : (s : MeaningContext ℕ) (a : RawAttr) (o : Option ℕ) → IsTest (text_found (text_by s a o)) (text_at_slot s.around.sources o) (info_fault a.at BadString)
by_test s a None = record { good = λ e. absurd (false≢true e); bad = λ e. refl }
by_test s a (Some offset) = text_test a (text_at s.around.sources.strs offset)

from_test : (s : MeaningContext ℕ) (a : RawAttr) (base : Option ℕ) → IsTest (text_found (text_from s a base)) (has_slot_text s.around.sources base (offset_of a)) (info_fault a.at BadString)
from_test s a None = record { good = λ e. absurd (false≢true e); bad = λ e. refl }
from_test s a (Some base) = by_test s a (slot s.around.sources.offsets base (offset_of a))

pub slot_tells : (s : MeaningContext ℕ) (a : RawAttr) (base : Option ℕ) (own : Option ℕ) (offset : ℕ) (b : Bool) → b ≡ has_slot_text s.around.sources base offset → offset ≡ offset_of a → base ≡ own
    → IsTest (text_found (text_from s a own)) b (info_fault a.at BadString)
slot_tells s a base own offset b e same is =
    subst (λ (t : Bool). IsTest (text_found (text_from s a own)) t (info_fault a.at BadString)) ((λ i. has_slot_text s.around.sources (sym is i) (sym same i)) ∙ sym e) (from_test s a own)

-- a text of the common file
from_common : (a : RawAttr) (common : Option (Common ℕ)) → IsTest (text_found (common_text a common)) (has_common_text common (offset_of a)) (info_fault a.at BadString)
from_common a None = record { good = λ e. absurd (false≢true e); bad = λ e. refl }
from_common a (Some c) = text_test a (text_at c.strs (offset_of a))

pub common_tells : (a : RawAttr) (common : Option (Common ℕ)) (offset : ℕ) (b : Bool) → b ≡ has_common_text common offset → offset ≡ offset_of a
    → IsTest (text_found (common_text a common)) b (info_fault a.at BadString)
common_tells a common offset b e is = subst (λ (t : Bool). IsTest (text_found (common_text a common)) t (info_fault a.at BadString)) (ap (has_common_text common) (sym is) ∙ sym e) (from_common a common)
