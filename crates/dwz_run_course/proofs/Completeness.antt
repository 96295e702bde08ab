-- What follows of how a run ended.
use Rattle.std.proofs.Common.{◌≡◌, ◌⊎◌, ◌^◌, ℕ, Bool, true, false, List, [], ◌∷◌, Option, Some, None, refl, sym, ap, subst, ◌∙◌, inl, inr}
use Rattle.std.specs.Prelude.{IfSome}
use Rattle.dwz_model.specs.declared.fault.Refusal.{Refusal}
use Rattle.dwz_outside.specs.Counts.{Rose}
use Rattle.dwz_outside.specs.Store.{Store}
use Rattle.dwz_outside.specs.Told.{ConsoleSeen, FilesSeen}
use Rattle.dwz_words.specs.Asked.{names_got}
use Rattle.dwz_words.specs.declared.options.Options.{Options}
use Rattle.dwz_run_course.specs.declared.output.Output.{Output}
use Rattle.dwz_run_course.specs.declared.status.Status.{Status}
use Rattle.dwz_run_course.specs.declared.status.Status.TheVariants.{Done, Refused, Usage, ReadFault, WriteFault, NoMemory, ConsoleFault, Partly, Differs}
use Rattle.dwz_run_course.specs.Demo.{asked}
use Rattle.dwz_run_course.specs.Ended.{unsaid}
use Rattle.dwz_run_course.specs.Ends.{AreContents, AreHeld, AsksFor, Came, Complete, Ends, EndsFor, Refuses, Says, SaysNothing, finished}
use Rattle.dwz_run_course.specs.Gets.{gets_by, longest_behind}
use Rattle.dwz_run_course.specs.Outcome.{Giving, Outcome, refuses, writes}

-- one thing at most comes of options and contents
abbrev One : Giving → Type 0
One gives = (o : Options) (contents : List (List ℕ)) (a b : Outcome) → gives o contents a → gives o contents b → a ≡ b

same_some : (o : Option (List (List ℕ))) (a b : List (List ℕ)) → o ≡ Some a → o ≡ Some b → a ≡ b
same_some o a b one other = cc

-- the contents that are there are those that are asked for
same_contents : (makes : ℕ → List (List ℕ)) (demo : Option ℕ) (behind : ℕ) (old : FilesSeen) (names seen there : List (List ℕ)) → AreContents makes demo behind old names seen
    → AreHeld makes demo behind old names there → seen ≡ there
same_contents makes None behind old names seen there are held =
    let here : gets_by (2 ^ 28) behind held.0 0 names ≡ Some seen = subst (λ (h : Option Store). IfSome h (λ store. gets_by (2 ^ 28) behind store 0 names ≡ Some seen)) held.1 are in
    same_some (gets_by (2 ^ 28) behind held.0 0 names) seen there here held.2
same_contents makes (Some n) behind old names seen there are held = are ∙ sym held

same_outcome : (makes : ℕ → List (List ℕ)) (gives : Giving) (words : List (List ℕ)) (old : FilesSeen) (a b : Outcome) → One gives → Came makes gives words old a → AsksFor makes gives words old b
    → a ≡ b
same_outcome makes gives words old a b one came s =
    let o : came.options ≡ s.options = came.lawful.values ∙ sym s.lawful.values in
    let are : AreContents makes s.options.demo (longest_behind s.options) old (names_got s.options) came.contents
    = subst (λ (x : Options). AreContents makes x.demo (longest_behind x) old (names_got x) came.contents) o came.are in
    let c : came.contents ≡ s.contents = same_contents makes s.options.demo (longest_behind s.options) old (names_got s.options) came.contents s.contents are s.held in
    one (asked s.options) s.contents a b
    (subst (λ (x : List (List ℕ)). gives (asked s.options) x a) c (subst (λ (x : Options). gives (asked x) came.contents a) o came.given)) s.given

-- an outcome isn't both
abbrev IsWriting : Outcome → Type 0
IsWriting (writes out) = Unit {0}
IsWriting (refuses r) = ⊥

not_both : (out : Output) (r : Refusal) → writes out ≡ refuses r → ⊥
not_both out r is = subst IsWriting is tt

-- the status of an output
abbrev finished_in : Outcome → Status
finished_in (writes out) = finished out.differs out.partly
finished_in (refuses r) = Refused

one_way : (out other : Output) (s : Status) → writes out ≡ writes other → finished out.differs out.partly ≡ s → s ≡ finished other.differs other.partly
one_way out other s same is = sym is ∙ ap finished_in same

-- of an output of which all is so
whole : (differs partly : Bool) → differs ≡ false → partly ≡ false → finished differs partly ≡ Done
whole differs partly same all = ap (λ (b : Bool). finished b partly) same ∙ ap (finished false) all

some : (differs partly : Bool) → differs ≡ false → partly ≡ true → finished differs partly ≡ Partly
some differs partly same is = ap (λ (b : Bool). finished b partly) same ∙ ap (finished false) is

apart : (differs partly : Bool) → differs ≡ true → finished differs partly ≡ Differs
apart differs partly is = ap (λ (b : Bool). finished b partly) is

pub unwritten : (shown shown_new : ConsoleSeen) (text : List ℕ) → SaysNothing shown shown_new text → Rose shown.faults shown_new.faults
unwritten shown shown_new [] says = absurd says
unwritten shown shown_new (byte ∷ text) says = says.rose

module _ (makes : ℕ → List (List ℕ)) (gives : Giving) (words : List (List ℕ)) (old new : FilesSeen) (shown shown_new : ConsoleSeen) (one : One gives) where
  pub complete : (status : Status) → Ends makes gives words old new shown shown_new status → Complete makes gives words old new shown shown_new status
  complete Done e out s read write console =
      let same = same_outcome makes gives words old (writes e.files.0) (writes out) one e.files.1 s in
      inl (one_way e.files.0 out Done same (whole e.files.0.differs e.files.0.partly e.files.4 e.files.5))
  complete Differs e out s read write console =
      let same = same_outcome makes gives words old (writes e.files.0) (writes out) one e.files.1 s in
      inl (one_way e.files.0 out Differs same (apart e.files.0.differs e.files.0.partly e.files.4))
  complete Partly e out s read write console =
      let same = same_outcome makes gives words old (writes e.files.0) (writes out) one e.files.1 s in
      inl (one_way e.files.0 out Partly same (some e.files.0.differs e.files.0.partly e.files.4 e.files.5))
  complete Refused e out s read write console = absurd (not_both out e.files.0 (sym (same_outcome makes gives words old (refuses e.files.0) (writes out) one e.files.1 s)))
  complete Usage e out s read write console = absurd (e.files.0 s.options s.lawful)
  complete ReadFault e out s read write console = absurd (read e.files.4.rose)
  complete WriteFault e out s read write console = absurd (write e.files.3.fault.rose)
  complete NoMemory e out s read write console = inr refl
  complete ConsoleFault e out s read write console = absurd (console (unwritten shown shown_new e.text e.console))

  pub refuses_all : (status : Status) → Ends makes gives words old new shown shown_new status → Refuses makes gives words old new status
  refuses_all Done e r s read = absurd (not_both e.files.0 r (same_outcome makes gives words old (writes e.files.0) (refuses r) one e.files.1 s))
  refuses_all Differs e r s read = absurd (not_both e.files.0 r (same_outcome makes gives words old (writes e.files.0) (refuses r) one e.files.1 s))
  refuses_all Partly e r s read = absurd (not_both e.files.0 r (same_outcome makes gives words old (writes e.files.0) (refuses r) one e.files.1 s))
  refuses_all Refused e r s read = inl refl
  refuses_all Usage e r s read = absurd (e.files.0 s.options s.lawful)
  refuses_all ReadFault e r s read = absurd (read e.files.4.rose)
  refuses_all WriteFault e r s read = absurd (not_both e.files.0 r (same_outcome makes gives words old (writes e.files.0) (refuses r) one e.files.1 s))
  refuses_all NoMemory e r s read = inr refl
  refuses_all ConsoleFault e r s read = absurd (not_both e.files.0 r (same_outcome makes gives words old (writes e.files.0) (refuses r) one e.files.1 s))

-- how a run ended, where its text isn't written
unsaid_ends : (makes : ℕ → List (List ℕ)) (gives : Giving) (words : List (List ℕ)) (old new : FilesSeen) (first : Status) (text : List ℕ)
    → EndsFor makes gives words old new first text → EndsFor makes gives words old new (unsaid first) text
unsaid_ends makes gives words old new Done text e = (e.0, e.1, e.2, e.3)
unsaid_ends makes gives words old new Differs text e = (e.0, e.1, e.2, e.3)
unsaid_ends makes gives words old new Partly text e = (e.0, e.1, e.2, e.3)
unsaid_ends makes gives words old new Refused text e = e
unsaid_ends makes gives words old new Usage text e = e
unsaid_ends makes gives words old new ReadFault text e = e
unsaid_ends makes gives words old new WriteFault text e = e
unsaid_ends makes gives words old new NoMemory text e = e
unsaid_ends makes gives words old new ConsoleFault text e = e

-- how a run ended, and then said so
pub ends_of : (makes : ℕ → List (List ℕ)) (gives : Giving) (words : List (List ℕ)) (old new : FilesSeen) (shown shown_new : ConsoleSeen) (first status : Status) (text : List ℕ)
    → EndsFor makes gives words old new first text → (status ≡ first) ⊎ (status ≡ unsaid first) → Says shown shown_new status text → Ends makes gives words old new shown shown_new status
ends_of makes gives words old new shown shown_new first status text files (inl is) says =
    record { text = text; files = subst (λ (s : Status). EndsFor makes gives words old new s text) (sym is) files; console = says }
ends_of makes gives words old new shown shown_new first status text files (inr is) says =
    record {
      text = text;
      files = subst (λ (s : Status). EndsFor makes gives words old new s text) (sym is) (unsaid_ends makes gives words old new first text files);
      console = says;
    }
