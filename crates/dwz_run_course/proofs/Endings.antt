-- How a run ends whose contents are there.
use Rattle.std.proofs.Common.{◌≡◌, ◌⊎◌, ◌^◌, ℕ, Bool, true, false, List, [], ◌∷◌, ◌++◌, map, Option, Some, None, refl, sym, ap, subst, ◌∙◌, inl, inr}
use Rattle.std.specs.Prelude.{IfSome}
use Rattle.std.specs.Borrow.{Bor}
use Rattle.std.proofs.lemmas.List.{append-nil}
use Rattle.dwz_model.specs.declared.fault.Refusal.{Refusal}
use Rattle.dwz_outside.specs.declared.puts.Put.{Put}
use Rattle.dwz_outside.specs.Counts.{Rose}
use Rattle.dwz_outside.specs.Store.{Store, done}
use Rattle.dwz_outside.specs.Told.{FilesSeen, LeavesPuts, StoredWith}
use Rattle.dwz_report.specs.Texts.{refusal_text, write_text}
use Rattle.std.specs.Global.{Vec}
use Rattle.dwz_words.specs.Asked.{names_got}
use Rattle.dwz_words.specs.Lawful.{Lawful}
use Rattle.dwz_run_course.specs.Gets.{AreOfBytes, gets_by, longest_behind}
use Rattle.dwz_words.specs.declared.options.Options.{Options}
use Rattle.dwz_run_course.specs.declared.output.Output.{Output}
use Rattle.dwz_run_course.specs.declared.putting.Ready.{Ready}
use Rattle.dwz_run_course.specs.declared.saying.Ended.{Ended}
use Rattle.dwz_run_course.specs.declared.saying.Ended.TheVariants.{AllPut, Differed, PartlyPut, WasRefused, NotLawful, NotGot, NotPut, OutOfMemory}
use Rattle.dwz_run_course.specs.declared.status.Status.{Status}
use Rattle.dwz_run_course.specs.declared.status.Status.TheVariants.{Done, Refused, Usage, ReadFault, WriteFault, NoMemory, ConsoleFault, Partly, Differs}
use Rattle.dwz_run_course.specs.Ended.{IsSaid, status_of, text_of, unsaid}
use Rattle.dwz_run_course.specs.Demo.{asked, asked_by, demo_options}
use Rattle.dwz_run_course.specs.Ends.{AreContents, Came, EndsFor, KeepsLastRead, done_text, finished, puts_unless_demo}
use Rattle.dwz_run_course.specs.Outcome.{Giving, Outcome, name_of_file, refuses, writes}
use Rattle.dwz_run_course.specs.Puts.{HeldWith, PutsDone, PutsStopped}
use Rattle.dwz_run_course.specs.Ready.{PutsStoppedFor, puts_of, ready_of}

-- the status isn't Refused
abbrev IsOther : Status → Type 0
IsOther Refused = ⊥
IsOther _ = Unit {0}

is_refused : (s : Status) → Refused ≡ s → IsOther s → ⊥
is_refused s is other = subst IsOther (sym is) other

-- ---- refused

refused : (makes : ℕ → List (List ℕ)) (gives : Giving) (words : List (List ℕ)) (old new : FilesSeen) (e : Ended) (r : Refusal) (came : Came makes gives words old (refuses r)) → LeavesPuts old new
    → IsSaid e Refused (refusal_text (name_of_file (asked came.options) r.file) r) → EndsFor makes gives words old new (status_of e) (text_of e)
refused makes gives words old new (AllPut text) r came nothing said = absurd (is_refused Done (sym said.0) tt)
refused makes gives words old new (Differed text) r came nothing said = absurd (is_refused Differs (sym said.0) tt)
refused makes gives words old new (PartlyPut text) r came nothing said = absurd (is_refused Partly (sym said.0) tt)
refused makes gives words old new (WasRefused text) r came nothing said = (r, came, nothing, said.1)
refused makes gives words old new NotLawful r came nothing said = absurd (is_refused Usage (sym said.0) tt)
refused makes gives words old new (NotGot text) r came nothing said = absurd (is_refused ReadFault (sym said.0) tt)
refused makes gives words old new (NotPut text) r came nothing said = absurd (is_refused WriteFault (sym said.0) tt)
refused makes gives words old new OutOfMemory r came nothing said = (nothing, refl)

-- ---- all is put

same_puts : (puts : List Put) → puts_of (map ready_of puts) ≡ puts
same_puts [] = refl
same_puts (p ∷ puts) = ap (λ (rest : List Put). p ∷ rest) (same_puts puts)

from_old : (old mid new : FilesSeen) (puts : List Put) → LeavesPuts old mid → HeldWith mid new puts → HeldWith old new puts
from_old old mid new puts leaves held = subst (λ (o : Option Store). IfSome o (λ store. new.held ≡ Some (done puts store))) leaves.held held

stored_from_old : (old mid new : FilesSeen) (puts : List Put) → LeavesPuts old mid → StoredWith mid new puts → StoredWith old new puts
stored_from_old old mid new puts leaves stored = subst (λ (o : Option (List Put)). IfSome o (λ before. new.stored ≡ Some (before ++ puts))) leaves.stored stored

pub all_put : (old mid new : FilesSeen) (all : List Ready) (puts : List Put) → LeavesPuts old mid → PutsDone mid new (puts_of all) → all ≡ map ready_of puts → PutsDone old new puts
all_put old mid new all puts leaves d is =
    let e : puts_of all ≡ puts = ap puts_of is ∙ same_puts puts in
    record {
      held = subst (HeldWith old new) e (from_old old mid new (puts_of all) leaves d.held);
      stored = subst (StoredWith old new) e (stored_from_old old mid new (puts_of all) leaves d.stored);
      last = d.last ∙ leaves.last;
    }

-- a run that did all ends as its output says
pub all_said : (makes : ℕ → List (List ℕ)) (gives : Giving) (words : List (List ℕ)) (old new : FilesSeen) (e : Ended) (text : List ℕ) (out : Output) (came : Came makes gives words old (writes out))
    → PutsDone old new (puts_unless_demo came.options.demo out) → text ≡ done_text came.options out → status_of e ≡ finished out.differs out.partly → text_of e ≡ text
    → EndsFor makes gives words old new (status_of e) (text_of e)
all_said makes gives words old new e text out came done is status same =
    subst (λ (s : Status). EndsFor makes gives words old new s (text_of e)) (sym status) (by out.differs out.partly refl refl) where
      by : (differs partly : Bool) → out.differs ≡ differs → out.partly ≡ partly → EndsFor makes gives words old new (finished differs partly) (text_of e)
      by false false is_same whole = (out, came, done, same ∙ is, is_same, whole)
      by false true is_same some = (out, came, done, same ∙ is, is_same, some)
      by true partly differ whole = (out, came, done, same ∙ is, differ)

-- ---- one put failed

abbrev AreReady : List Ready → Type 0
AreReady [] = Unit {0}
AreReady (r ∷ all) = (r.text ≡ write_text r.put.name) × AreReady all

made : (puts : List Put) → AreReady (map ready_of puts)
made [] = tt
made (p ∷ puts) = (refl, made puts)

amid : (before : List Ready) (r : Ready) (after : List Ready) → AreReady (before ++ r ∷ after) → r.text ≡ write_text r.put.name
amid [] r after all = all.0
amid (q ∷ before) r after all = amid before r after all.1

split : (before : List Ready) (r : Ready) (after : List Ready) → puts_of (before ++ r ∷ after) ≡ puts_of before ++ r.put ∷ puts_of after
split [] r after = refl
split (q ∷ before) r after = ap (λ (rest : List Put). q.put ∷ rest) (split before r after)

pub stopped : (old mid new : FilesSeen) (all : List Ready) (puts : List Put) (text : List ℕ) → LeavesPuts old mid → PutsStoppedFor mid new all text → all ≡ map ready_of puts
    → (name : List ℕ) × PutsStopped old new puts name × (text ≡ write_text name)
stopped old mid new all puts text leaves s is = (
  s.failed.put.name,
  record {
    before = puts_of s.before;
    failed = s.failed.put;
    after = puts_of s.after;
    puts_are = sym (ap puts_of is ∙ same_puts puts) ∙ ap puts_of s.all_are ∙ split s.before s.failed s.after;
    held = from_old old mid new (puts_of s.before) leaves s.held;
    stored = stored_from_old old mid new (puts_of s.before) leaves s.stored;
    name_is = refl;
    fault = record { rose = subst (λ (n : ℕ). Rose n new.write_faults) leaves.faults s.fault.rose; last = s.fault.last };
  },
  s.text_is ∙ amid s.before s.failed s.after (subst AreReady (sym is ∙ s.all_are) (made puts)),
)

-- ---- the contents are there

-- what was looked at is known to be bytes
pub of_bytes : (contents seen : List (Vec ℕ)) → seen ≡ contents → AreOfBytes (map (λ c. c.items) seen) → AreOfBytes (map (λ c. c.items) contents)
of_bytes contents seen same bytes = subst (λ (v : List (Vec ℕ)). AreOfBytes (map (λ c. c.items) v)) same bytes

abbrev pub came_of : (makes : ℕ → List (List ℕ)) (gives : Giving) (words : List (List ℕ)) (old : FilesSeen) (outcome : Outcome) (o : Options) (names seen : List (Bor (List ℕ)))
    (contents given : List (Vec ℕ)) (behind : ℕ) → o.demo ≡ None → Lawful words o → seen ≡ names → map (λ name. name.now) names ≡ names_got o → given ≡ contents → behind ≡ longest_behind o
    → IfSome old.held (λ store. gets_by (2 ^ 28) behind store 0 (map (λ name. name.now) seen) ≡ Some (map (λ c. c.items) contents)) → AreOfBytes (map (λ c. c.items) contents)
    → gives o (map (λ c. c.items) given) outcome → Came makes gives words old outcome
came_of makes gives words old outcome o names seen contents given behind none lawful seen_is is same behind_is got bytes what = record {
  options = o;
  lawful = lawful;
  contents = map (λ c. c.items) given;
  are = subst (λ (d : Option ℕ). AreContents makes d (longest_behind o) old (names_got o) (map (λ c. c.items) given)) (sym none)
      (subst (λ (n : ℕ). IfSome old.held (λ store. gets_by (2 ^ 28) n store 0 (names_got o) ≡ Some (map (λ c. c.items) given))) behind_is
      (subst (λ (v : List (Vec ℕ)). IfSome old.held (λ store. gets_by (2 ^ 28) behind store 0 (names_got o) ≡ Some (map (λ c. c.items) v))) (sym same)
      (subst (λ (ns : List (List ℕ)). IfSome old.held (λ store. gets_by (2 ^ 28) behind store 0 ns ≡ Some (map (λ c. c.items) contents)))
      (ap (λ (ns : List (Bor (List ℕ))). map (λ name. name.now) ns) seen_is ∙ is) got)));
  bytes = subst (λ (v : List (Vec ℕ)). AreOfBytes (map (λ c. c.items) v)) (sym same) bytes;
  given = subst (λ (d : Option ℕ). gives (asked_by d o) (map (λ c. c.items) given) outcome) (sym none) what;
}

-- those of a demonstration
abbrev pub made_of : (makes : ℕ → List (List ℕ)) (gives : Giving) (words : List (List ℕ)) (old : FilesSeen) (outcome : Outcome) (o work : Options) (n : ℕ) (contents given : List (Vec ℕ))
    → o.demo ≡ Some n → Lawful words o → work ≡ demo_options o → given ≡ contents → map (λ c. c.items) contents ≡ makes n → AreOfBytes (map (λ c. c.items) contents)
    → gives work (map (λ c. c.items) given) outcome → Came makes gives words old outcome
made_of makes gives words old outcome o work n contents given demo lawful is same made bytes what = record {
  options = o;
  lawful = lawful;
  contents = map (λ c. c.items) given;
  are = subst (λ (d : Option ℕ). AreContents makes d (longest_behind o) old (names_got o) (map (λ c. c.items) given)) (sym demo) (ap (λ (v : List (Vec ℕ)). map (λ c. c.items) v) same ∙ made);
  bytes = subst (λ (v : List (Vec ℕ)). AreOfBytes (map (λ c. c.items) v)) (sym same) bytes;
  given = subst (λ (d : Option ℕ). gives (asked_by d o) (map (λ c. c.items) given) outcome) (sym demo)
      (subst (λ (x : Options). gives x (map (λ c. c.items) given) outcome) is what);
}

-- ---- what was put, by whether there is a demonstration

pub with_puts : (demo : Option ℕ) (old new : FilesSeen) (out : Output) → demo ≡ None → PutsDone old new out.puts → PutsDone old new (puts_unless_demo demo out)
with_puts demo old new out none all = subst (λ (d : Option ℕ). PutsDone old new (puts_unless_demo d out)) (sym none) all

pub stopped_by : (demo : Option ℕ) (old new : FilesSeen) (out : Output) (name : List ℕ) → demo ≡ None → PutsStopped old new out.puts name → PutsStopped old new (puts_unless_demo demo out) name
stopped_by demo old new out name none stops = subst (λ (d : Option ℕ). PutsStopped old new (puts_unless_demo d out) name) (sym none) stops

pub nothing_held : (o : Option Store) → IfSome o (λ store. o ≡ Some (done [] store))
nothing_held None = tt
nothing_held (Some store) = refl

pub nothing_stored : (o : Option (List Put)) → IfSome o (λ before. o ≡ Some (before ++ []))
nothing_stored None = tt
nothing_stored (Some before) = ap (λ (puts : List Put). Some puts) (sym (append-nil before))

pub without_puts : (demo : Option ℕ) (told : FilesSeen) (out : Output) (n : ℕ) → demo ≡ Some n → PutsDone told told (puts_unless_demo demo out)
without_puts demo told out n is = subst (λ (d : Option ℕ). PutsDone told told (puts_unless_demo d out)) (sym is) (record {
  held = nothing_held told.held;
  stored = nothing_stored told.stored;
  last =
      refl;
})

pub no_puts : (told : FilesSeen) → LeavesPuts told told
no_puts told = record { held = refl; stored = refl; faults = refl; last = refl }

-- the work on the files of the words is asked with their options, and on those of a demonstration with its own
same_name : (o work : Options) (file : ℕ) (demo : Option ℕ) → o.demo ≡ demo → work ≡ asked_by demo o → name_of_file (asked o) file ≡ name_of_file work file
same_name o work file demo is same = ap (λ (d : Option ℕ). name_of_file (asked_by d o) file) is ∙ sym (ap (λ (x : Options). name_of_file x file) same)

pub refused_by : (makes : ℕ → List (List ℕ)) (gives : Giving) (words : List (List ℕ)) (old new : FilesSeen) (e : Ended) (r : Refusal) (work : Options) (demo : Option ℕ)
    (came : Came makes gives words old (refuses r)) → came.options.demo ≡ demo → work ≡ asked_by demo came.options
    → LeavesPuts old new → IsSaid e Refused (refusal_text (name_of_file work r.file) r) → EndsFor makes gives words old new (status_of e) (text_of e)
refused_by makes gives words old new e r work demo came is same nothing said =
    refused makes gives words old new e r came nothing (subst (λ (name : List ℕ). IsSaid e Refused (refusal_text name r)) (sym (same_name came.options work r.file demo is same)) said)

-- ---- which get failed last

pub kept_by : (status : Status) (old new : FilesSeen) → new.last_read ≡ old.last_read → KeepsLastRead status old new
kept_by Done old new same = same
kept_by Refused old new same = same
kept_by Usage old new same = same
kept_by ReadFault old new same = tt
kept_by WriteFault old new same = same
kept_by NoMemory old new same = tt
kept_by ConsoleFault old new same = same
kept_by Partly old new same = same
kept_by Differs old new same = same

-- the text changes nothing of that
unsaid_kept : (first : Status) (old new : FilesSeen) → KeepsLastRead first old new → KeepsLastRead (unsaid first) old new
unsaid_kept Done old new kept = kept
unsaid_kept Refused old new kept = kept
unsaid_kept Usage old new kept = kept
unsaid_kept ReadFault old new kept = kept
unsaid_kept WriteFault old new kept = kept
unsaid_kept NoMemory old new kept = kept
unsaid_kept ConsoleFault old new kept = kept
unsaid_kept Partly old new kept = kept
unsaid_kept Differs old new kept = kept

pub kept_after : (status first : Status) (old new : FilesSeen) → (status ≡ first) ⊎ (status ≡ unsaid first) → KeepsLastRead first old new → KeepsLastRead status old new
kept_after status first old new (inl is) kept = subst (λ (s : Status). KeepsLastRead s old new) (sym is) kept
kept_after status first old new (inr is) kept = subst (λ (s : Status). KeepsLastRead s old new) (sym is) (unsaid_kept first old new kept)
