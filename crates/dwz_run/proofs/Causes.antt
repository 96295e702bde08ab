-- Why a run ends as it does: what each status says, by its words and by what failed.
use Rattle.std.proofs.Common.{◌≡◌, ◌⊎◌, ◌^◌, ℕ, Bool, true, false, List, Option, Some, None, refl, sym, ap, subst, inl, inr}
use Rattle.dwz_model.specs.declared.fault.Refusal.{Refusal}
use Rattle.dwz_outside.specs.Store.{Store}
use Rattle.dwz_outside.specs.Told.{ConsoleSeen, FilesSeen, LeavesPuts}
use Rattle.dwz_words.specs.declared.options.Options.{Options}
use Rattle.dwz_words.specs.Asked.{names_got}
use Rattle.dwz_words.specs.Lawful.{Lawful}
use Rattle.dwz_run_course.specs.declared.status.Status.{Status}
use Rattle.dwz_run_course.specs.declared.status.Status.TheVariants.{Done, Refused, Usage, ReadFault, WriteFault, NoMemory, ConsoleFault, Partly, Differs}
use Rattle.dwz_report.specs.Texts.{refusal_text}
use Rattle.dwz_run_course.specs.Demo.{asked, asked_by, demo_options}
use Rattle.dwz_run_course.specs.Ends.{AreContents, Came, Says}
use Rattle.dwz_run_course.specs.Gets.{gets, gets_by, longest_behind}
use Rattle.dwz_run_course.specs.Outcome.{name_of_file, refuses}
use Rattle.dwz_gen.specs.Demo.{demo_files}
use Rattle.dwz_def_run.specs.Out.{OutBy, Slims}
use Rattle.dwz_def_run.proofs.Gotten.{got_files}
use Rattle.dwz_def_run.specs.Comes.{ComesBy}
use Rattle.dwz_def_run.specs.Yields.{Yields, YieldsBy}
use Rattle.dwz_run.specs.Laws.{IsFirstAmong, IsFirstIn, IsFirstOf, IsFirstRefusal, PutsNothing, RunEnds, WasRefused, for_answer, for_demo, for_files, to_batch, to_compare, to_expand, to_reuse}
use Rattle.dwz_run.proofs.Outputs.{got_for_batch, got_of, got_plain}

-- what comes of contents that are refused is their first fault, and the other way round
pub first_of : (b c d : Bool) (o : Options) (contents : List (List ℕ)) (r : Refusal) → OutBy b c d o contents (refuses r) → IsFirstOf b c d o contents r
first_of true c d o contents r given = given
first_of false true d o contents r given = given
first_of false false true o contents r given = given
first_of false false false o contents r given = given

pub first_comes : (b c d : Bool) (o : Options) (contents : List (List ℕ)) (r : Refusal) → IsFirstOf b c d o contents r → OutBy b c d o contents (refuses r)
first_comes true c d o contents r first = first
first_comes false true d o contents r first = first
first_comes false false true o contents r first = first
first_comes false false false o contents r first = first

-- also over a finished common file
pub first_in : (reuse : Option (List ℕ)) (o : Options) (contents : List (List ℕ)) (r : Refusal) → ComesBy reuse o contents (refuses r) → IsFirstIn reuse o contents r
first_in None o contents r given = first_of o.explain o.check o.expand o contents r given
first_in (Some common) o contents r given = given

pub comes_in : (reuse : Option (List ℕ)) (o : Options) (contents : List (List ℕ)) (r : Refusal) → IsFirstIn reuse o contents r → ComesBy reuse o contents (refuses r)
comes_in None o contents r first = first_comes o.explain o.check o.expand o contents r first
comes_in (Some common) o contents r first = first

-- and of many files over one
pub first_among : (batch : Option (List ℕ)) (o : Options) (contents : List (List ℕ)) (r : Refusal) → YieldsBy batch o contents (refuses r) → IsFirstAmong batch o contents r
first_among None o contents r given = first_in o.reuse o contents r given
first_among (Some common) o contents r given = given

pub among_comes : (batch : Option (List ℕ)) (o : Options) (contents : List (List ℕ)) (r : Refusal) → IsFirstAmong batch o contents r → YieldsBy batch o contents (refuses r)
among_comes None o contents r first = comes_in o.reuse o contents r first
among_comes (Some common) o contents r first = first

-- the files of a demonstration were refused with their first fault
pub demo_refused : (r : Refusal) (o : Options) (n : ℕ) (contents : List (List ℕ)) → contents ≡ demo_files n → Slims (demo_options o) contents (refuses r)
    → IsFirstRefusal (demo_options o) (demo_files n) r
demo_refused r o n contents are given = subst (λ (cs : List (List ℕ)). Slims (demo_options o) cs (refuses r)) are given

module _ (words : List (List ℕ)) (old new : FilesSeen) (shown shown_new : ConsoleSeen) where
  -- ---- nothing is put

  unchanged : new ≡ old → LeavesPuts old new
  unchanged same = record {
    held = ap (λ (t : FilesSeen). t.held) same;
    stored = ap (λ (t : FilesSeen). t.stored) same;
    faults = ap (λ (t : FilesSeen). t.write_faults) same;
    last = ap (λ (t : FilesSeen). t.last_write) same;
  }

  pub puts_nothing : (status : Status) → RunEnds words old new shown shown_new status → PutsNothing status → LeavesPuts old new
  puts_nothing Done e nothing = absurd nothing
  puts_nothing Refused e nothing = e.files.2
  puts_nothing Usage e nothing = unchanged e.files.1
  puts_nothing ReadFault e nothing = e.files.5
  puts_nothing WriteFault e nothing = absurd nothing
  puts_nothing NoMemory e nothing = e.files.0
  puts_nothing ConsoleFault e nothing = absurd nothing
  puts_nothing Partly e nothing = absurd nothing
  puts_nothing Differs e nothing = absurd nothing

  -- ---- the words

  pub is_usage : (status : Status) → RunEnds words old new shown shown_new status → ((o : Options) → ¬ (Lawful words o))
      → (status ≡ Usage) ⊎ (status ≡ NoMemory)
  is_usage Done e none = absurd (none e.files.1.options e.files.1.lawful)
  is_usage Refused e none = absurd (none e.files.1.options e.files.1.lawful)
  is_usage Usage e none = inl refl
  is_usage ReadFault e none = absurd (none e.files.1 e.files.2)
  is_usage WriteFault e none = absurd (none e.files.1.options e.files.1.lawful)
  is_usage NoMemory e none = inr refl
  is_usage ConsoleFault e none = absurd (none e.files.1.options e.files.1.lawful)
  is_usage Partly e none = absurd (none e.files.1.options e.files.1.lawful)
  is_usage Differs e none = absurd (none e.files.1.options e.files.1.lawful)

  not_lawful : RunEnds words old new shown shown_new Usage → (o : Options) → ¬ (Lawful words o)
  not_lawful e = e.files.0

  pub usage_alone : (status : Status) → RunEnds words old new shown shown_new status → status ≡ Usage → (o : Options) → ¬ (Lawful words o)
  usage_alone status e is = not_lawful (subst (RunEnds words old new shown shown_new) is e)

  -- ---- a refusal

  module _ (store : Store) (told : old.held ≡ Some store) where
    refused_with : (r : Refusal) (came : Came demo_files Yields words old (refuses r)) (text : List ℕ)
        → text ≡ refusal_text (name_of_file (asked came.options) r.file) r → WasRefused words store text
    refused_with r came text is = by came.options.demo refl came.are came.given is where
      o : Options
      o = came.options

      contents : List (List ℕ)
      contents = came.contents

      is_among : (batch : Option (List ℕ)) → o.batch ≡ batch → IsFirstAmong batch o contents r → IsFirstRefusal o contents r
      is_among batch is first = subst (λ (w : Option (List ℕ)). IsFirstAmong w o contents r) (sym is) first

      is_first : (reuse : Option (List ℕ)) → o.reuse ≡ reuse → o.batch ≡ None → ComesBy reuse o contents (refuses r) → IsFirstRefusal o contents r
      is_first reuse is no_batch given =
          is_among None no_batch (subst (λ (w : Option (List ℕ)). IsFirstIn w o contents r) (sym is) (first_in reuse o contents r given))

      undemonstrated : (b c d : Bool) → o.explain ≡ b → o.check ≡ c → o.expand ≡ d → o.reuse ≡ None → o.batch ≡ None → o.demo ≡ None → gets store 0 (names_got o) ≡ Some contents
          → OutBy o.explain o.check o.expand o contents (refuses r) → text ≡ refusal_text (name_of_file o r.file) r → WasRefused words store text
      undemonstrated false false false slims none no_expand no_reuse no_batch e got given is = record {
        asks = for_files (record {
          options = o;
          lawful = came.lawful;
          no_demo = e;
          slims = slims;
          no_check = none;
          no_expand = no_expand;
          no_reuse = no_reuse;
          no_batch = no_batch;
          contents = contents;
          got = subst (λ (names : List (List ℕ)). gets store 0 names ≡ Some contents) (got_files o came.lawful.fit slims none no_expand no_reuse no_batch) got;
        });
        refusal = r;
        is_first = is_first None no_reuse no_batch given;
        text_is = is;
      }
      undemonstrated false false true none no_check expands no_reuse no_batch e got given is = record {
        asks = to_expand (record { options = o; lawful = came.lawful; expands = expands; contents = contents; got = got });
        refusal = r;
        is_first = is_first None no_reuse no_batch given;
        text_is = is;
      }
      undemonstrated false true d none compares any no_reuse no_batch e got given is = record {
        asks = to_compare (record { options = o; lawful = came.lawful; compares = compares; contents = contents; got = got });
        refusal = r;
        is_first = is_first None no_reuse no_batch given;
        text_is = is;
      }
      undemonstrated true c d tells has any no_reuse no_batch e got given is = record {
        asks = for_answer (record { options = o; lawful = came.lawful; tells = tells; contents = contents; got = got });
        refusal = r;
        is_first = is_first None no_reuse no_batch given;
        text_is = is;
      }

      either : (reuse : Option (List ℕ)) → o.reuse ≡ reuse → o.batch ≡ None → o.demo ≡ None → gets store 0 (names_got o) ≡ Some contents
          → ComesBy reuse o contents (refuses r) → text ≡ refusal_text (name_of_file o r.file) r → WasRefused words store text
      either None no_reuse no_batch e got given is = undemonstrated o.explain o.check o.expand refl refl refl no_reuse no_batch e got given is
      either (Some common) reuses no_batch e got given is = record {
        asks = to_reuse (record { options = o; lawful = came.lawful; common = common; reuses = reuses; contents = contents; got = got });
        refusal = r;
        is_first = is_first (Some common) reuses no_batch given;
        text_is = is;
      }

      any : (batch : Option (List ℕ)) → o.batch ≡ batch → o.demo ≡ None → gets_by (2 ^ 28) (longest_behind o) store 0 (names_got o) ≡ Some contents
          → YieldsBy batch o contents (refuses r) → text ≡ refusal_text (name_of_file o r.file) r → WasRefused words store text
      any None no_batch e got given is = either o.reuse refl no_batch e (got_plain o store (names_got o) contents no_batch got) given is
      any (Some common) batches e got given is = record {
        asks = to_batch (record {
          options = o;
          lawful = came.lawful;
          common = common;
          batches = batches;
          contents = contents;
          got = got_for_batch o store (names_got o) contents common batches got;
        });
        refusal = r;
        is_first = is_among (Some common) batches given;
        text_is = is;
      }

      by : (d : Option ℕ) → o.demo ≡ d → AreContents demo_files d (longest_behind o) old (names_got o) contents → Yields (asked_by d o) contents (refuses r)
          → text ≡ refusal_text (name_of_file (asked_by d o) r.file) r → WasRefused words store text
      by None e are given is = any o.batch refl e (got_of words old store told (longest_behind o) (names_got o) contents are) given is
      by (Some n) e are given is = record {
        asks = for_demo (record { options = o; lawful = came.lawful; units = n; is_demo = e });
        refusal = r;
        is_first = demo_refused r o n contents are given;
        text_is = is;
      }

    pub was_refused : RunEnds words old new shown shown_new Refused
        → (text : List ℕ) × WasRefused words store text × Says shown shown_new Refused text
    was_refused e = (e.text, refused_with e.files.0 e.files.1 e.text e.files.3, e.console)
