-- What came of a run that did all is what is put of its FILEs, or of the two files of a demonstration, of which nothing is put, or the text on two
-- entries, or one FILE without its partial units, or FILEs over a finished common file, together or each as if it were alone with it, or the line
-- on two files that were compared.
use Rattle.std.proofs.Common.{◌≡◌, ◌⊎◌, ◌^◌, ℕ, Bool, true, false, List, [], ◌∷◌, ◌++◌, length, Option, Some, None, unwrap_or, refl, sym, ap, subst, ◌∙◌, inl, inr, append-nil}
use Rattle.std.specs.Prelude.{◌&&◌, IfSome, is_some, if◌then◌else◌}
use Rattle.dwz_def_reading.specs.Documents.{Doc}
use Rattle.dwz_def_reading.specs.Files.{ReadAll, no_files_before}
use Rattle.dwz_def_reading.specs.Finished.{FinishedDocs, ReadFinished}
use Rattle.dwz_def_reading.specs.Texts.{NoZero}
use Rattle.dwz_def_check.specs.Answer.{IsSameOf}
use Rattle.dwz_def_check.specs.declared.same.Same.{Same}
use Rattle.dwz_def_check.specs.Texts.{check_text}
use Rattle.dwz_outside.specs.declared.puts.Put.{Put}
use Rattle.dwz_outside.specs.Store.{Store, done}
use Rattle.dwz_outside.specs.Told.{FilesSeen}
use Rattle.dwz_words.specs.declared.options.Options.{Options}
use Rattle.dwz_words.specs.Asked.{names_got}
use Rattle.dwz_words.specs.Lawful.{Lawful}
use Rattle.dwz_words.proofs.Fits.{with_batch, with_check, with_expand, with_explain, with_reuse}
use Rattle.dwz_run_course.specs.declared.output.Output.{Output}
use Rattle.dwz_run_course.specs.Demo.{asked_by, demo_options}
use Rattle.dwz_run_course.specs.Ends.{AreContents, Came, done_text, parts_text, puts_unless_demo, slimmed_text}
use Rattle.dwz_run_course.specs.Gets.{AreOfBytes, gets, gets_by, longest_behind}
use Rattle.dwz_run_course.specs.Outcome.{writes}
use Rattle.dwz_gen.specs.Demo.{demo_files}
use Rattle.dwz_def_run.specs.Compares.{Compares, answer_on, common_in, tells_apart, two_in}
use Rattle.dwz_def_run.specs.Expands.{Expands, output_with, summary_with}
use Rattle.dwz_def_run.specs.Out.{OutBy, Slims, output_of, summary_of, sup_name, top_scope_of}
use Rattle.dwz_def_run.specs.Tells.{IsTold, TellsWhy, answer_of}
use Rattle.dwz_def_output.proofs.AllMade.{common_tied, file_tied, read_back}
use Rattle.dwz_def_run.proofs.Gotten.{are_held, got_files}
use Rattle.dwz_def_expand.specs.NewFile.{expanded_bytes}
use Rattle.dwz_def_run.specs.Comes.{ComesBy, reusing}
use Rattle.dwz_def_run.specs.Reuses.{Reuses, summary_over}
use Rattle.dwz_def_over.specs.Over.{run_over}
use Rattle.dwz_def_run.specs.Yields.{Batched, Yields, YieldsBy, batching}
use Rattle.dwz_run.specs.Batched.{AsksToBatch, HasBatch}
use Rattle.dwz_run.specs.Expanding.{AsksToExpand, HasOneOutput, new_put, said_of_one}
use Rattle.dwz_run.specs.Laws.{AsksForAnswer, AsksForDemo, AsksForFiles, AsksToCompare, HasOutput, HoldAfter, IsDemoText, puts_in, run_in, said}
use Rattle.dwz_run.specs.Reusing.{AsksToReuse, HasOverOutput, puts_of_over, said_over}
use Rattle.dwz_run.proofs.HeldAfter.{hold_after}
use Rattle.dwz_run.proofs.CommonName.{demo_named, named_well}
use Rattle.dwz_run.proofs.OfBytes.{each_bytes}
use Rattle.dwz_run.proofs.ExpandedAfter.{means_after, reads_after}
use Rattle.dwz_run.proofs.ReusedAfter.{back_over, ties_over}
use Rattle.dwz_run.proofs.BatchedAfter.{back_alone}

-- ---- what comes of bytes reads back, and is tied to its common file

pub record Given (o : Options) (contents : List (List ℕ)) (out : Output) : Type 0 where
  pub has : HasOutput o contents
  pub is : out ≡ output_of o (run_in has)

given_of : (o : Options) (contents : List (List ℕ)) (out : Output) → NoZero (sup_name o) → AreOfBytes contents → Slims o contents (writes out)
    → Given o contents out
given_of o contents out no_zero bytes given =
    let are = each_bytes contents bytes in
    record {
      has = record {
        docs = given.0;
        prunes = given.1;
        written = given.2;
        back = read_back (top_scope_of o) (sup_name o) contents given.0 given.1 are given.2;
        tied = record {
          common = common_tied (top_scope_of o) (sup_name o) contents given.0 given.1 are given.2;
          file = λ file there moves imports. file_tied (top_scope_of o) (sup_name o) contents given.0 given.1 are given.2 file there moves imports no_zero;
        };
      };
      is = given.3;
    }

-- ---- of FILEs, of a demonstration, and of two entries

-- these FILEs were asked for, and that is put and said of what came
pub record OfFiles (words : List (List ℕ)) (store : Store) (o : Options) (out : Output) : Type 0 where
  pub asks : AsksForFiles words store
  pub has : HasOutput asks.options asks.contents
  pub puts_are : puts_unless_demo o.demo out ≡ puts_in has
  pub text_is : done_text o out ≡ said asks.options (run_in has)
  pub same : out.differs ≡ false
  pub whole : out.partly ≡ false

-- a demonstration was, and of what came of its two files nothing is put, and one line is said
pub record OfDemo (words : List (List ℕ)) (o : Options) (out : Output) : Type 0 where
  pub asks : AsksForDemo words
  pub puts_are : puts_unless_demo o.demo out ≡ []
  pub is_text : IsDemoText asks (done_text o out)
  pub same : out.differs ≡ false
  pub whole : out.partly ≡ false

-- two entries were asked for, and of what came nothing is put, and the text on them is said
pub record OfAnswer (words : List (List ℕ)) (store : Store) (o : Options) (out : Output) : Type 0 where
  pub asks : AsksForAnswer words store
  pub docs : List (Doc ℕ)
  pub reads : ReadAll no_files_before asks.contents docs
  pub puts_are : puts_unless_demo o.demo out ≡ []
  pub is_text : IsTold asks.options docs (done_text o out)
  pub same : out.differs ≡ false
  pub whole : out.partly ≡ false

-- two files were to be compared, and of what came nothing is put, and the line on them is said
pub record OfCompared (words : List (List ℕ)) (store : Store) (o : Options) (out : Output) : Type 0 where
  pub asks : AsksToCompare words store
  pub said : FinishedDocs
  pub reads : ReadFinished (common_in asks.options.sup asks.contents) (two_in asks.options.sup asks.contents) said
  pub answer : Same
  pub is_same : IsSameOf said answer
  pub puts_are : puts_unless_demo o.demo out ≡ []
  pub text_is : done_text o out ≡ check_text answer
  pub differs : out.differs ≡ tells_apart answer
  pub whole : out.partly ≡ false

-- one file was to be written without its partial units, and of what came that is put, and its line is said
pub record OfExpanded (words : List (List ℕ)) (store : Store) (o : Options) (out : Output) : Type 0 where
  pub asks : AsksToExpand words store
  pub has : HasOneOutput asks
  pub puts_are : puts_unless_demo o.demo out ≡ new_put has ∷ []
  pub text_is : done_text o out ≡ said_of_one asks.options has.file.file.bytes (expanded_bytes has.file)
  pub same : out.differs ≡ false
  pub whole : out.partly ≡ false

-- FILEs were to be written over a finished common file, and of what came those are put, and their lines are said
pub record OfReused (words : List (List ℕ)) (store : Store) (o : Options) (out : Output) : Type 0 where
  pub asks : AsksToReuse words store
  pub has : HasOverOutput asks
  pub puts_are : puts_unless_demo o.demo out ≡ puts_of_over has
  pub text_is : done_text o out ≡ said_over asks.options has.files
  pub same : out.differs ≡ false
  pub whole : out.partly ≡ false

-- many FILEs were to be written over one, each as if it were alone with it, and of what came those are put, and their lines are said
pub record OfBatch (words : List (List ℕ)) (store : Store) (o : Options) (out : Output) : Type 0 where
  pub asks : AsksToBatch words store
  pub has : HasBatch asks
  pub puts_are : puts_unless_demo o.demo out ≡ has.all.puts
  pub text_is : done_text o out ≡ parts_text asks.options.quiet has.all.parts
  pub same : out.differs ≡ false
  pub is_partly : out.partly ≡ has.all.partly

abbrev pub Came_to : List (List ℕ) → Store → Options → Output → Type 0
Came_to words store o out =
    OfFiles words store o out
    ⊎ (OfDemo words o out
    ⊎ (OfAnswer words store o out
    ⊎ (OfExpanded words store o out ⊎ (OfReused words store o out ⊎ (OfBatch words store o out ⊎ OfCompared words store o out)))))

-- what is said of files that were slimmed, by the number of units of a demonstration
abbrev slimmed_said : Options → {p : Options} {contents : List (List ℕ)} → HasOutput p contents → Option ℕ → List ℕ
slimmed_said o {p} has demo = if o.quiet then [] else slimmed_text demo (summary_of p (run_in has)) (length (run_in has).move.parts)

pub demo_said_of : (words : List (List ℕ)) (a : AsksForDemo words) (contents : List (List ℕ)) (out : Output) → contents ≡ demo_files a.units
    → AreOfBytes contents → Slims (demo_options a.options) contents (writes out) → IsDemoText a (done_text a.options out)
demo_said_of words a contents out are bytes given =
    let o = demo_options a.options in
    let g = given_of o (demo_files a.units) out (demo_named a.options) (subst AreOfBytes are bytes) (subst (λ (cs : List (List ℕ)). Slims o cs (writes out)) are given) in
    record {
      out = g.has;
      text_is = ap (done_text a.options) g.is ∙ ap (slimmed_said a.options g.has) a.is_demo;
    }

-- ---- how long a file behind the first may be by itself, for the gets to go on

module _ (o : Options) (store : Store) (names contents : List (List ℕ)) where
  -- so many bytes by the common file of `--batch`
  abbrev GotFor : Option (List ℕ) → Type 0
  GotFor batch = gets_by (2 ^ 28) (if is_some batch then 2 ^ 29 else 2 ^ 28) store 0 names ≡ Some contents

  pub got_plain : o.batch ≡ None → gets_by (2 ^ 28) (longest_behind o) store 0 names ≡ Some contents → gets store 0 names ≡ Some contents
  got_plain none got = subst GotFor none got

  pub plain_got : o.batch ≡ None → gets store 0 names ≡ Some contents → gets_by (2 ^ 28) (longest_behind o) store 0 names ≡ Some contents
  plain_got none got = subst GotFor (sym none) got

  pub got_for_batch : (common : List ℕ) → o.batch ≡ Some common → gets_by (2 ^ 28) (longest_behind o) store 0 names ≡ Some contents
      → gets_by (2 ^ 28) (2 ^ 29) store 0 names ≡ Some contents
  got_for_batch common batches got = subst GotFor batches got

  pub batch_got : (common : List ℕ) → o.batch ≡ Some common → gets_by (2 ^ 28) (2 ^ 29) store 0 names ≡ Some contents
      → gets_by (2 ^ 28) (longest_behind o) store 0 names ≡ Some contents
  batch_got common batches got = subst GotFor (sym batches) got

module _ (words : List (List ℕ)) (old : FilesSeen) (store : Store) (told : old.held ≡ Some store) where
  pub got_of : (behind : ℕ) (names contents : List (List ℕ)) → IfSome old.held (λ s. gets_by (2 ^ 28) behind s 0 names ≡ Some contents)
      → gets_by (2 ^ 28) behind store 0 names ≡ Some contents
  got_of behind names contents is = subst (λ (h : Option Store). IfSome h (λ s. gets_by (2 ^ 28) behind s 0 names ≡ Some contents)) told is

  of_files : (o : Options) (contents : List (List ℕ)) (out : Output) → Lawful words o → o.demo ≡ None → o.explain ≡ false → o.check ≡ false → o.expand ≡ false → o.reuse ≡ None → o.batch ≡ None
      → gets store 0 (names_got o) ≡ Some contents → AreOfBytes contents → Slims o contents (writes out) → OfFiles words store o out
  of_files o contents out lawful no_demo slims no_check no_expand no_reuse no_batch got bytes given =
      let g = given_of o contents out (named_well o lawful.fit) bytes given in
      record {
        asks = record {
          options = o;
          lawful = lawful;
          no_demo = no_demo;
          slims = slims;
          no_check = no_check;
          no_expand = no_expand;
          no_reuse = no_reuse;
          no_batch = no_batch;
          contents = contents;
          got = subst (λ (names : List (List ℕ)). gets store 0 names ≡ Some contents) (got_files o lawful.fit slims no_check no_expand no_reuse no_batch) got;
        };
        has = g.has;
        puts_are = ap (λ (d : Option ℕ). puts_unless_demo d out) no_demo ∙ ap (λ (x : Output). x.puts) g.is;
        text_is = ap (done_text o) g.is ∙ ap (slimmed_said o g.has) no_demo;
        same = ap (λ (x : Output). x.differs) g.is;
        whole = ap (λ (x : Output). x.partly) g.is;
      }

  -- the one part of an answer is no summary, so it is said though the words ask for quiet
  all_said : (quiet : Bool) (text : List ℕ) → (if quiet && false then [] else text) ++ [] ≡ text
  all_said true text = append-nil text
  all_said false text = append-nil text

  of_answer : (o : Options) (contents : List (List ℕ)) (out : Output) → Lawful words o → o.explain ≡ true
      → gets store 0 (names_got o) ≡ Some contents → TellsWhy o contents (writes out) → OfAnswer words store o out
  of_answer o contents out lawful tells got given =
      let text = given.2.0 in
      let is : out ≡ answer_of text = given.2.2 in
      let is_said : done_text o out ≡ text = ap (done_text o) is ∙ all_said o.quiet text in
      record {
        asks = record { options = o; lawful = lawful; tells = tells; contents = contents; got = got };
        docs = given.0;
        reads = given.1;
        puts_are = ap (λ (d : Option ℕ). puts_unless_demo d out) (with_explain o lawful.fit tells).1 ∙ ap (λ (x : Output). x.puts) is;
        is_text = subst (IsTold o given.0) (sym is_said) given.2.1;
        same = ap (λ (x : Output). x.differs) is;
        whole = ap (λ (x : Output). x.partly) is;
      }

  of_compared : (o : Options) (contents : List (List ℕ)) (out : Output) → Lawful words o → o.check ≡ true
      → gets store 0 (names_got o) ≡ Some contents → Compares o contents (writes out) → OfCompared words store o out
  of_compared o contents out lawful compares got given =
      let is : out ≡ answer_on given.2 = given.4 in
      record {
        asks = record { options = o; lawful = lawful; compares = compares; contents = contents; got = got };
        said = given.0;
        reads = given.1;
        answer = given.2;
        is_same = given.3;
        puts_are = ap (λ (d : Option ℕ). puts_unless_demo d out) (with_check o lawful.fit compares).1 ∙ ap (λ (x : Output). x.puts) is;
        text_is = ap (done_text o) is ∙ all_said o.quiet (check_text given.2);
        differs = ap (λ (x : Output). x.differs) is;
        whole = ap (λ (x : Output). x.partly) is;
      }

  of_expanded : (o : Options) (contents : List (List ℕ)) (out : Output) → Lawful words o → o.expand ≡ true
      → gets store 0 (names_got o) ≡ Some contents → AreOfBytes contents → Expands o contents (writes out) → OfExpanded words store o out
  of_expanded o contents out lawful expands got bytes given =
      let fit = with_expand o lawful.fit expands in
      let no_demo = fit.3 in
      let file = given.0 in
      let new = expanded_bytes file in
      let put : Option (List ℕ) → List Put = λ w. record { name = unwrap_or w []; bytes = new } ∷ [] in
      let is : out ≡ output_with o file.file.bytes new = given.3 ∙ ap (λ (old : List ℕ). output_with o old new) (sym given.1.file) in
      record {
        asks = record { options = o; lawful = lawful; expands = expands; contents = contents; got = got };
        has = record {
          out = fit.5.0;
          is_out = fit.5.1;
          file = file;
          read = given.1;
          free = given.2;
          back = reads_after o contents (each_bytes contents bytes) file given.1 given.2;
          same = means_after o contents (each_bytes contents bytes) file given.1 given.2;
        };
        puts_are = ap (λ (d : Option ℕ). puts_unless_demo d out) no_demo ∙ ap (λ (x : Output). x.puts) is ∙ ap put fit.5.1;
        text_is = ap (done_text o) is ∙ ap (λ (d : Option ℕ). if o.quiet then [] else slimmed_text d (summary_with o file.file.bytes new) 0) no_demo;
        same = ap (λ (x : Output). x.differs) is;
        whole = ap (λ (x : Output). x.partly) is;
      }

  of_reused : (o : Options) (contents : List (List ℕ)) (out : Output) → Lawful words o → (common : List ℕ) → o.reuse ≡ Some common
      → gets store 0 (names_got o) ≡ Some contents → AreOfBytes contents → Reuses (reusing o) contents (writes out) → OfReused words store o out
  of_reused o contents out lawful common reuses got bytes given =
      let no_demo = (with_reuse o lawful.fit common reuses).2 in
      let x = given.0 in
      record {
        asks = record { options = o; lawful = lawful; common = common; reuses = reuses; contents = contents; got = got };
        has = record {
          files = x;
          contents = given.1;
          can = given.2;
          back = back_over o lawful.fit common reuses contents x given.1 given.2 bytes;
          tied = ties_over o lawful.fit common reuses contents x given.1 given.2 bytes;
        };
        puts_are = ap (λ (d : Option ℕ). puts_unless_demo d out) no_demo ∙ ap (λ (y : Output). y.puts) given.3;
        text_is = ap (done_text o) given.3
            ∙ ap (λ (d : Option ℕ). if o.quiet then [] else slimmed_text d (summary_over (reusing o) x) (length (run_over x).move.parts)) no_demo;
        same = ap (λ (y : Output). y.differs) given.3;
        whole = ap (λ (y : Output). y.partly) given.3;
      }

  of_batch : (o : Options) (contents : List (List ℕ)) (out : Output) → Lawful words o → (common : List ℕ) → o.batch ≡ Some common
      → gets_by (2 ^ 28) (2 ^ 29) store 0 (names_got o) ≡ Some contents → AreOfBytes contents → Batched (batching o) contents (writes out)
      → OfBatch words store o out
  of_batch o contents out lawful common batches got bytes given =
      let no_demo = (with_batch o lawful.fit common batches).3 in
      let asks : AsksToBatch words store = record { options = o; lawful = lawful; common = common; batches = batches; contents = contents; got = got } in
      record {
        asks = asks;
        has = record { all = given.0; comes = given.1; back = λ file there other comes. back_alone asks bytes file there other comes };
        puts_are = ap (λ (d : Option ℕ). puts_unless_demo d out) no_demo ∙ ap (λ (y : Output). y.puts) given.2;
        text_is = ap (done_text o) given.2;
        same = ap (λ (y : Output). y.differs) given.2;
        is_partly = ap (λ (y : Output). y.partly) given.2;
      }

  pub outputs : (out : Output) (came : Came demo_files Yields words old (writes out))
      → Came_to words store came.options out
  outputs out came = by came.options.demo refl came.are came.given where
    o : Options
    o = came.options

    contents : List (List ℕ)
    contents = came.contents

    undemonstrated : (b c d : Bool) → o.explain ≡ b → o.check ≡ c → o.expand ≡ d → o.reuse ≡ None → o.batch ≡ None → o.demo ≡ None → gets store 0 (names_got o) ≡ Some contents
        → OutBy b c d o contents (writes out) → Came_to words store o out
    undemonstrated false false false slims none no_expand no_reuse no_batch no_demo got given =
        inl (of_files o contents out came.lawful no_demo slims none no_expand no_reuse no_batch got came.bytes given)
    undemonstrated false false true none no_check expands no_reuse no_batch no_demo got given =
        inr (inr (inr (inl (of_expanded o contents out came.lawful expands got came.bytes given))))
    undemonstrated false true d none compares any no_reuse no_batch no_demo got given =
        inr (inr (inr (inr (inr (inr (of_compared o contents out came.lawful compares got given))))))
    undemonstrated true c d tells is any no_reuse no_batch no_demo got given = inr (inr (inl (of_answer o contents out came.lawful tells got given)))

    either : (reuse : Option (List ℕ)) → o.reuse ≡ reuse → o.batch ≡ None → o.demo ≡ None → gets store 0 (names_got o) ≡ Some contents
        → ComesBy reuse o contents (writes out) → Came_to words store o out
    either None no_reuse no_batch no_demo got given = undemonstrated o.explain o.check o.expand refl refl refl no_reuse no_batch no_demo got given
    either (Some common) reuses no_batch no_demo got given =
        inr (inr (inr (inr (inl (of_reused o contents out came.lawful common reuses got came.bytes given)))))

    any : (batch : Option (List ℕ)) → o.batch ≡ batch → o.demo ≡ None → gets_by (2 ^ 28) (longest_behind o) store 0 (names_got o) ≡ Some contents
        → YieldsBy batch o contents (writes out) → Came_to words store o out
    any None no_batch no_demo got given = either o.reuse refl no_batch no_demo (got_plain o store (names_got o) contents no_batch got) given
    any (Some common) batches no_demo got given =
        inr (inr (inr (inr (inr (inl (of_batch o contents out came.lawful common batches (got_for_batch o store (names_got o) contents common batches got) came.bytes given))))))

    by : (d : Option ℕ) → o.demo ≡ d → AreContents demo_files d (longest_behind o) old (names_got o) contents → Yields (asked_by d o) contents (writes out)
        → Came_to words store o out
    by (Some n) e are given =
        let a : AsksForDemo words = record { options = o; lawful = came.lawful; units = n; is_demo = e } in
        inr (inl (record {
          asks = a;
          puts_are = ap (λ (d : Option ℕ). puts_unless_demo d out) e;
          is_text = demo_said_of words a contents out are came.bytes given;
          same = ap (λ (x : Output). x.differs) given.3;
          whole = ap (λ (x : Output). x.partly) given.3;
        }))
    by None e are given = any o.batch refl e (got_of (longest_behind o) (names_got o) contents are) given

-- all puts done, the FILEs hold what they have after
pub output_held : {words : List (List ℕ)} {store : Store} (a : AsksForFiles words store) (out : HasOutput a.options a.contents)
    → HoldAfter a.options (run_in out) (done (puts_in out) store)
output_held {words} {store} a out =
    hold_after a.options (run_in out) a.lawful.fit a.slims store (are_held store a.options.files a.contents out.docs a.got out.written.read.reads)
