-- What holds where all puts are done.
use Rattle.std.proofs.Common.{◌≡◌, ◌⊎◌, ℕ, Bool, true, false, List, [], ◌∷◌, Option, Some, refl, sym, ap, subst, ◌∙◌, inl, inr}
use Rattle.std.specs.Prelude.{IfSome}
use Rattle.dwz_outside.specs.declared.puts.Put.{Put}
use Rattle.dwz_outside.specs.Store.{Store, done}
use Rattle.dwz_outside.specs.Told.{ConsoleSeen, StoredWith, FilesSeen}
use Rattle.dwz_run_course.specs.declared.output.Output.{Output}
use Rattle.dwz_run_course.specs.declared.status.Status.TheVariants.{ConsoleFault, Differs, Done, Partly}
use Rattle.dwz_run_course.specs.Ends.{Came, SaysAll, SaysNothing, done_text, puts_unless_demo}
use Rattle.dwz_run_course.specs.Outcome.{writes}
use Rattle.dwz_run_course.specs.Puts.{HeldWith, PutsDone}
use Rattle.dwz_gen.specs.Demo.{demo_files}
use Rattle.dwz_def_check.specs.declared.same.Same.{Same}
use Rattle.dwz_def_run.specs.Compares.{tells_apart}
use Rattle.dwz_def_run.specs.Tells.{IsTold}
use Rattle.dwz_def_run.proofs.Compared.{same_told}
use Rattle.dwz_def_run.proofs.Stopping.{put_own}
use Rattle.dwz_def_expand.specs.NewFile.{expanded_bytes}
use Rattle.dwz_def_run.specs.Yields.{Yields}
use Rattle.dwz_run.specs.Batched.{DidBatch}
use Rattle.dwz_run.specs.Expanding.{DidExpand, new_put}
use Rattle.dwz_run.specs.Laws.{Did, DidAll, DidCompare, DidDemo, DidTell, FoundApart, IsDemoText, RunEnds, puts_in}
use Rattle.dwz_run.specs.Reusing.{DidReuse, puts_of_over}
use Rattle.dwz_run.proofs.Outputs.{Came_to, output_held, outputs}
use Rattle.dwz_run.proofs.BatchedAfter.{hold_alone, kept_after}
use Rattle.dwz_run.proofs.ReusedAfter.{after_over, kept_over}

pub with_puts : (old new : FilesSeen) (store : Store) (a b : List Put) → old.held ≡ Some store → a ≡ b → HeldWith old new a
    → new.held ≡ Some (done b store)
with_puts old new store a b told same held =
    subst (λ (h : Option Store). IfSome h (λ s. new.held ≡ Some (done a s))) told held ∙ ap (λ (ps : List Put). Some (done ps store)) same

module _ (words : List (List ℕ)) (old new : FilesSeen) (shown shown_new : ConsoleSeen) (store : Store) (told : old.held ≡ Some store) where
  -- What was done is no answer that files differ, and no FILE is refused by itself, or it is what is done where some may be; or it is the answer on two
  -- files.
  abbrev Found : Output → List ℕ → Type 0
  Found out text =
      ((out.differs ≡ false) × (out.partly ≡ false)
      × (DidAll words store old new text
      ⊎ (DidDemo words store old new text
      ⊎ (DidTell words store old new text ⊎ (DidExpand words store old new text ⊎ DidReuse words store old new text)))))
      ⊎ (((out.differs ≡ false) × DidBatch words store old new text out.partly)
      ⊎ ((same : Same) × (out.differs ≡ tells_apart same) × (out.partly ≡ false) × DidCompare words store old new text same))

  found : (out : Output) (came : Came demo_files Yields words old (writes out)) (text : List ℕ) → PutsDone old new (puts_unless_demo came.options.demo out)
      → text ≡ done_text came.options out → Found out text
  found out came text puts is = by (outputs words old store told out came) where
    by : Came_to words store came.options out → Found out text
    by (inl f) = inl (
      f.same,
      f.whole,
      inl (record {
        asks = f.asks;
        out = f.has;
        held = with_puts old new store (puts_unless_demo came.options.demo out) (puts_in f.has) told f.puts_are puts.held;
        stored = subst (λ (ps : List Put). StoredWith old new ps) f.puts_are puts.stored;
        after = output_held f.asks f.has;
        text_is = is ∙ f.text_is;
      }),
    )
    by (inr (inl d)) = inl (
      d.same,
      d.whole,
      inr (inl (record {
        asks = d.asks;
        is_text = subst (IsDemoText d.asks) (sym is) d.is_text;
        held = with_puts old new store (puts_unless_demo came.options.demo out) [] told d.puts_are puts.held;
        stored = subst (λ (ps : List Put). StoredWith old new ps) d.puts_are puts.stored;
      })),
    )
    by (inr (inr (inl a))) = inl (
      a.same,
      a.whole,
      inr (inr (inl (record {
        asks = a.asks;
        docs = a.docs;
        reads = a.reads;
        is_text = subst (IsTold a.asks.options a.docs) (sym is) a.is_text;
        held = with_puts old new store (puts_unless_demo came.options.demo out) [] told a.puts_are puts.held;
        stored = subst (λ (ps : List Put). StoredWith old new ps) a.puts_are puts.stored;
      }))),
    )
    by (inr (inr (inr (inl x)))) = inl (
      x.same,
      x.whole,
      inr (inr (inr (inl (record {
        asks = x.asks;
        has = x.has;
        held = with_puts old new store (puts_unless_demo came.options.demo out) (new_put x.has ∷ []) told x.puts_are puts.held;
        stored = subst (λ (ps : List Put). StoredWith old new ps) x.puts_are puts.stored;
        after = put_own x.has.out (expanded_bytes x.has.file) store;
        text_is = is ∙ x.text_is;
      })))),
    )
    by (inr (inr (inr (inr (inl x))))) =
        let o = x.asks.options in
        let fit = x.asks.lawful.fit in
        inl (
          x.same,
          x.whole,
          inr (inr (inr (inr (record {
            asks = x.asks;
            has = x.has;
            held = with_puts old new store (puts_unless_demo came.options.demo out) (puts_of_over x.has) told x.puts_are puts.held;
            stored = subst (λ (ps : List Put). StoredWith old new ps) x.puts_are puts.stored;
            after = after_over o fit x.asks.common x.asks.reuses x.asks.contents x.has.files x.has.contents x.has.can store x.asks.got;
            common = kept_over o fit x.asks.common x.asks.reuses x.asks.contents x.has.files x.has.contents x.has.can store x.asks.got;
            text_is = is ∙ x.text_is;
          })))),
        )
    by (inr (inr (inr (inr (inr (inl b)))))) = inr (inl (
      b.same,
      record {
        asks = b.asks;
        has = b.has;
        is_partly = sym b.is_partly;
        held = with_puts old new store (puts_unless_demo came.options.demo out) b.has.all.puts told b.puts_are puts.held;
        stored = subst (λ (ps : List Put). StoredWith old new ps) b.puts_are puts.stored;
        after = hold_alone b.asks b.has.all b.has.comes;
        common = kept_after b.asks b.has.all b.has.comes;
        text_is = is ∙ b.text_is;
      },
    ))
    by (inr (inr (inr (inr (inr (inr c)))))) = inr (inr (
      c.answer,
      c.differs,
      c.whole,
      record {
        asks = c.asks;
        said = c.said;
        reads = c.reads;
        is_same = c.is_same;
        text_is = is ∙ c.text_is;
        held = with_puts old new store (puts_unless_demo came.options.demo out) [] told c.puts_are puts.held;
        stored = subst (λ (ps : List Put). StoredWith old new ps) c.puts_are puts.stored;
      },
    ))

  did : (out : Output) (text : List ℕ) → out.differs ≡ false → out.partly ≡ false → Found out text → Did words store old new text
  did out text same whole (inl (none, all, inl files)) = inl files
  did out text same whole (inl (none, all, inr (inl demo))) = inr (inl demo)
  did out text same whole (inl (none, all, inr (inr (inl tells)))) = inr (inr (inl tells))
  did out text same whole (inl (none, all, inr (inr (inr (inl expands))))) = inr (inr (inr (inl expands)))
  did out text same whole (inl (none, all, inr (inr (inr (inr reuses))))) = inr (inr (inr (inr (inl reuses))))
  did out text same whole (inr (inl (none, batch))) = inr (inr (inr (inr (inr (inl (subst (DidBatch words store old new text) whole batch))))))
  did out text same whole (inr (inr (answer, differs, all, compared))) =
      inr (inr (inr (inr (inr (inr (subst (DidCompare words store old new text) (same_told answer (sym differs ∙ same)) compared))))))

  apart : (out : Output) (text : List ℕ) → out.differs ≡ true → Found out text → FoundApart words store old new text
  apart out text differ (inl (none, all, rest)) = absurd (let z : true ≡ false = sym differ ∙ none in cc)
  apart out text differ (inr (inl (none, batch))) = absurd (let z : true ≡ false = sym differ ∙ none in cc)
  apart out text differ (inr (inr (answer, differs, all, compared))) = (answer, sym differs ∙ differ, compared)

  -- some FILEs are refused, each by itself, and the others put
  partly : (out : Output) (text : List ℕ) → out.partly ≡ true → Found out text → DidBatch words store old new text true
  partly out text some (inl (none, all, rest)) = absurd (let z : true ≡ false = sym some ∙ all in cc)
  partly out text some (inr (inl (none, batch))) = subst (DidBatch words store old new text) some batch
  partly out text some (inr (inr (answer, differs, all, compared))) = absurd (let z : true ≡ false = sym some ∙ all in cc)

  abbrev Any : List ℕ → Type 0
  Any text = Did words store old new text ⊎ (FoundApart words store old new text ⊎ DidBatch words store old new text true)

  either : (out : Output) (text : List ℕ) → Found out text → Any text
  either out text f = by out.differs out.partly refl refl where
    by : (b c : Bool) → out.differs ≡ b → out.partly ≡ c → Any text
    by false false same whole = inl (did out text same whole f)
    by false true same some = inr (inr (partly out text some f))
    by true c differ any = inr (inl (apart out text differ f))

  pub all_done : RunEnds words old new shown shown_new Done → (text : List ℕ) × Did words store old new text × SaysAll shown shown_new text
  all_done e = (e.text, did e.files.0 e.text e.files.4 e.files.5 (found e.files.0 e.files.1 e.text e.files.2 e.files.3), e.console)

  pub all_partly : RunEnds words old new shown shown_new Partly
      → (text : List ℕ) × DidBatch words store old new text true × SaysAll shown shown_new text
  all_partly e = (e.text, partly e.files.0 e.text e.files.5 (found e.files.0 e.files.1 e.text e.files.2 e.files.3), e.console)

  pub all_apart : RunEnds words old new shown shown_new Differs
      → (text : List ℕ) × FoundApart words store old new text × SaysAll shown shown_new text
  all_apart e = (e.text, apart e.files.0 e.text e.files.4 (found e.files.0 e.files.1 e.text e.files.2 e.files.3), e.console)

  pub all_silent : RunEnds words old new shown shown_new ConsoleFault
      → (text : List ℕ) × Any text × SaysNothing shown shown_new text
  all_silent e = (e.text, either e.files.0 e.text (found e.files.0 e.files.1 e.text e.files.2 e.files.3), e.console)
