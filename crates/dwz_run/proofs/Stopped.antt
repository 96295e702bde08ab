-- What holds where one of the puts failed, and after the first puts, however many.
use Rattle.std.proofs.Common.{◌≡◌, ◌⊎◌, ℕ, List, [], ◌∷◌, ◌++◌, length, take, Some, refl, sym, ap, subst, ◌∙◌, inl, inr}
use Rattle.std.proofs.Math.Seq.{take-append_seam}
use Rattle.std.specs.Prelude.{slice_get}
use Rattle.dwz_outside.specs.declared.puts.Put.{Put}
use Rattle.dwz_outside.specs.Store.{Store, done}
use Rattle.dwz_outside.specs.Told.{FailedWrite, ConsoleSeen, StoredWith, FilesSeen}
use Rattle.dwz_report.specs.Texts.{write_text}
use Rattle.dwz_run_course.specs.declared.output.Output.{Output}
use Rattle.dwz_run_course.specs.declared.status.Status.TheVariants.{WriteFault}
use Rattle.dwz_run_course.specs.Ends.{Came, Says, puts_unless_demo}
use Rattle.dwz_run_course.specs.Outcome.{writes}
use Rattle.dwz_run_course.specs.Puts.{PutsStopped}
use Rattle.dwz_gen.specs.Demo.{demo_files}
use Rattle.dwz_def_run.proofs.Stopping.{stops}
use Rattle.dwz_def_run.specs.Yields.{Yields}
use Rattle.dwz_run.specs.Batched.{StoppedBatch}
use Rattle.dwz_run.specs.Expanding.{StoppedOne, new_put}
use Rattle.dwz_run.specs.Laws.{AsksForFiles, HasOutput, ReadOn, RunEnds, StoppedAt, puts_in}
use Rattle.dwz_run.specs.Reusing.{StoppedOver, puts_of_over}
use Rattle.dwz_run.proofs.AllDone.{with_puts}
use Rattle.dwz_run.proofs.BatchedAfter.{keeps_alone, kept_between, stops_alone}
use Rattle.dwz_run.proofs.ChangedFiles.{changed_there}
use Rattle.dwz_run.proofs.Outputs.{Came_to, outputs}
use Rattle.dwz_run.proofs.ReusedAfter.{between_over, common_kept}

-- after the first puts each FILE is as it was or as it is made, and either reads by what is known of all files together
pub read_on : (words : List (List ℕ)) (store : Store) (a : AsksForFiles words store) (out : HasOutput a.options a.contents) (count : ℕ)
    → ReadOn out (done (take count (puts_in out)) store)
read_on words store a out count file name nth =
    elim (stops a.options a.lawful.fit a.slims store a.contents out.docs out.prunes a.got out.written count file name nth) [
      | inl same ↦ inl (same, λ doc at. out.back.back.still file doc at)
      | inr made ↦ inr (made, out.back.back.file file (changed_there a.options a.contents out.docs out.prunes file made.changed) made.changed)
    ]

-- what stands behind others is next
next_is : (before : List Put) (p : Put) (after : List Put) → slice_get (before ++ p ∷ after) (length before) ≡ Some p
next_is [] p after = refl
next_is (b ∷ before) p after = next_is before p after

-- where nothing is put no put fails
pub none_fails : (before : List Put) (p : Put) (after : List Put) → [] ≡ before ++ p ∷ after → ⊥
none_fails [] p after e = cc
none_fails (b ∷ before) p after e = cc

-- where there is one put, none stands before the one that fails
only_fails : (one : Put) (before : List Put) (p : Put) (after : List Put) → one ∷ [] ≡ before ++ p ∷ after → (before ≡ []) × (p ≡ one)
only_fails one [] p after e = (refl, one_head p one (sym e)) where
  one_head : (a b : Put) → a ∷ after ≡ b ∷ [] → a ≡ b
  one_head a b same = cc
only_fails one (b ∷ before) p after e = absurd (none_fails before p after (tail_is e)) where
  tail_is : one ∷ [] ≡ b ∷ (before ++ p ∷ after) → [] ≡ before ++ p ∷ after
  tail_is same = cc

module _ (words : List (List ℕ)) (old new : FilesSeen) (shown shown_new : ConsoleSeen) (store : Store) (told : old.held ≡ Some store) where
  -- one of several puts failed, or the one, or one of those over a finished common file, of files together or each as if it were alone with it
  abbrev IsStopped : List ℕ → Type 0
  IsStopped text =
      StoppedAt words store old new text
      ⊎ (StoppedOne words store old new text ⊎ (StoppedOver words store old new text ⊎ StoppedBatch words store old new text))

  stopped_at : (out : Output) (came : Came demo_files Yields words old (writes out)) (name text : List ℕ)
      → PutsStopped old new (puts_unless_demo came.options.demo out) name
      → text ≡ write_text name → IsStopped text
  stopped_at out came name text s is = by (outputs words old store told out came) where
    by : Came_to words store came.options out → IsStopped text
    by (inl f) =
        let has = f.has in
        let puts_are : puts_in has ≡ s.before ++ s.failed ∷ s.after = sym f.puts_are ∙ s.puts_are in
        let first : s.before ≡ take (length s.before) (puts_in has) = sym (ap (take (length s.before)) puts_are ∙ take-append_seam s.before (s.failed ∷ s.after)) in
        inl (record {
          asks = f.asks;
          out = has;
          count = length s.before;
          failed = s.failed;
          next = ap (λ (ps : List Put). slice_get ps (length s.before)) puts_are ∙ next_is s.before s.failed s.after;
          fault = subst (FailedWrite old new) s.name_is s.fault;
          held = with_puts old new store s.before (take (length s.before) (puts_in has)) told first s.held;
          stored = subst (λ (ps : List Put). StoredWith old new ps) first s.stored;
          after = read_on words store f.asks has (length s.before);
          text_is = is ∙ ap write_text s.name_is;
        })
    by (inr (inl d)) = absurd (none_fails s.before s.failed s.after (sym d.puts_are ∙ s.puts_are))
    by (inr (inr (inl a))) = absurd (none_fails s.before s.failed s.after (sym a.puts_are ∙ s.puts_are))
    by (inr (inr (inr (inl x)))) =
        let only = only_fails (new_put x.has) s.before s.failed s.after (sym x.puts_are ∙ s.puts_are) in
        let name_is : name ≡ x.has.out = s.name_is ∙ ap (λ (p : Put). p.name) only.1 in
        inr (inl (record {
          asks = x.asks;
          has = x.has;
          fault = subst (FailedWrite old new) name_is s.fault;
          held = with_puts old new store s.before [] told only.0 s.held;
          stored = subst (λ (ps : List Put). StoredWith old new ps) only.0 s.stored;
          text_is = is ∙ ap write_text name_is;
        }))
    by (inr (inr (inr (inr (inl x))))) =
        let o = x.asks.options in
        let fit = x.asks.lawful.fit in
        let puts_are : puts_of_over x.has ≡ s.before ++ s.failed ∷ s.after = sym x.puts_are ∙ s.puts_are in
        let k = length s.before in
        let first : s.before ≡ take k (puts_of_over x.has) = sym (ap (take k) puts_are ∙ take-append_seam s.before (s.failed ∷ s.after)) in
        inr (inr (inl (record {
          asks = x.asks;
          has = x.has;
          count = k;
          failed = s.failed;
          next = ap (λ (ps : List Put). slice_get ps k) puts_are ∙ next_is s.before s.failed s.after;
          fault = subst (FailedWrite old new) s.name_is s.fault;
          held = with_puts old new store s.before (take k (puts_of_over x.has)) told first s.held;
          stored = subst (λ (ps : List Put). StoredWith old new ps) first s.stored;
          after = between_over o fit x.asks.common x.asks.reuses x.asks.contents x.has.files x.has.contents x.has.can store x.asks.got k;
          common = common_kept o fit x.asks.common x.asks.reuses x.asks.contents x.has.files x.has.contents x.has.can store x.asks.got k;
          text_is = is ∙ ap write_text s.name_is;
        })))
    by (inr (inr (inr (inr (inr (inl b)))))) =
        let all = b.has.all in
        let puts_are : all.puts ≡ s.before ++ s.failed ∷ s.after = sym b.puts_are ∙ s.puts_are in
        let k = length s.before in
        let first : s.before ≡ take k all.puts = sym (ap (take k) puts_are ∙ take-append_seam s.before (s.failed ∷ s.after)) in
        inr (inr (inr (record {
          asks = b.asks;
          has = b.has;
          count = k;
          failed = s.failed;
          next = ap (λ (ps : List Put). slice_get ps k) puts_are ∙ next_is s.before s.failed s.after;
          fault = subst (FailedWrite old new) s.name_is s.fault;
          held = with_puts old new store s.before (take k all.puts) told first s.held;
          stored = subst (λ (ps : List Put). StoredWith old new ps) first s.stored;
          after = stops_alone b.asks all b.has.comes k;
          keeps = keeps_alone b.asks all b.has.comes k;
          common = kept_between b.asks all b.has.comes k;
          text_is = is ∙ ap write_text s.name_is;
        })))
    by (inr (inr (inr (inr (inr (inr c)))))) = absurd (none_fails s.before s.failed s.after (sym c.puts_are ∙ s.puts_are))

  pub all_stopped : RunEnds words old new shown shown_new WriteFault
      → (text : List ℕ) × IsStopped text × Says shown shown_new WriteFault text
  all_stopped e = (e.text, stopped_at e.files.0 e.files.1 e.files.2 e.text e.files.3 e.files.4, e.console)
