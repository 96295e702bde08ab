-- The puts of one file alone: none, or one of its name.
use Rattle.std.proofs.Common.{◌≡◌, ◌⊎◌, ℕ, Bool, true, false, List, [], ◌∷◌, ◌++◌, None, refl, sym, ap, subst, ◌∙◌, inl, inr}
use Rattle.std.specs.Str.{bytes_eq}
use Rattle.std.proofs.lemmas.Slice.Eq.{bytes_eq-Decides}
use Rattle.dwz_outside.specs.declared.puts.Put.{Put}
use Rattle.dwz_outside.specs.Store.{Store, done}
use Rattle.dwz_words.specs.declared.options.Options.{Options}
use Rattle.dwz_run_course.specs.Outcome.{Outcome, refuses, writes}
use Rattle.dwz_run_course.specs.Puts.{AreApart, AreOthers}
use Rattle.dwz_run_course.specs.declared.output.Output.{Output}
use Rattle.dwz_def_images.specs.Units.{changes}
use Rattle.dwz_def_output.specs.FilesAfter.{bytes_after_by}
use Rattle.dwz_def_over.specs.Over.{OverFiles, run_over, stands}
use Rattle.dwz_def_run.specs.Out.{files_puts_by, put_of, puts_by, sup_name}
use Rattle.dwz_def_run.proofs.Stopping.{put_own}
use Rattle.dwz_def_run.specs.Reuses.{puts_over}
use Rattle.dwz_def_run.specs.Batches.{Alone, FileGot, options_alone, puts_of}
use Rattle.dwz_def_run.specs.BatchesLaws.{puts_at}

abbrev pub Own : List ℕ → List Put → Type 0
Own name puts = (puts ≡ []) ⊎ ((bytes : List ℕ) × (puts ≡ put_of name bytes ∷ []))

own_by : (b : Bool) (name bytes : List ℕ) → Own name (puts_by b None name bytes ++ [])
own_by true name bytes = inr (bytes, refl)
own_by false name bytes = inl refl

own_over : (o : Options) (name : List ℕ) (x : OverFiles) → Own name (puts_over (options_alone o name) x)
unfolding files_puts_by
own_over o name x =
    own_by (changes (run_over x).move (run_over x).units 0) name (bytes_after_by (stands x) (sup_name (options_alone o name)) (run_over x) 0)

pub own : (o : Options) (common : List ℕ) (file : FileGot) (outcome : Outcome) → Alone o common file outcome → Own file.name (puts_of outcome)
own o common file (refuses q) is = inl refl
own o common file (writes out) is =
    let same : out.puts ≡ puts_over (options_alone o file.name) is.0 = ap (λ (w : Output). w.puts) is.3 in
    subst (Own file.name) (sym same) (own_over o file.name is.0)

-- ---- of other names

pub others_own : (x name : List ℕ) (puts : List Put) → bytes_eq x name ≡ false → Own name puts → AreOthers x puts
others_own x name puts d (inl e) = subst (AreOthers x) (sym e) tt
others_own x name puts d (inr e) = subst (AreOthers x) (sym e.1) (d, tt)

pub others_append : (x : List ℕ) (ps qs : List Put) → AreOthers x ps → AreOthers x qs → AreOthers x (ps ++ qs)
others_append x [] qs h k = k
others_append x (p ∷ ps) qs h k = (h.0, others_append x ps qs h.1 k)

pub apart_own : (name : List ℕ) (ps qs : List Put) → Own name ps → AreOthers name qs → AreApart qs → AreApart (ps ++ qs)
apart_own name ps qs (inl e) others apart = subst (λ (w : List Put). AreApart (w ++ qs)) (sym e) apart
apart_own name ps qs (inr e) others apart = subst (λ (w : List Put). AreApart (w ++ qs)) (sym e.1) (others, apart)

-- ---- those of a name

own_name : (a : List ℕ) → bytes_eq a a ≡ true
own_name a = (bytes_eq-Decides a a).1 refl

pub at_others : (x : List ℕ) (ps qs : List Put) → AreOthers x ps → puts_at x (ps ++ qs) ≡ puts_at x qs
at_others x [] qs others = refl
at_others x (p ∷ ps) qs others = let no = others.0 in rw no (at_others x ps qs others.1)

pub at_own : (name : List ℕ) (ps qs : List Put) → Own name ps → AreOthers name qs → puts_at name (ps ++ qs) ≡ ps
at_own name ps qs own others = elim own [
  | inl e ↦ subst (λ (w : List Put). puts_at name (w ++ qs) ≡ w) (sym e) (at_none qs others)
  | inr e ↦ subst (λ (w : List Put). puts_at name (w ++ qs) ≡ w) (sym e.1) (at_one e.0)
] where
  at_none : (rs : List Put) → AreOthers name rs → puts_at name rs ≡ []
  at_none [] h = refl
  at_none (p ∷ rs) h = let no = h.0 in rw no (at_none rs h.1)

  at_one : (bytes : List ℕ) → puts_at name (put_of name bytes ∷ qs) ≡ put_of name bytes ∷ []
  at_one bytes = let yes = own_name name in rw yes (ap (λ (w : List Put). put_of name bytes ∷ w) (at_none qs others))

-- ---- what they leave at the name

pub same_done : (name : List ℕ) (ps : List Put) → Own name ps → (s t : Store) → s name ≡ t name → done ps s name ≡ done ps t name
same_done name ps (inl e) s t same = subst (λ (w : List Put). done w s name ≡ done w t name) (sym e) same
same_done name ps (inr e) s t same = subst (λ (w : List Put). done w s name ≡ done w t name) (sym e.1) (put_own name e.0 s ∙ sym (put_own name e.0 t))
