-- The puts of all files: each is of a FILE, and what all of them leave at a FILE is what its own do.
use Rattle.std.proofs.Common.{◌≡◌, ℕ, suc, Bool, true, false, List, [], ◌∷◌, map, refl, ap, subst, ◌∙◌, inl, inr}
use Rattle.std.specs.Prelude.{not}
use Rattle.std.specs.List.{flat_map}
use Rattle.std.specs.Str.{bytes_eq}
use Rattle.std.proofs.lemmas.Bool.{and_parts, or_parts}
use Rattle.dwz_def_reading.specs.Lists.{In}
use Rattle.dwz_outside.specs.declared.puts.Put.{Put}
use Rattle.dwz_outside.specs.Store.{Store, done}
use Rattle.dwz_words.specs.Conditions.{are_distinct, is_among}
use Rattle.dwz_words.specs.declared.options.Options.{Options}
use Rattle.dwz_run_course.specs.Outcome.{Outcome}
use Rattle.dwz_run_course.specs.Puts.{AreApart, AreOthers}
use Rattle.dwz_run_course.proofs.StopLemmas.{untouched}
use Rattle.dwz_def_run.proofs.Stopping.{done_append, other_way}
use Rattle.dwz_def_run.specs.Batches.{Alone, AreOutcomes, FileGot, batch_of, got_from, part_of, puts_of}
use Rattle.dwz_def_run.specs.BatchesLaws.{puts_at}
use Rattle.dwz_def_run.proofs.OwnPuts.{Own, apart_own, at_others, at_own, others_append, others_own, own, same_done}

pub not_false : (b : Bool) → not b ≡ true → b ≡ false
not_false true e = absurd cc
not_false false e = refl

-- ---- the names of the files

abbrev pub names_of : List FileGot → List (List ℕ)
names_of files = map (λ file. file.name) files

pub names_got : (n : ℕ) (names contents : List (List ℕ)) → names_of (got_from n names contents) ≡ names
unfolding got_from
names_got n [] contents = refl
names_got n (name ∷ names) contents = ap (λ (w : List (List ℕ)). name ∷ w) (names_got (suc n) names contents)

not_in : (x : List ℕ) (files : List FileGot) → is_among (names_of files) x ≡ false → (file : FileGot) → In file files → bytes_eq file.name x ≡ false
not_in x [] e file is = absurd is
not_in x (f ∷ files) e file is =
    let both = or_parts (bytes_eq f.name x) (is_among (names_of files) x) e in
    elim is [ inl same ↦ subst (λ (w : FileGot). bytes_eq w.name x ≡ false) same both.0 | inr later ↦ not_in x files both.1 file later ]

module _ (o : Options) (common : List ℕ) where
  abbrev pub all : List Outcome → List Put
  all outcomes = flat_map puts_of outcomes

  pub others : (x : List ℕ) (files : List FileGot) (outcomes : List Outcome) → is_among (names_of files) x ≡ false → AreOutcomes o common files outcomes
      → AreOthers x (flat_map puts_of outcomes)
  others x [] [] e are = tt
  others x [] (y ∷ ys) e are = absurd are
  others x (f ∷ files) [] e are = absurd are
  others x (f ∷ files) (y ∷ ys) e are =
      let both = or_parts (bytes_eq f.name x) (is_among (names_of files) x) e in
      others_append x (puts_of y) (flat_map puts_of ys) (others_own x f.name (puts_of y) (other_way f.name x both.0) (own o common f y are.0))
      (others x files ys both.1 are.1)

  pub apart : (files : List FileGot) (outcomes : List Outcome) → are_distinct (names_of files) ≡ true → AreOutcomes o common files outcomes
      → AreApart (flat_map puts_of outcomes)
  apart [] [] e are = tt
  apart [] (y ∷ ys) e are = absurd are
  apart (f ∷ files) [] e are = absurd are
  apart (f ∷ files) (y ∷ ys) e are =
      let both = and_parts (not (is_among (names_of files) f.name)) (are_distinct (names_of files)) e in
      apart_own f.name (puts_of y) (flat_map puts_of ys) (own o common f y are.0)
      (others f.name files ys (not_false (is_among (names_of files) f.name) both.0) are.1)
      (apart files ys both.1 are.1)

  -- what comes of a file alone, and what is put and said of it where all is
  pub record IsAt (files : List FileGot) (outcomes : List Outcome) (file : FileGot) : Type 0 where
    pub outcome : Outcome
    pub comes : Alone o common file outcome
    pub left : (store : Store) → done (flat_map puts_of outcomes) store file.name ≡ done (puts_of outcome) store file.name
    pub puts : puts_at file.name (flat_map puts_of outcomes) ≡ puts_of outcome
    pub said : In (part_of o file.name outcome) (batch_of o files outcomes).parts

  pub at : (files : List FileGot) (outcomes : List Outcome) → are_distinct (names_of files) ≡ true → AreOutcomes o common files outcomes
      → (file : FileGot) → In file files → IsAt files outcomes file
  at [] outcomes e are file is = absurd is
  at (f ∷ files) [] e are file is = absurd are
  at (f ∷ files) (y ∷ ys) e are file is =
      let both = and_parts (not (is_among (names_of files) f.name)) (are_distinct (names_of files)) e in
      let free = not_false (is_among (names_of files) f.name) both.0 in
      let mine = own o common f y are.0 in
      elim is [
        | inl same ↦ subst (IsAt (f ∷ files) (y ∷ ys)) same (here free mine)
        | inr later ↦ there mine (not_in f.name files free file later) (at files ys both.1 are.1 file later)
      ] where
        rest : List Put
        rest = flat_map puts_of ys

        here : is_among (names_of files) f.name ≡ false → Own f.name (puts_of y) → IsAt (f ∷ files) (y ∷ ys) f
        here free mine = record {
          outcome = y;
          comes = are.0;
          left = λ store.
              ap (λ (s : Store). s f.name) (done_append (puts_of y) rest store)
              ∙ untouched f.name rest (done (puts_of y) store) (others f.name files ys free are.1);
          puts = at_own f.name (puts_of y) rest mine (others f.name files ys free are.1);
          said = inl refl;
        }

        there : Own f.name (puts_of y) → bytes_eq file.name f.name ≡ false → IsAt files ys file → IsAt (f ∷ files) (y ∷ ys) file
        there mine d later = record {
          outcome = later.outcome;
          comes = later.comes;
          left = λ store.
              let s = done (puts_of y) store in
              let before : s file.name ≡ store file.name = untouched file.name (puts_of y) store (others_own file.name f.name (puts_of y) d mine) in
              ap (λ (w : Store). w file.name) (done_append (puts_of y) rest store) ∙ later.left s
              ∙ same_done file.name (puts_of later.outcome) (own o common file later.outcome later.comes) s store before;
          puts = at_others file.name (puts_of y) rest (others_own file.name f.name (puts_of y) d mine) ∙ later.puts;
          said = inr later.said;
        }
