-- No put of files over a finished common file is of that; and what each prefix of the puts leaves.
use Rattle.std.proofs.Common.{◌≡◌, ◌⊎◌, ◌||◌, ◌==◌, ℕ, zero, suc, Bool, true, false, List, [], ◌∷◌, length, take, get_or, Option, Some, None, refl, sym, ap, ◌∙◌, inl, inr, eqb-true}
use Rattle.std.specs.Prelude.{not, is_none}
use Rattle.std.specs.Option.{option_map_or}
use Rattle.std.specs.Str.{bytes_eq}
use Rattle.dwz_def_tops.specs.Lists.{Nth}
use Rattle.dwz_def_images.specs.Units.{changes}
use Rattle.dwz_outside.specs.Store.{Store, done, put_in}
use Rattle.dwz_outside.specs.declared.puts.Put.{Put}
use Rattle.dwz_def_run.proofs.Stopping.{put_other}
use Rattle.dwz_words.specs.Conditions.{is_among}
use Rattle.dwz_words.specs.declared.options.Options.{Options}
use Rattle.dwz_run_course.specs.Puts.{AreOthers, Prefixes}
use Rattle.dwz_run_course.proofs.StopLemmas.{text_of_same}
use Rattle.dwz_def_over.specs.Over.{AreOverFiles, OverFiles, run_over, stands}
use Rattle.dwz_run_course.specs.Gets.{gets}
use Rattle.dwz_def_run.proofs.ReusesGotten.{files_held}
use Rattle.dwz_def_over.specs.Written.{file_over}
use Rattle.dwz_def_run.specs.Out.{sup_name}
use Rattle.dwz_def_run.specs.Reuses.{puts_over}
use Rattle.dwz_def_run.specs.ReusesStops.{AreOldOrMadeOver, FitOver, HoldOver, IsMadeOver}
use Rattle.dwz_def_run.proofs.HeldOver.{held_over}
use Rattle.dwz_def_run.proofs.ReusesStopping.{elsewhere_over, in_place_over, others, others_elsewhere}

not_false : (b : Bool) → not b ≡ true → b ≡ false
not_false true e = absurd cc
not_false false e = refl

module _ (o : Options) (x : OverFiles) (fit : FitOver o) where
  one_file : (out : List ℕ) → o.out ≡ Some out → length o.files ≡ 1
  one_file out e =
      let none : is_none o.out ≡ false = ap is_none e in
      let one : (length o.files == 1) ≡ true = sym (ap (λ (b : Bool). b || (length o.files == 1)) none) ∙ fit.one in
      eqb-true (length o.files) 1 one

  -- ---- the common file

  module _ (common : List ℕ) (named : o.common ≡ Some common) where
    apart : is_among o.files common ≡ false
    apart = not_false (is_among o.files common) (sym (ap (λ (w : Option (List ℕ)). option_map_or (λ c. not (is_among o.files c)) w true) named) ∙ fit.apart)

    other_out : (out : List ℕ) → o.out ≡ Some out → bytes_eq common out ≡ false
    other_out out e = by (bytes_eq common out) refl where
      by : (b : Bool) → bytes_eq common out ≡ b → b ≡ false
      by false q = refl
      by true q = absurd (fit.elsewhere out e (named ∙ ap (λ (w : List ℕ). Some w) (text_of_same common out q)))

    others_are : AreOthers common (puts_over o x)
    others_are = by o.out refl where
      by : (w : Option (List ℕ)) → o.out ≡ w → AreOthers common (puts_over o x)
      by None e = others (stands x) o (run_over x) e common 0 o.files apart
      by (Some out) e = others_elsewhere (stands x) o (run_over x) out e common (other_out out e) (one_file out e)

  -- ---- the files

  abbrev AreHeld : Store → Type 0
  AreHeld store = (file : ℕ) (name : List ℕ) → Nth 0 o.files file name → store name ≡ Some (get_or x.contents file [])

  stops_at : (store : Store) → AreHeld store → Prefixes (puts_over o x) store (AreOldOrMadeOver o x)
  stops_at store held k file name nth = by o.out refl where
    as_made : (now : Store) → (now name ≡ Some ((run_over x).input.bytes file)) ⊎ ((changes (run_over x).move (run_over x).units file ≡ true) × (now name ≡ Some (file_over (sup_name o) x file))) → (now name ≡ Some (get_or x.contents file [])) ⊎ IsMadeOver o x now file name
    as_made now (inl same) = inl same
    as_made now (inr made) = inr (record { changed = made.0; bytes = made.1 })

    by : (w : Option (List ℕ)) → o.out ≡ w → (done (take k (puts_over o x)) store name ≡ Some (get_or x.contents file [])) ⊎ IsMadeOver o x (done (take k (puts_over o x)) store) file name
    by None e = as_made (done (take k (puts_over o x)) store) (in_place_over (stands x) o (run_over x) e fit.distinct store held k file name nth)
    by (Some out) e = as_made (done (take k (puts_over o x)) store) (elsewhere_over (stands x) o (run_over x) out e store held (one_file out e) k file name nth)

pub stops_over : (o : Options) (x : OverFiles) → FitOver o → AreOverFiles x → (store : Store) (common : List ℕ) → gets store 0 (common ∷ o.files) ≡ Some (x.common ∷ x.contents)
    → Prefixes (puts_over o x) store (AreOldOrMadeOver o x)
stops_over o x fit are store common is = stops_at o x fit store (files_held store common o.files x are is)

keeps : (common : List ℕ) (puts : List Put) (store : Store) → AreOthers common puts → (k : ℕ) → done (take k puts) store common ≡ store common
keeps common puts store others zero = refl
keeps common [] store others (suc k) = refl
keeps common (p ∷ puts) store others (suc k) = keeps common puts (put_in p.name p.bytes store) others.1 k ∙ put_other common p.name p.bytes store others.0

pub not_put : (o : Options) (x : OverFiles) → FitOver o → (common : List ℕ) → o.common ≡ Some common
    → AreOthers common (puts_over o x) × ((store : Store) (k : ℕ) → done (take k (puts_over o x)) store common ≡ store common)
not_put o x fit common named = (let are = others_are o x fit common named in (are, λ store k. keeps common (puts_over o x) store are k))

pub holds_over : (o : Options) (x : OverFiles) → FitOver o → AreOverFiles x → (store : Store) (common : List ℕ) → gets store 0 (common ∷ o.files) ≡ Some (x.common ∷ x.contents)
    → HoldOver o x (done (puts_over o x) store)
holds_over o x fit are store common is =
    held_over (stands x) o (run_over x) fit.distinct (one_file o x fit) store (files_held store common o.files x are is)
