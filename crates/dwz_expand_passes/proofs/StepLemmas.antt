-- The sources of a unit, one after the other.
use Rattle.std.proofs.Common.{◌≡◌, ℕ, List, [], ◌∷◌, ◌++◌, map, Option, Some, None, Err, slice_get, refl, sym, ap, subst, ◌∙◌, append_assoc, inl, inr}
use Rattle.std.specs.Prelude.{MatchOption}
use Rattle.std.proofs.lemmas.List.{append-nil}
use Rattle.dwz_def_cross.specs.CrossSame.{EachTwo}
use Rattle.dwz_def_cross.specs.Tops.{WithCommon}
use Rattle.dwz_def_expand.specs.Refusals.{SiteFault, Where, sites_in, sites_of}
use Rattle.dwz_def_expand.specs.Source.{source_places}
use Rattle.dwz_def_reading.specs.FirstOf.{OfFirst}
use Rattle.dwz_expand_sources.specs.Imports.{same}
use Rattle.dwz_model.specs.Lists.{Each}
use Rattle.dwz_model.specs.declared.fault.Fault.{Fault}
use Rattle.dwz_model.specs.declared.fault.ReadErr.{ReadErr}
use Rattle.dwz_model.specs.declared.fault.ReadErr.TheVariants.{NoMemory, Refused}
use Rattle.dwz_expand_layout.specs.Depths.{DeepLine, with_ends}
use Rattle.dwz_expand_layout.specs.Entries.{NewLine}
use Rattle.dwz_expand_layout.specs.Lines.{Line}
use Rattle.dwz_expand_passes.specs.Files.{forms_of}
use Rattle.dwz_expand_passes.specs.declared.files.Known.{Known}
use Rattle.dwz_expand_passes.specs.Steps.{AnswersLine, AreCopied, CopyThere, IsSource, KnowsHere, PassedTo, RefusesIn, RefusesLine, RefusesLines, line_before, lines_before, rest_of}
use Rattle.dwz_expand_passes.specs.declared.copied.Source.{Source}
use Rattle.dwz_expand_passes.specs.CopiesOf.{NamesNoRoot}
use Rattle.dwz_expand_passes.specs.Lined.{all_lines}

-- ---- lines

pub lines_are : (deep : List DeepLine) → lines_before 1 deep ≡ with_ends deep
unfolding with_ends
lines_are [] = refl
lines_are (d ∷ []) = refl
lines_are (d ∷ e ∷ deep) = ap (λ (ls : List NewLine). line_before e.depth d ∷ ls) (lines_are (e ∷ deep))

pub lines_push : (next : ℕ) (deep : List DeepLine) (d : DeepLine) → lines_before next (deep ++ d ∷ []) ≡ lines_before d.depth deep ++ line_before next d ∷ []
lines_push next [] d = refl
lines_push next (x ∷ []) d = refl
lines_push next (x ∷ y ∷ deep) d = ap (λ (ls : List NewLine). line_before y.depth x ∷ ls) (lines_push next (y ∷ deep) d)

-- ---- what is left

pub rest_is : (x : Known) (r : Option Source) (old new : List ℕ) → MatchOption r (old ≡ []) (λ s. (old ≡ s.entry ∷ new) × IsSource x s) → old ≡ rest_of r new
rest_is x None old new h = h
rest_is x (Some s) old new h = h.0

pub source_is : (x : Known) (r : Option Source) (old new : List ℕ) → MatchOption r (old ≡ []) (λ s. (old ≡ s.entry ∷ new) × IsSource x s)
    → MatchOption r (Unit {0}) (λ s. IsSource x s)
source_is x None old new h = tt
source_is x (Some s) old new h = h.1

behind : {X : Type 0} (P : X → Type 0) (xs ys : List X) → Each P (xs ++ ys) → Each P ys
behind P [] ys h = h
behind P (x ∷ xs) ys h = behind P xs ys h.1

pub rest_each : (P : ℕ → Type 0) (x : Known) (all rest : List ℕ) (deep : List DeepLine) → Each P all → PassedTo x all rest deep → Each P rest
rest_each P x all rest deep h p = behind P p.done rest (subst (Each P) p.whole h)

-- ---- one more

two_push : {X Y : Type 0} (R : X → Y → Type 0) (xs : List X) (ys : List Y) (x : X) (y : Y) → EachTwo R xs ys → R x y → EachTwo R (xs ++ x ∷ []) (ys ++ y ∷ [])
two_push R [] [] x y h r = (r, tt)
two_push R [] (b ∷ ys) x y h r = absurd h
two_push R (a ∷ xs) [] x y h r = absurd h
two_push R (a ∷ xs) (b ∷ ys) x y h r = (h.0, two_push R xs ys x y h.1 r)

each_push : {X : Type 0} (P : X → Type 0) (xs : List X) (x : X) → Each P xs → P x → Each P (xs ++ x ∷ [])
each_push P [] x h p = (p, tt)
each_push P (a ∷ xs) x h p = (h.0, each_push P xs x h.1 p)

pub none_passed : (x : Known) (all : List ℕ) (rest : List ℕ) → all ≡ rest → PassedTo x all rest []
none_passed x all rest is = record { done = []; whole = is; copied = record { copies = λ w stands know. tt; no_roots = tt } }

pub one_passed : (x : Known) (all : List ℕ) (i : ℕ) (walk rest : List ℕ) (deep : List DeepLine) (d : DeepLine) → PassedTo x all (i ∷ walk) deep → walk ≡ rest
    → ((w : WithCommon ℕ) (stands : Where ℕ) → KnowsHere x w stands → CopyThere x w stands i d) → Each NamesNoRoot d.attrs
    → PassedTo x all rest (deep ++ d ∷ [])
one_passed x all i walk rest deep d p is copy none = record {
  done = p.done ++ i ∷ [];
  whole = p.whole ∙ ap (λ (r : List ℕ). p.done ++ i ∷ r) is ∙ sym (append_assoc p.done (i ∷ []) rest);
  copied = record {
    copies = λ w stands know. two_push (CopyThere x w stands) p.done deep i d (p.copied.copies w stands know) (copy w stands know);
    no_roots = each_push (λ (e : DeepLine). Each NamesNoRoot e.attrs) deep d p.copied.no_roots none;
  };
}

all_passed : (x : Known) (all : List ℕ) (deep : List DeepLine) → PassedTo x all [] deep → AreCopied x all deep
all_passed x all deep p = subst (λ (is : List ℕ). AreCopied x is deep) (sym (p.whole ∙ append-nil p.done)) p.copied

-- ---- the first that can't be copied

pub free_first : {X Y : Type 0} (Has : Y → X → Type 0) (ys zs : List Y) (x : X) → ((z : X) → ¬ OfFirst Has ys z) → OfFirst Has zs x → OfFirst Has (ys ++ zs) x
free_first Has [] zs x free h = h
free_first Has (y ∷ ys) zs x free h =
    let none : (z : _) → ¬ Has y z = λ z has. free z (inl has) in
    inr (none, free_first Has ys zs x (λ z later. free z (inr (none, later))) h)

pub first_front : {X Y : Type 0} (Has : Y → X → Type 0) (ys zs : List Y) (x : X) → OfFirst Has ys x → OfFirst Has (ys ++ zs) x
first_front Has [] zs x h = absurd h
first_front Has (y ∷ ys) zs x (inl has) = inl has
first_front Has (y ∷ ys) zs x (inr later) = inr (later.0, first_front Has ys zs x later.1)

module _ (x : Known) (w : WithCommon ℕ) (stands : Where ℕ) where
  abbrev At : ℕ → Line ℕ → Type 0
  At i l = slice_get (all_lines w) i ≡ Some l

  refused_behind : (done : List ℕ) (deep : List DeepLine) (i : ℕ) (rest : List ℕ) (ls : List (Line ℕ)) (f : Fault) → EachTwo (CopyThere x w stands) done deep
      → ((l : Line ℕ) → At i l → RefusesLine x w stands l.node f) → EachTwo At (done ++ i ∷ rest) ls → RefusesLines x w stands ls f
  unfolding sites_in
  refused_behind [] deep i rest [] f copied refuses at = absurd at
  refused_behind [] deep i rest (l ∷ ls) f copied refuses at =
      first_front (SiteFault same (source_places same w) (forms_of x w) stands) (sites_of x.unit l.node.at 0 l.node.attrs) (sites_in x.unit (map (λ (k : Line ℕ). k.node) ls)) f (refuses l at.0)
  refused_behind (j ∷ done) [] i rest ls f copied refuses at = absurd copied
  refused_behind (j ∷ done) (d ∷ deep) i rest [] f copied refuses at = absurd at
  refused_behind (j ∷ done) (d ∷ deep) i rest (l ∷ ls) f copied refuses at =
      free_first (SiteFault same (source_places same w) (forms_of x w) stands) (sites_of x.unit l.node.at 0 l.node.attrs) (sites_in x.unit (map (λ (k : Line ℕ). k.node) ls)) f
      (copied.0 l at.0).free (refused_behind done deep i rest ls f copied.1 refuses at.1)

pub refuses_at : (Y : Type 0) (x : Known) (all : List ℕ) (i : ℕ) (walk : List ℕ) (deep : List DeepLine) (d : DeepLine) (e : ReadErr) → PassedTo x all (i ∷ walk) deep
    → ((w : WithCommon ℕ) (stands : Where ℕ) (l : Line ℕ) → KnowsHere x w stands → slice_get (all_lines w) i ≡ Some l → AnswersLine {Y = Y} x w stands l d (Err e))
    → RefusesIn {Y = Y} x all (Err e)
refuses_at Y x all i walk deep d NoMemory p answers = tt
refuses_at Y x all i walk deep d (Refused f) p answers = λ w stands know ls at.
    refused_behind x w stands p.done deep i walk ls f (p.copied.copies w stands know) (λ l there. answers w stands l know there)
    (subst (λ (is : List ℕ). EachTwo (λ (k : ℕ) (l : Line ℕ). slice_get (all_lines w) k ≡ Some l) is ls) p.whole at)

pub at_some : (x : Known) (all : List ℕ) (o : Option Source) (walk : List ℕ) (deep : List DeepLine) (s : Source) → o ≡ Some s → PassedTo x all (rest_of o walk) deep
    → PassedTo x all (s.entry ∷ walk) deep
at_some x all o walk deep s is p = subst (λ (r : Option Source). PassedTo x all (rest_of r walk) deep) is p

pub at_none : (x : Known) (all : List ℕ) (o : Option Source) (walk : List ℕ) (deep : List DeepLine) → o ≡ None → PassedTo x all (rest_of o walk) deep → AreCopied x all deep
at_none x all o walk deep is p = all_passed x all deep (subst (λ (r : Option Source). PassedTo x all (rest_of r walk) deep) is p)
