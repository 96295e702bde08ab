-- What is held where the puts stop.
use Rattle.std.proofs.Common.{◌≡◌, ◌⊎◌, ℕ, zero, suc, ◌<◌, List, [], ◌∷◌, ◌++◌, take, length, Bool, true, false, Option, Some, refl, sym, ap, subst, ◌∙◌, inl, inr, ⊎_elim, arith}
use Rattle.std.proofs.Math.Seq.{take-append_seam}
use Rattle.std.proofs.lemmas.List.{length-append}
use Rattle.std.proofs.lemmas.Slice.Eq.{bytes_eq-Decides}
use Rattle.std.specs.Prelude.{IfSome}
use Rattle.std.specs.Str.{bytes_eq}
use Rattle.dwz_outside.specs.declared.puts.Put.{Put}
use Rattle.dwz_outside.specs.Store.{Store, done, put_in}
use Rattle.dwz_outside.specs.Told.{FilesSeen}
use Rattle.dwz_run_course.specs.Puts.{AreApart, AreOthers, IsOldOrNew, Prefixes, StopsAmong}

pub text_of_same : (a b : List ℕ) → bytes_eq a b ≡ true → a ≡ b
text_of_same a b e = (bytes_eq-Decides a b).0 e

same_text : (a : List ℕ) → bytes_eq a a ≡ true
same_text a = (bytes_eq-Decides a a).1 refl

-- puts of other names leave this one
pub untouched : (name : List ℕ) (puts : List Put) (store : Store) → AreOthers name puts → done puts store name ≡ store name
untouched name [] store others = refl
untouched name (p ∷ puts) store others = untouched name puts (put_in p.name p.bytes store) others.1 ∙ rw others.0 refl

fewer : (name : List ℕ) (k : ℕ) (puts : List Put) → AreOthers name puts → AreOthers name (take k puts)
fewer name zero puts others = tt
fewer name (suc k) [] others = tt
fewer name (suc k) (p ∷ puts) others = (others.0, fewer name k puts others.1)

pub first : (p : Put) (puts : List Put) (store : Store) (k : ℕ) → AreOthers p.name puts → done (p ∷ take k puts) store p.name ≡ Some p.bytes
first p puts store k others = untouched p.name (take k puts) (put_in p.name p.bytes store) (fewer p.name k puts others) ∙ rw (same_text p.name) refl

-- a store whose content of a name was put just now, or before
now_or_before : (p : Put) (puts : List Put) (store : Store) (name : List ℕ) (now : Option (List ℕ)) (b : Bool) → bytes_eq name p.name ≡ b → AreOthers p.name puts
    → now ≡ put_in p.name p.bytes store name → (now ≡ store name) ⊎ (now ≡ done puts (put_in p.name p.bytes store) name)
now_or_before p puts store name now false other others is = inl (is ∙ rw other refl)
now_or_before p puts store name now true same others is =
    let those : AreOthers name puts = subst (λ (n : List ℕ). AreOthers n puts) (sym (text_of_same name p.name same)) others in
    inr (is ∙ sym (untouched name puts (put_in p.name p.bytes store) those))

pub prefixes : (puts : List Put) (store : Store) → AreApart puts → Prefixes puts store (IsOldOrNew puts store)
prefixes [] store apart zero name = inl refl
prefixes [] store apart (suc k) name = inl refl
prefixes (p ∷ puts) store apart zero name = inl refl
prefixes (p ∷ puts) store apart (suc k) name = ⊎_elim
    (λ (old : done (take k puts) (put_in p.name p.bytes store) name ≡ put_in p.name p.bytes store name).
    now_or_before p puts store name (done (take k puts) (put_in p.name p.bytes store) name) (bytes_eq name p.name) refl apart.0 old)
    (λ (new : done (take k puts) (put_in p.name p.bytes store) name ≡ done puts (put_in p.name p.bytes store) name). inr new)
    (prefixes puts (put_in p.name p.bytes store) apart.1 k name)

held_by : (before puts : List Put) (failed : Put) (after : List Put) → puts ≡ before ++ failed ∷ after → (store : Store) (now : Option Store) → now ≡ Some (done before store)
    → now ≡ Some (done (take (length before) puts) store)
held_by before puts failed after is store now held =
    held ∙ ap (λ (ps : List Put). Some (done ps store)) (sym (ap (take (length before)) is ∙ take-append_seam before (failed ∷ after)))

pub among : (old new : FilesSeen) (puts : List Put) (name : List ℕ) → StopsAmong old new puts name
among old new puts name s store told = (
  length s.before,
  subst (λ (ps : List Put). length s.before < length ps) (sym s.puts_are) (rw (length-append s.before (s.failed ∷ s.after)) (omega arith)),
  held_by s.before puts s.failed s.after s.puts_are store new.held (subst (λ (o : Option Store). IfSome o (λ st. new.held ≡ Some (done s.before st))) told s.held),
)
