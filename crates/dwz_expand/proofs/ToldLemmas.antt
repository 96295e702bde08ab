-- The operands of one entry more.
use Rattle.std.proofs.Common.{◌≡◌, ℕ, List, [], ◌∷◌, ◌++◌, true, false, Bool, sym, ap, subst, ◌∙◌, append_assoc}
use Rattle.std.proofs.lemmas.List.{append-nil}
use Rattle.std.specs.List.{flat_map}
use Rattle.std.specs.Prelude.{Option, if◌then◌else◌}
use Rattle.dwz_def_reading.specs.declared.exprs.Operand.{Operand}
use Rattle.dwz_expand_layout.specs.Laid.{Made}
use Rattle.dwz_expand.specs.declared.narrow.CopiedPlaces.{CopiedPlaces}
use Rattle.dwz_expand.specs.Told.{AreFirst, common_told, own_told, told_of}
use Rattle.dwz_expand_passes.specs.Noted.{Noted}
use Rattle.dwz_expand_sections.specs.Narrow.{FirstPlace}

told_push : (f : Noted → List Operand) (given : List Noted) (s : Noted) → flat_map f (given ++ s ∷ []) ≡ flat_map f given ++ f s
told_push f [] s = append-nil (f s)
told_push f (g ∷ given) s = ap (λ (w : List Operand). f g ++ w) (told_push f given s) ∙ sym (append_assoc (f g) (flat_map f given) (f s))

pub with_common : (made : Made) (given : List Noted) (s : Noted) (places new : CopiedPlaces) → s.common ≡ true → new.own ≡ places.own → AreFirst made given places
    → FirstPlace (common_told made given ++ told_of made s) new.common → AreFirst made (given ++ s ∷ []) new
with_common made given s places new is kept h more = record {
  own = subst (λ (w : List Operand). FirstPlace w new.own)
      (sym (told_push (λ t. if t.common then [] else told_of made t) given s ∙ ap (λ (b : Bool). own_told made given ++ (if b then [] else told_of made s)) is ∙ append-nil (own_told made given)))
      (subst (λ (o : Option ℕ). FirstPlace (own_told made given) o) (sym kept) h.own);
  common = subst (λ (w : List Operand). FirstPlace w new.common)
      (sym (told_push (λ t. if t.common then told_of made t else []) given s ∙ ap (λ (b : Bool). common_told made given ++ (if b then told_of made s else [])) is)) more;
}

pub with_own : (made : Made) (given : List Noted) (s : Noted) (places new : CopiedPlaces) → s.common ≡ false → new.common ≡ places.common → AreFirst made given places
    → FirstPlace (own_told made given ++ told_of made s) new.own → AreFirst made (given ++ s ∷ []) new
with_own made given s places new is kept h more = record {
  common = subst (λ (w : List Operand). FirstPlace w new.common)
      (sym (told_push (λ t. if t.common then told_of made t else []) given s ∙ ap (λ (b : Bool). common_told made given ++ (if b then told_of made s else [])) is ∙ append-nil (common_told made given)))
      (subst (λ (o : Option ℕ). FirstPlace (common_told made given) o) (sym kept) h.common);
  own = subst (λ (w : List Operand). FirstPlace w new.own)
      (sym (told_push (λ t. if t.common then [] else told_of made t) given s ∙ ap (λ (b : Bool). own_told made given ++ (if b then [] else told_of made s)) is)) more;
}

pub none_first : (made : Made) (places : CopiedPlaces) → FirstPlace [] places.own → FirstPlace [] places.common → AreFirst made [] places
none_first made places a b = record { own = a; common = b }
