-- What a chain leads to: the tops are numbered, so of each reference it is one top alone.
use Rattle.std.proofs.Common.{◌≡◌, ℕ, List, [], ◌∷◌, Option, Some, None, inl, inr, refl, sym, ap, subst, ◌∙◌, slice_get}
use Rattle.std.specs.Prelude.{◌⊎◌}
use Rattle.dwz_model.specs.Lists.{In}
use Rattle.dwz_def_tops.specs.Deciding.{top_in}
use Rattle.dwz_def_tops.specs.Spots.{Top}
use Rattle.dwz_def_tops.specs.Targets.{targets_of}
use Rattle.dwz_def_tops.proofs.TopNumbers.{Numbered, finds, found, one_top}
use Rattle.dwz_def_explain.specs.Chain.{BothLead, GoesInto}

-- the top that the reference with that number goes into; and that there is none
abbrev pub Goes : List Top → ℕ → Top → Type 0
Goes tops i a = (c : Top) × In c tops × GoesInto i a c

abbrev pub GoesNowhere : List Top → ℕ → Top → Type 0
GoesNowhere tops i a = (c : Top) → In c tops → GoesInto i a c → ⊥

module _ (tops : List Top) where
  -- what follows of the two tops at the end
  pub lead_use : (R : Top → Top → Type 0) (P : Type 0) (chain : List ℕ) (a b : Top) → BothLead R tops chain a b
      → ((x y : Top) → R x y → P) → P
  lead_use R P [] a b h f = f a b h
  lead_use R P (i ∷ chain) a b h f = lead_use R P chain h.first h.second h.holds f

  module _ (numbered : Numbered 0 tops) where
    goes_one : (i : ℕ) (a x y : Top) → In x tops → In y tops → GoesInto i a x → GoesInto i a y → x ≡ y
    goes_one i a x y p q f g =
        let both : Some x.number ≡ Some y.number = sym f ∙ g in
        let same : x.number ≡ y.number = cc in
        one_top 0 tops x y numbered p q same

    -- the top that the reference with a number goes into is there, or there is none
    pub goes_or_not : (i : ℕ) (a : Top) → Goes tops i a ⊎ GoesNowhere tops i a
    goes_or_not i a = reference (slice_get (targets_of a) i) refl where
      target : (x : ℕ) → slice_get (targets_of a) i ≡ Some x → (o : Option Top) → top_in tops x ≡ o → Goes tops i a ⊎ GoesNowhere tops i a
      target x e (Some c) f = let is = found tops x c f in inl (c, is.0, e ∙ ap (λ (w : ℕ). Some w) (sym is.1))
      target x e None f = inr (λ c there goes. (let first = finds 0 tops c numbered there in cc))

      reference : (o : Option ℕ) → slice_get (targets_of a) i ≡ o → Goes tops i a ⊎ GoesNowhere tops i a
      reference None e = inr (λ c there goes. cc)
      reference (Some x) e = target x e (top_in tops x) refl

    -- what a chain leads to from two tops, the rest leads to from the targets of its first reference
    pub lead_on : (R : Top → Top → Type 0) (i : ℕ) (chain : List ℕ) (a b c d : Top) → In c tops → In d tops
        → GoesInto i a c → GoesInto i b d → BothLead R tops (i ∷ chain) a b → BothLead R tops chain c d
    lead_on R i chain a b c d p q f g h =
        let first = goes_one i a h.first c h.first_there p h.first_goes f in
        let second = goes_one i b h.second d h.second_there q h.second_goes g in
        subst (λ (y : Top). BothLead R tops chain c y) second (subst (λ (x : Top). BothLead R tops chain x h.second) first h.holds)

    -- a chain leads to two tops alone
    pub lead_meets : (R S : Top → Top → Type 0) (chain : List ℕ) (a b : Top) → BothLead R tops chain a b → BothLead S tops chain a b
        → BothLead (λ x y. R x y × S x y) tops chain a b
    lead_meets R S [] a b h k = (h, k)
    lead_meets R S (i ∷ chain) a b h k = record {
      first = h.first;
      second = h.second;
      first_there = h.first_there;
      second_there = h.second_there;
      first_goes = h.first_goes;
      second_goes = h.second_goes;
      holds = lead_meets R S chain h.first h.second h.holds
          (lead_on S i chain a b h.first h.second h.first_there h.second_there h.first_goes h.second_goes k);
    }
