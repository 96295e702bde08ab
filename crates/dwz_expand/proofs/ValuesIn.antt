-- The operands of values: each is of a value of a source that is stored in its file.
use Rattle.std.proofs.Common.{◌≡◌, ℕ, Bool, true, false, List, [], ◌∷◌, map, Option, Some, None, refl, sym, ap, subst, ◌∙◌, inl, inr}
use Rattle.std.specs.Prelude.{if◌then◌else◌, ◌==◌}
use Rattle.std.proofs.lemmas.Bool.{eq-eqb, eqb-true}
use Rattle.dwz_model.specs.Lists.{In}
use Rattle.dwz_model.proofs.ListFacts.{in_cases, in_left, in_map, in_right}
use Rattle.dwz_model.proofs.Members.{in_map_from}
use Rattle.dwz_def_encoding.specs.Meant.{led_to}
use Rattle.dwz_def_reading.specs.declared.exprs.Operand.{Operand}
use Rattle.dwz_def_reading.specs.Places.{Place, at_file}
use Rattle.dwz_def_expand.specs.OneFile.{OneFile, StoredAttr, stored_attr}
use Rattle.dwz_def_expand.specs.Output.{Spoken, in_value, in_values}
use Rattle.dwz_def_expand.specs.Refusals.{Site}

abbrev pub spoken_of : Site Place → StoredAttr → Operand → Spoken
spoken_of s v o = record { unit = s.unit; operand = o; target = at_file s.source.file (led_to v.scope.unit o) }

-- it is of one of these values
pub record OfSite (f : OneFile) (operands : StoredAttr → List Operand) (file : ℕ) (sites : List (Site Place)) (o : Spoken) : Type 0 where
  pub site : Site Place
  pub there : In site sites
  pub in_file : site.source.file ≡ file
  pub value : StoredAttr
  pub stored : stored_attr f site.source site.index ≡ Some value
  pub operand : Operand
  pub own : In operand (operands value)
  pub is : spoken_of site value operand ≡ o

module _ (f : OneFile) (operands : StoredAttr → List Operand) (file : ℕ) where
  abbrev of_site : Site Place → List Spoken
  of_site s = if s.source.file == file then in_value operands s (stored_attr f s.source s.index) else []

  pub in_site : (sites : List (Site Place)) (s : Site Place) (v : StoredAttr) (o : Operand) → In s sites → s.source.file ≡ file → stored_attr f s.source s.index ≡ Some v → In o (operands v)
      → In (spoken_of s v o) (in_values f operands file sites)
  unfolding in_values
  in_site [] s v o there number stored own = absurd there
  in_site (t ∷ sites) s v o (inl is) number stored own =
      let here : of_site s ≡ map (spoken_of s v) (operands v) =
      ap (λ (b : Bool). if b then in_value operands s (stored_attr f s.source s.index) else []) (eq-eqb s.source.file file number) ∙ ap (in_value operands s) stored in
      in_left (spoken_of s v o) (of_site t) (in_values f operands file sites)
      (subst (λ (x : Site Place). In (spoken_of s v o) (of_site x)) (sym is) (subst (λ (w : List Spoken). In (spoken_of s v o) w) (sym here) (in_map (spoken_of s v) o (operands v) own)))
  in_site (t ∷ sites) s v o (inr later) number stored own =
      in_right (spoken_of s v o) (of_site t) (in_values f operands file sites) (in_site sites s v o later number stored own)

  pub from_site : (sites : List (Site Place)) (o : Spoken) → In o (in_values f operands file sites) → OfSite f operands file sites o
  unfolding in_values
  from_site [] o there = absurd there
  from_site (s ∷ sites) o there =
      elim (in_cases o (of_site s) (in_values f operands file sites) there) [
        | inl here ↦ by (s.source.file == file) refl (stored_attr f s.source s.index) refl here
        | inr later ↦
            (let r = from_site sites o later in
            record { site = r.site; there = inr r.there; in_file = r.in_file; value = r.value; stored = r.stored; operand = r.operand; own = r.own; is = r.is })
      ] where
        by : (b : Bool) → (s.source.file == file) ≡ b → (v : Option StoredAttr) → stored_attr f s.source s.index ≡ v → In o (if b then in_value operands s v else [])
            → OfSite f operands file (s ∷ sites) o
        by true e None is h = absurd h
        by true e (Some v) is h =
            let m = in_map_from (spoken_of s v) o (operands v) h in
            record { site = s; there = inl refl; in_file = eqb-true s.source.file file e; value = v; stored = is; operand = m.source; own = m.there; is = m.is }
        by false e v is h = absurd h
