-- The new number of an operand of a list is that of its place: however often, and from however many values, it is named.
use Rattle.std.proofs.Common.{◌≡◌, ℕ, ◌-◌, Bool, true, false, List, [], ◌∷◌, Option, Some, None, refl, sym, ap, subst, ◌∙◌, inl, inr}
use Rattle.std.specs.Prelude.{if◌then◌else◌, ◌==◌}
use Rattle.std.proofs.lemmas.Bool.{eqb-true}
use Rattle.dwz_model.specs.Lists.{In}
use Rattle.dwz_model.specs.declared.place.Base.{Base}
use Rattle.dwz_model.proofs.ListFacts.{in_cases}
use Rattle.dwz_model.proofs.Members.{in_map_from}
use Rattle.dwz_def_encoding.specs.Meant.{led_to, place_counted}
use Rattle.dwz_def_encoding.specs.Writing.{base_place}
use Rattle.dwz_def_reading.specs.declared.exprs.Operand.{Operand}
use Rattle.dwz_def_reading.specs.NamedLists.{list_of_attr, lists_of_units}
use Rattle.dwz_def_reading.specs.Places.{Place, at_file}
use Rattle.dwz_def_reading.specs.Shared.{ListOperand, NamedList, of_unit, operands_in_lists, own_operands}
use Rattle.dwz_def_reading.proofs.PassLemmas.{own_in}
use Rattle.dwz_def_output.proofs.ListsStand.{all_stand}
use Rattle.dwz_def_output.proofs.ListsWritten.{GivesOne, number_for, number_own, owner}
use Rattle.dwz_def_expand.specs.OneFile.{OneFile, ReadsOne, StoredAttr, around, part, same_place, stored_attr}
use Rattle.dwz_def_expand.specs.Output.{Spoken, in_list, in_lists, in_value, in_values, new_places, new_start, number_of_operand, number_of_unit, sites_of_file, sources_by_file}
use Rattle.dwz_def_expand.specs.Refusals.{Site}
use Rattle.dwz_def_expand.specs.Source.{copy_for}
use Rattle.dwz_expand_sections.proofs.StoredLemmas.{FromEntry, stored_from}
use Rattle.dwz_expand.proofs.ListsThere.{list_there}
use Rattle.dwz_expand.proofs.SiteUnits.{list_unit, site_numbered}

-- ---- of which value an operand is

abbrev spoken_of : Site Place → StoredAttr → Operand → Spoken
spoken_of s v o = record { unit = s.unit; operand = o; target = at_file s.source.file (led_to v.scope.unit o) }

record OfSite (f : OneFile) (sites : List (Site Place)) (o : Spoken) : Type 0 where
  site : Site Place
  there : In site sites
  in_file : site.source.file ≡ 0
  value : StoredAttr
  stored : stored_attr f site.source site.index ≡ Some value
  operand : Operand
  own : In operand (in_list value)
  is : spoken_of site value operand ≡ o

from_site : (f : OneFile) (sites : List (Site Place)) (o : Spoken) → In o (in_values f in_list 0 sites) → OfSite f sites o
unfolding in_values
from_site f [] o there = absurd there
from_site f (s ∷ sites) o there =
    elim (in_cases o (if s.source.file == 0 then in_value in_list s (stored_attr f s.source s.index) else []) (in_values f in_list 0 sites) there) [
      | inl here ↦ by (s.source.file == 0) refl (stored_attr f s.source s.index) refl here
      | inr later ↦
          (let r = from_site f sites o later in
          record { site = r.site; there = inr r.there; in_file = r.in_file; value = r.value; stored = r.stored; operand = r.operand; own = r.own; is = r.is })
    ] where
      by : (b : Bool) → (s.source.file == 0) ≡ b → (v : Option StoredAttr) → stored_attr f s.source s.index ≡ v → In o (if b then in_value in_list s v else []) → OfSite f (s ∷ sites) o
      by true e None is h = absurd h
      by true e (Some v) is h =
          let m = in_map_from (spoken_of s v) o (in_list v) h in
          record { site = s; there = inl refl; in_file = eqb-true s.source.file 0 e; value = v; stored = is; operand = m.source; own = m.there; is = m.is }
      by false e v is h = absurd h

-- ---- of a file

module _ (f : OneFile) (reads : ReadsOne f) where
  abbrev lists : List NamedList
  lists = lists_of_units (around f 0) f.file.raw

  abbrev all : List ListOperand
  all = operands_in_lists lists

  pub number_at : ℕ → Base → ℕ → ℕ
  number_at unit base number =
      (new_places f).place (copy_for same_place (sources_by_file f) (number_of_unit f unit) (at_file 0 (place_counted base unit number))) - base_place (new_start f (number_of_unit f unit)) base

  pub number : ListOperand → ℕ
  number o = number_at o.unit o.operand.base o.operand.number

  one : GivesOne number
  unfolding number
  one o p unit base is =
      ap (λ (u : ℕ). number_at u o.operand.base o.operand.number) unit ∙ ap (λ (b : Base). number_at p.unit b o.operand.number) base ∙ ap (number_at p.unit p.operand.base) is

  abbrev pub number_there : ℕ → ℕ
  number_there at = number_for number all at

  pub number_is : (o : Spoken) → In o (in_lists f) → number_of_operand f o ≡ number_there o.operand.at
  unfolding number number_at
  number_is o there =
      let h = from_site f (sites_of_file f) o there in
      let s = h.site in
      let v = h.value in
      let from : FromEntry (around f 0) f.file.raw v = subst (λ (n : ℕ). FromEntry (around f n) (part f n).raw v) h.in_file (stored_from f s.source s.index v h.stored) in
      let m = in_map_from (λ (x : ListOperand). x.operand) h.operand (operands_in_lists (list_of_attr v.scope v.attr)) h.own in
      let w = owner (list_of_attr v.scope v.attr) m.source m.there in
      let l = w.list in
      let unit : l.unit ≡ v.scope.unit = list_unit v.scope v.attr l w.there in
      let site : number_of_unit f l.unit ≡ s.unit = site_numbered f reads s h.there h.in_file v h.stored l w.there in
      let listed : In l lists = list_there f v from l w.there in
      let own : In (of_unit l.unit h.operand) all = own_in l h.operand lists listed (subst (λ (x : Operand). In x (own_operands l)) m.is w.own) in
      let at : number_there h.operand.at ≡ number (of_unit l.unit h.operand) =
      number_own lists (around f 0).sources.lists reads.file.lists (all_stand (around f 0) f.file.raw) number one all (λ p p_in. p_in) (of_unit l.unit h.operand) own in
      let stands : ℕ → Place → ℕ → ℕ = λ k p start. (new_places f).place (copy_for same_place (sources_by_file f) k p) - base_place start h.operand.base in
      let said : number (of_unit l.unit h.operand) ≡ number_of_operand f (spoken_of s v h.operand) =
      ap (λ (k : ℕ). stands k (at_file 0 (led_to l.unit h.operand)) (new_start f k)) site
      ∙ ap (λ (u : ℕ). stands s.unit (at_file 0 (led_to u h.operand)) (new_start f s.unit)) unit
      ∙ ap (λ (k : ℕ). stands s.unit (at_file k (led_to v.scope.unit h.operand)) (new_start f s.unit)) (sym h.in_file) in
      ap (number_of_operand f) (sym h.is) ∙ sym said ∙ sym at ∙ ap (λ (x : Spoken). number_there x.operand.at) h.is
