-- A value that was read stays where the test says so, by its class.
use Rattle.std.proofs.Common.{◌≡◌, ◌≢◌, ◌↔◌, ℕ, Bool, true, false, List, Option, Some, None, refl, sym, ap, subst, ◌∙◌, ne_eqb, eq-eqb, cond}
use Rattle.std.proofs.lemmas.Bool.{false≢true}
use Rattle.std.specs.Prelude.{◌&&◌}
use Rattle.dwz_def_reading.specs.Entries.{RawAttr}
use Rattle.dwz_def_reading.specs.Lists.{In}
use Rattle.dwz_def_reading.specs.Texts.{slot_place}
use Rattle.dwz_def_reading.specs.Meanings.{MeaningContext, offset_of, stmt_list, str_offsets_base, text_sections_of}
use Rattle.dwz_def_reading.specs.Classes.{OfConstant, OfTextBySlot}
use Rattle.dwz_def_reading.specs.Classes.{Class, class_of, names_file}
use Rattle.dwz_def_reading.proofs.MeaningLemmas.{has_in}
use Rattle.dwz_graph_pruning.specs.declared.values.Known.{Known}
use Rattle.dwz_graph_pruning.specs.Stays.{asks, asks_as, is_slot, stays, stays_as}
use Rattle.dwz_graph.specs.Parts.{numbers_as, numbers_file}
use Rattle.dwz_def_reading.proofs.HasLemmas.{in_has}
use Rattle.dwz_def_encoding.specs.Bases.{bases_of}
use Rattle.dwz_def_encoding.specs.Pruned.{HasNoStrp, StaysAs}

-- no text of the line table of the unit stands in `.debug_str`, if it has one
abbrev pub NoStrp : MeaningContext ℕ → Type 0
NoStrp s = (place : ℕ) → stmt_list s ≡ Some place → HasNoStrp (text_sections_of s.around.sources) s.around.sources.line place

-- the flag says so, where a value numbers a file
abbrev pub Tells : MeaningContext ℕ → Bool → Bool → Type 0
Tells s strp numbers = numbers ≡ true → (strp ≡ false) ↔ NoStrp s

-- it doesn't have to be asked, so it stays
pub unasked_stays : (places : List ℕ) (k : Known) (a : RawAttr) → asks k.strp a.pair ≡ false → stays places k a.pair (offset_of a) ≡ true
unasked_stays places k a none = ap (λ (b : Bool). cond b (stays_as (class_of a.pair.form) places k.base (offset_of a)) true) none

module _ (s : MeaningContext ℕ) (places : List ℕ) where
  abbrev pub RawStays : RawAttr → Type 0
  RawStays a = StaysAs (class_of a.pair.form) (text_sections_of s.around.sources) s.around.sources.line places (bases_of s) a.pair.name (offset_of a)

  -- ---- by its class

  slot_is : (number : ℕ) (base : Option ℕ) → (is_slot places base number ≡ true) ↔ ((b : ℕ) → base ≡ Some b → In (slot_place b number) places)
  slot_is number None = (λ e b none. absurd (let z : None ≡ Some b = none in cc), λ h. refl)
  slot_is number (Some base) = (
    λ e b is. (let same : base ≡ b = cc in subst (λ (n : ℕ). In (slot_place n number) places) same (has_in (slot_place base number) places e)),
    λ h. in_has (slot_place base number) places (h base refl),
  )

  abbrev Asked : Class → Bool → ℕ → ℕ → Bool
  Asked c strp name number = cond (asks_as c strp name) (stays_as c places (str_offsets_base s) number) true

  abbrev Wanted : Class → ℕ → ℕ → Type 0
  Wanted c name number = StaysAs c (text_sections_of s.around.sources) s.around.sources.line places (bases_of s) name number

  file_is : (name number : ℕ) (strp names : Bool) → names_file name ≡ names → Tells s strp names → (cond (strp && names) false true ≡ true) ↔ (names_file name ≡ true → NoStrp s)
  file_is name number true true e tells = (λ h. absurd (false≢true h), λ h. absurd (false≢true (sym ((tells refl).1 (h e)))))
  file_is name number true false e tells = (λ h is. absurd (false≢true (sym e ∙ is)), λ h. refl)
  file_is name number false true e tells = (λ h is. (tells refl).0 refl, λ h. refl)
  file_is name number false false e tells = (λ h is. absurd (false≢true (sym e ∙ is)), λ h. refl)

  class_is : (c : Class) (strp : Bool) (name number : ℕ) → Tells s strp (numbers_as c name) → (Asked c strp name number ≡ true) ↔ Wanted c name number
  class_is OfTextBySlot strp name number tells = slot_is number (str_offsets_base s)
  class_is OfConstant strp name number tells = go (names_file name) refl tells where
    go : (names : Bool) → names_file name ≡ names → Tells s strp (names_file name) → (Asked OfConstant strp name number ≡ true) ↔ (names_file name ≡ true → NoStrp s)
    go names e t =
        let r = file_is name number strp names e (subst (Tells s strp) e t) in
        (λ h. r.0 (ap (λ (b : Bool). cond (strp && b) false true) (sym e) ∙ h), λ h. ap (λ (b : Bool). cond (strp && b) false true) e ∙ r.1 h)
  class_is c strp name number tells = (λ h. tt, λ h. refl)

  -- ---- a value

  pub sibling_stays : (k : Known) (a : RawAttr) → a.pair.name ≡ 1 → stays places k a.pair (offset_of a) ≡ true
  sibling_stays k a e =
      let no : asks k.strp a.pair ≡ false = ap (λ (b : Bool). cond b false (asks_as (class_of a.pair.form) k.strp a.pair.name)) (eq-eqb a.pair.name 1 e) in
      ap (λ (b : Bool). cond b (stays_as (class_of a.pair.form) places k.base (offset_of a)) true) no

  pub value_stays : (k : Known) (a : RawAttr) → a.pair.name ≢ 1 → k.base ≡ str_offsets_base s → Tells s k.strp (numbers_file a) → (stays places k a.pair (offset_of a) ≡ true) ↔ RawStays a
  value_stays k a ne base tells =
      let asked : asks k.strp a.pair ≡ asks_as (class_of a.pair.form) k.strp a.pair.name = ap (λ (b : Bool). cond b false (asks_as (class_of a.pair.form) k.strp a.pair.name))
      (ne_eqb a.pair.name 1 ne) in
      let same : stays places k a.pair (offset_of a) ≡ Asked (class_of a.pair.form) k.strp a.pair.name (offset_of a) =
      (λ i. cond (asked i) (stays_as (class_of a.pair.form) places (base i) (offset_of a)) true) in
      let r = class_is (class_of a.pair.form) k.strp a.pair.name (offset_of a) tells in
      (λ h. r.0 (sym same ∙ h), λ h. same ∙ r.1 h)
