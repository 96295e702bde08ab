-- Spaces whose places are replaced, and what stands in them.
use Rattle.std.proofs.Common.{◌≡◌, ℕ, ◌+◌, suc, Bool, true, false, List, [], ◌∷◌, Option, Some, None, map, ◌==◌, if◌then◌else◌, refl, sym, ap, ◌∙◌, inl, inr}
use Rattle.dwz_def_reading.specs.Documents.{Attr, Entries, Node, entries_map, first_named, node_map}
use Rattle.dwz_def_reading.specs.Lists.{In}
use Rattle.dwz_def_reading.specs.Trees.{End, Entry}
use Rattle.dwz_def_reading.proofs.ListFacts.{in_left, in_right}
use Rattle.dwz_def_tops.specs.Seen.{IsChild, IsShown, Named, Seen, named_map, named_value, see, seen}
use Rattle.dwz_def_tops.specs.Spaces.{IsUnder, space_text, text_of_plain, text_value, tops_under}
use Rattle.dwz_def_tops.proofs.SeenLemmas.{names_map}

-- ---- the name is told by the tag and by the names and values of attributes

named_text : {P : Type 0} → List (Named P) → Option (List ℕ)
named_text [] = None
named_text (a ∷ attrs) = if a.name == 0x03 then text_of_plain a.value.plain else named_text attrs

text_named : {P : Type 0} (attrs : List (Attr P)) → text_value (first_named 0x03 attrs) ≡ named_text (map named_value attrs)
unfolding first_named named_text
text_named [] = refl
text_named {P} (a ∷ attrs) = go (text_named attrs) (a.name == 0x03) where
  go : text_value (first_named 0x03 attrs) ≡ named_text (map named_value attrs) → (b : Bool) → text_value (if b then Some a else first_named 0x03 attrs)
      ≡ (if b then text_of_plain a.value.plain else named_text (map named_value attrs))
  go more true = refl
  go more false = more

text_kept : {P Q : Type 0} (g : P → Q) (attrs : List (Named P)) → named_text (map (named_map g) attrs) ≡ named_text attrs
unfolding named_text
text_kept g [] = refl
text_kept g (a ∷ attrs) = go (text_kept g attrs) (a.name == 0x03) where
  go : named_text (map (named_map g) attrs) ≡ named_text attrs → (b : Bool) → (if b then text_of_plain a.value.plain else named_text (map (named_map g) attrs))
      ≡ (if b then text_of_plain a.value.plain else named_text attrs)
  go more true = refl
  go more false = more

text_by : ℕ → Option (List ℕ) → Option (List ℕ)
text_by tag text = elim (tag == 0x39) as (λ _. Option (List ℕ)) [ true ↦ text | false ↦ None ]

text_is : {P : Type 0} (e : Node P) → space_text e ≡ text_by e.tag (named_text (map named_value e.attrs))
unfolding space_text text_by
text_is e = go (e.tag == 0x39) where
  go : (b : Bool) → (elim b as (λ _. Option (List ℕ)) [ true ↦ text_value (first_named 0x03 e.attrs) | false ↦ None ])
      ≡ (elim b as (λ _. Option (List ℕ)) [ true ↦ named_text (map named_value e.attrs) | false ↦ None ])
  go true = text_named e.attrs
  go false = refl

pub shown_text : {P Q : Type 0} (g : P → Q) (e : Node P) (d : Node Q) → IsShown g e d → space_text d ≡ space_text e
shown_text g e d h =
    text_is d ∙ ap (λ (w : ℕ). text_by w (named_text (map named_value d.attrs))) h.tag
    ∙ ap (λ (w : List (Named _)). text_by e.tag (named_text w)) h.attrs ∙ ap (text_by e.tag) (text_kept g (map named_value e.attrs)) ∙ sym (text_is e)

pub node_shown : {P Q : Type 0} (g : P → Q) (e : Node P) → IsShown g e (node_map g e)
node_shown g e = record { at = refl; tag = refl; attrs = names_map g e.attrs }

pub text_map : {P Q : Type 0} (g : P → Q) (e : Node P) → space_text (node_map g e) ≡ space_text e
text_map g e = shown_text g e (node_map g e) (node_shown g e)

pub under_count : {P Q : Type 0} (g : P → Q) (f : Entries P) → tops_under (entries_map g f) ≡ tops_under f
unfolding tops_under entries_map
under_count g End = refl
under_count g (Entry e f k) = go (under_count g f) (under_count g k) (space_text (node_map g e)) (space_text e) (text_map g e) where
  go : tops_under (entries_map g f) ≡ tops_under f → tops_under (entries_map g k) ≡ tops_under k → (o p : Option (List ℕ)) → o ≡ p
      → (elim o as (λ _. ℕ) [ None ↦ suc (tops_under (entries_map g k)) | Some s ↦ tops_under (entries_map g f) + tops_under (entries_map g k) ])
      ≡ (elim p as (λ _. ℕ) [ None ↦ suc (tops_under k) | Some s ↦ tops_under f + tops_under k ])
  go x y None None e = ap (λ (n : ℕ). suc n) y
  go x y (Some s) (Some t) e = rw (x, y) refl
  go x y None (Some t) e = absurd cc
  go x y (Some s) None e = absurd cc

-- ---- what stands in spaces

pub child_under : {P : Type 0} (e : Node P) (f : Entries P) → IsChild e f → IsUnder [] e f
child_under e End h = h
child_under e (Entry d f g) (inl x) = inl (refl, x)
child_under e (Entry d f g) (inr r) = inr (inr (child_under e g r))

pub some_none : {X T : Type 0} (o : Option X) (x : X) → o ≡ Some x → o ≡ None → T
some_none o x a b = absurd cc

-- it is seen with its attributes
pub under_seen : {P : Type 0} (names : List (List ℕ)) (e : Node P) (g : Entries P) → IsUnder names e g → (d : Seen P) × In d (seen g) × (d.attrs ≡ map named_value e.attrs) × (d.at ≡ e.at)
unfolding seen
under_seen names e End h = absurd h
under_seen {P} names e (Entry d f g) (inl x) = (see d f, inl refl, ap (λ (w : Node P). map named_value w.attrs) x.1, ap (λ (w : Node P). w.at) x.1)
under_seen names e (Entry d f g) (inr (inl i)) = let o = under_seen i.1 e f i.4 in (o.0, inr (in_left o.0 (seen f) (seen g) o.1), o.2, o.3)
under_seen names e (Entry d f g) (inr (inr r)) = let o = under_seen names e g r in (o.0, inr (in_right o.0 (seen f) (seen g) o.1), o.2, o.3)
