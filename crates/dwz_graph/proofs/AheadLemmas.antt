-- Files that are read ahead, each at its place, and behind whatever comes before it.
use Rattle.std.proofs.Common.{◌≡◌, ℕ, zero, suc, ◌<◌, ◌⊎◌, List, [], ◌∷◌, ◌++◌, length, get_or, Option, Some, None, slice_get, refl, sym, ap, subst, ◌∙◌, inl, inr, arith}
use Rattle.std.proofs.Math.ListN.{set}
use Rattle.std.proofs.lemmas.Option.{slice_get-get_or}
use Rattle.std.specs.Prelude.{IfSome}
use Rattle.dwz_def_reading.specs.Files.{Limits}
use Rattle.dwz_unit.specs.Rows.{units_of}
use Rattle.dwz_graph.specs.Ahead.{AreAhead, IsAhead, IsAheadIn, IsEnough}
use Rattle.dwz_graph.specs.Files.{IsRead}
use Rattle.dwz_graph.specs.declared.file.File.{File}
use Rattle.dwz_graph.proofs.RoomLemmas.{meaning_fits}

-- what is read is read as well behind any other files that leave enough for it
pub read_behind : (l m : Limits) (number : ℕ) (bytes : List ℕ) (f : File) → IsEnough m bytes (units_of f.units) → IsRead l number bytes f → IsRead m number bytes f
read_behind l m number bytes f enough r = record {
  doc = r.doc;
  means = meaning_fits l m bytes (units_of f.units) r.doc enough r.means;
  named = r.named;
  within = r.within;
  parts = r.parts;
  lines = r.lines;
  operands = r.operands;
  of_file = r.of_file;
  elf = r.elf;
  info = r.info;
  sections = r.sections;
  aranges = r.aranges;
  given = r.given;
}

-- ---- places

-- what is found behind a write was written, or was there before it
found_set : {X : Type 0} (xs : List X) (i k : ℕ) (v y : X) → i < length xs → slice_get (set xs i v) k ≡ Some y → ((k ≡ i) × (v ≡ y)) ⊎ (slice_get xs k ≡ Some y)
found_set [] i k v y l e = absurd (omega arith)
found_set (x ∷ xs) zero zero v y l e = inl (refl, cc)
found_set (x ∷ xs) zero (suc k) v y l e = inr e
found_set (x ∷ xs) (suc i) zero v y l e = inr e
found_set (x ∷ xs) (suc i) (suc k) v y l e = elim (found_set xs i k v y (omega arith) e) [ inl h ↦ inl (ap suc h.0, h.1) | inr h ↦ inr h ]

found_push : {X : Type 0} (xs : List X) (k : ℕ) (v y : X) → slice_get (xs ++ v ∷ []) k ≡ Some y → (v ≡ y) ⊎ (slice_get xs k ≡ Some y)
found_push [] zero v y e = inl cc
found_push [] (suc k) v y e = absurd cc
found_push (x ∷ xs) zero v y e = inr e
found_push (x ∷ xs) (suc k) v y e = found_push xs k v y e

pub nothing : (contents : List (List ℕ)) → AreAhead contents []
nothing contents k f e = absurd cc

pub none_more : (contents : List (List ℕ)) (slots : List (Option File)) → AreAhead contents slots → AreAhead contents (slots ++ None ∷ [])
none_more contents slots h k f e = elim (found_push slots k None (Some f) e) [ inl is ↦ absurd cc | inr is ↦ h k f is ]

pub taken : (contents : List (List ℕ)) (slots : List (Option File)) (i : ℕ) → i < length slots → AreAhead contents slots → AreAhead contents (set slots i None)
taken contents slots i l h k f e = elim (found_set slots i k None (Some f) l e) [ inl is ↦ (let no : None ≡ Some f = is.1 in absurd cc) | inr is ↦ h k f is ]

pub put : (contents : List (List ℕ)) (slots : List (Option File)) (i : ℕ) (g : File) → i < length slots → IsAheadIn contents i g → AreAhead contents slots → AreAhead contents (set slots i (Some g))
put contents slots i g l there h k f e = elim (found_set slots i k (Some g) (Some f) l e) [
  | inl is ↦
      let here : k ≡ i = is.0 in
      let some : Some g ≡ Some f = is.1 in
      let same : g ≡ f = cc in
      subst (λ (n : ℕ). IsAheadIn contents n f) (sym here) (subst (λ (w : File). IsAheadIn contents i w) same there)
  | inr is ↦ h k f is
]

-- what is taken from a place is the file with its number
pub here : (contents : List (List ℕ)) (slots : List (Option File)) (i : ℕ) (bytes : List ℕ) (o d : Option File) → i < length slots
    → o ≡ get_or slots i d → slice_get contents i ≡ Some bytes → AreAhead contents slots
    → IfSome o (IsAhead i bytes)
here contents slots i bytes None d l e is h = tt
here contents slots i bytes (Some f) d l e is h =
    let found : slice_get slots i ≡ Some (Some f) = slice_get-get_or slots i d l ∙ ap (λ (o : Option File). Some o) (sym e) in
    let there = h i f found in
    let content = there.content in
    let same : there.bytes ≡ bytes = cc in
    subst (λ (b : List ℕ). IsAhead i b f) same there.ahead
