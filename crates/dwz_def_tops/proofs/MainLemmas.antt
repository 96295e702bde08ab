-- The types of type units, with other places.
use Rattle.std.proofs.Common.{◌≡◌, ℕ, List, [], ◌∷◌, ◌++◌, map, refl, sym, ap, subst, ◌∙◌, inl, inr}
use Rattle.std.proofs.lemmas.List.{map-append}
use Rattle.dwz_def_reading.specs.Documents.{Compile, DwUnit, Entries, Kind, OfType, Partial, entries_map, kind_map, unit_map}
use Rattle.dwz_def_reading.specs.Lists.{In}
use Rattle.dwz_def_reading.specs.Trees.{End, Entry}
use Rattle.dwz_def_reading.proofs.ListFacts.{in_map}
use Rattle.dwz_def_tops.specs.Shown.{AreShown, HasMain, HaveMains, UnitsShown, keys}
use Rattle.dwz_def_reading.proofs.Members.{in_map_from}

pub keys_map : {P Q : Type 0} (f : P → Q) (g : Entries P) → keys (entries_map f g) ≡ map f (keys g)
unfolding keys entries_map
keys_map f End = refl
keys_map {P} {Q} f (Entry e g k) =
    ap (λ (w : List Q). f e.at ∷ w)
    (ap (λ (w : List Q). w ++ keys (entries_map f k)) (keys_map f g) ∙ ap (λ (w : List Q). map f (keys g) ++ w) (keys_map f k) ∙ sym (map-append f (keys g) (keys k)))

keys_shown : {P Q : Type 0} (f : P → Q) (g : Entries P) (h : Entries Q) → AreShown f g h → keys h ≡ map f (keys g)
unfolding keys
keys_shown f End End s = refl
keys_shown {P} {Q} f (Entry e g k) (Entry d g' k') s =
    ap (λ (w : Q). w ∷ (keys g' ++ keys k')) s.0.at
    ∙ ap (λ (w : List Q). f e.at ∷ w)
    (ap (λ (w : List Q). w ++ keys k') (keys_shown f g g' s.1) ∙ ap (λ (w : List Q). map f (keys g) ++ w) (keys_shown f k k' s.2) ∙ sym (map-append f (keys g) (keys k)))
keys_shown f End (Entry d g k) s = absurd s
keys_shown f (Entry e g k) End s = absurd s

-- a unit has its type where another has it whose names are replaced
pub main_by : {P Q : Type 0} (f : P → Q) (u : DwUnit P) (k : Kind P) → u.kind ≡ k → HasMain u → (v : DwUnit Q) → v.kind ≡ kind_map f k → v.root.at ≡ f u.root.at
    → ((signature : ℕ) (main : P) → k ≡ OfType signature main → keys v.below ≡ map f (keys u.below)) → HasMain v
main_by {P} {Q} f u k e h v kind root below = λ signature main q. go k e kind below signature main q where
  go : (l : Kind P) → u.kind ≡ l → v.kind ≡ kind_map f l → ((signature : ℕ) (main : P) → l ≡ OfType signature main → keys v.below ≡ map f (keys u.below))
      → (signature : ℕ) (main : Q) → v.kind ≡ OfType signature main → In main (v.root.at ∷ keys v.below)
  go (OfType s t) x y z signature main q =
      let main_is : f t ≡ main = (let same : OfType s (f t) ≡ OfType signature main = sym y ∙ q in cc) in
      let list_is : f u.root.at ∷ map f (keys u.below) ≡ v.root.at ∷ keys v.below =
      ap (λ (w : Q). w ∷ map f (keys u.below)) (sym root) ∙ ap (λ (w : List Q). v.root.at ∷ w) (sym (z s t refl)) in
      subst (λ (w : Q). In w (v.root.at ∷ keys v.below)) main_is (subst (λ (w : List Q). In (f t) w) list_is (in_map f t (u.root.at ∷ keys u.below) (h s t x)))
  go Compile x y z signature main q = absurd cc
  go Partial x y z signature main q = absurd cc

pub mains_map : {P Q : Type 0} (f : P → Q) (units : List (DwUnit P)) → HaveMains units → HaveMains (map (unit_map f) units)
mains_map {P} {Q} f units h = λ v is.
    let o = in_map_from (unit_map f) v units is in
    subst (λ (w : DwUnit Q). HasMain w) o.is (main_by f o.source o.source.kind refl (h o.source o.there) (unit_map f o.source) refl refl (λ s t e. keys_map f o.source.below))

pub mains_shown : {P Q : Type 0} (f : P → Q) (units : List (DwUnit P)) (others : List (DwUnit Q)) → UnitsShown f units others → HaveMains units → HaveMains others
mains_shown f [] [] s h = λ v is. absurd is
mains_shown {P} {Q} f (u ∷ units) (v ∷ others) s h =
    let first : HasMain v = main_by f u u.kind refl (h u (inl refl)) v s.0.kind s.0.root.at (λ t m e. keys_shown f u.below v.below s.0.below) in
    let more = mains_shown f units others s.1 (λ w is. h w (inr is)) in
    λ w is. elim is [ inl x ↦ subst (λ (y : DwUnit Q). HasMain y) x first | inr r ↦ more w r ]
mains_shown f [] (v ∷ others) s h = absurd s
mains_shown f (u ∷ units) [] s h = absurd s
