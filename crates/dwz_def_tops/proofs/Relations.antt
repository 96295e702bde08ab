-- What holds of two trees where a relation holds of the tops of the targets of each two references.
use Rattle.std.proofs.Common.{ℕ, List, [], ◌∷◌}
use Rattle.dwz_def_reading.specs.Documents.{Attr, Entries}
use Rattle.dwz_def_reading.specs.Trees.{End, Entry}
use Rattle.dwz_def_tops.specs.Alike.{SameAttrs, SameEntries, SameRefs, SameTarget, SameTop}
use Rattle.dwz_def_reading.specs.Lists.{Each}
use Rattle.dwz_def_tops.specs.Spots.{EntryName, Top, Within}
use Rattle.dwz_def_tops.proofs.Targets.{RefTo, RefsOf, RefsOfAttr, RefsOfTop}

-- ---- from one relation to another

-- from P and Q of the targets of each two, and R of the two, S
abbrev pub Step : (P Q : ℕ → Type 0) (R S : ℕ → ℕ → Type 0) → Type 0
Step P Q R S = (m n : ℕ) → P m → Q n → R m n → S m n

step_target : (P Q : ℕ → Type 0) (R S : ℕ → ℕ → Type 0) → Step P Q R S → (a b : EntryName) → RefTo P a → RefTo Q b → SameTarget R a b → SameTarget S a b
step_target P Q R S f (Within s p) (Within t q) x y h = (h.0, f s t x y h.1)
step_target P Q R S f (Within s p) _ x y h = absurd y
step_target P Q R S f _ _ x y h = absurd x

step_refs : (P Q : ℕ → Type 0) (R S : ℕ → ℕ → Type 0) → Step P Q R S → (as' bs : List EntryName) → Each (RefTo P) as' → Each (RefTo Q) bs → SameRefs R as' bs → SameRefs S as' bs
step_refs P Q R S f [] [] x y h = tt
step_refs P Q R S f (a ∷ as') (b ∷ bs) x y h = (step_target P Q R S f a b x.0 y.0 h.0, step_refs P Q R S f as' bs x.1 y.1 h.1)
step_refs P Q R S f _ _ x y h = absurd h

step_attrs : (P Q : ℕ → Type 0) (R S : ℕ → ℕ → Type 0) → Step P Q R S → (as' bs : List (Attr EntryName)) → Each (RefsOfAttr P) as' → Each (RefsOfAttr Q) bs → SameAttrs R as' bs → SameAttrs S as' bs
step_attrs P Q R S f [] [] x y h = tt
step_attrs P Q R S f (a ∷ as') (b ∷ bs) x y h = (h.0, (h.1.0, step_refs P Q R S f a.value.refs b.value.refs x.0 y.0 h.1.1), step_attrs P Q R S f as' bs x.1 y.1 h.2)
step_attrs P Q R S f _ _ x y h = absurd h

step_entries : (P Q : ℕ → Type 0) (R S : ℕ → ℕ → Type 0) → Step P Q R S → (f g : Entries EntryName) → RefsOf P f → RefsOf Q g → SameEntries R f g → SameEntries S f g
step_entries P Q R S step End End x y h = tt
step_entries P Q R S step (Entry d f g) (Entry e f' g') x y h =
    ((h.0.0, step_attrs P Q R S step d.attrs e.attrs x.0 y.0 h.0.1), step_entries P Q R S step f f' x.1 y.1 h.1, step_entries P Q R S step g g' x.2 y.2 h.2)
step_entries P Q R S step _ _ x y h = absurd h

pub step_top : (P Q : ℕ → Type 0) (R S : ℕ → ℕ → Type 0) → Step P Q R S → (a b : Top) → RefsOfTop P a → RefsOfTop Q b → SameTop R a b → SameTop S a b
step_top P Q R S step a b x y h = (h.0, h.1, (h.2.0, step_attrs P Q R S step a.node.attrs b.node.attrs x.0 y.0 h.2.1), step_entries P Q R S step a.below b.below x.1 y.1 h.3)

-- ---- at every depth

abbrev pub Every : (ℕ → ℕ → ℕ → Type 0) → ℕ → ℕ → Type 0
Every R m n = (k : ℕ) → R k m n

every_target : (R : ℕ → ℕ → ℕ → Type 0) (a b : EntryName) → ((k : ℕ) → SameTarget (R k) a b) → SameTarget (Every R) a b
every_target R (Within s p) (Within t q) h = ((h 0).0, λ k. (h k).1)
every_target R (Within s p) _ h = absurd (h 0)
every_target R _ (Within t q) h = absurd (h 0)
every_target R _ _ h = tt

every_refs : (R : ℕ → ℕ → ℕ → Type 0) (a b : List EntryName) → ((k : ℕ) → SameRefs (R k) a b) → SameRefs (Every R) a b
every_refs R [] [] h = tt
every_refs R (a ∷ as') (b ∷ bs) h = (every_target R a b (λ k. (h k).0), every_refs R as' bs (λ k. (h k).1))
every_refs R _ _ h = absurd (h 0)

every_attrs : (R : ℕ → ℕ → ℕ → Type 0) (xs ys : List (Attr EntryName)) → ((k : ℕ) → SameAttrs (R k) xs ys) → SameAttrs (Every R) xs ys
every_attrs R [] [] h = tt
every_attrs R (a ∷ xs) (b ∷ ys) h = ((h 0).0, ((h 0).1.0, every_refs R a.value.refs b.value.refs (λ k. (h k).1.1)), every_attrs R xs ys (λ k. (h k).2))
every_attrs R _ _ h = absurd (h 0)

every_entries : (R : ℕ → ℕ → ℕ → Type 0) (f g : Entries EntryName) → ((k : ℕ) → SameEntries (R k) f g) → SameEntries (Every R) f g
every_entries R End End h = tt
every_entries R (Entry d f g) (Entry e f' g') h = (((h 0).0.0, every_attrs R d.attrs e.attrs (λ k. (h k).0.1)), every_entries R f f' (λ k. (h k).1), every_entries R g g' (λ k. (h k).2))
every_entries R _ _ h = absurd (h 0)

pub every_top : (R : ℕ → ℕ → ℕ → Type 0) (a b : Top) → ((k : ℕ) → SameTop (R k) a b) → SameTop (Every R) a b
every_top R a b h = ((h 0).0, (h 0).1, ((h 0).2.0, every_attrs R a.node.attrs b.node.attrs (λ k. (h k).2.1)), every_entries R a.below b.below (λ k. (h k).3))

-- ---- what a relation says of the first of each two

abbrev pub Tells : (R : ℕ → ℕ → Type 0) (P : ℕ → Type 0) → Type 0
Tells R P = (m n : ℕ) → R m n → P m

-- where the targets of the second are in tops
tells_target : (Q : ℕ → Type 0) (R : ℕ → ℕ → Type 0) (P : ℕ → Type 0) → Tells R P → (a b : EntryName) → RefTo Q b → SameTarget R a b → RefTo P a
tells_target Q R P f (Within s p) (Within t q) z h = f s t h.1
tells_target Q R P f _ (Within t q) z h = absurd h
tells_target Q R P f _ _ z h = absurd z

tells_refs : (Q : ℕ → Type 0) (R : ℕ → ℕ → Type 0) (P : ℕ → Type 0) → Tells R P → (xs ys : List EntryName) → Each (RefTo Q) ys → SameRefs R xs ys → Each (RefTo P) xs
tells_refs Q R P f [] ys z h = tt
tells_refs Q R P f (a ∷ xs) (b ∷ ys) z h = (tells_target Q R P f a b z.0 h.0, tells_refs Q R P f xs ys z.1 h.1)
tells_refs Q R P f (a ∷ xs) [] z h = absurd h

tells_attrs : (Q : ℕ → Type 0) (R : ℕ → ℕ → Type 0) (P : ℕ → Type 0) → Tells R P → (xs ys : List (Attr EntryName)) → Each (RefsOfAttr Q) ys → SameAttrs R xs ys → Each (RefsOfAttr P) xs
tells_attrs Q R P f [] ys z h = tt
tells_attrs Q R P f (a ∷ xs) (b ∷ ys) z h = (tells_refs Q R P f a.value.refs b.value.refs z.0 h.1.1, tells_attrs Q R P f xs ys z.1 h.2)
tells_attrs Q R P f (a ∷ xs) [] z h = absurd h

tells_entries : (Q : ℕ → Type 0) (R : ℕ → ℕ → Type 0) (P : ℕ → Type 0) → Tells R P → (f g : Entries EntryName) → RefsOf Q g → SameEntries R f g → RefsOf P f
tells_entries Q R P t End g z h = tt
tells_entries Q R P t (Entry d f g) (Entry e f' g') z h = (tells_attrs Q R P t d.attrs e.attrs z.0 h.0.1, tells_entries Q R P t f f' z.1 h.1, tells_entries Q R P t g g' z.2 h.2)
tells_entries Q R P t (Entry d f g) End z h = absurd h

pub tells_top : (Q : ℕ → Type 0) (R : ℕ → ℕ → Type 0) (P : ℕ → Type 0) → Tells R P → (a b : Top) → RefsOfTop Q b → SameTop R a b → RefsOfTop P a
tells_top Q R P t a b z h = (tells_attrs Q R P t a.node.attrs b.node.attrs z.0 h.2.1, tells_entries Q R P t a.below b.below z.1 h.3)
