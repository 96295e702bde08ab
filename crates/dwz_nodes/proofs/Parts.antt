-- The lists that ends stand for, one by one.
use Rattle.std.proofs.Common.{◌≡◌, ℕ, zero, suc, ◌+◌, ◌<◌, ◌≤◌, List, [], ◌∷◌, ◌++◌, length, get_or, refl, ap, ◌∙◌, arith}
use Rattle.std.specs.Prelude.{slice_range}
use Rattle.dwz_model.proofs.PartFacts.{range-last, range-more}
use Rattle.dwz_nodes.specs.Keys.{key_at}
use Rattle.dwz_nodes.specs.Parts.{parts_of, Rise, start_at}

pub length-parts_of : (start : ℕ) (es ws : List ℕ) → length (parts_of start es ws) ≡ length es
length-parts_of start [] ws = refl
length-parts_of start (e ∷ es) ws = ap suc (length-parts_of e es ws)

pub key_at-parts_of : (start : ℕ) (es ws : List ℕ) (i d : ℕ) → i < length es → key_at (parts_of start es ws) i ≡ slice_range ws (start_at start es i) (get_or es i d)
key_at-parts_of start [] ws i d l = absurd (omega arith)
key_at-parts_of start (e ∷ es) ws zero d l = refl
key_at-parts_of start (e ∷ es) ws (suc i) d l = key_at-parts_of e es ws i d (omega arith)

pub start_at-before : (start : ℕ) (es : List ℕ) (i : ℕ) → suc i ≤ length es → start_at start es (suc i) ≡ get_or es i 0
start_at-before start [] i l = absurd (omega arith)
start_at-before start (e ∷ es) zero l = refl
start_at-before start (e ∷ es) (suc i) l = start_at-before e es i (omega arith)

Rise-least : (start : ℕ) (es : List ℕ) (n : ℕ) → Rise start es n → start ≤ n
Rise-least start [] n r = omega arith
Rise-least start (e ∷ es) n r = let l = Rise-least e es n r.1 in let m = r.0 in omega arith

pub Rise-at : (start : ℕ) (es : List ℕ) (n i d : ℕ) → Rise start es n → i < length es → (start_at start es i ≤ get_or es i d) × (get_or es i d ≤ n)
Rise-at start [] n i d r l = absurd (omega arith)
Rise-at start (e ∷ es) n zero d r l = (r.0, Rise-least e es n r.1)
Rise-at start (e ∷ es) n (suc i) d r l = Rise-at e es n i d r.1 (omega arith)

pub Rise-push : (start : ℕ) (es : List ℕ) (n m : ℕ) → Rise start es n → n ≤ m → Rise start (es ++ m ∷ []) m
Rise-push start [] n m r l = (omega arith, refl)
Rise-push start (e ∷ es) n m r l = (r.0, Rise-push e es n m r.1 l)

pub parts_of-push : (start : ℕ) (es ts us : List ℕ) (m : ℕ) → Rise start es (length ts) → m ≡ length ts + length us → parts_of start (es ++ m ∷ []) (ts ++ us) ≡ parts_of start es ts ++ us ∷ []
parts_of-push start [] ts us m r is = ap (λ l. l ∷ []) ((λ i. slice_range (ts ++ us) (r i) (is i)) ∙ range-last ts us)
parts_of-push start (e ∷ es) ts us m r is = (λ i. range-more ts us start e (Rise-least e es (length ts) r.1) r.0 i ∷ parts_of-push e es ts us m r.1 is i)
