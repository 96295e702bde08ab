-- Pieces of expressions, one after the other.
use Rattle.std.proofs.Common.{◌≡◌, ℕ, ◌+◌, ◌-◌, ◌≤◌, Bool, true, false, List, [], ◌∷◌, ◌++◌, length, map, take, drop, Option, Some, None, refl, sym, ap, ◌∙◌}
use Rattle.std.specs.Prelude.{if◌then◌else◌}
use Rattle.std.specs.List.{flat_map}
use Rattle.std.proofs.lemmas.Grind.{flat_map-append}
use Rattle.std.proofs.lemmas.List.{append-nil, append_assoc, drop_all, map-append}
use Rattle.dwz_model.specs.declared.place.Piece.{Piece}
use Rattle.dwz_model.specs.declared.place.Piece.TheVariants.{Raw, Ref as NamesPlace}
use Rattle.dwz_model.specs.declared.place.Place.{Place}
use Rattle.dwz_def_reading.specs.Documents.{Operand as OperandPart, Part, Same}
use Rattle.dwz_def_reading.specs.Exprs.{Expression, first_unnamed, parts_from, parts_of}
use Rattle.dwz_def_reading.specs.Meanings.{MeaningContext, target_of, targets}
use Rattle.dwz_def_reading.specs.Shared.{operands_of}
use Rattle.dwz_def_reading.specs.declared.exprs.Operand.{Operand}
use Rattle.dwz_graph_view.specs.PieceRows.{ArePieces}
use Rattle.dwz_graph_view.specs.UnitViews.{place_in}
use Rattle.dwz_graph_view.specs.ValueViews.{named_in, part_of}

-- ---- operand by operand

-- two more behind a list
two_more : {X : Type 0} (xs : List X) (a b : X) (ys : List X) → ((xs ++ a ∷ []) ++ b ∷ []) ++ ys ≡ xs ++ (a ∷ b ∷ ys)
two_more xs a b ys = append_assoc (xs ++ a ∷ []) (b ∷ []) ys ∙ append_assoc xs (a ∷ []) (b ∷ ys)

module _ (file : ℕ) (operands : List Operand) (k : ℕ) (out : List Piece) (o : Operand) (here : drop k operands ≡ o ∷ drop (k + 1) operands) (cut : List ℕ) (target : Place) (one two : List Piece)
    (is_one : one ≡ out ++ Raw cut ∷ []) (is_two : two ≡ one ++ NamesPlace target o.width o.uleb o.base ∷ []) where
  pub next_parts : (place : ℕ) (rest left : List ℕ) (all : List Part) → cut ≡ take (o.at - place) rest → left ≡ drop (o.at + o.width - place) rest
      → map part_of out ++ parts_from place rest (drop k operands) ≡ all → map part_of two ++ parts_from (o.at + o.width) left (drop (k + 1) operands) ≡ all
  unfolding parts_from
  next_parts place rest left all is_cut is_left so =
      let more = parts_from (o.at + o.width) left (drop (k + 1) operands) in
      let a = Same cut in
      let b = OperandPart o.width o.uleb o.base in
      let done : map part_of two ≡ (map part_of out ++ a ∷ []) ++ b ∷ []
      = ap (map part_of) is_two ∙ map-append part_of one (NamesPlace target o.width o.uleb o.base ∷ []) ∙ ap (λ (w : List Part). w ++ b ∷ []) (ap (map part_of) is_one ∙ map-append part_of out (Raw cut ∷ [])) in
      ap (λ (w : List Part). w ++ more) done ∙ two_more (map part_of out) a b more
      ∙ (λ i. map part_of out ++ (Same (is_cut i) ∷ b ∷ parts_from (o.at + o.width) (is_left i) (drop (k + 1) operands)))
      ∙ ap (λ (w : List Operand). map part_of out ++ parts_from place rest w) (sym here) ∙ so

  pub next_named : (s : MeaningContext ℕ) (all : List Place) → target ≡ place_in file (s.around.place (target_of s o)) → flat_map named_in out ++ map (place_in file) (targets s (drop k operands)) ≡ all
      → flat_map named_in two ++ map (place_in file) (targets s (drop (k + 1) operands)) ≡ all
  next_named s all at so =
      let rest = map (place_in file) (targets s (drop (k + 1) operands)) in
      let done : flat_map named_in two ≡ flat_map named_in out ++ target ∷ []
      = ap (flat_map named_in) is_two ∙ flat_map-append named_in one (NamesPlace target o.width o.uleb o.base ∷ [])
      ∙ ap (λ (w : List Place). w ++ target ∷ []) (ap (flat_map named_in) is_one ∙ flat_map-append named_in out (Raw cut ∷ []) ∙ append-nil (flat_map named_in out)) in
      ap (λ (w : List Place). w ++ rest) done ∙ append_assoc (flat_map named_in out) (target ∷ []) rest
      ∙ ap (λ (w : Place). flat_map named_in out ++ (w ∷ rest)) at
      ∙ ap (λ (w : List Operand). flat_map named_in out ++ map (place_in file) (targets s w)) (sym here) ∙ so

-- the bytes behind the last one
pub last_part : (operands : List Operand) (k : ℕ) (out one : List Piece) (place : ℕ) (rest : List ℕ) (all : List Part) → length operands ≤ k → one ≡ out ++ Raw rest ∷ []
    → map part_of out ++ parts_from place rest (drop k operands) ≡ all → map part_of one ≡ all
unfolding parts_from
last_part operands k out one place rest all le is so =
    ap (map part_of) is ∙ map-append part_of out (Raw rest ∷ [])
    ∙ ap (λ (w : List Operand). map part_of out ++ parts_from place rest w) (sym (drop_all k operands le)) ∙ so

pub last_named : (file : ℕ) (s : MeaningContext ℕ) (operands : List Operand) (k : ℕ) (out one : List Piece) (rest : List ℕ) (all : List Place) → length operands ≤ k → one ≡ out ++ Raw rest ∷ []
    → flat_map named_in out ++ map (place_in file) (targets s (drop k operands)) ≡ all → flat_map named_in one ≡ all
last_named file s operands k out one rest all le is so =
    ap (flat_map named_in) is ∙ flat_map-append named_in out (Raw rest ∷ [])
    ∙ ap (λ (w : List Operand). flat_map named_in out ++ map (place_in file) (targets s w)) (sym (drop_all k operands le)) ∙ so

-- ---- expression by expression

pub of_expr : (file : ℕ) (s : MeaningContext ℕ) (e : Expression) (at : ℕ) (bytes : List ℕ) (operands : List Operand) (o : Option (List Piece)) → at ≡ e.at → bytes ≡ e.bytes → operands ≡ e.operands
    → ArePieces file s at bytes operands o → ArePieces file s e.at e.bytes e.operands o
of_expr file s e at bytes operands o same_at same_bytes same_operands are = record {
  pieces = are.pieces;
  is = are.is;
  parts = are.parts ∙ (λ i. parts_from (same_at i) (same_bytes i) (same_operands i));
  named = are.named ∙ ap (λ (w : List Operand). map (place_in file) (targets s w)) same_operands;
}

first_of_both : (named : Operand → Bool) (a b : List Operand) → first_unnamed named (a ++ b) ≡ None → (first_unnamed named a ≡ None) × (first_unnamed named b ≡ None)
unfolding first_unnamed
first_of_both named [] b e = (refl, e)
first_of_both named (o ∷ a) b e = by (named o) e (first_of_both named a b) where
  by : (t : Bool) → (if t then first_unnamed named (a ++ b) else Some o) ≡ None
      → (first_unnamed named (a ++ b) ≡ None → (first_unnamed named a ≡ None) × (first_unnamed named b ≡ None))
      → ((if t then first_unnamed named a else Some o) ≡ None) × (first_unnamed named b ≡ None)
  by true is more = more is
  by false is more = absurd cc

-- the operands of the first, and of those behind it
pub first_expr : (named : Operand → Bool) (exprs : List Expression) (k : ℕ) (e : Expression) → drop k exprs ≡ e ∷ drop (k + 1) exprs → first_unnamed named (operands_of (drop k exprs)) ≡ None
    → (first_unnamed named e.operands ≡ None) × (first_unnamed named (operands_of (drop (k + 1) exprs)) ≡ None)
unfolding operands_of
first_expr named exprs k e here none =
    first_of_both named e.operands (operands_of (drop (k + 1) exprs)) (ap (λ (w : List Expression). first_unnamed named (operands_of w)) (sym here) ∙ none)

abbrev pub parts_in : List (List Piece) → List (List Part)
parts_in shown = map (λ (pieces : List Piece). map part_of pieces) shown

abbrev pub places_in : List (List Piece) → List Place
places_in shown = flat_map (λ (pieces : List Piece). flat_map named_in pieces) shown

module _ (exprs : List Expression) (k : ℕ) (e : Expression) (here : drop k exprs ≡ e ∷ drop (k + 1) exprs) (out new : List (List Piece)) (pieces : List Piece) (is : new ≡ out ++ pieces ∷ []) where
  pub next_expr : (all : List (List Part)) → map part_of pieces ≡ parts_of e → parts_in out ++ map parts_of (drop k exprs) ≡ all → parts_in new ++ map parts_of (drop (k + 1) exprs) ≡ all
  next_expr all parts so =
      let rest = map parts_of (drop (k + 1) exprs) in
      ap (λ (w : List (List Piece)). parts_in w ++ rest) is ∙ ap (λ (w : List (List Part)). w ++ rest) (map-append (λ (p : List Piece). map part_of p) out (pieces ∷ []))
      ∙ append_assoc (parts_in out) (map part_of pieces ∷ []) rest ∙ ap (λ (w : List Part). parts_in out ++ (w ∷ rest)) parts
      ∙ ap (λ (w : List Expression). parts_in out ++ map parts_of w) (sym here) ∙ so

  pub next_places : (file : ℕ) (s : MeaningContext ℕ) (all : List Place) → flat_map named_in pieces ≡ map (place_in file) (targets s e.operands)
      → places_in out ++ map (place_in file) (targets s (operands_of (drop k exprs))) ≡ all → places_in new ++ map (place_in file) (targets s (operands_of (drop (k + 1) exprs))) ≡ all
  unfolding operands_of
  next_places file s all named so =
      let others = operands_of (drop (k + 1) exprs) in
      let rest = map (place_in file) (targets s others) in
      let done : places_in new ≡ places_in out ++ flat_map named_in pieces
      = ap places_in is ∙ flat_map-append (λ (p : List Piece). flat_map named_in p) out (pieces ∷ []) ∙ ap (λ (w : List Place). places_in out ++ w) (append-nil (flat_map named_in pieces)) in
      let both : map (place_in file) (targets s e.operands) ++ rest ≡ map (place_in file) (targets s (e.operands ++ others))
      = sym (map-append (place_in file) (targets s e.operands) (targets s others)) ∙ ap (map (place_in file)) (sym (map-append (λ (o : Operand). s.around.place (target_of s o)) e.operands others)) in
      ap (λ (w : List Place). w ++ rest) done ∙ append_assoc (places_in out) (flat_map named_in pieces) rest
      ∙ ap (λ (w : List Place). places_in out ++ (w ++ rest)) named ∙ ap (λ (w : List Place). places_in out ++ w) both
      ∙ ap (λ (w : List Expression). places_in out ++ map (place_in file) (targets s (operands_of w))) (sym here) ∙ so

pub last_exprs : (exprs : List Expression) (k : ℕ) (out : List (List Piece)) (all : List (List Part)) → length exprs ≤ k → parts_in out ++ map parts_of (drop k exprs) ≡ all → parts_in out ≡ all
last_exprs exprs k out all le so = sym (append-nil (parts_in out)) ∙ ap (λ (w : List Expression). parts_in out ++ map parts_of w) (sym (drop_all k exprs le)) ∙ so

pub last_places : (file : ℕ) (s : MeaningContext ℕ) (exprs : List Expression) (k : ℕ) (out : List (List Piece)) (all : List Place) → length exprs ≤ k
    → places_in out ++ map (place_in file) (targets s (operands_of (drop k exprs))) ≡ all → places_in out ≡ all
unfolding operands_of
last_places file s exprs k out all le so =
    sym (append-nil (places_in out)) ∙ ap (λ (w : List Expression). places_in out ++ map (place_in file) (targets s (operands_of w))) (sym (drop_all k exprs le)) ∙ so
