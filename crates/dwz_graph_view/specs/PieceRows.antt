-- Inner: the pieces that are made of expressions.
use Rattle.std.specs.Prelude.{◌≡◌, ℕ, List, map, Option, Some}
use Rattle.std.specs.List.{flat_map}
use Rattle.dwz_model.specs.declared.place.Piece.{Piece}
use Rattle.dwz_def_reading.specs.Exprs.{Expression, parts_from, parts_of}
use Rattle.dwz_def_reading.specs.declared.exprs.Operand.{Operand}
use Rattle.dwz_def_reading.specs.Meanings.{MeaningContext, targets}
use Rattle.dwz_def_reading.specs.Shared.{operands_of}
use Rattle.dwz_graph_view.specs.UnitViews.{place_in}
use Rattle.dwz_graph_view.specs.ValueViews.{named_in, part_of}

-- those of the expression with these bytes and operands, with the places of the entries that it names
pub record ArePieces (file : ℕ) (s : MeaningContext ℕ) (at : ℕ) (bytes : List ℕ) (operands : List Operand) (o : Option (List Piece)) : Type 0 where
  pub pieces : List Piece
  pub is : o ≡ Some pieces
  pub parts : map part_of pieces ≡ parts_from at bytes operands
  pub named : flat_map named_in pieces ≡ map (place_in file) (targets s operands)

-- those of each of several
pub record AreExprs (file : ℕ) (s : MeaningContext ℕ) (exprs : List Expression) (o : Option (List (List Piece))) : Type 0 where
  pub shown : List (List Piece)
  pub is : o ≡ Some shown
  pub parts : map (λ pieces. map part_of pieces) shown ≡ map parts_of exprs
  pub named : flat_map (λ pieces. flat_map named_in pieces) shown ≡ map (place_in file) (targets s (operands_of exprs))
