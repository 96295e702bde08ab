-- Names and forms that can be declared.
use Rattle.std.proofs.Common.{◌≡◌, ◌++◌, ◌∷◌, [], List, subst, sym}
use Rattle.std.specs.Prelude.{All}
use Rattle.std.proofs.lemmas.List.Elements.{All-nil, All-push}
use Rattle.dwz_def_reading.specs.Abbrevs.{IsPlainPair}
use Rattle.dwz_model.specs.declared.place.Pair.{Pair}

pub plain_more : (room new : List Pair) (p : Pair) → new ≡ room ++ p ∷ [] → IsPlainPair p → All IsPlainPair room → All IsPlainPair new
plain_more room new p e one all = subst (All IsPlainPair) (sym e) (All-push IsPlainPair room p all one)

pub plain_none : (room : List Pair) → room ≡ [] → All IsPlainPair room
plain_none room e = subst (All IsPlainPair) (sym e) (All-nil IsPlainPair)
