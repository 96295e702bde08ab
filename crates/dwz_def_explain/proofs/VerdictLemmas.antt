-- There is one verdict on two tops that may move. There is at most one least chain, which leads to two tops alone, and one thing that
-- differs between these; and where no chain has fewer references than there are tops, looks of every depth find the two equal.
use Rattle.std.proofs.Common.{◌≡◌, ℕ, List, [], ◌∷◌, length, inl, inr, refl, sym, ap, subst, ◌∙◌}
use Rattle.std.specs.Prelude.{◌⊎◌}
use Rattle.dwz_def_tops.specs.Alike.{SameTop}
use Rattle.dwz_def_tops.specs.Spots.{Top, tops_of}
use Rattle.dwz_def_tops.proofs.AlikeLaws.{every_look}
use Rattle.dwz_def_tops.proofs.TopNumbers.{tops_numbers}
use Rattle.dwz_def_explain.specs.Chain.{BothLead, IsLeastChain, TellsApart, Whichever}
use Rattle.dwz_def_explain.specs.Explained.{IsExplained}
use Rattle.dwz_def_explain.specs.What.{IsWhat}
use Rattle.dwz_def_explain.specs.WhatLaws.{OneVerdictLaw, SomeVerdictLaw}
use Rattle.dwz_def_explain.specs.declared.verdict.Verdict.{Verdict}
use Rattle.dwz_def_explain.specs.declared.verdict.Verdict.TheVariants.{Alike, Differ}
use Rattle.dwz_def_explain.specs.declared.verdict.What.{What}
use Rattle.dwz_def_explain.proofs.ChainLemmas.{chain_alike, no_chain_looks, one_chain}
use Rattle.dwz_def_explain.proofs.FoundLemmas.{found}
use Rattle.dwz_def_explain.proofs.LeadLemmas.{lead_meets, lead_use}
use Rattle.dwz_def_explain.proofs.LeastLemmas.{NoneShorter, least_or_none}
use Rattle.dwz_def_explain.proofs.WhatLemmas.{one_what}

pub one_verdict : OneVerdictLaw
one_verdict units a b i j Alike Alike x y = refl
one_verdict units a b i j Alike (Differ chain what) x y = absurd ((chain_alike units a b i j x.first x.second).0 x chain y.0.tells)
one_verdict units a b i j (Differ chain what) Alike x y = absurd ((chain_alike units a b i j y.first y.second).0 y chain x.0.tells)
one_verdict units a b i j (Differ chain what) (Differ other more) x y =
    let same = one_chain (tops_of units) a b chain other x.0 y.0 in
    let there = subst (λ (w : List ℕ). BothLead (λ c d. IsWhat c d more) (tops_of units) w a b) (sym same) y.1 in
    let both = lead_meets (tops_of units) (tops_numbers units) (λ c d. IsWhat c d what) (λ c d. IsWhat c d more) chain a b x.1 there in
    let one = lead_use (tops_of units) (λ c d. IsWhat c d what × IsWhat c d more) (what ≡ more) chain a b both
    (λ c d r. one_what c d what more r.0 r.1) in
    ap (λ (w : List ℕ). Differ w what) same ∙ ap (λ (w : What). Differ other w) one

-- something differs between the tops at the end of a chain that tells two apart
what_at_end : (tops : List Top) (chain : List ℕ) (a b : Top) → TellsApart tops chain a b
    → (what : What) × BothLead (λ c d. IsWhat c d what) tops chain a b
what_at_end tops [] a b t = by (found a b) where
  by : SameTop Whichever a b ⊎ ((what : What) × IsWhat a b what) → (what : What) × IsWhat a b what
  by (inl same) = absurd (t same)
  by (inr what) = what
what_at_end tops (i ∷ chain) a b t =
    let r = what_at_end tops chain t.first t.second t.holds in (
      r.0,
      record {
        first = t.first;
        second = t.second;
        first_there = t.first_there;
        second_there = t.second_there;
        first_goes = t.first_goes;
        second_goes = t.second_goes;
        holds = r.1;
      },
    )

pub some_verdict : SomeVerdictLaw
some_verdict units a b i j p q =
    by (least_or_none (tops_of units) (tops_numbers units) (length (tops_of units)) a b) where
      by : NoneShorter (tops_of units) (length (tops_of units)) a b ⊎ ((chain : List ℕ) × IsLeastChain (tops_of units) a b chain)
          → (verdict : Verdict) × IsExplained units a b verdict
      by (inl none) =
          let deep = no_chain_looks (tops_of units) (tops_numbers units) (length (tops_of units)) a b i j none in
          (Alike, record { first = p; second = q; equal = every_look units a.number b.number p q deep })
      by (inr (chain, least)) = let what = what_at_end (tops_of units) chain a b least.tells in (Differ chain what.0, (least, what.1))
